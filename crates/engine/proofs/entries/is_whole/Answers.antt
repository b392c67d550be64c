-- Between -1024 and 1024 the float's own whole number decides, and elsewhere it is not taken. Assumes nothing.
use Rattle.std.proofs.Common.{◌≡◌, Bool, true, false, T, sym, ◌∙◌, subst}
use lib.Ieee.{of_bits, neg}
use Rattle.engine.proofs.Signed.{back}
use Rattle.engine.proofs.Taken.{reached, decided, outside}
use Rattle.engine.proofs.entries.is_whole.Goals.{then-x, else-x}
use Rattle.engine.proofs.entries.is_whole.Goals as goal

-- a test that was taken passes, and one that was left does not
yes : {b : Bool} → b ≡ true → T b
yes h = subst T (sym h) tt

no : {b : Bool} → b ≡ false → T b → ⊥
no h t = subst T h t

pub truncating_f64_to_i64-requires : goal.truncating_f64_to_i64-requires
unfolding of_bits neg
truncating_f64_to_i64-requires c =
    elim c.if-x.branch [
      | then-x w ↦ let r = reached _ (yes w.if-x.true, yes (sym w.value-is ∙ c.if-x-2.true)) in record { lower_bound = r.above; upper_bound = r.under }
      | else-x w ↦ absurd (no (w.value-is ∙ w.if-x.false) (yes c.if-x-2.true))
    ]

pub returns-then-x-2 : goal.returns-then-x-2
unfolding of_bits neg
returns-then-x-2 c =
    elim c.if-x.branch [
      | then-x w ↦ rw (c.nearest_i64_to_f64.ensures, back _ c.truncating_f64_to_i64.type_inv, c.truncating_f64_to_i64.ensures) (decided _ (yes w.if-x.true, yes (sym w.value-is ∙ c.if-x-2.true)))
      | else-x w ↦ absurd (no (w.value-is ∙ w.if-x.false) (yes c.if-x-2.true))
    ]

pub returns-else-x-2 : goal.returns-else-x-2
unfolding of_bits neg
returns-else-x-2 c =
    c.if-x-2.false
    ∙ outside _ (λ b. elim c.if-x.branch [
      | then-x w ↦ no (sym w.value-is ∙ c.if-x-2.false) b.1
      | else-x w ↦ no w.if-x.false b.0
    ])
