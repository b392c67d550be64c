-- Floats that hold a given matrix of whole numbers: they are taken, and what demand 3 says of their own numbers it says of the given ones.
-- Assumes nothing.
use Rattle.std.proofs.Common.{◌≡◌, ℕ, ◌^◌, ◌<◌, T, nat_abs, ap, ◌∙◌, subst₂, lt_of_lt_of_le, lt_of_le_of_lt, lit≤}
use Rattle.whole.specs.Matrix.{Matrix}
use Rattle.whole.specs.Order.{exact_signed_sum}
use Rattle.whole.proofs.Expansion.{signed_sum_ext}
use Rattle.exact.proofs.Integers.{exact_truncation}
use Rattle.engine.specs.Whole.{Floats, whole_entries, numbers}
use Rattle.engine.specs.Engine.{is_one_bit}
use Rattle.engine.specs.Demand.{Port, ExactFraction, HasExactInverse, Demand}
use Rattle.engine.proofs.Taken.{whole_entries_lem}
use Rattle.engine.proofs.Outcomes.{cofactor_ext}
use Rattle.engine.proofs.Bits.{one_bit}
use Rattle.engine.proofs.Readings.{Holds}

-- floats that hold w below the order n, within the limit
module _ (limit n : ℕ) (e : Floats) (w : Matrix) (small : limit < 2 ^ 53) (holds : Holds n limit e w) where
  -- they are taken
  pub taken_held : T (whole_entries limit n e)
  taken_held = (whole_entries_lem limit n e small).1 (λ c r h l. let known = holds c r h l in record { number = w c r; exact = known.exact; within = known.within })

  -- their numbers are w
  pub numbers_held : (c r : ℕ) → c < n → r < n → numbers e c r ≡ w c r
  numbers_held c r h l = let known = holds c r h l in exact_truncation 63 known.exact (lt_of_le_of_lt known.within (lt_of_lt_of_le small (lit≤ tt)))

  -- and so is their sum
  pub sum_held : exact_signed_sum n (numbers e) ≡ exact_signed_sum n w
  sum_held = signed_sum_ext n (numbers e) w numbers_held

-- where one bit of the sum of w is set, a matrix that holds w has an inverse, which undoes it and is the exact inverse of w
pub where_held : (p : Port) (limit vectors : ℕ) → Demand p limit vectors → 0 < p.order → limit < 2 ^ 53 → (m : p.Matrix) (w : Matrix) → Holds p.order limit (p.entries m) w → T (is_one_bit (nat_abs (exact_signed_sum p.order w))) → HasExactInverse p vectors w m
where_held p limit vectors d some small m w holds bit =
    let n = p.order in
    let e = p.entries m in
    let sum = sum_held limit n e w small holds in
    let power = (one_bit (nat_abs (exact_signed_sum n w))).0 bit in
    let found = d.where_undoable m ((d.undoable_exactly m).1 (taken_held limit n e w small holds, (power.0, ap nat_abs sum ∙ power.1))) in
    (found.0, found.1, found.2, λ c r h l. subst₂ (ExactFraction (p.entries found.0 c r)) (cofactor_ext n some (numbers e) w (numbers_held limit n e w small holds) r c l h) sum (found.3 c r h l))
