-- The test of an entry is right: it passes exactly at the whole numbers of magnitude at most the limit, -0.0 among them; and the code's comparisons decide it.
-- Assumes nothing.
use Rattle.std.proofs.Common.{◌≡◌, ℕ, ◌+◌, ◌-◌, ◌*◌, ◌/◌, ◌^◌, ◌<◌, ◌≤◌, min, Bool, true, false, cond, ◌&&◌, ◌||◌, T, eqb, ltb, leb, ◌↔◌, [], ◌∷◌, map, ℤ, pos, negsuc, nat_abs, ◌≤ℤ◌, sym, refl, subst, le_trans, le_of_eq, lt_of_lt_of_le, le_of_suc-le-suc, div-lt_iff_lt-mul, arith, lit<, lit≤, le→leb, eqb→eq, ltb→lt, lt→ltb, leb→le, le-leb}
use lib.Ieee.{Float, nan, inf, fin, binary64, up, down, level, lt, le, eq, of_int, to_signed, of_bits}
use lib.Ieee.Fits.{and_l, and_r, and_i, down_pos}
use Rattle.whole.proofs.Ring.{mul_one, abs_neg}
use Rattle.exact.specs.Value.{Exact, exactly, Whole}
use Rattle.exact.proofs.Integers.{whole_test}
use Rattle.exact.proofs.Order.{exact_at_most}
use Rattle.vector.specs.Refusals.{Outcome, given, refused, bare, refused_for}
use Rattle.vector.specs.declared.refusal.Refusal.TheVariants.{NotWhole}
use Rattle.engine.specs.Whole.{whole_number, is_whole, Floats, whole_entries, AllWhole}
use Rattle.engine.specs.Engine.{taken, TakenExactly}
use Rattle.engine.proofs.Places.{all_places_lem}

-- ---- what the test says

-- the test passes exactly at the whole numbers of magnitude at most the limit
pub whole_entry : (limit : ℕ) (x : Float) → limit < 2 ^ 53 → T (is_whole limit x) ↔ Whole limit x
unfolding is_whole
whole_entry limit x small =
    let p = leb (nat_abs (whole_number x)) limit in
    let q = eq (of_int binary64 (whole_number x)) x in
    let test = whole_test binary64 63 limit x small (lt_of_lt_of_le small (lit≤ tt)) in (
      λ t. test.1 (leb→le _ _ (and_l p q t), and_r p q t),
      λ w. and_i p q (le→leb _ _ (test.0 w).0) (test.0 w).1,
    )

-- and so at all entries below an order
pub whole_entries_lem : (limit n : ℕ) (e : Floats) → limit < 2 ^ 53 → T (whole_entries limit n e) ↔ AllWhole limit n e
unfolding whole_entries
whole_entries_lem limit n e small =
    let places = all_places_lem n (λ c r. is_whole limit (e c r)) in (
      λ t c r h l. (whole_entry limit (e c r) small).0 (places.0 t c r h l),
      λ each. places.1 (λ c r h l. (whole_entry limit (e c r) small).1 (each c r h l)),
    )

-- a test that refuses with 6 where it does not pass
six_elsewhere : (b : Bool) (S : Type 0) → T b ↔ S → let o : Outcome Unit = cond b (given tt) (refused_for NotWhole) in ((o ≡ given tt) ↔ S) × ((o ≡ refused (bare 6)) ↔ ¬ S)
six_elsewhere true S is = ((λ e. is.0 tt, λ s. refl), (λ e. let none : ◌≡◌ {A = ℕ} 0 1 = cc in absurd (omega arith), λ none. absurd (none (is.0 tt))))
six_elsewhere false S is = ((λ e. let none : ◌≡◌ {A = ℕ} 0 1 = cc in absurd (omega arith), λ s. absurd (is.1 s)), (λ e s. is.1 s, λ none. refl))

-- so refusal 6 has its plain meaning
pub taken_exactly : (limit : ℕ) → limit < 2 ^ 53 → TakenExactly limit
unfolding taken
taken_exactly limit small n e = six_elsewhere (whole_entries limit n e) (AllWhole limit n e) (whole_entries_lem limit n e small)

-- ---- what the code compares

-- 1024.0 and -1024.0
abbrev pub most : Float
most = fin false 1 (pos 10)

abbrev pub least : Float
least = fin true 1 (pos 10)

-- the two comparisons pass
abbrev pub Between : Float → Type 0
Between x = T (le least x) × T (le x most)

-- less or equal, by the two tests
less_or_equal : (a b : ℕ) (p q : Bool) → (T p → a < b) → (T q → a ≡ b) → T (p || q) → a ≤ b
less_or_equal a b true q less equal t = let l : a < b = less tt in omega arith
less_or_equal a b false q less equal t = let e : a ≡ b = equal t in omega arith

-- the first of two tests passes
first_passes : (p q : Bool) → T p → T (p || q)
first_passes true q t = tt
first_passes false q t = absurd t

-- what holds between the two
pub record Reached (x : Float) : Type 0 where
  pub cut : nat_abs (whole_number x) ≤ 1024
  pub above : T (le (fin true 1 (pos 63)) x)
  pub under : T (lt x (fin false 1 (pos 63)))

-- the quotient of a number that is at most 1024 times the divisor
quotient : (n d : ℕ) → 0 < d → n ≤ 1024 * d → n / d ≤ 1024
quotient n d positive h = le_of_suc-le-suc ((div-lt_iff_lt-mul positive).1 (omega arith))

-- a magnitude that is at most 1024
magnitude : (n d c : ℕ) → 0 < d → n ≤ 1024 * d → min (n / d) c ≤ 1024
magnitude n d c positive h = let q : n / d ≤ 1024 = quotient n d positive h in omega arith

-- a float between the two is cut to a whole number between the two, and can be cut
pub reached : (x : Float) → Between x → Reached x
unfolding le lt eq to_signed
reached nan h = absurd h.0
reached (inf true) h = absurd h.0
reached (inf false) h = absurd h.1
reached (fin false m e) h =
    let n = m * up e in
    let D = down e in
    let positive : 0 < D = down_pos e in
    let b : n * 1 ≤ 1024 * D = less_or_equal (n * 1) (1024 * D) (ltb (n * 1) (1024 * D)) (eqb (n * 1) (1024 * D) && true) (ltb→lt (n * 1) (1024 * D)) (λ t. eqb→eq (n * 1) (1024 * D) (and_l (eqb (n * 1) (1024 * D)) true t)) h.1 in
    record {
      cut = magnitude n D (2 ^ 63 - 1) positive (omega arith);
      above = first_passes (ltb 0 (9223372036854775808 * D + n * 1)) (level true (9223372036854775808 * D) false (n * 1)) (lt→ltb 0 (9223372036854775808 * D + n * 1) (omega arith));
      under = lt→ltb (n * 1) (9223372036854775808 * D) (omega arith);
    }
reached (fin true m e) h =
    let n = m * up e in
    let D = down e in
    let positive : 0 < D = down_pos e in
    let b : n * 1 ≤ 1024 * D = less_or_equal (n * 1) (1024 * D) (ltb (n * 1) (1024 * D)) (eqb (1024 * D) (n * 1) && true) (ltb→lt (n * 1) (1024 * D)) (λ t. sym (eqb→eq (1024 * D) (n * 1) (and_l (eqb (1024 * D) (n * 1)) true t))) h.0 in
    record {
      cut = le_trans (le_of_eq (abs_neg (pos (min (n / D) (2 ^ 63))))) (magnitude n D (2 ^ 63) positive (omega arith));
      above = first_passes (ltb (n * 1) (9223372036854775808 * D)) (level true (9223372036854775808 * D) true (n * 1)) (lt→ltb (n * 1) (9223372036854775808 * D) (omega arith));
      under = lt→ltb 0 (n * 1 + 9223372036854775808 * D) (omega arith);
    }

-- a number of magnitude at most 1024 is from -1024 to 1024
from_least : (z : ℤ) → nat_abs z ≤ 1024 → negsuc 1023 ≤ℤ z
from_least (pos n) h = record { le = tt }
from_least (negsuc n) h = record { le = le→leb n 1023 (le_of_suc-le-suc h) }

to_most : (z : ℤ) → nat_abs z ≤ 1024 → z ≤ℤ pos 1024
to_most (pos n) h = record { le = le→leb n 1024 h }
to_most (negsuc n) h = record { le = tt }

-- the values of the two
exact_most : Exact most (pos 1024) 0
exact_most = exactly refl

exact_least : Exact least (negsuc 1023) 0
exact_least = exactly refl

-- a whole number of magnitude at most 1024 is between the two
pub whole_between : (x : Float) → Whole 1024 x → Between x
whole_between x w =
    let z = w.number in
    let one = mul_one z in (
      (exact_at_most exact_least w.exact).1 (subst (λ (v : ℤ). negsuc 1023 ≤ℤ v) (sym one) (from_least z w.within)),
      (exact_at_most w.exact exact_most).1 (subst (λ (v : ℤ). v ≤ℤ pos 1024) (sym one) (to_most z w.within)),
    )

-- ---- the test's answer by what the code compares

-- between the two, equality with the whole number decides
pub decided : (x : Float) → Between x → eq (of_int binary64 (whole_number x)) x ≡ is_whole 1024 x
unfolding is_whole
decided x h = rw (le-leb (nat_abs (whole_number x)) 1024 (reached x h).cut)

-- elsewhere the test does not pass
pub outside : (x : Float) → (Between x → ⊥) → false ≡ is_whole 1024 x
outside x none = by_test (is_whole 1024 x) (λ t. none (whole_between x ((whole_entry 1024 x (lit< tt)).0 t)))
  where
    by_test : (b : Bool) → (T b → ⊥) → false ≡ b
    by_test true h = absurd (h tt)
    by_test false h = refl

-- an entry that is taken can be cut
pub taken_reached : (x : Float) → T (is_whole 1024 x) → Reached x
taken_reached x t = reached x (whole_between x ((whole_entry 1024 x (lit< tt)).0 t))

pub cut_above : (x : Float) → is_whole 1024 x ≡ true → T (le (fin true 1 (pos 63)) x)
cut_above x passed = (taken_reached x (subst T (sym passed) tt)).above

pub cut_under : (x : Float) → is_whole 1024 x ≡ true → T (lt x (fin false 1 (pos 63)))
cut_under x passed = (taken_reached x (subst T (sym passed) tt)).under

-- ---- both sides of each edge

-- 1024, -1024, 0.0 and -0.0 are taken
pub edges_taken : map (is_whole 1024) (of_bits binary64 0x4090_0000_0000_0000 ∷ of_bits binary64 0xc090_0000_0000_0000 ∷ of_bits binary64 0 ∷ of_bits binary64 0x8000_0000_0000_0000 ∷ []) ≡ true ∷ true ∷ true ∷ true ∷ []
unfolding is_whole to_signed of_int of_bits eq
edges_taken = refl

-- 1025, -1025, 0.5, the infinities and NaN are refused
pub edges_refused : map (is_whole 1024) (of_bits binary64 0x4090_0400_0000_0000 ∷ of_bits binary64 0xc090_0400_0000_0000 ∷ of_bits binary64 0x3fe0_0000_0000_0000 ∷ inf false ∷ inf true ∷ nan ∷ []) ≡ false ∷ false ∷ false ∷ false ∷ false ∷ false ∷ []
unfolding is_whole to_signed of_int of_bits eq
edges_refused = refl
