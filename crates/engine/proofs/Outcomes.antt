-- From what the callees answered to the engine's outcomes: the check of the entries, the whole numbers of an array, and matrices of order 2 and 3 in the corner of the identity.
-- Assumes nothing.
use Rattle.std.proofs.Common.{◌≡◌, ℕ, zero, suc, ◌-◌, ◌<◌, ◌≤◌, true, false, T, List, [], map, get_or, ℤ, pos, nat_abs, sym, ap, ◌∙◌, subst, le_of_suc-le-suc, lt_irrefl, arith}
use mathlib.Core.Path.{fun_ext}
use lib.ListN.{get_or-map}
use lib.Ieee.{Float, nan, to_signed}
use Rattle.vector.specs.Refusals.{given, refused_for}
use Rattle.vector.specs.declared.refusal.Refusal.TheVariants.{NotWhole}
use Rattle.matrix.specs.Records.{array4}
use Rattle.matrix.specs.Places.{at}
use Rattle.matrix.specs.declared.records.Matrix4.{Matrix4}
use Rattle.whole.specs.Matrix.{Matrix}
use Rattle.whole.specs.Order.{exact_signed_sum}
use Rattle.whole.proofs.Expansion.{signed_sum_ext, cofactor_ext as expansion_cofactor_ext}
use Rattle.engine.specs.Whole.{whole_number, is_whole, Floats, whole_entries, numbers, floats4, wholes, Small, Alike}
use Rattle.engine.specs.Engine.{taken, cofactor_of}
use Rattle.engine.proofs.Places.{all_places_lem}
use Rattle.engine.proofs.Taken.{taken_reached}

-- ---- the check

-- where every entry is taken the check passes
pub taken_yes : (limit n : ℕ) (e : Floats) → whole_entries limit n e ≡ true → taken limit n e ≡ given tt
unfolding taken
taken_yes limit n e h = rw h

-- and where one is not it is refused
pub taken_no : (limit n : ℕ) (e : Floats) → whole_entries limit n e ≡ false → taken limit n e ≡ refused_for NotWhole
unfolding taken
taken_no limit n e h = rw h

-- ---- the whole numbers of an array

-- they are the whole numbers of its entries
pub array_numbers : (a : List (List Float)) → wholes (map (map whole_number) a) ≡ numbers (at a)
unfolding to_signed
array_numbers a =
    fun_ext (λ c. fun_ext (λ r. ap (λ (l : List ℤ). get_or l r (pos 0)) (get_or-map (map whole_number) a c []) ∙ get_or-map whole_number (get_or a c []) r nan))

-- they are small where every entry is taken
pub numbers_small : (m : Matrix4) → whole_entries 1024 4 (floats4 m) ≡ true → Small 4 (wholes (map (map whole_number) (array4 m)))
unfolding whole_entries
numbers_small m all c r h l =
    subst (λ (w : Matrix). nat_abs (w c r) ≤ 1024) (sym (array_numbers (array4 m)))
    (taken_reached (floats4 m c r) ((all_places_lem 4 (λ c r. is_whole 1024 (floats4 m c r))).0 (subst T (sym all) tt) c r h l)).cut

-- ---- matrices that are alike below the order

-- they have the same signed sum
pub same_sum : (n : ℕ) (m w : Matrix) → Alike n m w → exact_signed_sum n m ≡ exact_signed_sum n w
same_sum = signed_sum_ext

-- and the same cofactors
pub cofactor_ext : (n : ℕ) → 0 < n → (m w : Matrix) → ((c r : ℕ) → c < n → r < n → m c r ≡ w c r) → (c r : ℕ) → c < n → r < n → cofactor_of n m c r ≡ cofactor_of n w c r
cofactor_ext zero some m w same c r h l = absurd (lt_irrefl 0 some)
cofactor_ext (suc n) some m w same c r h l =
    let less : suc n - 1 ≡ n = omega arith in
    rw less (expansion_cofactor_ext n m w same c r (le_of_suc-le-suc h) (le_of_suc-le-suc l))
