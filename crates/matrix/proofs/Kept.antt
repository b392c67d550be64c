-- A vector without its element n: what `truncate_n` gives, or the first three entries where it refuses. Assumes nothing.
use mathlib.Core.Path.{◌≡◌, refl}
use Prim.Native.Nat.{ℕ, zero, suc}
use native.Mathlib.Omega.{arith}
use Rattle.std.specs.Prelude.{Result, Ok, Err}
use Rattle.std.specs.Result.{result_unwrap_or}
use Rattle.vector.specs.declared.refusal.Place.TheVariants.{First}
use Rattle.vector.specs.declared.refusal.Refusal.{Refusal}
use Rattle.vector.specs.declared.refusal.Refusal.TheVariants.{Row}
use Rattle.vector.specs.declared.Vector3.{Vector3}
use Rattle.vector.specs.declared.Vector4.{Vector4}
use Rattle.vector.specs.Refusals.{Outcome, given, refused, outcome, after, below_limit}
use Rattle.vector.specs.Vectors.{vector3, entries4, of_entries3, without, truncate_n4}
use Rattle.matrix.specs.Records.{matrix3}
use Rattle.matrix.specs.Inverse.{without_place}
use Rattle.matrix.specs.declared.records.Matrix4.{Matrix4}

-- what is given behind a check is what was to be given
given_after : {A : Type 0} (check : Outcome Unit) (u v : A) → given u ≡ after check (given v) → u ≡ v
given_after (given t) u v e = cc
given_after (refused why) u v e = let none : ◌≡◌ {A = ℕ} 0 1 = cc in absurd (omega arith)

refused_none : {A : Type 0} {R : Type 0} {u : R} (r : Refusal) → outcome {A = R} (Err r) ≡ given u → A
refused_none r e = let none : ◌≡◌ {A = ℕ} 0 1 = cc in absurd (omega arith)

pub unwrapped : (v : Vector4) (n : ℕ) (answer : Result Vector3 Refusal) → outcome answer ≡ truncate_n4 v n → result_unwrap_or answer (vector3 v.x v.y v.z) ≡ of_entries3 (without n (entries4 v))
unfolding below_limit
unwrapped v n (Ok u) e = given_after (below_limit (Row First) 4 n) u (of_entries3 (without n (entries4 v))) e
unwrapped v zero (Err r) e = refused_none r e
unwrapped v (suc zero) (Err r) e = refused_none r e
unwrapped v (suc (suc zero)) (Err r) e = refused_none r e
unwrapped v (suc (suc (suc zero))) (Err r) e = refused_none r e
unwrapped v (suc (suc (suc (suc m)))) (Err r) e = refl

-- from the third column on, the first three stay
pub last_left : (t : Matrix4) (i j : ℕ) → (i ≡ 0 → ⊥) → (i ≡ 1 → ⊥) → (i ≡ 2 → ⊥)
    → matrix3 (of_entries3 (without j (entries4 t.x))) (of_entries3 (without j (entries4 t.y))) (of_entries3 (without j (entries4 t.z))) ≡ without_place t i j
last_left t zero j zeroth first second = absurd (zeroth refl)
last_left t (suc zero) j zeroth first second = absurd (first refl)
last_left t (suc (suc zero)) j zeroth first second = absurd (second refl)
last_left t (suc (suc (suc zero))) j zeroth first second = refl
last_left t (suc (suc (suc (suc m)))) j zeroth first second = refl
