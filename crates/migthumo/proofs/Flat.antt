-- A flat slice read number by number is the matrix that it holds, and an output written number by number holds just these.
-- Assumes nothing.
use mathlib.Core.Path.{◌≡◌, refl, ap, ◌∙◌}
use mathlib.Core.List.{List, [], ◌∷◌, ◌++◌, append-nil}
use Prim.Native.Nat.{ℕ, suc, ◌+◌}
use native.Mathlib.Omega.{arith}
use lib.Ieee.{Float}
use lib.ListN.{length, set, drop_of_length-le}
use lib.Seq.{sets, sets-eq}
use Rattle.vector.specs.Vectors.{entry}
use Rattle.matrix.specs.Records.{new2, new3, new4}
use Rattle.bulk.specs.Moves.{flat2, flat3, flat4}
use Rattle.bulk.proofs.Groups.{read2, read3, read4, columns3, columns4}

-- ---- reading

pub read_flat2 : (l : List Float) → new2 (entry l 0) (entry l 1) (entry l 2) (entry l 3) ≡ flat2 l
unfolding flat2
read_flat2 l = rw (read2 l 0 _ refl, read2 l 2 _ refl)

pub read_flat3 : (l : List Float) → new3 (entry l 0) (entry l 1) (entry l 2) (entry l 3) (entry l 4) (entry l 5) (entry l 6) (entry l 7) (entry l 8) ≡ flat3 l
read_flat3 l = rw (read3 l 0 _ refl, read3 l 3 _ refl, read3 l 6 _ refl) (columns3 l)

pub read_flat4 : (l : List Float) → new4 (entry l 0) (entry l 1) (entry l 2) (entry l 3) (entry l 4) (entry l 5) (entry l 6) (entry l 7) (entry l 8) (entry l 9) (entry l 10) (entry l 11) (entry l 12) (entry l 13) (entry l 14) (entry l 15) ≡ flat4 l
read_flat4 l = rw (read4 l 0 _ refl, read4 l 4 _ refl, read4 l 8 _ refl, read4 l 12 _ refl) (columns4 l)

-- ---- writing

-- numbers written behind the first leave it alone
behind : {A : Type 0} (x : A) (vs l : List A) (i : ℕ) → sets (x ∷ l) (suc i) vs ≡ x ∷ sets l i vs
behind x [] l i = refl
behind x (v ∷ vs) l i = behind x vs (set l i v) (suc i)

-- as many numbers as there is room for, written from the start on, are all that is there
pub fills : {A : Type 0} (vs l : List A) → length l ≡ length vs → sets l 0 vs ≡ vs
fills {A = A} vs l same =
    sets-eq vs l 0 (omega (arith, same))
    ∙ ap (λ (rest : List A). vs ++ rest) (drop_of_length-le l {i = 0 + length vs} (omega (arith, same)))
    ∙ append-nil vs

-- and so are they where the first is written last
pub fills_last : {A : Type 0} (v : A) (vs l : List A) → length l ≡ suc (length vs) → set (sets l 1 vs) 0 v ≡ v ∷ vs
fills_last v vs [] same = absurd (omega (arith, same))
fills_last v vs (x ∷ l) same = ap (λ k. set k 0 v) (behind x vs l 0) ∙ ap (λ k. v ∷ k) (fills vs l (omega (arith, same)))
