-- Any two outcomes that a promise allows are equal: each public function of this crate, over its own promise.
-- A generic function's stands for every matrix that it takes, and again at each of the three orders. Assumes nothing.
use Rattle.std.proofs.Common.{sym, ◌∙◌}
use Rattle.vector.proofs.Answers.{outcome_one}
use Rattle.vector.proofs.Decided.{Decided, value, meaning}
use Rattle.vector.specs.contracts.Vector2
use Rattle.vector.specs.contracts.Vector3
use Rattle.vector.specs.contracts.Vector4
use Rattle.matrix.specs.contracts.records.Matrix2
use Rattle.matrix.specs.contracts.records.Matrix3
use Rattle.matrix.specs.contracts.records.Matrix4
use Rattle.matrix.specs.contracts.square.Matrix2SquareMatrix.TheImpl as matrix2
use Rattle.matrix.specs.contracts.square.Matrix3SquareMatrix.TheImpl as matrix3
use Rattle.matrix.specs.contracts.square.Matrix4SquareMatrix.TheImpl as matrix4
use Rattle.engine.specs.contracts.square.Matrix2Square.TheImpl as square2
use Rattle.engine.specs.contracts.square.Matrix3Square.TheImpl as square3
use Rattle.engine.specs.contracts.square.Matrix4Square.TheImpl as square4
use Rattle.engine.proofs.square.Matrix2Square
use Rattle.engine.proofs.square.Matrix3Square
use Rattle.engine.proofs.square.Matrix4Square
use Rattle.engine.proofs.sum
use Rattle.engine.proofs.verdict
use Rattle.engine.proofs.cofactors

pub signed_sum_lem : (T U L M C D S d Q e V f K g W h X i Y j : _) → Decided (sum.signed_sum.Reads.Learnt T U L M C D S d Q e V f K g W h X i Y j)
signed_sum_lem T U L M C D S d Q e V f K g W h X i Y j = meaning outcome_one

pub signed_sum2_lem : (L M C D d e V f K g W h X i Y j : _) → Decided (sum.signed_sum.Reads.Learnt Matrix2.the_row Vector2.the_row L M C D square2.ghosts d matrix2.ghosts e V f K g W h X i Y j)
signed_sum2_lem L M C D d e V f K g W h X i Y j = meaning outcome_one

pub signed_sum3 : (L M C D d e V f K g W h X i Y j : _) → Decided (sum.signed_sum.Reads.Learnt Matrix3.the_row Vector3.the_row L M C D square3.ghosts d matrix3.ghosts e V f K g W h X i Y j)
signed_sum3 L M C D d e V f K g W h X i Y j = meaning outcome_one

pub signed_sum4 : (L M C D d e V f K g W h X i Y j : _) → Decided (sum.signed_sum.Reads.Learnt Matrix4.the_row Vector4.the_row L M C D square4.ghosts d matrix4.ghosts e V f K g W h X i Y j)
signed_sum4 L M C D d e V f K g W h X i Y j = meaning outcome_one

pub undoable : (T U L M C D S d Q e V f K g W h X i Y j : _) → Decided (verdict.undoable.Reads.Learnt T U L M C D S d Q e V f K g W h X i Y j)
undoable T U L M C D S d Q e V f K g W h X i Y j = meaning outcome_one

pub undoable2 : (L M C D d e V f K g W h X i Y j : _) → Decided (verdict.undoable.Reads.Learnt Matrix2.the_row Vector2.the_row L M C D square2.ghosts d matrix2.ghosts e V f K g W h X i Y j)
undoable2 L M C D d e V f K g W h X i Y j = meaning outcome_one

pub undoable3 : (L M C D d e V f K g W h X i Y j : _) → Decided (verdict.undoable.Reads.Learnt Matrix3.the_row Vector3.the_row L M C D square3.ghosts d matrix3.ghosts e V f K g W h X i Y j)
undoable3 L M C D d e V f K g W h X i Y j = meaning outcome_one

pub undoable4 : (L M C D d e V f K g W h X i Y j : _) → Decided (verdict.undoable.Reads.Learnt Matrix4.the_row Vector4.the_row L M C D square4.ghosts d matrix4.ghosts e V f K g W h X i Y j)
undoable4 L M C D d e V f K g W h X i Y j = meaning outcome_one

pub one_bit : Decided verdict.one_bit.Reads.Learnt
one_bit = value

pub magnitude : Decided verdict.magnitude.Reads.Learnt
magnitude = value

pub cofactor : (T U L M C D S d Q e V f K g W h X i Y j : _) → Decided (cofactors.cofactor.Reads.Learnt T U L M C D S d Q e V f K g W h X i Y j)
cofactor T U L M C D S d Q e V f K g W h X i Y j = meaning outcome_one

pub cofactor2 : (L M C D d e V f K g W h X i Y j : _) → Decided (cofactors.cofactor.Reads.Learnt Matrix2.the_row Vector2.the_row L M C D square2.ghosts d matrix2.ghosts e V f K g W h X i Y j)
cofactor2 L M C D d e V f K g W h X i Y j = meaning outcome_one

pub cofactor3 : (L M C D d e V f K g W h X i Y j : _) → Decided (cofactors.cofactor.Reads.Learnt Matrix3.the_row Vector3.the_row L M C D square3.ghosts d matrix3.ghosts e V f K g W h X i Y j)
cofactor3 L M C D d e V f K g W h X i Y j = meaning outcome_one

pub cofactor4 : (L M C D d e V f K g W h X i Y j : _) → Decided (cofactors.cofactor.Reads.Learnt Matrix4.the_row Vector4.the_row L M C D square4.ghosts d matrix4.ghosts e V f K g W h X i Y j)
cofactor4 L M C D d e V f K g W h X i Y j = meaning outcome_one

-- ---- square.rt, at each record

pub matrix2_cornered : Decided Matrix2Square.cornered.Reads.Learnt
matrix2_cornered = record { decided = λ κ a x y s t p q. p.0 ∙ sym q.0 }

pub matrix3_cornered : Decided Matrix3Square.cornered.Reads.Learnt
matrix3_cornered = record { decided = λ κ a x y s t p q. p.0 ∙ sym q.0 }

pub matrix4_cornered : Decided Matrix4Square.cornered.Reads.Learnt
matrix4_cornered = record { decided = λ κ a x y s t p q. p.0 ∙ sym q.0 }
