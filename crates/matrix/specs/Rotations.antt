-- Document 01, 'Modules, leaves first', 6, and 'Rules of the arithmetic': rotations, the sine s and the cosine c handed in and not checked against each other.
-- An order 4 rotation is the order 3 one in the corner of the identity, as the text writes it out. Assumes nothing.
use Rattle.std.specs.Prelude.{Float}
use Rattle.std.specs.Float.Ieee.{neg}
use Rattle.vector.specs.Arithmetic.{◌⊕◌, ◌⊖◌, ◌⊗◌, float0, float1}
use Rattle.vector.specs.declared.Vector3.{Vector3}
use Rattle.matrix.specs.Records.{new2, new3, embed34}
use Rattle.matrix.specs.declared.records.Matrix2.{Matrix2}
use Rattle.matrix.specs.declared.records.Matrix3.{Matrix3}
use Rattle.matrix.specs.declared.records.Matrix4.{Matrix4}

-- a rotation of the plane
abbrev pub from_angle2 : Float → Float → Matrix2
from_angle2 s c =
    new2
    c s
    (neg s) c

-- around the x axis
abbrev pub from_angle_x3 : Float → Float → Matrix3
from_angle_x3 s c =
    new3
    float1 float0 float0
    float0 c s
    float0 (neg s) c

-- around the y axis
abbrev pub from_angle_y3 : Float → Float → Matrix3
from_angle_y3 s c =
    new3
    c float0 (neg s)
    float0 float1 float0
    s float0 c

-- around the z axis
abbrev pub from_angle_z3 : Float → Float → Matrix3
from_angle_z3 s c =
    new3
    c s float0
    (neg s) c float0
    float0 float0 float1

-- around an axis, which is not checked for length
abbrev pub from_axis_angle3 : Vector3 → Float → Float → Matrix3
from_axis_angle3 a s c =
    let oneSubC = float1 ⊖ c in
    new3
    (oneSubC ⊗ a.x ⊗ a.x ⊕ c) (oneSubC ⊗ a.x ⊗ a.y ⊕ s ⊗ a.z) (oneSubC ⊗ a.x ⊗ a.z ⊖ s ⊗ a.y)
    (oneSubC ⊗ a.x ⊗ a.y ⊖ s ⊗ a.z) (oneSubC ⊗ a.y ⊗ a.y ⊕ c) (oneSubC ⊗ a.y ⊗ a.z ⊕ s ⊗ a.x)
    (oneSubC ⊗ a.x ⊗ a.z ⊕ s ⊗ a.y) (oneSubC ⊗ a.y ⊗ a.z ⊖ s ⊗ a.x) (oneSubC ⊗ a.z ⊗ a.z ⊕ c)

-- the same at order 4
abbrev pub from_angle_x4 : Float → Float → Matrix4
from_angle_x4 s c = embed34 (from_angle_x3 s c)

abbrev pub from_angle_y4 : Float → Float → Matrix4
from_angle_y4 s c = embed34 (from_angle_y3 s c)

abbrev pub from_angle_z4 : Float → Float → Matrix4
from_angle_z4 s c = embed34 (from_angle_z3 s c)

abbrev pub from_axis_angle4 : Vector3 → Float → Float → Matrix4
from_axis_angle4 a s c = embed34 (from_axis_angle3 a s c)
