-- Document 01, 'Modules, leaves first', 1, and 'Rules of the arithmetic': vectors of two, three and four numbers.
-- Each operation as the document writes it, over one map and one zip for each length. A comment holds for the lengths below it. Assumes nothing.
use Rattle.std.specs.Prelude.{ℕ, suc, List, [], ◌∷◌, ◌++◌, get_or, take, drop, Float}
use Rattle.std.specs.Float.{nan}
use Rattle.vector.specs.Arithmetic.{◌⊕◌, ◌⊖◌, ◌⊗◌, ◌⊘◌}
use Rattle.vector.specs.Refusals.{Outcome, given, after, below_limit}
use Rattle.vector.specs.declared.refusal.Place.TheVariants.{First}
use Rattle.vector.specs.declared.refusal.Refusal.TheVariants.{Row}
use Rattle.vector.specs.declared.Vector2.{Vector2}
use Rattle.vector.specs.declared.Vector3.{Vector3}
use Rattle.vector.specs.declared.Vector4.{Vector4}

-- ---- the records

-- the vector of these numbers
abbrev pub vector2 : Float → Float → Vector2
vector2 a b = record { x = a; y = b }

abbrev pub vector3 : Float → Float → Float → Vector3
vector3 a b c = record { x = a; y = b; z = c }

abbrev pub vector4 : Float → Float → Float → Float → Vector4
vector4 a b c d = record { x = a; y = b; z = c; w = d }

-- the entries as a list, in their order
abbrev pub entries2 : Vector2 → List Float
entries2 v = v.x ∷ v.y ∷ []

abbrev pub entries3 : Vector3 → List Float
entries3 v = v.x ∷ v.y ∷ v.z ∷ []

abbrev pub entries4 : Vector4 → List Float
entries4 v = v.x ∷ v.y ∷ v.z ∷ v.w ∷ []

-- the entry of a list at place i; past its end a NaN stands, which no outcome shows
abbrev pub entry : List Float → ℕ → Float
entry l i = get_or l i nan

-- the vector of a list's first entries
abbrev pub of_entries2 : List Float → Vector2
of_entries2 l = vector2 (entry l 0) (entry l 1)

abbrev pub of_entries3 : List Float → Vector3
of_entries3 l = vector3 (entry l 0) (entry l 1) (entry l 2)

abbrev pub of_entries4 : List Float → Vector4
of_entries4 l = vector4 (entry l 0) (entry l 1) (entry l 2) (entry l 3)

-- ---- entry by entry

-- an operation on each entry
abbrev pub map2 : (Float → Float) → Vector2 → Vector2
map2 f v = vector2 (f v.x) (f v.y)

abbrev pub map3 : (Float → Float) → Vector3 → Vector3
map3 f v = vector3 (f v.x) (f v.y) (f v.z)

abbrev pub map4 : (Float → Float) → Vector4 → Vector4
map4 f v = vector4 (f v.x) (f v.y) (f v.z) (f v.w)

-- an operation on the entries of two vectors that stand in one place
abbrev pub zip2 : (Float → Float → Float) → Vector2 → Vector2 → Vector2
zip2 f u v = vector2 (f u.x v.x) (f u.y v.y)

abbrev pub zip3 : (Float → Float → Float) → Vector3 → Vector3 → Vector3
zip3 f u v = vector3 (f u.x v.x) (f u.y v.y) (f u.z v.z)

abbrev pub zip4 : (Float → Float → Float) → Vector4 → Vector4 → Vector4
zip4 f u v = vector4 (f u.x v.x) (f u.y v.y) (f u.z v.z) (f u.w v.w)

-- the sum
abbrev pub add2 : Vector2 → Vector2 → Vector2
add2 = zip2 ◌⊕◌

abbrev pub add3 : Vector3 → Vector3 → Vector3
add3 = zip3 ◌⊕◌

abbrev pub add4 : Vector4 → Vector4 → Vector4
add4 = zip4 ◌⊕◌

-- the difference
abbrev pub sub2 : Vector2 → Vector2 → Vector2
sub2 = zip2 ◌⊖◌

abbrev pub sub3 : Vector3 → Vector3 → Vector3
sub3 = zip3 ◌⊖◌

abbrev pub sub4 : Vector4 → Vector4 → Vector4
sub4 = zip4 ◌⊖◌

-- the scalar, on the left, times the vector
abbrev pub scalar_mul2 : Float → Vector2 → Vector2
scalar_mul2 s = map2 (λ e. s ⊗ e)

abbrev pub scalar_mul3 : Float → Vector3 → Vector3
scalar_mul3 s = map3 (λ e. s ⊗ e)

abbrev pub scalar_mul4 : Float → Vector4 → Vector4
scalar_mul4 s = map4 (λ e. s ⊗ e)

-- the vector divided by the scalar
abbrev pub div_scalar3 : Vector3 → Float → Vector3
div_scalar3 v s = map3 (λ e. e ⊘ s) v

-- ---- dot and cross

-- the dot: products entry by entry, summed x+y, x+(y+z), x+(y+(z+w))
abbrev pub dot2 : Vector2 → Vector2 → Float
dot2 u v = u.x ⊗ v.x ⊕ u.y ⊗ v.y

abbrev pub dot3 : Vector3 → Vector3 → Float
dot3 u v = u.x ⊗ v.x ⊕ (u.y ⊗ v.y ⊕ u.z ⊗ v.z)

abbrev pub dot4 : Vector4 → Vector4 → Float
dot4 u v = u.x ⊗ v.x ⊕ (u.y ⊗ v.y ⊕ (u.z ⊗ v.z ⊕ u.w ⊗ v.w))

-- the cross: (a.y·b.z − a.z·b.y, a.z·b.x − a.x·b.z, a.x·b.y − a.y·b.x)
abbrev pub cross3 : Vector3 → Vector3 → Vector3
cross3 a b =
    vector3
    (a.y ⊗ b.z ⊖ a.z ⊗ b.y)
    (a.z ⊗ b.x ⊖ a.x ⊗ b.z)
    (a.x ⊗ b.y ⊖ a.y ⊗ b.x)

-- ---- an element dropped

-- a list without its element n
abbrev pub without : {A : Type 0} → ℕ → List A → List A
without n l = take n l ++ drop (suc n) l

-- four entries without element n, the three left in order; refusal 12, first, unless n is below four (document 02, No. 1)
abbrev pub truncate_n4 : Vector4 → ℕ → Outcome Vector3
truncate_n4 v n = after (below_limit (Row First) 4 n) (given (of_entries3 (without n (entries4 v))))
