-- Which operations on floats with exact values are exact: negation, sum, difference and product. Over the format.
-- Assumes nothing.
use mathlib.Core.Path.{◌≡◌, sym, ap, ap₂, ◌∙◌, subst}
use mathlib.Core.Bool.{Bool, true, false, not, cond, ◌&&◌}
use Prim.Native.Nat.{ℕ, ◌+◌, ◌-◌, ◌*◌, ◌^◌, ◌≤◌, ◌<◌}
use native.Mathlib.Nat.{mul-pos, le_of_lt}
use native.Mathlib.Omega.{arith}
use lib.Dec.{T, ltb, ltb→lt, nltb→le}
use lib.IntN.{ℤ, pos, neg_ℤ, ◌+ℤ◌, ◌-ℤ◌, ◌*ℤ◌, nat_abs, +ℤ_comm, *ℤ_comm}
use lib.Pow.{pow-add}
use lib.Ieee.{Float, Format, prec, low, up, down, unlike, round, neg, sum, add, sub, mul}
use lib.Ieee.Fits.{down_pos}
use Rattle.whole.proofs.Ring.{neg_mul, *ℤ-assoc, add_mul}
use Rattle.exact.specs.Value.{Exact, exactly, signed}
use Rattle.exact.proofs.Signed.{signed_not, signed_mul, signed_scale, signed_add, signed_sub, signed_zero}
use Rattle.exact.proofs.Value.{sorted, swap_last}
use Rattle.exact.proofs.Rounding.{exact_round}

-- a negation is exact
pub exact_negation : {x : Float} {a : ℤ} {k : ℕ} → Exact x a k → Exact (neg x) (neg_ℤ a) k
unfolding neg
exact_negation (exactly {s} {m} {e} {z = a} {k = k} g) =
    exactly
    (ap (λ (w : ℤ). w *ℤ pos (2 ^ k)) (signed_not s (m * up e))
    ∙ neg_mul (signed s (m * up e)) (pos (2 ^ k))
    ∙ ap neg_ℤ g
    ∙ sym (neg_mul a (pos (down e))))

-- ---- products
-- the product of two fractions
products : (X Y a b J K E D : ℤ) → X *ℤ J ≡ a *ℤ E → Y *ℤ K ≡ b *ℤ D → (X *ℤ Y) *ℤ (J *ℤ K) ≡ (a *ℤ b) *ℤ (E *ℤ D)
products X Y a b J K E D g h = middle X Y J K ∙ ap₂ (λ (u v : ℤ). u *ℤ v) g h ∙ middle a E b D
  where
    middle : (a b c d : ℤ) → (a *ℤ b) *ℤ (c *ℤ d) ≡ (a *ℤ c) *ℤ (b *ℤ d)
    middle a b c d = simp sorted

-- a product is exact where its numerator is below 2 ^ prec
pub exact_product : (f : Format) {x y : Float} {a b : ℤ} {j k : ℕ} → Exact x a j → Exact y b k
    → nat_abs (a *ℤ b) < 2 ^ prec f → j + k ≤ low f → Exact (mul f x y) (a *ℤ b) (j + k)
unfolding mul
exact_product f (exactly {s} {m} {e} {z = a} {k = j} g) (exactly {s = t} {m = n} {e = d} {z = b} {k = k} h) small fine =
    exact_round f (unlike s t) (m * up e * (n * up d)) (down e * down d) (a *ℤ b) (mul-pos (down_pos e) (down_pos d)) small fine
    (ap₂ (λ (u v : ℤ). u *ℤ v) (signed_mul s t (m * up e) (n * up d)) (ap pos (pow-add 2 j k))
    ∙ products (signed s (m * up e)) (signed t (n * up d)) a b (pos (2 ^ j)) (pos (2 ^ k)) (pos (down e)) (pos (down d)) g h)

-- ---- sums
-- the sum of two fractions over one denominator
sums : (X Y a b K E D : ℤ) → X *ℤ K ≡ a *ℤ E → Y *ℤ K ≡ b *ℤ D → (X *ℤ D +ℤ Y *ℤ E) *ℤ K ≡ (a +ℤ b) *ℤ (E *ℤ D)
sums X Y a b K E D g h =
    add_mul (X *ℤ D) (Y *ℤ E) K
    ∙ ap₂ (λ (u v : ℤ). u +ℤ v)
    (swap_last X D K ∙ ap (λ (w : ℤ). w *ℤ D) g ∙ *ℤ-assoc a E D)
    (swap_last Y E K ∙ ap (λ (w : ℤ). w *ℤ E) h ∙ *ℤ-assoc b D E ∙ ap (λ (w : ℤ). b *ℤ w) (*ℤ_comm D E))
    ∙ sym (add_mul a b (E *ℤ D))

-- the fractions ±A / C and ±B / C, where their sum is z / 2 ^ k
module _ (f : Format) (A B C k : ℕ) (z : ℤ) (positive : 0 < C) (small : nat_abs z < 2 ^ prec f) (fine : k ≤ low f) where
  -- w / C is z / 2 ^ k
  abbrev Right : ℤ → Type 0
  Right w = w *ℤ pos (2 ^ k) ≡ z *ℤ pos C

  -- ±n / C, rounded, where it is z / 2 ^ k
  rounded : (s : Bool) (n : ℕ) (w : ℤ) → signed s n ≡ w → Right w → Exact (round f s n C) z k
  rounded s n w e h = exact_round f s n C z positive small fine (subst Right (sym e) h)

  -- unlike signs, the first magnitude the larger; a difference of 0 is positive
  first_larger : (s c : Bool) → (T (not c) → A ≤ B) → B ≤ A → Right (signed s A +ℤ signed (not s) B) → Exact (round f (s && c) (A - B) C) z k
  first_larger true true equal l h = rounded true (A - B) (signed true A +ℤ signed false B) (signed_sub true A B l) h
  first_larger true false equal l h =
      let m : A ≤ B = equal tt in
      let none : A - B ≡ 0 = omega arith in
      rounded false (A - B) (signed true A +ℤ signed false B) (ap pos none ∙ sym (signed_zero true (A - B) none) ∙ signed_sub true A B l) h
  first_larger false c equal l h = rounded false (A - B) (signed false A +ℤ signed true B) (signed_sub false A B l) h

  -- unlike signs, whichever magnitude is the larger
  unlike_signs : (s c : Bool) → (T c → A < B) → (T (not c) → B ≤ A) → Right (signed s A +ℤ signed (not s) B)
      → Exact (cond c (round f (not s) (B - A) C) (round f (s && ltb B A) (A - B) C)) z k
  unlike_signs s true less more h = rounded (not s) (B - A) (signed s A +ℤ signed (not s) B) (second_larger s) h
    where
      second_larger : (s : Bool) → signed (not s) (B - A) ≡ signed s A +ℤ signed (not s) B
      second_larger true = signed_sub false B A (le_of_lt (less tt)) ∙ +ℤ_comm (signed false B) (signed true A)
      second_larger false = signed_sub true B A (le_of_lt (less tt)) ∙ +ℤ_comm (signed true B) (signed false A)
  unlike_signs s false less more h = first_larger s (ltb B A) (nltb→le B A) (more tt) h

  -- the sum, rounded
  fraction_sum : (s t : Bool) → Right (signed s A +ℤ signed t B) → Exact (sum f s A t B C) z k
  unfolding sum
  fraction_sum true true h = rounded true (A + B) (signed true A +ℤ signed true B) (signed_add true A B) h
  fraction_sum true false h = unlike_signs true (ltb A B) (ltb→lt A B) (nltb→le A B) h
  fraction_sum false true h = unlike_signs false (ltb A B) (ltb→lt A B) (nltb→le A B) h
  fraction_sum false false h = rounded false (A + B) (signed false A +ℤ signed false B) (signed_add false A B) h

-- a sum over one power of two is exact where its numerator is below 2 ^ prec
pub exact_sum : (f : Format) {x y : Float} {a b : ℤ} {k : ℕ} → Exact x a k → Exact y b k → nat_abs (a +ℤ b) < 2 ^ prec f → k ≤ low f → Exact (add f x y) (a +ℤ b) k
unfolding add
exact_sum f (exactly {s} {m} {e} {z = a} {k = k} g) (exactly {s = t} {m = n} {e = d} {z = b} h) small fine =
    fraction_sum f (m * up e * down d) (n * up d * down e) (down e * down d) k (a +ℤ b) (mul-pos (down_pos e) (down_pos d)) small fine s t
    (ap (λ (w : ℤ). w *ℤ pos (2 ^ k)) (ap₂ (λ (u v : ℤ). u +ℤ v) (signed_scale s (m * up e) (down d)) (signed_scale t (n * up d) (down e)))
    ∙ sums (signed s (m * up e)) (signed t (n * up d)) a b (pos (2 ^ k)) (pos (down e)) (pos (down d)) g h)

-- a difference over one power of two is exact where its numerator is below 2 ^ prec
pub exact_difference : (f : Format) {x y : Float} {a b : ℤ} {k : ℕ} → Exact x a k → Exact y b k → nat_abs (a -ℤ b) < 2 ^ prec f → k ≤ low f → Exact (sub f x y) (a -ℤ b) k
unfolding sub
exact_difference f g h = exact_sum f g (exact_negation h)
