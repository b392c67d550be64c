-- One turn of the sum's loop, as the code computes it: the term of row i is made and added, and nothing wraps.
-- Assumes nothing.
use Rattle.std.proofs.Common.{◌≡◌, ℕ, suc, ◌^◌, ◌<◌, ◌≤◌, take, ℤ, ◌+ℤ◌, ◌*ℤ◌, sym, ap, ◌∙◌, subst, ap₂, le_trans, lit<, w64, SFits, to_z, of_z}
use lib.Signed.{mag}
use Rattle.whole.specs.Matrix.{Matrix}
use Rattle.whole.specs.Order.{down_rows}
use Rattle.whole.specs.Claim.{factorial, part, table_sum}
use Rattle.engine.specs.declared.orders.Order.{Order}
use Rattle.engine.specs.Orders.{order_at, table}
use Rattle.engine.specs.Whole.{Small}
use Rattle.engine.proofs.Signed.{back, small_fits, small_back}
use Rattle.engine.proofs.Table.{few_rows, partial_le, term, sign_le, term_le, one_more}

-- a matrix with small entries below the order n, and row i of the table with its product down the rows, as they were answered
module _ (n : ℕ) (few : n ≤ 4) (m : Matrix) (small : Small n m) (i : ℕ) (inside : i < factorial n)
    (o : Order) (is : o ≡ order_at i) (down : ℤ) (down_is : down ≡ down_rows m (take n o.0)) (down-range : mag down < 2 ^ 63) where
  -- the term, as the code multiplies
  abbrev pub made : ℤ
  made = to_z w64 (of_z w64 o.1) *ℤ to_z w64 (of_z w64 down)

  -- it is the row's term
  made_is : made ≡ term n few m small i inside
  made_is = ap₂ (λ (x y : ℤ). x *ℤ y) (ap (λ (o : Order). to_z w64 (of_z w64 o.1)) is ∙ small_back (order_at i).1 (sign_le n few m small i inside) (lit< tt)) (back down down-range ∙ down_is ∙ ap (λ (o : Order). down_rows m (take n o.0)) is)

  -- it fits
  pub made_fits : SFits w64 made
  made_fits = subst (SFits w64) (sym made_is) (small_fits (term n few m small i inside) (term_le n few m small i inside) (lit< tt))

  -- the sum so far and the term
  module _ (s : ℕ) (so_far : to_z w64 s ≡ table_sum m (take i (part n table))) where
    -- the sum, as the code adds
    abbrev pub added : ℤ
    added = to_z w64 s +ℤ to_z w64 (of_z w64 made)

    -- it is the sum with one row more
    added_is : added ≡ table_sum m (take (suc i) (part n table))
    added_is =
        ap₂ (λ (x y : ℤ). x +ℤ y) so_far (ap (λ (z : ℤ). to_z w64 (of_z w64 z)) made_is ∙ small_back (term n few m small i inside) (term_le n few m small i inside) (lit< tt))
        ∙ sym (one_more n few m small i inside)

    -- it fits
    pub added_fits : SFits w64 added
    added_fits = subst (SFits w64) (sym added_is) (small_fits (table_sum m (take (suc i) (part n table))) (partial_le n few m small (suc i) (le_trans inside (few_rows n few))) (lit< tt))

    -- and is read back
    pub added_back : to_z w64 (of_z w64 added) ≡ table_sum m (take (suc i) (part n table))
    added_back =
        ap (λ (z : ℤ). to_z w64 (of_z w64 z)) added_is
        ∙ small_back (table_sum m (take (suc i) (part n table))) (partial_le n few m small (suc i) (le_trans inside (few_rows n few))) (lit< tt)
