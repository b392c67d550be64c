-- A matrix as the code holds it: what its order and its entries stand for.
-- Assumes nothing.
use Rattle.std.specs.Prelude.{◌≡◌, ℕ, Option, MatchOption}
use Rattle.whole.specs.Matrix.{Matrix}
use Rattle.report.specs.declared.grid.Order.{Order}
use Rattle.report.specs.declared.grid.Order.TheVariants.{Two, Three, Four}
use Rattle.report.specs.declared.grid.Grid.{Grid}
use Rattle.report.specs.Text.{Bytes}
use Rattle.report.specs.Words.{order_of}
use Rattle.report.specs.Entries.{columns}

-- how many columns, and how many rows
abbrev pub size : Order → ℕ
size Two = 2
size Three = 3
size Four = 4

-- the order that a word is, or none
abbrev pub IsOrder : Bytes → Option Order → Type 0
IsOrder w o = MatchOption o (order_of w ≡ 0) (λ o. order_of w ≡ size o)

-- the order of a matrix
abbrev pub order_in : Grid → ℕ
order_in g = size g.order

-- its entries
abbrev pub matrix_in : Grid → Matrix
matrix_in g = columns (size g.order) g.entries
