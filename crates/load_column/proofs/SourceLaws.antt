-- What a column is loaded from: the dimensions by old number and by new, and the order. Assumes nothing.
use Rattle.std.specs.Prelude.{◌≡◌, ℕ, ◌*◌, ◌<◌, List, length}
use mathlib.Core.Path.{ap, ◌∙◌}
use native.Mathlib.Omega.{arith}
use lib.Ieee.{Float}
use Rattle.tables.specs.Verdict.{at}
use Rattle.order.proofs.Laws.{below_at, length-sizes}
use Rattle.scalars.proofs.ScalarLaws.{sizes-at}
use Rattle.load_column.specs.Load.{Source}
use Rattle.load_column.specs.Blocks.{Kept}

module _ {dims starts rows : List ℕ} {values : List Float} {bodies order sizes : List ℕ} (s : Source dims starts rows values bodies order sizes) where
  pub kept : Kept dims starts rows values bodies
  kept = record { columns = s.columns; counted = s.counted; by_bodies = s.by_bodies }

  pub ordered-all : length order ≡ length dims
  ordered-all = s.permutes.entries

  pub sized-all : length sizes ≡ length dims
  sized-all = ap length s.by_sizes ∙ length-sizes dims order ∙ ordered-all

  pub old_below : (i : ℕ) → i < length dims → at order i < length dims
  old_below i h = below_at (length dims) order s.permutes i h

  pub size_is : (i : ℕ) → i < length dims → at sizes i ≡ at dims (at order i)
  size_is i h = ap (λ (l : List ℕ). at l i) s.by_sizes ∙ sizes-at dims order i (omega (arith, ordered-all))

  pub area-is : (i j : ℕ) → i < length dims → j < length dims → at sizes i * at sizes j ≡ at dims (at order i) * at dims (at order j)
  area-is i j h l = ap (λ (m : ℕ). m * at sizes j) (size_is i h) ∙ ap (λ (m : ℕ). at dims (at order i) * m) (size_is j l)
