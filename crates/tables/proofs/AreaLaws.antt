-- Bounds on areas: dimensions are at most 16, so a block has at most 256 numbers. Assumes nothing.
use Rattle.std.specs.Prelude.{ℕ, ◌-◌, ◌*◌, ◌≤◌, List, length}
use Prim.Native.Nat.{zero-le}
use native.Mathlib.Nat.{mul-le-mul}
use native.Mathlib.Omega.{arith}
use Rattle.tables.specs.Search.{sum}
use Rattle.tables.specs.Verdict.{at, block_area, area_at, areas, column_of}
use Rattle.tables.specs.Sound.{Sizes}
use Rattle.tables.proofs.SearchLaws.{sum-le}

module _ (dims rows : List ℕ) (sizes : Sizes dims) where
  pub area-le : (d p : ℕ) → d ≤ 16 → block_area dims rows d p ≤ 256
  unfolding block_area
  area-le d p h = mul-le-mul (sizes.small (at rows p)) h

  -- a part of a column that is d wide
  pub part-le : (d lo hi : ℕ) → d ≤ 16 → lo ≤ hi → sum (block_area dims rows d) lo hi ≤ 256 * (hi - lo)
  part-le d lo hi h l = sum-le (block_area dims rows d) 256 lo hi l (λ p _ _. area-le d p h)

  -- all stored blocks
  pub areas-le : (starts : List ℕ) → areas dims starts rows ≤ 256 * length rows
  areas-le starts =
      omega (arith, sum-le (area_at dims starts rows) 256 0 (length rows) zero-le (λ p _ _. area-le _ p (sizes.small (column_of starts (length dims) p))))
