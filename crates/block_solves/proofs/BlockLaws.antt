-- One block is solved (`block_fits`, `block-done`, `unit-next`), and the loop over the blocks. Assumes nothing.
use Rattle.std.specs.Prelude.{◌≡◌, ℕ, ◌+◌, ◌*◌, ◌<◌, ◌≤◌, List, length}
use mathlib.Core.Path.{refl, sym, ap, subst, ◌∙◌}
use native.Mathlib.Omega.{arith}
use lib.Ieee.{Float}
use Rattle.scalar.specs.Loop.{steps}
use Rattle.scalar.specs.Block.{within}
use Rattle.scalar.proofs.Laws.{steps-none, steps-more}
use Rattle.buckets.proofs.Turns.{before-next}
use Rattle.tables.specs.Verdict.{at}
use Rattle.scalars.specs.Scalars.{scalar_starts}
use Rattle.buckets.proofs.Laws.{nothing-before}
use Rattle.scalars.proofs.ScalarLaws.{starts-at}
use Rattle.dense_solve.specs.Solve.{ldlt_solve}
use Rattle.block_product.specs.Working.{slot}
use Rattle.layout.specs.Layout.{squares, unit_starts_of, DiagonalLaid}
use Rattle.layout.proofs.DiagonalLaws.{length-squares, squares-at}
use Rattle.solution.specs.Solution.{solved_block, solved_blocks}
use Rattle.solution.specs.Flat.{BlocksLaid, ShowsVector}
use Rattle.solution.proofs.VectorLaws.{block_inside, shows-within}
use Rattle.block_solves.specs.Blocks.{Solves, SolvesBlock}

-- ---- where the unit factors begin

module _ (sizes : List ℕ) where
  pub unit-first : 0 ≡ at (unit_starts_of sizes) 0
  unit-first = sym (starts-at (squares sizes) 0 (omega arith) ∙ nothing-before (squares sizes))

  pub unit-next : (j : ℕ) → j < length sizes → at (unit_starts_of sizes) j + at sizes j * at sizes j ≡ at (unit_starts_of sizes) (j + 1)
  unit-next j h =
      let l = length-squares sizes in
      omega (arith, starts-at (squares sizes) j (omega arith), starts-at (squares sizes) (j + 1) (omega arith), before-next (squares sizes) j, squares-at sizes j)

module _ {sizes starts : List ℕ} {diag d : ℕ} (laid : DiagonalLaid sizes (unit_starts_of sizes) starts (length sizes) diag d) (j : ℕ) (h : j < length sizes) where
  unit-inside : at (unit_starts_of sizes) j + at sizes j * at sizes j ≤ diag
  unit-inside = omega (arith, laid.unit j (length sizes) h (omega arith), laid.units)

  pivots-inside : at starts j + at sizes j ≤ d
  pivots-inside = omega (arith, laid.pivots j (length sizes) h (omega arith), laid.all_pivots)

-- block j lies in y, its d in d, its unit factor in diag
pub block_fits : {sizes starts : List ℕ} {diag d y : ℕ} → DiagonalLaid sizes (unit_starts_of sizes) starts (length sizes) diag d → BlocksLaid sizes starts y
    → (j unit : ℕ) → j < length sizes → unit ≡ at (unit_starts_of sizes) j
    → (at starts j + at sizes j ≤ y) × (at starts j + at sizes j ≤ d) × (unit + at sizes j * at sizes j ≤ diag)
block_fits diagonal blocks j unit h e =
    (block_inside blocks j h, pivots-inside diagonal j h, omega (arith, e, unit-inside diagonal j h))

module _ (sizes starts : List ℕ) (diag d : List Float) where
  -- ---- one block

  pub block-done : (j unit : ℕ) (y y' : List Float) → starts ≡ scalar_starts sizes → BlocksLaid sizes starts (length y) → j < length sizes → unit ≡ at (unit_starts_of sizes) j
      → length (ldlt_solve (at sizes j) (slot unit (at sizes j * at sizes j) diag) (slot (at starts j) (at sizes j) d) (slot (at starts j) (at sizes j) y)) ≡ at sizes j
      → y' ≡ within (at starts j) (at sizes j) (ldlt_solve (at sizes j) (slot unit (at sizes j * at sizes j) diag) (slot (at starts j) (at sizes j) d)) y
      → SolvesBlock sizes starts diag d j y y'
  block-done j unit y y' s laid h u keeps e col held x shown =
      let w = at sizes j in
      subst (λ (l : List Float). ShowsVector sizes starts l (solved_block (at sizes) col j x)) (sym e)
      (shows-within y laid j (ldlt_solve w (slot unit (w * w) diag) (slot (at starts j) w d)) x (ldlt_solve w (col j).unit (col j).d (x j)) h keeps
      (ap (λ (l : List Float). ldlt_solve w l (slot (at starts j) w d) (x j)) (ap (λ (o : ℕ). slot o (w * w) diag) u ∙ held.by_unit j h)
      ∙ ap (λ (l : List Float). ldlt_solve w (col j).unit l (x j)) (ap (λ (l : List ℕ). slot (at l j) w d) s ∙ held.by_d j h)) shown)

  -- ---- the loop

  pub blocks-none : (y : List Float) → Solves sizes starts diag d 0 y y
  unfolding solved_blocks
  blocks-none y col held x shown = subst (ShowsVector sizes starts y) (steps-none (solved_block (at sizes) col) x x refl) shown

  pub blocks_more : (j : ℕ) (y y' y'' : List Float) → Solves sizes starts diag d j y y' → SolvesBlock sizes starts diag d j y' y'' → Solves sizes starts diag d (j + 1) y y''
  unfolding solved_blocks
  blocks_more j y y' y'' before one col held x shown =
      subst (ShowsVector sizes starts y'') (steps-more (solved_block (at sizes) col) j x (steps (solved_block (at sizes) col) j x) refl)
      (one col held (steps (solved_block (at sizes) col) j x) (before col held x shown))
