-- 5 on the system of document 01's sheet, two blocks of dimension 1 and the link (1, 0), with a factor of any one number: a parent that is
-- neither none nor a greater block is told with its block, and apart from a row of the factor's. And on three blocks without links: a greater
-- block is one of the system's, however few the parents are. Assumes nothing.
use Rattle.std.specs.Prelude.{◌≡◌, ℕ, List, [], ◌∷◌}
use mathlib.Core.Path.{refl}
use lib.Ieee.{Float}
use Rattle.graph.specs.Order.{moved}
use Rattle.refusal.specs.Refusal.{Told, done, bad_parent}
use Rattle.tables.specs.Search.{first_from, first, sum_from, sum}
use Rattle.tables.specs.Verdict.{dim_ok, rises_at, start_ok, column_of, row_ok, order_ok, block_area, perm_ok, late_ok, blocks_check, dims_check, starts_check, stored_check, rows_check, order_check, values_check, perm_check, late_check, parent_fits}
use Rattle.order.specs.Order.{sizes_of}
use Rattle.solve_checks.specs.Verdict.{bad_factor, l_starts_check, l_rows_check, tree_check, l_order_check, solve_verdict}

module _ (number : Float) where
  -- the sheet's system, and a factor
  abbrev sheet : (parents l_rows : List ℕ) → Told
  sheet parents l_rows = solve_verdict (1 ∷ 1 ∷ []) (0 ∷ 2 ∷ 3 ∷ []) (0 ∷ 1 ∷ 1 ∷ []) (0 ∷ 1 ∷ []) (0 ∷ 0 ∷ []) parents (0 ∷ 1 ∷ 1 ∷ []) l_rows (number ∷ [])

  pub told-of-parents :
      (sheet (1 ∷ 4294967295 ∷ []) (1 ∷ []) ≡ done)
      -- another tree's: a matter of 12
      × (sheet (4294967295 ∷ 4294967295 ∷ []) (1 ∷ []) ≡ done)
      × (sheet (0 ∷ 4294967295 ∷ []) (1 ∷ []) ≡ bad_parent 0)
      × (sheet (2 ∷ 4294967295 ∷ []) (1 ∷ []) ≡ bad_parent 0)
      × (sheet (1 ∷ 0 ∷ []) (1 ∷ []) ≡ bad_parent 1)
      -- a third parent makes no third block
      × (sheet (2 ∷ 4294967295 ∷ 4294967295 ∷ []) (1 ∷ []) ≡ bad_parent 0)
      -- the rows come first
      × (sheet (1 ∷ 0 ∷ []) (2 ∷ []) ≡ bad_factor 5 0)
  unfolding solve_verdict blocks_check dims_check starts_check l_starts_check stored_check rows_check l_rows_check tree_check order_check l_order_check perm_check late_check values_check dim_ok rises_at start_ok column_of row_ok order_ok block_area perm_ok late_ok parent_fits moved sizes_of first_from first sum_from sum
  told-of-parents = (refl, refl, refl, refl, refl, refl, refl)

-- two parents of three blocks: that one is missing is a matter of 12
pub told-of-few-parents :
    (solve_verdict (1 ∷ 1 ∷ 1 ∷ []) (0 ∷ 1 ∷ 2 ∷ 3 ∷ []) (0 ∷ 1 ∷ 2 ∷ []) (0 ∷ 1 ∷ 2 ∷ []) (0 ∷ 0 ∷ 0 ∷ []) (2 ∷ 4294967295 ∷ []) (0 ∷ 0 ∷ 0 ∷ 0 ∷ []) [] [] ≡ done)
    × (solve_verdict (1 ∷ 1 ∷ 1 ∷ []) (0 ∷ 1 ∷ 2 ∷ 3 ∷ []) (0 ∷ 1 ∷ 2 ∷ []) (0 ∷ 1 ∷ 2 ∷ []) (0 ∷ 0 ∷ 0 ∷ []) (3 ∷ 4294967295 ∷ []) (0 ∷ 0 ∷ 0 ∷ 0 ∷ []) [] [] ≡ bad_parent 0)
unfolding solve_verdict blocks_check dims_check starts_check l_starts_check stored_check rows_check l_rows_check tree_check order_check l_order_check perm_check late_check values_check dim_ok rises_at start_ok column_of row_ok order_ok block_area perm_ok late_ok parent_fits moved sizes_of first_from first sum_from sum
told-of-few-parents = (refl, refl)
