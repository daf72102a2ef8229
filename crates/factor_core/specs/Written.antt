-- The outputs of a factorization before its scratch is cleared, and the needs that only the plan shows. Assumes nothing.
use Rattle.std.specs.Prelude.{◌≡◌, ℕ, ◌+◌, List, [], ◌∷◌, ◌++◌, drop, Result, Ok, Err}
use Rattle.refusal.specs.Refusal.{Told, first_of, after}
use Rattle.needs.specs.Needs.{Lent}
use Rattle.elimination_tree.specs.Tree.{parents_of}
use Rattle.machine.specs.System.{System, blocks, links, order}
use Rattle.machine.specs.Machine.{run}
use Rattle.factor_columns.specs.declared.cores.ColumnError.{ColumnError}
use Rattle.factor_setup.specs.Exact.{stored, numbers, l_starts, l_rows, l_offsets, values_after, units_after, pivots_after}
use Rattle.factor_core.specs.Factorize.{Factorized, told, of_columns, Places, answered}

-- how the end of the columns is told, with what L has
abbrev pub factorized_by : (stored numbers : ℕ) → Result ℕ ColumnError → Factorized
factorized_by s m (Ok count) = Ok (record { stored = s; numbers = m; products = count })
factorized_by s m (Err e) = Err (of_columns e)

-- the needs that only the plan shows, by the lengths of L's offsets, values, the cache and L's rows, where L has so many blocks and numbers and
-- the cache needs `kept`
abbrev pub plan_needs : (offsets values cache rows stored numbers kept : ℕ) → List Lent
plan_needs offsets values cache rows stored numbers kept =
    record { which = 4; have = offsets; need = stored + 1 }
    ∷ record { which = 5; have = values; need = numbers }
    ∷ record { which = 21; have = cache; need = kept }
    ∷ record { which = 3; have = rows; need = stored }
    ∷ []

-- The outputs, where each but L's rows, offsets and values has exactly its need: as they were where w, the verdict before the numbers, refuses, else the factor's.
pub record Written (w : Told) (a : System) (b : Places) (r : Factorized) (b' : Places) : Type 0 where
  pub outcome : told r ≡ first_of w (answered a (run a))
  pub order : b'.order ≡ after w b.order (order a)
  pub parents : b'.parents ≡ after w b.parents (parents_of (links a) (blocks a))
  pub l_starts : b'.l_starts ≡ after w b.l_starts (l_starts a)
  pub l_rows : b'.l_rows ≡ after w b.l_rows (l_rows a ++ drop (stored a) b.l_rows)
  pub l_offsets : b'.l_offsets ≡ after w b.l_offsets (l_offsets a ++ drop (stored a + 1) b.l_offsets)
  pub l_values : b'.l_values ≡ after w b.l_values (values_after a (run a) ++ drop (numbers a) b.l_values)
  pub diag : b'.diag ≡ after w b.diag (units_after a (run a))
  pub d : b'.d ≡ after w b.d (pivots_after a (run a))
