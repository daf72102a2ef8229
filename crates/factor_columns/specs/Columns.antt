-- How the loop over the columns ends: with the machine's run. Assumes nothing.
use Rattle.std.specs.Prelude.{◌≡◌, ℕ, List, [], ◌∷◌}
use Rattle.std.specs.Prelude.{Float, Result, Ok, Err}
use Rattle.refusal.specs.Refusal.{Told, told_by, accepted, pivot_not_finite, poorly_conditioned}
use Rattle.block_diag_ldlt.specs.declared.cores.BlockError.{BlockError}
use Rattle.block_diag_ldlt.specs.declared.cores.BlockError.TheVariants as block
use Rattle.machine.specs.System.{System, blocks}
use Rattle.machine.specs.Machine.{run, stopped}
use Rattle.layout.specs.Layout.{Tables}
use Rattle.factor_column.specs.Turn.{Given, Served, UpTo}
use Rattle.factor_columns.specs.declared.cores.ColumnError.{ColumnError}
use Rattle.factor_columns.specs.declared.cores.ColumnError.TheVariants.{NotFinite, Poor}

-- document 01's number and values for each refusal
abbrev pub told_error : ColumnError → Told
told_error (NotFinite block place pivot) = pivot_not_finite block place pivot
told_error (Poor block condition) = poorly_conditioned block condition

-- and for the end of the columns, with the products of all of them
abbrev pub told : Result ℕ ColumnError → Told
told = told_by (λ count. accepted (count ∷ []) []) told_error

-- the refusal of a block
abbrev pub refused_at : ℕ → BlockError → ColumnError
refused_at b (block.NotFinite place pivot) = NotFinite b place pivot
refused_at b (block.Poor condition) = Poor b condition

module _ (t : Tables) (unit_starts d_starts : List ℕ) where
  -- all columns are done, held and kept, or the machine stopped at the same refusal
  abbrev pub Ends : System → Result ℕ ColumnError → (values diag d cache : List Float) → Type 0
  Ends a (Ok count) values diag d cache = UpTo t unit_starts d_starts a (blocks a) values diag d cache count
  Ends a (Err e) values diag d cache = run a ≡ stopped (told_error e)

  -- for every system that is served
  abbrev pub Runs : (into upper : List ℕ) (g : Given) → Result ℕ ColumnError → (values diag d cache : List Float) → Type 0
  Runs into upper g r values diag d cache = (a : System) → Served t into upper g a → Ends a r values diag d cache
