-- The numbers of a factor where its columns were refused: NaN in full, so that half a factor can't pass for one. Assumes nothing.
use Rattle.std.specs.Prelude.{ℕ, List, length}
use Rattle.std.specs.Prelude.{Float, Result, Ok, Err}
use Rattle.scalar.specs.Block.{nans}
use Rattle.factor_columns.specs.declared.cores.ColumnError.{ColumnError}
use Rattle.factor_columns.specs.declared.cores.ColumnError.TheVariants.{NotFinite, Poor}

abbrev pub spoilt_by : Result ℕ ColumnError → List Float → List Float
spoilt_by (Ok count) x = x
spoilt_by (Err (NotFinite block place pivot)) x = nans (length x)
spoilt_by (Err (Poor block condition)) x = nans (length x)
