-- What the refusals of a factorization say. Assumes nothing.
use Rattle.std.specs.Prelude.{◌≡◌, true}
use mathlib.Core.Path.{refl}
use Rattle.refusal.specs.Refusal.{refuses}
use Rattle.checks.specs.Outcome.{told_system_error}
use Rattle.checks.specs.declared.SystemError.{SystemError}
use Rattle.checks.specs.declared.SystemError.TheVariants as table
use Rattle.factor_core.specs.declared.FactorizeError.{FactorizeError}
use Rattle.factor_core.specs.declared.FactorizeError.TheVariants.{Blocks, Dimension, Starts, Stored, Row, Order, Values, Permutation, Late, Tolerance, Short, NotFinite, Poor}
use Rattle.factor_core.specs.Factorize.{told_error, of_tables}

-- each of them refuses
pub error_refuses : (e : FactorizeError) → refuses (told_error e) ≡ true
error_refuses Blocks = refl
error_refuses (Dimension place) = refl
error_refuses (Starts place) = refl
error_refuses Stored = refl
error_refuses (Row place) = refl
error_refuses (Order place) = refl
error_refuses Values = refl
error_refuses (Permutation place) = refl
error_refuses (Late place) = refl
error_refuses Tolerance = refl
error_refuses (Short which need) = refl
error_refuses (NotFinite block place pivot) = refl
error_refuses (Poor block condition) = refl

-- a refusal of the tables is told in the same words
pub tables_told : (e : SystemError) → told_error (of_tables e) ≡ told_system_error e
tables_told table.Blocks = refl
tables_told (table.Dimension place) = refl
tables_told (table.Starts place) = refl
tables_told table.Stored = refl
tables_told (table.Row place) = refl
tables_told (table.Order place) = refl
tables_told table.Values = refl
tables_told (table.Permutation place) = refl
tables_told (table.Late place) = refl
tables_told table.Tolerance = refl
