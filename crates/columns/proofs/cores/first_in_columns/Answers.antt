-- `columns::cores::first_in_columns` meets its contract: what is found in a column is the first fault of all, where those before it have none. Assumes nothing.
use Rattle.std.specs.Prelude.{None}
use mathlib.Core.Path.{sym, ◌∙◌}
use native.Mathlib.Omega.{arith}
use Rattle.tables.proofs.ColumnLaws.{column-found, none-found}
use Rattle.columns.proofs.cores.first_in_columns.Goals as goal

pub returns-then-is_some : goal.returns-then-is_some
returns-then-is_some g c m test o says =
    column-found o test c.loop-j.j c.first-found.result c.loop-j-test.true (λ i l. says i None (omega (arith, c.loop-j-test.true)) (c.loop-j.invariant i l)) (says c.loop-j.j c.first-found.result c.loop-j-test.true (c.first-found.ensures)) (sym c.is_some.ensures ∙ c.if-is_some.true)

pub returns : goal.returns
returns g c m test o says = none-found o test (λ i l. says i None l (c.loop-j.invariant i (omega arith)))
