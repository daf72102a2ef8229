-- What is told of a sheet's tables once they are unpacked. Assumes nothing.
use Rattle.std.specs.Prelude.{List}
use Rattle.refusal.specs.Refusal.{Told}
use Rattle.sheet_check.specs.Checks as checks
use Rattle.sheet_check.specs.declared.cores.Tables.{Tables}

module _ (t : Tables) where
  -- they are tables of one sheet
  abbrev pub OfSheet : Type 0
  OfSheet = checks.Unpacked t.dims.now t.rows.now t.columns.now t.offsets.now t.bodies

  abbrev pub told_after : List Told → Told
  told_after = checks.told_after t.dims.now t.late.now t.perm.now t.rows.now t.columns.now t.offsets.now t.tol t.bodies t.size

  -- by the checks of `fit`'s order from 2 on, from 5 on, and from 16 on
  abbrev pub table_told : Told
  table_told = told_after (checks.table_checks t.dims.now t.late.now t.perm.now t.rows.now t.columns.now t.offsets.now t.tol t.bodies t.size)

  abbrev pub number_told : Told
  number_told = told_after (checks.number_checks t.dims.now t.late.now t.perm.now t.rows.now t.columns.now t.offsets.now t.tol t.bodies t.size)

  abbrev pub room_told : Told
  room_told = told_after (checks.room_checks t.dims.now t.late.now t.perm.now t.rows.now t.columns.now t.offsets.now t.tol t.bodies t.size)
