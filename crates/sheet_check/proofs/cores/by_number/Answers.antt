-- `sheet_check::cores::by_number` meets its contract: a test that fails tells its refusal, and rows that pass are in their columns. Assumes nothing.
use Rattle.tables.specs.Verdict.{from_diagonal}
use Rattle.tables.proofs.TableLaws.{columns_of}
use Rattle.sheet_check.proofs.Laws.{ordered}
use Rattle.sheet_check.proofs.VerdictLaws.{bad-row, bad-order, bad-perm, bad-late}
use Rattle.sheet_check.proofs.cores.by_number.Goals as goal

pub first_row-requires : goal.first_row-requires
first_row-requires c = let p = c.requires in (p.0.blocks, ordered p.0 p.1)

pub returns-in-Some : goal.returns-in-Some
returns-in-Some c = bad-row _ _ _ _ _ _ _ _ _ _ (rw (← c.requires.1.by_starts) c.in-Some.ensures)

pub first_fall-requires : goal.first_fall-requires
first_fall-requires c = let p = c.requires in ordered p.0 p.1

pub returns-in-Some-first_fall : goal.returns-in-Some-first_fall
returns-in-Some-first_fall c =
    let starts = c.requires.1.by_starts in
    bad-order _ _ _ _ _ _ _ _ _ (rw (← starts) c.in_default.ensures) _ (rw (← starts) c.in-Some-first_fall.ensures)

pub returns-in-Some-first_perm : goal.returns-in-Some-first_perm
returns-in-Some-first_perm c =
    let starts = c.requires.1.by_starts in
    bad-perm _ _ _ _ _ _ _ _ _ (rw (← starts) c.in_default.ensures) (rw (← starts) c.in_default-first_fall.ensures) _ c.in-Some-first_perm.ensures

pub returns-in-Some-first_late : goal.returns-in-Some-first_late
returns-in-Some-first_late c =
    let starts = c.requires.1.by_starts in
    bad-late _ _ _ _ _ _ _ _ _ (rw (← starts) c.in_default.ensures) (rw (← starts) c.in_default-first_fall.ensures) c.in_default-first_perm.ensures _ c.in-Some-first_late.ensures

pub by_room-requires : goal.by_room-requires
by_room-requires c =
    let p = c.requires in
    (p.0, record { laid = p.1; in_columns = columns_of from_diagonal _ c.args.starts.now c.args.t.now.rows.now (ordered p.0 p.1) c.in_default.ensures c.in_default-first_fall.ensures })
