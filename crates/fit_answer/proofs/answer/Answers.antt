-- `fit_answer::answer` meets its contract: the sheet's refusal, or the text of its night. Assumes nothing.
use mathlib.Core.Path.{refl}
use borrow.Author.Rules.{rules}
use Rattle.sheet.proofs.Laws.{reads_hold}
use Rattle.fit_answer.specs.Fit.{printed}
use Rattle.fit_answer.proofs.Laws.{sheet-refuses, sheet-refused, holds-back, night-within, night-printed, renders-as}
use Rattle.fit_answer.proofs.answer.Goals as goal

-- the night of a sheet that was read, in the first places of the rooms
pub solve_core-requires-clause-within : goal.solve_core-requires-clause-within
solve_core-requires-clause-within c =
    let r = c.in-Ok.ensures.reads in
    night-within c.args.bytes.now c.in-Ok.night r.outcome _ _ _ _ _ _ _
    (holds-back (reads_hold c.args.bytes.now c.in-Ok.night r.outcome r) (search rules) (search rules) (search rules) (search rules) (search rules) (search rules) refl)

-- its text
pub returns-in-Ok : goal.returns-in-Ok
returns-in-Ok c =
    let r = c.in-Ok.ensures.reads in
    renders-as _ (printed c.args.bytes.now) c.args.out.now
    (night-printed c.args.bytes.now c.in-Ok.night r.outcome _ _ _ _ _ _ _
    (holds-back (reads_hold c.args.bytes.now c.in-Ok.night r.outcome r) (search rules) (search rules) (search rules) (search rules) (search rules) (search rules) (search rules)))
    _ _ c.solve_core.ensures

-- a refused sheet's line
pub returns-in-Err : goal.returns-in-Err
returns-in-Err c =
    renders-as _ (printed c.args.bytes.now) c.args.out.now (sheet-refused c.args.bytes.now _ c.in-Err.ensures.reads.outcome (sheet-refuses c.in-Err.refusal)) _ _ c.refused_by.ensures
