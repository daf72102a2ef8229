-- `backward::cores::backward` meets its contract: the sweep does what the solve means (`columns-up`). Assumes nothing.
use Rattle.std.specs.Prelude.{length}
use mathlib.Core.Path.{sym, subst}
use Rattle.sweep.specs.Sweep.{rows_of}
use Rattle.backward.specs.Backward.{Backwards}
use Rattle.backward.proofs.BackwardLaws.{columns-up}
use Rattle.backward.proofs.cores.backward.Goals as goal

pub returns : goal.returns
returns c =
    let r = c.args.r.now in
    subst (λ y. Backwards (rows_of r) r.starts.now r.l_values.now (length r.sizes.now) c.args.y.now y) (sym c.sweep.ensures)
    (columns-up (rows_of r) r.starts.now r.l_values.now c.requires.rows c.args.y.now c.requires.blocks)
