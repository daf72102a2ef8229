-- `sweep::cores::sweep` meets its contract: turn by turn. Assumes nothing.
use mathlib.Core.Path.{refl, ◌∙◌}
use native.Mathlib.Omega.{arith}
use Rattle.scalar.proofs.Laws.{steps-none, steps_next}
use Rattle.sweep.proofs.cores.sweep.Goals as goal

pub loop-t-init : goal.loop-t-init
loop-t-init g c = record { within = omega arith; y_len = refl; done = steps-none _ _ _ refl }

pub loop-t-preserved : goal.loop-t-preserved
loop-t-preserved g c =
    let l = c.loop-t in
    let r = c.args.r.now in
    record {
      within = omega (arith, c.loop-t-test.true);
      y_len = c.sweep_column.auto.y ∙ l.invariant.y_len;
      done = steps_next _ l.t _ l.y _ l.invariant.done
          (rw (c.sweep_column.ensures, c.column.ensures.0));
    }
