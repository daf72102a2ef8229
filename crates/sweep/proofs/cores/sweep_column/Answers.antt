-- `sweep::cores::sweep_column` meets its contract: a turn is one row more (`row_more`). Assumes nothing.
use Rattle.std.specs.Prelude.{◌≡◌, ℕ, ◌+◌, ◌-◌}
use mathlib.Core.Path.{refl, subst, ◌∙◌}
use native.Mathlib.Omega.{arith}
use Rattle.scalar.proofs.Laws.{steps-none}
use Rattle.layout.specs.Layout.{start_of}
use Rattle.solution.proofs.VectorLaws.{row_fits}
use Rattle.sweep.specs.Sweep.{rows_of, row_done, rows_done}
use Rattle.sweep.proofs.SweepLaws.{row_more}
use Rattle.sweep.proofs.cores.sweep_column.Goals as goal

pub sweep_row-requires : goal.sweep_row-requires
sweep_row-requires g c =
    let l = c.loop-u in
    rw l.invariant.y_len (row_fits (rows_of c.args.r.now) c.requires.0.rows c.requires.0.blocks c.args.j l.u c.requires.1 l.invariant.begun c.loop-u-test.true)

pub loop-u-init : goal.loop-u-init
loop-u-init g c =
    let t = rows_of c.args.r.now in
    let none : 0 ≡ start_of t c.args.j - start_of t c.args.j = omega arith in
    record {
      begun = omega arith;
      within = (c.requires.0.rows.column c.args.j c.requires.1).0;
      y_len = refl;
      done = subst (λ (m : ℕ). c.args.y.now ≡ rows_done g.D.Direction.pass t c.args.r.now.starts.now c.args.r.now.l_values.now c.args.j m c.args.y.now) none
          (steps-none (λ k. row_done g.D.Direction.pass t c.args.r.now.starts.now c.args.r.now.l_values.now c.args.j (start_of t c.args.j + k)) c.args.y.now c.args.y.now refl);
    }

pub loop-u-preserved : goal.loop-u-preserved
loop-u-preserved g c =
    let l = c.loop-u in
    record {
      begun = omega (arith, l.invariant.begun);
      within = omega (arith, c.loop-u-test.true);
      y_len = c.sweep_row.auto.y ∙ l.invariant.y_len;
      done = row_more g.D.Direction.pass (rows_of c.args.r.now) c.args.r.now.starts.now c.args.r.now.l_values.now c.args.j l.u c.args.y.now l.y c.sweep_row.new.y l.invariant.begun l.invariant.done c.sweep_row.ensures;
    }
