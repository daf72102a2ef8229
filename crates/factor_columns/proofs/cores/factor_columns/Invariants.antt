-- `factor_columns::cores::factor_columns` meets its contract: the columns before j are done. Assumes nothing.
use Rattle.std.specs.Prelude.{◌*◌, ◌≤◌, length}
use Rattle.machine.specs.System.{System}
use Rattle.layout.specs.Layout.{laid}
use Rattle.finish_column.specs.Finish.{SameNumbers}
use Rattle.work_column.specs.Work.{Ready, SameScratch}
use Rattle.factor_column.specs.Turn.{given_of, Served, UpTo}
use Rattle.factor_columns.proofs.cores.factor_columns.Given as goal

abbrev pub invariant-loop-j : goal.invariant-loop-j
invariant-loop-j l =
    record {
      inside : l.j ≤ length l.a.dims.now;
      ready : Ready (laid l.t) (length l.a.dims.now) l.j l.places l.w;
      few : l.count ≤ 16777216 * l.j;
      scratch : SameScratch l.initial.w l.w;
      numbers : SameNumbers l.initial.f l.f;
      done : (a : System) → Served (laid l.t) l.t.into.now l.t.upper.now (given_of l.a l.tol) a → UpTo (laid l.t) l.t.unit_starts.now l.t.d_starts.now a l.j l.f.l_values.now l.f.diag.now l.f.d.now l.f.cache.now l.count;
    }
