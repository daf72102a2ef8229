-- `factor_column::cores::factor_column` meets its contract. Assumes nothing.
use Rattle.std.specs.Prelude.{ℕ, ◌+◌, length, Result}
use mathlib.Core.Path.{refl, sym, subst, ◌∙◌}
use native.Mathlib.Omega.{arith}
use borrow.Author.Rules.{rules}
use Rattle.block_diag_ldlt.specs.declared.cores.BlockError.{BlockError}
use Rattle.layout.specs.Layout.{laid}
use Rattle.work_column.specs.Work.{Next, Works}
use Rattle.factor_column.specs.Turn.{given_of, Turns}
use Rattle.factor_column.proofs.TurnLaws.{laid-again, placed_by, turns}
use Rattle.factor_column.proofs.KeptLaws.{fits-laid}
use Rattle.factor_column.proofs.cores.factor_column.Goals as goal

pub work_column-n-requires-clause-placed : goal.work_column-n-requires-clause-placed
work_column-n-requires-clause-placed c =
    let x = c.args in
    let a = x.a.now in
    let load = c.load_column in
    let n = c.requires.grown.1 in (
      placed_by (laid x.t.now) a.dims.now a.starts.now a.rows.now a.values.now a.order.now x.j load.new.places load.new.c load.ensures,
      omega arith,
    )

pub work_column-n-requires-clause-ready : goal.work_column-n-requires-clause-ready
work_column-n-requires-clause-ready c =
    let x = c.args in
    let ready = c.requires.ready in
    let n = c.requires.grown.1 in
    record {
      next = subst (λ (m : ℕ). Next (laid x.t.now) m x.j x.w.now.next.now) (sym n) ready.next;
      stamps = (ready.stamps.0 ∙ sym n, ready.stamps.1);
      out = ready.out ∙ sym n;
      places = c.load_column.auto.places ∙ (ready.places ∙ sym n);
      rooms = ready.rooms;
    }

pub finish_column-r-requires-clause-placed : goal.finish_column-r-requires-clause-placed
finish_column-r-requires-clause-placed c =
    let x = c.args in
    let a = x.a.now in
    let load = c.load_column in
    let n = c.requires.rows_laid.count.0 in (
      placed_by (laid x.t.now) a.dims.now a.starts.now a.rows.now a.values.now a.order.now x.j load.new.places load.new.c load.ensures,
      omega arith,
      load.auto.places ∙ (c.requires.ready.places ∙ sym n),
    )

pub keep_column-requires-clause-j_nonzero : goal.keep_column-requires-clause-j_nonzero
keep_column-requires-clause-j_nonzero c =
    let x = c.args in
    let inside = c.requires.in_bounds.0 in
    let size = c.requires.rows_laid.size x.j inside in
    let unit = c.requires.diagonal_laid.unit x.j (length x.a.now.dims.now) inside (omega arith) in
    (size.0, size.1, omega (arith, c.requires.diagonal_laid.units, c.finish_column-r.ensures.same.diag.1))

pub keep_column-requires-clause-keep_fit : goal.keep_column-requires-clause-keep_fit
keep_column-requires-clause-keep_fit c =
    let x = c.args in
    let t = laid x.t.now in
    fits-laid t (laid-again t refl (sym c.finish_column-r.ensures.same.l_values.1) refl c.requires.rows_laid) x.j c.requires.in_bounds.0

pub returns-clause-ready_next : goal.returns-clause-ready_next
returns-clause-ready_next c =
    let x = c.args in
    let w = c.work_column-n.new.w in
    let ready = c.work_column-n.ensures.ready_next in
    let n = c.requires.grown.1 in
    record {
      next = subst (λ (m : ℕ). Next (laid x.t.now) m (x.j + 1) w.next.now) n ready.next;
      stamps = (ready.stamps.0 ∙ n, ready.stamps.1);
      out = ready.out ∙ n;
      places = c.load_column.auto.places ∙ c.requires.ready.places;
      rooms = ready.rooms;
    }

pub returns-clause-turns : goal.returns-clause-turns
returns-clause-turns c =
    let x = c.args in
    let load = c.load_column in
    let work = c.work_column-n in
    let finish = c.finish_column-r in
    let keep = c.keep_column in
    let us = x.t.now.unit_starts.now in
    let ds = x.t.now.d_starts.now in
    let into = x.t.now.into.now in
    let upper = x.t.now.upper.now in
    let t = laid x.t.now in
    let g = given_of x.a.now x.tol in
    let f = x.f.now in
    let f' = finish.new.f in
    let works : Works t us ds into upper (length g.dims) x.j load.new.places f.l_values.now f.diag.now f.d.now f.cache.now load.new.c x.count work.new.w.room.c.now work.result =
    subst (λ (m : ℕ). Works t us ds into upper m x.j load.new.places f.l_values.now f.diag.now f.d.now f.cache.now load.new.c x.count work.new.w.room.c.now work.result) c.requires.grown.1 work.ensures.works in
    subst (λ (r : Result ℕ BlockError). Turns t us ds into upper g x.j f.l_values.now f.diag.now f.d.now f.cache.now x.count r f'.l_values.now f'.diag.now f'.d.now keep.new.cache) (sym c.turned_by.ensures)
    (turns t us ds into upper g x.j c.requires.in_bounds.0 c.requires.source.by_sizes load.new.places f.l_values.now f.diag.now f.d.now f.cache.now load.new.c work.new.w.room.c.now x.count work.result
    (λ a served. load.ensures a served.fed) works finish.result f'.l_values.now f'.diag.now f'.d.now finish.ensures.finishes c.requires.rows_laid keep.new.cache
    (rw finish.ensures.cache at keep.ensures))

pub returns-clause-scratch : goal.returns-clause-scratch
returns-clause-scratch c =
    let load = c.load_column.auto in
    let same = c.work_column-n.ensures.same in
    record {
      stamps = same.stamps;
      out = same.out;
      next = same.next;
      room = record {
        qj = same.room.qj;
        qi = same.room.qi;
        c = (same.room.c.0, search rules ∙ same.room.c.1 ∙ load.c);
      };
    }
