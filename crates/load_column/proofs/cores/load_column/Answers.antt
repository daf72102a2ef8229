-- `load_column::cores::load_column` meets its contract: the invariant: the rows before place u are loaded (`UpTo`). Assumes nothing.
use Rattle.std.specs.Prelude.{◌≡◌, length}
use mathlib.Core.Path.{◌∙◌}
use native.Mathlib.Omega.{arith}
use Rattle.layout.specs.Layout.{laid}
use Rattle.load_column.specs.Blocks.{block_at}
use Rattle.load_column.proofs.ColumnLaws.{row_fits, up_more}
use Rattle.load_column.proofs.MeaningLaws.{block-length, column-loaded}
use Rattle.load_column.proofs.cores.load_column.Goals as goal

pub overflow_sub-place : goal.overflow_sub-place
overflow_sub-place c =
    (row_fits (laid c.args.t.now) c.args.j c.requires.rows_laid c.requires.j_in_bounds.0 c.loop-u.u c.loop-u.invariant.begun c.loop-u-test.true).rises

pub load_at-requires-in-loop-u-clause-j_in_bounds : goal.load_at-requires-in-loop-u-clause-j_in_bounds
load_at-requires-in-loop-u-clause-j_in_bounds c =
    let f = row_fits (laid c.args.t.now) c.args.j c.requires.rows_laid c.requires.j_in_bounds.0 c.loop-u.u c.loop-u.invariant.begun c.loop-u-test.true in
    let room : length c.loop-u.c ≡ length c.args.c.now = c.loop-u.invariant.c_len ∙ c.load_at.auto.c in
    (omega (arith, f.inside, room), omega (arith, c.requires.j_in_bounds.2, room), omega (arith, f.inside, c.requires.j_in_bounds.2))

pub loop-u-preserved : goal.loop-u-preserved
loop-u-preserved c =
    let a = c.args.a.now in
    let j = c.args.j in
    let l = c.loop-u in
    let l' = l.invariant in
    let b = c.load_at in
    let d = c.load_at-in-loop-u in
    record {
      places_len = d.auto.places ∙ l'.places_len;
      c_len = d.auto.c ∙ l'.c_len;
      begun = omega (arith, l'.begun);
      within = omega (arith, c.loop-u-test.true);
      loaded = up_more (laid c.args.t.now) j c.requires.rows_laid c.requires.j_in_bounds.0 (λ i. block_at a.dims.now a.starts.now a.rows.now a.values.now a.order.now i j)
          (λ i h. block-length c.requires.source i j h c.requires.j_in_bounds.0) l.places l.c (l'.places_len ∙ b.auto.places ∙ c.requires.j_in_bounds.1) (l'.c_len ∙ b.auto.c)
          l.u l'.begun c.loop-u-test.true l'.loaded _ _ (d.ensures.places_after, d.ensures.c_after);
    }

pub returns : goal.returns
returns c =
    column-loaded c.requires.source c.requires.rows_laid c.requires.j_in_bounds.0 c.loop-u-test.false c.loop-u.invariant.loaded
