-- `finish_column::cores::decompose_at` meets its contract: the lent parts are put back as the decomposition left them (`decomposes`). Assumes nothing.
use Rattle.std.specs.Prelude.{◌+◌, ◌*◌}
use mathlib.Core.Path.{◌∙◌}
use native.Mathlib.Nat.{add-sub_cancel_left}
use borrow.Rule.Slice.PartMut.{mid_len}
use Rattle.tables.specs.Verdict.{at}
use Rattle.finish_column.proofs.StepLaws.{decomposes}
use Rattle.finish_column.proofs.cores.decompose_at.Goals as goal

pub returns : goal.returns
returns c =
    let x = c.args in
    let t = x.t.now in
    let b = c.decompose_core in
    let w = at t.sizes.now x.j in
    let u = at t.unit_starts.now x.j in
    let o = at t.d_starts.now x.j in
    simp add-sub_cancel_left
    (decomposes t.sizes.now x.places.now t.unit_starts.now t.d_starts.now x.j x.tol x.c.now x.diag.now x.d.now b.result b.new.l b.new.d
    c.requires
    (b.auto.l ∙ mid_len u (u + w * w) x.diag.now c.requires.unit ∙ add-sub_cancel_left _ _)
    (b.auto.d ∙ mid_len o (o + w) x.d.now c.requires.of_d ∙ add-sub_cancel_left _ _)
    (simp add-sub_cancel_left at b.ensures))
