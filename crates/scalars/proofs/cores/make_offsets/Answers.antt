-- `scalars::cores::make_offsets` meets its contract. Assumes nothing.
use Rattle.std.specs.Prelude.{◌≡◌, ℕ, ◌+◌, length, set}
use mathlib.Core.Path.{sym, ap, subst, ◌∙◌}
use native.Mathlib.Omega.{arith}
use Rattle.tables.specs.Verdict.{at}
use Rattle.scalars.specs.Bodies.{offset_at, offsets}
use Rattle.scalars.proofs.Filling.{Filled, filled_none, filled_more, filled_all}
use Rattle.scalars.proofs.BodyLaws.{offset-first, length-offsets, offsets-at, place-below, offset-turn, offset-sum, offset-small}
use Rattle.scalars.proofs.cores.make_offsets.Goals as goal

pub loop-j-init : goal.loop-j-init
loop-j-init c =
    rw c.requires.0.ordered.begins
    (filled_none (offsets c.args.dims.now c.args.starts.now c.args.rows.now) c.args.out.now (c.requires.2 ∙ sym (length-offsets c.args.dims.now c.args.starts.now c.args.rows.now)), sym (offset-first c.args.dims.now c.args.starts.now c.args.rows.now))

pub overflow_cast-out : goal.overflow_cast-out
overflow_cast-out c =
    let t = c.loop-p in
    let b = place-below c.requires.0 c.requires.1 c.loop-j.j t.p c.loop-j-test.true (omega arith) c.loop-p-test.true in
    omega (arith, t.invariant.1, offset-small c.requires.0 c.requires.1 t.p (omega arith))

pub overflow_add-sum : goal.overflow_add-sum
overflow_add-sum c =
    let t = c.loop-p in
    let b = place-below c.requires.0 c.requires.1 c.loop-j.j t.p c.loop-j-test.true (omega arith) c.loop-p-test.true in
    let summed = offset-sum c.requires.0 c.requires.1 c.loop-j.j t.p c.loop-j-test.true (omega arith) c.loop-p-test.true t.sum t.invariant.0 t.invariant.1 c.block_area-sum.result c.block_area-sum.ensures in
    omega (arith, summed, offset-small c.requires.0 c.requires.1 (t.p + 1) (omega arith))

pub loop-p-preserved : goal.loop-p-preserved
loop-p-preserved c =
    let t = c.loop-p in (
      offset-turn c.requires.0 c.requires.1 c.loop-j.j t.p c.loop-j-test.true (omega arith) c.loop-p-test.true t.sum t.invariant.0 t.invariant.1,
      offset-sum c.requires.0 c.requires.1 c.loop-j.j t.p c.loop-j-test.true (omega arith) c.loop-p-test.true t.sum t.invariant.0 t.invariant.1 c.block_area-sum.result c.block_area-sum.ensures,
    )

-- at the end all places are done
pub overflow_cast-out-2 : goal.overflow_cast-out-2
overflow_cast-out-2 c =
    let v = c.loop-j in
    let all : v.j ≡ length c.args.dims.now = omega arith in
    let e = ap (at c.args.starts.now) all ∙ c.requires.0.ordered.ends in
    let s : v.sum ≡ offset_at c.args.dims.now c.args.starts.now c.args.rows.now (length c.args.rows.now) = v.invariant.1 ∙ ap (offset_at c.args.dims.now c.args.starts.now c.args.rows.now) e in
    omega (arith, offset-small c.requires.0 c.requires.1 (length c.args.rows.now) (omega arith))

pub returns : goal.returns
returns c =
    let v = c.loop-j in
    let n = length c.args.rows.now in
    let whole = offsets c.args.dims.now c.args.starts.now c.args.rows.now in
    let long = length-offsets c.args.dims.now c.args.starts.now c.args.rows.now in
    let all : v.j ≡ length c.args.dims.now = omega arith in
    let e : at c.args.starts.now v.j ≡ n = ap (at c.args.starts.now) all ∙ c.requires.0.ordered.ends in
    let filled : Filled whole v.out n = subst (λ (m : ℕ). Filled whole v.out m) e v.invariant.0 in
    let s : v.sum ≡ offset_at c.args.dims.now c.args.starts.now c.args.rows.now n = v.invariant.1 ∙ ap (offset_at c.args.dims.now c.args.starts.now c.args.rows.now) e in
    filled_all whole (set v.out n v.sum) (n + 1) (filled_more whole v.out n filled 0 v.sum (omega arith) (offsets-at c.args.dims.now c.args.starts.now c.args.rows.now n (omega arith) ∙ sym s)) (omega arith)
