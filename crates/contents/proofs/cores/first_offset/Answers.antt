-- `contents::cores::first_offset` meets its contract: a search, one turn an entry, with the numbers of the bodies passed.
-- Assumes nothing.
use Rattle.std.specs.Prelude.{◌≡◌, ℕ, ◌+◌, ◌*◌, ◌<◌, ◌≤◌, length}
use Prim.Native.Nat.{zero-le}
use mathlib.Core.Path.{sym, ◌∙◌, ap}
use native.Mathlib.Omega.{arith}
use Rattle.tables.specs.Verdict.{at, area_at}
use borrow.Author.Count.{below_more}
use Rattle.tables.proofs.FaultLaws.{fault-here, fault-none}
use Rattle.scalars.proofs.BodyLaws.{offset-first, offset-next}
use Rattle.contents.specs.Contents.{starts_from}
use Rattle.contents.proofs.Laws.{area-is, area_small, offset-hits, offset-misses}
use Rattle.contents.proofs.cores.first_offset.Goals as goal

pub loop-p-init : goal.loop-p-init
loop-p-init c = ((λ k h. absurd (omega arith)), sym (offset-first c.args.dims.now _ c.args.rows.now), zero-le)

pub overflow_mul-sum : goal.overflow_mul-sum
overflow_mul-sum c = let t = c.requires.0 in omega (arith, c.loop-p.invariant.2, t.as_offsets, t.few)

pub overflow_add-bodies : goal.overflow_add-bodies
overflow_add-bodies c = let t = c.requires.0 in omega (arith, c.loop-p.invariant.2, t.as_offsets, t.few, c.requires.1)

pub returns-then-offset-bodies : goal.returns-then-offset-bodies
returns-then-offset-bodies c =
    let l = c.loop-p in
    let x = c.args in
    fault-here _ 0 _ _ zero-le (omega arith) (λ k _ h. l.invariant.0 k h)
    (offset-misses x.dims.now x.rows.now x.columns.now x.offsets.now x.bodies l.p (λ e. c.if-offset-bodies.true (e ∙ ap (λ (s : ℕ). x.bodies + 8 * s) (sym l.invariant.1))))

pub bounds-columns-p : goal.bounds-columns-p
bounds-columns-p c = omega (arith, c.requires.0.as_offsets)

pub bounds-dims-j : goal.bounds-dims-j
bounds-dims-j c = let t = c.requires.0 in omega (arith, t.sorted.below c.loop-p.p (omega (arith, t.as_offsets)))

pub block_area-sum-requires : goal.block_area-sum-requires
block_area-sum-requires c =
    let t = c.requires.0 in
    let p = c.loop-p.p in
    let in' : p < length c.args.rows.now = omega (arith, t.as_offsets, t.as_rows) in
    (t.sizes, omega (arith, t.sizes.small (at c.args.columns.now p)), in', t.below p in')

-- the area that is added
added : (c : goal.After-block_area-sum) → let x = c.args in c.block_area-sum.result ≡ area_at x.dims.now (starts_from x.columns.now (length x.dims.now)) x.rows.now c.loop-p.p
added c =
    let x = c.args in
    let t = c.requires.0 in
    let p = c.loop-p.p in
    c.block_area-sum.ensures ∙ sym (area-is t p (omega (arith, t.as_offsets)))

bounded : (c : goal.After-block_area-sum) → c.block_area-sum.result ≤ 256
bounded c = let t = c.requires.0 in omega (arith, added c, area_small t c.loop-p.p (omega (arith, t.as_offsets)))

pub overflow_add-sum : goal.overflow_add-sum
overflow_add-sum c = let t = c.requires.0 in omega (arith, bounded c, c.loop-p.invariant.2, t.as_offsets, t.few)

pub loop-p-preserved : goal.loop-p-preserved
loop-p-preserved c =
    let l = c.loop-p in
    let x = c.args in (
      below_more _ _ l.invariant.0 (offset-hits x.dims.now x.rows.now x.columns.now x.offsets.now x.bodies l.p (c.if-offset-bodies.false ∙ ap (λ (s : ℕ). x.bodies + 8 * s) l.invariant.1)),
      omega (arith, added c, l.invariant.1, offset-next x.dims.now (starts_from x.columns.now (length x.dims.now)) x.rows.now l.p),
      omega (arith, bounded c, l.invariant.2),
    )

pub returns : goal.returns
returns c = fault-none _ 0 _ (λ k _ h. c.loop-p.invariant.0 k (omega arith))
