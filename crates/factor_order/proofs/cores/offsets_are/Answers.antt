-- `factor_order::cores::offsets_are` meets its contract: the offsets before p agree, and the sum is the next (`Agree`). Assumes nothing.
use Rattle.std.specs.Prelude.{◌≡◌, ℕ, ◌+◌, ◌*◌, ◌<◌, ◌≤◌, List, length}
use mathlib.Core.Path.{refl, sym, ap, ◌∙◌}
use native.Mathlib.Omega.{arith}
use borrow.Author.Count.{below_more}
use Rattle.tables.specs.Verdict.{at}
use Rattle.order.specs.Order.{sizes_of}
use Rattle.scalars.specs.Bodies.{offset_at, offsets}
use Rattle.scalars.proofs.BodyLaws.{offset-first, length-offsets, offsets-at}
use Rattle.factor_order.proofs.SameLaws.{differ_same, last-same, tested}
use Rattle.factor_order.proofs.OffsetLaws.{offset-sum, offset-few}
use Rattle.factor_order.proofs.cores.offsets_are.Goals as goal

pub returns-then-l_offsets-l_rows : goal.returns-then-l_offsets-l_rows
returns-then-l_offsets-l_rows c =
    let a = c.args in
    let sizes = sizes_of a.dims.now a.factor.now.order.now in
    differ_same a.factor.now.l_offsets.now (offsets sizes a.factor.now.l_starts.now a.factor.now.l_rows.now) (λ e. c.if-l_offsets-l_rows.true (ap length e ∙ length-offsets sizes a.factor.now.l_starts.now a.factor.now.l_rows.now))

pub loop-j-init : goal.loop-j-init
loop-j-init c =
    let a = c.args in
    let sizes = sizes_of a.dims.now a.factor.now.order.now in
    let z = c.requires.3.ordered.begins in
    record { before = λ q h. absurd (omega (arith, z)); next = sym (ap (offset_at sizes a.factor.now.l_starts.now a.factor.now.l_rows.now) z ∙ offset-first sizes a.factor.now.l_starts.now a.factor.now.l_rows.now) }

pub returns-then-l_offsets-p : goal.returns-then-l_offsets-p
returns-then-l_offsets-p c =
    let a = c.args in
    let l = c.loop-p in
    let sizes = sizes_of a.dims.now a.factor.now.order.now in
    differ_same a.factor.now.l_offsets.now (offsets sizes a.factor.now.l_starts.now a.factor.now.l_rows.now)
    (λ e. c.if-l_offsets-p.true (ap (λ (x : List ℕ). at x l.p) e ∙ offsets-at sizes a.factor.now.l_starts.now a.factor.now.l_rows.now l.p (omega (arith, c.requires.3.ordered.inside (c.loop-j.j + 1) (omega arith))) ∙ sym l.invariant.next))

-- the sum behind the block at place p, and its bound
summed : (c : goal.After-size_under) → let a = c.args in let l = c.loop-p in
    let sum = l.sum + c.size_under.result * c.size_under-width.result in
    (sum ≡ offset_at (sizes_of a.dims.now a.factor.now.order.now) a.factor.now.l_starts.now a.factor.now.l_rows.now (l.p + 1)) × (sum ≤ 4294967040)
summed c =
    let a = c.args in
    let l = c.loop-p in
    let r = c.requires in
    let e = offset-sum a.dims.now a.factor.now.order.now a.factor.now.l_starts.now a.factor.now.l_rows.now r.0 r.1 r.2 r.3 c.loop-j.j l.p l.sum (at a.factor.now.l_rows.now l.p) c.size_under.result c.size_under-width.result
    c.loop-j-test.true (omega (arith, l.auto)) (omega arith) l.invariant.next refl c.size_under.ensures c.size_under-width.ensures in
    (e, omega (arith, e, offset-few a.dims.now a.factor.now.order.now a.factor.now.l_starts.now a.factor.now.l_rows.now r.0 r.1 r.2 r.3 (l.p + 1) (omega (arith, r.3.ordered.inside (c.loop-j.j + 1) (omega arith)))))

pub overflow_mul-sum : goal.overflow_mul-sum
overflow_mul-sum c = omega (arith, summed c)

pub overflow_add-sum : goal.overflow_add-sum
overflow_add-sum c = omega (arith, summed c)

pub loop-p-preserved : goal.loop-p-preserved
loop-p-preserved c =
    let l = c.loop-p in
    record { before = below_more _ _ l.invariant.before (c.if-l_offsets-p.false ∙ l.invariant.next); next = (summed c).0 }

pub returns : goal.returns
returns c =
    let a = c.args in
    let l = c.loop-j in
    let sizes = sizes_of a.dims.now a.factor.now.order.now in
    let whole = offsets sizes a.factor.now.l_starts.now a.factor.now.l_rows.now in
    let m = length a.factor.now.l_rows.now in
    let all : l.j ≡ length a.dims.now = omega arith in
    let z : at a.factor.now.l_starts.now l.j ≡ m = ap (at a.factor.now.l_starts.now) all ∙ c.requires.3.ordered.ends in
    let here = ap (offset_at sizes a.factor.now.l_starts.now a.factor.now.l_rows.now) z in
    let last = offsets-at sizes a.factor.now.l_starts.now a.factor.now.l_rows.now m (omega arith) in
    let before : (q : ℕ) → q < m → at a.factor.now.l_offsets.now q ≡ at whole q = λ q h. l.invariant.before q (omega (arith, z)) ∙ sym (offsets-at sizes a.factor.now.l_starts.now a.factor.now.l_rows.now q (omega arith)) in
    tested refl (l.invariant.next ∙ here ∙ sym last) (last-same a.factor.now.l_offsets.now whole m c.if-l_offsets-l_rows.false (length-offsets sizes a.factor.now.l_starts.now a.factor.now.l_rows.now) before)
