-- `marks::marks` meets its contract: the first test that fails is the verdict, and past all of them the marks are made (`answered`). Assumes nothing.
use Rattle.std.specs.Prelude.{◌≡◌, [], ◌∷◌, length, take}
use mathlib.Core.Path.{sym, ap, ◌∙◌}
use native.Mathlib.Omega.{arith}
use lib.Seq.{length-take-le}
use Rattle.refusal.specs.Refusal.{accepted}
use Rattle.tables.proofs.TableLaws.{sizes-of, permutes-of}
use Rattle.marks.proofs.AnswerLaws.{answered}
use Rattle.marks.proofs.TestLaws.{marks-blocks, marks-dims, marks-perm, marks-tolerance, marks-need, marks-shape, marks-accepts}
use Rattle.marks.proofs.marks.Goals as goal

-- ---- refused

pub returns-then-n-gt-MAX_BLOCKS : goal.returns-then-n-gt-MAX_BLOCKS
returns-then-n-gt-MAX_BLOCKS c = let x = c.args in marks-blocks x.dims.now x.order.now x.d.now x.tol x.marks.now c.if-n-gt-MAX_BLOCKS.true

pub returns-in-Some : goal.returns-in-Some
returns-in-Some c = let x = c.args in marks-dims x.dims.now x.order.now x.d.now x.tol x.marks.now c.if-n-gt-MAX_BLOCKS.false _ c.in-Some.ensures

pub returns-in-Some-first_perm : goal.returns-in-Some-first_perm
returns-in-Some-first_perm c = let x = c.args in marks-perm x.dims.now x.order.now x.d.now x.tol x.marks.now c.if-n-gt-MAX_BLOCKS.false c.in_default.ensures _ c.in-Some-first_perm.ensures

pub returns-then-not-is_tolerance : goal.returns-then-not-is_tolerance
returns-then-not-is_tolerance c = let x = c.args in marks-tolerance x.dims.now x.order.now x.d.now x.tol x.marks.now c.if-n-gt-MAX_BLOCKS.false c.in_default.ensures c.in_default-first_perm.ensures _ c.is_tolerance.ensures c.if-not-is_tolerance.true

pub returns-then-marks-need : goal.returns-then-marks-need
returns-then-marks-need c = let x = c.args in marks-need x.dims.now x.order.now x.d.now x.tol x.marks.now c.if-n-gt-MAX_BLOCKS.false c.in_default.ensures c.in_default-first_perm.ensures _ c.is_tolerance.ensures c.if-not-is_tolerance.false _ c.scalar_count-need.ensures c.if-marks-need.true

pub returns-then-d-need : goal.returns-then-d-need
returns-then-d-need c = let x = c.args in marks-shape x.dims.now x.order.now x.d.now x.tol x.marks.now c.if-n-gt-MAX_BLOCKS.false c.in_default.ensures c.in_default-first_perm.ensures _ c.is_tolerance.ensures c.if-not-is_tolerance.false _ c.scalar_count-need.ensures c.if-marks-need.false c.if-d-need.true

-- ---- accepted

pub scalar_count-need-requires : goal.scalar_count-need-requires
scalar_count-need-requires c = (sizes-of _ c.in_default.ensures, c.if-n-gt-MAX_BLOCKS.false)

-- the first bytes, one for each scalar
room : (c : goal.After-mark_core-arg-2-1) → let x = c.args in length (take c.scalar_count-need.result x.marks.now) ≡ c.scalar_count-need.result
room c = length-take-le c.scalar_count-need.result c.args.marks.now c.if-marks-need.false

pub slice_bounds-mark_core-end-3 : goal.slice_bounds-mark_core-end-3
slice_bounds-mark_core-end-3 c = sym (room c)

pub mark_core-silent-requires : goal.mark_core-silent-requires
mark_core-silent-requires c =
    record {
      dims_len_bound = (c.if-n-gt-MAX_BLOCKS.false, sizes-of _ c.in_default.ensures, permutes-of _ _ c.in_default-first_perm.ensures);
      d_len = (c.if-d-need.false ∙ c.scalar_count-need.ensures, room c ∙ c.scalar_count-need.ensures, omega (arith, c.if-n-gt-MAX_BLOCKS.false));
    }

pub returns : goal.returns
returns c =
    let x = c.args in
    let b = c.mark_core-silent in
    let v = marks-accepts x.dims.now x.order.now x.d.now x.tol x.marks.now c.if-n-gt-MAX_BLOCKS.false c.in_default.ensures c.in_default-first_perm.ensures _ c.is_tolerance.ensures c.if-not-is_tolerance.false _ c.scalar_count-need.ensures c.if-marks-need.false c.if-d-need.false in
    answered _ _ _ _ _ _ _ _ v (ap (λ n. accepted (n ∷ []) []) b.ensures.0) (rw (b.ensures.1, c.scalar_count-need.ensures))
