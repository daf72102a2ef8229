-- `sheet::check` meets its contract: each test of the head that passes leaves what is told to those after it. Assumes nothing.
use mathlib.Core.Path.{◌∙◌}
use native.Mathlib.Omega.{arith}
use Rattle.sheet.proofs.Laws.{head-short, head-blocks, head-stored, head-cut, head_passed}
use Rattle.sheet.proofs.check.Goals as goal

pub returns-then-bytes-lt16 : goal.returns-then-bytes-lt16
returns-then-bytes-lt16 c = head-short c.args.bytes.now c.if-bytes-lt16.true

pub returns-then-n-gt-ROOM_BLOCKS : goal.returns-then-n-gt-ROOM_BLOCKS
returns-then-n-gt-ROOM_BLOCKS c = head-blocks c.args.bytes.now c.if-bytes-lt16.false (omega (arith, c.u32_at-n.ensures, c.if-n-gt-ROOM_BLOCKS.true))

pub returns-then-m-gt-ROOM_STORED : goal.returns-then-m-gt-ROOM_STORED
returns-then-m-gt-ROOM_STORED c = head-stored c.args.bytes.now c.if-bytes-lt16.false (omega (arith, c.u32_at-n.ensures, c.if-n-gt-ROOM_BLOCKS.false)) (omega (arith, c.u32_at-m.ensures, c.if-m-gt-ROOM_STORED.true))

pub returns-then-bytes-n : goal.returns-then-bytes-n
returns-then-bytes-n c = head-cut c.args.bytes.now c.if-bytes-lt16.false (omega (arith, c.u32_at-n.ensures, c.if-n-gt-ROOM_BLOCKS.false)) (omega (arith, c.u32_at-m.ensures, c.if-m-gt-ROOM_STORED.false)) (omega (arith, c.u32_at-n.ensures, c.u32_at-m.ensures, c.if-bytes-n.true))

pub returns : goal.returns
returns c =
    c.check_tables.ensures
    ∙ head_passed c.args.bytes.now c.if-bytes-lt16.false (omega (arith, c.u32_at-n.ensures, c.if-n-gt-ROOM_BLOCKS.false)) (omega (arith, c.u32_at-m.ensures, c.if-m-gt-ROOM_STORED.false)) (omega (arith, c.u32_at-n.ensures, c.u32_at-m.ensures, c.if-bytes-n.false))
