-- `columns::cores::total_area` meets its contract: the sum goes one column after the other, and is at most 2³². Assumes nothing.
use Rattle.std.specs.Prelude.{◌≡◌, ℕ, ◌+◌, ◌≤◌, length}
use Prim.Native.Nat.{zero-le}
use native.Mathlib.Omega.{arith}
use Rattle.tables.specs.Search.{sum}
use Rattle.tables.specs.Verdict.{at, block_area}
use Rattle.tables.proofs.SearchLaws.{summed, all-added}
use Rattle.tables.proofs.ColumnLaws.{column_added, column_added_le}
use Rattle.tables.proofs.AreaLaws.{areas-le}
use Rattle.columns.proofs.cores.total_area.Goals as goal

pub loop-j-init : goal.loop-j-init
loop-j-init c = let o = c.requires.ordered in (zero-le, rw o.begins (summed zero-le))

pub column_area-s-requires : goal.column_area-s-requires
column_area-s-requires c =
    let j = c.loop-j.j in
    let up : at c.args.starts.now j ≤ at c.args.starts.now (j + 1) = c.requires.ordered.rising j c.loop-j-test.true in
    let in' : at c.args.starts.now (j + 1) ≤ length c.args.rows.now = c.requires.ordered.inside (j + 1) (omega arith) in
    (c.requires.sizes, λ p q. c.requires.below p (omega arith), omega (arith, c.requires.sizes.small j), omega arith, omega arith, omega arith)

-- a block's area, by its column
abbrev area : goal.After-column_area-s → ℕ → ℕ → ℕ
area s j = block_area s.args.dims.now s.args.rows.now (at s.args.dims.now j)

-- what the sum over column j is
found : (c : goal.After-column_area-s) → let j = c.loop-j.j in c.column_area-s.result ≡ sum (area c j) (at c.args.starts.now j) (at c.args.starts.now (j + 1))
found c = c.column_area-s.ensures

pub overflow_add-s : goal.overflow_add-s
overflow_add-s c =
    omega (arith, column_added_le c.requires.ordered (area c) c.loop-j.j _ _ c.loop-j-test.true (found c) c.loop-j.invariant.1, areas-le c.args.dims.now c.args.rows.now c.requires.sizes c.args.starts.now, c.requires.few)

pub loop-j-preserved : goal.loop-j-preserved
loop-j-preserved c =
    (omega arith, column_added c.requires.ordered (area c) c.loop-j.j _ _ c.loop-j-test.true (found c) c.loop-j.invariant.1)

pub returns : goal.returns
returns c =
    let last : c.loop-j.j ≡ length c.args.dims.now = omega arith in
    let whole = rw (last, c.requires.ordered.ends) at c.loop-j.invariant.1 in
    all-added whole (omega arith)
