-- `contents::cores::make_starts` meets its contract: the columns passed have their starts, and all before the place reached is of
-- columns before the next. Assumes nothing.
use Rattle.std.specs.Prelude.{◌≡◌, ℕ, ◌<◌, ◌≤◌, length}
use Rattle.tables.specs.Verdict.{at}
use Rattle.contents.specs.Contents.{start_at}
use Rattle.contents.proofs.cores.make_starts.Given as goal

abbrev pub invariant-loop-j : goal.invariant-loop-j
invariant-loop-j l = (length l.starts ≡ length l.initial.starts) × (l.p ≤ length l.columns) × ((q : ℕ) → q < l.p → at l.columns q < l.j) × ((i : ℕ) → i < l.j → at l.starts i ≡ start_at l.columns i)
