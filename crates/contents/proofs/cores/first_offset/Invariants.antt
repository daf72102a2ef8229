-- `contents::cores::first_offset` meets its contract: a search, one turn an entry, with the numbers of the bodies passed.
-- Assumes nothing.
use Rattle.std.specs.Prelude.{◌≡◌, ◌<◌, true, ℕ, ◌*◌, ◌≤◌, length}
use Rattle.scalars.specs.Bodies.{offset_at}
use Rattle.contents.specs.Contents.{starts_from, offset_fits}
use Rattle.contents.proofs.cores.first_offset.Given as goal

abbrev pub invariant-loop-p : goal.invariant-loop-p
invariant-loop-p l = ((k : ℕ) → k < l.p → offset_fits l.dims l.rows l.columns l.offsets l.bodies k ≡ true) × (l.sum ≡ offset_at l.dims (starts_from l.columns (length l.dims)) l.rows l.p) × (l.sum ≤ 256 * l.p)
