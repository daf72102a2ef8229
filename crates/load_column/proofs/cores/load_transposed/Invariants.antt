-- `load_column::cores::load_transposed` meets its contract. Assumes nothing.
use Rattle.std.specs.Prelude.{◌≡◌, ◌+◌, ◌-◌, ◌*◌, ◌≤◌}
use Rattle.scalars.specs.Bodies.{transposed}
use Rattle.scalars.proofs.Filling.{Filled}
use Rattle.load_column.proofs.BodyLaws.{added}
use Rattle.load_column.proofs.cores.load_transposed.Given as goal

abbrev pub invariant-loop-c : goal.invariant-loop-c
invariant-loop-c l = (l.c ≤ l.w) × Filled (added (transposed l.h l.w l.body)) l.y l.place × (l.place ≡ l.c + l.r * l.w)

abbrev pub decreases-loop-c : goal.decreases-loop-c
decreases-loop-c l = l.w - l.c

abbrev pub invariant-loop-r : goal.invariant-loop-r
invariant-loop-r l = (l.r ≤ l.h) × Filled (added (transposed l.h l.w l.body)) l.y l.place × (l.place ≡ l.r * l.w)

abbrev pub decreases-loop-r : goal.decreases-loop-r
decreases-loop-r l = l.h - l.r
