-- `scalars::cores::transpose` meets its contract. Assumes nothing.
use Rattle.std.specs.Prelude.{◌≡◌, ◌+◌, ◌-◌, ◌*◌, ◌≤◌}
use Rattle.scalars.specs.Bodies.{transposed}
use Rattle.scalars.proofs.Filling.{Filled}
use Rattle.scalars.proofs.cores.transpose.Given as goal

abbrev pub invariant-loop-c : goal.invariant-loop-c
invariant-loop-c l = (l.c ≤ l.w) × Filled (transposed l.h l.w l.body) l.out l.place × (l.place ≡ l.c + l.r * l.w)

abbrev pub decreases-loop-c : goal.decreases-loop-c
decreases-loop-c l = l.w - l.c

abbrev pub invariant-loop-r : goal.invariant-loop-r
invariant-loop-r l = (l.r ≤ l.h) × Filled (transposed l.h l.w l.body) l.out l.place × (l.place ≡ l.r * l.w)

abbrev pub decreases-loop-r : goal.decreases-loop-r
decreases-loop-r l = l.h - l.r
