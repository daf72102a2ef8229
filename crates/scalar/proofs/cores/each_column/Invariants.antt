-- `scalar::cores::each_column` meets its contract: how far the loop is, whatever each step does. Assumes nothing.
use Rattle.std.proofs.Common.{◌≡◌, ◌*◌, List, Float, length, ◌≤◌}
use Rattle.scalar.specs.Block.{within}
use Rattle.scalar.specs.Loop.{steps}
use Rattle.scalar.proofs.cores.each_column.Given as goal

abbrev pub invariant-loop-c : goal.invariant-loop-c
invariant-loop-c g l = (l.c ≤ l.count) × (length l.y ≡ l.height * l.count) × ((f : List Float → List Float) → ((x z : _) → length x.now ≡ l.height → goal.F-post g l.step x tt z → z.now ≡ f x.now) → l.y ≡ steps (λ c. within (c * l.height) l.height f) l.c l.initial.y)
