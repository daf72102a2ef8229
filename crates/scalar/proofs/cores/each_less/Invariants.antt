-- `scalar::cores::each_less` meets its contract: how far the loop is, whatever is lost. Assumes nothing.
use Rattle.std.specs.Prelude.{◌≡◌, ℕ, ◌<◌, ◌≤◌, Float, length, slice_index_or, slice_set}
use Rattle.std.specs.Float.{nan, binary64}
use Rattle.std.specs.Float.Ieee.{sub}
use Rattle.scalar.specs.Loop.{steps}
use Rattle.scalar.proofs.cores.each_less.Given as goal

abbrev pub invariant-loop-k : goal.invariant-loop-k
invariant-loop-k g l = (l.k ≤ length l.y) × (length l.y ≡ length l.initial.y) × ((f : ℕ → Float) → ((k : ℕ) (v : Float) → k < length l.initial.y → goal.F-post g l.loss k v → v ≡ f k) → l.y ≡ steps (λ k z. slice_set z k (sub binary64 (slice_index_or z k nan) (f k))) l.k l.initial.y)
