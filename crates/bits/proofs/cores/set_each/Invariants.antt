-- The loop of `bits::cores::set_each`: the places passed hold what they are to. Assumes nothing.
use Rattle.std.specs.Prelude.{◌≡◌, ℕ, ◌<◌, length, slice_get, Some}
use Rattle.bits.proofs.cores.set_each.Given as goal

abbrev pub invariant-loop-k : goal.invariant-loop-k
invariant-loop-k g l = (length l.out ≡ length l.initial.out) × ((f : ℕ → g.row.T.Denot) → ((k : ℕ) (x : g.row.T.Denot) → k < length l.initial.out → goal.F-post g l.value k x → x ≡ f k) → (k : ℕ) → k < l.k → slice_get l.out k ≡ Some (f k))
