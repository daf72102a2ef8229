-- A buffer that was cleared. Assumes nothing.
use Rattle.std.specs.Prelude.{◌≡◌, ℕ, List, replicate}
use mathlib.Core.Path.{ap, ◌∙◌}

-- zeros of one length are zeros of an equal length
pub zero_of : {n m : ℕ} {xs : List ℕ} → xs ≡ replicate m 0 → m ≡ n → xs ≡ replicate n 0
zero_of e f = e ∙ ap (λ (k : ℕ). replicate k 0) f
