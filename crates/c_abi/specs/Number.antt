-- What an exported call answers: the refusal's number, or 0 where it is accepted, and its buffers. Assumes nothing.
use Rattle.std.specs.Prelude.{ℕ, List, ◌≡◌, Float}
use Rattle.refusal.specs.Refusal.{Told, number, after}

-- of a decomposition, which writes two
abbrev pub numbered : Told × List Float × List Float → ℕ × List Float × List Float
numbered (t, a, d) = (number t, a, d)

-- of a call that writes one
pub record Numbers (v : Told) (old new : List Float) (r : ℕ) (now : List Float) : Type 0 where
  pub outcome : r ≡ number v
  pub buffer : now ≡ after v old new
