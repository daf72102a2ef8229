-- A call's answer as the library words it. Assumes nothing.
use Rattle.std.specs.Prelude.{List, [], ◌∷◌, take, ℕ, ◌<◌, ◌≡◌}
use Rattle.refusal.specs.Refusal.{tells}
use Rattle.refusal.specs.Refusal as refusal
use Rattle.replay.specs.Words.{word_at, word_float, onward}
use Rattle.vector_answers.specs.declared.Told.{Told}

-- the number, as many indices as count, the float where it counts
abbrev pub spelled : Told → refusal.Told
spelled t = tells t.number (take t.indices (t.first ∷ t.second ∷ [])) (take t.floats (t.float ∷ []))

-- an answer as the list writes it from a place on: its number, how many indices and those that count, how many floats and the one that counts
pub record Listed (s : List ℕ) (at : ℕ) (t : Told) : Type 0 where
  pub number : word_at s at ≡ t.number
  pub indices : word_at s (onward at 1) ≡ t.indices
  pub first : 0 < t.indices → word_at s (onward at 2) ≡ t.first
  pub second : 1 < t.indices → word_at s (onward at 3) ≡ t.second
  pub floats : word_at s (onward at (onward 2 t.indices)) ≡ t.floats
  pub float : 0 < t.floats → word_float s (onward (onward at (onward 2 t.indices)) 1) ≡ t.float
