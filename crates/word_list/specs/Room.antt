-- A length held to the room for it. Assumes nothing.
use Rattle.std.specs.Prelude.{ℕ, ◌≤◌, ◌≡◌}

pub record Held (n room r : ℕ) : Type 0 where
  pub fits : r ≤ room
  pub same : n ≤ room → r ≡ n
  pub full : room ≤ n → r ≡ room
