-- A counted loop. Assumes nothing.
use Rattle.std.specs.Prelude.{ℕ, zero, suc}

-- what `for k in 0..n { a = f(k, a); }` leaves in `a`
unfoldable pub steps : {A : Type 0} → (ℕ → A → A) → ℕ → A → A
steps f zero a = a
steps f (suc k) a = f k (steps f k a)
