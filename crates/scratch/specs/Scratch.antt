-- What is lent to a plan to work in, before and after. Assumes nothing.
use Rattle.std.specs.Prelude.{◌≡◌, ℕ, ◌+◌, length, replicate}
use Rattle.scratch.specs.declared.Scratch.{Scratch}

-- each buffer is still the one that was lent, as long as it was
pub record SameScratch (w x : Scratch) : Type 0 where
  pub inverse : (x.inverse.ghost_name ≡ w.inverse.ghost_name) × (length x.inverse.now ≡ length w.inverse.now)
  pub sizes : (x.sizes.ghost_name ≡ w.sizes.ghost_name) × (length x.sizes.now ≡ length w.sizes.now)
  pub count : (x.count.ghost_name ≡ w.count.ghost_name) × (length x.count.now ≡ length w.count.now)
  pub heads : (x.heads.ghost_name ≡ w.heads.ghost_name) × (length x.heads.now ≡ length w.heads.now)
  pub into : (x.into.ghost_name ≡ w.into.ghost_name) × (length x.into.now ≡ length w.into.now)
  pub stamps : (x.stamps.ghost_name ≡ w.stamps.ghost_name) × (length x.stamps.now ≡ length w.stamps.now)
  pub table : (x.table.ghost_name ≡ w.table.ghost_name) × (length x.table.now ≡ length w.table.now)
  pub upper : (x.upper.ghost_name ≡ w.upper.ghost_name) × (length x.upper.now ≡ length w.upper.now)

-- each buffer is zeros
pub record Cleared (w x : Scratch) : Type 0 where
  pub inverse : x.inverse.now ≡ replicate (length w.inverse.now) 0
  pub sizes : x.sizes.now ≡ replicate (length w.sizes.now) 0
  pub count : x.count.now ≡ replicate (length w.count.now) 0
  pub heads : x.heads.now ≡ replicate (length w.heads.now) 0
  pub into : x.into.now ≡ replicate (length w.into.now) 0
  pub stamps : x.stamps.now ≡ replicate (length w.stamps.now) 0
  pub table : x.table.now ≡ replicate (length w.table.now) 0
  pub upper : x.upper.now ≡ replicate (length w.upper.now) 0

-- each buffer has exactly what n blocks with m stored need
pub record Room (n m : ℕ) (w : Scratch) : Type 0 where
  pub inverse : length w.inverse.now ≡ n
  pub sizes : length w.sizes.now ≡ n
  pub count : length w.count.now ≡ n
  pub heads : length w.heads.now ≡ n + 1
  pub into : length w.into.now ≡ n + 1
  pub stamps : length w.stamps.now ≡ n
  pub table : length w.table.now ≡ m
  pub upper : length w.upper.now ≡ m
