-- The division by D inside the back substitution: to divide the first m numbers reads and changes none from m on, so it may wait until the
-- rows from m on are done.
--     kept, apart, last-divided      the first m numbers divided
--     row_apart, row-divided, turn   row m of the back substitution
--     ahead_none, -more, -all        how far the loop is
-- Assumes nothing.
use Rattle.std.specs.Prelude.{◌≡◌, ℕ, zero, suc, ◌+◌, ◌-◌, ◌<◌, ◌≤◌, List, length, get_or, set}
use mathlib.Core.Path.{refl, sym, ap, ◌∙◌}
use native.Mathlib.Omega.{arith}
use lib.Ieee.{Float, nan}
use lib.Seq.{get_or-set_same, get_or-set_other, set-set, set_comm}
use Rattle.scalar.specs.Loop.{steps}
use Rattle.scalar.specs.Block.{at, lose}
use Rattle.scalar.proofs.Laws.{steps_next, steps_all, steps-same}
use Rattle.kernel_diag.specs.Diag.{quotient, diag_solve}
use Rattle.kernel_lower_transpose.specs.Transpose.{transpose_row, lower_transpose_solve}

-- y(i) / d(i)
abbrev pub quotient_at : (d y : List Float) → ℕ → Float
quotient_at d y i = quotient (get_or y i nan) (get_or d i nan)

-- y with its first m numbers divided: `diag_solve n` is all n of them
abbrev divided : (d : List Float) → ℕ → List Float → List Float
divided d = steps (λ i y. set y i (quotient_at d y i))

-- s less the products of row m with the t numbers of y after it
abbrev pub loses : (n : ℕ) → (l : List Float) → (m t : ℕ) → List Float → Float → Float
loses n l m t y = steps (λ u s. lose s (at l n (m + 1 + u) m) (get_or y (m + 1 + u) nan)) t

-- ---- the first m numbers divided

module _ (d : List Float) where
  -- one from m on is not changed
  kept : (m k : ℕ) (y : List Float) → m ≤ k → get_or (divided d m y) k nan ≡ get_or y k nan
  unfolding steps
  kept zero k y h = refl
  kept (suc m) k y h = get_or-set_other (divided d m y) m k (quotient_at d (divided d m y) m) nan (λ e. omega arith) ∙ kept m k y (omega arith)

  -- nor read: it may be written before or after
  apart : (m k : ℕ) (y : List Float) (a : Float) → m ≤ k → divided d m (set y k a) ≡ set (divided d m y) k a
  unfolding steps
  apart zero k y a h = refl
  apart (suc m) k y a h =
      rw (apart m k y a (omega arith), get_or-set_other (divided d m y) k m a nan (λ e. omega arith))
      (set_comm (divided d m y) k m a (quotient_at d (divided d m y) m) (λ e. omega arith))

  -- so number m may be divided before them
  last-divided : (m : ℕ) (y : List Float) → divided d (suc m) y ≡ divided d m (set y m (quotient_at d y m))
  unfolding steps
  last-divided m y = rw (kept m m y (omega arith)) (sym (apart m m y (quotient_at d y m) (omega arith)))

-- ---- row m of the back substitution, which t others follow

module _ (n : ℕ) (l d : List Float) (m t : ℕ) where
  -- only the numbers after m count
  loses-same : (y z : List Float) → ((k : ℕ) → m < k → get_or y k nan ≡ get_or z k nan) → (s : Float) → loses n l m t y s ≡ loses n l m t z s
  loses-same y z same = steps-same _ _ t (λ u s h. ap (lose s (at l n (m + 1 + u) m)) (same (m + 1 + u) (omega arith)))

  -- those before m may be divided before the row or after it
  row_apart : (y : List Float) → transpose_row n l m t (divided d m y) ≡ divided d m (transpose_row n l m t y)
  row_apart y =
      rw (kept d m m y (omega arith), loses-same (divided d m y) y (λ k h. kept d m k y (omega arith)) (get_or y m nan))
      (sym (apart d m m y (loses n l m t y (get_or y m nan)) (omega arith)))

  -- a number that is stored and then loses need not be stored first
  row-divided : (y : List Float) (q : Float) → m < length y → transpose_row n l m t (set y m q) ≡ set y m (loses n l m t y q)
  row-divided y q h = rw (set-set, get_or-set_same y m q nan h, loses-same (set y m q) y (λ k g. get_or-set_other y m k q nan (λ e. omega arith)) q)

  -- the row divided at its turn, then those before it, for all of them divided, then the row
  turn : (y : List Float) → m < length y → divided d m (set y m (loses n l m t y (quotient_at d y m))) ≡ transpose_row n l m t (divided d (suc m) y)
  turn y h =
      sym (ap (transpose_row n l m t) (last-divided d m y) ∙ row_apart (set y m (quotient_at d y m)) ∙ ap (divided d m) (row-divided y (quotient_at d y m) h))

-- ---- how far the loop is: with the numbers before its rows divided too, x is what the definition's loop has after t turns

pub record Ahead (n : ℕ) (l d x₀ : List Float) (t : ℕ) (x : List Float) : Type 0 where
  pub far : divided d (n - t) x ≡ steps (λ t. transpose_row n l (n - 1 - t) t) t (diag_solve n d x₀)

module _ (n : ℕ) (l d x₀ : List Float) where
  pub ahead_none : Ahead n l d x₀ 0 x₀
  unfolding steps diag_solve
  ahead_none = let e : n - 0 ≡ n = omega arith in record { far = rw e }

  pub ahead_more : (t : ℕ) (x : List Float) (s : Float) → t < n → length x ≡ n → Ahead n l d x₀ t x
      → s ≡ loses n l (n - 1 - t) t x (quotient_at d x (n - 1 - t)) → Ahead n l d x₀ (t + 1) (set x (n - 1 - t) s)
  ahead_more t x s h long a e =
      let below : n - (t + 1) ≡ n - 1 - t = omega arith in
      let more : n - t ≡ suc (n - 1 - t) = omega arith in
      record { far = steps_next _ _ _ _ _ a.far (rw (below, more, e) (turn n l d (n - 1 - t) t x (omega arith))) }

  pub ahead_all : (t : ℕ) (x : List Float) → t ≤ n → n ≤ t → Ahead n l d x₀ t x → x ≡ lower_transpose_solve n l (diag_solve n d x₀)
  unfolding steps lower_transpose_solve
  ahead_all t x p q a = let e : n - t ≡ 0 = omega arith in steps_all (λ t'. transpose_row n l (n - 1 - t') t') t n (diag_solve n d x₀) x (rw e at a.far) p q
