-- The cache's need and what is left in it.
--     lesser-first, lesser-second, lesser-within    the lesser of two
--     cleared-front, cleared-to                     a front of zeros
--     none_kept                                     a call that is lent no cache
-- Assumes nothing.
use Rattle.std.specs.Prelude.{◌≡◌, ℕ, zero, suc, ◌+◌, ◌<◌, ◌≤◌, Bool, true, false, cond, ltb, List, ◌++◌, length, take, drop}
use mathlib.Core.Path.{refl, sym, ap, ◌∙◌}
use mathlib.Core.Logic.{⊎_elim}
use native.Mathlib.Omega.{arith}
use borrow.Author.Tests.{lt-ltb, le-ltb}
use lib.Ieee.{Float}
use lib.ListN.{drop_of_length-le}
use lib.Seq.{length-take-le}
use Rattle.scalar.specs.Block.{zeros}
use Rattle.refusal.specs.Refusal.{Told, tells, done, short_buffer, first_of}
use Rattle.refusal.specs.Check.{need_check}
use Rattle.refusal.proofs.Laws.{need-met}
use Rattle.tables.proofs.SearchLaws.{lt-or-ge}
use Rattle.machine.specs.System.{System}
use Rattle.factor_setup.specs.Exact.{stored, numbers}
use Rattle.factor_core.specs.Factorize.{Places, whole}
use Rattle.factor_core.specs.Cache.{lesser, whole_kept, cleared_to}

-- ---- the lesser of two

pub lesser-first : (m n : ℕ) → m < n → lesser m n ≡ m
lesser-first m n h = rw (lt-ltb m n h)

pub lesser-second : (m n : ℕ) → n ≤ m → lesser m n ≡ n
lesser-second m n h = rw (le-ltb m n h)

pub lesser-within : (m n : ℕ) → (lesser m n ≤ m) × (lesser m n ≤ n)
lesser-within m n =
    ⊎_elim (λ (l : m < n). let e = lesser-first m n l in (omega arith, omega arith))
    (λ (l : n ≤ m). let e = lesser-second m n l in (omega arith, omega arith)) (lt-or-ge m n)

-- ---- a front of zeros

-- where there are so many
pub cleared-front : (n : ℕ) (xs : List Float) → n ≤ length xs → zeros (length (take n xs)) ++ drop n xs ≡ cleared_to n xs
cleared-front n xs h = ap (λ (m : ℕ). zeros m ++ drop n xs) (length-take-le n xs h ∙ sym (kept n (length xs) h))
  where
    kept : (m k : ℕ) → m ≤ k → lesser m k ≡ m
    kept m k h = ⊎_elim (lesser-first m k) (λ (l : k ≤ m). lesser-second m k l ∙ omega arith) (lt-or-ge m k)

-- as far as there are so many
pub cleared-to : (n : ℕ) (xs : List Float) → zeros (length (take (lesser n (length xs)) xs)) ++ drop (lesser n (length xs)) xs ≡ cleared_to n xs
cleared-to n xs =
    ⊎_elim (λ (l : n < length xs). rw (lesser-first n (length xs) l) (ap (λ (m : ℕ). zeros m ++ drop n xs) (length-take-le n xs (omega arith))))
    (λ (l : length xs ≤ n). rw (lesser-second n (length xs) l, length-take-le (length xs) xs (omega arith), drop_of_length-le xs {i = length xs} (omega arith), drop_of_length-le xs {i = n} l) refl) (lt-or-ge n (length xs))

-- ---- a call that is lent no cache

-- where none may be kept, none is needed, and the needs are those of a call that is lent no cache
pub none_kept : (v : Told) (a : System) (b : Places) → whole_kept v 0 a b 0 ≡ whole v a b
unfolding whole whole_kept
none_kept v a b =
    ap (λ (x : Told). first_of x (need_check 3 (length b.l_rows) (stored a)))
    (ap (first_of (first_of (first_of v (need_check 4 (length b.l_offsets) (stored a + 1))) (need_check 5 (length b.l_values) (numbers a))))
    (need-met 21 0 (lesser (numbers a) 0) (lesser-within (numbers a) 0).1) ∙ last_done (first_of v (need_check 4 (length b.l_offsets) (stored a + 1))) (length b.l_values) (numbers a))
  where
    need-told : (have need : ℕ) → first_of (need_check 5 have need) done ≡ need_check 5 have need
    need-told have need = by_if (ltb have need)
      where
        by_if : (t : Bool) → first_of (cond t (short_buffer 5 need) done) done ≡ cond t (short_buffer 5 need) done
        by_if true = refl
        by_if false = refl

    last_done : (u : Told) (have need : ℕ) → first_of (first_of u (need_check 5 have need)) done ≡ first_of u (need_check 5 have need)
    last_done (tells zero is xs) have need = need-told have need
    last_done (tells (suc n) is xs) have need = refl
