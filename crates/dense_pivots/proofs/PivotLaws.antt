-- The laws of the account of stored pivots. Assumes nothing.
use Rattle.std.specs.Prelude.{◌≡◌, ℕ, ◌+◌, ◌<◌, ◌≤◌, Bool, true, false, cond, List, [], ◌∷◌, ◌++◌, length, get_or}
use mathlib.Core.Path.{sym, ap, ◌∙◌}
use native.Mathlib.Nat.{le_antisymm}
use native.Mathlib.Numerals.{add-one}
use native.Mathlib.Omega.{arith}
use lib.ListN.{get_or-append}
use lib.Seq.{get_or_at}
use lib.Ieee.{Float, nan, eq}
use Rattle.scalar.specs.Loop.{steps}
use Rattle.scalar.specs.Scalar.{nought}
use Rattle.scalar.proofs.Laws.{steps-same}
use Rattle.dense_pivots.specs.Pivots.{no_pivots, counted, pivots_of}
use Rattle.dense_pivots.specs.declared.cores.Pivots.{Pivots}

-- one more pivot raises the rank by one at most
of_either : (b : Bool) (p q : Pivots) (m : ℕ) → p.rank ≤ m → q.rank ≤ m → (cond b p q).rank ≤ m
of_either true p q m h k = h
of_either false p q m h k = k

pub rank-grows : (x : Float) (p : Pivots) → (counted x p).rank ≤ p.rank + 1
unfolding counted
rank-grows x p = of_either (eq x nought) _ _ _ (omega arith) (omega arith)

-- the account of the first i reads those alone
pub account-same : (d e : List Float) (i : ℕ) → ((p : ℕ) → p < i → get_or d p nan ≡ get_or e p nan) → pivots_of d i ≡ pivots_of e i
unfolding pivots_of
account-same d e i same = steps-same _ _ i (λ p a h. ap (λ (x : Float). counted x a) (same p h)) no_pivots

account-next : (e : List Float) (j : ℕ) → counted (get_or e j nan) (pivots_of e j) ≡ pivots_of e (j + 1)
unfolding pivots_of steps
account-next e j = rw add-one

-- the account with one more pivot stored
pub account-more : (d : List Float) (j : ℕ) (x : Float) → length d ≡ j → counted x (pivots_of d j) ≡ pivots_of (d ++ (x ∷ [])) (j + 1)
account-more d j x e =
    ap (counted x) (account-same d (d ++ (x ∷ [])) j (λ p h. sym (get_or-append d (x ∷ []) nan p (omega arith))))
    ∙ ap (λ (y : Float). counted y (pivots_of (d ++ (x ∷ [])) j)) (sym (get_or_at d x [] nan j e))
    ∙ account-next (d ++ (x ∷ [])) j

-- after the last row
pub account-all : (d : List Float) (p : Pivots) (i n : ℕ) → p ≡ pivots_of d i → i ≤ n → n ≤ i → p ≡ pivots_of d n
account-all d p i n e l g = rw (← le_antisymm l g) e
