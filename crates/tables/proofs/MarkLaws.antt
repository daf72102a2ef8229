-- The marks of a permutation's entries say which numbers came before, and a place that passes repeats none. Assumes nothing.
--     marked-none    before the first entry, all are 0
--     marked_more    one more entry, one more mark
--     unmarked       what a mark of 0 says
--     perm-parts, perm-fresh    what a place that passed says
--     elem-before   what a place that repeats an entry says
use Rattle.std.specs.Prelude.{◌≡◌, ℕ, zero, suc, ◌+◌, ◌<◌, Bool, true, false, not, ◌&&◌, ◌||◌, eqb, ltb, List, [], ◌∷◌, ◌++◌, length, take, set, replicate}
use mathlib.Core.Path.{refl, sym, ap, ◌∙◌}
use native.Mathlib.Numerals.{add-one}
use native.Mathlib.Omega.{arith}
use borrow.Author.Tests.{eqb-true, eqb-false, lt-ltb, ltb-true, eq-eqb}
use lib.ListN.{length-set, length-replicate, get_or-replicate}
use lib.Seq.{length-take-le, get_or-take, take-suc, get_or-set_same, get_or-set_other}
use Rattle.tables.proofs.Bools.{and_left, and_right, or_assoc, or-true, or-false}
use Rattle.graph.specs.Sets.{elem}
use Rattle.tables.specs.Verdict.{at, perm_ok}
use Rattle.tables.specs.Sound.{Marked, flag}

elem-snoc : (x y : ℕ) (xs : List ℕ) → elem x (xs ++ (y ∷ [])) ≡ (elem x xs || eqb x y)
elem-snoc x y [] = or-false (eqb x y)
elem-snoc x y (z ∷ xs) = ap (λ (b : Bool). eqb x z || b) (elem-snoc x y xs) ∙ or_assoc (eqb x z) (elem x xs) (eqb x y)

elem_next : (perm : List ℕ) (k v : ℕ) → k < length perm → elem v (take (k + 1) perm) ≡ (elem v (take k perm) || eqb v (at perm k))
elem_next perm k v h = rw (add-one, take-suc perm k 0) (elem-snoc v (at perm k) (take k perm))

pub marked-none : (perm : List ℕ) → Marked (replicate 4096 0) (take 0 perm)
marked-none perm = record { long = length-replicate {A = ℕ} 4096 0; marks = λ v h. get_or-replicate {A = ℕ} 4096 v 0 0 h }

module _ (seen perm : List ℕ) (k : ℕ) (m : Marked seen (take k perm)) (h : k < length perm) (q : at perm k < 4096) where
  after : (v : ℕ) → v < 4096 → (b : Bool) → eqb v (at perm k) ≡ b → at (set seen (at perm k) 1) v ≡ flag (elem v (take (k + 1) perm))
  after v l true e =
      let here : at (set seen (at perm k) 1) v ≡ 1 = rw (eqb-true v (at perm k) e) (get_or-set_same seen (at perm k) 1 0 (omega (arith, m.long))) in
      here ∙ sym (ap flag (elem_next perm k v h ∙ ap (λ (b : Bool). elem v (take k perm) || b) e ∙ or-true (elem v (take k perm))))
  after v l false e =
      get_or-set_other seen (at perm k) v 1 0 (eqb-false v (at perm k) e)
      ∙ m.marks v l
      ∙ sym (ap flag (elem_next perm k v h ∙ ap (λ (b : Bool). elem v (take k perm) || b) e ∙ or-false (elem v (take k perm))))

  pub marked_more : Marked (set seen (at perm k) 1) (take (k + 1) perm)
  marked_more = record { long = length-set seen (at perm k) 1 ∙ m.long; marks = λ v l. after v l (eqb v (at perm k)) refl }

-- a mark that is 0 says that its number is not among them
pub unmarked : (seen xs : List ℕ) (v : ℕ) → Marked seen xs → v < 4096 → eqb (at seen v) 0 ≡ not (elem v xs)
unmarked seen xs v m l = rw (m.marks v l) (zero_flag (elem v xs))
  where
    zero_flag : (b : Bool) → eqb (flag b) 0 ≡ not b
    zero_flag true = refl
    zero_flag false = refl

pub perm-parts : (perm : List ℕ) (n k : ℕ) → k < n → perm_ok perm n k ≡ true → (k < length perm) × (at perm k < n)
unfolding perm_ok
perm-parts perm n k h e =
    let p = ltb k (length perm) in
    let r = ltb (at perm k) n in
    let t = not (elem (at perm k) (take k perm)) in
    let f : (p && r && t) ≡ true = rw (lt-ltb k n h) at e in
    let g : (p && r) ≡ true = and_left (p && r) t f in
    (ltb-true k (length perm) (and_left p r g), ltb-true (at perm k) n (and_right p r g))

pub perm-fresh : (perm : List ℕ) (n k : ℕ) → k < n → perm_ok perm n k ≡ true → not (elem (at perm k) (take k perm)) ≡ true
unfolding perm_ok
perm-fresh perm n k h e = and_right (ltb k (length perm) && ltb (at perm k) n) _ (rw (lt-ltb k n h) at e)

elem_at : (xs : List ℕ) (i : ℕ) → i < length xs → elem (at xs i) xs ≡ true
elem_at [] i h = absurd (omega arith)
elem_at (y ∷ ys) zero h = rw (eq-eqb y y refl)
elem_at (y ∷ ys) (suc i) h = ap (λ (b : Bool). eqb (at ys i) y || b) (elem_at ys i (omega arith)) ∙ or-true (eqb (at ys i) y)

-- an entry that is the same as one before it is among those before it
pub elem-before : (perm : List ℕ) (k i : ℕ) → i < k → k < length perm → at perm i ≡ at perm k → elem (at perm k) (take k perm) ≡ true
elem-before perm k i h l e =
    let size : length (take k perm) ≡ k = length-take-le k perm (omega arith) in
    let same : at (take k perm) i ≡ at perm k = get_or-take k perm i 0 h ∙ e in
    rw same at (elem_at (take k perm) i (omega arith))
