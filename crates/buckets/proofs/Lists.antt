-- Small laws on lists and numbers that the library lacks. Assumes nothing.
use Rattle.std.specs.Prelude.{◌≡◌, ℕ, zero, suc, ◌+◌, ◌-◌, ◌<◌, ◌≤◌, Bool, true, false, T, eqb, ◌⊎◌, List, [], ◌∷◌, ◌++◌, map, length, get_or, take, drop, set, replicate}
use mathlib.Core.Path.{refl, sym, ap, ◌∙◌}
use mathlib.Core.Logic.{inl, inr, ⊎_elim}
use native.Mathlib.Omega.{arith}
use lib.Dec.{eqb→eq}
use lib.ListN.{length-append}
use lib.Seq.{slice, take-nil}
use Rattle.graph.specs.Sets.{elem, keep, filter, from}
use Rattle.graph.proofs.OrderLaws.{filter-append}
use Rattle.graph.proofs.SetLaws.{decide, true_of, eqb_of, elem-head, elem-tail}

-- two numbers are equal, or they are not
pub same? : (a b : ℕ) → (a ≡ b) ⊎ (a ≡ b → ⊥)
same? a b = ⊎_elim (λ t. inl (eqb→eq a b t)) (λ n. inr (λ e. n (eqb_of e))) (decide (eqb a b))

pub map-set : {A B : Type 0} (f : A → B) (l : List A) (i : ℕ) (a : A) → map f (set l i a) ≡ set (map f l) i (f a)
map-set f [] i a = refl
map-set f (x ∷ l) zero a = refl
map-set {B = B} f (x ∷ l) (suc i) a = ap {B = List B} (λ r. f x ∷ r) (map-set f l i a)

pub map-replicate : {A B : Type 0} (f : A → B) (n : ℕ) (a : A) → map f (replicate n a) ≡ replicate n (f a)
map-replicate f zero a = refl
map-replicate {B = B} f (suc n) a = ap {B = List B} (λ r. f a ∷ r) (map-replicate f n a)

-- a place of the list does not ask the default
pub get_or_any : {A : Type 0} (l : List A) (i : ℕ) (d e : A) → i < length l → get_or l i d ≡ get_or l i e
get_or_any [] i d e h = absurd (omega arith)
get_or_any (x ∷ l) zero d e h = refl
get_or_any (x ∷ l) (suc i) d e h = get_or_any l i d e (omega arith)

-- ---- runs of numbers, filtered

pub from-split : (a c d : ℕ) → from a (c + d) ≡ from a c ++ from (a + c) d
from-split a zero d =
    let e : a + 0 ≡ a = omega arith in
    let z : 0 + d ≡ d = omega arith in
    ap (from a) z ∙ ap (λ (m : ℕ). from m d) (sym e)
from-split a (suc c) d =
    let e : suc a + c ≡ a + suc c = omega arith in
    let s : suc c + d ≡ suc (c + d) = omega arith in
    ap (from a) s ∙ ap {B = List ℕ} (λ l. a ∷ l) (from-split (suc a) c d ∙ ap (λ (m : ℕ). from (suc a) c ++ from m d) e)

-- one number more
pub filter-snoc : (p : ℕ → Bool) (j : ℕ) → filter p (from 0 (suc j)) ≡ filter p (from 0 j) ++ keep (p j) j []
filter-snoc p j =
    let s : suc j ≡ j + 1 = omega arith in
    let z : 0 + j ≡ j = omega arith in
    ap (λ (m : ℕ). filter p (from 0 m)) s ∙ ap (filter p) (from-split 0 j 1) ∙ filter-append p (from 0 j) (from (0 + j) 1) ∙ ap (λ (m : ℕ). filter p (from 0 j) ++ keep (p m) m []) z

-- as many as there are at most
pub filter-few : (p : ℕ → Bool) (a c : ℕ) → length (filter p (from a c)) ≤ c
filter-few p a zero = omega arith
filter-few p a (suc c) = go (p a) (filter-few p (suc a) c)
  where
    go : (b : Bool) → length (filter p (from (suc a) c)) ≤ c → length (keep b a (filter p (from (suc a) c))) ≤ suc c
    go true h = omega arith
    go false h = omega arith

-- and more once one has passed
pub filter_more : (p : ℕ → Bool) (j n : ℕ) → j < n → T (p j) → length (filter p (from 0 j)) < length (filter p (from 0 n))
filter_more p j n h t =
    let e : n ≡ suc j + (n - suc j) = omega arith in
    let a = ap {A = List ℕ} length (ap (λ (m : ℕ). filter p (from 0 m)) e ∙ ap (filter p) (from-split 0 (suc j) (n - suc j)) ∙ filter-append p (from 0 (suc j)) (from (0 + suc j) (n - suc j)))
    ∙ length-append (filter p (from 0 (suc j))) (filter p (from (0 + suc j) (n - suc j))) in
    let b = ap {A = List ℕ} length (filter-snoc p j ∙ ap (λ (c : Bool). filter p (from 0 j) ++ keep c j []) (true_of (p j) t)) ∙ length-append (filter p (from 0 j)) (j ∷ []) in
    omega arith

-- a part that is lent, as the borrow checker writes it, is a slice
pub part_slice : (xs : List ℕ) (a e : ℕ) → take (e - a) (drop a xs) ≡ slice a e xs
part_slice xs zero e = let z : e - 0 ≡ e = omega arith in ap (λ (m : ℕ). take m xs) z
part_slice [] (suc a) e = take-nil (e - suc a) ∙ ap (drop (suc a)) (sym (take-nil e))
part_slice (x ∷ xs) (suc a) zero = let z : 0 - suc a ≡ 0 = omega arith in ap (λ (m : ℕ). take m (drop a xs)) z
part_slice (x ∷ xs) (suc a) (suc e) = let z : suc e - suc a ≡ e - a = omega arith in ap (λ (m : ℕ). take m (drop a xs)) z ∙ part_slice xs a e

-- an entry is one of the list
pub elem_at : (l : List ℕ) (i : ℕ) → i < length l → T (elem (get_or l i 0) l)
elem_at [] i h = absurd (omega arith)
elem_at (x ∷ l) zero h = elem-head x l
elem_at (x ∷ l) (suc i) h = elem-tail (get_or l i 0) x l (elem_at l i (omega arith))

-- an entry of a list with another behind it
pub front : (xs ys : List ℕ) (k : ℕ) → k < length xs → get_or (xs ++ ys) k 0 ≡ get_or xs k 0
front [] ys k h = absurd (omega arith)
front (x ∷ xs) ys zero h = refl
front (x ∷ xs) ys (suc k) h = let g : suc k < suc (length xs) = h in front xs ys k (omega arith)
