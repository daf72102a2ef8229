-- Sums over lists of numbers: two sums change places, and a sum over a list without repetitions is a weighted sum over any list that holds it.
use Prim.Native.Nat.{ℕ, zero, suc, ◌+◌, ◌*◌, ◌/◌, ◌<◌}
use mathlib.Core.Bool.{Bool, true, false, ◌||◌}
use mathlib.Core.List.{List, [], ◌∷◌}
use mathlib.Core.Logic.{⊎_elim}
use mathlib.Core.Path.{◌≡◌, refl, sym, ap, ap₂, subst, ◌∙◌}
use native.Mathlib.Omega.{arith}
use native.Mathlib.Nat.{suc-mul, mul-suc, suc-add}
use lib.Dec.{T, eqb, ltb, eqb→eq, ltb→lt, lt→ltb}
use lib.ListN.{length, length-append}
use Rattle.graph.specs.Sets.{elem, keep, filter, sum, gather, Inc, Uniq}
use Rattle.graph.proofs.SetLaws.{true_of, false_of, decide, eqb_of, elem-head, elem-tail, elem-cases}

pub sum-ext : (l : List ℕ) (f g : ℕ → ℕ) → ((x : ℕ) → T (elem x l) → f x ≡ g x) → sum l f ≡ sum l g
sum-ext [] f g h = refl
sum-ext (x ∷ l) f g h = ap₂ ◌+◌ (h x (elem-head x l)) (sum-ext l f g (λ y m. h y (elem-tail y x l m)))

pub sum-zero : (l : List ℕ) → sum l (λ x. 0) ≡ 0
sum-zero [] = refl
sum-zero (x ∷ l) = let ih = sum-zero l in omega arith

pub sum-add : (l : List ℕ) (f g : ℕ → ℕ) → sum l (λ x. f x + g x) ≡ sum l f + sum l g
sum-add [] f g = refl
sum-add (x ∷ l) f g = let ih = sum-add l f g in omega arith

pub sum-swap : (l m : List ℕ) (f : ℕ → ℕ → ℕ) → sum l (λ x. sum m (f x)) ≡ sum m (λ y. sum l (λ x. f x y))
sum-swap [] m f = sym (sum-zero m)
sum-swap (x ∷ l) m f = ap (λ (s : ℕ). sum m (f x) + s) (sum-swap l m f) ∙ sym (sum-add m (f x) (λ y. sum l (λ x. f x y)))

module _ {A : Type 0} where
  pub length-gather : (f : ℕ → List A) (l : List ℕ) → length (gather f l) ≡ sum l (λ x. length (f x))
  length-gather f [] = refl
  length-gather f (x ∷ l) = length-append (f x) (gather f l) ∙ ap (λ (s : ℕ). length (f x) + s) (length-gather f l)

-- v where the test passes, else 0
abbrev pub weigh : Bool → ℕ → ℕ
weigh true v = v
weigh false v = 0

weigh-false : (b : Bool) (v : ℕ) → (T b → ⊥) → weigh b v ≡ 0
weigh-false true v h = absurd (h tt)
weigh-false false v h = refl

weigh-true : (b : Bool) (v : ℕ) → T b → weigh b v ≡ v
weigh-true true v h = refl
weigh-true false v h = absurd h

weigh-or : (a b : Bool) (v : ℕ) → (T a → T b → ⊥) → weigh (a || b) v ≡ weigh a v + weigh b v
weigh-or true true v h = absurd (h tt tt)
weigh-or true false v h = omega arith
weigh-or false b v h = omega arith

sum-none : (r : List ℕ) (x : ℕ) (f : ℕ → ℕ) → (T (elem x r) → ⊥) → sum r (λ k. weigh (eqb k x) (f k)) ≡ 0
sum-none r x f h =
    sum-ext r (λ k. weigh (eqb k x) (f k)) (λ k. 0) (λ k m. weigh-false (eqb k x) (f k) (λ e. h (subst (λ (y : ℕ). T (elem y r)) (eqb→eq k x e) m))) ∙ sum-zero r

sum-at : (r : List ℕ) (x : ℕ) (f : ℕ → ℕ) → Uniq r → T (elem x r) → sum r (λ k. weigh (eqb k x) (f k)) ≡ f x
sum-at [] x f u m = absurd m
sum-at (y ∷ r) x f u m =
    ⊎_elim
    (λ (t : T (eqb y x)).
    let e : y ≡ x = eqb→eq y x t in
    let a : weigh (eqb y x) (f y) ≡ f x = weigh-true (eqb y x) (f y) t ∙ ap f e in
    let b = sum-none r x f (λ mx. u.0 (subst (λ (z : ℕ). T (elem z r)) (sym e) mx)) in
    omega arith)
    (λ (t : T (eqb y x) → ⊥).
    let a = weigh-false (eqb y x) (f y) t in
    let b = sum-at r x f u.1 (⊎_elim (λ e. absurd (t (eqb_of (sym e)))) (λ m'. m') (elem-cases x y r m)) in
    omega arith)
    (decide (eqb y x))

pub sum-weights : (l r : List ℕ) (f : ℕ → ℕ) → Uniq l → Uniq r → ((x : ℕ) → T (elem x l) → T (elem x r)) → sum l f ≡ sum r (λ k. weigh (elem k l) (f k))
sum-weights [] r f u v h = sym (sum-zero r)
sum-weights (x ∷ l) r f u v h =
    ap₂ ◌+◌ (sym (sum-at r x f v (h x (elem-head x l)))) (sum-weights l r f u.1 v (λ y m. h y (elem-tail y x l m)))
    ∙ sym (sum-add r (λ k. weigh (eqb k x) (f k)) (λ k. weigh (elem k l) (f k)))
    ∙ sum-ext r (λ k. weigh (eqb k x) (f k) + weigh (elem k l) (f k)) (λ k. weigh (elem k (x ∷ l)) (f k))
    (λ k m. sym (weigh-or (eqb k x) (elem k l) (f k) (λ a b. u.0 (subst (λ (z : ℕ). T (elem z l)) (eqb→eq k x a) b))))

-- ---- the sum 1 + 2 + .. over an ascending list

pub filter-all : (p : ℕ → Bool) (l : List ℕ) → ((x : ℕ) → T (elem x l) → T (p x)) → filter p l ≡ l
filter-all p [] h = refl
filter-all p (x ∷ l) h =
    ap (λ (b : Bool). keep b x (filter p l)) (true_of (p x) (h x (elem-head x l))) ∙ ap {B = List ℕ} (λ r. x ∷ r) (filter-all p l (λ y m. h y (elem-tail y x l m)))

-- c + (c - 1) + .. + 1
triangle : ℕ → ℕ
triangle zero = 0
triangle (suc c) = suc c + triangle c

triangle-half : (c : ℕ) → triangle c ≡ c * (c + 1) / 2
unfolding triangle
triangle-half zero = refl
triangle-half (suc c) =
    let ih = triangle-half c in
    let a : suc c * (suc c + 1) ≡ c * (suc c + 1) + (suc c + 1) = suc-mul c (suc c + 1) in
    let b : c * (suc c + 1) ≡ c * (c + 1) + c = ap (λ (x : ℕ). c * x) (suc-add c 1) ∙ mul-suc c (c + 1) in
    omega arith

sum-triangle : (l : List ℕ) → Inc l → sum l (λ j. suc (length (filter (λ i. ltb j i) l))) ≡ triangle (length l)
unfolding triangle
sum-triangle [] i = refl
sum-triangle (x ∷ l) i =
    ap₂ ◌+◌
    (ap (λ (b : Bool). suc (length (keep b x (filter (λ i. ltb x i) l)))) (false_of (ltb x x) (λ t. let h : x < x = ltb→lt x x t in omega arith))
    ∙ ap (λ (m : List ℕ). suc (length m)) (filter-all (λ i. ltb x i) l (λ y m. lt→ltb x y (i.0 y m))))
    (sum-ext l (λ j. suc (length (filter (λ i. ltb j i) (x ∷ l)))) (λ j. suc (length (filter (λ i. ltb j i) l)))
    (λ j m. ap (λ (b : Bool). suc (length (keep b x (filter (λ i. ltb j i) l)))) (false_of (ltb j x) (λ t. let h : j < x = ltb→lt j x t in let g : x < j = i.0 j m in omega arith)))
    ∙ sum-triangle l i.1)

pub sum-pairs : (l : List ℕ) → Inc l → sum l (λ j. suc (length (filter (λ i. ltb j i) l))) ≡ length l * (length l + 1) / 2
sum-pairs l i = sum-triangle l i ∙ triangle-half (length l)
