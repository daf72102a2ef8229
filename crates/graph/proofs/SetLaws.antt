-- Laws of the lists of specs/Sets.antt.
use Prim.Native.Nat.{ℕ, zero, suc, ◌+◌, ◌-◌, ◌≤◌, ◌<◌}
use mathlib.Core.Bool.{Bool, true, false, ◌||◌}
use mathlib.Core.List.{List, [], ◌∷◌}
use mathlib.Core.Logic.{◌⊎◌, inl, inr, ⊎_elim}
use mathlib.Core.Path.{◌≡◌, refl, sym, ap, ap₂, subst, ◌∙◌}
use native.Mathlib.Omega.{arith}
use lib.Dec.{T, eqb, eqb→eq, eqb_refl}
use Rattle.graph.specs.Sets.{elem, any, keep, filter, from, between, Inc, Uniq}

-- tests
pub or_left : (a b : Bool) → T a → T (a || b)
or_left true b t = tt
or_left false b t = absurd t

pub or_right : (a b : Bool) → T b → T (a || b)
or_right true b t = tt
or_right false b t = t

pub or_cases : (a b : Bool) → T (a || b) → T a ⊎ T b
or_cases true b t = inl tt
or_cases false b t = inr t

pub is_true : {b : Bool} → b ≡ true → T b
is_true e = subst T (sym e) tt

pub is_false : {b : Bool} → b ≡ false → T b → ⊥
is_false e t = subst T e t

pub true_of : (b : Bool) → T b → b ≡ true
true_of true t = refl
true_of false t = absurd t

pub false_of : (b : Bool) → (T b → ⊥) → b ≡ false
false_of true h = absurd (h tt)
false_of false h = refl

-- a test comes out one way or the other
pub decide : (b : Bool) → T b ⊎ (T b → ⊥)
decide true = inl tt
decide false = inr (λ t. t)

pub eqb_of : {x y : ℕ} → x ≡ y → T (eqb x y)
eqb_of {x} {y} e = subst (λ (k : ℕ). T (eqb x k)) e (eqb_refl x)

-- membership of a list with one more in front
pub elem-head : (x : ℕ) (l : List ℕ) → T (elem x (x ∷ l))
elem-head x l = or_left (eqb x x) (elem x l) (eqb_refl x)

pub elem-tail : (x y : ℕ) (l : List ℕ) → T (elem x l) → T (elem x (y ∷ l))
elem-tail x y l t = or_right (eqb x y) (elem x l) t

pub elem-cases : (x y : ℕ) (l : List ℕ) → T (elem x (y ∷ l)) → (x ≡ y) ⊎ T (elem x l)
elem-cases x y l t = ⊎_elim (λ e. inl (eqb→eq x y e)) (λ m. inr m) (or_cases (eqb x y) (elem x l) t)

-- `any` finds an element that passes
pub any-intro : (p : ℕ → Bool) (x : ℕ) (l : List ℕ) → T (elem x l) → T (p x) → T (any p l)
any-intro p x [] m t = m
any-intro p x (y ∷ l) m t =
    ⊎_elim (λ e. or_left (p y) (any p l) (subst (λ (z : ℕ). T (p z)) e t)) (λ m'. or_right (p y) (any p l) (any-intro p x l m' t)) (elem-cases x y l m)

pub any-elim : (p : ℕ → Bool) (l : List ℕ) → T (any p l) → (x : ℕ) × T (elem x l) × T (p x)
any-elim p [] t = absurd t
any-elim p (y ∷ l) t =
    ⊎_elim (λ h. (y, elem-head y l, h)) (λ h. let r = any-elim p l h in (r.0, elem-tail r.0 y l r.1, r.2)) (or_cases (p y) (any p l) t)

-- membership of a filtered list
keep-elem : (b : Bool) (x y : ℕ) (l : List ℕ) → T (elem x (keep b y l)) → ((x ≡ y) × T b) ⊎ T (elem x l)
keep-elem true x y l t = ⊎_elim (λ e. inl (e, tt)) (λ m. inr m) (elem-cases x y l t)
keep-elem false x y l t = inr t

keep-head : (b : Bool) (y : ℕ) (l : List ℕ) → T b → T (elem y (keep b y l))
keep-head true y l t = elem-head y l
keep-head false y l t = absurd t

keep-tail : (b : Bool) (x y : ℕ) (l : List ℕ) → T (elem x l) → T (elem x (keep b y l))
keep-tail true x y l t = elem-tail x y l t
keep-tail false x y l t = t

pub filter-elim : (p : ℕ → Bool) (x : ℕ) (l : List ℕ) → T (elem x (filter p l)) → T (elem x l) × T (p x)
filter-elim p x [] t = absurd t
filter-elim p x (y ∷ l) t =
    ⊎_elim (λ h. (or_left (eqb x y) (elem x l) (eqb_of h.0), subst (λ (z : ℕ). T (p z)) (sym h.0) h.1))
    (λ m. let r = filter-elim p x l m in (elem-tail x y l r.0, r.1))
    (keep-elem (p y) x y (filter p l) t)

pub filter-intro : (p : ℕ → Bool) (x : ℕ) (l : List ℕ) → T (elem x l) → T (p x) → T (elem x (filter p l))
filter-intro p x [] m t = m
filter-intro p x (y ∷ l) m t =
    ⊎_elim (λ e. subst (λ (z : ℕ). T (elem z (keep (p y) y (filter p l)))) (sym e) (keep-head (p y) y (filter p l) (subst (λ (z : ℕ). T (p z)) e t)))
    (λ m'. keep-tail (p y) x y (filter p l) (filter-intro p x l m' t))
    (elem-cases x y l m)

-- membership of a run of numbers
pub from-elim : (x a c : ℕ) → T (elem x (from a c)) → (a ≤ x) × (x < a + c)
from-elim x a zero t = absurd t
from-elim x a (suc c) t =
    ⊎_elim (λ e. omega arith) (λ m. let r = from-elim x (suc a) c m in omega arith) (elem-cases x a (from (suc a) c) t)

pub from-intro : (x a c : ℕ) → a ≤ x → x < a + c → T (elem x (from a c))
from-intro x a zero l h = absurd (omega arith)
from-intro x a (suc c) l h =
    ⊎_elim (λ e. or_left (eqb x a) (elem x (from (suc a) c)) e)
    (λ ne. let d : (x ≡ a → ⊥) = λ e. ne (eqb_of e) in elem-tail x a (from (suc a) c) (from-intro x (suc a) c (omega arith) (omega arith)))
    (decide (eqb x a))

pub between-elim : (x a b : ℕ) → T (elem x (between a b)) → (a ≤ x) × (x < b)
between-elim x a b t = let r = from-elim x a (b - a) t in omega arith

pub between-intro : (x a b : ℕ) → a ≤ x → x < b → T (elem x (between a b))
between-intro x a b l h = from-intro x a (b - a) l (omega arith)

-- order
pub from-inc : (a c : ℕ) → Inc (from a c)
from-inc a zero = tt
from-inc a (suc c) = (λ y m. (from-elim y (suc a) c m).0, from-inc (suc a) c)

pub between-inc : (a b : ℕ) → Inc (between a b)
between-inc a b = from-inc a (b - a)

keep-inc : (b : Bool) (x : ℕ) (l : List ℕ) → ((y : ℕ) → T (elem y l) → x < y) → Inc l → Inc (keep b x l)
keep-inc true x l h i = (h, i)
keep-inc false x l h i = i

-- tests that agree on a list filter it alike
pub filter-ext : (p q : ℕ → Bool) (l : List ℕ) → ((x : ℕ) → T (elem x l) → p x ≡ q x) → filter p l ≡ filter q l
filter-ext p q [] h = refl
filter-ext p q (x ∷ l) h =
    ap (λ (b : Bool). keep b x (filter p l)) (h x (elem-head x l)) ∙ ap (keep (q x) x) (filter-ext p q l (λ y m. h y (elem-tail y x l m)))

pub filter-inc : (p : ℕ → Bool) (l : List ℕ) → Inc l → Inc (filter p l)
filter-inc p [] i = tt
filter-inc p (x ∷ l) i = keep-inc (p x) x (filter p l) (λ y m. i.0 y (filter-elim p y l m).0) (filter-inc p l i.1)

pub inc-uniq : (l : List ℕ) → Inc l → Uniq l
inc-uniq [] i = tt
inc-uniq (x ∷ l) i = (λ m. let h : x < x = i.0 x m in omega arith, inc-uniq l i.1)

-- ---- ascending lists are sets: two with the same elements are equal

pub inc-ext : (l m : List ℕ) → Inc l → Inc m → ((x : ℕ) → T (elem x l) → T (elem x m)) → ((x : ℕ) → T (elem x m) → T (elem x l)) → l ≡ m
inc-ext [] [] i j f g = refl
inc-ext [] (y ∷ m) i j f g = absurd (g y (elem-head y m))
inc-ext (x ∷ l) [] i j f g = absurd (f x (elem-head x l))
inc-ext (x ∷ l) (y ∷ m) i j f g = ap₂ {C = List ℕ} ◌∷◌ same (inc-ext l m i.1 j.1 f' g')
  where
    -- each head is in the other list, so neither is the less
    below : (a b : ℕ) (k : List ℕ) → ((z : ℕ) → T (elem z k) → b < z) → T (elem a (b ∷ k)) → b ≤ a
    below a b k h t = ⊎_elim (λ (e : a ≡ b). omega arith) (λ t'. let q : b < a = h a t' in omega arith) (elem-cases a b k t)

    same : x ≡ y
    same = omega (arith, below x y m j.0 (f x (elem-head x l)), below y x l i.0 (g y (elem-head y m)))

    f' : (z : ℕ) → T (elem z l) → T (elem z m)
    f' z t = let q : x < z = i.0 z t in let e : x ≡ y = same in ⊎_elim (λ (w : z ≡ y). absurd (omega arith)) (λ t'. t') (elem-cases z y m (f z (elem-tail z x l t)))

    g' : (z : ℕ) → T (elem z m) → T (elem z l)
    g' z t = let q : y < z = j.0 z t in let e : x ≡ y = same in ⊎_elim (λ (w : z ≡ x). absurd (omega arith)) (λ t'. t') (elem-cases z x l (g z (elem-tail z y m t)))
