-- Finite sets of numbers as lists with a computed test for membership, runs of numbers, and sums over a list.
-- Membership is `T (elem x l)`: being a test it is decided on the spot, with no axiom.
use Rattle.std.specs.Prelude.{ℕ, zero, suc, ◌+◌, ◌-◌, ◌<◌, Bool, true, false, ◌||◌, List, [], ◌∷◌, ◌++◌, T, eqb}

-- is x one of l?
abbrev pub elem : ℕ → List ℕ → Bool
elem x [] = false
elem x (y ∷ l) = eqb x y || elem x l

-- does some element of l pass the test?
abbrev pub any : (ℕ → Bool) → List ℕ → Bool
any p [] = false
any p (x ∷ l) = p x || any p l

-- x in front of l where the test passed
abbrev pub keep : Bool → ℕ → List ℕ → List ℕ
keep true x l = x ∷ l
keep false x l = l

-- the elements of l that pass the test, in their order
abbrev pub filter : (ℕ → Bool) → List ℕ → List ℕ
filter p [] = []
filter p (x ∷ l) = keep (p x) x (filter p l)

-- c numbers from a on: a, a + 1, ..
abbrev pub from : ℕ → ℕ → List ℕ
from a zero = []
from a (suc c) = a ∷ from (suc a) c

-- the numbers a ≤ x < b, ascending
abbrev pub between : ℕ → ℕ → List ℕ
between a b = from a (b - a)

-- Σ of f over the elements of l
abbrev pub sum : List ℕ → (ℕ → ℕ) → ℕ
sum [] f = zero
sum (x ∷ l) f = f x + sum l f

-- strictly increasing
abbrev pub Inc : List ℕ → Type 0
Inc [] = Unit {0}
Inc (x ∷ l) = ((y : ℕ) → T (elem y l) → x < y) × Inc l

-- no element twice
abbrev pub Uniq : List ℕ → Type 0
Uniq [] = Unit {0}
Uniq (x ∷ l) = (T (elem x l) → ⊥) × Uniq l

-- f's lists, one after the other
module _ {A : Type 0} where
  abbrev pub gather : (ℕ → List A) → List ℕ → List A
  gather f [] = []
  gather f (x ∷ l) = f x ++ gather f l
