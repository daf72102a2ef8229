-- Permutations by their places, the two groups of the late move, and the turns of the loops. Assumes nothing.
use Rattle.std.specs.Prelude.{◌≡◌, ℕ, zero, suc, ◌+◌, ◌<◌, ◌≤◌, Bool, true, false, not, T, eqb, List, [], ◌∷◌, ◌++◌, length, get_or, take, drop, set}
use mathlib.Core.Bool.{beq}
use mathlib.Core.List.{append-nil}
use mathlib.Core.Logic.{⊎_elim}
use mathlib.Core.Path.{refl, sym, ap, subst, ◌∙◌}
use native.Mathlib.Omega.{arith}
use native.Mathlib.Numerals.{add-one}
use lib.Dec.{eqb→eq}
use lib.ListN.{length-set, length-append, length-map, drop_of_length-le, get_or-map}
use lib.Seq.{sets, sets-eq, length-sets, drop-cons, take-suc, take_all, take_at, get_or_at, length-take-le, append_snoc, get_or-set_same, get_or-set_other, set_at}
use Rattle.graph.specs.Sets.{elem, keep, filter, from, Uniq}
use Rattle.graph.specs.Order.{is_late, moved, Permutes}
use Rattle.graph.proofs.SetLaws.{decide, eqb_of, elem-head, elem-tail, elem-cases, filter-intro, from-intro, is_true, is_false}
use Rattle.graph.proofs.OrderLaws.{filter-short, moved-permutes}
use Rattle.buckets.proofs.Lists.{elem_at}
use Rattle.order.specs.Order.{in_group, group, Inverse, sizes_of}

-- ---- lists by their places

-- an element has a place
pub place-of : (x : ℕ) (l : List ℕ) → T (elem x l) → (i : ℕ) × (i < length l) × (get_or l i 0 ≡ x)
place-of x [] t = absurd t
place-of x (y ∷ l) t = ⊎_elim (λ e. (0, omega arith, sym e)) (λ h. let r = place-of x l h in (suc r.0, omega (arith, r.1), r.2)) (elem-cases x y l t)

-- and one place alone
pub once-at : (l : List ℕ) → Uniq l → (i k : ℕ) → i < length l → k < length l → get_or l i 0 ≡ get_or l k 0 → i ≡ k
once-at [] u i k h g e = absurd (omega arith)
once-at (x ∷ l) u zero zero h g e = refl
once-at (x ∷ l) u zero (suc k) h g e = absurd (u.0 (subst (λ (y : ℕ). T (elem y l)) (sym e) (elem_at l k (omega arith))))
once-at (x ∷ l) u (suc i) zero h g e = absurd (u.0 (subst (λ (y : ℕ). T (elem y l)) e (elem_at l i (omega arith))))
once-at (x ∷ l) u (suc i) (suc k) h g e = ap suc (once-at l u.1 i k (omega arith) (omega arith) e)

pub length_from : (a c : ℕ) → length (from a c) ≡ c
length_from a zero = refl
length_from a (suc c) = ap suc (length_from (suc a) c)

pub get_or-from : (a c i : ℕ) → i < c → get_or (from a c) i 0 ≡ a + i
get_or-from a zero i h = absurd (omega arith)
get_or-from a (suc c) zero h = omega arith
get_or-from a (suc c) (suc i) h = get_or-from (suc a) c i (omega arith) ∙ omega arith

-- ---- n numbers below n, none twice, are all of them

abbrev without : ℕ → List ℕ → List ℕ
without x l = filter (λ y. not (eqb y x)) l

unlike : (x y : ℕ) → (y ≡ x → ⊥) → T (not (eqb y x))
unlike x y n = go (eqb y x) refl
  where
    go : (b : Bool) → eqb y x ≡ b → T (not b)
    go true e = n (eqb→eq y x (is_true e))
    go false e = tt

-- an element that is left out leaves fewer
without_fewer : (x : ℕ) (l : List ℕ) → T (elem x l) → length (without x l) < length l
without_fewer x [] t = absurd t
without_fewer x (y ∷ l) t = go (eqb y x) refl (⊎_elim (λ e n. absurd (n e)) (λ s n. without_fewer x l s) (elem-cases x y l t))
  where
    go : (b : Bool) → eqb y x ≡ b → ((x ≡ y → ⊥) → length (without x l) < length l) → length (keep (not b) y (without x l)) < suc (length l)
    go true e rest = let h = filter-short (λ y. not (eqb y x)) l in omega arith
    go false e rest = let h = rest (λ q. is_false e (eqb_of (sym q))) in omega arith

-- a list with no element twice is no longer than one that has all of them
pub uniq-within : (l m : List ℕ) → Uniq l → ((x : ℕ) → T (elem x l) → T (elem x m)) → length l ≤ length m
uniq-within [] m u h = omega arith
uniq-within (x ∷ l) m u h =
    let fewer = without_fewer x m (h x (elem-head x l)) in
    let r = uniq-within l (without x m) u.1 (λ y t. filter-intro (λ y. not (eqb y x)) y m (h y (elem-tail y x l t)) (unlike x y (λ e. u.0 (subst (λ (z : ℕ). T (elem z l)) e t)))) in
    omega arith

module _ (n : ℕ) (perm : List ℕ) (p : Permutes n perm) where
  -- every block is in a permutation
  pub has_all : (o : ℕ) → o < n → T (elem o perm)
  has_all o h = ⊎_elim (λ t. t)
      (λ no.
      let r = uniq-within (o ∷ perm) (from 0 n) (no, p.once) (λ x t. let b : x < n = ⊎_elim (λ e. subst (λ (y : ℕ). y < n) (sym e) h) (p.below x) (elem-cases x o perm t) in from-intro x 0 n (omega arith) (omega arith)) in
      absurd (omega (arith, p.entries, length_from 0 n)))
      (decide (elem o perm))

  pub below_at : (k : ℕ) → k < n → get_or perm k 0 < n
  below_at k h = p.below (get_or perm k 0) (elem_at perm k (omega (arith, p.entries)))

  -- ---- the inverse

  pub inverse-turn : (inv : List ℕ) (k : ℕ) → length inv ≡ n → k < n → ((i : ℕ) → i < k → get_or inv (get_or perm i 0) 0 ≡ i)
      → (i : ℕ) → i < k + 1 → get_or (set inv (get_or perm k 0) k) (get_or perm i 0) 0 ≡ i
  inverse-turn inv k l h done i hi = ⊎_elim
      (λ t. let e : i ≡ k = eqb→eq i k t in
      subst (λ (m : ℕ). get_or (set inv (get_or perm k 0) k) (get_or perm m 0) 0 ≡ m) (sym e) (get_or-set_same inv (get_or perm k 0) k 0 (subst (λ (m : ℕ). get_or perm k 0 < m) (sym l) (below_at k h))))
      (λ no. let ne : (i ≡ k → ⊥) = λ e. no (eqb_of e) in
      get_or-set_other inv (get_or perm k 0) (get_or perm i 0) k 0 (λ e. ne (once-at perm p.once i k (omega (arith, p.entries)) (omega (arith, p.entries)) e)) ∙ done i (omega arith))
      (decide (eqb i k))

  pub inverse-of : (inv : List ℕ) → length inv ≡ n → ((i : ℕ) → i < n → get_or inv (get_or perm i 0) 0 ≡ i) → Inverse n perm inv
  inverse-of inv l done = record {
    count = l;
    there = λ k h. (below_at k h, done k h);
    back = λ o h.
        let r = place-of o perm (has_all o h) in
        let i : r.0 < n = omega (arith, r.1, p.entries) in
        let e : get_or inv o 0 ≡ r.0 = ap (λ (m : ℕ). get_or inv m 0) (sym r.2) ∙ done r.0 i in
        (subst (λ (m : ℕ). m < n) (sym e) i, ap (λ (m : ℕ). get_or perm m 0) e ∙ r.2);
  }

-- ---- the two groups

-- the test of the code
pub group-test : (flagged : Bool) (late : List ℕ) (block : ℕ) → beq (is_late late block) flagged ≡ in_group flagged late block
group-test true late block = is (is_late late block)
  where
    is : (b : Bool) → beq b true ≡ b
    is true = refl
    is false = refl
group-test false late block = isnt (is_late late block)
  where
    isnt : (b : Bool) → beq b false ≡ not b
    isnt true = refl
    isnt false = refl

-- at the head of a pass, k blocks of perm done
pub record Going (flagged : Bool) (late perm order₀ : List ℕ) (at : ℕ) (order : List ℕ) (place k : ℕ) : Type 0 where
  pub passed : k ≤ length perm
  pub size : length order ≡ length order₀
  pub left : at + length (group flagged late perm) ≡ place + length (group flagged late (drop k perm))
  pub rest : sets order₀ at (group flagged late perm) ≡ sets order place (group flagged late (drop k perm))

pub begins : (flagged : Bool) (late perm order : List ℕ) (at : ℕ) → Going flagged late perm order at order at 0
begins flagged late perm order at = record { passed = omega arith; size = refl; left = refl; rest = refl }

module _ (flagged : Bool) (late perm order₀ : List ℕ) (at : ℕ) (order : List ℕ) (place k : ℕ) (g : Going flagged late perm order₀ at order place k) where
  module _ (h : k < length perm) where
    front : group flagged late (drop k perm) ≡ keep (in_group flagged late (get_or perm k 0)) (get_or perm k 0) (group flagged late (drop (k + 1) perm))
    unfolding group
    front = ap (filter (in_group flagged late)) (drop-cons perm k 0 h ∙ ap (λ (m : ℕ). get_or perm k 0 ∷ drop m perm) (sym (add-one k)))

    module _ (t : in_group flagged late (get_or perm k 0) ≡ true) where
      taken : group flagged late (drop k perm) ≡ get_or perm k 0 ∷ group flagged late (drop (k + 1) perm)
      taken = front ∙ ap (λ (b : Bool). keep b (get_or perm k 0) (group flagged late (drop (k + 1) perm))) t

      -- there is a place for it
      pub room : at + length (group flagged late perm) ≤ length order₀ → place < length order
      room r = let e = ap {A = List ℕ} length taken in omega (arith, g.left, g.size)

      pub takes : Going flagged late perm order₀ at (set order place (get_or perm k 0)) (place + 1) (k + 1)
      takes = record {
        passed = omega arith;
        size = length-set order place (get_or perm k 0) ∙ g.size;
        left = let e = ap {A = List ℕ} length taken in omega (arith, g.left);
        rest = g.rest ∙ ap (sets order place) taken ∙ ap (λ (m : ℕ). sets (set order place (get_or perm k 0)) m (group flagged late (drop (k + 1) perm))) (sym (add-one place));
      }

    pub passes : in_group flagged late (get_or perm k 0) ≡ false → Going flagged late perm order₀ at order place (k + 1)
    passes t =
        let e = front ∙ ap (λ (b : Bool). keep b (get_or perm k 0) (group flagged late (drop (k + 1) perm))) t in
        record {
          passed = omega arith;
          size = g.size;
          left = g.left ∙ ap (λ (l : List ℕ). place + length l) e;
          rest = g.rest ∙ ap (sets order place) e;
        }

  pub ends : length perm ≤ k → (place ≡ at + length (group flagged late perm)) × (order ≡ sets order₀ at (group flagged late perm))
  unfolding group
  ends h =
      let e : group flagged late (drop k perm) ≡ [] = ap (filter (in_group flagged late)) (drop_of_length-le perm h) in
      let l = ap {A = List ℕ} length e in
      (omega (arith, g.left), sym (g.rest ∙ ap (sets order place) e))

-- the groups one behind the other fill the order
module _ (n : ℕ) (late perm order : List ℕ) (p : Permutes n perm) (l : length order ≡ n) where
  pub groups-fit : length (group false late perm) + length (group true late perm) ≡ length order
  unfolding group moved
  groups-fit = sym (length-append (group false late perm) (group true late perm)) ∙ (moved-permutes perm late n p).entries ∙ sym l

  pub groups-moved : sets (sets order 0 (group false late perm)) (0 + length (group false late perm)) (group true late perm) ≡ moved perm late
  unfolding group moved
  groups-moved =
      let a = group false late perm in
      let b = group true late perm in
      let f = groups-fit in
      let z : 0 + length a ≡ length a = omega arith in
      let one : sets order 0 a ≡ a ++ drop (length a) order = sets-eq a order 0 (omega arith) ∙ ap (λ (m : ℕ). a ++ drop m order) z in
      let two = length-sets order 0 a in
      let short : length (sets order 0 a) ≤ 0 + length a + length b = omega arith in
      let none : drop (0 + length a + length b) (sets order 0 a) ≡ [] = drop_of_length-le (sets order 0 a) short in
      sets-eq b (sets order 0 a) (0 + length a) (omega arith)
      ∙ ap (λ (r : List ℕ). take (0 + length a) (sets order 0 a) ++ b ++ r) none
      ∙ ap (λ (r : List ℕ). take (0 + length a) r ++ b ++ []) one
      ∙ ap (λ (r : List ℕ). r ++ b ++ []) (take_at a (drop (length a) order) (0 + length a) (sym z))
      ∙ append-nil (a ++ b)

-- ---- the dimensions

pub length-sizes : (dims order : List ℕ) → length (sizes_of dims order) ≡ length order
unfolding sizes_of
length-sizes dims order = length-map {A = ℕ} {B = ℕ} order (λ old. get_or dims old 0)

module _ (dims order₀ order : List ℕ) (k : ℕ) (s : order ≡ take k (sizes_of dims order₀) ++ drop k order₀) where
  module _ (h : k < length order₀) where
    front_length : length (take k (sizes_of dims order₀)) ≡ k
    front_length = let l = length-sizes dims order₀ in length-take-le k (sizes_of dims order₀) (omega arith)

    split : order ≡ take k (sizes_of dims order₀) ++ get_or order₀ k 0 ∷ drop (suc k) order₀
    split = s ∙ ap (λ (l : List ℕ). take k (sizes_of dims order₀) ++ l) (drop-cons order₀ k 0 h)

    -- the entry that comes next is still the old number
    pub sizes-next : get_or order k 0 ≡ get_or order₀ k 0
    sizes-next = ap (λ (l : List ℕ). get_or l k 0) split ∙ get_or_at (take k (sizes_of dims order₀)) (get_or order₀ k 0) (drop (suc k) order₀) 0 k front_length

    pub sizes-turn : set order k (get_or dims (get_or order k 0) 0) ≡ take (k + 1) (sizes_of dims order₀) ++ drop (k + 1) order₀
    unfolding sizes_of
    sizes-turn =
        let v = get_or dims (get_or order₀ k 0) 0 in
        ap (λ (m : ℕ). set order k (get_or dims m 0)) sizes-next
        ∙ ap (λ (l : List ℕ). set l k v) split
        ∙ set_at (take k (sizes_of dims order₀)) (get_or order₀ k 0) (drop (suc k) order₀) v k front_length
        ∙ sym (append_snoc (take k (sizes_of dims order₀)) v (drop (suc k) order₀))
        ∙ ap (λ (m : ℕ). (take k (sizes_of dims order₀) ++ (m ∷ [])) ++ drop (suc k) order₀) (sym (get_or-map {A = ℕ} {B = ℕ} (λ old. get_or dims old 0) order₀ k 0))
        ∙ ap (λ (l : List ℕ). l ++ drop (suc k) order₀) (sym (take-suc (sizes_of dims order₀) k (get_or dims 0 0) (subst (λ (m : ℕ). k < m) (sym (length-sizes dims order₀)) h)))
        ∙ ap (λ (m : ℕ). take m (sizes_of dims order₀) ++ drop m order₀) (sym (add-one k))

  pub sizes-end : length order₀ ≤ k → order ≡ sizes_of dims order₀
  sizes-end h =
      let l = length-sizes dims order₀ in
      s ∙ ap (λ (r : List ℕ). take k (sizes_of dims order₀) ++ r) (drop_of_length-le order₀ h) ∙ append-nil (take k (sizes_of dims order₀)) ∙ take_all k (sizes_of dims order₀) (omega arith)
