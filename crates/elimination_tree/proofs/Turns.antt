-- The invariants of the three loops, as records, and a law for each way through them: how each begins, turns and ends. Assumes nothing.
use Rattle.std.specs.Prelude.{ℕ, ltb, List, map, drop, length, get_or, set, replicate, ◌≡◌, ◌+◌, ◌-◌, ◌<◌, ◌≤◌, ◌⊎◌}
use mathlib.Core.Path.{refl, sym, ap, subst, ◌∙◌}
use mathlib.Core.Logic.{inl, inr, ⊎_elim}
use mathlib.Core.Option.{Option}
use native.Mathlib.Omega.{arith}
use native.Mathlib.Numerals.{add-one}
use lib.ListN.{length-set, length-replicate, get_or-replicate}
use lib.Seq.{get_or-set_same, get_or-set_other}
use Rattle.buckets.proofs.Lists.{same?, map-replicate}
use Rattle.graph.specs.Sets.{filter}
use Rattle.graph.specs.Liu.{Forest, walk, walks}
use Rattle.elimination_tree.specs.Tree.{root, code, decode, as_forest, Climbs, upper, Pattern, forest_by}
use Rattle.elimination_tree.proofs.Laws.{codes, decode-root, decode-block, read, passed-as, rooted-as, walk-stop, walk-root, walk-pass, rows_end, row-walks, row-skips}

-- a store of j below j keeps the rule
pub climbs-set : (j i : ℕ) (a : List ℕ) → i < j → Climbs j a → Climbs j (set a i j)
unfolding Climbs
climbs-set j i a h c k b = go (same? k i)
  where
    go : (k ≡ i) ⊎ (k ≡ i → ⊥) → (get_or (set a i j) k 0 ≡ root) ⊎ ((k < get_or (set a i j) k 0) × (get_or (set a i j) k 0 ≤ j))
    go (inl e) =
        let inside : i < length a = subst (λ (m : ℕ). m < length a) e (subst (λ (m : ℕ). k < m) (length-set a i j) b) in
        let v : get_or (set a i j) k 0 ≡ j = ap (λ (m : ℕ). get_or (set a i j) m 0) e ∙ get_or-set_same a i j 0 inside in
        inr (omega arith, omega arith)
    go (inr n) =
        let v : get_or (set a i j) k 0 ≡ get_or a k 0 = get_or-set_other a i k j 0 n in
        let l : k < length a = subst (λ (m : ℕ). k < m) (length-set a i j) b in
        ⊎_elim (λ r. inl (v ∙ r)) (λ r. inr (omega arith, omega arith)) (c k l)

-- a later column's bound
pub climbs-more : (j : ℕ) (a : List ℕ) → Climbs j a → Climbs (j + 1) a
unfolding Climbs
climbs-more j a c k b = ⊎_elim (λ r. inl r) (λ r. inr (omega arith, omega arith)) (c k b)

-- at the head of the climb that began at `start` with p₀ and a₀; `fuel` is what is left of the steps
pub record Walking (j start : ℕ) (p₀ a₀ p a : List ℕ) (i : ℕ) : Type 0 where
  pub sizes : (length p ≡ length p₀) × (length a ≡ length a₀)
  pub rule : Climbs j a
  pub inside : i ≤ j
  pub fuel : ℕ
  pub enough : j ≤ i + fuel
  pub same : walk j j start (as_forest p₀ a₀) ≡ walk j fuel i (as_forest p a)

pub begins : (j start : ℕ) (p a : List ℕ) → start < j → Climbs j a → Walking j start p a p a start
begins j start p a h c = record { sizes = (refl, refl); rule = c; inside = omega arith; fuel = j; enough = omega arith; same = refl }

module _ (j start : ℕ) (p₀ a₀ p a : List ℕ) (i : ℕ) (w : Walking j start p₀ a₀ p a i) where
  pub ends : i ≡ j → as_forest p a ≡ walk j j start (as_forest p₀ a₀)
  ends e = sym (w.same ∙ walk-stop j w.fuel i (as_forest p a) e)

  module _ (few : j < 4096) (h : i < length a) (n : i ≡ j → ⊥) where
    some_left : 0 < w.fuel
    some_left = omega (arith, w.enough, w.inside)

    pub roots : get_or a i 0 ≡ root → as_forest (set p i j) (set a i j) ≡ walk j j start (as_forest p₀ a₀)
    roots e = sym (w.same ∙ walk-root j w.fuel i (as_forest p a) some_left n (read a i h ∙ decode-root (get_or a i 0) e) ∙ rooted-as p a i j few)

    pub further : (get_or a i 0 ≡ root → ⊥) → (i < get_or a i 0) × (get_or a i 0 ≤ j)
    unfolding Climbs
    further e = ⊎_elim (λ z. absurd (e z)) (λ z. z) (w.rule i h)

    pub turns : (get_or a i 0 ≡ root → ⊥) → Walking j start p₀ a₀ p (set a i j) (get_or a i 0)
    turns e =
        let up = further e in
        record {
          sizes = (w.sizes.0, length-set a i j ∙ w.sizes.1);
          rule = climbs-set j i a (omega (arith, w.inside)) w.rule;
          inside = up.1;
          fuel = w.fuel - 1;
          enough = omega (arith, w.enough, some_left);
          same = w.same
              ∙ walk-pass j w.fuel i (get_or a i 0) (as_forest p a) some_left n (read a i h ∙ decode-block (get_or a i 0) e)
              ∙ ap (walk j (w.fuel - 1) (get_or a i 0)) (passed-as p a i j few);
        }

-- ---- the column: at the head of its loop

pub record Scanning (j : ℕ) (rows : List ℕ) (p₀ a₀ p a : List ℕ) (q : ℕ) : Type 0 where
  pub sizes : (length p ≡ length p₀) × (length a ≡ length a₀)
  pub rule : Climbs j a
  pub inside : q ≤ length rows
  pub same : walks j (filter (λ i. ltb i j) rows) (as_forest p₀ a₀) ≡ walks j (filter (λ i. ltb i j) (drop q rows)) (as_forest p a)

module _ (j : ℕ) (rows : List ℕ) (p₀ a₀ p a : List ℕ) (q : ℕ) (s : Scanning j rows p₀ a₀ p a q) where
  module _ (h : q < length rows) where
    -- a row below j, after its climb
    pub scan-climbs : (p' a' : List ℕ) → get_or rows q 0 < j → (length p' ≡ length p) × (length a' ≡ length a) → Climbs j a'
        → as_forest p' a' ≡ walk j j (get_or rows q 0) (as_forest p a) → Scanning j rows p₀ a₀ p' a' (q + 1)
    scan-climbs p' a' l sizes' rule' e = record {
      sizes = (sizes'.0 ∙ s.sizes.0, sizes'.1 ∙ s.sizes.1);
      rule = rule';
      inside = omega arith;
      same = s.same ∙ row-walks j rows q (as_forest p a) h l ∙ ap (walks j (filter (λ i. ltb i j) (drop (q + 1) rows))) (sym e);
    }

    -- a row that is not below j
    pub scan-skips : j ≤ get_or rows q 0 → Scanning j rows p₀ a₀ p a (q + 1)
    scan-skips l = record { sizes = s.sizes; rule = s.rule; inside = omega arith; same = s.same ∙ row-skips j rows q (as_forest p a) h l }

  pub scan-ends : length rows ≤ q → as_forest p a ≡ walks j (filter (λ i. ltb i j) rows) (as_forest p₀ a₀)
  scan-ends h = sym (s.same ∙ rows_end j rows q (as_forest p a) h)

-- ---- the tree: at the head of the loop over the columns

pub record Growing (starts rows : List ℕ) (n : ℕ) (p a : List ℕ) (j : ℕ) : Type 0 where
  pub pattern : Pattern n starts rows
  pub sizes : (length p ≡ n) × (length a ≡ n)
  pub rule : Climbs j a
  pub inside : j ≤ n
  pub same : as_forest p a ≡ forest_by (upper starts rows) n j

pub grow-begins : (starts rows : List ℕ) (n : ℕ) (p a : List ℕ) → Pattern n starts rows → p ≡ replicate n root → a ≡ replicate n root → Growing starts rows n p a 0
unfolding Climbs forest_by
grow-begins starts rows n p a t ep ea = record {
  pattern = t;
  sizes = (ap length ep ∙ length-replicate n root, ap length ea ∙ length-replicate n root);
  rule = λ i h. inl (ap (λ (l : List ℕ). get_or l i 0) ea ∙ get_or-replicate n i root 0 (subst (λ (m : ℕ). i < m) (ap length ea ∙ length-replicate n root) h));
  inside = omega arith;
  same = ap (λ (l : List ℕ). as_forest l a) ep ∙ ap (as_forest (replicate n root)) ea ∙ ap (λ (l : List (Option ℕ)). record { parent = l; ancestor = l }) (map-replicate decode n root);
}

pub grow-turns : (starts rows : List ℕ) (n : ℕ) (p a : List ℕ) (j : ℕ) (p' a' : List ℕ) → Growing starts rows n p a j → j < n
    → (length p' ≡ length p) × (length a' ≡ length a) → Climbs j a' → as_forest p' a' ≡ walks j (upper starts rows j) (as_forest p a) → Growing starts rows n p' a' (j + 1)
unfolding forest_by
grow-turns starts rows n p a j p' a' g h sizes rule e = record {
  pattern = g.pattern;
  sizes = (sizes.0 ∙ g.sizes.0, sizes.1 ∙ g.sizes.1);
  rule = climbs-more j a' rule;
  inside = omega arith;
  same = e ∙ ap (walks j (upper starts rows j)) g.same ∙ ap (forest_by (upper starts rows) n) (sym (add-one j));
}

pub grow-ends : (starts rows : List ℕ) (n : ℕ) (p a : List ℕ) (j : ℕ) → Growing starts rows n p a j → n ≤ j → p ≡ map code (forest_by (upper starts rows) n n).parent
grow-ends starts rows n p a j g h =
    let all : j ≡ n = omega (arith, g.inside) in
    sym (codes p) ∙ ap (λ (f : Forest). map code f.parent) (g.same ∙ ap (forest_by (upper starts rows) n) all)
