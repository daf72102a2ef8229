-- Tables of u32 as Liu's tables, and Liu's walk by its first step. Assumes nothing.
use Rattle.std.specs.Prelude.{ℕ, zero, suc, Bool, true, false, eqb, ltb, List, [], map, drop, length, get_or, set, ◌≡◌, ◌+◌, ◌-◌, ◌<◌, ◌≤◌, ◌∷◌}
use mathlib.Core.Path.{refl, sym, ap, ◌∙◌}
use mathlib.Core.Option.{Option, none, some}
use native.Mathlib.Omega.{arith}
use native.Mathlib.Numerals.{add-one, sub-one}
use borrow.Author.Tests.{eq-eqb, ne_eqb, lt-ltb, le-ltb, eqb-true}
use lib.ListN.{get_or-map, drop_of_length-le}
use lib.Seq.{drop-cons}
use Rattle.graph.specs.Sets.{keep, filter}
use Rattle.buckets.proofs.Lists.{map-set, get_or_any}
use Rattle.graph.specs.Liu.{Forest, ancestor_of, passed, rooted, walk, walks}
use Rattle.elimination_tree.specs.Tree.{root, code, pick, decode, as_forest}

-- ---- numbers and optional numbers

pub decode-root : (x : ℕ) → x ≡ root → decode x ≡ none
decode-root x e = ap (λ (b : Bool). pick b x) (eq-eqb x root e)

pub decode-block : (x : ℕ) → (x ≡ root → ⊥) → decode x ≡ some x
decode-block x n = ap (λ (b : Bool). pick b x) (ne_eqb x root n)

pub code-decode : (x : ℕ) → code (decode x) ≡ x
code-decode x = go (eqb x root) refl
  where
    go : (b : Bool) → eqb x root ≡ b → code (pick b x) ≡ x
    go true e = sym (eqb-true x root e)
    go false e = refl

pub codes : (l : List ℕ) → map code (map decode l) ≡ l
codes [] = refl
codes (x ∷ l) = ap (λ (y : ℕ). y ∷ map code (map decode l)) (code-decode x) ∙ ap {B = List ℕ} (λ r. x ∷ r) (codes l)

-- ---- reads and stores

pub read : (l : List ℕ) (i : ℕ) → i < length l → get_or (map decode l) i none ≡ decode (get_or l i 0)
read l i h = get_or-map decode l i root ∙ ap decode (get_or_any l i root 0 h)

pub stored : (l : List ℕ) (i j : ℕ) → j < 4096 → set (map decode l) i (some j) ≡ map decode (set l i j)
stored l i j h = ap (set (map decode l) i) (sym (decode-block j (λ e. omega arith))) ∙ sym (map-set decode l i j)

pub passed-as : (p a : List ℕ) (i j : ℕ) → j < 4096 → passed j i (as_forest p a) ≡ as_forest p (set a i j)
passed-as p a i j h = ap (λ (l : List (Option ℕ)). record { parent = map decode p; ancestor = l }) (stored a i j h)

pub rooted-as : (p a : List ℕ) (i j : ℕ) → j < 4096 → rooted j i (as_forest p a) ≡ as_forest (set p i j) (set a i j)
rooted-as p a i j h =
    ap (λ (l : List (Option ℕ)). record { parent = l; ancestor = set (map decode a) i (some j) }) (stored p i j h)
    ∙ ap (λ (l : List (Option ℕ)). record { parent = map decode (set p i j); ancestor = l }) (stored a i j h)

-- ---- the walk, by its first step

pub walk-stop : (j s i : ℕ) (f : Forest) → i ≡ j → walk j s i f ≡ f
unfolding walk
walk-stop j zero i f e = refl
walk-stop j (suc s) i f e = rw (eq-eqb i j e, walk)

pub walk-root : (j s i : ℕ) (f : Forest) → 0 < s → (i ≡ j → ⊥) → ancestor_of f i ≡ none → walk j s i f ≡ rooted j i f
unfolding walk
walk-root j zero i f p n e = absurd (omega arith)
walk-root j (suc s) i f p n e = rw (ne_eqb i j n, walk, e)

pub walk-pass : (j s i a : ℕ) (f : Forest) → 0 < s → (i ≡ j → ⊥) → ancestor_of f i ≡ some a → walk j s i f ≡ walk j (s - 1) a (passed j i f)
unfolding walk
walk-pass j zero i a f p n e = absurd (omega arith)
walk-pass j (suc s) i a f p n e = rw (sub-one (suc s), ne_eqb i j n, walk, e)

-- ---- the walks of a column, by its first row

module _ (j : ℕ) (rows : List ℕ) (q : ℕ) (f : Forest) where
  pub rows_end : length rows ≤ q → walks j (filter (λ i. ltb i j) (drop q rows)) f ≡ f
  unfolding walks
  rows_end h = rw (drop_of_length-le rows h)

  module _ (h : q < length rows) where
    first : filter (λ i. ltb i j) (drop q rows) ≡ keep (ltb (get_or rows q 0) j) (get_or rows q 0) (filter (λ i. ltb i j) (drop (q + 1) rows))
    first = ap (filter (λ i. ltb i j)) (drop-cons rows q 0 h) ∙ ap (λ (m : ℕ). keep (ltb (get_or rows q 0) j) (get_or rows q 0) (filter (λ i. ltb i j) (drop m rows))) (sym (add-one q))

    pub row-walks : get_or rows q 0 < j → walks j (filter (λ i. ltb i j) (drop q rows)) f ≡ walks j (filter (λ i. ltb i j) (drop (q + 1) rows)) (walk j j (get_or rows q 0) f)
    unfolding walks
    row-walks l = ap (λ (r : List ℕ). walks j r f) (first ∙ ap (λ (b : Bool). keep b (get_or rows q 0) (filter (λ i. ltb i j) (drop (q + 1) rows))) (lt-ltb (get_or rows q 0) j l))

    pub row-skips : j ≤ get_or rows q 0 → walks j (filter (λ i. ltb i j) (drop q rows)) f ≡ walks j (filter (λ i. ltb i j) (drop (q + 1) rows)) f
    row-skips l = ap (λ (r : List ℕ). walks j r f) (first ∙ ap (λ (b : Bool). keep b (get_or rows q 0) (filter (λ i. ltb i j) (drop (q + 1) rows))) (le-ltb (get_or rows q 0) j l))
