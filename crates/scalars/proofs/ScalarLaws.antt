-- The scalar permutation: its entries, and that it is a permutation of the scalars.
--     starts-at                  where the scalars of block k begin
--     perm-size, perm-entry      the scalars of new block k stand one behind the other, as in its old block
--     scalar-permutes            each old scalar once: as many, each below their number, none twice
--     sizes_total                there are as many scalars under the new sizes
-- Assumes nothing.
use Rattle.std.specs.Prelude.{◌≡◌, ℕ, zero, suc, ◌+◌, ◌-◌, ◌<◌, ◌≤◌, T, List, [], ◌∷◌, map, length, get_or, set}
use mathlib.Core.Logic.{⊎_elim}
use mathlib.Core.Path.{refl, sym, ap, subst, ◌∙◌}
use native.Mathlib.Omega.{arith}
use native.Mathlib.Numerals.{add-one}
use native.Mathlib.Decide.{dec_lt}
use lib.ListN.{length-append, length-map, get_or-append, get_or-map}
use lib.Seq.{get_or-append-add, ext_get_or}
use Rattle.graph.specs.Sets.{elem, from, gather, Uniq}
use Rattle.graph.specs.Order.{Permutes}
use Rattle.graph.proofs.SetLaws.{elem-head, elem-tail, elem-cases, from-elim, from-intro, from-inc, inc-uniq}
use Rattle.graph.proofs.OrderLaws.{elem-append, elem-left, elem-right, append-uniq}
use Rattle.buckets.specs.Buckets.{before}
use Rattle.buckets.proofs.Laws.{nothing-before}
use Rattle.buckets.proofs.Lists.{get_or_any}
use Rattle.buckets.proofs.Turns.{before-next, before_small}
use Rattle.order.specs.Order.{sizes_of}
use Rattle.order.proofs.Laws.{length_from, get_or-from, uniq-within, has_all, below_at, length-sizes}
use Rattle.tables.specs.Sound.{Sizes}
use Rattle.scalars.specs.Scalars.{scalar_count, scalar_starts, scalars_of, scalar_perm}
use Rattle.scalars.proofs.Filling.{Filled, filled_more}

-- ---- sums

rises_by : (sizes : List ℕ) (a d : ℕ) → before sizes a ≤ before sizes (a + d)
rises_by sizes a zero = let e : a + 0 ≡ a = omega arith in subst (λ (m : ℕ). before sizes a ≤ before sizes m) (sym e) (omega arith)
rises_by sizes a (suc d) =
    let r = rises_by sizes a d in
    let n = before-next sizes (a + d) in
    let e : a + suc d ≡ a + d + 1 = omega arith in
    subst (λ (m : ℕ). before sizes a ≤ before sizes m) (sym e) (omega arith)

-- the scalars of a block end before those of the next begin
pub runs-apart : (sizes : List ℕ) (a b : ℕ) → a < b → before sizes a + get_or sizes a 0 ≤ before sizes b
runs-apart sizes a b h =
    let e : a + 1 + (b - (a + 1)) ≡ b = omega arith in
    let r = subst (λ (m : ℕ). before sizes (a + 1) ≤ before sizes m) e (rises_by sizes (a + 1) (b - (a + 1))) in
    let n = before-next sizes a in
    omega arith

-- each scalar is one of a block's
block_of : (sizes : List ℕ) (n x : ℕ) → x < before sizes n → (k : ℕ) × (k < n) × (before sizes k ≤ x) × (x < before sizes k + get_or sizes k 0)
block_of sizes zero x h = let z = nothing-before sizes in absurd (omega arith)
block_of sizes (suc n) x h = by (dec_lt x (before sizes n)) (λ l. block_of sizes n x l)
  where
    by : Dec (x < before sizes n) → (x < before sizes n → (k : ℕ) × (k < n) × (before sizes k ≤ x) × (x < before sizes k + get_or sizes k 0))
        → (k : ℕ) × (k < suc n) × (before sizes k ≤ x) × (x < before sizes k + get_or sizes k 0)
    by (yes l) rest = let r = rest l in (r.0, omega (arith, r.1), r.2, r.3)
    by (no l) rest = let e = before-next sizes n in let h' = subst (λ (m : ℕ). x < before sizes m) (sym (add-one n)) h in (n, omega arith, omega arith, omega arith)

-- the first size apart
before-cons : (d : ℕ) (sizes : List ℕ) (k : ℕ) → before (d ∷ sizes) (suc k) ≡ d + before sizes k
unfolding before
before-cons d sizes zero = omega arith
before-cons d sizes (suc k) = let r = before-cons d sizes k in omega arith

-- where the scalars of block k begin
pub starts-at : (sizes : List ℕ) (k : ℕ) → k ≤ length sizes → get_or (scalar_starts sizes) k 0 ≡ before sizes k
unfolding scalar_starts
starts-at sizes k h =
    let l = length-map {A = ℕ} {B = ℕ} (from 0 (length sizes + 1)) (before sizes) ∙ length_from 0 (length sizes + 1) in
    get_or_any (map {A = ℕ} {B = ℕ} (before sizes) (from 0 (length sizes + 1))) k 0 (before sizes 0) (omega arith)
    ∙ get_or-map {A = ℕ} {B = ℕ} (before sizes) (from 0 (length sizes + 1)) k 0
    ∙ ap (before sizes) (get_or-from 0 (length sizes + 1) k (omega arith) ∙ omega arith)

pub length-starts : (sizes : List ℕ) → length (scalar_starts sizes) ≡ length sizes + 1
unfolding scalar_starts
length-starts sizes = length-map {A = ℕ} {B = ℕ} (from 0 (length sizes + 1)) (before sizes) ∙ length_from 0 (length sizes + 1)

-- a table of them is the starts
pub starts-are : (sizes starts : List ℕ) → length starts ≡ length sizes + 1 → ((k : ℕ) → k ≤ length sizes → get_or starts k 0 ≡ before sizes k) → starts ≡ scalar_starts sizes
starts-are sizes starts l made =
    let m = length-starts sizes in
    ext_get_or 0 starts (scalar_starts sizes) (omega arith) (λ k h. made k (omega arith) ∙ sym (starts-at sizes k (omega arith)))

-- ---- the entries

module _ (dims : List ℕ) where
  pub perm-size : (order : List ℕ) → length (scalar_perm dims order) ≡ before (sizes_of dims order) (length order)
  unfolding scalar_perm sizes_of
  perm-size [] = sym (nothing-before [])
  perm-size (o ∷ order) =
      let r = perm-size order in
      let a = length-append (scalars_of dims o) (gather {A = ℕ} (scalars_of dims) order) in
      let l = length_from (before dims o) (get_or dims o 0) in
      let b = before-cons (get_or dims o 0) (sizes_of dims order) (length order) in
      omega arith

  pub perm-entry : (order : List ℕ) (k s : ℕ) → k < length order → s < get_or dims (get_or order k 0) 0
      → get_or (scalar_perm dims order) (before (sizes_of dims order) k + s) 0 ≡ before dims (get_or order k 0) + s
  unfolding scalar_perm sizes_of
  perm-entry [] k s h g = absurd (omega arith)
  perm-entry (o ∷ order) zero s h g =
      let l = length_from (before dims o) (get_or dims o 0) in
      let z = nothing-before (sizes_of dims (o ∷ order)) in
      let e : before (sizes_of dims (o ∷ order)) 0 + s ≡ s = omega arith in
      ap (λ (m : ℕ). get_or (scalar_perm dims (o ∷ order)) m 0) e
      ∙ get_or-append (scalars_of dims o) (gather {A = ℕ} (scalars_of dims) order) 0 s (omega arith) ∙ get_or-from (before dims o) (get_or dims o 0) s g
  perm-entry (o ∷ order) (suc k) s h g =
      let l = length_from (before dims o) (get_or dims o 0) in
      let b = before-cons (get_or dims o 0) (sizes_of dims order) k in
      let e : before (sizes_of dims (o ∷ order)) (suc k) + s ≡ length (scalars_of dims o) + (before (sizes_of dims order) k + s) = omega arith in
      ap (λ (m : ℕ). get_or (scalar_perm dims (o ∷ order)) m 0) e
      ∙ get_or-append-add (scalars_of dims o) (gather {A = ℕ} (scalars_of dims) order) (before (sizes_of dims order) k + s) 0 ∙ perm-entry order k s (omega arith) g

-- ---- a permutation of the scalars

gather-elim : (f : ℕ → List ℕ) (x : ℕ) (l : List ℕ) → T (elem x (gather {A = ℕ} f l)) → (k : ℕ) × T (elem k l) × T (elem x (f k))
gather-elim f x [] t = absurd t
gather-elim f x (k ∷ l) t =
    ⊎_elim (λ s. (k, elem-head k l, s)) (λ s. let r = gather-elim f x l s in (r.0, elem-tail r.0 k l r.1, r.2)) (elem-append x (f k) (gather {A = ℕ} f l) t)

gather-intro : (f : ℕ → List ℕ) (x k : ℕ) (l : List ℕ) → T (elem k l) → T (elem x (f k)) → T (elem x (gather {A = ℕ} f l))
gather-intro f x k [] m t = absurd m
gather-intro f x k (j ∷ l) m t =
    ⊎_elim (λ e. elem-left x (f j) (gather {A = ℕ} f l) (subst (λ (i : ℕ). T (elem x (f i))) e t)) (λ s. elem-right x (f j) (gather {A = ℕ} f l) (gather-intro f x k l s t)) (elem-cases k j l m)

gather-uniq : (f : ℕ → List ℕ) → ((k : ℕ) → Uniq (f k)) → ((x i k : ℕ) → T (elem x (f i)) → T (elem x (f k)) → i ≡ k) → (l : List ℕ) → Uniq l → Uniq (gather {A = ℕ} f l)
gather-uniq f each same [] u = tt
gather-uniq f each same (k ∷ l) u =
    append-uniq (f k) (gather {A = ℕ} f l) (each k) (gather-uniq f each same l u.1)
    (λ x s t. let r = gather-elim f x l t in u.0 (subst (λ (j : ℕ). T (elem j l)) (sym (same x k r.0 s r.2)) r.1))

module _ (dims : List ℕ) where
  -- a scalar is one block's alone
  one_block : (x i k : ℕ) → T (elem x (scalars_of dims i)) → T (elem x (scalars_of dims k)) → i ≡ k
  one_block x i k s t =
      let a = from-elim x (before dims i) (get_or dims i 0) s in
      let b = from-elim x (before dims k) (get_or dims k 0) t in
      by (dec_lt i k) (dec_lt k i) (runs-apart dims i k) (runs-apart dims k i) a b
    where
      by : Dec (i < k) → Dec (k < i) → (i < k → before dims i + get_or dims i 0 ≤ before dims k) → (k < i → before dims k + get_or dims k 0 ≤ before dims i)
          → (before dims i ≤ x) × (x < before dims i + get_or dims i 0) → (before dims k ≤ x) × (x < before dims k + get_or dims k 0) → i ≡ k
      by (yes l) q f g a b = let r = f l in absurd (omega arith)
      by (no l) (yes m) f g a b = let r = g m in absurd (omega arith)
      by (no l) (no m) f g a b = omega arith

  module _ (order : List ℕ) (p : Permutes (length dims) order) where
    below : (x : ℕ) → T (elem x (scalar_perm dims order)) → x < scalar_count dims
    unfolding scalar_perm
    below x t =
        let r = gather-elim (scalars_of dims) x order t in
        let a = from-elim x (before dims r.0) (get_or dims r.0 0) r.2 in
        let b = runs-apart dims r.0 (length dims) (p.below r.0 r.1) in
        omega arith

    once : Uniq (scalar_perm dims order)
    unfolding scalar_perm
    once = gather-uniq (scalars_of dims) (λ k. inc-uniq (scalars_of dims k) (from-inc (before dims k) (get_or dims k 0))) one_block order p.once

    each : (x : ℕ) → x < scalar_count dims → T (elem x (scalar_perm dims order))
    unfolding scalar_perm
    each x h =
        let r = block_of dims (length dims) x h in
        gather-intro (scalars_of dims) x r.0 order (has_all (length dims) order p r.0 r.1) (from-intro x (before dims r.0) (get_or dims r.0 0) r.2 r.3)

    pub scalar-permutes : Permutes (scalar_count dims) (scalar_perm dims order)
    scalar-permutes =
        let all = from 0 (scalar_count dims) in
        let l = length_from 0 (scalar_count dims) in
        let few = uniq-within (scalar_perm dims order) all once (λ x t. let b = below x t in from-intro x 0 (scalar_count dims) (omega arith) (omega arith)) in
        let many = uniq-within all (scalar_perm dims order) (inc-uniq all (from-inc 0 (scalar_count dims))) (λ x t. each x (let b = from-elim x 0 (scalar_count dims) t in omega arith)) in
        record { entries = omega arith; below = below; once = once }

    -- the new sizes sum up to as many
    pub sizes_total : before (sizes_of dims order) (length order) ≡ scalar_count dims
    sizes_total = sym (perm-size dims order) ∙ scalar-permutes.entries

-- ---- the loops that write it

pub sizes-at : (dims order : List ℕ) (k : ℕ) → k < length order → get_or (sizes_of dims order) k 0 ≡ get_or dims (get_or order k 0) 0
unfolding sizes_of
sizes-at dims order k h =
    let f : ℕ → ℕ = λ old. get_or dims old 0 in
    let l = length-sizes dims order in
    get_or_any (map {A = ℕ} {B = ℕ} f order) k 0 (f 0) (omega arith) ∙ get_or-map {A = ℕ} {B = ℕ} f order k 0

module _ (dims order olds : List ℕ) (p : Permutes (length dims) order) (e : olds ≡ scalar_starts dims) (k : ℕ) (h : k < length order) where
  -- the old block that comes next, and where its scalars begin
  pub old_below : get_or order k 0 < length dims
  old_below = below_at (length dims) order p k (omega (arith, p.entries))

  pub old-starts-long : get_or order k 0 < length olds
  old-starts-long = let l = ap {A = List ℕ} length e ∙ length-starts dims in let b = old_below in omega arith

  start_is : get_or olds (get_or order k 0) 0 ≡ before dims (get_or order k 0)
  start_is = let b = old_below in ap (λ (l : List ℕ). get_or l (get_or order k 0) 0) e ∙ starts-at dims (get_or order k 0) (omega arith)

  pub start_small : length dims ≤ 4096 → Sizes dims → get_or olds (get_or order k 0) 0 ≤ 268435456
  start_small few sizes =
      let b = old_below in
      let e = start_is in
      let s = before_small dims (get_or order k 0) (λ i _. let q = sizes.small i in omega arith) (omega arith) in
      omega arith

  module _ (out : List ℕ) (place s : ℕ) (f : Filled (scalar_perm dims order) out place) (at : place ≡ before (sizes_of dims order) k + s) where
    module _ (g : s < get_or dims (get_or order k 0) 0) where
      pub place_inside : place < length (scalar_perm dims order)
      place_inside = let a = runs-apart (sizes_of dims order) k (length order) h in let z = sizes-at dims order k h in let l = perm-size dims order in omega arith

      pub scalar-turn : Filled (scalar_perm dims order) (set out place (get_or olds (get_or order k 0) 0 + s)) (place + 1)
      scalar-turn =
          filled_more (scalar_perm dims order) out place f 0 (get_or olds (get_or order k 0) 0 + s) place_inside
          (ap (λ (m : ℕ). get_or (scalar_perm dims order) m 0) at ∙ perm-entry dims order k s h g ∙ ap (λ (m : ℕ). m + s) (sym start_is))

    pub block-turn : s ≡ get_or dims (get_or order k 0) 0 → place ≡ before (sizes_of dims order) (k + 1)
    block-turn g = let n = before-next (sizes_of dims order) k in let z = sizes-at dims order k h in omega arith
