-- The copies, from the last column down: what holds when the columns from k on are done, and how a copy keeps it. Assumes nothing.
use Rattle.std.specs.Prelude.{◌≡◌, ℕ, zero, suc, ◌+◌, ◌-◌, ◌<◌, ◌≤◌, true, false, ◌⊎◌, List, length, get_or, set}
use mathlib.Core.Path.{refl, sym, ap, subst, ◌∙◌}
use mathlib.Core.Logic.{inl, inr, ⊎_elim}
use native.Mathlib.Omega.{arith}
use native.Mathlib.Decide.{dec_lt}
use lib.ListN.{length-set}
use lib.Seq.{get_or-set_same, get_or-set_other}
use Rattle.graph.proofs.SetLaws.{is_true}
use Rattle.buckets.proofs.Lists.{same?}
use Rattle.reach.specs.Reach.{Parents}
use Rattle.fill_rows.specs.Repeats.{Rising, rows_in, repeats, Copied}
use Rattle.fill_rows.proofs.Columns.{repeats-child, repeats-rows}

differ : true ≡ false → ⊥
differ e = absurd (is_true (sym e))

-- ---- the places of the columns

module _ (n : ℕ) (heads : List ℕ) (r : Rising n heads) where
  rising-by : (a d : ℕ) → a + d ≤ n → get_or heads a 0 ≤ get_or heads (a + d) 0
  rising-by a zero h = let e : a + 0 ≡ a = omega arith in subst (λ (m : ℕ). get_or heads a 0 ≤ get_or heads m 0) (sym e) (omega arith)
  rising-by a (suc d) h =
      let ih = rising-by a d (omega arith) in
      let l = r.rising (a + d) (omega arith) in
      let e : a + suc d ≡ a + d + 1 = omega arith in
      subst (λ (m : ℕ). get_or heads a 0 ≤ get_or heads m 0) (sym e) (omega arith)

  pub rises : (a c : ℕ) → a ≤ c → c ≤ n → get_or heads a 0 ≤ get_or heads c 0
  rises a c h l = let e : a + (c - a) ≡ c = omega arith in subst (λ (m : ℕ). get_or heads a 0 ≤ get_or heads m 0) e (rising-by a (c - a) (omega arith))

  -- a place of column i is none of column k
  pub apart : (k i x : ℕ) → k < n → i < n → (i ≡ k → ⊥) → x < rows_in heads i → (get_or heads i 0 + x < get_or heads k 0) ⊎ (get_or heads (k + 1) 0 ≤ get_or heads i 0 + x)
  apart k i x hk hi ne hx = go (dec_lt i k)
    where
      go : Dec (i < k) → (get_or heads i 0 + x < get_or heads k 0) ⊎ (get_or heads (k + 1) 0 ≤ get_or heads i 0 + x)
      go (yes q) = let a = rises (i + 1) k (omega arith) (omega arith) in inl (omega arith)
      go (no q) = let a = rises (k + 1) i (omega arith) (omega arith) in inr (omega arith)

-- ---- the invariant

pub record Copying (parent heads before table : List ℕ) (k : ℕ) : Type 0 where
  pub kept : (i : ℕ) → i < length parent → repeats parent heads i ≡ false → (x : ℕ) → x < rows_in heads i → get_or table (get_or heads i 0 + x) 0 ≡ get_or before (get_or heads i 0 + x) 0
  pub first : (i : ℕ) → i < length parent → k ≤ i → repeats parent heads i ≡ true → get_or table (get_or heads i 0) 0 ≡ get_or parent i 0
  pub rest : (i : ℕ) → i < length parent → k ≤ i → repeats parent heads i ≡ true → (x : ℕ) → x < rows_in heads (get_or parent i 0)
      → get_or table (get_or heads i 0 + 1 + x) 0 ≡ get_or table (get_or heads (get_or parent i 0) 0 + x) 0

pub copy-begins : (parent heads table : List ℕ) → Copying parent heads table table (length parent)
copy-begins parent heads table = record { kept = λ i h e x l. refl; first = λ i h l e. absurd (omega arith); rest = λ i h l e x q. absurd (omega arith) }

pub copy-ends : (parent heads before table : List ℕ) (k : ℕ) → Copying parent heads before table k → k ≤ 0 → Copied parent heads before table
copy-ends parent heads before table k c z = record { kept = c.kept; first = λ i h e. c.first i h (omega arith) e; rest = λ i h e. c.rest i h (omega arith) e }

-- a column that repeats none is passed by
pub copy-skips : (parent heads before table : List ℕ) (k q : ℕ) → k ≡ q + 1 → repeats parent heads q ≡ false → Copying parent heads before table k → Copying parent heads before table q
copy-skips parent heads before table k q e single c = record {
  kept = c.kept;
  first = λ i h l y. c.first i h (next i l y) y;
  rest = λ i h l y. c.rest i h (next i l y) y;
}
  where
    next : (i : ℕ) → q ≤ i → repeats parent heads i ≡ true → k ≤ i
    next i l y = ⊎_elim (λ z. absurd (differ (sym y ∙ ap (repeats parent heads) z ∙ single))) (λ z. omega arith) (same? i q)

module _ (parent heads before table : List ℕ) (k q : ℕ) (one : k ≡ q + 1) (h : q < length parent) (yes' : repeats parent heads q ≡ true) (good : Parents parent)
    (r : Rising (length parent) heads) (whole : get_or heads (length parent) 0 ≡ length table) where
  abbrev p : ℕ
  p = get_or parent q 0

  pub parent_above : (q < get_or parent q 0) × (get_or parent q 0 < length parent)
  unfolding Parents
  parent_above = ⊎_elim (λ z. absurd (repeats-child parent heads q yes' z)) (λ z. z) (good q h)

  -- where the rows come from, and where they go
  pub copy_places : (get_or heads p 0 ≤ get_or heads (p + 1) 0) × (get_or heads (p + 1) 0 ≤ length table) × (get_or heads q 0 + 1 + (get_or heads (p + 1) 0 - get_or heads p 0) ≤ get_or heads p 0)
  copy_places =
      let u = parent_above in
      let a = rises (length parent) heads r (q + 1) p (omega (arith, u.0)) (omega (arith, u.1)) in
      let b = rises (length parent) heads r (p + 1) (length parent) (omega (arith, u.1)) (omega arith) in
      let e = repeats-rows parent heads q yes' in
      let f = r.rising q h in
      (r.rising p u.1, omega arith, omega arith)

  pub copy-first : get_or heads q 0 < length table
  copy-first = let c = copy_places in omega (arith, c.0, c.1, c.2)

  module _ (table' : List ℕ)
      (moved : (x : ℕ) → x < get_or heads (p + 1) 0 - get_or heads p 0 → get_or table' (get_or heads q 0 + 1 + x) 0 ≡ get_or (set table (get_or heads q 0) p) (get_or heads p 0 + x) 0)
      (other : (y : ℕ) → (y < get_or heads q 0 + 1) ⊎ (get_or heads q 0 + 1 + (get_or heads (p + 1) 0 - get_or heads p 0) ≤ y) → get_or table' y 0 ≡ get_or (set table (get_or heads q 0) p) y 0) where
    -- the places of the other columns stay as they were
    aside : (i x : ℕ) → i < length parent → (i ≡ q → ⊥) → x < rows_in heads i → get_or table' (get_or heads i 0 + x) 0 ≡ get_or table (get_or heads i 0 + x) 0
    aside i x hi ne hx =
        let e = repeats-rows parent heads q yes' in
        let a = r.rising q h in
        ⊎_elim
        (λ l. other (get_or heads i 0 + x) (inl (omega arith)) ∙ get_or-set_other table (get_or heads q 0) (get_or heads i 0 + x) p 0 (λ z. omega arith))
        (λ l. other (get_or heads i 0 + x) (inr (omega arith)) ∙ get_or-set_other table (get_or heads q 0) (get_or heads i 0 + x) p 0 (λ z. omega arith))
        (apart (length parent) heads r q i x h hi ne hx)

    head : get_or table' (get_or heads q 0) 0 ≡ p
    head = other (get_or heads q 0) (inl (omega arith)) ∙ get_or-set_same table (get_or heads q 0) p 0 copy-first

    -- a parent's place is another column's
    parent-aside : (i x : ℕ) → i < length parent → q ≤ i → repeats parent heads i ≡ true → x < rows_in heads (get_or parent i 0) → get_or table' (get_or heads (get_or parent i 0) 0 + x) 0 ≡ get_or table (get_or heads (get_or parent i 0) 0 + x) 0
    unfolding Parents
    parent-aside i x hi l e hx =
        let u : (i < get_or parent i 0) × (get_or parent i 0 < length parent) = ⊎_elim (λ z. absurd (repeats-child parent heads i e z)) (λ z. z) (good i hi) in
        aside (get_or parent i 0) x u.1 (λ z. omega (arith, u.0)) hx

    pub copy-turns : Copying parent heads before table k → Copying parent heads before table' q
    copy-turns c = record {
      kept = λ i hi e x hx. aside i x hi (λ z. differ (sym yes' ∙ ap (repeats parent heads) (sym z) ∙ e)) hx ∙ c.kept i hi e x hx;
      first = λ i hi l e. ⊎_elim
          (λ z. subst (λ (y : ℕ). get_or table' (get_or heads y 0) 0 ≡ get_or parent y 0) (sym z) head)
          (λ z. let s = repeats-rows parent heads i e in let w : get_or heads i 0 + 0 ≡ get_or heads i 0 = omega arith in
          ap (λ (y : ℕ). get_or table' y 0) (sym w) ∙ aside i 0 hi z (omega arith) ∙ ap (λ (y : ℕ). get_or table y 0) w ∙ c.first i hi (omega arith) e)
          (same? i q);
      rest = λ i hi l e x hx. ⊎_elim
          (λ z. subst (λ (y : ℕ). get_or table' (get_or heads y 0 + 1 + x) 0 ≡ get_or table' (get_or heads (get_or parent y 0) 0 + x) 0) (sym z)
          (let hq : x < rows_in heads p = subst (λ (y : ℕ). x < rows_in heads (get_or parent y 0)) z hx in
          let d = copy_places in
          moved x hq ∙ get_or-set_other table (get_or heads q 0) (get_or heads p 0 + x) p 0 (λ w. omega (arith, d.2)) ∙ sym (parent-aside q x h (omega arith) yes' hq)))
          (λ z. let s = repeats-rows parent heads i e in let w : get_or heads i 0 + (1 + x) ≡ get_or heads i 0 + 1 + x = omega arith in
          ap (λ (y : ℕ). get_or table' y 0) (sym w) ∙ aside i (1 + x) hi z (omega arith) ∙ ap (λ (y : ℕ). get_or table y 0) w ∙ c.rest i hi (omega arith) e x hx ∙ sym (parent-aside i x hi l e hx))
          (same? i q);
    }

-- ---- one column's rows, t of them done

pub record Moving (before : List ℕ) (source target : ℕ) (table : List ℕ) (t : ℕ) : Type 0 where
  pub same : length table ≡ length before
  pub moved : (x : ℕ) → x < t → get_or table (target + x) 0 ≡ get_or before (source + x) 0
  pub other : (x : ℕ) → (x < target) ⊎ (target + t ≤ x) → get_or table x 0 ≡ get_or before x 0

pub move-begins : (before : List ℕ) (source target : ℕ) → Moving before source target before 0
move-begins before source target = record { same = refl; moved = λ x h. absurd (omega arith); other = λ x h. refl }

pub move-turns : (before : List ℕ) (source target : ℕ) (table : List ℕ) (t : ℕ) → Moving before source target table t → target + t ≤ source + t → target + t < length table
    → Moving before source target (set table (target + t) (get_or table (source + t) 0)) (t + 1)
move-turns before source target table t g l h = record {
  same = length-set table (target + t) (get_or table (source + t) 0) ∙ g.same;
  moved = λ x b. ⊎_elim
      (λ z. ap (λ (y : ℕ). get_or (set table (target + t) (get_or table (source + t) 0)) (target + y) 0) z ∙ get_or-set_same table (target + t) (get_or table (source + t) 0) 0 h
      ∙ g.other (source + t) (inr l) ∙ ap (λ (y : ℕ). get_or before (source + y) 0) (sym z))
      (λ z. get_or-set_other table (target + t) (target + x) (get_or table (source + t) 0) 0 (λ w. omega arith) ∙ g.moved x (omega arith))
      (same? x t);
  other = λ x b. get_or-set_other table (target + t) x (get_or table (source + t) 0) 0 (λ w. ⊎_elim (λ b'. omega arith) (λ b'. omega arith) b)
      ∙ g.other x (⊎_elim (λ b'. inl b') (λ b'. inr (omega arith)) b);
}
