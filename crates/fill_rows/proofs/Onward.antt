-- Where the climbs go on: a greater column, or none at a root. So the table is a table of parents. Assumes nothing.
use Rattle.std.specs.Prelude.{◌≡◌, ℕ, zero, suc, ◌+◌, ◌<◌, ◌≤◌, Bool, true, false, cond, ◌⊎◌, List, length, get_or, set}
use mathlib.Core.Path.{refl, sym, ap, subst, ◌∙◌}
use mathlib.Core.Logic.{inl, inr, ⊎_elim}
use native.Mathlib.Omega.{arith}
use lib.ListN.{length-set}
use lib.Seq.{get_or-set_same, get_or-set_other}
use Rattle.buckets.proofs.Lists.{same?}
use Rattle.reach.specs.Reach.{none, Parents}
use Rattle.fill_rows.specs.Repeats.{repeats, top_of, Onward}
use Rattle.fill_rows.proofs.Columns.{repeats-child}

-- the top of a column that repeats its parent's, and of one that does not
pub top-on : (parent heads onward : List ℕ) (k : ℕ) → repeats parent heads k ≡ true → top_of parent heads onward k ≡ get_or onward k 0
top-on parent heads onward k e = ap (λ (b : Bool). cond b (get_or onward k 0) k) e

pub top-here : (parent heads onward : List ℕ) (k : ℕ) → repeats parent heads k ≡ false → top_of parent heads onward k ≡ k
top-here parent heads onward k e = ap (λ (b : Bool). cond b (get_or onward k 0) k) e

-- it does, or it does not
pub repeats? : (parent heads : List ℕ) (k : ℕ) → (repeats parent heads k ≡ true) ⊎ (repeats parent heads k ≡ false)
repeats? parent heads k = go (repeats parent heads k) refl
  where
    go : (b : Bool) → repeats parent heads k ≡ b → (repeats parent heads k ≡ true) ⊎ (repeats parent heads k ≡ false)
    go true e = inl e
    go false e = inr e

module _ (parent heads onward : List ℕ) (few : length parent ≤ 4096) (good : Parents parent) (o : Onward parent heads onward) where
  up : (k : ℕ) → k < length parent → (get_or parent k 0 ≡ none → ⊥) → (k < get_or parent k 0) × (get_or parent k 0 < length parent)
  unfolding Parents
  up k h e = ⊎_elim (λ z. absurd (e z)) (λ z. z) (good k h)

  -- with so many steps left
  onward-by : (d k : ℕ) → length parent ≤ k + d → k < length parent → (get_or parent k 0 ≡ none → ⊥) → (k < get_or onward k 0) × (get_or onward k 0 < length parent)
  onward-by zero k far h e = absurd (omega arith)
  onward-by (suc d) k far h e =
      let u = up k h e in
      let p = get_or parent k 0 in
      let a = o.above k h e in
      ⊎_elim
      (λ r. let i = onward-by d p (omega arith) u.1 (repeats-child parent heads p r) in
      let v : get_or onward k 0 ≡ get_or onward p 0 = a ∙ top-on parent heads onward p r in
      (omega (arith, i.0, u.0), omega (arith, i.1)))
      (λ r. let v : get_or onward k 0 ≡ p = a ∙ top-here parent heads onward p r in (omega (arith, u.0), omega (arith, u.1)))
      (repeats? parent heads p)

  pub onward-up : (k : ℕ) → k < length parent → (get_or parent k 0 ≡ none → ⊥) → (k < get_or onward k 0) × (get_or onward k 0 < length parent)
  onward-up k h e = onward-by (length parent) k (omega arith) h e

  pub top_up : (k : ℕ) → k < length parent → (k ≤ top_of parent heads onward k) × (top_of parent heads onward k < length parent)
  top_up k h = ⊎_elim
      (λ r. let i = onward-up k h (repeats-child parent heads k r) in let v = top-on parent heads onward k r in (omega (arith, i.0), omega (arith, i.1)))
      (λ r. let v = top-here parent heads onward k r in (omega arith, omega arith))
      (repeats? parent heads k)

  pub onward-parents : Parents onward
  unfolding Parents
  onward-parents k h =
      let b : k < length parent = omega (arith, o.places) in
      ⊎_elim
      (λ z. inl (o.roots k b z))
      (λ z. let i = onward-up k b z in inr (i.0, subst (λ (m : ℕ). get_or onward k 0 < m) (sym o.places) i.1))
      (same? (get_or parent k 0) none)

-- ---- the table as it is made, from the last column down: the columns from k on are done

pub record Linking (parent heads onward : List ℕ) (k : ℕ) : Type 0 where
  pub places : length onward ≡ length parent
  pub inside : k ≤ length parent
  pub roots : (i : ℕ) → i < length parent → k ≤ i → get_or parent i 0 ≡ none → get_or onward i 0 ≡ none
  pub above : (i : ℕ) → i < length parent → k ≤ i → (get_or parent i 0 ≡ none → ⊥) → get_or onward i 0 ≡ top_of parent heads onward (get_or parent i 0)

pub link-begins : (parent heads onward : List ℕ) → length onward ≡ length parent → Linking parent heads onward (length parent)
link-begins parent heads onward e = record { places = e; inside = omega arith; roots = λ i h l. absurd (omega arith); above = λ i h l. absurd (omega arith) }

pub link-ends : (parent heads onward : List ℕ) (k : ℕ) → Linking parent heads onward k → k ≤ 0 → Onward parent heads onward
link-ends parent heads onward k g z = record { places = g.places; roots = λ i h. g.roots i h (omega arith); above = λ i h. g.above i h (omega arith) }

-- one column more, q, whose entry is v
module _ (parent heads onward : List ℕ) (good : Parents parent) (k : ℕ) (g : Linking parent heads onward k) (q : ℕ) (one : k ≡ q + 1) (v : ℕ)
    (root : get_or parent q 0 ≡ none → v ≡ none) (child : (get_or parent q 0 ≡ none → ⊥) → v ≡ top_of parent heads onward (get_or parent q 0)) where
  -- no parent stands before its child, so what is said of a parent is said of a column that is done
  parent-kept : (i : ℕ) → i < length parent → q ≤ i → (get_or parent i 0 ≡ none → ⊥) → top_of parent heads (set onward q v) (get_or parent i 0) ≡ top_of parent heads onward (get_or parent i 0)
  unfolding Parents
  parent-kept i h l e =
      let u : (i < get_or parent i 0) × (get_or parent i 0 < length parent) = ⊎_elim (λ z. absurd (e z)) (λ z. z) (good i h) in
      ap (λ (y : ℕ). cond (repeats parent heads (get_or parent i 0)) y (get_or parent i 0)) (get_or-set_other onward q (get_or parent i 0) v 0 (λ z. omega (arith, u.0)))

  here : get_or (set onward q v) q 0 ≡ v
  here = get_or-set_same onward q v 0 (omega (arith, g.inside, g.places))

  pub link-turns : Linking parent heads (set onward q v) q
  link-turns = record {
    places = length-set onward q v ∙ g.places;
    inside = omega (arith, g.inside);
    roots = λ i h l e. ⊎_elim
        (λ z. ap (λ (y : ℕ). get_or (set onward q v) y 0) z ∙ here ∙ root (ap (λ (y : ℕ). get_or parent y 0) (sym z) ∙ e))
        (λ z. get_or-set_other onward q i v 0 z ∙ g.roots i h (omega arith) e)
        (same? i q);
    above = λ i h l e. ⊎_elim
        (λ z. subst (λ (y : ℕ). get_or (set onward q v) y 0 ≡ top_of parent heads (set onward q v) (get_or parent y 0)) (sym z)
        (let e' : get_or parent q 0 ≡ none → ⊥ = λ w. e (ap (λ (y : ℕ). get_or parent y 0) z ∙ w) in
        here ∙ child e' ∙ sym (parent-kept q (omega (arith, g.inside)) (omega arith) e')))
        (λ z. get_or-set_other onward q i v 0 z ∙ g.above i h (omega arith) e ∙ sym (parent-kept i h l e))
        (same? i q);
  }
