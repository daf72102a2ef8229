-- The child lists by their links, and the stamps at the rows of the children. Assumes nothing.
use Rattle.std.specs.Prelude.{◌≡◌, ℕ, zero, suc, ◌+◌, ◌-◌, ◌<◌, ◌≤◌, Bool, true, false, cond, T, eqb, ◌⊎◌, List, [], ◌∷◌, ◌++◌, length, set, replicate}
use mathlib.Core.Logic.{inl, inr, ⊎_elim}
use mathlib.Core.Path.{refl, sym, ap, subst, ◌∙◌}
use native.Mathlib.Omega.{arith}
use borrow.Author.Tests.{eq-eqb, ne_eqb}
use native.Mathlib.Numerals.{add-one}
use lib.Dec.{eqb→eq}
use lib.ListN.{length-set, length-replicate, get_or-replicate}
use lib.Seq.{slice, slice-cons, slice_empty, get_or-set_same, get_or-set_other}
use Rattle.graph.specs.Sets.{elem, keep, gather}
use Rattle.graph.proofs.SetLaws.{is_true, true_of, elem-head, elem-tail, elem-cases}
use Rattle.graph.proofs.OrderLaws.{elem-append, elem-left, elem-right}
use Rattle.buckets.proofs.Lists.{same?}
use Rattle.tables.specs.Verdict.{at}
use Rattle.tables.proofs.SearchLaws.{lt-or-ge}
use Rattle.match_rows.specs.Rows.{heads, children, latest, stamps, Families}

-- ---- gathered lists

pub gather-elim : (f : ℕ → List ℕ) (x : ℕ) (l : List ℕ) → T (elem x (gather f l)) → (c : ℕ) × T (elem c l) × T (elem x (f c))
gather-elim f x [] t = absurd t
gather-elim f x (c ∷ l) t =
    ⊎_elim (λ m. (c, elem-head c l, m)) (λ m. let r = gather-elim f x l m in (r.0, elem-tail r.0 c l r.1, r.2)) (elem-append x (f c) (gather f l) t)

pub gather-intro : (f : ℕ → List ℕ) (x c : ℕ) (l : List ℕ) → T (elem c l) → T (elem x (f c)) → T (elem x (gather f l))
gather-intro f x c [] t m = absurd t
gather-intro f x c (d ∷ l) t m =
    ⊎_elim (λ e. elem-left x (f d) (gather f l) (subst (λ (z : ℕ). T (elem x (f z))) e m)) (λ s. elem-right x (f d) (gather f l) (gather-intro f x c l s m)) (elem-cases c d l t)

-- ---- children

module _ (listed : ℕ → List ℕ) (k : ℕ) where
  pub children-elim : (b c : ℕ) → T (elem c (children listed k b)) → (c < b) × T (heads (listed c) k)
  unfolding children
  children-elim zero c t = absurd t
  children-elim (suc b) c t = go (heads (listed b) k) refl t (children-elim b c)
    where
      go : (x : Bool) → heads (listed b) k ≡ x → T (elem c (keep x b (children listed k b))) → (T (elem c (children listed k b)) → (c < b) × T (heads (listed c) k)) → (c < suc b) × T (heads (listed c) k)
      go true e m ih = ⊎_elim (λ z. (omega arith, subst (λ (y : ℕ). T (heads (listed y) k)) (sym z) (is_true e))) (λ s. let r = ih s in (omega (arith, r.0), r.1)) (elem-cases c b (children listed k b) m)
      go false e m ih = let r = ih m in (omega (arith, r.0), r.1)

  pub children-intro : (b c : ℕ) → c < b → T (heads (listed c) k) → T (elem c (children listed k b))
  unfolding children
  children-intro zero c h t = absurd (omega arith)
  children-intro (suc b) c h t = go (heads (listed b) k) refl (children-intro b c)
    where
      go : (x : Bool) → heads (listed b) k ≡ x → (c < b → T (heads (listed c) k) → T (elem c (children listed k b))) → T (elem c (keep x b (children listed k b)))
      go true e ih = ⊎_elim (λ s. elem-tail c b (children listed k b) (ih s t)) (λ s. let z : c ≡ b = omega arith in subst (λ (y : ℕ). T (elem y (b ∷ children listed k b))) (sym z) (elem-head b (children listed k b))) (lt-or-ge c b)
      go false e ih = ⊎_elim (λ s. ih s t) (λ s. let z : c ≡ b = omega arith in absurd (subst T e (subst (λ (y : ℕ). T (heads (listed y) k)) z t))) (lt-or-ge c b)

  -- ---- by their links

  pub latest-le : (b : ℕ) → latest listed k b ≤ b
  unfolding latest
  latest-le zero = omega arith
  latest-le (suc c) = go (heads (listed c) k) (latest-le c)
    where
      go : (x : Bool) → latest listed k c ≤ c → cond x (suc c) (latest listed k c) ≤ suc c
      go true h = omega arith
      go false h = omega arith

  -- past the last child there is none
  pub children-latest : (b : ℕ) → children listed k b ≡ children listed k (latest listed k b)
  unfolding children latest
  children-latest zero = refl
  children-latest (suc c) = go (heads (listed c) k) refl (children-latest c)
    where
      go : (x : Bool) → heads (listed c) k ≡ x → children listed k c ≡ children listed k (latest listed k c) → keep x c (children listed k c) ≡ children listed k (cond x (suc c) (latest listed k c))
      go true e ih = rw (e)
      go false e ih = ih

  pub latest-latest : (b : ℕ) → latest listed k (latest listed k b) ≡ latest listed k b
  unfolding latest
  latest-latest zero = refl
  latest-latest (suc c) = go (heads (listed c) k) refl (latest-latest c)
    where
      go : (x : Bool) → heads (listed c) k ≡ x → latest listed k (latest listed k c) ≡ latest listed k c → latest listed k (cond x (suc c) (latest listed k c)) ≡ cond x (suc c) (latest listed k c)
      go true e ih = rw (e)
      go false e ih = ih

  -- a link that is not 0 leads to a child
  pub latest-child : (c : ℕ) → latest listed k (suc c) ≡ suc c → heads (listed c) k ≡ true
  unfolding latest
  latest-child c e = go (heads (listed c) k) (latest-le c) e
    where
      go : (x : Bool) → latest listed k c ≤ c → cond x (suc c) (latest listed k c) ≡ suc c → x ≡ true
      go true h f = refl
      go false h f = absurd (omega arith)

  -- the child c, then those before it
  pub children-first : (c : ℕ) → heads (listed c) k ≡ true → children listed k (suc c) ≡ c ∷ children listed k (latest listed k c)
  unfolding children
  children-first c e = rw e (ap (λ (l : List ℕ). c ∷ l) (children-latest c))

-- ---- stamps

pub stamps-append : (v : ℕ) (l m seen : List ℕ) → stamps v (l ++ m) seen ≡ stamps v m (stamps v l seen)
unfolding stamps
stamps-append v [] m seen = refl
stamps-append v (i ∷ l) m seen = stamps-append v l m (set seen i v)

pub stamps-length : (v : ℕ) (l seen : List ℕ) → length (stamps v l seen) ≡ length seen
unfolding stamps
stamps-length v [] seen = refl
stamps-length v (i ∷ l) seen = stamps-length v l (set seen i v) ∙ length-set seen i v

set-le : (seen : List ℕ) (i v j : ℕ) → j < length seen → at seen j ≤ v → at (set seen i v) j ≤ v
set-le seen i v j h b =
    ⊎_elim (λ (e : j ≡ i). let z : at (set seen i v) j ≡ v = rw e (get_or-set_same seen i v 0 (omega arith)) in omega arith)
    (λ n. let z : at (set seen i v) j ≡ at seen j = get_or-set_other seen i j v 0 n in omega arith) (same? j i)

pub stamps-le : (v : ℕ) (l seen : List ℕ) (j : ℕ) → j < length seen → at seen j ≤ v → at (stamps v l seen) j ≤ v
unfolding stamps
stamps-le v [] seen j h b = b
stamps-le v (i ∷ l) seen j h b = stamps-le v l (set seen i v) j (omega (arith, length-set seen i v)) (set-le seen i v j h b)

-- what is stamped stays so
stamped : (v : ℕ) (l seen : List ℕ) (j : ℕ) → j < length seen → at seen j ≡ v → at (stamps v l seen) j ≡ v
unfolding stamps
stamped v [] seen j h e = e
stamped v (i ∷ l) seen j h e =
    stamped v l (set seen i v) j (omega (arith, length-set seen i v))
    (⊎_elim (λ (z : j ≡ i). rw z (get_or-set_same seen i v 0 (omega arith))) (λ n. get_or-set_other seen i j v 0 n ∙ e) (same? j i))

-- the stamp tells the rows listed from the others, where none had it before
pub stamps-test : (v : ℕ) (l seen : List ℕ) (j : ℕ) → j < length seen → at seen j < v → eqb (at (stamps v l seen) j) v ≡ elem j l
unfolding stamps
stamps-test v [] seen j h b = ne_eqb (at seen j) v (λ e. omega arith)
stamps-test v (i ∷ l) seen j h b = go (same? j i) (stamps-test v l (set seen i v) j (omega (arith, length-set seen i v)))
  where
    go : (j ≡ i) ⊎ (j ≡ i → ⊥) → (at (set seen i v) j < v → eqb (at (stamps v l (set seen i v)) j) v ≡ elem j l) → eqb (at (stamps v l (set seen i v)) j) v ≡ elem j (i ∷ l)
    go (inl e) ih =
        let s : at (set seen i v) j ≡ v = rw e (get_or-set_same seen i v 0 (omega arith)) in
        eq-eqb (at (stamps v l (set seen i v)) j) v (stamped v l (set seen i v) j (omega (arith, length-set seen i v)) s)
        ∙ sym (true_of (elem j (i ∷ l)) (subst (λ (z : ℕ). T (elem z (i ∷ l))) (sym e) (elem-head i l)))
    go (inr n) ih =
        let z : at (set seen i v) j ≡ at seen j = get_or-set_other seen i j v 0 n in
        ih (omega arith) ∙ rw (ne_eqb j i n)

module _ (v : ℕ) (rows : List ℕ) (u e : ℕ) (seen : List ℕ) where
  pub stamps-turn : u < e → e ≤ length rows → stamps v (slice u e rows) seen ≡ stamps v (slice (u + 1) e rows) (set seen (at rows u) v)
  unfolding stamps
  stamps-turn h w = rw (slice-cons u e rows 0 h w, add-one)

  pub stamps-end : e ≤ u → u ≤ e → stamps v (slice u e rows) seen ≡ seen
  unfolding stamps
  stamps-end h l = let z : u ≡ e = omega arith in rw (z, slice_empty e rows)

-- the walk over the children of k: the child x - 1 is stamped, then those before it
module _ (listed : ℕ → List ℕ) (k v x : ℕ) (seen : List ℕ) where
  pub walk_turn : 0 < x → latest listed k x ≡ x → stamps v (gather listed (children listed k x)) seen ≡ stamps v (gather listed (children listed k (latest listed k (x - 1)))) (stamps v (listed (x - 1)) seen)
  walk_turn h e = go (x - 1) (omega arith)
    where
      go : (c : ℕ) → x ≡ suc c → stamps v (gather listed (children listed k x)) seen ≡ stamps v (gather listed (children listed k (latest listed k c))) (stamps v (listed c) seen)
      go c z =
          let e' : latest listed k (suc c) ≡ suc c = rw z at e in
          ap (λ (l : List ℕ). stamps v (gather listed l) seen) (ap (children listed k) z ∙ children-first listed k c (latest-child listed k c e'))
          ∙ stamps-append v (listed c) (gather listed (children listed k (latest listed k c))) seen

  pub walk-child : 0 < x → latest listed k x ≡ x → T (heads (listed (x - 1)) k)
  walk-child h e =
      let z : x ≡ suc (x - 1) = omega arith in
      let e' : latest listed k (suc (x - 1)) ≡ suc (x - 1) = subst (λ (y : ℕ). latest listed k y ≡ y) z e in
      is_true (latest-child listed k (x - 1) e')

  pub walk_end : x ≤ 0 → stamps v (gather listed (children listed k x)) seen ≡ seen
  unfolding stamps children
  walk_end h = let z : x ≡ 0 = omega arith in rw z

-- ---- the lists, one column after the other

module _ {listed : ℕ → List ℕ} where
  pub families-none : (head sibling : List ℕ) → head ≡ replicate 4096 0 → length sibling ≡ 4096 → Families listed 0 head sibling
  unfolding latest
  families-none head sibling e l =
      record {
        long = (ap length e ∙ length-replicate {A = ℕ} 4096 0, l);
        heads_of = λ k h. ap (λ (x : List ℕ). at x k) e ∙ get_or-replicate {A = ℕ} 4096 k 0 0 h;
        siblings = λ c k h t. absurd (omega arith);
      }

  module _ {c : ℕ} {head sibling : List ℕ} (g : Families listed c head sibling) where
    -- where column c is empty
    pub families_skip : ((k : ℕ) → heads (listed c) k ≡ false) → Families listed (c + 1) head sibling
    unfolding latest
    families_skip none =
        record {
          long = g.long;
          heads_of = λ k h. rw (add-one, none k) (g.heads_of k h);
          siblings = λ d k h t. ⊎_elim (λ s. g.siblings d k s t) (λ s. let z : d ≡ c = omega arith in absurd (subst T (none k) (subst (λ (x : ℕ). T (heads (listed x) k)) z t))) (lt-or-ge d c);
        }

    -- where p is its first row
    module _ (p : ℕ) (hp : p < 4096) (hc : c < 4096) (first : (k : ℕ) → heads (listed c) k ≡ eqb p k) where
      head-next : (k : ℕ) → k < 4096 → (p ≡ k) ⊎ (p ≡ k → ⊥) → at (set head p (c + 1)) k ≡ latest listed k (c + 1)
      unfolding latest
      head-next k h (inl e) = rw (add-one, first k, eq-eqb p k e, e) (get_or-set_same head k (suc c) 0 (omega (arith, g.long.0)))
      head-next k h (inr n) = get_or-set_other head p k (c + 1) 0 (λ z. n (sym z)) ∙ g.heads_of k h ∙ rw (add-one, first k, ne_eqb p k n)

      sibling-next : (d k : ℕ) → d < c + 1 → T (heads (listed d) k) → (d < c) ⊎ (c ≤ d) → at (set sibling c (at head p)) d ≡ latest listed k d
      sibling-next d k h t (inl s) = get_or-set_other sibling c d (at head p) 0 (λ z. omega arith) ∙ g.siblings d k s t
      sibling-next d k h t (inr s) =
          let z : d ≡ c = omega arith in
          let q : p ≡ k = eqb→eq p k (subst T (first k) (subst (λ (x : ℕ). T (heads (listed x) k)) z t)) in
          rw (z, ← q) (get_or-set_same sibling c (at head p) 0 (omega (arith, g.long.1)) ∙ g.heads_of p hp)

      pub families_next : Families listed (c + 1) (set head p (c + 1)) (set sibling c (at head p))
      families_next =
          record {
            long = (length-set head p (c + 1) ∙ g.long.0, length-set sibling c (at head p) ∙ g.long.1);
            heads_of = λ k h. head-next k h (same? p k);
            siblings = λ d k h t. sibling-next d k h t (lt-or-ge d c);
          }
