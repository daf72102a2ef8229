-- The pairs that the two passes go through: of A's stored blocks, by new number, and of a column's rows with its first. Assumes nothing.
use Rattle.std.specs.Prelude.{◌≡◌, ℕ, ◌+◌, ◌<◌, ◌≤◌, min, max, Bool, true, false, cond, not, ◌&&◌, T, eqb, ◌⊎◌, List}
use mathlib.Core.Logic.{inl, inr, ⊎_elim}
use mathlib.Core.Path.{refl, sym, ap, subst, ◌∙◌}
use native.Mathlib.Nat.{eq-or-lt_of_le}
use native.Mathlib.Omega.{arith}
use borrow.Author.Tests.{eqb-true, eqb-false, eq-eqb, ne_eqb}
use Rattle.graph.proofs.Whole.{and_split, and-join}
use Rattle.graph.specs.Sets.{elem, gather}
use Rattle.graph.specs.Links.{rows_in, linked_in}
use Rattle.graph.proofs.SetLaws.{eqb_of, is_true, is_false}
use Rattle.tables.specs.Search.{first}
use Rattle.tables.specs.Verdict.{at, from_diagonal, past_diagonal}
use Rattle.tables.specs.Sound.{Columns}
use Rattle.tables.proofs.SearchLaws.{lt-or-ge, first-ge, first-none, first-fails}
use Rattle.tables.proofs.ColumnLaws.{starts-rise}
use Rattle.order.specs.Order.{Inverse}
use Rattle.match_rows.specs.Rows.{heads, children, passed_on, lowered, lowered_by, Lowest}
use Rattle.match_rows.proofs.HalvedLaws.{rises-of, listed_at, listed_place, heads-at, heads-is}
use Rattle.match_rows.proofs.LowLaws.{Low, low-none, low-all, low-keep, low-down, low_skip, low_more, Passed, passed_none, passed-next, passed-column}
use Rattle.match_rows.proofs.ChildLaws.{children-elim, children-intro, gather-elim, gather-intro}

apart-test : (p q : ℕ) → (p ≡ q → ⊥) → T (not (eqb p q))
apart-test p q h = rw (ne_eqb p q h) tt

-- ---- the pairs

-- of the stored block at place p of column c, by new number: none where it is on the diagonal
abbrev pub Stored : (rows inverse : List ℕ) → ℕ → ℕ → ℕ → ℕ → Type 0
Stored rows inverse p c i k = (at rows p ≡ c → ⊥) × (i ≡ max (at inverse (at rows p)) (at inverse c)) × (k ≡ min (at inverse (at rows p)) (at inverse c))

-- the lowest column so far, where A's places before u have been passed
abbrev pub Storing : (starts rows order inverse : List ℕ) → (n : ℕ) → (listed : ℕ → List ℕ) → (u r : ℕ) → Type 0
Storing starts rows order inverse n listed u r = Low (linked_in starts rows order) listed n (Passed starts n (Stored rows inverse) u) r

-- of the row at place p of column c and the first row of c, which is less
abbrev pub Rowed : (starts rows : List ℕ) → ℕ → ℕ → ℕ → ℕ → Type 0
Rowed starts rows p c i k = (k < i) × (i ≡ at rows p) × (k ≡ at rows (at starts c))

-- the lowest column so far, where the factor's places before u have been passed
abbrev pub Rowing : (starts rows : List ℕ) → (n u r : ℕ) → Type 0
Rowing starts rows n u r = Low (passed_on (rows_in starts rows) n) (rows_in starts rows) n (Passed starts n (Rowed starts rows) u) r

-- ---- A's stored blocks

module _ (starts rows order inverse : List ℕ) (n : ℕ) (columns : Columns from_diagonal n starts rows) (inv : Inverse n order inverse) (listed : ℕ → List ℕ) where
  pub storing-none : Storing starts rows order inverse n listed (at starts 0) n
  storing-none = low-none (passed_none columns.ordered (Stored rows inverse))

  -- two different old numbers have different new ones
  new_apart : (a b : ℕ) → a < n → b < n → (a ≡ b → ⊥) → at inverse a ≡ at inverse b → ⊥
  new_apart a b h l d e = d (sym (inv.back a h).1 ∙ ap (at order) e ∙ (inv.back b l).1)

  -- a stored block off the diagonal is a link of its new numbers
  link-of : (p q row c : ℕ) → at order p ≡ row → at order q ≡ c → (p ≡ q → ⊥) → c ≤ row → T (elem row (rows_in starts rows c)) → T (linked_in starts rows order (max p q) (min p q))
  link-of p q row c ep eq d le m = ⊎_elim (λ s. go (max p q) (min p q) q p (omega arith) (omega arith) c row eq ep (omega arith) (omega arith) (omega arith)) (λ s. go (max p q) (min p q) p q (omega arith) (omega arith) row c ep eq (omega arith) (omega arith) (λ e. d e)) (lt-or-ge p q)
    where
      go : (i k x y : ℕ) → i ≡ x → k ≡ y → (a b : ℕ) → at order x ≡ a → at order y ≡ b → max a b ≡ row → min a b ≡ c → (x ≡ y → ⊥) → T (linked_in starts rows order i k)
      go i k x y ei ek a b ea eb em en ne =
          rw (ei, ek, ea, eb, em, en) (and-join (not (eqb x y)) (elem row (rows_in starts rows c)) (apart-test x y ne) m)

  module _ (c u r : ℕ) (h : c < n) (lo : at starts c ≤ u) (hi : u < at starts (c + 1)) (g : Storing starts rows order inverse n listed u r) where
    pub storing-next : Storing starts rows order inverse n listed (u + 1) (lowered_by inverse listed (at rows u) c r)
    unfolding lowered_by
    storing-next = go (eqb (at rows u) c) refl
      where
        back : (i k : ℕ) → Passed starts n (Stored rows inverse) (u + 1) i k → Passed starts n (Stored rows inverse) u i k ⊎ Stored rows inverse u c i k
        back i k p = passed-next columns.ordered (Stored rows inverse) c u i k h lo hi p

        go : (b : Bool) → eqb (at rows u) c ≡ b → Storing starts rows order inverse n listed (u + 1) (cond b r (lowered listed (max (at inverse (at rows u)) (at inverse c)) (min (at inverse (at rows u)) (at inverse c)) r))
        go true e = low_skip g (λ i k p. ⊎_elim (λ q. q) (λ q. absurd (q.0 (eqb-true (at rows u) c e))) (back i k p))
        go false e =
            let b = columns.ranged c u h lo hi in
            let p = at inverse (at rows u) in
            let q = at inverse c in
            let ne : at rows u ≡ c → ⊥ = eqb-false (at rows u) c e in
            let d : p ≡ q → ⊥ = new_apart (at rows u) c b.1 h ne in
            let bp = inv.back (at rows u) b.1 in
            let bq = inv.back c h in
            low_more g (max p q) (min p q) (omega arith) (omega (arith, bp.0, bq.0)) (link-of p q (at rows u) c bp.1 bq.1 d b.0 (listed_at columns c h u lo hi))
            (λ i k s. ⊎_elim (λ z. inl z) (λ z. inr (z.1, z.2)) (back i k s))

  -- the pair of two linked blocks is that of the stored block which links them
  module _ (i k : ℕ) (l : k < i) (b : i < n) where
    ne : at order i ≡ at order k → ⊥
    ne e = let z : i ≡ k = sym (inv.there i b).1 ∙ ap (at inverse) e ∙ (inv.there k (omega arith)).1 in omega arith

    pairing : (at order i < at order k) ⊎ (at order k ≤ at order i) → (p : ℕ) → at rows p ≡ max (at order i) (at order k) → Stored rows inverse p (min (at order i) (at order k)) i k
    pairing (inl s) p e =
        let x : max (at order i) (at order k) ≡ at order k = omega arith in
        let y : min (at order i) (at order k) ≡ at order i = omega arith in
        let ei = (inv.there i b).1 in
        let ek = (inv.there k (omega arith)).1 in
        rw (e, x, y, ei, ek) (λ z. ne (sym z), omega arith, omega arith)
    pairing (inr s) p e =
        let x : max (at order i) (at order k) ≡ at order i = omega arith in
        let y : min (at order i) (at order k) ≡ at order k = omega arith in
        let ei = (inv.there i b).1 in
        let ek = (inv.there k (omega arith)).1 in
        rw (e, x, y, ei, ek) (λ z. ne z, omega arith, omega arith)

    pass : T (linked_in starts rows order i k) → Passed starts n (Stored rows inverse) (at starts n) i k
    pass t =
        let m = (and_split (not (eqb i k)) (elem (max (at order i) (at order k)) (rows_in starts rows (min (at order i) (at order k)))) t).1 in
        let c = min (at order i) (at order k) in
        let h : c < n = omega (arith, (inv.there i b).0) in
        let q = listed_place columns c h (max (at order i) (at order k)) m in
        record {
          place = q.0;
          column = c;
          earlier = omega (arith, q.2, starts-rise columns.ordered (c + 1) n (omega arith) (omega arith));
          known = h;
          inside = (q.1, q.2);
          pair = pairing (lt-or-ge (at order i) (at order k)) q.0 q.3;
        }

  pub storing_all : (r : ℕ) → Storing starts rows order inverse n listed (at starts n) r → Lowest (linked_in starts rows order) listed n r
  storing_all r g = low-all g pass

-- ---- the rows of a column and its first

module _ (starts rows : List ℕ) (n : ℕ) (columns : Columns past_diagonal n starts rows) where
  pub rowing-none : Rowing starts rows n (at starts 0) n
  rowing-none = low-none (passed_none columns.ordered (Rowed starts rows))

  -- one column more
  module _ (c r : ℕ) (h : c < n) (g : Rowing starts rows n (at starts c) r) where
    abbrev k : ℕ
    k = at rows (at starts c)

    -- does its parent list the row at place u?
    abbrev listed : ℕ → Bool
    listed u = elem (at rows u) (rows_in starts rows k)

    back : (i k' : ℕ) → Passed starts n (Rowed starts rows) (at starts (c + 1)) i k' → Passed starts n (Rowed starts rows) (at starts c) i k' ⊎ ((p : ℕ) × (at starts c ≤ p) × (p < at starts (c + 1)) × Rowed starts rows p c i k')
    back i k' p = passed-column columns.ordered (Rowed starts rows) c i k' h p

    -- behind its first place, as the rows rise
    past : (p : ℕ) → at starts c ≤ p → at rows (at starts c) < at rows p → at starts c + 1 ≤ p
    past p a l = ⊎_elim (λ (z : at starts c ≡ p). let w : at rows (at starts c) ≡ at rows p = ap (at rows) z in absurd (omega arith)) (λ s. omega arith) (eq-or-lt_of_le a)

    pub rowing-empty : at starts (c + 1) ≤ at starts c → Rowing starts rows n (at starts (c + 1)) r
    rowing-empty e = low_skip g (λ i k' p. ⊎_elim (λ q. q) (λ q. absurd (omega (arith, q.1, q.2))) (back i k' p))

    pub rowing-above : r ≤ k → Rowing starts rows n (at starts (c + 1)) r
    rowing-above e = low-keep g (λ i k' l p. ⊎_elim (λ q. inl q) (λ q. absurd (omega (arith, q.3.2))) (back i k' p))

    module _ (u : ℕ) (f : u ≡ first listed (at starts c + 1) (at starts (c + 1))) where
      pub rowing-passed : at starts (c + 1) ≤ u → Rowing starts rows n (at starts (c + 1)) r
      rowing-passed e =
          low-keep g (λ i k' l p. ⊎_elim (λ q. inl q) (λ q. inr (row i k' q.0 q.1 q.2 q.3)) (back i k' p))
        where
          row : (i k' p : ℕ) → at starts c ≤ p → p < at starts (c + 1) → Rowed starts rows p c i k' → T (elem i (rows_in starts rows k'))
          row i k' p a b q =
              rw (q.1, q.2) (is_true (first-none listed (at starts c + 1) (at starts (c + 1)) (rw f at e) p (past p a (omega (arith, q.0, q.1, q.2))) b))

      pub rowing-down : at starts c < at starts (c + 1) → k < r → u < at starts (c + 1) → Rowing starts rows n (at starts (c + 1)) k
      unfolding passed_on
      rowing-down some less e =
          let lo : at starts c + 1 ≤ u = rw f (first-ge listed (at starts c + 1) (at starts (c + 1))) in
          let head : T (heads (rows_in starts rows c) k) = subst T (sym (heads-at (rises-of columns c h) k some)) (eqb_of {x = k} refl) in
          low-down g (at rows u) k less (columns.rises c (at starts c) u h (omega arith) (omega arith) e) (columns.ranged c u h (omega arith) e).1
          (gather-intro (rows_in starts rows) (at rows u) c (children (rows_in starts rows) k n) (children-intro (rows_in starts rows) k n c h head) (listed_at columns c h u (omega arith) e))
          (is_false (rw (← f) at (first-fails listed (at starts c + 1) (at starts (c + 1)) (omega arith) (rw f at e))))
          (λ i k' l p. ⊎_elim (λ q. q) (λ q. absurd (omega (arith, q.3.2))) (back i k' p))

  pub rowing-all : (r : ℕ) → Rowing starts rows n (at starts n) r → Lowest (passed_on (rows_in starts rows) n) (rows_in starts rows) n r
  unfolding passed_on
  rowing-all r g = low-all g (λ i k l b t. pass i k l t)
    where
      pass : (i k : ℕ) → k < i → T (elem i (gather (rows_in starts rows) (children (rows_in starts rows) k n))) → Passed starts n (Rowed starts rows) (at starts n) i k
      pass i k l t =
          let q = gather-elim (rows_in starts rows) i (children (rows_in starts rows) k n) t in
          let c = q.0 in
          let e = children-elim (rows_in starts rows) k n c q.1 in
          let p = listed_place columns c e.0 i q.2 in
          record {
            place = p.0;
            column = c;
            earlier = omega (arith, p.2, starts-rise columns.ordered (c + 1) n (omega (arith, e.0)) (omega arith));
            known = e.0;
            inside = (p.1, p.2);
            pair = (l, sym p.3, sym (heads-is (rises-of columns c e.0) k e.1).1);
          }

-- ---- a link, read from the table

module _ (starts rows order : List ℕ) (i k : ℕ) where
  pub linked-same : i ≡ k → false ≡ linked_in starts rows order i k
  linked-same e = rw (eq-eqb i k e)

  module _ (ne : i ≡ k → ⊥) where
    pub linked-rises : at order i < at order k → elem (at order k) (rows_in starts rows (at order i)) ≡ linked_in starts rows order i k
    linked-rises h =
        let x : max (at order i) (at order k) ≡ at order k = omega arith in
        let y : min (at order i) (at order k) ≡ at order i = omega arith in
        rw (ne_eqb i k ne, x, y)

    pub linked-falls : at order k ≤ at order i → elem (at order i) (rows_in starts rows (at order k)) ≡ linked_in starts rows order i k
    linked-falls h =
        let x : max (at order i) (at order k) ≡ at order i = omega arith in
        let y : min (at order i) (at order k) ≡ at order k = omega arith in
        rw (ne_eqb i k ne, x, y)

-- ---- the least column after a stored block

module _ (inverse : List ℕ) (listed : ℕ → List ℕ) (row column least : ℕ) where
  pub by-diagonal : row ≡ column → least ≡ lowered_by inverse listed row column least
  unfolding lowered_by
  by-diagonal e = rw (eq-eqb row column e)

  module _ (ne : row ≡ column → ⊥) where
    pub by-rises : at inverse row < at inverse column → lowered listed (at inverse column) (at inverse row) least ≡ lowered_by inverse listed row column least
    unfolding lowered_by
    by-rises h =
        let x : max (at inverse row) (at inverse column) ≡ at inverse column = omega arith in
        let y : min (at inverse row) (at inverse column) ≡ at inverse row = omega arith in
        rw (ne_eqb row column ne, x, y)

    pub by-falls : at inverse column ≤ at inverse row → lowered listed (at inverse row) (at inverse column) least ≡ lowered_by inverse listed row column least
    unfolding lowered_by
    by-falls h =
        let x : max (at inverse row) (at inverse column) ≡ at inverse row = omega arith in
        let y : min (at inverse row) (at inverse column) ≡ at inverse column = omega arith in
        rw (ne_eqb row column ne, x, y)
