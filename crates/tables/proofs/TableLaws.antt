-- What a search that ran to its end says of every place, table by table: its test holds there. Assumes nothing.
use Rattle.std.specs.Prelude.{◌≡◌, ℕ, zero, suc, ◌+◌, ◌-◌, ◌*◌, ◌<◌, ◌≤◌, Bool, true, false, ◌&&◌, ◌||◌, T, eqb, ltb, leb, ◌⊎◌, List, [], ◌∷◌, length, take, None}
use Prim.Native.Nat.{zero-le}
use mathlib.Core.Bool.{false≢true}
use mathlib.Core.Logic.{inl, inr, ⊎_elim}
use mathlib.Core.Path.{refl, sym, ◌∙◌}
use native.Mathlib.Nat.{mul-suc, suc-mul, mul-le-mul, mul-le-mul_left}
use native.Mathlib.Numerals.{add-one}
use native.Mathlib.Omega.{arith}
use borrow.Author.Tests.{le-leb, lt-leb, ne_eqb, lt-ltb, le-ltb, leb-true, ltb-true, eqb-true}
use lib.ListN.{get_or-eq_default}
use lib.Seq.{length-slice, get_or-take, get_or-drop}
use Rattle.graph.specs.Sets.{elem, Inc, Uniq}
use Rattle.graph.specs.Links.{rows_in}
use Rattle.graph.specs.Order.{Permutes}
use Rattle.graph.proofs.SetLaws.{elem-cases}
use Rattle.tables.specs.Search.{fault}
use Rattle.tables.specs.Verdict.{at, dim_ok, rises_at, start_ok, row_ok, row_fits, order_ok, order_fits, perm_ok, late_ok, parent_fits, parent_ok, past_diagonal}
use Rattle.tables.specs.Sound.{Sizes, Ordered, Columns, Measured}
use Rattle.tables.proofs.Bools.{and_left, and_right}
use Rattle.tables.proofs.SearchLaws.{lt-or-ge}
use Rattle.tables.proofs.FaultLaws.{fault-clear}
use Rattle.tables.proofs.ColumnLaws.{column-is, in_some}
use Rattle.tables.proofs.MarkLaws.{perm-parts, perm-fresh, elem-before}

-- ---- lists by their places

-- an element has a place
pub place-of : (x : ℕ) (l : List ℕ) → T (elem x l) → (i : ℕ) × (i < length l) × (at l i ≡ x)
place-of x [] t = elim t [ ]
place-of x (y ∷ l) t = ⊎_elim here (λ h. there (place-of x l h)) (elem-cases x y l t)
  where
    here : x ≡ y → (i : ℕ) × (i < length (y ∷ l)) × (at (y ∷ l) i ≡ x)
    here e = (0, omega arith, sym e)

    there : (i : ℕ) × (i < length l) × (at l i ≡ x) → (i : ℕ) × (i < length (y ∷ l)) × (at (y ∷ l) i ≡ x)
    there r = (suc r.0, omega (arith, r.1), r.2)

-- a list that increases from place to place
inc-of : (l : List ℕ) → ((i k : ℕ) → i < k → k < length l → at l i < at l k) → Inc l
inc-of [] h = tt
inc-of (x ∷ l) h = (above, inc-of l (λ i k a b. h (suc i) (suc k) (omega arith) (omega arith)))
  where
    above : (y : ℕ) → T (elem y l) → x < y
    above y t = let r = place-of y l t in rw r.2 at (h 0 (suc r.0) (omega arith) (omega (arith, r.1)))

-- a list whose places differ
uniq_of : (l : List ℕ) → ((i k : ℕ) → i < k → k < length l → at l i ≡ at l k → ⊥) → Uniq l
uniq_of [] h = tt
uniq_of (x ∷ l) h = (apart, uniq_of l (λ i k a b e. h (suc i) (suc k) (omega arith) (omega arith) e))
  where
    apart : T (elem x l) → ⊥
    apart t = let r = place-of x l t in h 0 (suc r.0) (omega arith) (omega (arith, r.1)) (sym r.2)

-- ---- 2

pub sizes-of : (dims : List ℕ) → None ≡ fault (dim_ok dims) 0 (length dims) → Sizes dims
unfolding dim_ok
sizes-of dims h = record { positive = λ k l. leb-true _ _ (and_left (leb 1 (at dims k)) _ (ok k l)); small = small }
  where
    ok : (k : ℕ) → k < length dims → dim_ok dims k ≡ true
    ok k l = fault-clear (dim_ok dims) 0 (length dims) h k zero-le l

    small : (k : ℕ) → at dims k ≤ 16
    small k =
        ⊎_elim (λ (l : k < length dims). leb-true _ _ (and_right (leb 1 (at dims k)) _ (ok k l))) (λ (l : length dims ≤ k). rw (get_or-eq_default dims 0 l) zero-le) (lt-or-ge k (length dims))

-- ---- 3

pub ordered_of : (starts : List ℕ) (n m : ℕ) → None ≡ fault (start_ok starts n m) 0 (n + 2) → Ordered starts n m
unfolding start_ok rises_at
ordered_of starts n m h =
    record { entries = omega (arith, (parts n (omega arith)).0, no_more); begins = begins; rising = rising; ends = ends; inside = inside }
  where
    ok : (k : ℕ) → k < n + 2 → start_ok starts n m k ≡ true
    ok k l = fault-clear (start_ok starts n m) 0 (n + 2) h k zero-le l

    parts : (k : ℕ) → k ≤ n → (k < length starts) × ((rises_at starts k ≡ true) × ((ltb k n || eqb (at starts k) m) ≡ true))
    parts k l =
        let e : (ltb k (length starts) && (rises_at starts k && (ltb k n || eqb (at starts k) m))) ≡ true = rw (le-leb k n l) at (ok k (omega arith)) in
        let f = and_right (ltb k (length starts)) _ e in
        (ltb-true _ _ (and_left (ltb k (length starts)) _ e), (and_left (rises_at starts k) _ f, and_right (rises_at starts k) _ f))

    no_more : length starts ≤ n + 1
    no_more = leb-true _ _ (rw (lt-leb (n + 1) n (omega arith)) at (ok (n + 1) (omega arith)))

    begins : at starts 0 ≡ 0
    begins = eqb-true _ _ (parts 0 zero-le).1.0

    rising : (j : ℕ) → j < n → at starts j ≤ at starts (j + 1)
    rising j l =
        let e : leb (at starts (j + 1 - 1)) (at starts (j + 1)) ≡ true = rw (ne_eqb (j + 1) 0 (λ z. omega arith)) at (parts (j + 1) (omega arith)).1.0 in
        let back : j + 1 - 1 ≡ j = omega arith in
        leb-true _ _ (rw back at e)

    ends : at starts n ≡ m
    ends = eqb-true _ _ (rw (le-ltb n n (omega arith)) at (parts n (omega arith)).1.1)

    -- down from the last
    from_end : (d j : ℕ) → j + d ≡ n → at starts j ≤ m
    from_end zero j e = let z : j ≡ n = omega arith in rw z (omega (arith, ends))
    from_end (suc d) j e = omega (arith, rising j (omega arith), from_end d (j + 1) (omega arith))

    inside : (j : ℕ) → j ≤ n → at starts j ≤ m
    inside j l = from_end (n - j) j (omega arith)

-- ---- 5 and 6

module _ (least : ℕ → ℕ) (n : ℕ) (starts rows : List ℕ) (o : Ordered starts n (length rows)) where
  ranged : None ≡ fault (row_fits least starts rows n) 0 (length rows) → (j p : ℕ) → j < n → at starts j ≤ p → p < at starts (j + 1) → (least j ≤ at rows p) × (at rows p < n)
  unfolding row_ok
  ranged h j p l lo hi =
      let e : row_fits least starts rows n p ≡ true = fault-clear (row_fits least starts rows n) 0 (length rows) h p zero-le (omega (arith, o.inside (j + 1) (omega arith))) in
      let f : row_ok rows n (least j) p ≡ true = rw (column-is o j p l lo hi) at e in
      (leb-true _ _ (and_left (leb (least j) (at rows p)) _ f), ltb-true _ _ (and_right (leb (least j) (at rows p)) _ f))

  -- one row after another in a column
  next : None ≡ fault (order_fits starts rows n) 0 (length rows) → (j p : ℕ) → j < n → at starts j < p → p < at starts (j + 1) → at rows (p - 1) < at rows p
  unfolding order_ok
  next h j p l lo hi =
      let e : order_fits starts rows n p ≡ true = fault-clear (order_fits starts rows n) 0 (length rows) h p zero-le (omega (arith, o.inside (j + 1) (omega arith))) in
      let f : order_ok rows (at starts j) p ≡ true = rw (column-is o j p l (omega arith) hi) at e in
      ltb-true _ _ (rw (lt-leb p (at starts j) lo) at f)

  module _ (h5 : None ≡ fault (row_fits least starts rows n) 0 (length rows)) (h6 : None ≡ fault (order_fits starts rows n) 0 (length rows)) where
    rise-by : (j d p q : ℕ) → j < n → p + suc d ≡ q → at starts j ≤ p → q < at starts (j + 1) → at rows p < at rows q
    rise-by j zero p q l e lo hi =
        let back : q - 1 ≡ p = omega arith in
        rw back at (next h6 j q l (omega arith) hi)
    rise-by j (suc d) p q l e lo hi = omega (arith, rise-by j d p (q - 1) l (omega arith) lo (omega arith), next h6 j q l (omega arith) hi)

    rises : (j p q : ℕ) → j < n → at starts j ≤ p → p < q → q < at starts (j + 1) → at rows p < at rows q
    rises j p q l lo less hi = rise-by j (q - p - 1) p q l (omega arith) lo hi

    module _ (j : ℕ) (l : j < n) where
      column-length : length (rows_in starts rows j) ≡ at starts (j + 1) - at starts j
      column-length =
          length-slice (at starts j) (at starts (j + 1)) rows (o.inside (j + 1) (omega arith))

      column-at : (i : ℕ) → i < at starts (j + 1) - at starts j → at (rows_in starts rows j) i ≡ at rows (at starts j + i)
      column-at i h = get_or-drop (at starts j) (take (at starts (j + 1)) rows) i 0 ∙ get_or-take (at starts (j + 1)) rows (at starts j + i) 0 (omega arith)

      increasing : Inc (rows_in starts rows j)
      increasing =
          inc-of (rows_in starts rows j) (λ i k a b. let c : k < at starts (j + 1) - at starts j = omega (arith, column-length) in rw (column-at i (omega arith), column-at k c) (rises j (at starts j + i) (at starts j + k) l (omega arith) (omega arith) (omega arith)))

      members : (row : ℕ) → T (elem row (rows_in starts rows j)) → (least j ≤ row) × (row < n)
      members row t =
          let r = place-of row (rows_in starts rows j) t in
          let i = r.0 in
          let c : i < at starts (j + 1) - at starts j = omega (arith, column-length, r.1) in
          let e : at rows (at starts j + i) ≡ row = sym (column-at i c) ∙ r.2 in
          rw e at (ranged h5 j (at starts j + i) l (omega arith) (omega arith))

      climb : (i : ℕ) → at starts j + i < at starts (j + 1) → least j + i ≤ at rows (at starts j + i)
      climb zero h = omega (arith, (ranged h5 j (at starts j + 0) l (omega arith) h).0)
      climb (suc i) h =
          omega (arith, climb i (omega arith), rises j (at starts j + i) (at starts j + suc i) l (omega arith) (omega arith) h)

      short : at starts (j + 1) - at starts j ≤ n - least j
      short = ⊎_elim (λ (h : at starts j < at starts (j + 1)). some h) (λ h. omega arith) (lt-or-ge (at starts j) (at starts (j + 1)))
        where
          some : at starts j < at starts (j + 1) → at starts (j + 1) - at starts j ≤ n - least j
          some h =
              let i = at starts (j + 1) - at starts j - 1 in
              omega (arith, climb i (omega arith), (ranged h5 j (at starts j + i) l (omega arith) (omega arith)).1)

    pub columns_of : Columns least n starts rows
    columns_of =
        record {
          ordered = o;
          ranged = ranged h5;
          members = λ j row l. members j l row;
          rises = rises;
          increasing = increasing;
          short = short;
          below = λ p h. in_some o p (at rows p < n) h (λ j l lo hi. (ranged h5 j p l lo hi).1);
        }

-- ---- how many blocks columns can store

module _ {least : ℕ → ℕ} {n : ℕ} {starts rows : List ℕ} (c : Columns least n starts rows) where
  stored-by : (j : ℕ) → j ≤ n → at starts j ≤ j * n
  stored-by zero h = omega (arith, c.ordered.begins)
  stored-by (suc j) h =
      let up : at starts (j + 1) ≤ at starts j + n = omega (arith, c.short j (omega arith)) in
      let up' : at starts (suc j) ≤ at starts j + n = rw add-one at up in
      rw suc-mul (omega (arith, stored-by j (omega arith)))

  -- n × n for any
  pub stored-square : length rows ≤ n * n
  stored-square = omega (arith, c.ordered.ends, stored-by n (omega arith))

  pub stored-few : n ≤ 4096 → length rows ≤ 16777216
  stored-few h = omega (arith, stored-square, mul-le-mul h h)

module _ {n : ℕ} {starts rows : List ℕ} (c : Columns past_diagonal n starts rows) where
  square : (r : ℕ) → suc r * suc r ≡ r * r + 2 * r + 1
  square r = omega (arith, mul-suc (suc r) r, suc-mul r r)

  half-by : (j r : ℕ) → j + r ≡ n → 2 * at starts j + j + r * r ≤ n * n
  half-by zero r e = let z : r ≡ n = omega arith in rw z (omega (arith, c.ordered.begins))
  half-by (suc j) r e =
      let up : at starts (j + 1) ≤ at starts j + r = omega (arith, c.short j (omega arith)) in
      let up' : at starts (suc j) ≤ at starts j + r = rw add-one at up in
      omega (arith, half-by j (suc r) (omega arith), square r)

  -- n(n - 1)/2 past the diagonal
  pub stored-half : 2 * length rows + n ≤ n * n
  stored-half = omega (arith, c.ordered.ends, half-by n 0 (omega arith))

  pub stored-limit : n ≤ 4096 → length rows ≤ 8386560
  stored-limit h = omega (arith, stored-half, mul-le-mul_left n h)

-- ---- what the sum of areas reads

module _ (least : ℕ → ℕ) {dims starts rows : List ℕ} where
  pub measured_of : length dims ≤ 4096 → None ≡ fault (dim_ok dims) 0 (length dims) → None ≡ fault (start_ok starts (length dims) (length rows)) 0 (length dims + 2) →
      None ≡ fault (row_fits least starts rows (length dims)) 0 (length rows) → None ≡ fault (order_fits starts rows (length dims)) 0 (length rows) →
      Measured dims starts rows
  measured_of h1 h2 h3 h5 h6 =
      let o : Ordered starts (length dims) (length rows) = ordered_of _ _ _ h3 in
      let c : Columns least (length dims) starts rows = columns_of least _ _ _ o h5 h6 in
      record { sizes = sizes-of dims h2; ordered = o; below = c.below; few = stored-few c h1 }

-- ---- 8 and 9

pub permutes-of : (perm : List ℕ) (n : ℕ) → None ≡ fault (perm_ok perm n) 0 (n + 1) → Permutes n perm
unfolding perm_ok
permutes-of perm n h = record { entries = entries; below = below; once = uniq_of perm apart }
  where
    ok : (k : ℕ) → k < n + 1 → perm_ok perm n k ≡ true
    ok k l = fault-clear (perm_ok perm n) 0 (n + 1) h k zero-le l

    no_more : length perm ≤ n
    no_more = leb-true _ _ (rw (le-ltb n n (omega arith)) at (ok n (omega arith)))

    long : (k : ℕ) → k ≤ n → k ≤ length perm
    long zero l = zero-le
    long (suc k) l = (perm-parts perm n k (omega arith) (ok k (omega arith))).0

    entries : length perm ≡ n
    entries = omega (arith, long n (omega arith), no_more)

    below : (block : ℕ) → T (elem block perm) → block < n
    below block t =
        let r = place-of block perm t in
        let l : r.0 < n = omega (arith, r.1, entries) in
        rw r.2 at (perm-parts perm n r.0 l (ok r.0 (omega arith))).1

    apart : (i k : ℕ) → i < k → k < length perm → at perm i ≡ at perm k → ⊥
    apart i k a b e =
        let l : k < n = omega (arith, entries) in
        false≢true (rw (elem-before perm k i a b e) at (perm-fresh perm n k l (ok k (omega arith))))

pub flags_of : (late : List ℕ) (n : ℕ) → None ≡ fault (late_ok late n) 0 (n + 1) → (length late ≡ n) × ((k : ℕ) → k < n → at late k ≤ 1)
unfolding late_ok
flags_of late n h = (omega (arith, long n (omega arith), no_more), λ k l. leb-true _ _ (and_right (ltb k (length late)) _ (parts k l)))
  where
    ok : (k : ℕ) → k < n + 1 → late_ok late n k ≡ true
    ok k l = fault-clear (late_ok late n) 0 (n + 1) h k zero-le l

    parts : (k : ℕ) → k < n → (ltb k (length late) && leb (at late k) 1) ≡ true
    parts k l = rw (lt-ltb k n l) at (ok k (omega arith))

    no_more : length late ≤ n
    no_more = leb-true _ _ (rw (le-ltb n n (omega arith)) at (ok n (omega arith)))

    long : (k : ℕ) → k ≤ n → k ≤ length late
    long zero l = zero-le
    long (suc k) l = ltb-true _ _ (and_left (ltb k (length late)) _ (parts k (omega arith)))

-- ---- the parents

pub parents-of : (above : List ℕ) → None ≡ fault (parent_ok above) 0 (length above) → (k : ℕ) → k < length above → (at above k ≡ 4294967295) ⊎ ((k < at above k) × (at above k < length above))
unfolding parent_fits
parents-of above h k l = by-test (eqb (at above k) 4294967295) refl (fault-clear (parent_ok above) 0 (length above) h k zero-le l)
  where
    by-test : (b : Bool) → eqb (at above k) 4294967295 ≡ b → (b || ltb k (at above k) && ltb (at above k) (length above)) ≡ true → (at above k ≡ 4294967295) ⊎ ((k < at above k) × (at above k < length above))
    by-test true e t = inl (eqb-true _ _ e)
    by-test false e t = inr (ltb-true _ _ (and_left (ltb k (at above k)) _ t), ltb-true _ _ (and_right (ltb k (at above k)) _ t))
