-- What the climbs for row j find where they pass by the columns that repeat their parents'. The top of j bears the mark from the start.
--     found_rows  whatever they find has row j, and is found once
--     found_tops  and each column that has row j and repeats none is found
-- `Walk`: what holds between two steps. From each column found the climb has gone on, but for one that is pending. Assumes nothing.
use Rattle.std.specs.Prelude.{◌≡◌, ℕ, zero, suc, ◌+◌, ◌-◌, ◌<◌, ◌≤◌, min, max, Bool, false, ◌||◌, T, eqb, ltb, ◌⊎◌, List, [], ◌∷◌, length, get_or, set}
use mathlib.Core.Path.{sym, ap, subst, ◌∙◌}
use mathlib.Core.Logic.{inl, inr, ⊎_elim}
use native.Mathlib.Nat.{le_refl}
use native.Mathlib.Omega.{arith}
use native.Mathlib.Decide.{dec_lt}
use borrow.Author.Tests.{eq-eqb, ne_eqb, lt-ltb, le-ltb}
use lib.Dec.{eqb→eq}
use lib.ListN.{length-set}
use lib.Seq.{slice, get_or-set_same, get_or-set_other}
use Rattle.graph.specs.Sets.{elem, Uniq}
use Rattle.graph.specs.Fill.{Fill, here, made}
use Rattle.graph.proofs.SetLaws.{or_left, or_right, or_cases, elem-head, elem-tail, elem-cases, filter-elim, filter-intro, eqb_of, is_true}
use Rattle.buckets.proofs.Lists.{same?}
use Rattle.elimination_tree.specs.Tree.{linked_up, upper}
use Rattle.reach.specs.Reach.{none, State, pick, mark_at, climb, scanned, reached}
use Rattle.reach.proofs.Laws.{climb-stop, climb-up}
use Rattle.symbolic.specs.Columns.{Tree, Below}
use Rattle.symbolic.proofs.Walks.{Marked, mark_more}
use Rattle.fill_rows.specs.Repeats.{repeats, top_of, Onward}
use Rattle.fill_rows.proofs.Columns.{blocks, parents-good, up_least, has-up, row_up}
use Rattle.fill_rows.proofs.Onward.{top-on, top-here, repeats?, onward-up, top_up}

module _ (starts rows : List ℕ) (n : ℕ) (parent : List ℕ) (t : Tree n starts rows parent) (heads onward : List ℕ) (o : Onward parent heads onward) (j : ℕ) (h : j < n) where
  -- row j is in column k
  abbrev Row : ℕ → Type 0
  Row k = (k < j) × Fill (linked_up starts rows) j k

  abbrev top : ℕ → ℕ
  top k = top_of parent heads onward k

  same : length parent ≡ n
  same = blocks starts rows n parent t

  few : length parent ≤ 4096
  few = subst (λ (m : ℕ). m ≤ 4096) (sym same) t.pattern.few

  top-of : (k : ℕ) → k < n → (k ≤ top k) × (top k < n)
  top-of k b =
      let u = top_up parent heads onward few (parents-good starts rows n parent t) o k (subst (λ (m : ℕ). k < m) (sym same) b) in
      (u.0, subst (λ (m : ℕ). top k < m) same u.1)

  -- a column with row j is no root
  child : (k : ℕ) → Row k → get_or parent k 0 ≡ none → ⊥
  child k r = has-up starts rows n parent t k j r.0 h r.1

  go_on : (k : ℕ) → Row k → (k < get_or onward k 0) × (get_or onward k 0 < n)
  go_on k r =
      let u = onward-up parent heads onward few (parents-good starts rows n parent t) o k (omega (arith, r.0, h, same)) (child k r) in
      (u.0, subst (λ (m : ℕ). get_or onward k 0 < m) same u.1)

  on-above : (k : ℕ) → Row k → get_or onward k 0 ≡ top (get_or parent k 0)
  on-above k r = o.above k (omega (arith, r.0, h, same)) (child k r)

  -- its parent is j, or has row j too
  up-row : (k : ℕ) → Row k → (get_or parent k 0 ≡ j) ⊎ Row (get_or parent k 0)
  up-row k r =
      let b : k < n = omega (arith, r.0) in
      let u = up_least starts rows n parent t k b (child k r) in
      let l : get_or parent k 0 ≤ j = u.3 j r.0 h r.1 in
      ⊎_elim (λ e. inl e) (λ e. inr (omega arith, row_up starts rows n parent t k j b (child k r) r.1)) (same? (get_or parent k 0) j)

  -- ---- a climb stays on columns with row j until it is at the top of j

  abbrev Toward : ℕ → Type 0
  Toward i = (i ≡ top j) ⊎ Row i

  toward-by : (d i : ℕ) → j ≤ i + d → Row i → Toward (get_or onward i 0)
  toward-by zero i far r = absurd (omega (arith, r.0))
  toward-by (suc d) i far r = ⊎_elim
      (λ e. inl (on-above i r ∙ ap top e))
      (λ q.
      let u = up_least starts rows n parent t i (omega (arith, r.0, h)) (child i r) in
      ⊎_elim
      (λ e. subst Toward (sym (on-above i r ∙ top-on parent heads onward (get_or parent i 0) e)) (toward-by d (get_or parent i 0) (omega (arith, u.0)) q))
      (λ e. subst Toward (sym (on-above i r ∙ top-here parent heads onward (get_or parent i 0) e)) (inr q))
      (repeats? parent heads (get_or parent i 0)))
      (up-row i r)

  toward : (i : ℕ) → Row i → Toward (get_or onward i 0)
  toward i r = toward-by j i (omega arith) r

  -- ---- the walk

  abbrev Marks : List ℕ → List ℕ → Type 0
  Marks stamps found = Marked n (j + 1) (top j) (j + 1) (le_refl (j + 1)) stamps found

  -- those that bear the mark
  bears : (stamps found : List ℕ) → Marks stamps found → (i : ℕ) → i < n → T (eqb i (top j) || elem i found) → get_or stamps i 0 ≡ j + 1
  bears stamps found k i b m = eqb→eq (get_or stamps i 0) (j + 1) (subst (λ (x : Bool). T x) (sym (k.marks i b)) m)

  borne : (stamps found : List ℕ) → Marks stamps found → (i : ℕ) → i < n → get_or stamps i 0 ≡ j + 1 → T (eqb i (top j) || elem i found)
  borne stamps found k i b e = subst (λ (x : Bool). T x) (k.marks i b) (eqb_of e)

  record Walk (pending : ℕ) (s : State) : Type 0 where
    marked : Marks s.stamps s.found
    sound : (k : ℕ) → T (elem k s.found) → Row k
    once : Uniq s.found
    closed : (k : ℕ) → T (elem k s.found) → (get_or onward k 0 ≡ pending) ⊎ (get_or s.stamps (get_or onward k 0) 0 ≡ j + 1)

  -- a mark stays where another is set
  stays : (stamps : List ℕ) (i x : ℕ) → i < length stamps → get_or stamps x 0 ≡ j + 1 → get_or (set stamps i (j + 1)) x 0 ≡ j + 1
  stays stamps i x b e = ⊎_elim
      (λ z. ap (λ (y : ℕ). get_or (set stamps i (j + 1)) y 0) z ∙ get_or-set_same stamps i (j + 1) 0 b)
      (λ z. get_or-set_other stamps i x (j + 1) 0 z ∙ e)
      (same? x i)

  step : (i : ℕ) (s : State) → i < n → Row i → (get_or s.stamps i 0 ≡ j + 1 → ⊥) → Walk i s → Walk (get_or onward i 0) (mark_at (j + 1) i s)
  step i s b r new w =
      let b' : i < length s.stamps = subst (λ (m : ℕ). i < m) (sym w.marked.count) b in
      record {
        marked = mark_more n (j + 1) (top j) (j + 1) (le_refl (j + 1)) s.stamps s.found i b w.marked;
        sound = λ k m. ⊎_elim (λ e. subst Row (sym e) r) (λ m'. w.sound k m') (elem-cases k i s.found m);
        once = (λ m. new (bears s.stamps s.found w.marked i b (or_right (eqb i (top j)) (elem i s.found) m)), w.once);
        closed = λ k m. ⊎_elim
            (λ e. inl (ap (λ (y : ℕ). get_or onward y 0) e))
            (λ m'. inr (⊎_elim
            (λ e. ap (λ (y : ℕ). get_or (set s.stamps i (j + 1)) y 0) e ∙ get_or-set_same s.stamps i (j + 1) 0 b')
            (λ e. stays s.stamps i (get_or onward k 0) b' e)
            (w.closed k m')))
            (elem-cases k i s.found m);
      }

  -- after it, nothing is pending (n is no column), i bears the mark, and so do all that did
  record Climbed (i : ℕ) (s s' : State) : Type 0 where
    walk : Walk n s'
    at : get_or s'.stamps i 0 ≡ j + 1
    keeps : (x : ℕ) → get_or s.stamps x 0 ≡ j + 1 → get_or s'.stamps x 0 ≡ j + 1

  climbed : (f i : ℕ) (s : State) → n ≤ f + i → i < n → Toward i → Walk i s → Climbed i s (climb f onward (j + 1) i s)
  climbed zero i s far b to w = absurd (omega arith)
  climbed (suc f) i s far b to w = ⊎_elim stops (goes (λ i' s'. climbed f i' s')) (same? (get_or s.stamps i 0) (j + 1))
    where
      stops : get_or s.stamps i 0 ≡ j + 1 → Climbed i s (climb (suc f) onward (j + 1) i s)
      stops e = subst (Climbed i s) (sym (climb-stop (suc f) onward (j + 1) i s (omega arith) e)) (record {
        walk = record {
          marked = w.marked;
          sound = w.sound;
          once = w.once;
          closed = λ k m. inr (⊎_elim (λ z. ap (λ (y : ℕ). get_or s.stamps y 0) z ∙ e) (λ z. z) (w.closed k m));
        };
        at = e;
        keeps = λ x z. z;
      })

      goes : ((i' : ℕ) (s' : State) → n ≤ f + i' → i' < n → Toward i' → Walk i' s' → Climbed i' s' (climb f onward (j + 1) i' s'))
          → (get_or s.stamps i 0 ≡ j + 1 → ⊥) → Climbed i s (climb (suc f) onward (j + 1) i s)
      goes on new =
          let r : Row i = ⊎_elim (λ e. absurd (new (bears s.stamps s.found w.marked i b (or_left (eqb i (top j)) (elem i s.found) (eqb_of e))))) (λ q. q) to in
          let u = go_on i r in
          let b' : i < length s.stamps = subst (λ (m : ℕ). i < m) (sym w.marked.count) b in
          let one : suc f - 1 ≡ f = omega arith in
          let few' = t.pattern.few in
          let c = on (get_or onward i 0) (mark_at (j + 1) i s) (omega (arith, u.0)) u.1 (toward i r) (step i s b r new w) in
          subst (Climbed i s) (sym (climb-up (suc f) onward (j + 1) i s (omega arith) new (λ e. omega (arith, u.1)) ∙ ap (λ (g : ℕ). climb g onward (j + 1) (get_or onward i 0) (mark_at (j + 1) i s)) one)) (record {
            walk = c.walk;
            at = c.keeps i (get_or-set_same s.stamps i (j + 1) 0 b');
            keeps = λ x z. c.keeps x (stays s.stamps i x b' z);
          })

  -- ---- the scan of upper column j

  record Scanned (part : List ℕ) (s s' : State) : Type 0 where
    walk : Walk n s'
    at : (i : ℕ) → T (elem i part) → i < j → get_or s'.stamps i 0 ≡ j + 1
    keeps : (x : ℕ) → get_or s.stamps x 0 ≡ j + 1 → get_or s'.stamps x 0 ≡ j + 1

  -- nothing pending is anything pending
  pend : (i : ℕ) (s : State) → Walk n s → Walk i s
  pend i s w = record {
    marked = w.marked;
    sound = w.sound;
    once = w.once;
    closed = λ k m. ⊎_elim (λ e. let u = go_on k (w.sound k m) in absurd (omega (arith, u.1))) (λ e. inr e) (w.closed k m);
  }

  scan : (part : List ℕ) (s : State) → ((i : ℕ) → T (elem i part) → i < j → Row i) → Walk n s → Scanned part s (scanned onward (j + 1) j part s)
  unfolding scanned
  scan [] s in_row w = record { walk = w; at = λ i m l. absurd m; keeps = λ x e. e }
  scan (i ∷ part) s in_row w = go (λ s'. scan part s' (λ x m. in_row x (elem-tail x i part m))) (dec_lt i j)
    where
      go : ((s' : State) → Walk n s' → Scanned part s' (scanned onward (j + 1) j part s')) → Dec (i < j)
          → Scanned (i ∷ part) s (scanned onward (j + 1) j part (pick (ltb i j) (climb (length onward) onward (j + 1) i s) s))
      go later (yes l) =
          let c = climbed (length onward) i s (omega (arith, o.places, same)) (omega arith) (inr (in_row i (elem-head i part) l)) (pend i s w) in
          let r = later (climb (length onward) onward (j + 1) i s) c.walk in
          subst (λ (b : Bool). Scanned (i ∷ part) s (scanned onward (j + 1) j part (pick b (climb (length onward) onward (j + 1) i s) s))) (sym (lt-ltb i j l)) (record {
            walk = r.walk;
            at = λ x m b. ⊎_elim (λ e. subst (λ (y : ℕ). get_or (scanned onward (j + 1) j part (climb (length onward) onward (j + 1) i s)).stamps y 0 ≡ j + 1) (sym e) (r.keeps i c.at)) (λ m'. r.at x m' b) (elem-cases x i part m);
            keeps = λ x e. r.keeps x (c.keeps x e);
          })
      go later (no l) =
          let r = later s w in
          subst (λ (b : Bool). Scanned (i ∷ part) s (scanned onward (j + 1) j part (pick b (climb (length onward) onward (j + 1) i s) s))) (sym (le-ltb i j (omega arith))) (record {
            walk = r.walk;
            at = λ x m b. ⊎_elim (λ e. absurd (omega arith)) (λ m'. r.at x m' b) (elem-cases x i part m);
            keeps = r.keeps;
          })

  -- ---- the whole of it, where no stamp is above j

  module _ (stamp : List ℕ) (long : length stamp ≡ n) (b : Below j stamp) (part : List ℕ) (lent : part ≡ slice (get_or starts j 0) (get_or starts (j + 1) 0) rows)
      (at : ℕ) (place : at ≡ top_of parent heads onward j) where
    abbrev pub after : State
    after = reached onward (j + 1) j part (set stamp at (j + 1))

    start : Walk n (record { stamps = set stamp at (j + 1); found = [] })
    unfolding Below
    start = subst (λ (x : ℕ). Walk n (record { stamps = set stamp x (j + 1); found = [] })) (sym place) at_top
      where
        at_top : Walk n (record { stamps = set stamp (top j) (j + 1); found = [] })
        at_top =
            let u = top-of j h in
            let there : top j < length stamp = subst (λ (m : ℕ). top j < m) (sym long) u.1 in
            record {
              marked = record {
                count = length-set stamp (top j) (j + 1) ∙ long;
                low = λ i l. ⊎_elim
                    (λ e. let v : get_or (set stamp (top j) (j + 1)) i 0 ≡ j + 1 = ap (λ (y : ℕ). get_or (set stamp (top j) (j + 1)) y 0) e ∙ get_or-set_same stamp (top j) (j + 1) 0 there in omega arith)
                    (λ e. let v = get_or-set_other stamp (top j) i (j + 1) 0 e in let q = b i (subst (λ (m : ℕ). i < m) (sym long) l) in omega arith)
                    (same? i (top j));
                marks = λ i l. ⊎_elim
                    (λ e. eq-eqb (get_or (set stamp (top j) (j + 1)) i 0) (j + 1) (ap (λ (y : ℕ). get_or (set stamp (top j) (j + 1)) y 0) e ∙ get_or-set_same stamp (top j) (j + 1) 0 there) ∙ ap (λ (x : Bool). x || false) (sym (eq-eqb i (top j) e)))
                    (λ e. ne_eqb (get_or (set stamp (top j) (j + 1)) i 0) (j + 1) (λ z. let v = get_or-set_other stamp (top j) i (j + 1) 0 e in let q = b i (subst (λ (m : ℕ). i < m) (sym long) l) in omega arith) ∙ ap (λ (x : Bool). x || false) (sym (ne_eqb i (top j) e)))
                    (same? i (top j));
              };
              sound = λ k m. absurd m;
              once = tt;
              closed = λ k m. absurd m;
            }

    -- the rows of upper column j are links
    link_at : (i : ℕ) → i < j → linked_up starts rows j i ≡ elem i (upper starts rows j)
    link_at i l =
        let a : min j i ≡ i = omega arith in
        let c : max j i ≡ j = omega arith in
        ap (λ (y : ℕ). elem y (upper starts rows (max j i))) a ∙ ap (λ (y : ℕ). elem i (upper starts rows y)) c

    in_row : (i : ℕ) → T (elem i part) → i < j → Row i
    in_row i m l = (l, here (subst (λ (x : Bool). T x) (sym (link_at i l)) (filter-intro (λ x. ltb x j) i (slice (get_or starts j 0) (get_or starts (j + 1) 0) rows) (subst (λ (l : List ℕ). T (elem i l)) lent m) (is_true (lt-ltb i j l)))))

    done : Scanned part (record { stamps = set stamp at (j + 1); found = [] }) after
    done = scan part (record { stamps = set stamp at (j + 1); found = [] }) in_row start

    pub found_below : (stamp' : List ℕ) → stamp' ≡ after.stamps → Below (j + 1) stamp'
    unfolding Below
    found_below stamp' e i l = subst (λ (s : List ℕ). get_or s i 0 ≤ j + 1) (sym e) (done.walk.marked.low i (subst (λ (m : ℕ). i < m) (ap length e ∙ done.walk.marked.count) l))

    pub found_rows : (k : ℕ) → T (elem k after.found) → (k < j) × Fill (linked_up starts rows) j k
    found_rows k m = done.walk.sound k m

    pub found_once : Uniq after.found
    found_once = done.walk.once

    -- a column before j that bears the mark is found, and so the climb went on from it
    on-from : (k : ℕ) → Row k → get_or after.stamps k 0 ≡ j + 1 → T (elem k after.found) × (get_or after.stamps (get_or onward k 0) 0 ≡ j + 1)
    on-from k r e =
        let u = top-of j h in
        let l = r.0 in
        let m : T (elem k after.found) = ⊎_elim (λ z. let q = eqb→eq k (top j) z in absurd (omega (arith, u.0))) (λ q. q) (or_cases (eqb k (top j)) (elem k after.found) (borne after.stamps after.found done.walk.marked k (omega arith) e)) in
        (m, ⊎_elim (λ z. let q = go_on k r in absurd (omega (arith, q.1))) (λ q. q) (done.walk.closed k m))

    -- from the top of a column to the top of its parent
    to-parent : (k : ℕ) → Row k → get_or after.stamps (top k) 0 ≡ j + 1 → get_or after.stamps (top (get_or parent k 0)) 0 ≡ j + 1
    to-parent k r e = subst (λ (y : ℕ). get_or after.stamps y 0 ≡ j + 1) (on-above k r)
        (⊎_elim
        (λ z. subst (λ (y : ℕ). get_or after.stamps y 0 ≡ j + 1) (top-on parent heads onward k z) e)
        (λ z. (on-from k r (subst (λ (y : ℕ). get_or after.stamps y 0 ≡ j + 1) (top-here parent heads onward k z) e)).1)
        (repeats? parent heads k))

    -- and so to that of every row of it before j
    rise : (d x k : ℕ) → k ≤ x + d → x < k → k < j → Fill (linked_up starts rows) k x → Fill (linked_up starts rows) j x → get_or after.stamps (top x) 0 ≡ j + 1 → get_or after.stamps (top k) 0 ≡ j + 1
    rise zero x k far l lj f g e = absurd (omega arith)
    rise (suc d) x k far l lj f g e =
        let r : Row x = (omega arith, g) in
        let b' : x < n = omega arith in
        let u = up_least starts rows n parent t x b' (child x r) in
        let q : get_or parent x 0 ≤ k = u.3 k l (omega arith) f in
        let p = to-parent x r e in
        ⊎_elim
        (λ z. subst (λ (y : ℕ). get_or after.stamps (top y) 0 ≡ j + 1) z p)
        (λ z. rise d (get_or parent x 0) k (omega (arith, u.0)) (omega arith) lj (row_up starts rows n parent t x k b' (child x r) f) (row_up starts rows n parent t x j b' (child x r) g) p)
        (same? (get_or parent x 0) k)

    tops : (k : ℕ) → k < j → Fill (linked_up starts rows) j k → get_or after.stamps (top k) 0 ≡ j + 1
    tops k l (here m) =
        let i = filter-elim (λ x. ltb x j) k (slice (get_or starts j 0) (get_or starts (j + 1) 0) rows) (subst (λ (x : Bool). T x) (link_at k l) m) in
        let a = done.at k (subst (λ (l : List ℕ). T (elem k l)) (sym lent) i.0) l in
        ⊎_elim
        (λ z. subst (λ (y : ℕ). get_or after.stamps y 0 ≡ j + 1) (sym (top-on parent heads onward k z)) (on-from k (l, here m) a).1)
        (λ z. subst (λ (y : ℕ). get_or after.stamps y 0 ≡ j + 1) (sym (top-here parent heads onward k z)) a)
        (repeats? parent heads k)
    tops k l (made {k = x} lx f g) = rise k x k (omega arith) lx l f g (tops x (omega arith) g)

    pub found_tops : (k : ℕ) → k < j → Fill (linked_up starts rows) j k → repeats parent heads k ≡ false → T (elem k after.found)
    found_tops k l f z = (on-from k (l, f) (subst (λ (y : ℕ). get_or after.stamps y 0 ≡ j + 1) (top-here parent heads onward k z) (tops k l f))).0
