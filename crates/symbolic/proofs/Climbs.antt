-- The climbs of a scan that puts what it finds into tables and lists nothing. The invariants speak of the list all the same: no buffer holds
-- it, so they bind it. What is said of it is what `reach::scan` would have written, and how the tables follow from it. Assumes nothing.
use Rattle.std.specs.Prelude.{◌≡◌, ℕ, zero, suc, ◌+◌, ◌-◌, ◌*◌, ◌<◌, ◌≤◌, Bool, true, false, T, eqb, ltb, List, [], ◌∷◌, ◌++◌, reverse, length, get_or, drop, set}
use mathlib.Core.Path.{refl, sym, ap, subst, ◌∙◌}
use mathlib.Core.Logic.{⊎_elim}
use mathlib.Core.List.{reverse-cons}
use native.Mathlib.Omega.{arith}
use borrow.Author.Tests.{lt-ltb, le-ltb}
use lib.ListN.{length-set}
use lib.Seq.{get_or-set_same, get_or-set_other}
use Rattle.graph.specs.Sets.{elem, sum, Uniq}
use Rattle.graph.proofs.SetLaws.{elem-head, elem-tail, elem-cases}
use Rattle.graph.proofs.OrderLaws.{elem-append, elem-left, elem-right, append-uniq}
use Rattle.reach.specs.Reach.{none, Parents, State, pick, mark_at, climb, scanned}
use Rattle.reach.proofs.Laws.{st, climb-stop, climb-root, climb-up, scan-row, scan-end, unmarked, unmarked-all, unmarked-set}
use Rattle.buckets.specs.Buckets.{bump, bumps, stores, Roomy}
use Rattle.buckets.proofs.Lists.{same?}

-- ---- a list turned round has the same elements

pub elem_back : (k : ℕ) (l : List ℕ) → T (elem k (reverse l)) → T (elem k l)
elem_back k [] t = t
elem_back k (x ∷ l) t =
    ⊎_elim (λ s. elem-tail k x l (elem_back k l s)) (λ s. ⊎_elim (λ e. subst (λ (y : ℕ). T (elem k (y ∷ l))) e (elem-head k l)) (λ z. absurd z) (elem-cases k x [] s))
    (elem-append k (reverse l) (x ∷ []) (subst (λ (y : List ℕ). T (elem k y)) (reverse-cons x l) t))

pub elem-forth : (k : ℕ) (l : List ℕ) → T (elem k l) → T (elem k (reverse l))
elem-forth k [] t = t
elem-forth k (x ∷ l) t = subst (λ (y : List ℕ). T (elem k y)) (sym (reverse-cons x l))
    (⊎_elim (λ e. elem-right k (reverse l) (x ∷ []) (subst (λ (y : ℕ). T (elem k (y ∷ []))) e (elem-head k []))) (λ s. elem-left k (reverse l) (x ∷ []) (elem-forth k l s)) (elem-cases k x l t))

pub uniq-back : (l : List ℕ) → Uniq l → Uniq (reverse l)
uniq-back [] u = u
uniq-back (x ∷ l) u = subst Uniq (sym (reverse-cons x l))
    (append-uniq (reverse l) (x ∷ []) (uniq-back l u.1) (λ z. z, tt)
    (λ y s t. ⊎_elim (λ e. u.0 (subst (λ (z : ℕ). T (elem z l)) e (elem_back y l s))) (λ z. z) (elem-cases y x [] t)))

-- ---- the tables, by the last that was found

bumps-last : (ks : List ℕ) (k : ℕ) (c : List ℕ) → bumps (ks ++ (k ∷ [])) c ≡ bump k (bumps ks c)
unfolding bumps
bumps-last [] k c = refl
bumps-last (x ∷ ks) k c = bumps-last ks k (bump x c)

stores-last : (x : ℕ) (ks : List ℕ) (k : ℕ) (next table : List ℕ) → stores x (ks ++ (k ∷ [])) next table ≡ set (stores x ks next table) (get_or (bumps ks next) k 0) x
unfolding bumps stores
stores-last x [] k next table = refl
stores-last x (y ∷ ks) k next table = stores-last x ks k (bump y next) (set table (get_or next y 0) x)

-- what is not listed keeps its count
bumps-other : (ks c : List ℕ) (i : ℕ) → (T (elem i ks) → ⊥) → get_or (bumps ks c) i 0 ≡ get_or c i 0
unfolding bumps
bumps-other [] c i n = refl
bumps-other (k ∷ ks) c i n =
    bumps-other ks (bump k c) i (λ t. n (elem-tail i k ks t)) ∙ get_or-set_other c k i (get_or c k 0 + 1) 0 (λ e. n (subst (λ (y : ℕ). T (elem y (k ∷ ks))) (sym e) (elem-head k ks)))

pub bumps-length : (ks c : List ℕ) → length (bumps ks c) ≡ length c
unfolding bumps
bumps-length [] c = refl
bumps-length (k ∷ ks) c = bumps-length ks (bump k c) ∙ length-set c k (get_or c k 0 + 1)

pub stores-length : (x : ℕ) (ks next table : List ℕ) → length (stores x ks next table) ≡ length table
unfolding stores
stores-length x [] next table = refl
stores-length x (k ∷ ks) next table = stores-length x ks (bump k next) (set table (get_or next k 0) x) ∙ length-set table (get_or next k 0) x

-- ---- what a climb and a scan have found

climb-more : (f : ℕ) (parent : List ℕ) (m i : ℕ) (s : State) (k : ℕ) → T (elem k s.found) → T (elem k (climb f parent m i s).found)
unfolding climb
climb-more zero parent m i s k t = t
climb-more (suc f) parent m i s k t =
    by-case (eqb (get_or s.stamps i 0) m) (eqb (get_or parent i 0) none) (climb f parent m (get_or parent i 0) (mark_at m i s)) (climb-more f parent m (get_or parent i 0) (mark_at m i s) k (elem-tail k i s.found t))
  where
    by-case : (a b : Bool) (up : State) → T (elem k up.found) → T (elem k (pick a s (pick b (mark_at m i s) up)).found)
    by-case true b up h = t
    by-case false true up h = elem-tail k i s.found t
    by-case false false up h = h

-- a climb from a block that is not marked finds it
climb-finds : (f : ℕ) (parent : List ℕ) (m i : ℕ) (s : State) → 0 < f → (get_or s.stamps i 0 ≡ m → ⊥) → T (elem i (climb f parent m i s).found)
climb-finds f parent m i s p new = ⊎_elim
    (λ e. rw (climb-root f parent m i s p new e) (elem-head i s.found))
    (λ e. rw (climb-up f parent m i s p new e) (climb-more (f - 1) parent m (get_or parent i 0) (mark_at m i s) i (elem-head i s.found)))
    (same? (get_or parent i 0) none)

scan-more : (parent : List ℕ) (m j : ℕ) (rows : List ℕ) (s : State) (k : ℕ) → T (elem k s.found) → T (elem k (scanned parent m j rows s).found)
unfolding scanned
scan-more parent m j [] s k t = t
scan-more parent m j (i ∷ rows) s k t = scan-more parent m j rows (pick (ltb i j) (climb (length parent) parent m i s) s) k (by-case (ltb i j))
  where
    by-case : (b : Bool) → T (elem k (pick b (climb (length parent) parent m i s) s).found)
    by-case true = climb-more (length parent) parent m i s k t
    by-case false = t

-- ---- what every turn keeps, n blocks: those found bear the mark, and with those that do not they are no more than n

pub record Marks (n m : ℕ) (stamp found : List ℕ) : Type 0 where
  pub stamps : length stamp ≡ n
  pub marked : (k : ℕ) → T (elem k found) → get_or stamp k 0 ≡ m
  pub few : length found + unmarked m stamp ≤ n

mark-one : (n m : ℕ) (stamp found : List ℕ) (i : ℕ) → Marks n m stamp found → i < n → (get_or stamp i 0 ≡ m → ⊥) → Marks n m (set stamp i m) (i ∷ found)
mark-one n m stamp found i k h new =
    let inside : i < length stamp = omega (arith, k.stamps) in
    record {
      stamps = length-set stamp i m ∙ k.stamps;
      marked = λ x t. ⊎_elim
          (λ e. ap (λ (y : ℕ). get_or (set stamp i m) y 0) e ∙ get_or-set_same stamp i m 0 inside)
          (λ e. get_or-set_other stamp i x m 0 e ∙ k.marked x (⊎_elim (λ z. absurd (e z)) (λ s. s) (elem-cases x i found t)))
          (same? x i);
      few = omega (arith, k.few, unmarked-set m stamp i inside new);
    }

-- ---- the climb that began at i₀, where the stamps were stamp₀ and found₀ had been found

pub record Climbing (parent : List ℕ) (m i₀ : ℕ) (stamp₀ found₀ : List ℕ) (i : ℕ) (stamp found : List ℕ) : Type 0 where
  pub kept : Marks (length parent) m stamp found
  pub block : i < length parent
  pub steps : ℕ
  pub enough : length parent ≤ steps + i
  pub same : climb (length parent) parent m i₀ (st stamp₀ found₀) ≡ climb steps parent m i (st stamp found)

pub record Climbed (parent : List ℕ) (m i₀ : ℕ) (stamp₀ found₀ stamp found : List ℕ) : Type 0 where
  pub kept : Marks (length parent) m stamp found
  pub same : climb (length parent) parent m i₀ (st stamp₀ found₀) ≡ st stamp found

pub climb-begins : (parent : List ℕ) (m : ℕ) (stamp found : List ℕ) (i : ℕ) → Marks (length parent) m stamp found → i < length parent → Climbing parent m i stamp found i stamp found
climb-begins parent m stamp found i k h = record { kept = k; block = h; steps = length parent; enough = omega arith; same = refl }

-- the parent of a block that is no root is a greater block
pub goes_up : (parent : List ℕ) (i : ℕ) → Parents parent → i < length parent → (get_or parent i 0 ≡ none → ⊥) → (i < get_or parent i 0) × (get_or parent i 0 < length parent)
unfolding Parents
goes_up parent i tree h e = ⊎_elim (λ z. absurd (e z)) (λ z. z) (tree i h)

module _ (parent : List ℕ) (m i₀ : ℕ) (stamp₀ found₀ : List ℕ) (i : ℕ) (stamp found : List ℕ) (c : Climbing parent m i₀ stamp₀ found₀ i stamp found) where
  -- a step is left
  some : 0 < c.steps
  some = omega (arith, c.enough, c.block)

  pub climb-stops : get_or stamp i 0 ≡ m → Climbed parent m i₀ stamp₀ found₀ stamp found
  climb-stops e = record { kept = c.kept; same = c.same ∙ climb-stop c.steps parent m i (st stamp found) some e }

  module _ (new : get_or stamp i 0 ≡ m → ⊥) where
    pub climb-roots : get_or parent i 0 ≡ none → Climbed parent m i₀ stamp₀ found₀ (set stamp i m) (i ∷ found)
    climb-roots e = record { kept = mark-one (length parent) m stamp found i c.kept c.block new; same = c.same ∙ climb-root c.steps parent m i (st stamp found) some new e }

    pub climb-turns : Parents parent → (get_or parent i 0 ≡ none → ⊥) → Climbing parent m i₀ stamp₀ found₀ (get_or parent i 0) (set stamp i m) (i ∷ found)
    climb-turns tree e =
        let up = goes_up parent i tree c.block e in
        record {
          kept = mark-one (length parent) m stamp found i c.kept c.block new;
          block = up.1;
          steps = c.steps - 1;
          enough = omega (arith, c.enough, up.0, some);
          same = c.same ∙ climb-up c.steps parent m i (st stamp found) some new e;
        }

-- ---- the scan, q rows done

pub record Scanning (parent rows : List ℕ) (j m : ℕ) (stamp₀ : List ℕ) (q : ℕ) (stamp found : List ℕ) : Type 0 where
  pub kept : Marks (length parent) m stamp found
  pub passed : q ≤ length rows
  pub same : scanned parent m j rows (st stamp₀ []) ≡ scanned parent m j (drop q rows) (st stamp found)

pub scan_begins : (parent rows : List ℕ) (j m : ℕ) (stamp : List ℕ) → length stamp ≡ length parent → Scanning parent rows j m stamp 0 stamp []
scan_begins parent rows j m stamp h = record { kept = record { stamps = h; marked = λ k t. absurd t; few = omega (arith, unmarked-all m stamp) }; passed = omega arith; same = refl }

module _ (parent rows : List ℕ) (j m : ℕ) (stamp₀ : List ℕ) (q : ℕ) (stamp found : List ℕ) (s : Scanning parent rows j m stamp₀ q stamp found) where
  pub scan-ends : length rows ≤ q → scanned parent m j rows (st stamp₀ []) ≡ st stamp found
  scan-ends h = s.same ∙ scan-end parent m j rows q (st stamp found) h

  module _ (h : q < length rows) where
    -- a row that is not below j
    pub scan-skips : j ≤ get_or rows q 0 → Scanning parent rows j m stamp₀ (q + 1) stamp found
    scan-skips high = record {
      kept = s.kept;
      passed = omega arith;
      same = s.same ∙ scan-row parent m j rows q (st stamp found) h ∙ ap (scanned parent m j (drop (q + 1) rows)) (rw (le-ltb (get_or rows q 0) j high));
    }

    module _ (low : get_or rows q 0 < j) where
      -- a row below j is climbed from
      from_row : scanned parent m j rows (st stamp₀ []) ≡ scanned parent m j (drop (q + 1) rows) (climb (length parent) parent m (get_or rows q 0) (st stamp found))
      from_row = s.same ∙ scan-row parent m j rows q (st stamp found) h ∙ ap (scanned parent m j (drop (q + 1) rows)) (rw (lt-ltb (get_or rows q 0) j low))

      pub scan-climbs : (stamp' found' : List ℕ) → Climbed parent m (get_or rows q 0) stamp found stamp' found' → Scanning parent rows j m stamp₀ (q + 1) stamp' found'
      scan-climbs stamp' found' c = record { kept = c.kept; passed = omega arith; same = from_row ∙ ap (scanned parent m j (drop (q + 1) rows)) c.same }

      -- a block come upon that is not marked will be listed, and is not yet
      module _ (i : ℕ) (stamp' found' : List ℕ) (c : Climbing parent m (get_or rows q 0) stamp found i stamp' found') (new : get_or stamp' i 0 ≡ m → ⊥) where
        listed : T (elem i (scanned parent m j rows (st stamp₀ [])).found)
        listed = rw (from_row, c.same)
            (scan-more parent m j (drop (q + 1) rows) (climb c.steps parent m i (st stamp' found')) i
            (climb-finds c.steps parent m i (st stamp' found') (some parent m (get_or rows q 0) stamp found i stamp' found' c) new))

        -- so its count is as it was, and there is room
        pub room-here : (next₀ next : List ℕ) (limit : ℕ) → Roomy (scanned parent m j rows (st stamp₀ [])).found next₀ limit → next ≡ bumps (reverse found') next₀
            → (i < length next) × (get_or next i 0 < limit)
        unfolding Roomy
        room-here next₀ next limit room e =
            let r = room i listed in
            let v : get_or next i 0 ≡ get_or next₀ i 0 = ap (λ (l : List ℕ). get_or l i 0) e ∙ bumps-other (reverse found') next₀ i (λ t. new (c.kept.marked i (elem_back i found' t))) in
            let l : length next ≡ length next₀ = ap length e ∙ bumps-length (reverse found') next₀ in
            (omega arith, omega arith)

-- ---- the tables that the counting pass has

pub record Counted (sizes count₀ found count : List ℕ) (total : ℕ) : Type 0 where
  pub counts : count ≡ bumps (reverse found) count₀
  pub sums : total ≡ sum (reverse found) (λ k. get_or sizes k 0)
  pub small : total ≤ 16 * length found

pub counted_none : (sizes count : List ℕ) → Counted sizes count [] count 0
unfolding bumps
counted_none sizes count = record { counts = refl; sums = refl; small = omega arith }

sum-last : (ks : List ℕ) (k : ℕ) (f : ℕ → ℕ) → sum (ks ++ (k ∷ [])) f ≡ sum ks f + f k
sum-last [] k f = omega arith
sum-last (x ∷ ks) k f = let ih = sum-last ks k f in omega arith

pub counted-one : (sizes count₀ found count : List ℕ) (total i : ℕ) → get_or sizes i 0 ≤ 16 → Counted sizes count₀ found count total → Counted sizes count₀ (i ∷ found) (bump i count) (total + get_or sizes i 0)
counted-one sizes count₀ found count total i le c = record {
  counts = ap (bump i) c.counts ∙ sym (ap (λ (l : List ℕ). bumps l count₀) (reverse-cons i found) ∙ bumps-last (reverse found) i count₀);
  sums = ap (λ (s : ℕ). s + get_or sizes i 0) c.sums ∙ sym (ap (λ (l : List ℕ). sum l (λ k. get_or sizes k 0)) (reverse-cons i found) ∙ sum-last (reverse found) i (λ k. get_or sizes k 0));
  small = omega (arith, c.small);
}

-- at the head of the climb: whatever was found and counted before it, a longer list is found and counted now
pub record CountClimb (parent sizes : List ℕ) (m : ℕ) (stamp₀ count₀ : List ℕ) (total₀ i₀ : ℕ) (stamp count : List ℕ) (total i : ℕ) : Type 0 where
  pub block : i < length parent
  pub stamps : length stamp ≡ length parent
  pub places : length count ≡ length parent
  pub held : (first found₀ : List ℕ) → Marks (length parent) m stamp₀ found₀ → Counted sizes first found₀ count₀ total₀
      → (found : List ℕ) × Climbing parent m i₀ stamp₀ found₀ i stamp found × Counted sizes first found count total

pub count-climb-begins : (parent sizes : List ℕ) (m : ℕ) (stamp count : List ℕ) (total i : ℕ) → i < length parent → length stamp ≡ length parent → length count ≡ length parent
    → CountClimb parent sizes m stamp count total i stamp count total i
count-climb-begins parent sizes m stamp count total i h ls lc = record { block = h; stamps = ls; places = lc; held = λ first found k g. (found, climb-begins parent m stamp found i k h, g) }

pub count-climb-turns : (parent sizes : List ℕ) (m : ℕ) (stamp₀ count₀ : List ℕ) (total₀ i₀ : ℕ) (stamp count : List ℕ) (total i : ℕ) → CountClimb parent sizes m stamp₀ count₀ total₀ i₀ stamp count total i
    → get_or sizes i 0 ≤ 16 → Parents parent → (get_or stamp i 0 ≡ m → ⊥) → (get_or parent i 0 ≡ none → ⊥)
    → CountClimb parent sizes m stamp₀ count₀ total₀ i₀ (set stamp i m) (bump i count) (total + get_or sizes i 0) (get_or parent i 0)
count-climb-turns parent sizes m stamp₀ count₀ total₀ i₀ stamp count total i c le tree new e = record {
  block = (goes_up parent i tree c.block e).1;
  stamps = length-set stamp i m ∙ c.stamps;
  places = length-set count i (get_or count i 0 + 1) ∙ c.places;
  held = λ first found₀ k g. let h = c.held first found₀ k g in
      (i ∷ h.0, climb-turns parent m i₀ stamp₀ found₀ i stamp h.0 h.1 new tree e, counted-one sizes first h.0 count total i le h.2);
}

-- ---- the tables that the filling pass has

pub record Stored (x : ℕ) (next₀ table₀ found next table : List ℕ) : Type 0 where
  pub counts : next ≡ bumps (reverse found) next₀
  pub entries : table ≡ stores x (reverse found) next₀ table₀

pub stored-none : (x : ℕ) (next table : List ℕ) → Stored x next table [] next table
unfolding bumps stores
stored-none x next table = record { counts = refl; entries = refl }

pub stored_one : (x : ℕ) (next₀ table₀ found next table : List ℕ) (i : ℕ) → Stored x next₀ table₀ found next table → Stored x next₀ table₀ (i ∷ found) (bump i next) (set table (get_or next i 0) x)
stored_one x next₀ table₀ found next table i c = record {
  counts = ap (bump i) c.counts ∙ sym (ap (λ (l : List ℕ). bumps l next₀) (reverse-cons i found) ∙ bumps-last (reverse found) i next₀);
  entries = rw (c.entries, c.counts) (sym (ap (λ (l : List ℕ). stores x l next₀ table₀) (reverse-cons i found) ∙ stores-last x (reverse found) i next₀ table₀));
}

-- at the head of the climb: whatever was found and stored before it, a longer list is found and stored now
pub record StoreClimb (parent : List ℕ) (x m : ℕ) (stamp₀ next₀ table₀ : List ℕ) (i₀ : ℕ) (stamp next table : List ℕ) (i : ℕ) : Type 0 where
  pub block : i < length parent
  pub stamps : length stamp ≡ length parent
  pub places : length next ≡ length parent
  pub size : length table ≡ length table₀
  pub held : (first whole found₀ : List ℕ) → Marks (length parent) m stamp₀ found₀ → Stored x first whole found₀ next₀ table₀
      → (found : List ℕ) × Climbing parent m i₀ stamp₀ found₀ i stamp found × Stored x first whole found next table

pub store-climb-begins : (parent : List ℕ) (x m : ℕ) (stamp next table : List ℕ) (i : ℕ) → i < length parent → length stamp ≡ length parent → length next ≡ length parent
    → StoreClimb parent x m stamp next table i stamp next table i
store-climb-begins parent x m stamp next table i h ls ln = record { block = h; stamps = ls; places = ln; size = refl; held = λ first whole found k g. (found, climb-begins parent m stamp found i k h, g) }

pub store-climb-turns : (parent : List ℕ) (x m : ℕ) (stamp₀ next₀ table₀ : List ℕ) (i₀ : ℕ) (stamp next table : List ℕ) (i : ℕ) → StoreClimb parent x m stamp₀ next₀ table₀ i₀ stamp next table i
    → Parents parent → (get_or stamp i 0 ≡ m → ⊥) → (get_or parent i 0 ≡ none → ⊥)
    → StoreClimb parent x m stamp₀ next₀ table₀ i₀ (set stamp i m) (bump i next) (set table (get_or next i 0) x) (get_or parent i 0)
store-climb-turns parent x m stamp₀ next₀ table₀ i₀ stamp next table i c tree new e = record {
  block = (goes_up parent i tree c.block e).1;
  stamps = length-set stamp i m ∙ c.stamps;
  places = length-set next i (get_or next i 0 + 1) ∙ c.places;
  size = length-set table (get_or next i 0) x ∙ c.size;
  held = λ first whole found₀ k g. let h = c.held first whole found₀ k g in
      (i ∷ h.0, climb-turns parent m i₀ stamp₀ found₀ i stamp h.0 h.1 new tree e, stored_one x first whole h.0 next table i h.2);
}
