-- Demand 3, of the machine alone and for all numbers.
--     run_rows      the rows of column k are those of symbolic elimination
--     run_triples   the triples worked through are its triples, in their order
--     run_demand3   so the rows obey the path rule, and the count is the sum of c(c + 1)/2
-- Assumes nothing.
use Prim.Native.Nat.{ℕ, zero, suc, ◌+◌, ◌-◌, ◌≤◌, ◌<◌}
use mathlib.Core.Bool.{Bool, true, false, cond, not, ◌||◌, ◌&&◌}
use mathlib.Core.List.{List, [], ◌∷◌, ◌++◌, map}
use mathlib.Core.Logic.{◌↔◌}
use mathlib.Core.Option.{none, some}
use mathlib.Core.Path.{◌≡◌, refl, sym, ap, ap₂, subst, ◌∙◌}
use native.Mathlib.Omega.{arith}
use lib.Dec.{T, eqb, leb, ltb, eqb→eq, le→leb}
use lib.ListN.{length, get_or, length-map}
use lib.Ieee.{Float}
use Rattle.scalar.specs.Loop.{steps}
use Rattle.graph.specs.Sets.{elem, any, filter, from, between, sum, gather, Inc}
use Rattle.graph.specs.Links.{rows_in}
use Rattle.graph.specs.Fill.{Fill}
use Rattle.graph.specs.Symbolic.{reach, first, parents, column, columns, rows}
use Rattle.graph.specs.Count.{Triple, triple, column_triples, triples, products_of}
use Rattle.graph.proofs.SetLaws.{true_of, false_of, between-elim, filter-ext}
use Rattle.graph.proofs.ReachLaws.{reach_iff, reach_same}
use Rattle.graph.proofs.SymbolicLaws.{IsColumn, first_least, columns_at, columns_length, right_below}
use Rattle.graph.proofs.SumLaws.{filter-all}
use Rattle.graph.proofs.Whole.{Whole, whole_in, linked-symm}
use Rattle.machine.specs.System.{System, blocks, order, links, dim, holds, loaded}
use Rattle.machine.specs.Machine.{State, Column, rows_at, touched, load, reached, sequence, worked, finish, Run, going, stopped, stored, work_column, start, run_to, run}
use Rattle.machine.specs.Claims.{Demand3}
use Rattle.machine.proofs.ListLaws.{gather_ext, gather-last, works-sequence}
use Rattle.machine.proofs.StepLaws.{row_lists, listed, products-finished, products-done, products-touched, stored-going, finish-made, rows_append}

module _ (a : System) where
  abbrev n : ℕ
  n = blocks a

  pub links-symm : (p q : ℕ) → T (links a p q) → T (links a q p)
  links-symm = linked-symm (rows_in a.starts a.rows) (order a)

  -- the columns that symbolic elimination has before column j
  abbrev pub cols : ℕ → List (List ℕ)
  cols j = columns (links a) n j

  -- a machine that has their rows
  abbrev by_cols : ℕ → ℕ → List ℕ
  by_cols j k = get_or (cols j) k []

  -- and those of them that reach j
  abbrev reached_in : ℕ → List ℕ
  reached_in j = reach (links a) n (parents (cols j)) j

  same_rows : (j : ℕ) (s : State) → row_lists s ≡ cols j → rows_at s ≡ by_cols j
  same_rows j s e = λ x k. (sym (listed s k) ∙ ap (λ (l : List (List ℕ)). get_or l k []) e) x

  module _ (j : ℕ) (lt : j < n) where
    right : (k : ℕ) → k < j → IsColumn (links a) n k (by_cols j k)
    right k h = rw (columns_at (links a) n j k h) (right_below (links a) n links-symm j (omega arith) k h)

    -- they are the columns of the whole
    agree : (k : ℕ) → k < j → by_cols j k ≡ rows (links a) n k
    unfolding rows
    agree k h = columns_at (links a) n j k h ∙ sym (columns_at (links a) n n k (omega arith))

    iff : (k : ℕ) → T (elem k (reached_in j)) ↔ ((k < j) × Fill (links a) j k)
    iff = reach_iff (links a) n j (parents (cols j)) lt (λ k h. first_least (links a) n k (by_cols j k) (right k h)) links-symm

    -- every column that reaches j stores row j
    all-store : filter (λ k. elem j (by_cols j k)) (reached_in j) ≡ reached_in j
    all-store = filter-all (λ k. elem j (by_cols j k)) (reached_in j) (λ k m. let r = (iff k).0 m in (right k r.0).complete j r.0 lt r.1)

    -- what reaches j stands before it
    pub reached-before : (s : State) → row_lists s ≡ cols j → (k : ℕ) → T (elem k (reached a j s)) → k < j
    reached-before s e k m = ((iff k).0 (subst (λ (f : ℕ → List ℕ). T (elem k (reach (links a) n (λ k. first (f k)) j))) (same_rows j s e) m)).0

    -- the machine's products are those of the theory, in their order
    pub sequence-is : (s : State) → row_lists s ≡ cols j → sequence a j s ≡ column_triples (links a) n j
    unfolding sequence column_triples
    sequence-is s e =
        ap (λ (f : ℕ → List ℕ). gather (λ k. map (triple j k) (j ∷ filter (λ i. ltb j i) (f k))) (filter (λ k. elem j (f k)) (reach (links a) n (λ k. first (f k)) j))) (same_rows j s e)
        ∙ ap (gather (λ k. map (triple j k) (j ∷ filter (λ i. ltb j i) (by_cols j k)))) all-store
        ∙ gather_ext _ (λ k. map (triple j k) (j ∷ filter (λ i. ltb j i) (rows (links a) n k))) (reached_in j)
        (λ k m. ap (λ (l : List ℕ). map (triple j k) (j ∷ filter (λ i. ltb j i) l)) (agree k ((iff k).0 m).0))
        ∙ ap (gather (λ k. map (triple j k) (j ∷ filter (λ i. ltb j i) (rows (links a) n k))))
        (reach_same (links a) n j (parents (cols j)) lt (λ k h. first_least (links a) n k (by_cols j k) (right k h)) links-symm (λ k. first (rows (links a) n k)) (λ k h. ap first (agree k h)))

    -- the rows that the load and the products touch are those of the column
    pub touched-is : (s : State) → row_lists s ≡ cols j → filter (λ i. touched ((worked a j s).work i)) (between (suc j) n) ≡ column (links a) n (cols j) j
    unfolding column sequence load
    touched-is s e = filter-ext (λ i. touched ((worked a j s).work i)) _ (between (suc j) n) one
      where
        by-test : (b : Bool) (l : List Float) → touched (cond b (some l) none) ≡ b
        by-test true l = refl
        by-test false l = refl

        -- a row past j that A stores is linked to j
        link : (i : ℕ) → j < i → (leb j i && holds a i j) ≡ links a i j
        link i h =
            ap (λ (b : Bool). b && holds a i j) (true_of (leb j i) (le→leb j i (omega arith)))
            ∙ ap (λ (b : Bool). not b && holds a i j) (sym (false_of (eqb i j) (λ t. let e : i ≡ j = eqb→eq i j t in omega arith)))

        one : (i : ℕ) → T (elem i (between (suc j) n)) → touched ((worked a j s).work i) ≡ (links a i j || any (λ k. elem i (by_cols j k)) (reached_in j))
        one i m =
            let h : j < i = (between-elim i (suc j) n m).0 in
            products-touched (dim a) (sequence a j s) (load a j s) i
            ∙ ap₂ {C = Bool} ◌||◌ (by-test (leb j i && holds a i j) (loaded a i j) ∙ link i h)
            (works-sequence (rows_at s) i j (filter (λ k. elem j (rows_at s k)) (reached a j s)) h
            ∙ ap (λ (f : ℕ → List ℕ). any (λ k. elem i (f k)) (filter (λ k. elem j (f k)) (reach (links a) n (λ k. first (f k)) j))) (same_rows j s e)
            ∙ ap (any (λ k. elem i (by_cols j k))) all-store)

  -- what holds before column j
  pub record Right (j : ℕ) (s : State) : Type 0 where
    pub by_rows : row_lists s ≡ cols j
    pub by_triples : s.done ≡ gather (column_triples (links a) n) (from 0 j)

  -- one column keeps it
  column-keeps : (j : ℕ) (s s' : State) → j < n → Right j s → stored (worked a j s) (finish a j (worked a j s)) ≡ going s' → Right (suc j) s'
  unfolding columns load
  column-keeps j s s' lt r e =
      let s₁ : State = worked a j s in
      let f = stored-going s₁ s' (finish a j s₁) e in
      let g = finish-made a j s₁ f.0 f.1 in
      record {
        by_rows =
            ap row_lists f.2 ∙ rows_append s₁.finished f.0
            ∙ ap₂ {C = List (List ℕ)} (λ l c. l ++ (c ∷ []))
            (ap (map (λ (c : Column). c.rows)) (products-finished (dim a) (sequence a j s) (load a j s)) ∙ r.by_rows)
            (ap (λ (c : Column). c.rows) g.2 ∙ touched-is j lt s r.by_rows);
        by_triples =
            let z : 0 + j ≡ j = omega arith in
            ap (λ (u : State). u.done) f.2
            ∙ products-done (dim a) (sequence a j s) (load a j s)
            ∙ ap₂ {C = List Triple} ◌++◌ r.by_triples (sequence-is j lt s r.by_rows ∙ ap (column_triples (links a) n) (sym z))
            ∙ sym (gather-last (column_triples (links a) n) 0 j);
      }

  -- what was going on after column j was going on before it
  pub going_before : (j : ℕ) (s : State) → run_to a (suc j) ≡ going s → (s₀ : State) × (run_to a j ≡ going s₀) × (stored (worked a j s₀) (finish a j (worked a j s₀)) ≡ going s)
  unfolding run_to steps work_column
  going_before j s e = go (run_to a j) refl e
    where
      go : (r : Run) → run_to a j ≡ r → work_column a j r ≡ going s
          → (s₀ : State) × (run_to a j ≡ going s₀) × (stored (worked a j s₀) (finish a j (worked a j s₀)) ≡ going s)
      go (going s₀) p q = (s₀, p, q)
      go (stopped t) p q = absurd (let z : ◌≡◌ {A = ℕ} 0 1 = cc in omega arith)

  pub columns_keep : (j : ℕ) (s : State) → j ≤ n → run_to a j ≡ going s → Right j s
  unfolding run_to steps columns
  columns_keep zero s le e = subst (Right 0) (out s e) (record { by_rows = refl; by_triples = refl })
    where
      out : (s : State) → going start ≡ going s → start ≡ s
      out s e = cc
  columns_keep (suc j) s le e = let b = going_before j s e in column-keeps j b.0 s (omega arith) (columns_keep j b.0 (omega arith) b.1) b.2

  module _ (s : State) (accepted : run a ≡ going s) where
    at-end : Right n s
    at-end = columns_keep n s (omega arith) accepted

    pub run_rows : (k : ℕ) → rows_at s k ≡ rows (links a) n k
    unfolding rows
    run_rows k = sym (listed s k) ∙ ap (λ (l : List (List ℕ)). get_or l k []) at-end.by_rows

    pub run_triples : s.done ≡ triples (links a) n
    unfolding triples
    run_triples = let e : n ≡ n - 0 = omega arith in at-end.by_triples ∙ ap (λ (m : ℕ). gather (column_triples (links a) n) (from 0 m)) e

    pub run_demand3 : Demand3 a s
    run_demand3 =
        let w : Whole (links a) n = whole_in a.starts a.rows (order a) n in
        record {
          whole = sym (length-map s.finished (λ (c : Column). c.rows)) ∙ ap length at-end.by_rows ∙ columns_length (links a) n n;
          path_rule = λ k i h. rw (run_rows k) (w.path_rule k i h);
          ascending = λ k h. subst Inc (sym (run_rows k)) (w.ascending k h);
          count = ap length run_triples ∙ w.count ∙ sym (ap (sum (between 0 n)) (λ x k. products_of (length (run_rows k x))));
        }
