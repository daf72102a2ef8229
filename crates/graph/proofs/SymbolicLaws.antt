-- The columns of symbolic elimination are those of the path rule, their first rows are the parents, and the climbs find the columns with row j.
--     rows_iff      T1: row i is in column k of L exactly when the path rule says so
--     parent_least  T2: the first row of column k is the least row that the path rule gives
--     reach_rows    T2: the climbs for j find exactly the columns k < j that have row j; reach_uniq: each once
use Prim.Native.Nat.{ℕ, zero, suc, ◌+◌, ◌≤◌, ◌<◌}
use mathlib.Core.Bool.{Bool, ◌||◌}
use mathlib.Core.List.{List, [], ◌∷◌}
use mathlib.Core.Logic.{◌↔◌, ⊎_elim}
use mathlib.Core.Path.{◌≡◌, refl, sym, ap, subst, ◌∙◌}
use native.Mathlib.Omega.{arith}
use native.Mathlib.Decide.{dec_lt}
use native.Mathlib.Numerals.{add-one}
use lib.Dec.{T}
use lib.ListN.{length, get_or, length-append, get_or-append}
use lib.Seq.{get_or_at}
use Rattle.graph.specs.Sets.{elem, any, between, Inc, Uniq}
use Rattle.graph.specs.Path.{Stored}
use Rattle.graph.specs.Fill.{Fill, here, made, Least}
use Rattle.graph.specs.Symbolic.{reach, first, parents, column, columns, rows}
use Rattle.graph.proofs.SetLaws.{or_left, or_right, or_cases, elem-head, elem-cases, any-intro, any-elim, filter-elim, filter-intro, filter-inc, between-inc, between-elim, between-intro}
use Rattle.graph.proofs.FillPath.{fill-path, path-fill}
use Rattle.graph.proofs.ReachLaws.{reach_iff, reach_once}

module _ (linked : ℕ → ℕ → Bool) (n : ℕ) where
  -- l is column k by the fill rule: its rows below the diagonal, ascending
  pub record IsColumn (k : ℕ) (l : List ℕ) : Type 0 where
    pub ascending : Inc l
    pub sound : (i : ℕ) → T (elem i l) → (k < i) × (i < n) × Fill linked i k
    pub complete : (i : ℕ) → k < i → i < n → Fill linked i k → T (elem i l)

  -- its first row is the parent
  pub first_least : (k : ℕ) (l : List ℕ) → IsColumn k l → Least linked n k (first l)
  first_least k [] c = λ i h b f. c.complete i h b f
  first_least k (x ∷ l) c =
      let s = c.sound x (elem-head x l) in
      (s.0, s.1, s.2, λ i h b f. ⊎_elim (λ (e : i ≡ x). omega arith) (λ m. let a : x < i = c.ascending.0 i m in omega arith) (elem-cases i x l (c.complete i h b f)))

  -- the columns as a table
  pub columns_length : (j : ℕ) → length (columns linked n j) ≡ j
  unfolding columns
  columns_length zero = refl
  columns_length (suc j) = length-append (columns linked n j) (column linked n (columns linked n j) j ∷ []) ∙ ap (λ (x : ℕ). x + 1) (columns_length j) ∙ add-one j

  pub columns_at : (j k : ℕ) → k < j → get_or (columns linked n j) k [] ≡ column linked n (columns linked n k) k
  unfolding columns
  columns_at zero k h = absurd (omega arith)
  columns_at (suc j) k h = go (columns_at j k) (dec_lt k j)
    where
      go : (k < j → get_or (columns linked n j) k [] ≡ column linked n (columns linked n k) k) → Dec (k < j)
          → get_or (columns linked n (suc j)) k [] ≡ column linked n (columns linked n k) k
      go ih (yes l) =
          let b : k < length (columns linked n j) = subst (λ (x : ℕ). k < x) (sym (columns_length j)) l in
          get_or-append (columns linked n j) (column linked n (columns linked n j) j ∷ []) [] k b ∙ ih l
      go ih (no l) =
          let e : j ≡ k = omega arith in
          get_or_at (columns linked n j) (column linked n (columns linked n j) j) [] [] k (columns_length j ∙ e) ∙ ap (λ (x : ℕ). column linked n (columns linked n x) x) e

  module _ (symm : (a b : ℕ) → T (linked a b) → T (linked b a)) where
    -- one step of the elimination: where the columns before j are right, column j is
    pub column-right : (cols : List (List ℕ)) (j : ℕ) → j < n → ((k : ℕ) → k < j → IsColumn k (get_or cols k [])) → IsColumn j (column linked n cols j)
    unfolding column
    column-right cols j lt right =
        record {
          ascending = filter-inc test (between (suc j) n) (between-inc (suc j) n);
          sound = λ i m.
              let r = filter-elim test i (between (suc j) n) m in
              let b = between-elim i (suc j) n r.0 in (
                b.0,
                b.1,
                ⊎_elim (λ l. here l) (λ a. let s = any-elim (λ k. elem i (get_or cols k [])) (reach linked n (parents cols) j) a in
                    let q = (iff s.0).0 s.1 in made q.0 q.1 ((right s.0 q.0).sound i s.2).2) (or_cases (linked i j) (any (λ k. elem i (get_or cols k [])) (reach linked n (parents cols) j)) r.1),
              );
          complete = λ i h b f. filter-intro test i (between (suc j) n) (between-intro i (suc j) n h b) (passes i h b f);
        }
      where
        test : ℕ → Bool
        test i = linked i j || any (λ k. elem i (get_or cols k [])) (reach linked n (parents cols) j)

        iff : (k : ℕ) → T (elem k (reach linked n (parents cols) j)) ↔ ((k < j) × Fill linked j k)
        iff = reach_iff linked n j (parents cols) lt (λ k h. first_least k (get_or cols k []) (right k h)) symm

        passes : (i : ℕ) → j < i → i < n → Fill linked i j → T (linked i j || any (λ k. elem i (get_or cols k [])) (reach linked n (parents cols) j))
        passes i h b (here l) = or_left (linked i j) (any (λ k. elem i (get_or cols k [])) (reach linked n (parents cols) j)) l
        passes i h b (made {k = k} lk f g) =
            or_right (linked i j) (any (λ k. elem i (get_or cols k [])) (reach linked n (parents cols) j))
            (any-intro (λ k. elem i (get_or cols k [])) k (reach linked n (parents cols) j) ((iff k).1 (lk, f)) ((right k lk).complete i (omega arith) b g))

    -- so all of them are, by induction on their number
    pub right_below : (j : ℕ) → j ≤ n → (k : ℕ) → k < j → IsColumn k (column linked n (columns linked n k) k)
    right_below zero h k l = absurd (omega arith)
    right_below (suc j) h k l = go (right_below j (omega arith)) (dec_lt k j)
      where
        go : ((k : ℕ) → k < j → IsColumn k (column linked n (columns linked n k) k)) → Dec (k < j) → IsColumn k (column linked n (columns linked n k) k)
        go ih (yes l') = ih k l'
        go ih (no l') =
            let e : j ≡ k = omega arith in
            subst (λ (x : ℕ). IsColumn x (column linked n (columns linked n x) x)) e
            (column-right (columns linked n j) j (omega arith) (λ m b. subst (λ (l : List ℕ). IsColumn m l) (sym (columns_at j m b)) (ih m b)))

    pub rows_right : (k : ℕ) → k < n → IsColumn k (rows linked n k)
    unfolding rows
    rows_right k h = subst (λ (l : List ℕ). IsColumn k l) (sym (columns_at n k h)) (right_below n (omega arith) k h)

    -- T1, the fill-path theorem of the columns
    pub rows_iff : (k i : ℕ) → k < n → T (elem i (rows linked n k)) ↔ ((i < n) × Stored linked k i)
    rows_iff k i h =
        (λ m. let s = (rows_right k h).sound i m in (s.1, (s.0, fill-path linked symm s.2)), λ s. (rows_right k h).complete i s.1.0 s.0 (path-fill linked symm s.1.1))

    pub rows_ascending : (k : ℕ) → k < n → Inc (rows linked n k)
    rows_ascending k h = (rows_right k h).ascending

    -- T2: the parent is the least row
    pub parent_least : (k : ℕ) → k < n → Least linked n k (first (rows linked n k))
    parent_least k h = first_least k (rows linked n k) (rows_right k h)

    -- T2, the row subtree theorem of the columns
    pub reach_rows : (j k : ℕ) → j < n → T (elem k (reach linked n (λ k. first (rows linked n k)) j)) ↔ ((k < j) × T (elem j (rows linked n k)))
    reach_rows j k h =
        let iff = reach_iff linked n j (λ k. first (rows linked n k)) h (λ m b. parent_least m (omega arith)) symm k in
        (λ m. let r = iff.0 m in (r.0, (rows_right k (omega arith)).complete j r.0 h r.1), λ r. iff.1 (r.0, ((rows_right k (omega arith)).sound j r.1).2))

    pub reach_uniq : (j : ℕ) → j < n → Uniq (reach linked n (λ k. first (rows linked n k)) j)
    reach_uniq j h = reach_once linked n j (λ k. first (rows linked n k)) h (λ m b. parent_least m (omega arith)) symm
