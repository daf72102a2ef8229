-- An upper pattern that lists the links of `linked` gives the same rows and the same products of each column as `linked` itself. Assumes nothing.
use Rattle.std.specs.Prelude.{◌≡◌, ℕ, ◌<◌, ◌≤◌, Bool, T, ltb, List, [], ◌∷◌, map, get_or}
use mathlib.Core.Path.{sym, ap, ◌∙◌}
use Rattle.graph.specs.Sets.{filter, between, gather}
use Rattle.graph.specs.Symbolic as L
use Rattle.graph.specs.Count.{triple, column_triples}
use Rattle.elimination_tree.specs.Tree.{Ascends, linked_up}
use Rattle.elimination_tree.proofs.Links.{upper-links}
use Rattle.pattern.specs.Moved.{UpperOf}
use Rattle.analysis.proofs.Same.{same-upper, ascends-of, same-columns}

module _ (n : ℕ) (linked : ℕ → ℕ → Bool) (starts rows : List ℕ) (few : n ≤ 4096) (u : UpperOf n linked starts rows) (symm : (a b : ℕ) → T (linked a b) → T (linked b a)) where
  pub same_rows : (k : ℕ) → L.rows (linked_up starts rows) n k ≡ L.rows linked n k
  unfolding L.rows
  same_rows k = ap (λ (c : List (List ℕ)). get_or c k []) (same-columns n linked starts rows few u symm)

  -- the links before j, both ways
  same-before : (j : ℕ) → j < n → filter (λ i. linked_up starts rows i j) (between 0 j) ≡ filter (λ i. linked i j) (between 0 j)
  unfolding Ascends
  same-before j h = sym (upper-links starts rows j (ascends-of n linked starts rows few u j h)) ∙ same-upper n linked starts rows few u j h

  pub same-triples : (j : ℕ) → j < n → column_triples (linked_up starts rows) n j ≡ column_triples linked n j
  unfolding column_triples L.reach
  same-triples j h =
      ap (λ (f : ℕ → List ℕ). gather (λ k. map (triple j k) (j ∷ filter (λ i. ltb j i) (f k))) (L.reach (linked_up starts rows) n (λ k. L.first (f k)) j)) (λ x k. same_rows k x)
      ∙ ap (λ (l : List ℕ). gather (λ k. map (triple j k) (j ∷ filter (λ i. ltb j i) (L.rows linked n k))) (L.climbs (λ k. L.first (L.rows linked n k)) j n l [])) (same-before j h)
