-- A flat list is its blocks, one behind the other.
--     slots-join    slots that lie one behind the other are the list up to the last
--     values_join   L's values, column after column
--     units-join    the unit factors
--     pivots-join   d
-- Assumes nothing.
use Rattle.std.specs.Prelude.{◌≡◌, ℕ, zero, suc, ◌+◌, ◌-◌, ◌*◌, ◌<◌, List, ◌++◌, length, take}
use mathlib.Core.Path.{sym, ap, ◌∙◌}
use native.Mathlib.Omega.{arith}
use native.Mathlib.Numerals.{add-one}
use lib.Ieee.{Float}
use lib.Seq.{take_all, take-add}
use Rattle.graph.specs.Sets.{from, gather}
use Rattle.graph.proofs.SetLaws.{from-elim}
use Rattle.buckets.proofs.Turns.{before-next}
use Rattle.tables.specs.Verdict.{at, area_at, areas, past_diagonal}
use Rattle.tables.specs.Sound.{Columns}
use Rattle.scalars.specs.Scalars.{scalar_starts, scalar_count}
use Rattle.buckets.proofs.Laws.{nothing-before}
use Rattle.scalars.proofs.ScalarLaws.{starts-at}
use Rattle.scalars.proofs.BodyLaws.{offset-first, offset-next, offsets-at}
use Rattle.machine.proofs.ListLaws.{gather_ext}
use Rattle.block_product.specs.Working.{slot}
use Rattle.layout.specs.Layout.{Tables, tables_of, side, start_of, stop_of, squares, unit_starts_of, units_need}
use Rattle.layout.proofs.DiagonalLaws.{length-squares, squares-at}
use Rattle.layout.proofs.RowLaws.{area-is}
use Rattle.layout.proofs.Gathered.{gather-snoc, gather-runs}

module _ {A : Type 0} (x : List A) where
  pub slots-join : (start size : ℕ → ℕ) (m : ℕ) → start 0 ≡ 0 → ((u : ℕ) → u < m → start (suc u) ≡ start u + size u)
      → take (start m) x ≡ gather (λ u. slot (start u) (size u) x) (from 0 m)
  slots-join start size zero z next = ap (λ (s : ℕ). take s x) z
  slots-join start size (suc m) z next =
      ap (λ (s : ℕ). take s x) (next m (omega arith)) ∙ take-add (start m) (size m) x
      ∙ ap (λ (l : List A). l ++ slot (start m) (size m) x) (slots-join start size m z (λ u h. next u (omega arith)))
      ∙ sym (gather-snoc (λ u. slot (start u) (size u) x) m)

  -- the whole list, where the last slot ends with it
  slots-all : (start size : ℕ → ℕ) (m : ℕ) → start 0 ≡ 0 → ((u : ℕ) → u < m → start (suc u) ≡ start u + size u) → length x ≡ start m
      → x ≡ gather (λ u. slot (start u) (size u) x) (from 0 m)
  slots-all start size m z next l = sym (take_all (start m) x (omega arith)) ∙ slots-join start size m z next

  -- runs of the given sizes
  runs-join : (sizes : List ℕ) → length x ≡ scalar_count sizes → x ≡ gather (λ k. slot (at (scalar_starts sizes) k) (at sizes k) x) (from 0 (length sizes))
  runs-join sizes l =
      slots-all (at (scalar_starts sizes)) (at sizes) (length sizes) (starts-at sizes 0 (omega arith) ∙ nothing-before sizes)
      (λ u h. ap (at (scalar_starts sizes)) (sym (add-one u)) ∙ omega (arith, starts-at sizes u (omega arith), starts-at sizes (u + 1) (omega arith), before-next sizes u))
      (l ∙ sym (starts-at sizes (length sizes) (omega arith)))

module _ (sizes : List ℕ) (x : List Float) where
  pub units-join : length x ≡ units_need sizes → x ≡ gather (λ k. slot (at (unit_starts_of sizes) k) (at sizes k * at sizes k) x) (from 0 (length sizes))
  units-join l =
      runs-join x (squares sizes) l
      ∙ ap (λ (m : ℕ). gather (λ k. slot (at (unit_starts_of sizes) k) (at (squares sizes) k) x) (from 0 m)) (length-squares sizes)
      ∙ gather_ext (λ k. slot (at (unit_starts_of sizes) k) (at (squares sizes) k) x) (λ k. slot (at (unit_starts_of sizes) k) (at sizes k * at sizes k) x) (from 0 (length sizes))
      (λ k m. ap (λ (s : ℕ). slot (at (unit_starts_of sizes) k) s x) (squares-at sizes k))

  pub pivots-join : length x ≡ scalar_count sizes → x ≡ gather (λ k. slot (at (scalar_starts sizes) k) (at sizes k) x) (from 0 (length sizes))
  pivots-join l = runs-join x sizes l

module _ (sizes l_starts l_rows : List ℕ) where
  abbrev t : Tables
  t = tables_of sizes l_starts l_rows

  module _ (c : Columns past_diagonal (length sizes) l_starts l_rows) (x : List Float) (l : length x ≡ areas sizes l_starts l_rows) where
    -- the body at place u
    abbrev body_of : ℕ → List Float
    body_of u = slot (at t.l_offsets u) (area_at sizes l_starts l_rows u) x

    -- place after place
    bodies : x ≡ gather body_of (from 0 (length l_rows))
    bodies =
        slots-all x (at t.l_offsets) (area_at sizes l_starts l_rows) (length l_rows) (offsets-at sizes l_starts l_rows 0 (omega arith) ∙ offset-first sizes l_starts l_rows)
        (λ u h. ap (at t.l_offsets) (sym (add-one u)) ∙ offsets-at sizes l_starts l_rows (u + 1) (omega arith) ∙ offset-next sizes l_starts l_rows u
        ∙ ap (λ (m : ℕ). m + area_at sizes l_starts l_rows u) (sym (offsets-at sizes l_starts l_rows u (omega arith))))
        (l ∙ sym (offsets-at sizes l_starts l_rows (length l_rows) (omega arith)))

    pub values_join : x ≡ gather (λ k. gather (λ u. slot (at t.l_offsets u) (side t (at l_rows u) * side t k) x) (from (start_of t k) (stop_of t k - start_of t k))) (from 0 (length sizes))
    values_join =
        bodies ∙ ap (λ (m : ℕ). gather body_of (from 0 m)) (sym c.ordered.ends) ∙ gather-runs body_of (at l_starts) (length sizes) c.ordered.begins c.ordered.rising
        ∙ gather_ext (λ k. gather body_of (from (start_of t k) (stop_of t k - start_of t k)))
        (λ k. gather (λ u. slot (at t.l_offsets u) (side t (at l_rows u) * side t k) x) (from (start_of t k) (stop_of t k - start_of t k))) (from 0 (length sizes))
        (λ k m. let h = from-elim k 0 (length sizes) m in
        gather_ext body_of (λ u. slot (at t.l_offsets u) (side t (at l_rows u) * side t k) x) (from (start_of t k) (stop_of t k - start_of t k))
        (λ u w. let b = from-elim u (start_of t k) (stop_of t k - start_of t k) w in
        ap (λ (s : ℕ). slot (at t.l_offsets u) s x) (area-is sizes l_starts l_rows c k (omega arith) u b.0 (omega arith))))
