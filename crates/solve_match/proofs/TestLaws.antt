-- The verdicts of 12, test by test: each where it fails and those before it pass, and all where they pass. Assumes nothing.
use Rattle.std.specs.Prelude.{◌≡◌, ℕ, Bool, true, false, List, [], length, drop, Ok, Err}
use mathlib.Core.Path.{refl, sym, ap, subst, ◌∙◌}
use Rattle.graph.specs.Order.{Permutes, moved}
use Rattle.graph.proofs.OrderLaws.{moved-permutes}
use Rattle.refusal.specs.Refusal.{Told, done, shapes_disagree, verdict}
use Rattle.tables.proofs.CheckLaws.{stops, goes}
use Rattle.order.specs.Order.{sizes_of}
use Rattle.scalars.specs.Scalars.{scalar_count}
use Rattle.scalars.specs.Bodies.{offsets}
use Rattle.layout.specs.Layout.{units_need}
use Rattle.factor_match.specs.Match.{match_of}
use Rattle.factor_match.specs.declared.cores.ColumnError.{ColumnError}
use Rattle.factor_order.specs.Same.{same_list}
use Rattle.factor_order.proofs.SameLaws.{same-equal}
use Rattle.solve_match.specs.Verdict.{told_column, told_match, shape_checks, match_checks, match_verdict}
use Rattle.solve_match.proofs.MatchLaws.{table-stop, table-go, count-stop, count-go, column-refuses}

-- ---- the offsets, and the counts

module _ (dims order l_starts l_rows l_offsets : List ℕ) (diag d x : ℕ) where
  abbrev shapes : List Told
  shapes = shape_checks dims order l_starts l_rows l_offsets diag d x

  abbrev bodies : List ℕ
  bodies = offsets (sizes_of dims order) l_starts l_rows

  pub shape-offsets : (b : Bool) → b ≡ same_list l_offsets (offsets (sizes_of dims order) l_starts l_rows) → b ≡ false → shapes_disagree 9 ≡ verdict (shape_checks dims order l_starts l_rows l_offsets diag d x)
  shape-offsets b e h = stops (drop 1 shapes) (table-stop 9 _ (sym e ∙ h)) refl

  module _ (b : Bool) (is_b : b ≡ same_list l_offsets (offsets (sizes_of dims order) l_starts l_rows)) (passes : b ≡ true) where
    past-offsets : verdict (drop 1 shapes) ≡ verdict shapes
    past-offsets = goes (drop 1 shapes) (table-go 9 _ (sym is_b ∙ passes))

    pub shape-units : (units : ℕ) → units ≡ units_need dims → (diag ≡ units → ⊥) → shapes_disagree 11 ≡ verdict (shape_checks dims order l_starts l_rows l_offsets diag d x)
    shape-units units e h = stops (drop 2 shapes) (count-stop 11 (units_need dims) diag (λ z. h (z ∙ sym e))) refl ∙ past-offsets

    module _ (units : ℕ) (is_units : units ≡ units_need dims) (as_units : diag ≡ units) (all : ℕ) (is_all : all ≡ scalar_count dims) where
      past-units : verdict (drop 2 shapes) ≡ verdict shapes
      past-units = goes (drop 2 shapes) (count-go 11 (units_need dims) diag (as_units ∙ is_units)) ∙ past-offsets

      pub shape-pivots : (d ≡ all → ⊥) → shapes_disagree 12 ≡ verdict (shape_checks dims order l_starts l_rows l_offsets diag d x)
      shape-pivots h = stops (drop 3 shapes) (count-stop 12 (scalar_count dims) d (λ z. h (z ∙ sym is_all))) refl ∙ past-units

      module _ (as_pivots : d ≡ all) where
        past-pivots : verdict (drop 3 shapes) ≡ verdict shapes
        past-pivots = goes (drop 3 shapes) (count-go 12 (scalar_count dims) d (as_pivots ∙ is_all)) ∙ past-units

        pub shape-right : (x ≡ all → ⊥) → shapes_disagree 13 ≡ verdict (shape_checks dims order l_starts l_rows l_offsets diag d x)
        shape-right h = stops [] (count-stop 13 (scalar_count dims) x (λ z. h (z ∙ sym is_all))) refl ∙ past-pivots

        pub shape-accepts : x ≡ all → done ≡ verdict (shape_checks dims order l_starts l_rows l_offsets diag d x)
        shape-accepts e = goes [] (count-go 13 (scalar_count dims) x (e ∙ is_all)) ∙ past-pivots

-- what the proof of `first_shape` cites
pub ruleset shape_laws = (shape-offsets, shape-units, shape-pivots, shape-right, shape-accepts)

-- ---- all of 12

module _ (dims starts rows perm late order parents l_starts l_rows l_offsets : List ℕ) (diag d x : ℕ) where
  abbrev checks : List Told
  checks = match_checks dims starts rows perm late order parents l_starts l_rows l_offsets diag d x

  pub match-order : (b : Bool) → b ≡ same_list order (moved perm late) → b ≡ false → shapes_disagree 5 ≡ match_verdict dims starts rows perm late order parents l_starts l_rows l_offsets diag d x
  unfolding match_verdict
  match-order b e h = stops (drop 1 checks) (table-stop 5 _ (sym e ∙ h)) refl

  module _ (b : Bool) (is_b : b ≡ same_list order (moved perm late)) (passes : b ≡ true) where
    past-order : verdict (drop 1 checks) ≡ verdict checks
    past-order = goes (drop 1 checks) (table-go 5 _ (sym is_b ∙ passes))

    pub match-parents : (length parents ≡ length dims → ⊥) → shapes_disagree 6 ≡ match_verdict dims starts rows perm late order parents l_starts l_rows l_offsets diag d x
    unfolding match_verdict
    match-parents h = stops (drop 2 checks) (count-stop 6 (length dims) (length parents) h) refl ∙ past-order

    module _ (as_many : length parents ≡ length dims) where
      past-parents : verdict (drop 2 checks) ≡ verdict checks
      past-parents = goes (drop 2 checks) (count-go 6 (length dims) (length parents) as_many) ∙ past-order

      pub match-columns : (e : ColumnError) → Err e ≡ match_of starts rows order parents l_starts l_rows → told_column e ≡ match_verdict dims starts rows perm late order parents l_starts l_rows l_offsets diag d x
      unfolding match_verdict
      match-columns e h = stops (drop 3 checks) (ap told_match (sym h)) (column-refuses e) ∙ past-parents

      pub match-shapes : Ok tt ≡ match_of starts rows order parents l_starts l_rows → verdict (shape_checks dims order l_starts l_rows l_offsets diag d x) ≡ match_verdict dims starts rows perm late order parents l_starts l_rows l_offsets diag d x
      unfolding match_verdict
      match-shapes h = goes (drop 3 checks) (ap told_match (sym h)) ∙ past-parents

-- the order permutes the blocks, as it is the permutation after the late move
pub order-permutes : (perm late order : List ℕ) (n : ℕ) (b : Bool) → b ≡ same_list order (moved perm late) → b ≡ true → Permutes n perm → Permutes n order
order-permutes perm late order n b e h p = subst (Permutes n) (sym (same-equal order (moved perm late) (sym e ∙ h))) (moved-permutes perm late n p)

-- what the proof of `first_mismatch` cites
pub ruleset match_laws = (order-permutes, match-order, match-parents, match-columns, match-shapes)
