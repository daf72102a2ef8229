-- The verdict of `check_factor`, test by test: each of 1 to 10 where it fails and those before it pass, and all where they pass. Assumes nothing.
use Rattle.std.specs.Prelude.{◌≡◌, ℕ, ◌+◌, ◌<◌, ◌≤◌, List, length, drop, Some, None}
use mathlib.Core.Path.{refl, ◌∙◌}
use lib.Ieee.{Float}
use Rattle.refusal.specs.Refusal.{Told, done, verdict, too_many_blocks, bad_dimension, bad_starts, out_of_range, not_increasing, bad_value_count}
use Rattle.tables.specs.Search.{fault}
use Rattle.tables.specs.Verdict.{dim_ok, start_ok, row_fits, order_fits, areas, past_diagonal, factor_checks, factor_verdict}
use Rattle.tables.proofs.CheckLaws.{stops, goes, blocks-stop, blocks-go, dims-stop, dims-go, starts-stop, starts-go, rows-stop, rows-go, order-stop, order-go, values-stop, values-go}
use Rattle.tables.proofs.TableLaws.{ordered_of, measured_of}

module _ (dims starts rows : List ℕ) (values : List Float) where
  abbrev checks : List Told
  checks = factor_checks dims starts rows values

  pub factor-blocks : 4096 < length dims → too_many_blocks ≡ factor_verdict dims starts rows values
  unfolding factor_verdict
  factor-blocks h = stops (drop 1 checks) (blocks-stop _ h) refl

  module _ (blocks_pass : length dims ≤ 4096) where
    past-blocks : verdict (drop 1 checks) ≡ verdict checks
    past-blocks = goes (drop 1 checks) (blocks-go _ blocks_pass)

    pub factor-dims : (k : ℕ) → Some k ≡ fault (dim_ok dims) 0 (length dims) → bad_dimension k ≡ factor_verdict dims starts rows values
    unfolding factor_verdict
    factor-dims k e = stops (drop 2 checks) (dims-stop _ k e) refl ∙ past-blocks

    module _ (dims_pass : None ≡ fault (dim_ok dims) 0 (length dims)) where
      past-dims : verdict (drop 2 checks) ≡ verdict checks
      past-dims = goes (drop 2 checks) (dims-go _ dims_pass) ∙ past-blocks

      pub factor-starts : (k : ℕ) → Some k ≡ fault (start_ok starts (length dims) (length rows)) 0 (length dims + 2) → bad_starts k ≡ factor_verdict dims starts rows values
      unfolding factor_verdict
      factor-starts k e = stops (drop 3 checks) (starts-stop _ _ _ k e) refl ∙ past-dims

      module _ (starts_pass : None ≡ fault (start_ok starts (length dims) (length rows)) 0 (length dims + 2)) where
        past-starts : verdict (drop 3 checks) ≡ verdict checks
        past-starts = goes (drop 3 checks) (starts-go _ _ _ starts_pass) ∙ past-dims

        pub factor-rows : (k : ℕ) → Some k ≡ fault (row_fits past_diagonal starts rows (length dims)) 0 (length rows) → out_of_range k ≡ factor_verdict dims starts rows values
        unfolding factor_verdict
        factor-rows k e = stops (drop 4 checks) (rows-stop _ _ _ _ k e) refl ∙ past-starts

        module _ (rows_pass : None ≡ fault (row_fits past_diagonal starts rows (length dims)) 0 (length rows)) where
          past-rows : verdict (drop 4 checks) ≡ verdict checks
          past-rows = goes (drop 4 checks) (rows-go _ _ _ _ rows_pass) ∙ past-starts

          pub factor-order : (k : ℕ) → Some k ≡ fault (order_fits starts rows (length dims)) 0 (length rows) → not_increasing k ≡ factor_verdict dims starts rows values
          unfolding factor_verdict
          factor-order k e = stops (drop 5 checks) (order-stop _ _ _ k e) refl ∙ past-rows

          module _ (order_pass : None ≡ fault (order_fits starts rows (length dims)) 0 (length rows)) where
            past-order : verdict (drop 5 checks) ≡ verdict checks
            past-order = goes (drop 5 checks) (order-go _ _ _ order_pass) ∙ past-rows

            pub factor-values : (need : ℕ) → need ≡ areas dims starts rows → (length values ≡ need → ⊥) → bad_value_count ≡ factor_verdict dims starts rows values
            unfolding factor_verdict
            factor-values need e h = stops (drop 6 checks) (values-stop _ _ _ _ need e h) refl ∙ past-order

            module _ (need : ℕ) (area : need ≡ areas dims starts rows) (values_pass : length values ≡ need) where
              past-values : verdict (drop 6 checks) ≡ verdict checks
              past-values = goes (drop 6 checks) (values-go _ _ _ _ need area values_pass) ∙ past-order

              pub factor-accepts : done ≡ factor_verdict dims starts rows values
              unfolding factor_verdict
              factor-accepts = past-values

-- what the proof of the call cites
pub ruleset factor_laws = (ordered_of, measured_of, factor-blocks, factor-dims, factor-starts, factor-rows, factor-order, factor-values, factor-accepts)
