-- The verdict of `check_system`, test by test: each of 1 to 10 where it fails and those before it pass, and all where they pass. Assumes nothing.
use Rattle.std.specs.Prelude.{◌≡◌, ℕ, ◌+◌, ◌<◌, ◌≤◌, true, false, List, length, drop, Some, None}
use mathlib.Core.Path.{refl, ◌∙◌}
use lib.Ieee.{Float}
use Rattle.scalar.specs.Scalar.{is_tolerance}
use Rattle.refusal.specs.Refusal.{Told, done, verdict, too_many_blocks, bad_dimension, bad_starts, too_many_stored, out_of_range, not_increasing, bad_value_count, bad_permutation, bad_late_flags, bad_tolerance}
use Rattle.tables.specs.Search.{fault}
use Rattle.tables.specs.Verdict.{dim_ok, start_ok, row_fits, order_fits, areas, perm_ok, late_ok, from_diagonal, system_checks, system_verdict}
use Rattle.tables.proofs.CheckLaws.{stops, goes, blocks-stop, blocks-go, dims-stop, dims-go, starts-stop, starts-go, stored-stop, stored-go, rows-stop, rows-go, order-stop, order-go, values-stop, values-go, perm-stop, perm-go, late-stop, late-go, tolerance-stop, tolerance-go}
use Rattle.tables.proofs.TableLaws.{ordered_of, measured_of}

module _ (dims starts rows : List ℕ) (values : List Float) (perm late : List ℕ) (tol : Float) where
  abbrev checks : List Told
  checks = system_checks dims starts rows values perm late tol

  pub system-blocks : 4096 < length dims → too_many_blocks ≡ system_verdict dims starts rows values perm late tol
  unfolding system_verdict
  system-blocks h = stops (drop 1 checks) (blocks-stop _ h) refl

  module _ (blocks_pass : length dims ≤ 4096) where
    past-blocks : verdict (drop 1 checks) ≡ verdict checks
    past-blocks = goes (drop 1 checks) (blocks-go _ blocks_pass)

    pub system-dims : (k : ℕ) → Some k ≡ fault (dim_ok dims) 0 (length dims) → bad_dimension k ≡ system_verdict dims starts rows values perm late tol
    unfolding system_verdict
    system-dims k e = stops (drop 2 checks) (dims-stop _ k e) refl ∙ past-blocks

    module _ (dims_pass : None ≡ fault (dim_ok dims) 0 (length dims)) where
      past-dims : verdict (drop 2 checks) ≡ verdict checks
      past-dims = goes (drop 2 checks) (dims-go _ dims_pass) ∙ past-blocks

      pub system-starts : (k : ℕ) → Some k ≡ fault (start_ok starts (length dims) (length rows)) 0 (length dims + 2) → bad_starts k ≡ system_verdict dims starts rows values perm late tol
      unfolding system_verdict
      system-starts k e = stops (drop 3 checks) (starts-stop _ _ _ k e) refl ∙ past-dims

      module _ (starts_pass : None ≡ fault (start_ok starts (length dims) (length rows)) 0 (length dims + 2)) where
        past-starts : verdict (drop 3 checks) ≡ verdict checks
        past-starts = goes (drop 3 checks) (starts-go _ _ _ starts_pass) ∙ past-dims

        pub system-stored : 65536 < length rows → too_many_stored ≡ system_verdict dims starts rows values perm late tol
        unfolding system_verdict
        system-stored h = stops (drop 4 checks) (stored-stop _ h) refl ∙ past-starts

        module _ (stored_pass : length rows ≤ 65536) where
          past-stored : verdict (drop 4 checks) ≡ verdict checks
          past-stored = goes (drop 4 checks) (stored-go _ stored_pass) ∙ past-starts

          pub system-rows : (k : ℕ) → Some k ≡ fault (row_fits from_diagonal starts rows (length dims)) 0 (length rows) → out_of_range k ≡ system_verdict dims starts rows values perm late tol
          unfolding system_verdict
          system-rows k e = stops (drop 5 checks) (rows-stop _ _ _ _ k e) refl ∙ past-stored

          module _ (rows_pass : None ≡ fault (row_fits from_diagonal starts rows (length dims)) 0 (length rows)) where
            past-rows : verdict (drop 5 checks) ≡ verdict checks
            past-rows = goes (drop 5 checks) (rows-go _ _ _ _ rows_pass) ∙ past-stored

            pub system-order : (k : ℕ) → Some k ≡ fault (order_fits starts rows (length dims)) 0 (length rows) → not_increasing k ≡ system_verdict dims starts rows values perm late tol
            unfolding system_verdict
            system-order k e = stops (drop 6 checks) (order-stop _ _ _ k e) refl ∙ past-rows

            module _ (order_pass : None ≡ fault (order_fits starts rows (length dims)) 0 (length rows)) where
              past-order : verdict (drop 6 checks) ≡ verdict checks
              past-order = goes (drop 6 checks) (order-go _ _ _ order_pass) ∙ past-rows

              pub system-values : (need : ℕ) → need ≡ areas dims starts rows → (length values ≡ need → ⊥) → bad_value_count ≡ system_verdict dims starts rows values perm late tol
              unfolding system_verdict
              system-values need e h = stops (drop 7 checks) (values-stop _ _ _ _ need e h) refl ∙ past-order

              module _ (need : ℕ) (area : need ≡ areas dims starts rows) (values_pass : length values ≡ need) where
                past-values : verdict (drop 7 checks) ≡ verdict checks
                past-values = goes (drop 7 checks) (values-go _ _ _ _ need area values_pass) ∙ past-order

                pub system-perm : (k : ℕ) → Some k ≡ fault (perm_ok perm (length dims)) 0 (length dims + 1) → bad_permutation k ≡ system_verdict dims starts rows values perm late tol
                unfolding system_verdict
                system-perm k e = stops (drop 8 checks) (perm-stop _ _ k e) refl ∙ past-values

                module _ (perm_pass : None ≡ fault (perm_ok perm (length dims)) 0 (length dims + 1)) where
                  past-perm : verdict (drop 8 checks) ≡ verdict checks
                  past-perm = goes (drop 8 checks) (perm-go _ _ perm_pass) ∙ past-values

                  pub system-late : (k : ℕ) → Some k ≡ fault (late_ok late (length dims)) 0 (length dims + 1) → bad_late_flags k ≡ system_verdict dims starts rows values perm late tol
                  unfolding system_verdict
                  system-late k e = stops (drop 9 checks) (late-stop _ _ k e) refl ∙ past-perm

                  module _ (late_pass : None ≡ fault (late_ok late (length dims)) 0 (length dims + 1)) where
                    past-late : verdict (drop 9 checks) ≡ verdict checks
                    past-late = goes (drop 9 checks) (late-go _ _ late_pass) ∙ past-perm

                    pub system-tolerance : is_tolerance tol ≡ false → bad_tolerance ≡ system_verdict dims starts rows values perm late tol
                    unfolding system_verdict
                    system-tolerance h = stops (drop 10 checks) (tolerance-stop _ h) refl ∙ past-late

                    pub system-accepts : is_tolerance tol ≡ true → done ≡ system_verdict dims starts rows values perm late tol
                    unfolding system_verdict
                    system-accepts h = goes (drop 10 checks) (tolerance-go _ h) ∙ past-late

-- what the proof of the call cites
pub ruleset system_laws = (ordered_of, measured_of, system-blocks, system-dims, system-starts, system-stored, system-rows, system-order, system-values, system-perm, system-late, system-tolerance, system-accepts)
