-- The verdict of `check_plan`, test by test: each of 1 to 10 where it fails and those before it pass, and all where they pass. Assumes nothing.
use Rattle.std.specs.Prelude.{◌≡◌, ℕ, ◌+◌, ◌<◌, ◌≤◌, List, length, drop, Some, None}
use mathlib.Core.Path.{refl, ◌∙◌}
use Rattle.refusal.specs.Refusal.{Told, done, verdict, too_many_blocks, bad_dimension, bad_starts, too_many_stored, out_of_range, not_increasing, bad_permutation, bad_late_flags}
use Rattle.tables.specs.Search.{fault}
use Rattle.tables.specs.Verdict.{dim_ok, start_ok, row_fits, order_fits, perm_ok, late_ok, from_diagonal, plan_checks, plan_verdict}
use Rattle.tables.proofs.CheckLaws.{stops, goes, blocks-stop, blocks-go, dims-stop, dims-go, starts-stop, starts-go, stored-stop, stored-go, rows-stop, rows-go, order-stop, order-go, perm-stop, perm-go, late-stop, late-go}
use Rattle.tables.proofs.TableLaws.{ordered_of}

module _ (dims starts rows perm late : List ℕ) where
  abbrev checks : List Told
  checks = plan_checks dims starts rows perm late

  pub plan-blocks : 4096 < length dims → too_many_blocks ≡ plan_verdict dims starts rows perm late
  unfolding plan_verdict
  plan-blocks h = stops (drop 1 checks) (blocks-stop _ h) refl

  module _ (blocks_pass : length dims ≤ 4096) where
    past-blocks : verdict (drop 1 checks) ≡ verdict checks
    past-blocks = goes (drop 1 checks) (blocks-go _ blocks_pass)

    pub plan-dims : (k : ℕ) → Some k ≡ fault (dim_ok dims) 0 (length dims) → bad_dimension k ≡ plan_verdict dims starts rows perm late
    unfolding plan_verdict
    plan-dims k e = stops (drop 2 checks) (dims-stop _ k e) refl ∙ past-blocks

    module _ (dims_pass : None ≡ fault (dim_ok dims) 0 (length dims)) where
      past-dims : verdict (drop 2 checks) ≡ verdict checks
      past-dims = goes (drop 2 checks) (dims-go _ dims_pass) ∙ past-blocks

      pub plan-starts : (k : ℕ) → Some k ≡ fault (start_ok starts (length dims) (length rows)) 0 (length dims + 2) → bad_starts k ≡ plan_verdict dims starts rows perm late
      unfolding plan_verdict
      plan-starts k e = stops (drop 3 checks) (starts-stop _ _ _ k e) refl ∙ past-dims

      module _ (starts_pass : None ≡ fault (start_ok starts (length dims) (length rows)) 0 (length dims + 2)) where
        past-starts : verdict (drop 3 checks) ≡ verdict checks
        past-starts = goes (drop 3 checks) (starts-go _ _ _ starts_pass) ∙ past-dims

        pub plan-stored : 65536 < length rows → too_many_stored ≡ plan_verdict dims starts rows perm late
        unfolding plan_verdict
        plan-stored h = stops (drop 4 checks) (stored-stop _ h) refl ∙ past-starts

        module _ (stored_pass : length rows ≤ 65536) where
          past-stored : verdict (drop 4 checks) ≡ verdict checks
          past-stored = goes (drop 4 checks) (stored-go _ stored_pass) ∙ past-starts

          pub plan-rows : (k : ℕ) → Some k ≡ fault (row_fits from_diagonal starts rows (length dims)) 0 (length rows) → out_of_range k ≡ plan_verdict dims starts rows perm late
          unfolding plan_verdict
          plan-rows k e = stops (drop 5 checks) (rows-stop _ _ _ _ k e) refl ∙ past-stored

          module _ (rows_pass : None ≡ fault (row_fits from_diagonal starts rows (length dims)) 0 (length rows)) where
            past-rows : verdict (drop 5 checks) ≡ verdict checks
            past-rows = goes (drop 5 checks) (rows-go _ _ _ _ rows_pass) ∙ past-stored

            pub plan-order : (k : ℕ) → Some k ≡ fault (order_fits starts rows (length dims)) 0 (length rows) → not_increasing k ≡ plan_verdict dims starts rows perm late
            unfolding plan_verdict
            plan-order k e = stops (drop 6 checks) (order-stop _ _ _ k e) refl ∙ past-rows

            module _ (order_pass : None ≡ fault (order_fits starts rows (length dims)) 0 (length rows)) where
              past-order : verdict (drop 6 checks) ≡ verdict checks
              past-order = goes (drop 6 checks) (order-go _ _ _ order_pass) ∙ past-rows

              pub plan-perm : (k : ℕ) → Some k ≡ fault (perm_ok perm (length dims)) 0 (length dims + 1) → bad_permutation k ≡ plan_verdict dims starts rows perm late
              unfolding plan_verdict
              plan-perm k e = stops (drop 7 checks) (perm-stop _ _ k e) refl ∙ past-order

              module _ (perm_pass : None ≡ fault (perm_ok perm (length dims)) 0 (length dims + 1)) where
                past-perm : verdict (drop 7 checks) ≡ verdict checks
                past-perm = goes (drop 7 checks) (perm-go _ _ perm_pass) ∙ past-order

                pub plan-late : (k : ℕ) → Some k ≡ fault (late_ok late (length dims)) 0 (length dims + 1) → bad_late_flags k ≡ plan_verdict dims starts rows perm late
                unfolding plan_verdict
                plan-late k e = stops (drop 8 checks) (late-stop _ _ k e) refl ∙ past-perm

                pub plan-accepts : None ≡ fault (late_ok late (length dims)) 0 (length dims + 1) → done ≡ plan_verdict dims starts rows perm late
                unfolding plan_verdict
                plan-accepts h = goes (drop 8 checks) (late-go _ _ h) ∙ past-perm

-- what the proof of the call cites
pub ruleset plan_laws = (ordered_of, plan-blocks, plan-dims, plan-starts, plan-stored, plan-rows, plan-order, plan-perm, plan-late, plan-accepts)
