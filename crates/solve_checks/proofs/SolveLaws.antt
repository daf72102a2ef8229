-- The verdict of `check_solve`, test by test: each where it fails and those before it pass, and all where they pass. Assumes nothing.
use Rattle.std.specs.Prelude.{◌≡◌, ℕ, ◌+◌, ◌<◌, ◌≤◌, List, length, drop, Some, None}
use mathlib.Core.Path.{refl, ◌∙◌}
use lib.Ieee.{Float}
use Rattle.graph.specs.Order.{moved}
use Rattle.refusal.specs.Refusal.{Told, done, verdict, too_many_blocks, bad_dimension, bad_starts, too_many_stored, out_of_range, bad_parent, not_increasing, bad_value_count, bad_permutation, bad_late_flags}
use Rattle.tables.specs.Search.{fault}
use Rattle.tables.specs.Sound.{Columns}
use Rattle.tables.specs.Verdict.{dim_ok, start_ok, row_fits, order_fits, perm_ok, late_ok, areas, from_diagonal, past_diagonal, parent_fits}
use Rattle.tables.proofs.CheckLaws.{stops, goes, blocks-stop, blocks-go, dims-stop, dims-go, starts-stop, starts-go, stored-stop, stored-go, rows-stop, rows-go, order-stop, order-go, values-stop, values-go, perm-stop, perm-go, late-stop, late-go}
use Rattle.tables.proofs.TableLaws.{sizes-of, ordered_of, columns_of, permutes-of, flags_of}
use Rattle.order.specs.Order.{sizes_of}
use Rattle.solve_checks.specs.Verdict.{bad_factor, solve_checks, solve_verdict}
use Rattle.solve_checks.proofs.CheckLaws.{l-starts-stop, l-starts-go, l-rows-stop, l-rows-go, tree-stop, tree-go, l-order-stop, l-order-go}

module _ (dims starts rows perm late parents l_starts l_rows : List ℕ) (l_values : List Float) where
  abbrev checks : List Told
  checks = solve_checks dims starts rows perm late parents l_starts l_rows l_values

  pub solve-blocks : 4096 < length dims → too_many_blocks ≡ solve_verdict dims starts rows perm late parents l_starts l_rows l_values
  unfolding solve_verdict
  solve-blocks h = stops (drop 1 checks) (blocks-stop _ h) refl

  module _ (blocks_pass : length dims ≤ 4096) where
    past-blocks : verdict (drop 1 checks) ≡ verdict checks
    past-blocks = goes (drop 1 checks) (blocks-go _ blocks_pass)

    pub solve-dims : (k : ℕ) → Some k ≡ fault (dim_ok dims) 0 (length dims) → bad_dimension k ≡ solve_verdict dims starts rows perm late parents l_starts l_rows l_values
    unfolding solve_verdict
    solve-dims k e = stops (drop 2 checks) (dims-stop _ k e) refl ∙ past-blocks

    module _ (dims_pass : None ≡ fault (dim_ok dims) 0 (length dims)) where
      past-dims : verdict (drop 2 checks) ≡ verdict checks
      past-dims = goes (drop 2 checks) (dims-go _ dims_pass) ∙ past-blocks

      pub solve-starts : (k : ℕ) → Some k ≡ fault (start_ok starts (length dims) (length rows)) 0 (length dims + 2) → bad_starts k ≡ solve_verdict dims starts rows perm late parents l_starts l_rows l_values
      unfolding solve_verdict
      solve-starts k e = stops (drop 3 checks) (starts-stop _ _ _ k e) refl ∙ past-dims

      module _ (starts_pass : None ≡ fault (start_ok starts (length dims) (length rows)) 0 (length dims + 2)) where
        past-starts : verdict (drop 3 checks) ≡ verdict checks
        past-starts = goes (drop 3 checks) (starts-go _ _ _ starts_pass) ∙ past-dims

        pub solve-l-starts : (k : ℕ) → Some k ≡ fault (start_ok l_starts (length dims) (length l_rows)) 0 (length dims + 2) → bad_factor 3 k ≡ solve_verdict dims starts rows perm late parents l_starts l_rows l_values
        unfolding solve_verdict
        solve-l-starts k e = stops (drop 4 checks) (l-starts-stop _ _ _ k e) refl ∙ past-starts

        module _ (l-starts_pass : None ≡ fault (start_ok l_starts (length dims) (length l_rows)) 0 (length dims + 2)) where
          past-l-starts : verdict (drop 4 checks) ≡ verdict checks
          past-l-starts = goes (drop 4 checks) (l-starts-go _ _ _ l-starts_pass) ∙ past-starts

          pub solve-stored : 65536 < length rows → too_many_stored ≡ solve_verdict dims starts rows perm late parents l_starts l_rows l_values
          unfolding solve_verdict
          solve-stored h = stops (drop 5 checks) (stored-stop _ h) refl ∙ past-l-starts

          module _ (stored_pass : length rows ≤ 65536) where
            past-stored : verdict (drop 5 checks) ≡ verdict checks
            past-stored = goes (drop 5 checks) (stored-go _ stored_pass) ∙ past-l-starts

            pub solve-rows : (k : ℕ) → Some k ≡ fault (row_fits from_diagonal starts rows (length dims)) 0 (length rows) → out_of_range k ≡ solve_verdict dims starts rows perm late parents l_starts l_rows l_values
            unfolding solve_verdict
            solve-rows k e = stops (drop 6 checks) (rows-stop _ _ _ _ k e) refl ∙ past-stored

            module _ (rows_pass : None ≡ fault (row_fits from_diagonal starts rows (length dims)) 0 (length rows)) where
              past-rows : verdict (drop 6 checks) ≡ verdict checks
              past-rows = goes (drop 6 checks) (rows-go _ _ _ _ rows_pass) ∙ past-stored

              pub solve-l-rows : (k : ℕ) → Some k ≡ fault (row_fits past_diagonal l_starts l_rows (length dims)) 0 (length l_rows) → bad_factor 5 k ≡ solve_verdict dims starts rows perm late parents l_starts l_rows l_values
              unfolding solve_verdict
              solve-l-rows k e = stops (drop 7 checks) (l-rows-stop _ _ _ k e) refl ∙ past-rows

              module _ (l-rows_pass : None ≡ fault (row_fits past_diagonal l_starts l_rows (length dims)) 0 (length l_rows)) where
                past-l-rows : verdict (drop 7 checks) ≡ verdict checks
                past-l-rows = goes (drop 7 checks) (l-rows-go _ _ _ l-rows_pass) ∙ past-rows

                pub solve-tree : (k : ℕ) → Some k ≡ fault (parent_fits (length dims) parents) 0 (length parents) → bad_parent k ≡ solve_verdict dims starts rows perm late parents l_starts l_rows l_values
                unfolding solve_verdict
                solve-tree k e = stops (drop 8 checks) (tree-stop _ _ k e) refl ∙ past-l-rows

                module _ (tree_pass : None ≡ fault (parent_fits (length dims) parents) 0 (length parents)) where
                  past-tree : verdict (drop 8 checks) ≡ verdict checks
                  past-tree = goes (drop 8 checks) (tree-go _ _ tree_pass) ∙ past-l-rows

                  pub solve-order : (k : ℕ) → Some k ≡ fault (order_fits starts rows (length dims)) 0 (length rows) → not_increasing k ≡ solve_verdict dims starts rows perm late parents l_starts l_rows l_values
                  unfolding solve_verdict
                  solve-order k e = stops (drop 9 checks) (order-stop _ _ _ k e) refl ∙ past-tree

                  module _ (order_pass : None ≡ fault (order_fits starts rows (length dims)) 0 (length rows)) where
                    past-order : verdict (drop 9 checks) ≡ verdict checks
                    past-order = goes (drop 9 checks) (order-go _ _ _ order_pass) ∙ past-tree

                    pub solve-l-order : (k : ℕ) → Some k ≡ fault (order_fits l_starts l_rows (length dims)) 0 (length l_rows) → bad_factor 6 k ≡ solve_verdict dims starts rows perm late parents l_starts l_rows l_values
                    unfolding solve_verdict
                    solve-l-order k e = stops (drop 10 checks) (l-order-stop _ _ _ k e) refl ∙ past-order

                    module _ (l-order_pass : None ≡ fault (order_fits l_starts l_rows (length dims)) 0 (length l_rows)) where
                      past-l-order : verdict (drop 10 checks) ≡ verdict checks
                      past-l-order = goes (drop 10 checks) (l-order-go _ _ _ l-order_pass) ∙ past-order

                      pub solve-perm : (k : ℕ) → Some k ≡ fault (perm_ok perm (length dims)) 0 (length dims + 1) → bad_permutation k ≡ solve_verdict dims starts rows perm late parents l_starts l_rows l_values
                      unfolding solve_verdict
                      solve-perm k e = stops (drop 11 checks) (perm-stop _ _ k e) refl ∙ past-l-order

                      module _ (perm_pass : None ≡ fault (perm_ok perm (length dims)) 0 (length dims + 1)) where
                        past-perm : verdict (drop 11 checks) ≡ verdict checks
                        past-perm = goes (drop 11 checks) (perm-go _ _ perm_pass) ∙ past-l-order

                        pub solve-late : (k : ℕ) → Some k ≡ fault (late_ok late (length dims)) 0 (length dims + 1) → bad_late_flags k ≡ solve_verdict dims starts rows perm late parents l_starts l_rows l_values
                        unfolding solve_verdict
                        solve-late k e = stops (drop 12 checks) (late-stop _ _ k e) refl ∙ past-perm

                        module _ (late_pass : None ≡ fault (late_ok late (length dims)) 0 (length dims + 1)) where
                          past-late : verdict (drop 12 checks) ≡ verdict checks
                          past-late = goes (drop 12 checks) (late-go _ _ late_pass) ∙ past-perm

                          pub solve-values : (need : ℕ) → need ≡ areas (sizes_of dims (moved perm late)) l_starts l_rows → (length l_values ≡ need → ⊥) → bad_value_count ≡ solve_verdict dims starts rows perm late parents l_starts l_rows l_values
                          unfolding solve_verdict
                          solve-values need e h = stops (drop 13 checks) (values-stop _ _ _ _ need e h) refl ∙ past-late

                          module _ (need : ℕ) (area : need ≡ areas (sizes_of dims (moved perm late)) l_starts l_rows) (values_pass : length l_values ≡ need) where
                            past-values : verdict (drop 13 checks) ≡ verdict checks
                            past-values = goes (drop 13 checks) (values-go _ _ _ _ need area values_pass) ∙ past-late

                            pub solve-accepts : done ≡ solve_verdict dims starts rows perm late parents l_starts l_rows l_values
                            unfolding solve_verdict
                            solve-accepts = past-values

-- ---- what the sum of areas reads

pub factor-columns : {n : ℕ} {l_starts l_rows : List ℕ} → None ≡ fault (start_ok l_starts n (length l_rows)) 0 (n + 2) → None ≡ fault (row_fits past_diagonal l_starts l_rows n) 0 (length l_rows) → None ≡ fault (order_fits l_starts l_rows n) 0 (length l_rows) →
    Columns past_diagonal n l_starts l_rows
factor-columns h3 h5 h6 = columns_of past_diagonal _ _ _ (ordered_of _ _ _ h3) h5 h6

pub late-length : (late : List ℕ) (n : ℕ) → None ≡ fault (late_ok late n) 0 (n + 1) → length late ≡ n
late-length late n h = (flags_of late n h).0

-- what the proof of the call cites
pub ruleset solve_laws = (ordered_of, factor-columns, sizes-of, permutes-of, late-length, solve-blocks, solve-dims, solve-starts, solve-l-starts, solve-stored, solve-rows, solve-l-rows, solve-tree, solve-order, solve-l-order, solve-perm, solve-late, solve-values, solve-accepts)
