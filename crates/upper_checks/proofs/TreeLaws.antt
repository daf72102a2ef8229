-- The verdict of `check_tree`, test by test: each where it fails and those before it pass, and all where they pass. Assumes nothing.
use Rattle.std.specs.Prelude.{◌≡◌, ℕ, ◌+◌, ◌<◌, ◌≤◌, List, length, drop, Some, None}
use mathlib.Core.Path.{refl, ◌∙◌}
use Rattle.refusal.specs.Refusal.{Told, done, verdict, too_many_blocks, bad_starts, out_of_range, bad_parent, not_increasing}
use Rattle.tables.specs.Search.{fault}
use Rattle.tables.specs.Verdict.{start_ok, row_fits, parent_ok, order_fits, any_row, tree_checks, tree_verdict}
use Rattle.tables.proofs.CheckLaws.{stops, goes, blocks-stop, blocks-go, starts-stop, starts-go, rows-stop, rows-go, parents-stop, parents-go, order-stop, order-go}
use Rattle.tables.proofs.TableLaws.{ordered_of}

module _ (starts rows parents : List ℕ) where
  abbrev checks : List Told
  checks = tree_checks starts rows parents

  pub tree-blocks : 4096 < length parents → too_many_blocks ≡ tree_verdict starts rows parents
  unfolding tree_verdict
  tree-blocks h = stops (drop 1 checks) (blocks-stop _ h) refl

  module _ (blocks_pass : length parents ≤ 4096) where
    past-blocks : verdict (drop 1 checks) ≡ verdict checks
    past-blocks = goes (drop 1 checks) (blocks-go _ blocks_pass)

    pub tree-starts : (k : ℕ) → Some k ≡ fault (start_ok starts (length parents) (length rows)) 0 (length parents + 2) → bad_starts k ≡ tree_verdict starts rows parents
    unfolding tree_verdict
    tree-starts k e = stops (drop 2 checks) (starts-stop _ _ _ k e) refl ∙ past-blocks

    module _ (starts_pass : None ≡ fault (start_ok starts (length parents) (length rows)) 0 (length parents + 2)) where
      past-starts : verdict (drop 2 checks) ≡ verdict checks
      past-starts = goes (drop 2 checks) (starts-go _ _ _ starts_pass) ∙ past-blocks

      pub tree-rows : (k : ℕ) → Some k ≡ fault (row_fits any_row starts rows (length parents)) 0 (length rows) → out_of_range k ≡ tree_verdict starts rows parents
      unfolding tree_verdict
      tree-rows k e = stops (drop 3 checks) (rows-stop _ _ _ _ k e) refl ∙ past-starts

      module _ (rows_pass : None ≡ fault (row_fits any_row starts rows (length parents)) 0 (length rows)) where
        past-rows : verdict (drop 3 checks) ≡ verdict checks
        past-rows = goes (drop 3 checks) (rows-go _ _ _ _ rows_pass) ∙ past-starts

        pub tree-parents : (k : ℕ) → Some k ≡ fault (parent_ok parents) 0 (length parents) → bad_parent k ≡ tree_verdict starts rows parents
        unfolding tree_verdict
        tree-parents k e = stops (drop 4 checks) (parents-stop _ k e) refl ∙ past-rows

        module _ (parents_pass : None ≡ fault (parent_ok parents) 0 (length parents)) where
          past-parents : verdict (drop 4 checks) ≡ verdict checks
          past-parents = goes (drop 4 checks) (parents-go _ parents_pass) ∙ past-rows

          pub tree-order : (k : ℕ) → Some k ≡ fault (order_fits starts rows (length parents)) 0 (length rows) → not_increasing k ≡ tree_verdict starts rows parents
          unfolding tree_verdict
          tree-order k e = stops (drop 5 checks) (order-stop _ _ _ k e) refl ∙ past-parents

          pub tree-accepts : None ≡ fault (order_fits starts rows (length parents)) 0 (length rows) → done ≡ tree_verdict starts rows parents
          unfolding tree_verdict
          tree-accepts h = goes (drop 5 checks) (order-go _ _ _ h) ∙ past-parents

-- what the proof of the call cites
pub ruleset tree_laws = (ordered_of, tree-blocks, tree-starts, tree-rows, tree-parents, tree-order, tree-accepts)
