-- The verdict of `check_upper`, test by test: each where it fails and those before it pass, and all where they pass. Assumes nothing.
use Rattle.std.specs.Prelude.{◌≡◌, ℕ, ◌+◌, ◌<◌, ◌≤◌, List, length, drop, Some, None}
use mathlib.Core.Path.{refl, ◌∙◌}
use Rattle.refusal.specs.Refusal.{Told, done, verdict, too_many_blocks, bad_starts, out_of_range, not_increasing}
use Rattle.tables.specs.Search.{fault}
use Rattle.tables.specs.Verdict.{start_ok, row_fits, order_fits, any_row, upper_checks, upper_verdict}
use Rattle.tables.proofs.CheckLaws.{stops, goes, blocks-stop, blocks-go, starts-stop, starts-go, rows-stop, rows-go, order-stop, order-go}
use Rattle.tables.proofs.TableLaws.{ordered_of}

module _ (n : ℕ) (starts rows : List ℕ) where
  abbrev checks : List Told
  checks = upper_checks n starts rows

  pub upper-blocks : 4096 < n → too_many_blocks ≡ upper_verdict n starts rows
  unfolding upper_verdict
  upper-blocks h = stops (drop 1 checks) (blocks-stop _ h) refl

  module _ (blocks_pass : n ≤ 4096) where
    past-blocks : verdict (drop 1 checks) ≡ verdict checks
    past-blocks = goes (drop 1 checks) (blocks-go _ blocks_pass)

    pub upper-starts : (k : ℕ) → Some k ≡ fault (start_ok starts n (length rows)) 0 (n + 2) → bad_starts k ≡ upper_verdict n starts rows
    unfolding upper_verdict
    upper-starts k e = stops (drop 2 checks) (starts-stop _ _ _ k e) refl ∙ past-blocks

    module _ (starts_pass : None ≡ fault (start_ok starts n (length rows)) 0 (n + 2)) where
      past-starts : verdict (drop 2 checks) ≡ verdict checks
      past-starts = goes (drop 2 checks) (starts-go _ _ _ starts_pass) ∙ past-blocks

      pub upper-rows : (k : ℕ) → Some k ≡ fault (row_fits any_row starts rows n) 0 (length rows) → out_of_range k ≡ upper_verdict n starts rows
      unfolding upper_verdict
      upper-rows k e = stops (drop 3 checks) (rows-stop _ _ _ _ k e) refl ∙ past-starts

      module _ (rows_pass : None ≡ fault (row_fits any_row starts rows n) 0 (length rows)) where
        past-rows : verdict (drop 3 checks) ≡ verdict checks
        past-rows = goes (drop 3 checks) (rows-go _ _ _ _ rows_pass) ∙ past-starts

        pub upper-order : (k : ℕ) → Some k ≡ fault (order_fits starts rows n) 0 (length rows) → not_increasing k ≡ upper_verdict n starts rows
        unfolding upper_verdict
        upper-order k e = stops (drop 4 checks) (order-stop _ _ _ k e) refl ∙ past-rows

        pub upper-accepts : None ≡ fault (order_fits starts rows n) 0 (length rows) → done ≡ upper_verdict n starts rows
        unfolding upper_verdict
        upper-accepts h = goes (drop 4 checks) (order-go _ _ _ h) ∙ past-rows

-- what the proof of the call cites
pub ruleset upper_laws = (ordered_of, upper-blocks, upper-starts, upper-rows, upper-order, upper-accepts)
