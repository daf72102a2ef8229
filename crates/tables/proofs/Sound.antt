-- Tables that pass are sound: no check refuses, so each search ran to its end. And a night's system that is sound passes. Assumes nothing.
use Rattle.std.specs.Prelude.{◌≡◌, ℕ, false, List, length}
use lib.Ieee.{Float}
use mathlib.Core.Path.{refl, ap}
use Rattle.refusal.specs.Refusal.{done, refuses}
use Rattle.refusal.proofs.Laws.{all_pass, pass-after}
use Rattle.tables.specs.Verdict.{blocks_check, dims_check, starts_check, stored_check, rows_check, order_check, perm_check, late_check, system_checks, system_verdict, plan_checks, plan_verdict, factor_checks, factor_verdict, upper_checks, upper_verdict, tree_checks, tree_verdict, from_diagonal, past_diagonal, any_row}
use Rattle.tables.specs.Sound.{Columns, PlanSound, SystemSound, FactorSound, UpperSound, TreeSound}
use Rattle.tables.proofs.CheckLaws.{blocks-pass, dims-pass, starts-pass, stored-pass, rows_pass, parents-pass, order-pass, values-pass, perm-pass, late-pass, tolerance-pass, blocks-go, stored-go, values-go, tolerance-go}
use Rattle.tables.proofs.PassLaws.{sizes-done, starts-done, rows-done, order-done, perm-done, late-done}
use Rattle.tables.proofs.TableLaws.{sizes-of, ordered_of, columns_of, stored-half, stored-limit, permutes-of, flags_of, parents-of}

-- from the checks of A's tables, the permutation and the late flags
module _ (dims starts rows perm late : List ℕ) where
  plan-of : refuses (blocks_check (length dims)) ≡ false → refuses (dims_check dims) ≡ false → refuses (starts_check starts (length dims) (length rows)) ≡ false → refuses (stored_check (length rows)) ≡ false →
      refuses (rows_check from_diagonal starts rows (length dims)) ≡ false → refuses (order_check starts rows (length dims)) ≡ false → refuses (perm_check perm (length dims)) ≡ false → refuses (late_check late (length dims)) ≡ false →
      PlanSound dims starts rows perm late
  plan-of p1 p2 p3 p4 p5 p6 p8 p9 =
      let o = ordered_of starts (length dims) (length rows) (starts-pass _ _ _ p3) in
      let f = flags_of late (length dims) (late-pass _ _ p9) in
      record {
        blocks = blocks-pass _ p1;
        sizes = sizes-of dims (dims-pass _ p2);
        stored = stored-pass _ p4;
        columns = columns_of from_diagonal (length dims) starts rows o (rows_pass _ _ _ _ p5) (order-pass _ _ _ p6);
        permutes = permutes-of perm (length dims) (perm-pass _ _ p8);
        flags = f.0;
        flagged = f.1;
      }

pub plan-sound : (dims starts rows perm late : List ℕ) → refuses (plan_verdict dims starts rows perm late) ≡ false → PlanSound dims starts rows perm late
unfolding plan_verdict
plan-sound dims starts rows perm late e =
    let p = all_pass (plan_checks dims starts rows perm late) e in
    plan-of dims starts rows perm late p.0 p.1.0 p.1.1.0 p.1.1.1.0 p.1.1.1.1.0 p.1.1.1.1.1.0 p.1.1.1.1.1.1.0 p.1.1.1.1.1.1.1.0

pub system-sound : (dims starts rows : List ℕ) (values : List Float) (perm late : List ℕ) (tol : Float) → refuses (system_verdict dims starts rows values perm late tol) ≡ false → SystemSound dims starts rows values perm late tol
unfolding system_verdict
system-sound dims starts rows values perm late tol e =
    let p = all_pass (system_checks dims starts rows values perm late tol) e in
    record {
      plan = plan-of dims starts rows perm late p.0 p.1.0 p.1.1.0 p.1.1.1.0 p.1.1.1.1.0 p.1.1.1.1.1.0 p.1.1.1.1.1.1.1.0 p.1.1.1.1.1.1.1.1.0;
      counted = values-pass _ _ _ _ p.1.1.1.1.1.1.0;
      tolerance = tolerance-pass _ p.1.1.1.1.1.1.1.1.1.0;
    }

-- and back: the ten checks decide no more than what the record says
pub system-passes : (dims starts rows : List ℕ) (values : List Float) (perm late : List ℕ) (tol : Float) → SystemSound dims starts rows values perm late tol → refuses (system_verdict dims starts rows values perm late tol) ≡ false
unfolding system_verdict
system-passes dims starts rows values perm late tol s =
    let n = length dims in
    let p = s.plan in
    pass-after done (system_checks dims starts rows values perm late tol) refl (
      ap refuses (blocks-go n p.blocks),
      (
        ap refuses (sizes-done dims p.sizes),
        (
          ap refuses (starts-done starts n (length rows) p.columns.ordered),
          (
            ap refuses (stored-go (length rows) p.stored),
            (
              ap refuses (rows-done from_diagonal n starts rows p.columns),
              (
                ap refuses (order-done from_diagonal n starts rows p.columns),
                (
                  ap refuses (values-go dims starts rows (length values) _ refl s.counted),
                  (
                    ap refuses (perm-done perm n p.permutes),
                    (
                      ap refuses (late-done late n p.flags p.flagged),
                      (
                        ap refuses (tolerance-go tol s.tolerance),
                        tt,
                      ),
                    ),
                  ),
                ),
              ),
            ),
          ),
        ),
      ),
    )

pub factor-sound : (dims starts rows : List ℕ) (values : List Float) → refuses (factor_verdict dims starts rows values) ≡ false → FactorSound dims starts rows values
unfolding factor_verdict
factor-sound dims starts rows values e =
    let p = all_pass (factor_checks dims starts rows values) e in
    let o = ordered_of starts (length dims) (length rows) (starts-pass _ _ _ p.1.1.0) in
    let c : Columns past_diagonal (length dims) starts rows = columns_of past_diagonal (length dims) starts rows o (rows_pass _ _ _ _ p.1.1.1.0) (order-pass _ _ _ p.1.1.1.1.0) in
    record {
      blocks = blocks-pass _ p.0;
      sizes = sizes-of dims (dims-pass _ p.1.0);
      columns = c;
      half = stored-half c;
      stored = stored-limit c (blocks-pass _ p.0);
      counted = values-pass _ _ _ _ p.1.1.1.1.1.0;
    }

pub upper-sound : (n : ℕ) (starts rows : List ℕ) → refuses (upper_verdict n starts rows) ≡ false → UpperSound n starts rows
unfolding upper_verdict
upper-sound n starts rows e =
    let p = all_pass (upper_checks n starts rows) e in
    let o = ordered_of starts n (length rows) (starts-pass _ _ _ p.1.0) in
    record { blocks = blocks-pass _ p.0; columns = columns_of any_row n starts rows o (rows_pass _ _ _ _ p.1.1.0) (order-pass _ _ _ p.1.1.1.0) }

pub tree-sound : (starts rows above : List ℕ) → refuses (tree_verdict starts rows above) ≡ false → TreeSound starts rows above
unfolding tree_verdict
tree-sound starts rows above e =
    let n = length above in
    let p = all_pass (tree_checks starts rows above) e in
    let o = ordered_of starts n (length rows) (starts-pass _ _ _ p.1.0) in
    record {
      blocks = blocks-pass _ p.0;
      columns = columns_of any_row n starts rows o (rows_pass _ _ _ _ p.1.1.0) (order-pass _ _ _ p.1.1.1.1.0);
      parents = parents-of above (parents-pass _ p.1.1.1.0);
    }
