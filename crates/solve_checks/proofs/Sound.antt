-- Tables of a solve that pass are sound: no check refuses, so each search ran to its end. Assumes nothing.
use Rattle.std.specs.Prelude.{◌≡◌, ℕ, false, List, length}
use lib.Ieee.{Float}
use Rattle.graph.specs.Order.{moved}
use Rattle.graph.proofs.OrderLaws.{moved-permutes}
use Rattle.refusal.specs.Refusal.{refuses}
use Rattle.refusal.proofs.Laws.{all_pass}
use Rattle.tables.specs.Verdict.{from_diagonal, past_diagonal}
use Rattle.tables.specs.Sound.{Columns}
use Rattle.tables.proofs.CheckLaws.{blocks-pass, dims-pass, starts-pass, stored-pass, rows_pass, order-pass, values-pass, perm-pass, late-pass}
use Rattle.tables.proofs.TableLaws.{sizes-of, ordered_of, columns_of, stored-half, stored-limit, permutes-of, flags_of}
use Rattle.factor_tables.proofs.TableLaws.{sizes-count, sizes-sound}
use Rattle.solve_checks.specs.Verdict.{solve_checks, solve_verdict}
use Rattle.solve_checks.specs.Sound.{SolveSound}
use Rattle.solve_checks.proofs.CheckLaws.{l-starts-pass, l-rows-pass, tree_of, l-order-pass}

pub solve-sound : (dims starts rows perm late parents l_starts l_rows : List ℕ) (l_values : List Float) → refuses (solve_verdict dims starts rows perm late parents l_starts l_rows l_values) ≡ false
    → SolveSound dims starts rows perm late parents l_starts l_rows l_values
unfolding solve_verdict
solve-sound dims starts rows perm late parents l_starts l_rows l_values e =
    let n = length dims in
    let p = all_pass (solve_checks dims starts rows perm late parents l_starts l_rows l_values) e in
    let p3 = p.1.1 in
    let p5 = p3.1.1.1 in
    let p6 = p5.1.1.1 in
    let p8 = p6.1.1 in
    let few = blocks-pass n p.0 in
    let s = sizes-of dims (dims-pass dims p.1.0) in
    let o = ordered_of starts n (length rows) (starts-pass _ _ _ p3.0) in
    let lo = ordered_of l_starts n (length l_rows) (l-starts-pass l_starts n (length l_rows) p3.1.0) in
    let permutes = permutes-of perm n (perm-pass _ _ p8.0) in
    let f = flags_of late n (late-pass _ _ p8.1.0) in
    let order = moved-permutes perm late n permutes in
    let c : Columns past_diagonal n l_starts l_rows = columns_of past_diagonal n l_starts l_rows lo (l-rows-pass l_starts l_rows n p5.1.0) (l-order-pass l_starts l_rows n p6.1.0) in
    record {
      plan =
          record {
            blocks = few;
            sizes = s;
            stored = stored-pass _ p3.1.1.0;
            columns = columns_of from_diagonal n starts rows o (rows_pass _ _ _ _ p5.0) (order-pass _ _ _ p6.0);
            permutes = permutes;
            flags = f.0;
            flagged = f.1;
          };
      factor =
          record {
            blocks = rw (sizes-count dims (moved perm late) order) few;
            sizes = sizes-sound dims (moved perm late) order s;
            columns = rw (sizes-count dims (moved perm late) order) c;
            half = rw (sizes-count dims (moved perm late) order) (stored-half c);
            stored = stored-limit c few;
            counted = values-pass _ _ _ _ p8.1.1.0;
          };
      tree = tree_of n parents p5.1.1.0;
    }
