-- `fill_rows::cores::repeats_parent` meets its contract. Assumes nothing.
use Rattle.std.specs.Prelude.{◌≡◌, ℕ, ◌+◌, Bool, true, false, not, ◌&&◌, eqb, List, get_or}
use mathlib.Core.Path.{sym, ap}
use native.Mathlib.Omega.{arith}
use borrow.Author.Tests.{eq-eqb, ne_eqb}
use Rattle.reach.specs.Reach.{none}
use Rattle.symbolic.proofs.Climbs.{goes_up}
use Rattle.fill_rows.specs.Repeats.{rows_in}
use Rattle.fill_rows.proofs.cores.repeats_parent.Goals as goal

-- the test with its first half decided
given : (heads : List ℕ) (k p : ℕ) (b : Bool) → eqb p none ≡ b → (not (eqb p none) && eqb (rows_in heads k) (rows_in heads p + 1)) ≡ (not b && eqb (rows_in heads k) (rows_in heads p + 1))
given heads k p b e = ap (λ (x : Bool). not x && eqb (rows_in heads k) (rows_in heads p + 1)) e

pub returns-then-up : goal.returns-then-up
returns-then-up c =
    let p = get_or c.args.parent.now c.args.k 0 in
    sym (given c.args.l_starts.now c.args.k p true (eq-eqb p none c.if-up.true))

pub returns : goal.returns
returns c =
    let p = get_or c.args.parent.now c.args.k 0 in
    sym (given c.args.l_starts.now c.args.k p false (ne_eqb p none c.if-up.false))
