-- `match_rows::cores::first_unpassed` meets its contract: the pairs of the columns before c have been passed (`Rowing`). Assumes nothing.
use Rattle.std.specs.Prelude.{◌≡◌}
use Prim.Native.Nat.{zero-le}
use mathlib.Core.Path.{refl, sym, ◌∙◌}
use native.Mathlib.Omega.{arith}
use Rattle.match_rows.proofs.FoundLaws.{some-within, none-past, lowest-of}
use Rattle.match_rows.proofs.HalvedLaws.{rises-of}
use Rattle.match_rows.proofs.PairLaws.{rowing-none, rowing-empty, rowing-above, rowing-passed, rowing-down, rowing-all}
use Rattle.match_rows.proofs.cores.first_unpassed.Goals as goal
use Rattle.match_rows.proofs.cores.first_unpassed.Goals.{then-from-end+then-parent-least+then-is_some, then-from-end+then-parent-least+else-is_some, then-from-end+else-parent-least, else-from-end}

pub loop-c-init : goal.loop-c-init
loop-c-init c =
    let a = c.args in
    (zero-le, rowing-none a.l_starts.now a.l_rows.now a.n c.requires)

pub unpassed_in-requires : goal.unpassed_in-requires
unpassed_in-requires c =
    let s = c.requires in
    let j = c.loop-c.c in
    let h = c.loop-c-test.true in
    (rises-of s j h, rises-of s _ (s.ranged j _ h (omega arith) c.if-from-end.true).1, c.if-from-end.true)

pub loop-c-preserved : goal.loop-c-preserved
loop-c-preserved c =
    let a = c.args in
    let s = c.requires in
    let l = c.loop-c in
    let h = c.loop-c-test.true in
    let starts = a.l_starts.now in
    let rows = a.l_rows.now in
    elim c.if-from-end.branch [
      | then-from-end+then-parent-least+then-is_some w ↦
          let u = w.unpassed_in.ensures in
          (omega arith, rw w.least-is (rowing-down starts rows a.n s l.c l.least h l.invariant.1 _ refl w.if-from-end.true w.if-parent-least.true (some-within _ _ _ _ u (sym w.is_some.ensures ∙ w.if-is_some.true))))
      | then-from-end+then-parent-least+else-is_some w ↦
          let u = w.unpassed_in.ensures in
          (omega arith, rw w.least-is (rowing-passed starts rows a.n s l.c l.least h l.invariant.1 _ refl (none-past _ _ _ _ u (sym w.is_some.ensures ∙ w.if-is_some.false))))
      | then-from-end+else-parent-least w ↦ (omega arith, rw w.least-is (rowing-above starts rows a.n s l.c l.least h l.invariant.1 w.if-parent-least.false))
      | else-from-end w ↦ (omega arith, rw w.least-is (rowing-empty starts rows a.n s l.c l.least h l.invariant.1 w.if-from-end.false))
    ]

pub returns : goal.returns
returns c =
    let a = c.args in
    let l = c.loop-c in
    let z : l.c ≡ a.n = omega arith in
    rw c.then_some.ensures (lowest-of (rowing-all a.l_starts.now a.l_rows.now a.n c.requires l.least (rw z at l.invariant.1)))
