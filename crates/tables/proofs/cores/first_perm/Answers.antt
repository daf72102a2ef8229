-- `tables::cores::first_perm` meets its contract: the test has held at each place so far, and each entry passed has its mark. Assumes nothing.
use Rattle.std.specs.Prelude.{◌≡◌, true}
use Prim.Native.Nat.{zero-le}
use native.Mathlib.Omega.{arith}
use borrow.Author.Count.{below_more}
use mathlib.Core.Path.{sym, ◌∙◌}
use Rattle.tables.specs.Verdict.{perm_ok}
use Rattle.tables.proofs.FaultLaws.{fault-here, fault-none}
use Rattle.tables.proofs.MarkLaws.{marked-none, marked_more, perm-parts}
use Rattle.tables.proofs.cores.first_perm.Goals as goal

pub loop-i-init : goal.loop-i-init
loop-i-init c = record { passed = λ k h. absurd (omega arith); marked = marked-none c.args.perm.now }

pub returns-then-not-perm_ok : goal.returns-then-not-perm_ok
returns-then-not-perm_ok c =
    fault-here _ 0 _ _ zero-le (omega arith) (λ k _ h. c.loop-i.invariant.passed k h) (sym c.perm_ok.ensures ∙ c.if-not-perm_ok.true)

pub bounds-perm-i : goal.bounds-perm-i
bounds-perm-i c = (perm-parts c.args.perm.now c.args.n c.loop-i.i c.loop-i-test.true (sym c.perm_ok.ensures ∙ c.if-not-perm_ok.false)).0

pub bounds-seen-v : goal.bounds-seen-v
bounds-seen-v c =
    let p = perm-parts c.args.perm.now c.args.n c.loop-i.i c.loop-i-test.true (sym c.perm_ok.ensures ∙ c.if-not-perm_ok.false) in
    omega (arith, p.1)

pub loop-i-preserved : goal.loop-i-preserved
loop-i-preserved c =
    let h = c.loop-i in
    let passes : perm_ok c.args.perm.now c.args.n h.i ≡ true = sym c.perm_ok.ensures ∙ c.if-not-perm_ok.false in
    let p = perm-parts c.args.perm.now c.args.n h.i c.loop-i-test.true passes in
    record {
      passed = below_more (λ k. perm_ok c.args.perm.now c.args.n k ≡ true) h.i h.invariant.passed passes;
      marked = marked_more h.seen c.args.perm.now h.i h.invariant.marked p.0 (omega (arith, p.1));
    }

pub returns-then-perm_ok : goal.returns-then-perm_ok
returns-then-perm_ok c =
    let h = c.loop-i in
    fault-none _ 0 _ (λ k _ l. below_more (λ k. perm_ok c.args.perm.now c.args.n k ≡ true) c.args.n (λ k b. h.invariant.passed k (omega arith)) (sym c.perm_ok-2.ensures ∙ c.if-perm_ok.true) k l)

pub returns : goal.returns
returns c =
    fault-here _ 0 _ _ zero-le (omega arith) (λ k _ h. c.loop-i.invariant.passed k (omega arith)) (sym c.perm_ok-2.ensures ∙ c.if-perm_ok.false)
