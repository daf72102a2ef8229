-- `digits::cores::spell` meets its contract: what is written with what is left to write is the whole. Assumes nothing.
use Rattle.std.specs.Prelude.{◌≡◌, ℕ, suc, ◌-◌, ◌/◌, List, ◌++◌, length, set}
use mathlib.Core.List.{append-nil}
use mathlib.Core.Path.{ap, ◌∙◌}
use native.Mathlib.Omega.{arith}
use lib.ListN.{length-set}
use lib.Seq.{drop-length}
use Rattle.digits.specs.Digits.{digits}
use Rattle.digits.proofs.Laws.{spelt, spelt-more}
use Rattle.digits.proofs.cores.spell.Goals as goal

pub loop-i-preserved : goal.loop-i-preserved
loop-i-preserved c =
    let l = c.loop-i in
    let x = c.args in
    let j = l.i - 1 in
    let e : suc j ≡ l.i = omega arith in (
      simp length-set l.invariant.0,
      ap (λ (v : ℕ). spelt x.base (set l.out j v) j (l.rest / x.base)) c.digit.ensures
          ∙ spelt-more x.base j l.rest l.out (omega arith)
          ∙ ap (λ (m : ℕ). spelt x.base l.out m l.rest) e
          ∙ l.invariant.1,
    )

pub returns : goal.returns
unfolding digits
returns c =
    let l = c.loop-i in
    let x = c.args in
    let e : 0 ≡ l.i = omega arith in
    ap (λ (m : ℕ). spelt x.base l.out m l.rest) e
    ∙ l.invariant.1
    ∙ ap (λ (r : List ℕ). digits x.base (length x.out.now) x.n ++ r) (drop-length x.out.now)
    ∙ append-nil (digits x.base (length x.out.now) x.n)
