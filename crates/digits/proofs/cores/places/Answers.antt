-- `digits::cores::places` meets its contract: a search over the powers of ten. Assumes nothing.
use Rattle.std.specs.Prelude.{◌≡◌, ◌*◌, ◌^◌, ◌<◌, ◌≤◌, true, false}
use mathlib.Core.Path.{refl, sym, ◌∙◌}
use native.Mathlib.Nat.{div-lt_iff_lt-mul, le-div_iff_mul-le, pow-suc}
use native.Mathlib.Numerals.{add-one}
use native.Mathlib.Omega.{arith}
use borrow.Author.Tests.{le-leb, lt-leb}
use Rattle.tables.proofs.SearchLaws.{passed, failed, ended}
use Rattle.digits.specs.Digits.{places}
use Rattle.digits.proofs.cores.places.Goals as goal

pub returns-then-n-unit-lt10 : goal.returns-then-n-unit-lt10
unfolding places
returns-then-n-unit-lt10 c =
    let l = c.loop-k in
    let b : c.args.n < 10 * l.unit = (div-lt_iff_lt-mul l.invariant.2).0 c.if-n-unit-lt10.true in
    (failed l.invariant.0 {r = false} c.loop-k-test.true (sym (lt-leb (10 ^ l.k) c.args.n (omega (arith, l.invariant.1)))) refl, omega arith)

-- a power of ten that n reaches
reached : (c : goal.Else-n-unit-lt10) → 10 * c.loop-k.unit ≤ c.args.n
reached c = (le-div_iff_mul-le c.loop-k.invariant.2).0 c.if-n-unit-lt10.false

pub loop-k-preserved : goal.loop-k-preserved
loop-k-preserved c =
    let l = c.loop-k in (
      passed l.invariant.0 {r = true} c.loop-k-test.true (sym (le-leb (10 ^ l.k) c.args.n (omega (arith, l.invariant.1, reached c)))) refl,
      rw add-one (omega (arith, l.invariant.1, pow-suc 10 l.k)),
      omega arith,
    )

pub returns : goal.returns
unfolding places
returns c = let e : 20 ≡ c.loop-k.k = omega arith in (e ∙ ended c.loop-k.invariant.0 (omega arith), omega arith)
