-- `column_products::cores::copy` meets its contract: the first t numbers are copied. Assumes nothing.
use Rattle.std.specs.Prelude.{List, [], ◌∷◌, ◌++◌, get_or}
use mathlib.Core.Path.{◌∙◌, ap, sym}
use native.Mathlib.Numerals.{add-one}
use native.Mathlib.Omega.{arith}
use lib.ListN.{length-set}
use lib.Seq.{take_all, take-suc, take-suc-set}
use lib.Ieee.{Float, nan}
use borrow.Author.Rules.{rules}
use Rattle.column_products.proofs.cores.copy.Goals as goal

pub loop-t-preserved : goal.loop-t-preserved
loop-t-preserved c = let x = c.args in let l = c.loop-t in (search rules, search rules, simp length-set l.invariant.2, rw (add-one, take-suc-set l.to l.t (get_or x.from.now l.t nan) (omega arith), take-suc x.from.now l.t nan (omega arith)) (ap (λ (r : List Float). r ++ (get_or x.from.now l.t nan ∷ [])) l.invariant.3))

pub returns : goal.returns
returns c = let x = c.args in let l = c.loop-t in sym (take_all l.t l.to (omega arith)) ∙ l.invariant.3 ∙ take_all l.t x.from.now (omega arith)
