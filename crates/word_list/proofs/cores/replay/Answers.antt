-- `word_list::cores::replay` meets its contract: the counts are those of the cases told so far, and each call tells one more. Assumes nothing.
use Rattle.std.proofs.Common.{◌≡◌, ℕ, List, rules, of_calls, refl, sym, ◌∙◌, [], ◌∷◌, ◌++◌, arith, length-append}
use Rattle.std.proofs.lemmas.Fn.{FoldsTo-push}
use Rattle.std.proofs.lemmas.List.Sums.{fold-append}
use Rattle.word_list.specs.declared.cases.Case.{Case}
use Rattle.word_list.specs.declared.tally.Count.{Count}
use Rattle.word_list.specs.Tally.{counted}
use Rattle.word_list.specs.Cases.{tallied}
use Rattle.word_list.proofs.cores.replay.Goals as goal
use Rattle.word_list.proofs.cores.replay.Goals.{then-case, else-case}

-- a case more is counted at its kind
one-more : (kinds : ℕ) (counts : List Count) (cases : List Case) (case : Case) → counts ≡ tallied kinds cases → counted counts case.kind case.count ≡ tallied kinds (cases ++ (case ∷ []))
one-more kinds counts cases case e = rw e (sym (fold-append _ _ cases (case ∷ [])))

pub loop-k-init : goal.loop-k-init
loop-k-init g c = record { next = search rules; wrong = search rules; counts = ([], refl, c.new-tally.ensures, refl) }

pub loop-k-preserved : goal.loop-k-preserved
loop-k-preserved g c =
    let told = c.loop-k.invariant.counts in
    let case = c.in-Ok-Some.case in
    record {
      next = search (rules, of_calls);
      wrong = elim c.if-case.branch [ then-case w ↦ search (rules, of_calls) | else-case w ↦ search rules ];
      counts = (told.0 ++ (case ∷ []), FoldsTo-push _ _ _ _ case _ told.1 (search rules), c.add.ensures ∙ one-more _ _ told.0 case told.2, omega (arith, length-append told.0 (case ∷ []), told.3));
    }
