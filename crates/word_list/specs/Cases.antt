-- The cases of a list and their counts. Assumes nothing.
use Rattle.std.specs.Prelude.{ℕ, List, fold, replicate}
use Rattle.word_list.specs.declared.cases.Case.{Case}
use Rattle.word_list.specs.declared.tally.Count.{Count}
use Rattle.word_list.specs.Count.{none}
use Rattle.word_list.specs.Tally.{counted}

-- so many kinds, each with the counts of its cases
abbrev pub tallied : ℕ → List Case → List Count
tallied kinds cases = fold (λ counts case. counted counts case.kind case.count) (replicate kinds none) cases
