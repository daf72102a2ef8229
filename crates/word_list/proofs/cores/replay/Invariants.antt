-- The loop of `word_list::cores::replay`: so many cases are told so far as turns were taken, and the counts are theirs. Assumes nothing.
use Rattle.std.proofs.Common.{◌≡◌, List, length, Ok, Some}
use Rattle.std.specs.List.{FoldsTo}
use Rattle.word_list.specs.declared.cases.Case.{Case}
use Rattle.word_list.specs.Cases.{tallied}
use Rattle.word_list.proofs.cores.replay.Given as goal

abbrev pub invariant-loop-k : goal.invariant-loop-k
invariant-loop-k g l =
    record {
      next : goal.C-IsAlwaysCallable g l.next;
      wrong : goal.W-IsAlwaysCallable g l.wrong;
      counts : (cases : List Case) × FoldsTo (λ p x q. goal.C-step g p (Ok (Some x)) q) l.fn.next cases l.next × (l.tally.counts ≡ tallied g.row.N cases) × (length cases ≡ l.k);
    }
