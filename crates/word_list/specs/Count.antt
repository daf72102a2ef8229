-- So many cases, of which so many come out as listed. Assumes nothing.
use Rattle.std.specs.Prelude.{ℕ, ◌+◌, min}
use Rattle.word_list.specs.declared.tally.Count.{Count}

-- the number, or the greatest of 64 bits
abbrev pub capped : ℕ → ℕ
capped n = min n 18446744073709551615

abbrev pub none : Count
none = record { cases = 0; right = 0 }

abbrev pub more : Count → Count → Count
more a b = record { cases = capped (a.cases + b.cases); right = capped (a.right + b.right) }
