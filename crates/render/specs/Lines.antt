-- What the program `fit` prints, from document 01, as lists of ASCII codes. Assumes nothing.
use Rattle.std.specs.Prelude.{ℕ, zero, suc, cond, List, [], ◌∷◌, ◌++◌, length, ◌==◌, slice_index, slice_index_or}
use Rattle.std.specs.Prelude.{Float}
use Rattle.std.specs.Float.{nan}
use Rattle.digits.specs.Digits.{decimal, hex16, bits_of}

-- a line feed
abbrev pub line_feed : List ℕ
line_feed = 10 ∷ []

-- a label and a number
abbrev pub field : (label : List ℕ) → ℕ → List ℕ
field label n = label ++ decimal n

-- the labels: `blocks `, ` scalars `, ` stored `, ` products `, ` silent ` and `refused `
abbrev pub blocks_label : List ℕ
blocks_label = 98 ∷ 108 ∷ 111 ∷ 99 ∷ 107 ∷ 115 ∷ 32 ∷ []

abbrev pub scalars_label : List ℕ
scalars_label = 32 ∷ 115 ∷ 99 ∷ 97 ∷ 108 ∷ 97 ∷ 114 ∷ 115 ∷ 32 ∷ []

abbrev pub stored_label : List ℕ
stored_label = 32 ∷ 115 ∷ 116 ∷ 111 ∷ 114 ∷ 101 ∷ 100 ∷ 32 ∷ []

abbrev pub products_label : List ℕ
products_label = 32 ∷ 112 ∷ 114 ∷ 111 ∷ 100 ∷ 117 ∷ 99 ∷ 116 ∷ 115 ∷ 32 ∷ []

abbrev pub silent_label : List ℕ
silent_label = 32 ∷ 115 ∷ 105 ∷ 108 ∷ 101 ∷ 110 ∷ 116 ∷ 32 ∷ []

abbrev pub refused_label : List ℕ
refused_label = 114 ∷ 101 ∷ 102 ∷ 117 ∷ 115 ∷ 101 ∷ 100 ∷ 32 ∷ []

-- a refusal: `refused` and the number
abbrev pub refused_line : (number : ℕ) → List ℕ
refused_line number = field refused_label number ++ line_feed

-- the first line of an accepted answer
abbrev pub first_line : (blocks scalars stored products silent : ℕ) → List ℕ
first_line blocks scalars stored products silent =
    field blocks_label blocks ++ field scalars_label scalars ++ field stored_label stored ++ field products_label products ++ field silent_label silent ++ line_feed

-- a mark: ` silent` where it is 0, else ` heard`
abbrev pub silent_word : List ℕ
silent_word = 32 ∷ 115 ∷ 105 ∷ 108 ∷ 101 ∷ 110 ∷ 116 ∷ []

abbrev pub heard_word : List ℕ
heard_word = 32 ∷ 104 ∷ 101 ∷ 97 ∷ 114 ∷ 100 ∷ []

abbrev pub mark_word : ℕ → List ℕ
mark_word mark = cond (mark == 0) silent_word heard_word

-- a scalar's line: its number, the bits of its solution, its mark
unfoldable pub scalar_line : (k : ℕ) → Float → (mark : ℕ) → List ℕ
scalar_line k x mark = decimal k ++ (32 ∷ []) ++ hex16 (bits_of x) ++ mark_word mark ++ line_feed

-- the lines of the scalars 0 to n - 1
unfoldable pub lines : (x : List Float) → (marks : List ℕ) → (n : ℕ) → List ℕ
lines x marks zero = []
lines x marks (suc n) = lines x marks n ++ scalar_line n (slice_index_or x n nan) (slice_index marks n)

-- an accepted answer: the first line, then a line for each scalar
abbrev pub answer_text : (blocks stored products silent : ℕ) → (x : List Float) → (marks : List ℕ) → List ℕ
answer_text blocks stored products silent x marks = first_line blocks (length x) stored products silent ++ lines x marks (length x)
