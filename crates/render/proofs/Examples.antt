-- What document 01 has `fit` print for the sheet of two blocks, byte for byte, and a refusal's line. By computation. Assumes nothing.
use Rattle.std.specs.Prelude.{◌≡◌, ℕ, List, [], ◌∷◌, ◌++◌}
use mathlib.Core.Path.{refl}
use lib.Ieee.{binary64, nan, of_bits, to_bits, is_nan}
use Rattle.tables.specs.Search.{first_from, first}
use Rattle.digits.specs.Digits.{digits, places, bits_of}
use Rattle.render.specs.Lines.{scalar_line, lines, answer_text, refused_line}

-- `blocks 2 scalars 2 stored 1 products 1 silent 0`
abbrev pub line0 : List ℕ
line0 = 98 ∷ 108 ∷ 111 ∷ 99 ∷ 107 ∷ 115 ∷ 32 ∷ 50 ∷ 32 ∷ 115 ∷ 99 ∷ 97 ∷ 108 ∷ 97 ∷ 114 ∷ 115 ∷ 32 ∷ 50 ∷ 32 ∷ 115 ∷ 116 ∷ 111 ∷ 114 ∷ 101 ∷ 100 ∷ 32 ∷ 49 ∷ 32 ∷ 112 ∷ 114 ∷ 111 ∷ 100 ∷ 117 ∷ 99 ∷ 116 ∷ 115 ∷ 32 ∷ 49 ∷ 32 ∷ 115 ∷ 105 ∷ 108 ∷ 101 ∷ 110 ∷ 116 ∷ 32 ∷ 48 ∷ 10 ∷ []

-- `0 3FF8000000000000 heard`
abbrev pub line1 : List ℕ
line1 = 48 ∷ 32 ∷ 51 ∷ 70 ∷ 70 ∷ 56 ∷ 48 ∷ 48 ∷ 48 ∷ 48 ∷ 48 ∷ 48 ∷ 48 ∷ 48 ∷ 48 ∷ 48 ∷ 48 ∷ 48 ∷ 32 ∷ 104 ∷ 101 ∷ 97 ∷ 114 ∷ 100 ∷ 10 ∷ []

-- `1 3FF0000000000000 heard`
abbrev pub line2 : List ℕ
line2 = 49 ∷ 32 ∷ 51 ∷ 70 ∷ 70 ∷ 48 ∷ 48 ∷ 48 ∷ 48 ∷ 48 ∷ 48 ∷ 48 ∷ 48 ∷ 48 ∷ 48 ∷ 48 ∷ 48 ∷ 48 ∷ 32 ∷ 104 ∷ 101 ∷ 97 ∷ 114 ∷ 100 ∷ 10 ∷ []

-- two blocks, one stored in L, one product, none silent; the solution is 1.5 and 1.0, both heard
pub two_blocks : answer_text 2 1 1 0 (of_bits binary64 0x3ff8_0000_0000_0000 ∷ of_bits binary64 0x3ff0_0000_0000_0000 ∷ []) (1 ∷ 1 ∷ []) ≡ line0 ++ line1 ++ line2
unfolding first_from first digits places bits_of scalar_line lines of_bits to_bits is_nan
two_blocks = refl

-- `0 7FF8000000000000 silent`
pub a-nan : scalar_line 0 nan 0 ≡ 48 ∷ 32 ∷ 55 ∷ 70 ∷ 70 ∷ 56 ∷ 48 ∷ 48 ∷ 48 ∷ 48 ∷ 48 ∷ 48 ∷ 48 ∷ 48 ∷ 48 ∷ 48 ∷ 48 ∷ 48 ∷ 32 ∷ 115 ∷ 105 ∷ 108 ∷ 101 ∷ 110 ∷ 116 ∷ 10 ∷ []
unfolding first_from first digits places bits_of scalar_line is_nan
a-nan = refl

-- `refused 13`
pub a-refusal : refused_line 13 ≡ 114 ∷ 101 ∷ 102 ∷ 117 ∷ 115 ∷ 101 ∷ 100 ∷ 32 ∷ 49 ∷ 51 ∷ 10 ∷ []
unfolding first_from first digits places
a-refusal = refl
