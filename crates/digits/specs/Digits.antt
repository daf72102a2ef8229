-- Numbers as text, a list of ASCII codes. Assumes nothing.
use Rattle.std.specs.Prelude.{◌≡◌, ℕ, zero, suc, ◌+◌, ◌/◌, ◌%◌, ◌^◌, cond, List, [], ◌∷◌, ◌++◌, length, take, drop, is_nan, nat_le, nat_lt, to_bits}
use Rattle.std.specs.Prelude.{Float}
use Rattle.std.specs.Float.{binary64}
use Rattle.tables.specs.Search.{first}
use Rattle.digits.specs.declared.cores.Writer.{Writer}

-- a digit below 16: 0 to 9, then A to F
abbrev pub digit : ℕ → ℕ
digit d = cond (nat_lt d 10) (48 + d) (55 + d)

-- the last k digits of n in a base, the most significant first
unfoldable pub digits : (base k n : ℕ) → List ℕ
digits base zero n = []
digits base (suc k) n = digits base k (n / base) ++ (digit (n % base) ∷ [])

-- how many decimal digits n has: the least k from 1 on with n below the k-th power of ten; a u64 has at most 20
unfoldable pub places : ℕ → ℕ
places n = first (λ k. nat_le (10 ^ k) n) 1 20

-- n in decimal, with no leading zeros
abbrev pub decimal : ℕ → List ℕ
decimal n = digits 10 (places n) n

-- sixteen hexadecimal digits
abbrev pub hex16 : ℕ → List ℕ
hex16 bits = digits 16 16 bits

-- the bits of a float; every NaN's are 7FF8000000000000
unfoldable pub bits_of : Float → ℕ
bits_of x = cond (is_nan x) 0x7ff8_0000_0000_0000 (to_bits binary64 x)

-- ---- in a buffer

-- the buffer with a text at a place, all else as it was
abbrev pub written : (at : ℕ) → (text out : List ℕ) → List ℕ
written at text out = take at out ++ text ++ drop (at + length text) out

-- the text is written, and the answer is the place behind it
pub record Puts (at : ℕ) (text out : List ℕ) (r : ℕ) (out' : List ℕ) : Type 0 where
  pub next : r ≡ at + length text
  pub text' : out' ≡ written at text out

-- the same in a writer, whose buffer is still the one that was lent
pub record Writes (text : List ℕ) (w w' : Writer) : Type 0 where
  pub puts : Puts w.at text w.out.now w'.at w'.out.now
  pub same : w'.out.ghost_name ≡ w.out.ghost_name
