-- The laws of lines that are written piece by piece. Assumes nothing.
use Rattle.std.specs.Prelude.{◌≡◌, ℕ, zero, suc, ◌+◌, ◌-◌, ◌≤◌, List, [], ◌∷◌, ◌++◌, length, get_or}
use mathlib.Core.Path.{refl, sym, ap, ◌∙◌}
use native.Mathlib.Numerals.{add-one}
use native.Mathlib.Omega.{arith}
use borrow.Author.Tests.{eq-eqb, ne_eqb}
use lib.Ieee.{Float, nan}
use lib.ListN.{length-append}
use Rattle.digits.specs.Digits.{places, decimal, hex16, bits_of, Puts}
use Rattle.digits.proofs.Laws.{length_digits, length-written, written_none, puts_then}
use Rattle.render.specs.Lines.{field, blocks_label, scalars_label, stored_label, products_label, silent_label, refused_label, line_feed, mark_word, refused_line, first_line, scalar_line, lines}

module _ (at room : ℕ) (text more : List ℕ) (h : at + length (text ++ more) ≤ room) where
  -- where two pieces have the room, the first has
  fits-front : at + length text ≤ room
  fits-front = omega (arith, length-append text more)

  -- and the second behind it
  pub fits_next : at + length text + length more ≤ room
  fits_next = omega (arith, length-append text more)

-- behind a first piece that is written, the second has the room
pub puts-room : {at r : ℕ} {text out out' : List ℕ} (more : List ℕ) → Puts at text out r out' → at + length text + length more ≤ length out → r + length more ≤ length out'
puts-room {at} {r} {text} {out} {out'} more p h = omega (arith, p.next, ap length p.text', length-written at out text (omega arith))

-- and is written there
pub puts-next : {at r r' : ℕ} {text out out' out'' : List ℕ} (more : List ℕ) → Puts at text out r out' → Puts r more out' r' out'' → at + length (text ++ more) ≤ length out → Puts at (text ++ more) out r' out''
puts-next {text = text} more p q h = puts_then p q (fits_next _ _ text more h)

-- no piece is written anywhere
pub puts-nothing : (at : ℕ) (out : List ℕ) → Puts at [] out at out
puts-nothing at out = record { next = omega arith; text' = sym (written_none at out) }

-- ---- a line of six pieces: the room for each where those before it are written, and the whole

module _ (at : ℕ) (out : List ℕ) (a b c d e f : List ℕ) (h : at + length (a ++ b ++ c ++ d ++ e ++ f) ≤ length out) where
  fits5 : at + length (a ++ b ++ c ++ d ++ e) ≤ length out
  fits5 = fits-front _ _ (a ++ b ++ c ++ d ++ e) f h

  fits4 : at + length (a ++ b ++ c ++ d) ≤ length out
  fits4 = fits-front _ _ (a ++ b ++ c ++ d) e fits5

  fits3 : at + length (a ++ b ++ c) ≤ length out
  fits3 = fits-front _ _ (a ++ b ++ c) d fits4

  fits2 : at + length (a ++ b) ≤ length out
  fits2 = fits-front _ _ (a ++ b) c fits3

  module _ {r1 : ℕ} {out1 : List ℕ} (p1 : Puts at a out r1 out1) where
    pub room-2 : r1 + length b ≤ length out1
    room-2 = puts-room b p1 (fits_next _ _ a b fits2)

    module _ {r2 : ℕ} {out2 : List ℕ} (p2 : Puts r1 b out1 r2 out2) where
      two : Puts at (a ++ b) out r2 out2
      two = puts-next b p1 p2 fits2

      pub room-3 : r2 + length c ≤ length out2
      room-3 = puts-room c two (fits_next _ _ (a ++ b) c fits3)

      module _ {r3 : ℕ} {out3 : List ℕ} (p3 : Puts r2 c out2 r3 out3) where
        three : Puts at (a ++ b ++ c) out r3 out3
        three = puts-next c two p3 fits3

        pub room-4 : r3 + length d ≤ length out3
        room-4 = puts-room d three (fits_next _ _ (a ++ b ++ c) d fits4)

        module _ {r4 : ℕ} {out4 : List ℕ} (p4 : Puts r3 d out3 r4 out4) where
          four : Puts at (a ++ b ++ c ++ d) out r4 out4
          four = puts-next d three p4 fits4

          pub room-5 : r4 + length e ≤ length out4
          room-5 = puts-room e four (fits_next _ _ (a ++ b ++ c ++ d) e fits5)

          module _ {r5 : ℕ} {out5 : List ℕ} (p5 : Puts r4 e out4 r5 out5) where
            five : Puts at (a ++ b ++ c ++ d ++ e) out r5 out5
            five = puts-next e four p5 fits5

            pub room-6 : r5 + length f ≤ length out5
            room-6 = puts-room f five (fits_next _ _ (a ++ b ++ c ++ d ++ e) f h)

            pub whole-line : {r6 : ℕ} {out6 : List ℕ} (p6 : Puts r5 f out5 r6 out6) → Puts at (a ++ b ++ c ++ d ++ e ++ f) out r6 out6
            whole-line p6 = puts-next f five p6 h

-- ---- how long the lines are

length-decimal : (n : ℕ) → length (decimal n) ≡ places n
length-decimal n = length_digits 10 (places n) n

length-field : (label : List ℕ) (n : ℕ) → length (field label n) ≡ length label + places n
length-field label n = length-append label (decimal n) ∙ omega (arith, length-decimal n)

pub length-refused : (number : ℕ) → length (refused_line number) ≡ places number + 9
length-refused number = length-append (field refused_label number) line_feed ∙ omega (arith, length-field refused_label number)

length-six : (a b c d e f : List ℕ) → length (a ++ b ++ c ++ d ++ e ++ f) ≡ length a + length b + length c + length d + length e + length f
length-six a b c d e f =
    omega (arith, length-append (a ++ b ++ c ++ d ++ e) f, length-append (a ++ b ++ c ++ d) e, length-append (a ++ b ++ c) d, length-append (a ++ b) c, length-append a b)

pub length-first : (blocks scalars stored products silent : ℕ) → length (first_line blocks scalars stored products silent) ≡ places blocks + places scalars + places stored + places products + places silent + 43
length-first blocks scalars stored products silent =
    length-six (field blocks_label blocks) (field scalars_label scalars) (field stored_label stored) (field products_label products) (field silent_label silent) line_feed
    ∙ omega (arith, length-field blocks_label blocks, length-field scalars_label scalars, length-field stored_label stored, length-field products_label products, length-field silent_label silent)

length-five : (a b c d e : List ℕ) → length (a ++ b ++ c ++ d ++ e) ≡ length a + length b + length c + length d + length e
length-five a b c d e = omega (arith, length-append (a ++ b ++ c ++ d) e, length-append (a ++ b ++ c) d, length-append (a ++ b) c, length-append a b)

length-line : (k : ℕ) (x : Float) (mark : ℕ) → length (scalar_line k x mark) ≡ places k + 18 + length (mark_word mark)
unfolding scalar_line
length-line k x mark =
    length-five (decimal k) (32 ∷ []) (hex16 (bits_of x)) (mark_word mark) line_feed ∙ omega (arith, length-decimal k, length_digits 16 16 (bits_of x))

pub length-silent : (k : ℕ) (x : Float) (mark : ℕ) → mark ≡ 0 → length (scalar_line k x mark) ≡ places k + 25
length-silent k x mark h = let w : length (mark_word mark) ≡ 7 = rw (eq-eqb mark 0 h) in omega (arith, length-line k x mark)

pub length-heard : (k : ℕ) (x : Float) (mark : ℕ) → (mark ≡ 0 → ⊥) → length (scalar_line k x mark) ≡ places k + 24
length-heard k x mark h = let w : length (mark_word mark) ≡ 6 = rw (ne_eqb mark 0 h) in omega (arith, length-line k x mark)

-- ---- the lines of all scalars

module _ (x : List Float) (marks : List ℕ) where
  pub lines_none : length (lines x marks 0) ≡ 0
  unfolding lines
  lines_none = refl

  -- before the first line
  pub puts_none : (at : ℕ) (out : List ℕ) → Puts at (lines x marks 0) out at out
  unfolding lines
  puts_none at out = puts-nothing at out

  -- one more
  pub lines_next : (k : ℕ) → lines x marks (k + 1) ≡ lines x marks k ++ scalar_line k (get_or x k nan) (get_or marks k 0)
  unfolding lines
  lines_next k = rw add-one

  lines-by : (d k n : ℕ) → k + d ≡ n → length (lines x marks k) ≤ length (lines x marks n)
  lines-by zero k n e = let z : k ≡ n = omega arith in rw z (omega arith)
  lines-by (suc d) k n e = omega (arith, ap length (lines_next k), length-append (lines x marks k) (scalar_line k (get_or x k nan) (get_or marks k 0)), lines-by d (k + 1) n (omega arith))

  pub lines-le : (k n : ℕ) → k ≤ n → length (lines x marks k) ≤ length (lines x marks n)
  lines-le k n h = lines-by (n - k) k n (omega arith)
