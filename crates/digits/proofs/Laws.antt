-- The laws of texts in a buffer.
--     length_digits                      how many digits there are
--     length-written, puts_then          how long the buffer is; two texts, one behind the other, are one
--     spelt-more                         one digit more, from the last to the first
-- Assumes nothing.
use Rattle.std.specs.Prelude.{◌≡◌, ℕ, zero, suc, ◌+◌, ◌/◌, ◌%◌, ◌<◌, ◌≤◌, List, [], ◌∷◌, ◌++◌, length, take, drop, set}
use mathlib.Core.List.{append_assoc, append-nil}
use mathlib.Core.Path.{refl, sym, ap, ap₂, ◌∙◌}
use native.Mathlib.Omega.{arith}
use lib.ListN.{length-append, length-drop, take-append-drop}
use lib.Seq.{drop-cons, drop-append-add, take_at, drop-set-lt, get_or-set_same, length-take-le, append_snoc, drop-drop, lt-length-set}
use Rattle.digits.specs.Digits.{digit, digits, written, Puts}

pub length_digits : (base k n : ℕ) → length (digits base k n) ≡ k
unfolding digits
length_digits base zero n = refl
length_digits base (suc k) n = length-append (digits base k (n / base)) (digit (n % base) ∷ []) ∙ omega (arith, length_digits base k (n / base))

-- ---- two texts

module _ (at : ℕ) (out : List ℕ) where
  -- the text stands in front of what is behind it
  front : (text : List ℕ) → at + length text ≤ length out → length (take at out ++ text) ≡ at + length text
  front text h = length-append (take at out) text ∙ omega (arith, length-take-le at out (omega arith))

  pub length-written : (text : List ℕ) → at + length text ≤ length out → length (written at text out) ≡ length out
  length-written text h = length-append (take at out ++ text) (drop (at + length text) out) ∙ omega (arith, front text h, length-drop (at + length text) out)

  -- no text leaves all as it was
  pub written_none : written at [] out ≡ out
  written_none =
      let e : at + 0 ≡ at = omega arith in
      ap₂ (λ (x : List ℕ) (k : ℕ). x ++ drop k out) (append-nil (take at out)) e ∙ take-append-drop at out

  -- a second text behind the first
  written_then : (text more : List ℕ) → at + length text + length more ≤ length out → written (at + length text) more (written at text out) ≡ written at (text ++ more) out
  written_then text more h =
      let f = front text (omega arith) in
      let e : at + length text + length more ≡ at + length (text ++ more) = omega (arith, length-append text more) in
      let t : take (at + length text) (written at text out) ≡ take at out ++ text = take_at (take at out ++ text) (drop (at + length text) out) (at + length text) f in
      let d : drop (at + length text + length more) (written at text out) ≡ drop (at + length (text ++ more)) out =
      ap (λ (k : ℕ). drop (k + length more) (written at text out)) (sym f) ∙ drop-append-add (take at out ++ text) (drop (at + length text) out) (length more) ∙ drop-drop (length more) (at + length text) out ∙ ap (λ (k : ℕ). drop k out) e in
      ap₂ (λ (a b : List ℕ). a ++ more ++ b) t d ∙ ap (λ (l : List ℕ). l ++ drop (at + length (text ++ more)) out) (append_assoc (take at out) text more)

pub puts_then : {at r r' : ℕ} {text more out out' out'' : List ℕ} → Puts at text out r out' → Puts r more out' r' out'' → at + length text + length more ≤ length out → Puts at (text ++ more) out r' out''
puts_then {at} {r} {r'} {text} {more} {out} {out'} {out''} p q h =
    record {
      next = q.next ∙ omega (arith, p.next, length-append text more);
      text' = q.text' ∙ ap₂ (λ (a : ℕ) (l : List ℕ). written a more l) p.next p.text' ∙ written_then at out text more h;
    }

-- ---- digits, from the last to the first

-- what is written, and what is left of the number, is the whole
abbrev pub spelt : (base : ℕ) → List ℕ → (i rest : ℕ) → List ℕ
spelt base out i rest = digits base i rest ++ drop i out

pub spelt-more : (base i rest : ℕ) (out : List ℕ) → i < length out → spelt base (set out i (digit (rest % base))) i (rest / base) ≡ spelt base out (suc i) rest
unfolding digits
spelt-more base i rest out h =
    let v = digit (rest % base) in
    ap (λ (y : List ℕ). digits base i (rest / base) ++ y)
    (drop-cons (set out i v) i 0 (lt-length-set out i v h)
    ∙ ap₂ (λ (x : ℕ) (l : List ℕ). x ∷ l) (get_or-set_same out i v 0 h) (drop-set-lt (suc i) out i v (omega arith)))
    ∙ sym (append_snoc (digits base i (rest / base)) v (drop (suc i) out))
