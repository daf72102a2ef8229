-- `render::cores::scalar_line` meets its contract: five pieces, one behind the other. Assumes nothing.
use Rattle.std.specs.Prelude.{ℕ, ◌≡◌, List, [], ◌∷◌}
use mathlib.Core.Path.{subst}
use native.Mathlib.Omega.{arith}
use borrow.Author.Rules.{rules}
use lib.Ieee.{Float}
use Rattle.digits.specs.Digits.{decimal, hex16, bits_of, Puts}
use Rattle.digits.proofs.Laws.{length_digits}
use Rattle.render.specs.Lines.{mark_word, line_feed, scalar_line}
use Rattle.render.proofs.Laws.{puts-nothing, room-2, room-3, room-4, room-5, room-6, whole-line}
use Rattle.render.proofs.cores.scalar_line.Goals as goal

-- the digits are those of the solution's bits
bits_put : (x : Float) (bits : ℕ) {at r : ℕ} {out out' : List ℕ} → bits ≡ bits_of x → Puts at (hex16 bits) out r out' → Puts at (hex16 (bits_of x)) out r out'
bits_put x bits {at} {r} {out} {out'} e p = subst (λ (b : ℕ). Puts at (hex16 b) out r out') e p

pub decimal-requires : goal.decimal-requires
unfolding scalar_line
decimal-requires c =
    let x = c.args in
    room-2 _ _ [] (decimal x.k) (32 ∷ []) (hex16 (bits_of x.x)) (mark_word x.mark) line_feed c.requires (puts-nothing _ _)

pub text-requires : goal.text-requires
unfolding scalar_line
text-requires c =
    let x = c.args in
    room-3 _ _ [] (decimal x.k) (32 ∷ []) (hex16 (bits_of x.x)) (mark_word x.mark) line_feed c.requires (puts-nothing _ _) c.decimal.ensures.puts

pub hex-requires : goal.hex-requires
unfolding scalar_line
hex-requires c =
    let x = c.args in
    omega (arith, room-4 _ _ [] (decimal x.k) (32 ∷ []) (hex16 (bits_of x.x)) (mark_word x.mark) line_feed c.requires (puts-nothing _ _) c.decimal.ensures.puts c.text.ensures.puts, length_digits 16 16 (bits_of x.x))

pub mark_word-requires : goal.mark_word-requires
unfolding scalar_line
mark_word-requires c =
    let x = c.args in
    room-5 _ _ [] (decimal x.k) (32 ∷ []) (hex16 (bits_of x.x)) (mark_word x.mark) line_feed c.requires (puts-nothing _ _) c.decimal.ensures.puts c.text.ensures.puts (bits_put x.x _ c.bits_of.ensures c.hex.ensures.puts)

pub text-requires-2 : goal.text-requires-2
unfolding scalar_line
text-requires-2 c =
    let x = c.args in
    room-6 _ _ [] (decimal x.k) (32 ∷ []) (hex16 (bits_of x.x)) (mark_word x.mark) line_feed c.requires (puts-nothing _ _) c.decimal.ensures.puts c.text.ensures.puts (bits_put x.x _ c.bits_of.ensures c.hex.ensures.puts) c.mark_word.ensures.puts

pub returns : goal.returns
unfolding scalar_line
returns c =
    let x = c.args in
    record { puts = whole-line _ _ [] (decimal x.k) (32 ∷ []) (hex16 (bits_of x.x)) (mark_word x.mark) line_feed c.requires (puts-nothing _ _) c.decimal.ensures.puts c.text.ensures.puts (bits_put x.x _ c.bits_of.ensures c.hex.ensures.puts) c.mark_word.ensures.puts c.text-2.ensures.puts; same = search rules }
