-- When two floats are the same. Assumes nothing.
use mathlib.Core.Path.{◌≡◌, sym, subst, ◌∙◌, ap}
use mathlib.Core.Bool.{true, false}
use Prim.Native.Nat.{ℕ}
use lib.Dec.{T, eqb}
use lib.Ieee.{Float, binary64, fits, is_nan, of_bits, to_bits}
use lib.Ieee.Bits.{of_bits-to_bits}
use native.Mathlib.Omega.{arith}
use borrow.Author.Tests.{eq-eqb, eqb-true}
use Rattle.bits.proofs.Laws.{only_nan}
use Rattle.replay.specs.Words.{Same}

pub never : {A : Type 0} → false ≡ true → A
never h = let z : ◌≡◌ {A = ℕ} 0 1 = cc in absurd (omega arith)

pub same-nan : (a b : Float) → is_nan a ≡ true → Same a b (is_nan b)
same-nan a b h = record { only = λ k. only_nan a h ∙ sym (only_nan b k); also = λ e. subst (λ (x : Float). is_nan x ≡ true) e h }

pub one-nan : (a b : Float) → is_nan a ≡ false → is_nan b ≡ true → Same a b false
one-nan a b h k = record { only = λ z. never z; also = λ e. sym (subst (λ (x : Float). is_nan x ≡ false) e h) ∙ k }

pub same_bits : (a b : Float) → T (fits binary64 a) → T (fits binary64 b) → Same a b (eqb (to_bits binary64 a) (to_bits binary64 b))
same_bits a b f g =
    record {
      only = λ h. sym (of_bits-to_bits binary64 a f) ∙ ap (of_bits binary64) (eqb-true _ _ h) ∙ of_bits-to_bits binary64 b g;
      also = λ e. eq-eqb _ _ (ap (to_bits binary64) e);
    }
