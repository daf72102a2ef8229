-- Which bits are a NaN's, which float is one, and what setting one place leaves. Assumes nothing.
use Rattle.std.specs.Prelude.{List, length, slice_get, slice_set, Some}
use Rattle.std.proofs.lemmas.Option.{slice_get-get_or, get_or_from_slice_get}
use Rattle.std.proofs.lemmas.List.{length-set, get_or-set_same, get_or-set_other}
use native.Mathlib.Omega.{arith}
use mathlib.Core.Path.{◌≡◌, refl, sym, ap, subst, ◌∙◌}
use mathlib.Core.Bool.{Bool, true, not}
use Prim.Native.Nat.{ℕ, ◌%◌, ◌≤◌, ◌<◌}
use lib.Dec.{T, ltb}
use lib.Ieee.{Float, nan, inf, fin, binary64, is_nan, nan_bits, of_bits}
use lib.Ieee.Bits.{nan_bits_is, nan_bits_above}
use borrow.Author.Tests.{lt-ltb, le-ltb}

-- without the sign's bit, a NaN's bits are above the infinity's
above : (n : ℕ) → nan_bits binary64 n ≡ ltb 0x7ff0_0000_0000_0000 (n % 0x8000_0000_0000_0000)
above n = nan_bits_above binary64 n

pub only_nan : (x : Float) → is_nan x ≡ true → x ≡ nan
unfolding is_nan
only_nan nan h = refl
only_nan (inf s) h = cc
only_nan (fin s m e) h = cc

pub nan-bits : (n : ℕ) → 0x7ff0_0000_0000_0000 < n % 0x8000_0000_0000_0000 → nan ≡ of_bits binary64 n
nan-bits n h = sym (only_nan _ (sym (nan_bits_is binary64 n) ∙ above n ∙ lt-ltb _ _ h))

pub no-nan-bits : (n : ℕ) → n % 0x8000_0000_0000_0000 ≤ 0x7ff0_0000_0000_0000 → T (not (nan_bits binary64 n))
no-nan-bits n h = subst (λ (b : Bool). T (not b)) (sym (above n ∙ le-ltb _ _ h)) tt

-- ---- one place of a list is set

module _ {A : Type 0} (xs : List A) (k : ℕ) (x : A) where
  pub set_here : k < length xs → slice_get (slice_set xs k x) k ≡ Some x
  set_here h = slice_get-get_or (slice_set xs k x) k x (omega (arith, length-set xs k x)) ∙ ap Some (get_or-set_same xs k x x h)

  -- another stays
  pub set_there : (j : ℕ) (y : A) → j < k → k < length xs → slice_get xs j ≡ Some y → slice_get (slice_set xs k x) j ≡ Some y
  set_there j y h l e =
      slice_get-get_or (slice_set xs k x) j y (omega (arith, length-set xs k x)) ∙ ap Some (get_or-set_other xs k j x y (omega arith) ∙ get_or_from_slice_get xs j y y e)
