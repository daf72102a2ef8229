-- What the machine is fed with, as tables have it.
--     inverse-is     a table that is the inverse of the order is the one that the definition gives
-- Assumes nothing.
use Prim.Native.Nat.{ℕ, ◌+◌, ◌<◌}
use mathlib.Core.Bool.{not}
use mathlib.Core.List.{List, map}
use mathlib.Core.Path.{◌≡◌, sym, ap, ◌∙◌}
use native.Mathlib.Omega.{arith}
use borrow.Author.Tests.{eq-eqb, ne_eqb}
use lib.Dec.{eqb}
use lib.ListN.{length, length-map, get_or-map}
use lib.Seq.{ext_get_or}
use Rattle.graph.specs.Sets.{from}
use Rattle.buckets.proofs.Lists.{get_or_any}
use Rattle.tables.specs.Search.{first}
use Rattle.tables.specs.Verdict.{at}
use Rattle.tables.proofs.SearchLaws.{first-at}
use Rattle.order.specs.Order.{Inverse}
use Rattle.order.proofs.Laws.{length_from, get_or-from}
use Rattle.machine.specs.System.{inverse_of}

module _ (n : ℕ) (order inv : List ℕ) (ip : Inverse n order inv) where
  -- the place of an old number is found where the inverse says
  place_is : (o : ℕ) → o < n → first (λ k. not (eqb (at order k) o)) 0 n ≡ at inv o
  place_is o h =
      let b = ip.back o h in
      first-at (λ k. not (eqb (at order k) o)) 0 (at inv o) n (omega arith) b.0
      (λ q z l. ap not (ne_eqb (at order q) o (λ e. let t = (ip.there q (omega (arith, b.0))).1 in let x : at inv o ≡ q = ap (at inv) (sym e) ∙ t in omega arith)))
      (ap not (eq-eqb (at order (at inv o)) o b.1))

  pub inverse-is : inv ≡ inverse_of n order
  unfolding inverse_of
  inverse-is =
      let f : ℕ → ℕ = λ o. first (λ k. not (eqb (at order k) o)) 0 n in
      let l : length (map {A = ℕ} {B = ℕ} f (from 0 n)) ≡ n = length-map {A = ℕ} {B = ℕ} (from 0 n) f ∙ length_from 0 n in
      let c = ip.count in
      ext_get_or 0 inv (map {A = ℕ} {B = ℕ} f (from 0 n)) (c ∙ sym l)
      (λ o h.
      let h' : o < n = omega (arith, c) in
      let z : 0 + o ≡ o = omega arith in
      sym (get_or_any (map {A = ℕ} {B = ℕ} f (from 0 n)) o 0 (f 0) (omega (arith, l)) ∙ get_or-map {A = ℕ} {B = ℕ} f (from 0 n) o 0 ∙ ap f (get_or-from 0 n o h' ∙ z) ∙ place_is o h'))
