-- What a rendering leaves: as it was where it is refused, else the text in front. Assumes nothing.
use Rattle.std.specs.Prelude.{◌≡◌, ℕ, ◌+◌, ◌<◌, ◌≤◌, true, List, [], ◌∷◌, ◌++◌, length, drop}
use mathlib.Core.Path.{sym, ap, subst, ◌∙◌}
use native.Mathlib.Omega.{arith}
use borrow.Author.Tests.{le-leb, lt-leb, eq-eqb, ne_eqb}
use lib.Ieee.{Float}
use Rattle.refusal.specs.Refusal.{Told, done, accepted, refuses, verdict, first_of, short_buffer, shapes_disagree}
use Rattle.refusal.proofs.Laws.{first-refuses, need-short, need-met}
use Rattle.digits.specs.Digits.{Puts}
use Rattle.render.specs.Rendered.{shape_checks, text_verdict, answer_verdict, Renders}
use Rattle.render.specs.declared.Text.{Text}

module _ (text out : List ℕ) where
  renders-refused : (v t : Told) → t ≡ v → refuses v ≡ true → Renders v text out t out
  renders-refused v t e stops = record { outcome = e ∙ first-refuses v _ stops; buffer = rw stops }

  -- 11
  pub renders-short : (need : ℕ) → need ≡ length text → length out < need → Renders (text_verdict text out) text out (short_buffer 0 need) out
  renders-short need e h =
      let s : text_verdict text out ≡ short_buffer 0 (length text) = need-short 0 (length out) (length text) (omega arith) in
      renders-refused (text_verdict text out) (short_buffer 0 need) (ap (short_buffer 0) e ∙ sym s) (ap refuses s)

  -- the text
  pub renders-text : (w : Text) (out' : List ℕ) → length text ≤ length out → Puts 0 text out w.bytes out' → Renders (text_verdict text out) text out (accepted (w.bytes ∷ []) []) out'
  renders-text w out' h p =
      let m : text_verdict text out ≡ done = need-met 0 (length out) (length text) h in
      let z : 0 + length text ≡ length text = omega arith in
      record {
        outcome = ap (λ (k : ℕ). accepted (k ∷ []) []) (p.next ∙ z) ∙ sym (ap (λ (v : Told). first_of v (accepted (length text ∷ []) [])) m);
        buffer = rw m (p.text' ∙ ap (λ (k : ℕ). text ++ drop k out) z);
      }

  -- ---- an answer

  module _ (x : List Float) (marks : List ℕ) where
    -- 12
    pub renders_many : 65536 < length x → Renders (answer_verdict x marks text out) text out (shapes_disagree 0) out
    renders_many h =
        let v : verdict (shape_checks x marks) ≡ shapes_disagree 0 = rw (lt-leb (length x) 65536 h) in
        let s = ap (λ (t : Told). first_of t (text_verdict text out)) v in
        renders-refused (answer_verdict x marks text out) (shapes_disagree 0) (sym s) (ap refuses s)

    pub renders_unlike : length x ≤ 65536 → (length marks ≡ length x → ⊥) → Renders (answer_verdict x marks text out) text out (shapes_disagree 1) out
    renders_unlike h n =
        let v : verdict (shape_checks x marks) ≡ shapes_disagree 1 = rw (le-leb (length x) 65536 h, ne_eqb (length marks) (length x) n) in
        let s = ap (λ (t : Told). first_of t (text_verdict text out)) v in
        renders-refused (answer_verdict x marks text out) (shapes_disagree 1) (sym s) (ap refuses s)

    -- shapes that agree leave the verdict to the need
    pub shapes_agree : length x ≤ 65536 → length marks ≡ length x → text_verdict text out ≡ answer_verdict x marks text out
    shapes_agree h n =
        let v : verdict (shape_checks x marks) ≡ done = rw (le-leb (length x) 65536 h, eq-eqb (length marks) (length x) n) in
        sym (ap (λ (t : Told). first_of t (text_verdict text out)) v)

-- the buffer as it is once a writer has let it go
pub renders-back : {v : Told} {text out : List ℕ} {t : Told} {left : List ℕ} (back : List ℕ) → back ≡ left → Renders v text out t left → Renders v text out t back
renders-back {v} {text} {out} {t} back e r = subst (λ (o : List ℕ). Renders v text out t o) (sym e) r
