-- What every walk over a `BlockView` by value needs of it: it is Copy and owns what its slice owns, and its machine value has its MIR type. Assumes nothing.
use Rattle.std.specs.Prelude.{◌≡◌, T as Holds, [], ◌∷◌, length}
use seplogic.Ra.Ura.{Ura}
use mir.Syntax.{named}
use mir.Val.{Val, WT, has_ty}
use base.Logic.{ent, sep}
use base.Fml.{Lft, Fml}
use types.Logic.{Logic, sem}
use types.Kit.{‵, ◌⊛◌, given, ◌$◌, ◌∵◌, !, qed, move, drop, use1, split, learn, frame, done}
use denote.Laws.{Is}
use denote.Builtin.{f64}
use denote.Ref.{NamedLft}
use denote.Slice.{slice_val, ShrSlice}
use denote.Struct.Laws as LL
use denote.Struct.Rest.{all_own, field_own, rest, own_open, own_out}
use denote.Struct.Values.{Values}
use Rattle.view.specs.declared.BlockView.{BlockView}
use Rattle.view.specs.contracts.BlockView as T
use Rattle.view.proofs.BlockView.TheLaws as T'

-- the lifetime 'a, the machine values of the view and of its slice, and what the view owns
abbrev pub α : Lft → NamedLft
α κ = record { mir = named 0; lft = κ }

abbrev pub mach : BlockView → Val
mach d = T'.lowered d

abbrev pub slice : BlockView → Val
slice d = slice_val d.data.ref_ptr (length d.data.now)

abbrev pub Own : Lft → BlockView → Fml
Own κ d = (T.the_row (α κ)).own_val d (mach d ∷ [])

-- what its slice owns
abbrev pub Numbers : Lft → BlockView → Fml
Numbers κ d = (ShrSlice (named 0) κ f64).own_val d.data (slice d ∷ [])

abbrev vals : (κ : Lft) → BlockView → Values (T.the_type (α κ)).parts
vals κ d = (d.data, (d.height, (d.width, tt)))

module _ {M : Type 1} {𝓤 : Ura M} (𝓛 : Logic 𝓤) (κ : Lft) (d : BlockView) where
  -- what the view owns gives what its slice owns, and is kept
  pub shares : ent 𝓤 (sem 𝓛 (Own κ d)) (sep 𝓤 (sem 𝓛 (Numbers κ d)) (sem 𝓛 (Own κ d)))
  shares =
      qed 𝓛 (‵ (Own κ d) ∷ []) ∵ use1 𝓛 (‵ (Own κ d) ⊛ ‵ (Own κ d)) ((LL.copy (T.the_type (α κ)) (T'.the_copy (α κ)) 𝓛).twice d (mach d ∷ [])) $ split ! $
      use1 𝓛 (given (mach d ∷ [] ≡ mach d ∷ []) (‵ (all_own (T.the_type (α κ)).parts (T'.the_laws (α κ)) (vals κ d)))) (own_open 𝓛 (T.the_type (α κ)) (T'.the_laws (α κ)) (vals κ d) (mach d)) $ learn ! (λ _.
      use1 𝓛 (‵ (field_own (T.the_type (α κ)).parts (T'.the_laws (α κ)) 0 d.data) ⊛ ‵ (rest (T.the_type (α κ)).parts (T'.the_laws (α κ)) 0 (vals κ d))) (own_out 𝓛 (T.the_type (α κ)).parts (T'.the_laws (α κ)) 0 (vals κ d)) $ split ! $
      -- [what the slice owns; what the numbers own; what the view owns]
      move ! (1 ∷ []) $ drop ! $ frame ! $ done !)

  -- the machine value's type; `.1 .0`, `.1 .1 .0` and `.1 .1 .1 .0` of the proof are its fields'
  pub typed : Is (T.the_row (α κ)) d (mach d ∷ []) → Holds (has_ty (T'.mir (named 0)) (mach d)) × WT (mach d)
  typed is = ((LL.lawful (T.the_type (α κ)) (T'.the_laws (α κ)) 𝓛).typed d _ is).0
