-- `factor_tables::cores::lay_rows` meets its contract: the order becomes the dimensions, and L's offsets are by these. Assumes nothing.
use Rattle.std.specs.Prelude.{◌≡◌, ℕ, ◌<◌, List, length, get_or}
use mathlib.Core.Path.{sym, ap, subst, ◌∙◌}
use native.Mathlib.Omega.{arith}
use lib.Seq.{take_all}
use Rattle.order.specs.Order.{sizes_of}
use Rattle.tables.specs.Sound.{Measured}
use Rattle.scalars.specs.Bodies.{offsets}
use Rattle.factor_tables.proofs.TableLaws.{order-inside, l-measured}
use Rattle.factor_tables.proofs.cores.lay_rows.Goals as goal

pub sizes-requires : goal.sizes-requires
sizes-requires c =
    subst (λ (l : List ℕ). (k : ℕ) → k < length l → get_or l k 0 < length c.args.a.now.dims.now) (sym (c.copy.ensures ∙ take_all (length c.args.sizes.now) c.args.order.now (omega (arith, c.requires.layable.permutes.entries, c.requires.sizes_len)))) (order-inside c.args.a.now.dims.now c.args.order.now c.requires.layable.permutes)

pub make_offsets-requires : goal.make_offsets-requires
make_offsets-requires c = (
  subst (λ (l : List ℕ). Measured l c.args.l_starts.now c.args.l_rows.now) (sym (c.sizes.ensures ∙ ap (sizes_of c.args.a.now.dims.now) (c.copy.ensures ∙ take_all (length c.args.sizes.now) c.args.order.now (omega (arith, c.requires.layable.permutes.entries, c.requires.sizes_len))))) (l-measured _ _ _ _ _ _ c.requires.layable),
  c.requires.layable.filled,
  c.requires.l_offsets_len.0,
)

pub returns : goal.returns
returns c =
    let e : c.sizes.new.order ≡ sizes_of c.args.a.now.dims.now c.args.order.now = c.sizes.ensures ∙ ap (sizes_of c.args.a.now.dims.now) (c.copy.ensures ∙ take_all (length c.args.sizes.now) c.args.order.now (omega (arith, c.requires.layable.permutes.entries, c.requires.sizes_len))) in
    record { sizes_after = e; l_offsets_after = c.make_offsets.ensures ∙ ap (λ (l : List ℕ). offsets l c.args.l_starts.now c.args.l_rows.now) e; bodies_after = c.make_offsets-2.ensures }
