-- `factor_tables::cores::lay_diagonal` meets its contract: the areas summed up are where the unit factors begin. Assumes nothing.
use Rattle.std.specs.Prelude.{◌≡◌, ℕ, ◌+◌, List, length, get_or}
use mathlib.Core.Path.{sym, ap, ◌∙◌}
use native.Mathlib.Omega.{arith}
use Rattle.scalars.specs.Scalars.{scalar_starts}
use Rattle.scalars.proofs.ScalarLaws.{starts-are}
use Rattle.factor_tables.proofs.NeedLaws.{area_small}
use Rattle.factor_tables.proofs.cores.lay_diagonal.Goals as goal

pub square-requires : goal.square-requires
square-requires c =
    record { out_len = c.requires.sizes.2; by_index = λ k h. c.requires.sizes.0.small k }

pub sums-requires : goal.sums-requires
sums-requires c =
    let square = c.square in
    let long : length square.new.out ≡ length c.args.sizes.now = square.auto.out ∙ c.requires.sizes.2 in record { sizes_len_bound = (omega (arith, long, c.requires.sizes.1), c.requires.unit_starts_len.0 ∙ ap (λ (m : ℕ). m + 1) (sym long)); by_index = λ k h. omega (arith, ap (λ (l : List ℕ). get_or l k 0) square.ensures, area_small c.args.sizes.now c.requires.sizes.0 k) }

pub make_flat_subdivision-requires : goal.make_flat_subdivision-requires
make_flat_subdivision-requires c =
    record { sizes_len_bound = (c.requires.sizes.1, c.requires.unit_starts_len.1); by_index = λ k h. c.requires.sizes.0.small k }

pub returns : goal.returns
returns c =
    let square = c.square in
    let sums = c.sums in
    let long : length square.new.out ≡ length c.args.sizes.now = square.auto.out ∙ c.requires.sizes.2 in record { unit_starts_after = starts-are square.new.out sums.new.starts (sums.auto.starts ∙ c.requires.unit_starts_len.0 ∙ ap (λ (m : ℕ). m + 1) (sym long)) sums.ensures.by_index_2 ∙ ap scalar_starts square.ensures; d_starts_after = c.make_flat_subdivision.ensures.starts_after }
