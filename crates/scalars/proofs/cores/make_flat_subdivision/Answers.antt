-- `scalars::cores::make_flat_subdivision` meets its contract. Assumes nothing.
use mathlib.Core.Path.{◌∙◌}
use Rattle.scalars.proofs.ScalarLaws.{starts-are}
use Rattle.scalars.proofs.cores.make_flat_subdivision.Goals as goal

pub returns : goal.returns
returns c =
    let call = c.sums in
    record { value = call.ensures.value; starts_after = starts-are c.args.sizes.now call.new.starts (call.auto.starts ∙ c.requires.sizes_len_bound.1) call.ensures.by_index_2 }
