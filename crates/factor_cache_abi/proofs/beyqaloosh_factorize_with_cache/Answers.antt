-- `factor_cache_abi::beyqaloosh_factorize_with_cache` meets its contract: the number of what the call answers. Assumes nothing.
use mathlib.Core.Path.{sym, subst}
use borrow.Author.Rules.{rules}
use Rattle.factor_setup.specs.Exact.{system}
use Rattle.factor_core.specs.Factorize.{Places, lent, lent_of}
use Rattle.factor_core.specs.Cache.{FactorsWithCache}
use Rattle.factor_report.proofs.PlacesLaws.{same_places}
use Rattle.factor_cache_abi.proofs.beyqaloosh_factorize_with_cache.Goals as goal

pub returns : goal.returns
returns c =
    let x = c.args in
    let f = c.factorize_with_cache-f in
    let a = system x.dims.now x.starts.now x.rows.now x.values.now x.perm.now x.late.now x.tol in
    let b = lent x.order.now x.parents.now x.l_starts.now x.l_rows.now x.l_offsets.now x.l_values.now x.diag.now x.d.now x.column.now x.inverse.now x.sizes.now x.count.now x.heads.now x.into.now x.stamps.now x.table.now x.upper.now x.bodies.now x.unit_starts.now x.d_starts.now x.places.now in
    record {
      outcome = f.result;
      factors = subst (λ (b' : Places). FactorsWithCache a b x.cache.now f.result b' f.new.cache) (sym (same_places (lent_of f.new.o f.new.w)
          (search rules) (search rules) (search rules) (search rules) (search rules) (search rules) (search rules) (search rules) (search rules) (search rules) (search rules) (search rules) (search rules) (search rules) (search rules) (search rules) (search rules) (search rules) (search rules) (search rules) (search rules))) f.ensures.factors;
      number = c.tell.ensures.0;
      carries = c.tell.ensures.1;
      carries_float = c.tell.ensures.2;
    }
