-- `factor_checked::cores::kept_bound` meets its contract: what is handed in is so little that nothing overflows. Assumes nothing.
use Rattle.std.specs.Prelude.{◌+◌, ◌*◌, ◌≤◌}
use Rattle.factor_setup.specs.Exact.{handed}
use Rattle.factor_core.specs.Cache.{handed_in}
use native.Mathlib.Nat.{mul-le-mul}
use native.Mathlib.Omega.{arith}
use Rattle.factor_checked.proofs.cores.kept_bound.Goals as goal

pub overflow_mul-result : goal.overflow_mul-result
overflow_mul-result c =
    let n = handed_in (handed c.args.s.now) in
    let few : 1 + n ≤ 33554433 = omega (arith, c.requires.late_len_bound) in
    let most : c.args.scale * (1 + n) ≤ 16 * 33554433 = mul-le-mul c.requires.scale_bound few in
    omega arith
