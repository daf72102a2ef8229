-- `fit_night::cores::night_core` meets its contract: the factor that was made is the one that is solved with. Assumes nothing.
use Rattle.std.specs.Prelude.{replicate}
use mathlib.Core.Path.{refl}
use borrow.Author.Rules.{rules}
use Rattle.scalar.specs.Scalar.{nought}
use Rattle.factor_setup.specs.Exact.{handed}
use Rattle.fit_factor.specs.Fitted.{Factor, factor, factor_in}
use Rattle.fit_night.proofs.Laws.{fits-back, room, solvable, answers}
use Rattle.fit_night.proofs.cores.night_core.Goals as goal

-- the outputs before the factorization
abbrev zeroed : Factor
zeroed =
    factor (replicate 128 0) (replicate 128 0) (replicate 129 0) (replicate 8128 0) (replicate 8129 0) (replicate 8192 nought) (replicate 8192 nought) (replicate 512 nought)

pub solve_parts-silent-requires-clause-solvable : goal.solve_parts-silent-requires-clause-solvable
solve_parts-silent-requires-clause-solvable c =
    solvable (handed c.args.s.now) c.requires.within zeroed c.in_ok-counts.counts _
    (fits-back c.in_ok-counts.ensures.fits (search rules) (search rules) (search rules) (search rules) refl refl refl)

pub solve_parts-silent-requires-clause-room : goal.solve_parts-silent-requires-clause-room
solve_parts-silent-requires-clause-room c =
    room (handed c.args.s.now) c.requires.within zeroed c.in_ok-counts.counts (factor_in c.factor_core.new.o) c.in_ok-counts.ensures.fits
    (search rules) (search rules) (search rules) (search rules) (search rules) (search rules) (search rules) _ _ c.requires.x_len.0 c.requires.x_len.1

pub returns : goal.returns
returns c =
    let s = c.solve_parts-silent in
    answers (handed c.args.s.now) c.requires.within zeroed c.in_ok-counts.counts _
    (fits-back c.in_ok-counts.ensures.fits (search rules) (search rules) (search rules) (search rules) (search rules) (search rules) (search rules))
    c.args.x.now s.new.x c.args.marks.now s.new.marks s.result s.ensures.solved_by s.ensures.value.0 s.ensures.value.1
