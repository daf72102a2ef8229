-- What a room holds after the part that a call is given was written. Assumes nothing.
use Rattle.std.specs.Prelude.{List, ◌++◌, drop}
use Rattle.std.specs.Borrow.{Lends, Fml, RattleType, MutBor, Array}
use Rattle.word_list.specs.contracts.room.Room.{the_row}

module _ (E N : RattleType) (a : MutBor (the_row E N).Denot) where
  abbrev pub lends_part : MutBor (List E.Denot) → Fml
  lends_part r = Lends (the_row E N) (Array E 0) a r (λ ws. record a.now { places = ws ++ drop a.now.long a.now.places })
