-- `factor_setup::cores::write_tables` meets its contract. Assumes nothing.
use Rattle.std.specs.Prelude.{◌≡◌, ◌+◌, length}
use mathlib.Core.Path.{sym, ap, subst, ◌∙◌}
use native.Mathlib.Omega.{arith}
use lib.Seq.{take_at}
use borrow.Author.Rules.{rules}
use Rattle.tables.specs.Sound.{Sizes}
use Rattle.order.specs.Order.{sizes_of}
use Rattle.scalars.specs.Scalars.{scalar_starts}
use Rattle.layout.specs.Layout.{unit_starts_of}
use Rattle.factor_tables.proofs.TableLaws.{sizes-sound}
use Rattle.factor_setup.specs.Exact.{handed, stored}
use Rattle.factor_setup.proofs.SetupLaws.{tree-long, count_long, store_asks, starts-told, rows_told, parents-told, laid, tabled}
use Rattle.factor_setup.proofs.cores.write_tables.Goals as goal

pub store-requires-clause-tree : goal.store-requires-clause-tree
store-requires-clause-tree c =
    let room = c.requires.room in
    (store_asks (handed c.args.s.now) c.requires.plan_sound.blocks c.requires.analyzed.analyzed c.args.stamps.now c.args.inverse.now c.args.o.now.l_starts.now c.split_at_mut-l_rows.result.0.now
    room.stamps room.inverse room.l_starts (c.split_at_mut-l_rows.ensures.front_len ∙ c.requires.analyzed.stored)).0

pub store-requires-clause-stamps_len : goal.store-requires-clause-stamps_len
store-requires-clause-stamps_len c =
    let room = c.requires.room in
    (store_asks (handed c.args.s.now) c.requires.plan_sound.blocks c.requires.analyzed.analyzed c.args.stamps.now c.args.inverse.now c.args.o.now.l_starts.now c.split_at_mut-l_rows.result.0.now
    room.stamps room.inverse room.l_starts (c.split_at_mut-l_rows.ensures.front_len ∙ c.requires.analyzed.stored)).1.0

pub store-requires-clause-l_rows_len : goal.store-requires-clause-l_rows_len
store-requires-clause-l_rows_len c =
    let room = c.requires.room in
    (store_asks (handed c.args.s.now) c.requires.plan_sound.blocks c.requires.analyzed.analyzed c.args.stamps.now c.args.inverse.now c.args.o.now.l_starts.now c.split_at_mut-l_rows.result.0.now
    room.stamps room.inverse room.l_starts (c.split_at_mut-l_rows.ensures.front_len ∙ c.requires.analyzed.stored)).1.1

-- the tree has an entry a block
pub copy-requires : goal.copy-requires
copy-requires c =
    let long = tree-long (handed c.args.s.now) c.requires.plan_sound.blocks c.requires.analyzed.analyzed in
    omega (arith, long, c.requires.room.parents)

pub returns-clause-parents_after : goal.returns-clause-parents_after
returns-clause-parents_after c =
    parents-told (handed c.args.s.now) c.requires.plan_sound.blocks c.requires.analyzed.analyzed _ _ c.requires.room.parents c.copy.ensures

-- there are as many counts as columns
pub copy-requires-2 : goal.copy-requires-2
copy-requires-2 c =
    let long = c.store.auto.count ∙ count_long (handed c.args.s.now) c.requires.plan_sound.blocks c.requires.analyzed.analyzed in
    omega (arith, long, c.requires.room.l_starts, c.store.auto.l_starts)

-- L's tables and the order are now those of the system
pub lay_rows-requires-clause-layable : goal.lay_rows-requires-clause-layable
lay_rows-requires-clause-layable c =
    let a = handed c.args.s.now in
    let few = c.requires.plan_sound.blocks in
    let store = c.store in
    rw c.night-night.ensures
    (laid a c.move_late.new.order store.new.l_starts store.new.l_rows c.move_late.ensures (starts-told a few c.requires.analyzed.analyzed store.new.l_starts store.ensures.l_starts_after)
    (rows_told a few c.requires.analyzed.analyzed store.new.l_rows store.ensures.l_rows_after) c.requires.plan_sound)

pub lay_diagonal-requires-clause-sizes : goal.lay_diagonal-requires-clause-sizes
lay_diagonal-requires-clause-sizes c =
    let a = handed c.args.s.now in
    let order = c.move_late.new.order in
    let few = c.requires.plan_sound.blocks in
    let store = c.store in
    let g = laid a order store.new.l_starts store.new.l_rows c.move_late.ensures (starts-told a few c.requires.analyzed.analyzed store.new.l_starts store.ensures.l_starts_after)
    (rows_told a few c.requires.analyzed.analyzed store.new.l_rows store.ensures.l_rows_after) c.requires.plan_sound in
    let e : c.lay_rows.new.sizes ≡ sizes_of c.args.s.now.dims.now order = rw c.night-night.ensures at c.lay_rows.ensures.sizes_after in
    let long : length c.lay_rows.new.sizes ≡ length c.args.s.now.dims.now = c.lay_rows.auto.sizes ∙ c.requires.room.sizes in
    (subst Sizes (sym e) (sizes-sound c.args.s.now.dims.now order g.permutes g.measured.sizes), omega (arith, long, few), c.requires.room.places ∙ sym long)

-- the tables, each exactly in the first places of its list
pub returns-clause-tabled : goal.returns-clause-tabled
returns-clause-tabled c =
    let a = handed c.args.s.now in
    let few = c.requires.plan_sound.blocks in
    let store = c.store in
    let room = c.requires.room in
    let rows = c.lay_rows in
    let diagonal = c.lay_diagonal.ensures in
    let e : rows.new.sizes ≡ sizes_of a.dims c.move_late.new.order = rw c.night-night.ensures at rows.ensures.sizes_after in
    let s = starts-told a few c.requires.analyzed.analyzed store.new.l_starts store.ensures.l_starts_after in
    let r = rows_told a few c.requires.analyzed.analyzed store.new.l_rows store.ensures.l_rows_after in
    let l : length store.new.l_rows ≡ stored a = store.auto.l_rows ∙ c.split_at_mut-l_rows.ensures.front_len ∙ c.requires.analyzed.stored in
    let f : length rows.new.l_offsets ≡ stored a + 1 = rows.auto.l_offsets ∙ c.split_at_mut-l_offsets.ensures.front_len ∙ ap (λ m. m + 1) c.requires.analyzed.stored in
    rw (take_at store.new.l_rows c.split_at_mut-l_rows.result.1.now (stored a) l, take_at rows.new.l_offsets c.split_at_mut-l_offsets.result.1.now (stored a + 1) f)
    (tabled a c.move_late.new.order store.new.l_starts store.new.l_rows c.move_late.ensures s r _ _ _ _ _ _ _ _ _ (store.auto.count ∙ count_long a few c.requires.analyzed.analyzed) (store.auto.stamps ∙ room.stamps)
    e (rw c.night-night.ensures at rows.ensures.l_offsets_after) (rw c.night-night.ensures at rows.ensures.bodies_after) (diagonal.unit_starts_after ∙ ap unit_starts_of e) (diagonal.d_starts_after ∙ ap scalar_starts e) c.copy-2.ensures (search rules))
