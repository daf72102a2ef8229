-- What is lent, buffer by buffer. Assumes nothing.
use Rattle.std.specs.Prelude.{◌≡◌, ℕ, List, Float}
use mathlib.Core.Path.{refl}
use Rattle.factor_core.specs.Factorize.{Places, lent}

-- where each buffer is that of b, all of them are b
pub same_places : (b : Places) {order' parents' l_starts' l_rows' l_offsets' inverse' sizes' count' heads' into' stamps' table' upper' bodies' unit_starts' d_starts' places' : List ℕ} {l_values' diag' d' column' : List Float}
    → order' ≡ b.order → parents' ≡ b.parents → l_starts' ≡ b.l_starts → l_rows' ≡ b.l_rows → l_offsets' ≡ b.l_offsets → l_values' ≡ b.l_values → diag' ≡ b.diag → d' ≡ b.d → column' ≡ b.column → inverse' ≡ b.inverse → sizes' ≡ b.sizes → count' ≡ b.count → heads' ≡ b.heads → into' ≡ b.into → stamps' ≡ b.stamps → table' ≡ b.table → upper' ≡ b.upper → bodies' ≡ b.bodies → unit_starts' ≡ b.unit_starts → d_starts' ≡ b.d_starts → places' ≡ b.places
    → lent order' parents' l_starts' l_rows' l_offsets' l_values' diag' d' column' inverse' sizes' count' heads' into' stamps' table' upper' bodies' unit_starts' d_starts' places' ≡ b
same_places b e-order e-parents e-l_starts e-l_rows e-l_offsets e-l_values e-diag e-d e-column e-inverse e-sizes e-count e-heads e-into e-stamps e-table e-upper e-bodies e-unit_starts e-d_starts e-places = rw (e-order, e-parents, e-l_starts, e-l_rows, e-l_offsets, e-l_values, e-diag, e-d, e-column, e-inverse, e-sizes, e-count, e-heads, e-into, e-stamps, e-table, e-upper, e-bodies, e-unit_starts, e-d_starts, e-places) refl
