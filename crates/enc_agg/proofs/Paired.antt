-- A chain and a delta that follows it.
use Rattle.std.proofs.Common.{◌≡◌, ℕ, ◌+◌, ◌<◌, length, Some, None, ◌∙◌, arith}
use Rattle.std.specs.Prelude.{IsTrue}
use Rattle.enc_base.specs.declared.token.Token.{Token}
use Rattle.enc_rows.specs.Source.{Source}
use Rattle.enc_plain.specs.Cell.{Cell}
use Rattle.enc_plain.specs.Chain.{Chain}
use Rattle.enc_plain.specs.Module.{rows_in, has_row, cell_of}
use Rattle.enc_plain.specs.Fits.{Fits}
use Rattle.enc_delta.specs.Delta.{listed, place_in}
use Rattle.enc_delta.specs.Rules.{inserts, rows_with}
use Rattle.enc_agg.specs.Extend.{changes_of, extended}
use Rattle.enc_agg.specs.Follows.{Lands}
use Rattle.enc_plain.specs.Sound.{HasOwners}
use Rattle.enc_agg.proofs.Fitting.{fits, count_is, few}
use Rattle.enc_agg.proofs.Viewing.{kept_cell, kept_row}

pub changes_fit : (c : Chain) (d : Source) → HasOwners c.plain → Lands c d → Fits c.plain (changes_of c d)
changes_fit c d sound follows = fits c d sound.tables follows

-- a row that the delta doesn't list was there before
pub row_kept : (c : Chain) (d : Source) (u : Token) → HasOwners c.plain → Lands c d → place_in (listed d) u ≡ None → IsTrue (has_row (extended c d).plain u) → IsTrue (has_row c.plain u)
row_kept c d u sound follows none there = kept_row c d u (changes_fit c d sound follows) none there

pub cell_kept : (c : Chain) (d : Source) (u : Token) (i : ℕ) (cell : Cell) → HasOwners c.plain → Lands c d → place_in (listed d) u ≡ None → cell_of c.plain u i ≡ Some cell → cell_of (extended c d).plain u i ≡ Some cell
cell_kept c d u i cell sound follows none is = kept_cell c d u i (changes_fit c d sound follows) none ∙ is

-- how many rows a table has after the delta
pub count_after : (c : Chain) (d : Source) (t n m : ℕ) → HasOwners c.plain → Lands c d → n ≡ length (rows_in c.plain t) → m ≡ inserts c (listed d) t → n + m ≡ length (rows_in (extended c d).plain t)
unfolding rows_with
count_after c d t n m sound follows before added =
    let e = count_is c d sound.tables follows t in
    rw e (omega (arith, before, added))

-- they are few where the delta adds some
pub few_after : (c : Chain) (d : Source) (t n m : ℕ) → HasOwners c.plain → Lands c d → n ≡ length (rows_in c.plain t) → m ≡ inserts c (listed d) t → 0 < m → n + m < 0x1000000
unfolding rows_with
few_after c d t n m sound follows before added some =
    let e = few c d sound.tables follows t (omega (arith, added)) in
    omega (arith, before, added, e)
