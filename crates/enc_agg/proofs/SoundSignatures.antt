-- The signatures of a module stay ones after a delta.
use Rattle.std.proofs.Common.{◌≡◌, ℕ, ◌≤◌, Bool, true, false, length, Option, Some, None, refl, arith}
use Rattle.std.specs.Prelude.{not}
use Rattle.enc_base.specs.declared.refusal.Place.{Place}
use Rattle.enc_base.specs.declared.token.Token.{Token}
use Rattle.enc_rows.specs.Source.{Source}
use Rattle.enc_plain.specs.Chain.{Chain}
use Rattle.enc_plain.specs.Module.{rows_in, has_row, cells_of}
use Rattle.enc_plain.specs.Rows.{bytes_at}
use Rattle.enc_plain.specs.Signatures.{signature_column, is_signature}
use Rattle.enc_plain.specs.Sound.{row_count, HasSignatures}
use Rattle.enc_plain.proofs.SignatureRows.{TypesGrow, signature_kept}
use Rattle.enc_delta.specs.Delta.{listed, place_in}
use Rattle.enc_delta.specs.Rules.{broken, rows_with}
use Rattle.enc_delta.specs.Changes.{bad_signature_at, bad_signature_in, bad_signature}
use Rattle.enc_delta.specs.Rows.{rows_after}
use Rattle.enc_agg.specs.Extend.{extended}
use Rattle.enc_agg.proofs.KeptRows.{JudgedBy, silent_of, same_bytes, rows_grow}
use Rattle.enc_agg.proofs.Viewing.{kept_row, other_cells}

-- how many rows there are after a delta
abbrev pub Counted : Chain → Source → Type 0
Counted c s = (t : ℕ) → length (rows_in (extended c s).plain t) ≡ rows_with c (listed s) t

types_after : (c : Chain) (s : Source) → Counted c s → TypesGrow (rows_with c (listed s)) (row_count (extended c s).plain)
types_after c s counts = record { definitions = at 0x02; references = at 0x01; specifications = at 0x1B }
  where
    le : (a b : ℕ) → b ≡ a → a ≤ b
    le a b h = omega arith

    at : (t : ℕ) → rows_with c (listed s) t ≤ row_count (extended c s).plain t
    at t = le _ _ (counts t)

types_grow : (c : Chain) (s : Source) → Counted c s → TypesGrow (row_count c.plain) (row_count (extended c s).plain)
types_grow c s counts = record { definitions = rows_grow c s 0x02 counts; references = rows_grow c s 0x01 counts; specifications = rows_grow c s 0x1B counts }

unbroken : (b : Bool) (p : Place) → broken (not b) p ≡ None → b ≡ true
unbroken true p h = refl
unbroken false p h = absurd cc

listed_signature : (c : Chain) (s : Source) (u : Token) (k i : ℕ) → JudgedBy c s → Counted c s → bad_signature c s ≡ None → place_in (listed s) u ≡ Some k → signature_column u.table ≡ Some i → is_signature (row_count (extended c s).plain) u.table (bytes_at (cells_of (extended c s).plain) u i) ≡ true
unfolding bad_signature bad_signature_in bad_signature_at
listed_signature c s u k i j counts none place column =
    let row : bad_signature_in c s u ≡ None = silent_of (bad_signature_in c s) s u k none place in
    let at : bad_signature_at c s u i ≡ None = rw column at row in
    let good = unbroken (is_signature (rows_with c (listed s)) u.table (bytes_at (rows_after c s) u i)) _ at in
    rw (← same_bytes (rows_after c s) (cells_of (extended c s).plain) u i (j.rows u)) (signature_kept (rows_with c (listed s)) (row_count (extended c s).plain) u.table (bytes_at (rows_after c s) u i) (types_after c s counts) good)

signature_by : (c : Chain) (s : Source) (u : Token) (i : ℕ) (o : Option ℕ) → JudgedBy c s → Counted c s → bad_signature c s ≡ None → HasSignatures c.plain → place_in (listed s) u ≡ o → has_row (extended c s).plain u ≡ true → signature_column u.table ≡ Some i → is_signature (row_count (extended c s).plain) u.table (bytes_at (cells_of (extended c s).plain) u i) ≡ true
signature_by c s u i (Some k) j counts none before is there column = listed_signature c s u k i j counts none is column
signature_by c s u i None j counts none before is there column =
    rw (same_bytes (cells_of (extended c s).plain) (cells_of c.plain) u i (other_cells c s u j.fit is)) (signature_kept (row_count c.plain) (row_count (extended c s).plain) u.table (bytes_at (cells_of c.plain) u i) (types_grow c s counts) (before.each u i (kept_row c s u j.fit is there) column))

pub signatures_after : (c : Chain) (s : Source) → JudgedBy c s → Counted c s → bad_signature c s ≡ None → HasSignatures c.plain → HasSignatures (extended c s).plain
signatures_after c s j counts none before = record { each = λ u i there column. signature_by c s u i (place_in (listed s) u) j counts none before refl there column }
