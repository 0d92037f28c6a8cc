-- The body of a method in a base is sound.
use Rattle.std.proofs.Common.{◌≡◌, ℕ, zero, suc, ◌-◌, ◌≤◌, Bool, true, false, List, Option, Some, None, refl, sym, ap, ◌∙◌, arith}
use Rattle.std.specs.Prelude.{◌==◌, ◌&&◌, ◌||◌, ◌%◌, IsTrue, option_map}
use Rattle.std.proofs.lemmas.Bool.{and_parts}
use Rattle.enc_base.specs.Token.{nth_row}
use Rattle.enc_base.specs.declared.token.Token.{Token}
use Rattle.enc_base.proofs.First.{silent}
use Rattle.enc_meta.specs.Regions.{Region}
use Rattle.enc_schema.specs.declared.column.Column.{Column}
use Rattle.enc_schema.specs.Schema.{columns_in}
use Rattle.enc_opcodes.specs.Body.{Code, is_good, texts_are_there, body_of, locals_are_good, begins_locals}
use Rattle.enc_opcodes.specs.Sound.{body_is_sound}
use Rattle.enc_opcodes.proofs.Sounds.{good_is_sound, good_local, good_locals_of}
use Rattle.enc_rows.specs.Layout.{rows_of}
use Rattle.enc_rows.specs.Source.{Source, raw_in}
use Rattle.enc_plain.specs.Bodies.{code_loaded, body_is_good}
use Rattle.enc_plain.specs.Cell.{body}
use Rattle.enc_plain.specs.Module.{has_row, cells_of}
use Rattle.enc_plain.specs.Rows.{number_at, bytes_at}
use Rattle.enc_plain.specs.Sound.{row_count, method_is_sound, cell_is_sound}
use Rattle.enc_plain.proofs.LoadedBytes.{code_bytes}
use Rattle.enc_plain.proofs.NilLocals.{code_nil, nil_sound}
use Rattle.enc_image.specs.Base.{users_of, blob_or_none, has_locals, body_fault_at, body_fault, cells_fault, module_in}
use Rattle.enc_image.proofs.Rows.{row_stands, token_is}
use Rattle.enc_image.proofs.Texts.{no_body_fault, if_some}
use Rattle.enc_image.proofs.Opens.{IsBase}
use Rattle.enc_image.proofs.Told.{row_is_there, number_is, blob_is, code_tables}

-- what F10 says of a method: IL code, a good body, a local signature of locals
pub judged : (s : Source) (u : Token) → cells_fault s ≡ None → IsTrue (has_row (module_in s) u) → u.table ≡ 0x06 → (body_is_good (rows_of s.layout) (users_of s) s.loaded (raw_in s u 0) (raw_in s u 1) && has_locals s (code_loaded s.loaded (raw_in s u 0))) ≡ true
unfolding body_fault body_fault_at
judged s u sound there table =
    let row = row_stands s u there in
    let e : nth_row 0x06 (u.row - 1) ≡ u = ap (λ t. nth_row t (u.row - 1)) (sym table) ∙ token_is u row.low in
    let high : u.row ≤ rows_of s.layout 0x06 = rw table at row.high in
    let silent_row = silent (body_fault_at s) (rows_of s.layout 0x06) (u.row - 1) (no_body_fault s sound) (omega (arith, row.low, high)) in
    let good = if_some (body_is_good (rows_of s.layout) (users_of s) s.loaded (raw_in s (nth_row 0x06 (u.row - 1)) 0) (raw_in s (nth_row 0x06 (u.row - 1)) 1) && has_locals s (code_loaded s.loaded (raw_in s (nth_row 0x06 (u.row - 1)) 0))) _ silent_row in
    rw e at good

-- a body that is there is of IL code and good
pub there_good : (count : ℕ → ℕ) (texts : ℕ → Option (List ℕ)) (regions : List Region) (n flags : ℕ) (c : Code) → body_is_good count texts regions n flags ≡ true → code_loaded regions n ≡ Some c → (flags % 4 == 0 ≡ true) × (is_good count c ≡ true)
unfolding body_is_good code_loaded
there_good count texts regions zero flags c good is = absurd cc
there_good count texts regions (suc n) flags c good is =
    let a = and_parts (flags % 4 == 0) _ good in
    let g : (is_good count c && texts_are_there texts c.code) ≡ true = rw is at a.1 in
    (a.0, (and_parts (is_good count c) (texts_are_there texts c.code) g).0)

begins_by : (a b : Bool) (x y : List ℕ) → (a || begins_locals x) ≡ true → (a ≡ false → y ≡ x) → (a || begins_locals y) ≡ true
begins_by true b x y h same = refl
begins_by false b x y h same = rw (same refl) h

locals_begin : (s : Source) (t : Token) → cells_fault s ≡ None → locals_are_good (rows_of s.layout) t ≡ true → (t.row == 0 || begins_locals (blob_or_none s (raw_in s t 0))) ≡ true → (t.row == 0 || begins_locals (bytes_at (cells_of (module_in s)) t 0)) ≡ true
unfolding columns_in
locals_begin s t sound good h = begins_by (t.row == 0) true (blob_or_none s (raw_in s t 0)) (bytes_at (cells_of (module_in s)) t 0) h (λ some.
    let p = good_local (rows_of s.layout) t good some in
    let there : has_row (module_in s) t ≡ true = row_is_there s t (rw p.0 (omega arith)) (rw p.0 refl) p.1 (rw p.0 p.2) in
    blob_is s t 0 sound there (rw p.0 refl))

all_three : (a b c : Bool) → a ≡ true → b ≡ true → c ≡ true → (a && b && c) ≡ true
all_three a b c e f g = rw (e, f, g) refl

pub code_sound : (s : Source) (u : Token) (column : Column) (o : Option Code) → IsBase s → IsTrue (has_row (module_in s) u) → u.table ≡ 0x06 → code_loaded s.loaded (raw_in s u 0) ≡ o → cell_is_sound (module_in s) u column (body (option_map (body_of (users_of s)) o)) ≡ true
unfolding method_is_sound columns_in body_of
code_sound s u column None base there table is = refl
code_sound s u column (Some c) base there table is =
    let m = module_in s in
    let h = and_parts _ (has_locals s (code_loaded s.loaded (raw_in s u 0))) (judged s u base.cells there table) in
    let g = there_good (rows_of s.layout) (users_of s) s.loaded (raw_in s u 0) (raw_in s u 1) c h.0 is in
    let flags : number_at (cells_of m) u 1 ≡ raw_in s u 1 = number_is s u 1 there (rw table refl) in
    let il : (number_at (cells_of m) u 1 % 4 == 0) ≡ true = rw flags g.0 in
    let sound : body_is_sound (row_count m) (body_of (users_of s) c) ≡ true = good_is_sound (users_of s) (rows_of s.layout) (row_count m) c (code_bytes s.loaded (raw_in s u 0) c base.loaded is) (code_tables s) g.1 in
    let begins : has_locals s (Some c) ≡ true = rw is at h.1 in
    let locals : (c.locals.row == 0 || begins_locals (bytes_at (cells_of m) c.locals 0)) ≡ true = locals_begin s c.locals base.cells (good_locals_of (rows_of s.layout) c g.1) begins in
    all_three _ _ _ il sound (nil_sound m c.locals (code_nil s.loaded (raw_in s u 0) c is) locals)
