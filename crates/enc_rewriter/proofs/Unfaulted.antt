-- No rule but that of indices refuses an image that was written.
use Rattle.std.proofs.Common.{◌≡◌, ℕ, zero, suc, ◌-◌, ◌<◌, ◌≤◌, Bool, true, false, List, [], ◌∷◌, length, Option, Some, None, refl, sym, ap, subst, ◌∙◌, inl, inr, arith}
use Rattle.std.specs.Prelude.{◌&&◌, ◌||◌, ◌==◌, ◌%◌, not, option_map, option_and_then, is_some, slice_get, if◌then◌else◌}
use Rattle.std.specs.List.{list_all, list_any}
use Rattle.std.proofs.lemmas.Bool.{and_parts, and_from}
use Rattle.std.proofs.lemmas.Bool.Decides.{nat_tests}
use Rattle.enc_base.specs.Order.{or_else, first_below}
use Rattle.enc_base.specs.Token.{nth_row}
use Rattle.enc_base.specs.declared.refusal.Place.TheVariants as place
use Rattle.enc_base.specs.declared.token.Token.{Token}
use Rattle.enc_base.proofs.First.{first_none, first_suc}
use Rattle.enc_image.specs.Base.{users_of, blob_or_none, bytes_of_field, reading_of, cell_for, offset_fault_at, offset_fault_in_row, offset_fault_in, offset_fault, signature_fault_at, signature_fault_in, signature_fault, has_locals, body_fault_at, body_fault, field_fault_at, field_fault}
use Rattle.enc_image.proofs.Rows.{token_is}
use Rattle.enc_meta.specs.Built.{Built, heaps_built}
use Rattle.enc_meta.specs.Heaps.{Counted, user_at}
use Rattle.enc_meta.specs.Regions.{Region}
use Rattle.enc_opcodes.specs.Body.{Code, body_of, locals_are_good, begins_locals}
use Rattle.enc_opcodes.specs.Sound.{body_is_sound}
use Rattle.enc_opcodes.proofs.Sounds.{Grow, good_local, sound_locals}
use Rattle.enc_plain.specs.Bodies.{code_loaded, body_loaded, body_is_good}
use Rattle.enc_plain.specs.Cell.{Cell, body, Kind, texts, blobs, guids, kind_of, kind_in, cell_kind}
use Rattle.enc_plain.specs.Module.{Module, has_row, cells_of, cell_of}
use Rattle.enc_plain.specs.Reading.{cell_read}
use Rattle.enc_plain.specs.Rows.{number_at, bytes_at}
use Rattle.enc_plain.specs.Signatures.{signature_column, is_signature}
use Rattle.enc_plain.specs.Sound.{is_part, row_count, locals_are_sound, method_is_sound}
use Rattle.enc_plain.proofs.Columns.{part_cases, both_left, both_right, each_of, is_plain, plain_kind}
use Rattle.enc_plain.proofs.KindsOf.{row_bounds}
use Rattle.enc_plain.proofs.NilLocals.{sound_begins}
use Rattle.enc_plain.proofs.SignatureColumns.{signature_kind}
use Rattle.enc_plain.proofs.SignatureRows.{TypesGrow, signature_kept}
use Rattle.enc_rows.specs.Layout.{rows_of}
use Rattle.enc_rows.specs.Source.{Source, raw_in}
use Rattle.enc_schema.specs.Schema.{columns_in, column_in, is_offset}
use Rattle.enc_schema.specs.declared.column.Column.{Column}
use Rattle.enc_schema.specs.declared.column.Column.TheVariants.{Num8, Num16, Num32, Text, Guid, Blob, Index, Coded, Run}
use Rattle.enc_rewriter.specs.Placed.{Placed, loaded_with}
use Rattle.enc_rewriter.proofs.Gathers.{row_there}
use Rattle.enc_rewriter.proofs.Says.{text_kind, blob_kind, guid_kind}
use Rattle.enc_rewriter.proofs.NumbersMeant.{IsRead, count_read, count_least, number_meant, blob_meant, plain_meant}
use Rattle.enc_rewriter.proofs.FieldsMeant.{row_within, field_loaded}
use Rattle.enc_rewriter.proofs.CellsMeant.{body_stands, body_meant}
use Rattle.enc_rewriter.proofs.CodeKept.{body_kept}

-- where no place has an answer, none is the first
pub none_below : {F : Type 0} (rule : ℕ → Option F) (n : ℕ) → ((k : ℕ) → k < n → rule k ≡ None) → first_below rule n ≡ None
none_below rule zero none = first_none rule
none_below {F} rule (suc n) none =
    first_suc rule n
    ∙ ap (λ (o : Option F). or_else o (rule n)) (none_below rule n (λ k low. none k (omega (arith, low))))
    ∙ none n (omega arith)

-- a row of a part is the module's
row_read : (m : Module) (h : Built) (p : Placed) (rows : List (List (List ℕ))) (s : Source) (t k : ℕ) → IsRead m h p rows s → is_part t ≡ true → t < 0x2D → k < rows_of s.layout t
    → has_row m (nth_row t k) ≡ true
row_read m h p rows s t k r part low there = row_there m t k (omega (arith, there, count_read m h p rows s t r part low))

-- what holds of the tables that are no parts holds of each of them
denied : (b : Bool) → not b ≡ false → b ≡ true
denied true h = refl
denied false h = absurd cc

untrue : (b : Bool) → not b ≡ true → b ≡ false
untrue true h = absurd cc
untrue false h = refl

abbrev other_tables : List ℕ
other_tables = 0x03 ∷ 0x05 ∷ 0x07 ∷ 0x13 ∷ 0x16 ∷ 0x1E ∷ 0x1F ∷ []

others : (q : ℕ → Bool) (t : ℕ) → list_all q other_tables ≡ true → is_part t ≡ false → q t ≡ true
others q t all other = each_of q other_tables t all (denied (list_any (λ k. k == t) other_tables) other)

-- no offset is bad: those of parts are their cells', and other tables have none
abbrev no_offsets : ℕ → Bool
no_offsets t = list_all (λ (c : Column). not (is_offset c)) (columns_in t)

others_plain : list_all no_offsets other_tables ≡ true
unfolding columns_in
others_plain = refl

plain_at : (xs : List Column) (i : ℕ) (c : Column) → list_all (λ (d : Column). not (is_offset d)) xs ≡ true → slice_get xs i ≡ Some c → is_offset c ≡ false
plain_at [] i c all e = absurd cc
plain_at (x ∷ xs) zero c all e = let is : x ≡ c = cc in rw (← is) (untrue (is_offset x) (both_left (not (is_offset x)) _ all))
plain_at (x ∷ xs) (suc i) c all e = plain_at xs i c (both_right (not (is_offset x)) _ all) e

some_kind : (o : Option Cell) (k : Kind) → option_map cell_kind o ≡ Some k → is_some o ≡ true
some_kind None k h = absurd cc
some_kind (Some c) k h = refl

cell_some : (m : Module) (h : Built) (p : Placed) (rows : List (List (List ℕ))) (s : Source) (u : Token) (i : ℕ) (c : Column) (k : Kind) → IsRead m h p rows s → has_row m u ≡ true
    → column_in u.table i ≡ Some c → is_some (kind_of c) ≡ true → is_plain k ≡ true → kind_in u.table i ≡ Some k → is_some (cell_read (reading_of s) c (raw_in s u i)) ≡ true
cell_some m h p rows s u i c k r there e some plainly kind =
    let plain = plain_kind u.table i k plainly kind in
    ap is_some (plain_meant m h p rows s u i c r there e some plain.body plain.field) ∙ some_kind (cell_of m u i) k (r.sound.kinds.kinds u i k there kind)

offset_good : (m : Module) (h : Built) (p : Placed) (rows : List (List (List ℕ))) (s : Source) (u : Token) (i : ℕ) (c : Column) → IsRead m h p rows s → has_row m u ≡ true
    → column_in u.table i ≡ Some c → (is_offset c && not (is_some (cell_read (reading_of s) c (raw_in s u i)))) ≡ false
offset_good m h p rows s u i Text r there e = ap not (cell_some m h p rows s u i Text texts r there e refl refl (text_kind u.table i e))
offset_good m h p rows s u i Guid r there e = ap not (cell_some m h p rows s u i Guid guids r there e refl refl (guid_kind u.table i e))
offset_good m h p rows s u i Blob r there e = ap not (cell_some m h p rows s u i Blob blobs r there e refl refl (blob_kind u.table i e))
offset_good m h p rows s u i Num8 r there e = refl
offset_good m h p rows s u i Num16 r there e = refl
offset_good m h p rows s u i Num32 r there e = refl
offset_good m h p rows s u i (Index t) r there e = refl
offset_good m h p rows s u i (Coded k) r there e = refl
offset_good m h p rows s u i (Run t) r there e = refl

by_column : (s : Source) (u : Token) (i : ℕ) (o : Option Column) → column_in u.table i ≡ o
    → ((c : Column) → column_in u.table i ≡ Some c → (is_offset c && not (is_some (cell_read (reading_of s) c (raw_in s u i)))) ≡ false)
    → option_and_then (λ (c : Column). if is_offset c && not (is_some (cell_for s c (raw_in s u i))) then Some (place.Cell u i) else None) o ≡ None
by_column s u i None e good = refl
by_column s u i (Some c) e good = ap (λ (b : Bool). if b then Some (place.Cell u i) else None) (good c e)

offset_none : (m : Module) (h : Built) (p : Placed) (rows : List (List (List ℕ))) (s : Source) (t k i : ℕ) → IsRead m h p rows s → t < 0x2D → k < rows_of s.layout t
    → offset_fault_at s (nth_row t k) i ≡ None
unfolding offset_fault_at
offset_none m h p rows s t k i r low there = by_column s (nth_row t k) i (column_in t i) refl (λ c e. elim (part_cases (is_part t)) [
  | inl part ↦ offset_good m h p rows s (nth_row t k) i c r (row_read m h p rows s t k r part low there) e
  | inr other ↦ ap (λ (b : Bool). b && not (is_some (cell_read (reading_of s) c (raw_in s (nth_row t k) i)))) (plain_at (columns_in t) i c (others no_offsets t others_plain other) e)
])

pub no_offset_fault : (m : Module) (h : Built) (p : Placed) (rows : List (List (List ℕ))) (s : Source) → IsRead m h p rows s → offset_fault s ≡ None
unfolding offset_fault offset_fault_in offset_fault_in_row
no_offset_fault m h p rows s r =
    none_below (offset_fault_in s) 0x2D (λ t low.
    none_below (offset_fault_in_row s t) (rows_of s.layout t) (λ k there.
    none_below (offset_fault_at s (nth_row t k)) (length (columns_in t)) (λ i less. offset_none m h p rows s t k i r low there)))

-- no signature is bad
abbrev unsigned : ℕ → Bool
unsigned t = not (is_some (signature_column t))

others_unsigned : list_all unsigned other_tables ≡ true
unfolding signature_column
others_unsigned = refl

no_some : (o : Option ℕ) (i : ℕ) → not (is_some o) ≡ true → o ≡ Some i → ⊥
no_some None i h e = absurd cc
no_some (Some k) i h e = absurd cc

signature_part : (t i : ℕ) → signature_column t ≡ Some i → is_part t ≡ true
signature_part t i e = elim (part_cases (is_part t)) [
  | inl part ↦ part
  | inr other ↦ absurd (no_some (signature_column t) i (others unsigned t others_unsigned other) e)
]

signature_good : (m : Module) (h : Built) (p : Placed) (rows : List (List (List ℕ))) (s : Source) (u : Token) (i : ℕ) → IsRead m h p rows s → has_row m u ≡ true
    → signature_column u.table ≡ Some i → is_signature (rows_of s.layout) u.table (blob_or_none s (raw_in s u i)) ≡ true
signature_good m h p rows s u i r there column =
    let grow : TypesGrow (row_count m) (rows_of s.layout) = record {
      definitions = count_least m h p rows s 0x02 r;
      references = count_least m h p rows s 0x01 r;
      specifications = count_least m h p rows s 0x1B r;
    } in
    subst (λ (x : List ℕ). is_signature (rows_of s.layout) u.table x ≡ true) (blob_meant m h p rows s u i r there (signature_kind u.table i column))
    (signature_kept (row_count m) (rows_of s.layout) u.table (bytes_at (cells_of m) u i) grow (r.sound.signatures.each u i there column))

signature_none : (m : Module) (h : Built) (p : Placed) (rows : List (List (List ℕ))) (s : Source) (t i k : ℕ) → IsRead m h p rows s → t < 0x2D → signature_column t ≡ Some i
    → k < rows_of s.layout t → signature_fault_at s t i k ≡ None
unfolding signature_fault_at
signature_none m h p rows s t i k r low column there =
    ap (λ (b : Bool). if b then None else Some (place.Cell (nth_row t k) i))
    (signature_good m h p rows s (nth_row t k) i r (row_read m h p rows s t k r (signature_part t i column) low there) column)

signatures_by : (m : Module) (h : Built) (p : Placed) (rows : List (List (List ℕ))) (s : Source) (t : ℕ) (o : Option ℕ) → IsRead m h p rows s → t < 0x2D → signature_column t ≡ o
    → option_and_then (λ (i : ℕ). first_below (signature_fault_at s t i) (rows_of s.layout t)) o ≡ None
signatures_by m h p rows s t None r low column = refl
signatures_by m h p rows s t (Some i) r low column =
    none_below (signature_fault_at s t i) (rows_of s.layout t) (λ k there. signature_none m h p rows s t i k r low column there)

pub no_signature_fault : (m : Module) (h : Built) (p : Placed) (rows : List (List (List ℕ))) (s : Source) → IsRead m h p rows s → signature_fault s ≡ None
unfolding signature_fault signature_fault_in
no_signature_fault m h p rows s r =
    none_below (signature_fault_in s) 0x2D (λ t low. signatures_by m h p rows s t (signature_column t) r low refl)

-- no body is bad
body_good : (m : Module) (h : Built) (p : Placed) (rows : List (List (List ℕ))) (s : Source) (u : Token) → IsRead m h p rows s → has_row m u ≡ true → u.table ≡ 0x06
    → body_is_good (rows_of s.layout) (users_of s) s.loaded (raw_in s u 0) (raw_in s u 1) ≡ true
unfolding columns_in
body_good m h p rows s u r there table =
    let b = row_bounds m u there in
    let e : nth_row 0x06 (u.row - 1) ≡ u = ap (λ (t : ℕ). nth_row t (u.row - 1)) (sym table) ∙ token_is u b.0 in
    let stands = body_stands m h p rows s u r there table in
    let loaded = loaded_with p.code r.read.behind in
    let users = user_at (heaps_built h).users in
    let flags : number_at (cells_of m) (nth_row 0x06 (u.row - 1)) 1 ≡ raw_in s u 1 = ap (λ (t : Token). number_at (cells_of m) t 1) e ∙ number_meant m h p rows s u 1 r there (rw table refl) in
    let grow : Grow (row_count m) (rows_of s.layout) = record { each = λ t named. count_least m h p rows s t r } in
    let one = subst (λ (n : ℕ). body_is_good (row_count m) users loaded (raw_in s u 0) n ≡ true) flags (stands.good r.read.behind) in
    let two = body_kept (row_count m) (rows_of s.layout) users loaded (raw_in s u 0) (raw_in s u 1) grow one in
    let three = subst (λ (c : Counted). body_is_good (rows_of s.layout) (user_at c.users) loaded (raw_in s u 0) (raw_in s u 1) ≡ true) (sym r.read.heaps) two in
    subst (λ (l : List Region). body_is_good (rows_of s.layout) (users_of s) l (raw_in s u 0) (raw_in s u 1) ≡ true) (sym r.read.loaded) three

begins_by : (a : Bool) (x y : List ℕ) → (a || begins_locals x) ≡ true → (a ≡ false → x ≡ y) → (a || begins_locals y) ≡ true
begins_by true x y h same = refl
begins_by false x y h same = subst (λ (z : List ℕ). begins_locals z ≡ true) (same refl) h

locals_begin : (m : Module) (h : Built) (p : Placed) (rows : List (List (List ℕ))) (s : Source) (t : Token) → IsRead m h p rows s → locals_are_good (row_count m) t ≡ true
    → (t.row == 0 || begins_locals (bytes_at (cells_of m) t 0)) ≡ true → (t.row == 0 || begins_locals (blob_or_none s (raw_in s t 0))) ≡ true
unfolding columns_in
locals_begin m h p rows s t r good begins = begins_by (t.row == 0) (bytes_at (cells_of m) t 0) (blob_or_none s (raw_in s t 0)) begins (λ some.
    let q = good_local (row_count m) t good some in
    let there = row_within m t q.1 (subst (λ (k : ℕ). t.row ≤ row_count m k) (sym q.0) q.2) in
    blob_meant m h p rows s t 0 r there (rw q.0 refl))

locals_by : (m : Module) (h : Built) (p : Placed) (rows : List (List (List ℕ))) (s : Source) (u : Token) (o : Option Code) → IsRead m h p rows s → has_row m u ≡ true → u.table ≡ 0x06
    → code_loaded s.loaded (raw_in s u 0) ≡ o → has_locals s o ≡ true
unfolding method_is_sound body_loaded body_of columns_in
locals_by m h p rows s u None r there table is = refl
locals_by m h p rows s u (Some c) r there table is =
    let b = body_of (users_of s) c in
    let column : column_in u.table 0 ≡ Some Num32 = rw table refl in
    let cell : cell_of m u 0 ≡ Some (body (Some b)) = sym (body_meant m h p rows s u r there table) ∙ ap (λ (x : Option Code). Some (body (option_map (body_of (users_of s)) x))) is in
    let good : method_is_sound m u b ≡ true = r.sound.cells.each u 0 Num32 (body (Some b)) there column cell in
    let q = and_parts (number_at (cells_of m) u 1 % 4 == 0 && body_is_sound (row_count m) b) (locals_are_sound m b.locals) good in
    let w = and_parts (number_at (cells_of m) u 1 % 4 == 0) (body_is_sound (row_count m) b) q.0 in
    locals_begin m h p rows s c.locals r (sound_locals (row_count m) b w.1) (sound_begins m c.locals q.1)

body_none : (m : Module) (h : Built) (p : Placed) (rows : List (List (List ℕ))) (s : Source) (k : ℕ) → IsRead m h p rows s → k < rows_of s.layout 0x06 → body_fault_at s k ≡ None
unfolding body_fault_at
body_none m h p rows s k r low =
    let u = nth_row 0x06 k in
    let there = row_read m h p rows s 0x06 k r refl (omega arith) low in
    ap (λ (b : Bool). if b then None else Some (place.Row (nth_row 0x06 k)))
    (and_from _ _ (body_good m h p rows s u r there refl) (locals_by m h p rows s u (code_loaded s.loaded (raw_in s u 0)) r there refl refl))

pub no_body_fault : (m : Module) (h : Built) (p : Placed) (rows : List (List (List ℕ))) (s : Source) → IsRead m h p rows s → body_fault s ≡ None
unfolding body_fault
no_body_fault m h p rows s r = none_below (body_fault_at s) (rows_of s.layout 0x06) (λ k low. body_none m h p rows s k r low)

-- and each field with an RVA has its bytes
by_rva : (n : ℕ) (b : Bool) (o : Option (List ℕ)) → (n == 0) ≡ b → (0 < n → (x : List ℕ) × (o ≡ Some x)) → (b || is_some o) ≡ true
by_rva n true o is some = refl
by_rva n false o is some = let low : 0 < n = grind (arith, nat_tests) in let w = some low in ap is_some w.1

field_none : (m : Module) (h : Built) (p : Placed) (rows : List (List (List ℕ))) (s : Source) (k : ℕ) → IsRead m h p rows s → k < rows_of s.layout 0x1D → field_fault_at s k ≡ None
unfolding field_fault_at
field_none m h p rows s k r low =
    let u = nth_row 0x1D k in
    let there = row_read m h p rows s 0x1D k r refl (omega arith) low in
    ap (λ (b : Bool). if b then None else Some (place.Row (nth_row 0x1D k)))
    (by_rva (raw_in s u 0) (raw_in s u 0 == 0) (bytes_of_field s u) refl (λ some. field_loaded m h p rows s u r there refl some))

pub no_field_fault : (m : Module) (h : Built) (p : Placed) (rows : List (List (List ℕ))) (s : Source) → IsRead m h p rows s → field_fault s ≡ None
unfolding field_fault
no_field_fault m h p rows s r =
    ap (λ (b : Bool). if b then None else first_below (field_fault_at s) (rows_of s.layout 0x1D)) r.read.bare
    ∙ none_below (field_fault_at s) (rows_of s.layout 0x1D) (λ k low. field_none m h p rows s k r low)
