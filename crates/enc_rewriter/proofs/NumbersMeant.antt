-- The numbers that are read of an image that was written, and what they say of the module.
use Rattle.std.proofs.Common.{◌≡◌, ℕ, zero, suc, ◌-◌, ◌<◌, ◌≤◌, Bool, true, false, List, [], Option, Some, None, refl, sym, ap, subst, ◌∙◌, inl, inr, arith}
use Rattle.std.specs.Prelude.{option_map, option_and_then, unwrap_or, is_some, nat_le, if◌then◌else◌}
use Rattle.std.proofs.lemmas.Bool.{cases_lt}
use Rattle.std.proofs.lemmas.Bool.Decides.{nat_tests}
use Rattle.enc_base.specs.Token.{nth_row}
use Rattle.enc_base.specs.declared.token.Token.{Token}
use Rattle.enc_image.specs.Base.{blob_or_none, reading_of}
use Rattle.enc_image.proofs.Rows.{token_is}
use Rattle.enc_meta.specs.Built.{Built, heaps_built}
use Rattle.enc_meta.specs.Heaps.{Counted, text_at, blob_at, guid_at}
use Rattle.enc_plain.specs.Cell.{Cell, text, blob, guid, refer, numbers, blobs, references, kind_of, kind_in, is_body, is_field, cell_kind}
use Rattle.enc_plain.specs.Module.{Module, has_row, cells_of, cell_of}
use Rattle.enc_plain.specs.Reading.{within, index_token, cell_read}
use Rattle.enc_plain.specs.Rows.{bytes_of_cell, number_at, bytes_at, token_at}
use Rattle.enc_plain.specs.Sound.{IsSound, is_part, row_count}
use Rattle.enc_plain.proofs.CellsOf.{cell_there, number_there, token_there}
use Rattle.enc_plain.proofs.Columns.{plain_kind, column_with, blob_column, number_for}
use Rattle.enc_plain.proofs.KindsOf.{row_table, row_bounds}
use Rattle.enc_rows.specs.Layout.{rows_of}
use Rattle.enc_rows.specs.Source.{Source, raw_in}
use Rattle.enc_schema.specs.Coding.{decoded}
use Rattle.enc_schema.specs.Schema.{column_in}
use Rattle.enc_schema.specs.declared.column.Column.{Column}
use Rattle.enc_schema.specs.declared.column.Column.TheVariants.{Num8, Num16, Num32, Text, Guid, Blob, Index, Coded, Run}
use Rattle.enc_rewriter.specs.Numbers.{reading_by, PlainNumberSays, NumberSays}
use Rattle.enc_rewriter.specs.Placed.{Placed}
use Rattle.enc_rewriter.specs.Rewritten.{HoldModule}
use Rattle.enc_rewriter.proofs.Gathers.{row_there}
use Rattle.enc_rewriter.proofs.NumbersWritten.{number_written}
use Rattle.enc_rewriter.proofs.ReadAs.{IsReadAs}
use Rattle.enc_rewriter.proofs.RefersTo.{index_kind, coded_kind}
use Rattle.enc_rewriter.proofs.Sources.{part_count}

-- a sound module, the parts that hold it, and what is read of their image
pub record IsRead (m : Module) (h : Built) (p : Placed) (rows : List (List (List ℕ))) (s : Source) : Type 0 where
  pub sound : IsSound m
  pub held : HoldModule m h p rows
  pub read : IsReadAs m h p rows s

-- a table with rows is a part of modules
pub some_part : (m : Module) (t : ℕ) → IsSound m → 0 < row_count m t → (is_part t ≡ true) × (t < 0x2D)
some_part m t sound some = row_table m (nth_row t 0) sound.owners.tables sound.counts (row_there m t 0 some)

-- a part has the module's rows
pub count_read : (m : Module) (h : Built) (p : Placed) (rows : List (List (List ℕ))) (s : Source) (t : ℕ) → IsRead m h p rows s → is_part t ≡ true → t < 0x2D
    → rows_of s.layout t ≡ row_count m t
count_read m h p rows s t r part low = r.read.counts t (omega (arith, low)) ∙ part_count m h p rows t r.held.said part

pub count_some : (m : Module) (h : Built) (p : Placed) (rows : List (List (List ℕ))) (s : Source) (t : ℕ) → IsRead m h p rows s → 0 < row_count m t
    → rows_of s.layout t ≡ row_count m t
count_some m h p rows s t r some = let q = some_part m t r.sound some in count_read m h p rows s t r q.0 q.1

-- and no table has fewer
pub count_least : (m : Module) (h : Built) (p : Placed) (rows : List (List (List ℕ))) (s : Source) (t : ℕ) → IsRead m h p rows s
    → row_count m t ≤ rows_of s.layout t
count_least m h p rows s t r = elim (cases_lt 0 (row_count m t)) [
  | inl some ↦ omega (arith, count_some m h p rows s t r some)
  | inr none ↦ omega (arith, none)
]

-- the number that is read in a column says what the module has there
pub number_says : (m : Module) (h : Built) (p : Placed) (rows : List (List (List ℕ))) (s : Source) (u : Token) (i : ℕ) (c : Column) → IsRead m h p rows s → has_row m u ≡ true
    → column_in u.table i ≡ Some c → NumberSays m (heaps_built h) p u i c (raw_in s u i)
number_says m h p rows s u i c r there e =
    let part = row_table m u r.sound.owners.tables r.sound.counts there in
    let b = row_bounds m u there in
    let x = number_written m (heaps_built h) p rows u.table (u.row - 1) i c r.held.said part.0 (omega (arith, b.0, b.1)) e in
    let number : raw_in s (nth_row u.table (u.row - 1)) i ≡ x.number = r.read.numbers u.table (u.row - 1) i x.cells x.number x.row x.get in
    subst (λ (t : Token). NumberSays m (heaps_built h) p t i c (raw_in s t i)) (token_is u b.0)
    (subst (λ (n : ℕ). NumberSays m (heaps_built h) p (nth_row u.table (u.row - 1)) i c n) (sym number) x.says)

-- a column with cells that isn't one of places
cell_said : (m : Module) (h : Counted) (u : Token) (i : ℕ) (c : Column) (x : ℕ) → is_some (kind_of c) ≡ true → PlainNumberSays m h u i c x
    → cell_read (reading_by m h) c x ≡ cell_of m u i
cell_said m h u i Num8 x kind says = says
cell_said m h u i Num16 x kind says = says
cell_said m h u i Num32 x kind says = says
cell_said m h u i Text x kind says = says
cell_said m h u i Guid x kind says = says
cell_said m h u i Blob x kind says = says
cell_said m h u i (Index t) x kind says = says
cell_said m h u i (Coded k) x kind says = says
cell_said m h u i (Run t) x kind says = absurd cc

pub plain_says : (m : Module) (h : Built) (p : Placed) (rows : List (List (List ℕ))) (s : Source) (u : Token) (i : ℕ) (c : Column) → IsRead m h p rows s → has_row m u ≡ true
    → column_in u.table i ≡ Some c → is_some (kind_of c) ≡ true → is_body u.table i ≡ false → is_field u.table i ≡ false
    → cell_read (reading_by m (heaps_built h)) c (raw_in s u i) ≡ cell_of m u i
plain_says m h p rows s u i c r there e kind body field =
    let says = number_says m h p rows s u i c r there e in
    cell_said m (heaps_built h) u i c (raw_in s u i) kind (says.plain body field)

-- a number is the module's
pub number_meant : (m : Module) (h : Built) (p : Placed) (rows : List (List (List ℕ))) (s : Source) (u : Token) (i : ℕ) → IsRead m h p rows s → has_row m u ≡ true
    → kind_in u.table i ≡ Some numbers → number_at (cells_of m) u i ≡ raw_in s u i
number_meant m h p rows s u i r there kind =
    let plain = plain_kind u.table i numbers refl kind in
    let w = column_with (column_in u.table i) numbers plain.kind in
    let says = plain_says m h p rows s u i w.0 r there w.1 (ap is_some w.2) plain.body plain.field in
    sym (number_there m u i (raw_in s u i) (sym says ∙ number_for (reading_by m (heaps_built h)) w.0 (raw_in s u i) w.2))

-- and so is a blob
blob_bytes : (o : Option (List ℕ)) → bytes_of_cell (option_map blob o) ≡ unwrap_or o []
blob_bytes None = refl
blob_bytes (Some x) = refl

pub blob_meant : (m : Module) (h : Built) (p : Placed) (rows : List (List (List ℕ))) (s : Source) (u : Token) (i : ℕ) → IsRead m h p rows s → has_row m u ≡ true
    → kind_in u.table i ≡ Some blobs → bytes_at (cells_of m) u i ≡ blob_or_none s (raw_in s u i)
unfolding bytes_at cell_read
blob_meant m h p rows s u i r there kind =
    let plain = plain_kind u.table i blobs refl kind in
    let w = column_with (column_in u.table i) blobs plain.kind in
    let e : column_in u.table i ≡ Some Blob = w.1 ∙ ap (λ (c : Column). Some c) (blob_column w.0 w.2) in
    let says : option_map blob (blob_at (heaps_built h).blobs (raw_in s u i)) ≡ cell_of m u i = plain_says m h p rows s u i Blob r there e refl plain.body plain.field in
    ap bytes_of_cell (cell_there m u i ∙ sym says)
    ∙ blob_bytes (blob_at (heaps_built h).blobs (raw_in s u i))
    ∙ ap (λ (c : Counted). unwrap_or (blob_at c.blobs (raw_in s u i)) []) (sym r.read.heaps)

-- an index names its row
no_kind : (o : Option Cell) → None ≡ o → option_map cell_kind o ≡ Some references → ⊥
no_kind None e kind = absurd cc
no_kind (Some c) e kind = absurd cc

named_by : (count : ℕ → ℕ) (t : Token) (b : Bool) (o : Option Cell) → nat_le t.row (count t.table) ≡ b → option_map cell_kind o ≡ Some references
    → option_map refer (if b then Some t else None) ≡ o → (o ≡ Some (refer t)) × (nat_le t.row (count t.table) ≡ true)
named_by count t true o is kind says = (sym says, is)
named_by count t false o is kind says = absurd (no_kind o says kind)

pub index_named : (m : Module) (h : Built) (p : Placed) (rows : List (List (List ℕ))) (s : Source) (u : Token) (i table : ℕ) → IsRead m h p rows s → has_row m u ≡ true
    → column_in u.table i ≡ Some (Index table)
    → (cell_of m u i ≡ Some (refer (index_token table (raw_in s u i)))) × (nat_le (index_token table (raw_in s u i)).row (row_count m (index_token table (raw_in s u i)).table) ≡ true)
unfolding cell_read
index_named m h p rows s u i table r there e =
    let t = index_token table (raw_in s u i) in
    let kind = index_kind u.table i table e in
    let plain = plain_kind u.table i references refl kind in
    let says = plain_says m h p rows s u i (Index table) r there e refl plain.body plain.field in
    named_by (row_count m) t (nat_le t.row (row_count m t.table)) (cell_of m u i) refl (r.sound.kinds.kinds u i references there kind) says

pub index_meant : (m : Module) (h : Built) (p : Placed) (rows : List (List (List ℕ))) (s : Source) (u : Token) (i table : ℕ) → IsRead m h p rows s → has_row m u ≡ true
    → column_in u.table i ≡ Some (Index table) → token_at (cells_of m) u i ≡ index_token table (raw_in s u i)
index_meant m h p rows s u i table r there e = sym (token_there m u i (index_token table (raw_in s u i)) (index_named m h p rows s u i table r there e).0)

-- what is within the module's rows is within those of the file
no_more : (row n k : ℕ) → nat_le row n ≡ true → nat_le row k ≡ false → (0 < n → k ≡ n) → ⊥
no_more zero n k a b same = let e : nat_le 0 k ≡ true = grind (arith, nat_tests) in let bad : true ≡ false = sym e ∙ b in absurd cc
no_more (suc row) n k a b same =
    let low : suc row ≤ n = grind (arith, nat_tests) in
    let e : nat_le (suc row) k ≡ true = subst (λ (j : ℕ). nat_le (suc row) j ≡ true) (sym (same (omega (arith, low)))) a in
    let bad : true ≡ false = sym e ∙ b in
    absurd cc

within_again : (f g : ℕ → ℕ) (t : Token) (a b : Bool) (cell : Option Cell) → nat_le t.row (f t.table) ≡ a → nat_le t.row (g t.table) ≡ b → ((k : ℕ) → 0 < f k → g k ≡ f k)
    → option_map cell_kind cell ≡ Some references → option_map refer (if a then Some t else None) ≡ cell → option_map refer (if b then Some t else None) ≡ cell
within_again f g t true true cell fa gb same kind says = says
within_again f g t true false cell fa gb same kind says = absurd (no_more t.row (f t.table) (g t.table) fa gb (same t.table))
within_again f g t false b cell fa gb same kind says = absurd (no_kind cell says kind)

refer_again : (f g : ℕ → ℕ) (o : Option Token) (cell : Option Cell) → ((k : ℕ) → 0 < f k → g k ≡ f k) → option_map cell_kind cell ≡ Some references
    → option_map refer (option_and_then (within f) o) ≡ cell → option_map refer (option_and_then (within g) o) ≡ cell
refer_again f g None cell same kind says = says
refer_again f g (Some t) cell same kind says = within_again f g t (nat_le t.row (f t.table)) (nat_le t.row (g t.table)) cell refl refl same kind says

read_by : (m : Module) (h : Built) (p : Placed) (rows : List (List (List ℕ))) (s : Source) (u : Token) (i x : ℕ) (c : Column) → IsRead m h p rows s → has_row m u ≡ true
    → column_in u.table i ≡ Some c → cell_read (reading_by m (heaps_built h)) c x ≡ cell_of m u i → cell_read (reading_of s) c x ≡ cell_of m u i
unfolding cell_read
read_by m h p rows s u i x Num8 r there e says = says
read_by m h p rows s u i x Num16 r there e says = says
read_by m h p rows s u i x Num32 r there e says = says
read_by m h p rows s u i x Text r there e says = ap (λ (c : Counted). option_map text (text_at c.strings x)) r.read.heaps ∙ says
read_by m h p rows s u i x Guid r there e says = ap (λ (c : Counted). option_map guid (guid_at c.guids x)) r.read.heaps ∙ says
read_by m h p rows s u i x Blob r there e says = ap (λ (c : Counted). option_map blob (blob_at c.blobs x)) r.read.heaps ∙ says
read_by m h p rows s u i x (Index t) r there e says =
    refer_again (row_count m) (rows_of s.layout) (Some (index_token t x)) (cell_of m u i) (λ k some. count_some m h p rows s k r some) (r.sound.kinds.kinds u i references there (index_kind u.table i t e)) says
read_by m h p rows s u i x (Coded k) r there e says =
    refer_again (row_count m) (rows_of s.layout) (decoded k x) (cell_of m u i) (λ k some. count_some m h p rows s k r some) (r.sound.kinds.kinds u i references there (coded_kind u.table i k e)) says
read_by m h p rows s u i x (Run t) r there e says = says

-- a cell that is neither a body nor a field's bytes is the module's
pub plain_meant : (m : Module) (h : Built) (p : Placed) (rows : List (List (List ℕ))) (s : Source) (u : Token) (i : ℕ) (c : Column) → IsRead m h p rows s → has_row m u ≡ true
    → column_in u.table i ≡ Some c → is_some (kind_of c) ≡ true → is_body u.table i ≡ false → is_field u.table i ≡ false
    → cell_read (reading_of s) c (raw_in s u i) ≡ cell_of m u i
plain_meant m h p rows s u i c r there e kind body field =
    read_by m h p rows s u i (raw_in s u i) c r there e (plain_says m h p rows s u i c r there e kind body field)
