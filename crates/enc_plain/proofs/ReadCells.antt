-- A cell that is read fits its column, where what it is read by fits the module.
use Rattle.std.proofs.Common.{◌≡◌, ℕ, zero, suc, ◌+◌, ◌/◌, ◌%◌, ◌<◌, ◌≤◌, ◌^◌, Bool, true, false, List, [], ◌∷◌, length, Option, Some, None, refl, arith}
use Rattle.std.specs.Prelude.{◌&&◌, ◌||◌, ◌==◌, not, option_map, option_and_then, unwrap_or, nat_lt, nat_le, slice_get, if◌then◌else◌}
use Rattle.std.specs.List.{list_all, list_any}
use Rattle.std.specs.Option.{option_map_or}
use Rattle.std.proofs.lemmas.Bool.Decides.{nat_tests}
use Rattle.std.proofs.lemmas.Bool.{and_parts, and_from}
use Rattle.enc_base.specs.Token.{nil, is_token}
use Rattle.enc_base.specs.declared.token.Token.{Token}
use Rattle.enc_schema.specs.declared.column.Column.{Column}
use Rattle.enc_schema.specs.declared.column.Column.TheVariants.{Num8, Num16, Num32, Text, Guid, Blob, Index, Coded, Run}
use Rattle.enc_schema.specs.declared.column.Coding.{Coding}
use Rattle.enc_schema.specs.Schema.{list_at, schema, columns_in, column_in}
use Rattle.enc_schema.specs.Coding.{tables_of, each_table, table_with, tag_bits, decoded}
use Rattle.enc_plain.specs.Cell.{number, text, blob, guid, refer}
use Rattle.enc_plain.specs.Module.{Module, has_row}
use Rattle.enc_plain.specs.Reading.{Reading, within, index_token, cell_read}
use Rattle.enc_plain.specs.Sound.{row_count, is_part, is_tables, can_name, is_reference, number_fits, cell_is_sound}

-- a text has no zero, a GUID has sixteen bytes, and no table has more rows than the module
pub record ReadsFor (m : Module) (r : Reading) : Type 0 where
  pub texts : (n : ℕ) (x : List ℕ) → r.text n ≡ Some x → list_any (λ b. b == 0) x ≡ false
  pub guids : (n : ℕ) (x : List ℕ) → r.guid n ≡ Some x → length x ≡ 16
  pub rows : (t : ℕ) → is_part t ≡ true → t < 0x2D → r.count t ≤ row_count m t

-- the table is a part of modules
abbrev in_module : ℕ → Bool
in_module t = is_part t && nat_lt t 0x2D

abbrev names_parts : Column → Bool
names_parts (Index t) = in_module t
names_parts (Coded kind) = each_table in_module (tables_of kind)
names_parts _ = true

-- columns of a part name parts
numbered : (ℕ → List Column → Bool) → ℕ → List (List Column) → Bool
numbered test n [] = true
numbered test n (x ∷ xs) = test n x && numbered test (suc n) xs

part_names : ℕ → List Column → Bool
part_names t cs = not (in_module t) || list_all names_parts cs

all_name : numbered part_names 0 schema ≡ true
unfolding numbered part_names tables_of
all_name = refl

all_at : (p : Column → Bool) (xs : List Column) (i : ℕ) (c : Column) → list_all p xs ≡ true → slice_get xs i ≡ Some c → p c ≡ true
all_at p [] i c h e = absurd cc
all_at p (x ∷ xs) zero c h e = let is : x ≡ c = cc in rw (← is) (and_parts (p x) (list_all p xs) h).0
all_at p (x ∷ xs) (suc i) c h e = all_at p xs i c (and_parts (p x) (list_all p xs) h).1 e

unless : (a b : Bool) → (not a || b) ≡ true → a ≡ true → b ≡ true
unless true b h e = h
unless false b h e = absurd cc

numbered_at : (n k : ℕ) (xs : List (List Column)) (c : Column) (i : ℕ) → numbered part_names n xs ≡ true → slice_get (list_at xs k) i ≡ Some c → in_module (n + k) ≡ true → names_parts c ≡ true
unfolding numbered part_names
numbered_at n k [] c i h e p = absurd cc
numbered_at n zero (x ∷ xs) c i h e p =
    let z : n + 0 ≡ n = omega arith in
    let here = (and_parts (part_names n x) (numbered part_names (suc n) xs) h).0 in
    all_at names_parts x i c (unless (in_module n) (list_all names_parts x) here (rw z at p)) e
numbered_at n (suc k) (x ∷ xs) c i h e p =
    let z : n + suc k ≡ suc n + k = omega arith in
    numbered_at (suc n) k xs c i (and_parts (part_names n x) (numbered part_names (suc n) xs) h).1 e (rw z at p)

part_low : (t : ℕ) → is_part t ≡ true → t < 0x2D → in_module t ≡ true
part_low t part low = let e : nat_lt t 0x2D ≡ true = grind (arith, nat_tests) in and_from (is_part t) (nat_lt t 0x2D) part e

column_names : (t i : ℕ) (c : Column) → is_part t ≡ true → t < 0x2D → column_in t i ≡ Some c → names_parts c ≡ true
unfolding columns_in
column_names t i c part low e =
    let z : 0 + t ≡ t = omega arith in
    numbered_at 0 t schema c i all_name e (rw z (part_low t part low))

-- a text, a blob and a GUID that are read fit, and so does the number in place of one that isn't
text_fits : (m : Module) (u : Token) (o : Option (List ℕ)) → ((x : List ℕ) → o ≡ Some x → list_any (λ b. b == 0) x ≡ false) → cell_is_sound m u Text (unwrap_or (option_map text o) (number 0)) ≡ true
text_fits m u None h = refl
text_fits m u (Some x) h = rw (h x refl) refl

blob_fits : (m : Module) (u : Token) (o : Option (List ℕ)) → cell_is_sound m u Blob (unwrap_or (option_map blob o) (number 0)) ≡ true
blob_fits m u None = refl
blob_fits m u (Some x) = refl

guid_fits : (m : Module) (u : Token) (o : Option (List ℕ)) → ((x : List ℕ) → o ≡ Some x → length x ≡ 16) → cell_is_sound m u Guid (unwrap_or (option_map guid o) (number 0)) ≡ true
guid_fits m u None h = refl
guid_fits m u (Some x) h = let many = h x refl in grind (arith, nat_tests)

-- a token within the counts is nil or a row of a table that the column can name
named : (m : Module) (r : Reading) (c : Column) (t : Token) → ReadsFor m r → can_name c t.table ≡ true → in_module t.table ≡ true → 0 < t.row → nat_le t.row (r.count t.table) ≡ true → is_reference m c t ≡ true
unfolding is_reference has_row
named m r c t reads can part low fits =
    let p = and_parts (is_part t.table) (nat_lt t.table 0x2D) part in
    let under : t.table < 0x2D = grind (arith, nat_tests) in
    let many : r.count t.table ≤ row_count m t.table = reads.rows t.table p.0 under in
    let some : nat_lt 0 t.row ≡ true = grind (arith, nat_tests) in
    let there : nat_le t.row (row_count m t.table) ≡ true = grind (arith, nat_tests) in
    or_right (is_token t nil) _ (rw (can, some, there) refl)
  where
    or_right : (a b : Bool) → b ≡ true → (a || b) ≡ true
    or_right true b h = refl
    or_right false b h = h

nil_named : (m : Module) (c : Column) → is_reference m c nil ≡ true
unfolding is_reference
nil_named m c = refl

within_fits : (m : Module) (u : Token) (r : Reading) (c : Column) (t : Token) (b : Bool) → ReadsFor m r → can_name c t.table ≡ true → in_module t.table ≡ true → 0 < t.row → nat_le t.row (r.count t.table) ≡ b → cell_is_sound m u c (unwrap_or (option_map refer (if b then Some t else None)) (number 0)) ≡ true
within_fits m u r c t true reads can part low fits = named m r c t reads can part low fits
within_fits m u r c t false reads can part low fits = zero_fits c
  where
    zero_fits : (c : Column) → number_fits c 0 ≡ true
    zero_fits Num8 = refl
    zero_fits Num16 = refl
    zero_fits Num32 = refl
    zero_fits Text = refl
    zero_fits Guid = refl
    zero_fits Blob = refl
    zero_fits (Index t) = refl
    zero_fits (Coded k) = refl
    zero_fits (Run t) = refl

-- a decoded token is nil, or of a table of the coding
eq_self : (n : ℕ) → (n == n) ≡ true
eq_self n = grind (arith, nat_tests)

in_tables : (tables : List (Option ℕ)) (tag t : ℕ) → option_and_then (λ (x : Option ℕ). x) (slice_get tables tag) ≡ Some t → (list_any (is_tables t) tables ≡ true) × (each_table in_module tables ≡ true → in_module t ≡ true)
in_tables [] tag t h = absurd cc
in_tables (None ∷ rest) zero t h = absurd cc
in_tables (Some x ∷ rest) zero t h = let is : x ≡ t = cc in (rw (is, eq_self t) refl, λ all. rw (← is) (and_parts (in_module x) _ all).0)
in_tables (x ∷ rest) (suc tag) t h =
    let i = in_tables rest tag t h in
    (or_right (is_tables t x) _ i.0, λ all. i.1 (and_parts (option_map_or in_module x true) _ all).1)
  where
    or_right : (a b : Bool) → b ≡ true → (a || b) ≡ true
    or_right true b h = refl
    or_right false b h = h

tagged_fits : (m : Module) (u : Token) (r : Reading) (kind : Coding) (row tag : ℕ) (o : Option ℕ) → ReadsFor m r → names_parts (Coded kind) ≡ true → 0 < row → table_with kind tag ≡ o → cell_is_sound m u (Coded kind) (unwrap_or (option_map refer (option_and_then (within r.count) (option_map (λ (t : ℕ). record { table = t; row = row }) o))) (number 0)) ≡ true
unfolding table_with
tagged_fits m u r kind row tag None reads parts low is = refl
tagged_fits m u r kind row tag (Some t) reads parts low is =
    let i = in_tables (tables_of kind) tag t is in
    let token : Token = record { table = t; row = row } in
    within_fits m u r (Coded kind) token (nat_le row (r.count t)) reads i.0 (i.1 parts) low refl

coded_fits : (m : Module) (u : Token) (r : Reading) (kind : Coding) (n row : ℕ) (b : Bool) → ReadsFor m r → names_parts (Coded kind) ≡ true → (row == 0) ≡ b → cell_is_sound m u (Coded kind) (unwrap_or (option_map refer (option_and_then (within r.count) (if b then Some nil else option_map (λ (t : ℕ). record { table = t; row = row }) (table_with kind (n % 2 ^ tag_bits kind))))) (number 0)) ≡ true
coded_fits m u r kind n row true reads parts is =
    let z : nat_le 0 (r.count 0) ≡ true = grind (arith, nat_tests) in
    rw z (nil_named m (Coded kind))
coded_fits m u r kind n row false reads parts is = tagged_fits m u r kind row (n % 2 ^ tag_bits kind) (table_with kind (n % 2 ^ tag_bits kind)) reads parts (grind (arith, nat_tests)) refl

index_fits : (m : Module) (u : Token) (r : Reading) (t n : ℕ) → ReadsFor m r → in_module t ≡ true → cell_is_sound m u (Index t) (unwrap_or (option_map refer (within r.count (index_token t n))) (number 0)) ≡ true
index_fits m u r t zero reads part =
    let z : nat_le 0 (r.count 0) ≡ true = grind (arith, nat_tests) in
    rw z (nil_named m (Index t))
index_fits m u r t (suc n) reads part = within_fits m u r (Index t) (record { table = t; row = suc n }) (nat_le (suc n) (r.count t)) reads (eq_self t) part (omega arith) refl

read_by : (m : Module) (u : Token) (r : Reading) (c : Column) (n : ℕ) → ReadsFor m r → names_parts c ≡ true → number_fits c n ≡ true → cell_is_sound m u c (unwrap_or (cell_read r c n) (number 0)) ≡ true
unfolding cell_read decoded
read_by m u r Num8 n reads parts fits = fits
read_by m u r Num16 n reads parts fits = fits
read_by m u r Num32 n reads parts fits = fits
read_by m u r Text n reads parts fits = text_fits m u (r.text n) (reads.texts n)
read_by m u r Guid n reads parts fits = guid_fits m u (r.guid n) (reads.guids n)
read_by m u r Blob n reads parts fits = blob_fits m u (r.blob n)
read_by m u r (Index t) n reads parts fits = index_fits m u r t n reads parts
read_by m u r (Coded kind) n reads parts fits = coded_fits m u r kind n (n / 2 ^ tag_bits kind) ((n / 2 ^ tag_bits kind) == 0) reads parts refl
read_by m u r (Run t) n reads parts fits = refl

-- a cell that is read in a part's column fits the column
pub read_fits : (m : Module) (u : Token) (r : Reading) (i : ℕ) (c : Column) (n : ℕ) → ReadsFor m r → is_part u.table ≡ true → u.table < 0x2D → column_in u.table i ≡ Some c → number_fits c n ≡ true → cell_is_sound m u c (unwrap_or (cell_read r c n) (number 0)) ≡ true
read_fits m u r i c n reads part low e fits = read_by m u r c n reads (column_names u.table i c part low e) fits
