-- References of a sound module and the numbers that stand for them.
use Rattle.std.proofs.Common.{◌≡◌, ℕ, zero, suc, ◌+◌, ◌*◌, ◌<◌, ◌≤◌, Bool, true, false, List, [], ◌∷◌, length, Option, Some, None, refl, sym, ap, ◌∙◌, arith, get_or}
use Rattle.std.specs.Prelude.{◌^◌, ◌&&◌, ◌||◌, ◌==◌, ◌≢◌, nat_le, option_map, option_and_then, if◌then◌else◌}
use Rattle.std.specs.List.{list_any}
use Rattle.std.proofs.lemmas.Bool.Decides.{nat_tests}
use Rattle.std.proofs.lemmas.Bool.{and_parts}
use Rattle.enc_base.specs.Token.{nil, is_token}
use Rattle.enc_base.specs.declared.token.Token.{Token}
use Rattle.enc_meta.specs.Heaps.{Counted}
use Rattle.enc_plain.specs.Cell.{refer, references, bodies, fields, kind_of, kind_in, is_body, is_field}
use Rattle.enc_plain.specs.Module.{Module, has_row, cell_of}
use Rattle.enc_plain.specs.Reading.{cell_read, within, index_token}
use Rattle.enc_plain.specs.Sound.{IsSound, is_reference, can_name, is_tables, row_count}
use Rattle.enc_schema.specs.Coding.{tables_of, tag_bits, decoded, named}
use Rattle.enc_schema.specs.Schema.{column_in}
use Rattle.enc_schema.specs.declared.column.Coding.{Coding}
use Rattle.enc_schema.specs.declared.column.Column.{Column}
use Rattle.enc_schema.specs.declared.column.Column.TheVariants.{Num32, Index, Coded}
use Rattle.enc_schema.specs.declared.column.Coding.TheVariants as coding
use Rattle.enc_schema.proofs.Codes.{decoded_at, decoded_zero}
use Rattle.enc_rewriter.specs.Numbers.{reading_by}
use Rattle.enc_rewriter.proofs.Gathers.{body_column, field_column}

kind_test : (t i : ℕ) (c : Column) (b f : Bool) → column_in t i ≡ Some c → is_body t i ≡ b → is_field t i ≡ f → (c ≡ Num32 → ⊥)
    → (if b then Some bodies else if f then Some fields else option_and_then kind_of (column_in t i)) ≡ kind_of c
kind_test t i c true f e is k other = absurd (other (body_column t i c e is))
kind_test t i c false true e is k other = absurd (other (field_column t i c e k))
kind_test t i c false false e is k other = rw e refl

-- a column that isn't one of four bytes has its own kind
pub other_kind : (t i : ℕ) (c : Column) → column_in t i ≡ Some c → (c ≡ Num32 → ⊥) → kind_in t i ≡ kind_of c
other_kind t i c e other = kind_test t i c (is_body t i) (is_field t i) e refl refl other

index_other : (t : ℕ) → Index t ≡ Num32 → ⊥
index_other t e = absurd cc

coded_other : (k : Coding) → Coded k ≡ Num32 → ⊥
coded_other k e = absurd cc

pub index_kind : (t i table : ℕ) → column_in t i ≡ Some (Index table) → kind_in t i ≡ Some references
index_kind t i table e = other_kind t i (Index table) e (index_other table)

pub coded_kind : (t i : ℕ) (k : Coding) → column_in t i ≡ Some (Coded k) → kind_in t i ≡ Some references
coded_kind t i k e = other_kind t i (Coded k) e (coded_other k)

pub index_sound : (m : Module) (u : Token) (i table : ℕ) (t : Token) → IsSound m → has_row m u ≡ true → column_in u.table i ≡ Some (Index table) → cell_of m u i ≡ Some (refer t)
    → is_reference m (Index table) t ≡ true
index_sound m u i table t sound there e is = sound.cells.each u i (Index table) (refer t) there e is

pub coded_sound : (m : Module) (u : Token) (i : ℕ) (k : Coding) (t : Token) → IsSound m → has_row m u ≡ true → column_in u.table i ≡ Some (Coded k) → cell_of m u i ≡ Some (refer t)
    → is_reference m (Coded k) t ≡ true
coded_sound m u i k t sound there e is = sound.cells.each u i (Coded k) (refer t) there e is

same_token : (t u : Token) → is_token t u ≡ true → t ≡ u
same_token t u e =
    let a : t.table ≡ u.table = grind (arith, nat_tests) in
    let b : t.row ≡ u.row = grind (arith, nat_tests) in
    ap (λ x. record { table = x; row = t.row }) a ∙ ap (λ y. record { table = u.table; row = y }) b

is_row : (m : Module) (t : Token) → has_row m t ≡ true → (0 < t.row) × (t.row ≤ row_count m t.table)
unfolding has_row
is_row m t e = (grind (arith, nat_tests), grind (arith, nat_tests))

token_by : (table row : ℕ) → 0 < row → index_token table row ≡ record { table = table; row = row }
token_by table zero low = absurd (omega (arith, low))
token_by table (suc r) low = refl

within_there : (count : ℕ → ℕ) (t : Token) → t.row ≤ count t.table → within count t ≡ Some t
within_there count t high = let e : nat_le t.row (count t.table) ≡ true = grind (arith, nat_tests) in rw e refl

index_there : (m : Module) (table : ℕ) (t : Token) → table ≡ t.table → has_row m t ≡ true → option_map refer (within (row_count m) (index_token table t.row)) ≡ Some (refer t)
index_there m table t e there =
    let row = is_row m t there in
    let is : index_token table t.row ≡ t = token_by table t.row row.0 ∙ ap (λ k. record { table = k; row = t.row }) e in
    ap (λ u. option_map refer (within (row_count m) u)) is ∙ ap (option_map refer) (within_there (row_count m) t row.1)

equal : (a b : ℕ) → (a == b) ≡ true → a ≡ b
equal a b e = grind (arith, nat_tests)

nil_within : (m : Module) → option_map refer (within (row_count m) nil) ≡ Some (refer nil)
nil_within m = ap (option_map refer) (within_there (row_count m) nil (omega arith))

index_by : (m : Module) (table : ℕ) (t : Token) (nothing : Bool) → is_token t nil ≡ nothing → (nothing || (table == t.table && has_row m t)) ≡ true
    → option_map refer (within (row_count m) (index_token table t.row)) ≡ Some (refer t)
index_by m table t true is there = let e = same_token t nil is in rw e (nil_within m)
index_by m table t false is there = let p = and_parts (table == t.table) (has_row m t) there in index_there m table t (equal table t.table p.0) p.1

pub index_says : (m : Module) (h : Counted) (table : ℕ) (t : Token) → is_reference m (Index table) t ≡ true → cell_read (reading_by m h) (Index table) t.row ≡ Some (refer t)
unfolding is_reference cell_read
index_says m h table t there = index_by m table t (is_token t nil) refl there

low_row : (m : Module) (t : Token) → ((k : ℕ) → row_count m k < 2 ^ 24) → has_row m t ≡ true → t.row < 2 ^ 24
low_row m t few there = let row = is_row m t there in omega (arith, row.1, few t.table)

low_by : (m : Module) (c : Column) (t : Token) (nothing : Bool) → ((k : ℕ) → row_count m k < 2 ^ 24) → is_token t nil ≡ nothing → (nothing || (can_name c t.table && has_row m t)) ≡ true → t.row < 2 ^ 24
low_by m c t true few is there = let e = same_token t nil is in rw e (omega arith)
low_by m c t false few is there = low_row m t few (and_parts (can_name c t.table) (has_row m t) there).1

-- a reference's row is of three bytes
by_reference : (m : Module) (k : Coding) (t : Token) → IsSound m → is_reference m (Coded k) t ≡ true → t.row < 2 ^ 24
unfolding is_reference
by_reference m k t sound there = low_by m (Coded k) t (is_token t nil) sound.counts.few refl there

pub coded_low : (m : Module) (u : Token) (i : ℕ) (k : Coding) (t : Token) → IsSound m → has_row m u ≡ true → column_in u.table i ≡ Some (Coded k) → cell_of m u i ≡ Some (refer t)
    → t.row < 2 ^ 24
coded_low m u i k t sound there e is = by_reference m k t sound (coded_sound m u i k t sound there e is)

named_test : (t : Token) (b : Bool) → (t.row == 0) ≡ b → 0 < t.row → (if b then nil else t) ≡ t
named_test t true e low = absurd (omega (arith, equal t.row 0 e, low))
named_test t false e low = refl

named_row : (t : Token) → 0 < t.row → named t ≡ t
named_row t low = named_test t (t.row == 0) refl low

coded_by : (m : Module) (k : Coding) (t : Token) (x : ℕ) (nothing : Bool) → is_token t nil ≡ nothing → (nothing || (can_name (Coded k) t.table && has_row m t)) ≡ true
    → decoded k x ≡ Some (named t) → option_map refer (option_and_then (within (row_count m)) (decoded k x)) ≡ Some (refer t)
coded_by m k t x true is there e =
    let n = same_token t nil is in
    ap (λ o. option_map refer (option_and_then (within (row_count m)) o)) e ∙ rw n (nil_within m)
coded_by m k t x false is there e =
    let row = (and_parts (can_name (Coded k) t.table) (has_row m t) there).1 in
    let r = is_row m t row in
    ap (λ o. option_map refer (option_and_then (within (row_count m)) o)) e
    ∙ ap (λ u. option_map refer (within (row_count m) u)) (named_row t r.0)
    ∙ ap (option_map refer) (within_there (row_count m) t r.1)

pub coded_says : (m : Module) (h : Counted) (k : Coding) (t : Token) (x : ℕ) → is_reference m (Coded k) t ≡ true → decoded k x ≡ Some (named t) → cell_read (reading_by m h) (Coded k) x ≡ Some (refer t)
unfolding is_reference cell_read
coded_says m h k t x there e = coded_by m k t x (is_token t nil) refl there e

few_tables : (k : Coding) → nat_le (length (tables_of k)) (2 ^ tag_bits k) ≡ true
unfolding tables_of tag_bits
few_tables coding.TypeDefOrRef = refl
few_tables coding.HasConstant = refl
few_tables coding.HasCustomAttribute = refl
few_tables coding.HasFieldMarshal = refl
few_tables coding.HasDeclSecurity = refl
few_tables coding.MemberRefParent = refl
few_tables coding.HasSemantics = refl
few_tables coding.MethodDefOrRef = refl
few_tables coding.MemberForwarded = refl
few_tables coding.Implementation = refl
few_tables coding.CustomAttributeType = refl
few_tables coding.ResolutionScope = refl
few_tables coding.TypeOrMethodDef = refl
few_tables coding.HasCustomDebugInformation = refl

tag_test : (table : ℕ) (o : Option ℕ) (b : Bool) → is_tables table o ≡ b → b ≡ true → o ≡ Some table
tag_test table (Some t) b e is = ap Some (equal t table (e ∙ is))
tag_test table None b e is = absurd cc

by_tag : (table : ℕ) (o : Option ℕ) (rest : List (Option ℕ)) (b : Bool) → is_tables table o ≡ b
    → (list_any (is_tables table) rest ≡ true → (tag : ℕ) × (tag < length rest) × (get_or rest tag None ≡ Some table))
    → (b || list_any (is_tables table) rest) ≡ true → (tag : ℕ) × (tag < length (o ∷ rest)) × (get_or (o ∷ rest) tag None ≡ Some table)
by_tag table o rest true is later e = (0, omega arith, tag_test table o true is refl)
by_tag table o rest false is later e = let r = later e in (suc r.0, omega (arith, r.1), r.2)

tag_of : (table : ℕ) (tables : List (Option ℕ)) → list_any (is_tables table) tables ≡ true → (tag : ℕ) × (tag < length tables) × (get_or tables tag None ≡ Some table)
tag_of table [] e = absurd cc
tag_of table (o ∷ rest) e = by_tag table o rest (is_tables table o) refl (λ f. tag_of table rest f) e

le_of : (a b : ℕ) → nat_le a b ≡ true → a ≤ b
le_of a b e = grind (arith, nat_tests)

some_code : (k : Coding) (t : Token) → 0 < t.row → list_any (is_tables t.table) (tables_of k) ≡ true → (v : ℕ) × (decoded k v ≡ Some t)
some_code k t low named_there =
    let tag = tag_of t.table (tables_of k) named_there in
    let few = le_of _ _ (few_tables k) in
    (t.row * 2 ^ tag_bits k + tag.0, decoded_at k (2 ^ tag_bits k) tag.0 t.row t.table refl (omega (arith, tag.1, few)) low tag.2)

there_by : (m : Module) (k : Coding) (t : Token) (nothing : Bool) → is_token t nil ≡ nothing → (nothing || (can_name (Coded k) t.table && has_row m t)) ≡ true
    → ((v : ℕ) → decoded k v ≢ Some (named t)) → ⊥
there_by m k t true is there none = let n = same_token t nil is in none 0 (decoded_zero k ∙ ap (λ u. Some (named u)) (sym n))
there_by m k t false is there none =
    let p = and_parts (can_name (Coded k) t.table) (has_row m t) there in
    let row = is_row m t p.1 in
    let code = some_code k t row.0 p.0 in
    none code.0 (code.1 ∙ ap Some (sym (named_row t row.0)))

-- a coded index stands for each reference
pub coded_there : (m : Module) (k : Coding) (t : Token) → is_reference m (Coded k) t ≡ true → ((v : ℕ) → decoded k v ≢ Some (named t)) → ⊥
unfolding is_reference
coded_there m k t there none = there_by m k t (is_token t nil) refl there none

pub ruleset coded_steps = (coded_kind, coded_sound, coded_low)
