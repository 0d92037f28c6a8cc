-- Every number of a sound module but those of heaps fits its column.
use Rattle.std.proofs.Common.{◌≡◌, ℕ, zero, suc, ◌+◌, ◌-◌, ◌*◌, ◌/◌, ◌%◌, ◌^◌, ◌<◌, ◌≤◌, Bool, true, false, List, [], ◌∷◌, length, Option, Some, None, option_map, refl, sym, ap, ◌∙◌, subst, inl, inr, arith}
use Rattle.std.specs.Prelude.{◌==◌, ◌&&◌, ◌||◌, option_and_then, slice_get, slice_index, nat_lt, nat_le, unwrap_or, if◌then◌else◌}
use Rattle.std.specs.List.{list_all, list_any}
use Rattle.std.specs.Option.{option_map_or}
use Rattle.std.proofs.lemmas.Bool.{cases_lt, lt-ltb, ltb-true, eqb-true, leb-false, and_from}
use Rattle.std.proofs.lemmas.Nat.{pow_pos}
use Rattle.std.proofs.lemmas.Option.{slice_get_past}
use Rattle.enc_base.specs.Token.{nth_row, nil}
use Rattle.enc_base.specs.declared.token.Token.{Token}
use Rattle.enc_meta.specs.Built.{Built, heaps_built}
use Rattle.enc_meta.specs.Heaps.{Counted}
use Rattle.enc_plain.proofs.Columns.{both_left, both_right}
use Rattle.enc_plain.proofs.KindsOf.{row_there}
use Rattle.enc_plain.specs.Module.{Module}
use Rattle.enc_plain.specs.Sound.{row_count, is_part, IsSound}
use Rattle.enc_rows.proofs.Below.{any_true}
use Rattle.enc_rows.proofs.Layouts.{count_is}
use Rattle.enc_rows.specs.Sums.{below}
use Rattle.enc_rows.specs.Written.{rows_at, count_at, counts_of, shape_of, fits, is_word, index_fits, row_indices_fit, AreRows, IndicesFit}
use Rattle.enc_schema.proofs.ChildTables.{by_child}
use Rattle.enc_schema.specs.Children.{is_child_table, owner_table, ptr_of}
use Rattle.enc_schema.specs.Coding.{tables_of, each_table, tag_bits, table_with, decoded}
use Rattle.enc_schema.specs.Schema.{columns_in, column_in}
use Rattle.enc_base.specs.Tables as tables
use Rattle.enc_schema.specs.Widths.{Shape, row_count_of, index_width, coded_width}
use Rattle.enc_schema.specs.declared.column.Coding.{Coding}
use Rattle.enc_schema.specs.declared.column.Coding.TheVariants.{TypeDefOrRef, HasConstant, HasCustomAttribute, HasFieldMarshal, HasDeclSecurity, MemberRefParent, HasSemantics, MethodDefOrRef, MemberForwarded, Implementation, CustomAttributeType, ResolutionScope, TypeOrMethodDef, HasCustomDebugInformation}
use Rattle.enc_schema.specs.declared.column.Column.{Column}
use Rattle.enc_schema.specs.declared.column.Column.TheVariants.{Num8, Num16, Num32, Text, Guid, Blob, Index, Coded, Run}
use Rattle.enc_rewriter.specs.Numbers.{run_first, has_wide_run, needs_jtd, NumberSays, HoldRows}
use Rattle.enc_rewriter.specs.Placed.{Placed}
use Rattle.enc_rewriter.specs.Rewritten.{HoldModule}
use Rattle.enc_rewriter.proofs.NumbersWritten.{IsCoded, byte_written, short_written, index_written, coded_written, run_written, there}
use Rattle.enc_rewriter.proofs.PtrRows.{ptr_row, ptr_columns_are, by_other}
use Rattle.enc_rewriter.proofs.RunStarts.{owners}

-- no table of a module has more rows than were written
pub part_few : (m : Module) (h : Counted) (p : Placed) (rows : List (List (List ℕ))) (t : ℕ) (part : Bool) → IsSound m → HoldRows m h p rows → is_part t ≡ part → row_count m t ≤ count_at rows t
part_few m h p rows t true sound said e =
    let many : length (rows_at rows t) ≡ row_count m t = (said.parts t e).count in
    omega (arith, many)
part_few m h p rows t false sound said e =
    let none : row_count m t ≡ 0 = ap length (sound.counts.absent t e) in
    omega (arith, none)

pub no_table : (m : Module) (t : ℕ) → IsSound m → 64 ≤ t → row_count m t ≡ 0
no_table m t sound past =
    let all = sound.owners.tables.all in
    ap (λ o. length (unwrap_or o [])) (slice_get_past m.tables t (omega (arith, all, past)))

pub few_written : (m : Module) (h : Counted) (p : Placed) (rows : List (List (List ℕ))) (t : ℕ) → IsSound m → HoldRows m h p rows → row_count m t ≤ slice_index (counts_of rows) t
few_written m h p rows t sound said = elim (cases_lt t 64) [
  | inl low ↦
      let few = part_few m h p rows t (is_part t) sound said refl in
      let is = count_is rows t low in
      omega (arith, few, is)
  | inr past ↦ let none = no_table m t sound past in omega (arith, none)
]

-- an index of two or four bytes
index_by : (s : Shape) (other x : ℕ) (jtd b : Bool) → s.jtd ≡ jtd → nat_lt (row_count_of s other) 0x10000 ≡ b → nat_lt x (2 ^ 32) ≡ true
    → (jtd ≡ false → b ≡ true → x < 2 ^ 16) → nat_lt x (2 ^ (8 * index_width s other)) ≡ true
unfolding index_width
index_by s other x true b j e word low = rw j word
index_by s other x false true j e word low = let small = low refl refl in rw (j, e) (lt-ltb x (2 ^ 16) small)
index_by s other x false false j e word low = rw (j, e) word

-- and a coded one
coded_by : (s : Shape) (kind : Coding) (x : ℕ) (jtd b : Bool) → s.jtd ≡ jtd → each_table (λ (table : ℕ). nat_lt (row_count_of s table) (2 ^ (16 - tag_bits kind))) (tables_of kind) ≡ b
    → nat_lt x (2 ^ 32) ≡ true → (jtd ≡ false → b ≡ true → x < 2 ^ 16) → nat_lt x (2 ^ (8 * coded_width s kind)) ≡ true
unfolding coded_width
coded_by s kind x true b j e word low = rw j word
coded_by s kind x false true j e word low = let small = low refl refl in rw (j, e) (lt-ltb x (2 ^ 16) small)
coded_by s kind x false false j e word low = rw (j, e) word

-- what holds of each table of a coding holds of the one with a tag
each_in : (test : ℕ → Bool) (xs : List (Option ℕ)) (tag t : ℕ) → each_table test xs ≡ true → slice_get xs tag ≡ Some (Some t) → test t ≡ true
each_in test [] tag t all e = absurd cc
each_in test (y ∷ ys) zero t all e =
    let is : y ≡ Some t = cc in
    let here : option_map_or test y true ≡ true = both_left (option_map_or test y true) (each_table test ys) all in
    subst (λ (o : Option ℕ). option_map_or test o true ≡ true) is here
each_in test (y ∷ ys) (suc tag) t all e = each_in test ys tag t (both_right (option_map_or test y true) (each_table test ys) all) e

tag_get : (o : Option (Option ℕ)) (t : ℕ) → option_and_then (λ (x : Option ℕ). x) o ≡ Some t → o ≡ Some (Some t)
tag_get None t e = absurd cc
tag_get (Some None) t e = absurd cc
tag_get (Some (Some u)) t e = let is : u ≡ t = cc in ap (λ v. Some (Some v)) is

from_table : (o : Option ℕ) (q : ℕ) (token : Token) → option_map (λ (t : ℕ). record { table = t; row = q }) o ≡ Some token → (o ≡ Some token.table) × (q ≡ token.row)
from_table None q token e = absurd cc
from_table (Some t) q token e = (cc, cc)

-- what stands above the tag has few bits where all tables of the coding have few rows
above_by : (s : Shape) (m : Module) (kind : Coding) (x : ℕ) (token : Token) (nothing : Bool) → (x / 2 ^ tag_bits kind == 0) ≡ nothing
    → (if nothing then Some nil else option_map (λ (t : ℕ). record { table = t; row = x / 2 ^ tag_bits kind }) (table_with kind (x % 2 ^ tag_bits kind))) ≡ Some token
    → token.row ≤ row_count m token.table → ((t : ℕ) → row_count m t ≤ row_count_of s t)
    → each_table (λ (table : ℕ). nat_lt (row_count_of s table) (2 ^ (16 - tag_bits kind))) (tables_of kind) ≡ true → x / 2 ^ tag_bits kind < 2 ^ (16 - tag_bits kind)
unfolding table_with
above_by s m kind x token true none is row few all =
    let zero_row = eqb-true (x / 2 ^ tag_bits kind) 0 none in
    let some = pow_pos (16 - tag_bits kind) in
    omega (arith, zero_row, some)
above_by s m kind x token false some is row few all =
    let t = from_table (table_with kind (x % 2 ^ tag_bits kind)) (x / 2 ^ tag_bits kind) token is in
    let get = tag_get (slice_get (tables_of kind) (x % 2 ^ tag_bits kind)) token.table t.0 in
    let test : nat_lt (row_count_of s token.table) (2 ^ (16 - tag_bits kind)) ≡ true = each_in (λ (table : ℕ). nat_lt (row_count_of s table) (2 ^ (16 - tag_bits kind))) (tables_of kind) (x % 2 ^ tag_bits kind) token.table all get in
    let low = ltb-true (row_count_of s token.table) (2 ^ (16 - tag_bits kind)) test in
    let there = few token.table in
    let same = t.1 in
    omega (arith, low, there, same, row)

above_low : (s : Shape) (m : Module) (kind : Coding) (x : ℕ) → IsCoded m kind x → ((t : ℕ) → row_count m t ≤ row_count_of s t)
    → each_table (λ (table : ℕ). nat_lt (row_count_of s table) (2 ^ (16 - tag_bits kind))) (tables_of kind) ≡ true → x / 2 ^ tag_bits kind < 2 ^ (16 - tag_bits kind)
unfolding decoded
above_low s m kind x known few all = above_by s m kind x known.token (x / 2 ^ tag_bits kind == 0) refl known.is known.row few all

by_one : (x : ℕ) → x / 2 < 0x8000 → x < 0x10000
by_one x low = omega (arith, low)

by_two : (x : ℕ) → x / 4 < 0x4000 → x < 0x10000
by_two x low = omega (arith, low)

by_three : (x : ℕ) → x / 8 < 0x2000 → x < 0x10000
by_three x low = omega (arith, low)

by_five : (x : ℕ) → x / 32 < 0x800 → x < 0x10000
by_five x low = omega (arith, low)

two_bytes : (kind : Coding) (x : ℕ) → x / 2 ^ tag_bits kind < 2 ^ (16 - tag_bits kind) → x < 0x10000
unfolding tag_bits
two_bytes TypeDefOrRef x low = by_two x low
two_bytes HasConstant x low = by_two x low
two_bytes HasCustomAttribute x low = by_five x low
two_bytes HasFieldMarshal x low = by_one x low
two_bytes HasDeclSecurity x low = by_two x low
two_bytes MemberRefParent x low = by_three x low
two_bytes HasSemantics x low = by_one x low
two_bytes MethodDefOrRef x low = by_one x low
two_bytes MemberForwarded x low = by_one x low
two_bytes Implementation x low = by_two x low
two_bytes CustomAttributeType x low = by_three x low
two_bytes ResolutionScope x low = by_two x low
two_bytes TypeOrMethodDef x low = by_one x low
two_bytes HasCustomDebugInformation x low = by_five x low

-- where no run asks for wide indices, each fits two bytes where its table's indices do
or_left : (a b : Bool) → (a || b) ≡ false → a ≡ false
or_left true b e = absurd cc
or_left false b e = refl

or_right : (a b : Bool) → (a || b) ≡ false → b ≡ false
or_right true b e = absurd cc
or_right false b e = e

and_right : (a b : Bool) → a ≡ true → (a && b) ≡ false → b ≡ false
and_right true b e f = f
and_right false b e f = absurd cc

none_any : (p : ℕ → Bool) (n many : ℕ) (b : Bool) → p n ≡ b → n < many → list_any p (below many) ≡ false → b ≡ false
none_any p n many true e low none = sym (any_true p n many low e) ∙ none
none_any p n many false e low none = refl

not_wide : (m : Module) (child : ℕ) → needs_jtd m ≡ false → is_child_table child ≡ true → has_wide_run m child ≡ false
unfolding needs_jtd
not_wide m child e is =
    let e1 = or_right (has_wide_run m 0x04) _ e in
    let e2 = or_right (has_wide_run m 0x06) _ e1 in
    let e3 = or_right (has_wide_run m 0x08) _ e2 in
    let e4 = or_right (has_wide_run m 0x14) _ e3 in
    by_child (λ k. has_wide_run m k ≡ false) (or_left (has_wide_run m 0x04) _ e) (or_left (has_wide_run m 0x06) _ e1) (or_left (has_wide_run m 0x08) _ e2)
    (or_left (has_wide_run m 0x14) _ e3) (or_left (has_wide_run m 0x17) _ e4) child is

run_narrow : (m : Module) (child row : ℕ) → needs_jtd m ≡ false → is_child_table child ≡ true → row_count m child < 0x10000 → 0 < row → row ≤ row_count m (owner_table child)
    → run_first m child row < 0x10000
unfolding has_wide_run
run_narrow m child row jtd is few low high =
    let none = and_right (nat_lt (row_count m child) 0x10000) _ (lt-ltb (row_count m child) 0x10000 few) (not_wide m child jtd is) in
    let e : row - 1 + 1 ≡ row = omega (arith, low) in
    let test = none_any (λ n. nat_le 0x10000 (run_first m child (n + 1))) (row - 1) (row_count m (owner_table child)) (nat_le 0x10000 (run_first m child (row - 1 + 1))) refl (omega (arith, low, high)) none in
    subst (λ k. run_first m child k < 0x10000) e (leb-false 0x10000 (run_first m child (row - 1 + 1)) test)

-- a number of a module's row fits its column
column_fits : (m : Module) (h : Counted) (p : Placed) (rows : List (List (List ℕ))) (t n i : ℕ) (c : Column) (x : ℕ) → IsSound m → HoldRows m h p rows
    → n < row_count m t → column_in t i ≡ Some c → NumberSays m h p (nth_row t n) i c x → nat_lt x (2 ^ 32) ≡ true → index_fits (shape_of rows (needs_jtd m) 0) c x ≡ true
unfolding index_fits fits
column_fits m h p rows t n i Num8 x sound said low e says word = byte_written m h p (nth_row t n) i x sound (row_there m (nth_row t n) (omega arith) (omega (arith, low))) e says
column_fits m h p rows t n i Num16 x sound said low e says word = short_written m h p (nth_row t n) i x sound (row_there m (nth_row t n) (omega arith) (omega (arith, low))) e says
column_fits m h p rows t n i Num32 x sound said low e says word = word
column_fits m h p rows t n i Text x sound said low e says word = refl
column_fits m h p rows t n i Guid x sound said low e says word = refl
column_fits m h p rows t n i Blob x sound said low e says word = refl
column_fits m h p rows t n i (Index other) x sound said low e says word =
    let there = index_written m h p (nth_row t n) i other x sound (row_there m (nth_row t n) (omega arith) (omega (arith, low))) e says in
    let few = few_written m h p rows other sound said in
    index_by (shape_of rows (needs_jtd m) 0) other x (needs_jtd m) _ refl refl word (λ j b. let small = ltb-true (slice_index (counts_of rows) other) 0x10000 b in omega (arith, there, few, small))
column_fits m h p rows t n i (Coded kind) x sound said low e says word =
    let coded = coded_written m h p (nth_row t n) i x kind sound (row_there m (nth_row t n) (omega arith) (omega (arith, low))) e says in
    coded_by (shape_of rows (needs_jtd m) 0) kind x (needs_jtd m) _ refl refl word (λ j b. two_bytes kind x (above_low (shape_of rows (needs_jtd m) 0) m kind x coded (λ k. few_written m h p rows k sound said) b))
column_fits m h p rows t n i (Run child) x sound said low e says word =
    let o = owners t i child e in
    let is = run_written m h p (nth_row t n) i child x e says in
    let few = few_written m h p rows child sound said in
    let high : n + 1 ≤ row_count m (owner_table child) = subst (λ k. n + 1 ≤ row_count m k) o.0 (omega (arith, low)) in
    index_by (shape_of rows (needs_jtd m) 0) child x (needs_jtd m) _ refl refl word (λ j b.
    let small = ltb-true (slice_index (counts_of rows) child) 0x10000 b in
    let narrow = run_narrow m child (n + 1) j o.1 (omega (arith, few, small)) (omega arith) high in
    omega (arith, is, narrow))

-- a row fits where each of its numbers does, and a table where each of its rows does
row_by : (s : Shape) (columns : List Column) (cells : List ℕ) → length cells ≡ length columns
    → ((i : ℕ) (c : Column) (x : ℕ) → slice_get columns i ≡ Some c → slice_get cells i ≡ Some x → index_fits s c x ≡ true) → row_indices_fit s columns cells ≡ true
unfolding row_indices_fit
row_by s [] [] e each = refl
row_by s [] (x ∷ cells) e each = absurd (omega (arith, e))
row_by s (c ∷ columns) [] e each = absurd (omega (arith, e))
row_by s (c ∷ columns) (x ∷ cells) e each =
    and_from (index_fits s c x) (row_indices_fit s columns cells) (each 0 c x refl refl) (row_by s columns cells (omega (arith, e)) (λ i d y a b. each (suc i) d y a b))

rows_by : (p : List ℕ → Bool) (rows : List (List ℕ)) → ((n : ℕ) (cells : List ℕ) → slice_get rows n ≡ Some cells → p cells ≡ true) → list_all p rows ≡ true
rows_by p [] each = refl
rows_by p (x ∷ rows) each = and_from (p x) (list_all p rows) (each 0 x refl) (rows_by p rows (λ n cells e. each (suc n) cells e))

all_get : {A : Type 0} (p : A → Bool) (xs : List A) (n : ℕ) (x : A) → list_all p xs ≡ true → slice_get xs n ≡ Some x → p x ≡ true
all_get p [] n x all e = absurd cc
all_get p (y ∷ ys) zero x all e = let is : y ≡ x = cc in subst (λ v. p v ≡ true) is (both_left (p y) (list_all p ys) all)
all_get p (y ∷ ys) (suc n) x all e = all_get p ys n x (both_right (p y) (list_all p ys) all) e

word_says : (x : ℕ) → is_word x ≡ true → nat_lt x (2 ^ 32) ≡ true
unfolding is_word
word_says x e = e

word_at : (rows : List (List (List ℕ))) (t n i : ℕ) (cells : List ℕ) (x : ℕ) → AreRows rows → slice_get (rows_at rows t) n ≡ Some cells → slice_get cells i ≡ Some x → nat_lt x (2 ^ 32) ≡ true
word_at rows t n i cells x are row get = word_says x (all_get is_word cells i x (all_get (list_all is_word) (rows_at rows t) n cells (are.words t) row) get)

abbrev Fits : Module → List (List (List ℕ)) → ℕ → Type 0
Fits m rows t = list_all (row_indices_fit (shape_of rows (needs_jtd m) 0) (columns_in t)) (rows_at rows t) ≡ true

part_fits : (m : Module) (h : Counted) (p : Placed) (rows : List (List (List ℕ))) (t : ℕ) → IsSound m → AreRows rows → HoldRows m h p rows → is_part t ≡ true → Fits m rows t
part_fits m h p rows t sound are said part =
    let table = said.parts t part in
    let many : length (rows_at rows t) ≡ row_count m t = table.count in
    rows_by (row_indices_fit (shape_of rows (needs_jtd m) 0) (columns_in t)) (rows_at rows t) (λ n cells row.
    let says = table.each n cells row in
    let here = there (rows_at rows t) n cells row in
    row_by (shape_of rows (needs_jtd m) 0) (columns_in t) cells says.count (λ i c x e get.
    column_fits m h p rows t n i c x sound said (omega (arith, many, here)) e (says.each i c x e get) (word_at rows t n i cells x are row get)))

-- so does a row of a Ptr table
child_fits : (m : Module) (h : Counted) (p : Placed) (rows : List (List (List ℕ))) (child x : ℕ) → IsSound m → HoldRows m h p rows → x ≤ row_count m child
    → row_indices_fit (shape_of rows (needs_jtd m) 0) (Index child ∷ []) (x ∷ []) ≡ true
unfolding index_fits fits
child_fits m h p rows child x sound said high =
    let few = few_written m h p rows child sound said in
    let small = sound.counts.few child in
    let word = lt-ltb x (2 ^ 32) (omega (arith, high, small)) in
    let fit = index_by (shape_of rows (needs_jtd m) 0) child x (needs_jtd m) _ refl refl word (λ j b. let low = ltb-true (slice_index (counts_of rows) child) 0x10000 b in omega (arith, high, few, low)) in
    row_by (shape_of rows (needs_jtd m) 0) (Index child ∷ []) (x ∷ []) refl (λ i c y e get. one_column (shape_of rows (needs_jtd m) 0) child x i c y fit e get)
  where
    one_column : (s : Shape) (child x i : ℕ) (c : Column) (y : ℕ) → index_fits s (Index child) x ≡ true → slice_get (Index child ∷ []) i ≡ Some c → slice_get (x ∷ []) i ≡ Some y → index_fits s c y ≡ true
    one_column s child x zero c y fit e get =
        let a : Index child ≡ c = cc in
        let b : x ≡ y = cc in
        subst (λ d. index_fits s d y ≡ true) a (subst (λ v. index_fits s (Index child) v ≡ true) b fit)
    one_column s child x (suc i) c y fit e get = absurd cc

ptr_fits : (m : Module) (h : Counted) (p : Placed) (rows : List (List (List ℕ))) (child : ℕ) → IsSound m → HoldRows m h p rows → is_child_table child ≡ true → Fits m rows (ptr_of child)
ptr_fits m h p rows child sound said is =
    rows_by (row_indices_fit (shape_of rows (needs_jtd m) 0) (columns_in (ptr_of child))) (rows_at rows (ptr_of child)) (λ n cells row.
    let one = ptr_row m h p rows child n cells sound said is row in
    ap (λ cs. row_indices_fit (shape_of rows (needs_jtd m) 0) cs cells) (ptr_columns_are child is)
    ∙ ap (λ xs. row_indices_fit (shape_of rows (needs_jtd m) 0) (Index child ∷ []) xs) one.is ∙ child_fits m h p rows child one.row sound said one.high)

no_rows_fit : (m : Module) (rows : List (List (List ℕ))) (t : ℕ) → rows_at rows t ≡ [] → Fits m rows t
no_rows_fit m rows t none = ap (list_all (row_indices_fit (shape_of rows (needs_jtd m) 0) (columns_in t))) none

table_fits : (m : Module) (h : Counted) (p : Placed) (rows : List (List (List ℕ))) (t : ℕ) (part : Bool) → IsSound m → AreRows rows → HoldRows m h p rows → is_part t ≡ part → Fits m rows t
table_fits m h p rows t true sound are said e = part_fits m h p rows t sound are said e
table_fits m h p rows t false sound are said e =
    by_other (Fits m rows) (λ child is. ptr_fits m h p rows child sound said is) (no_rows_fit m rows tables.enc_log said.log) (no_rows_fit m rows tables.enc_map said.map) t e

-- every number but those of heaps fits its column's width, with wide indices where a run needs them
pub rows_fit : (m : Module) (h : Counted) (p : Placed) (rows : List (List (List ℕ))) → IsSound m → AreRows rows → HoldRows m h p rows → IndicesFit rows (needs_jtd m)
rows_fit m h p rows sound are said = record { each = λ t. table_fits m h p rows t (is_part t) sound are said refl }

pub module_fits : (m : Module) (h : Built) (p : Placed) (rows : List (List (List ℕ))) → IsSound m → HoldModule m h p rows → IndicesFit rows (needs_jtd m)
module_fits m h p rows sound hold = rows_fit m (heaps_built h) p rows sound hold.numbers hold.said
