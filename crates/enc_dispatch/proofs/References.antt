-- Where a module's references stay as they are, the likeness and the keys of what its rows name stay too.
use Rattle.std.proofs.Common.{◌≡◌, ℕ, zero, suc, ◌/◌, ◌%◌, Bool, true, false, List, Option, Some, None, refl, sym, ap, subst, ◌∙◌, inl, inr, ◌⊎◌, arith}
use Rattle.std.specs.Prelude.{◌&&◌, ◌||◌, ◌==◌, is_some, bytes_eq, nat_lt, nat_le, slice_get, option_and_then, if◌then◌else◌}
use Rattle.std.proofs.lemmas.Bool.{and_parts, or_cases}
use Rattle.std.proofs.lemmas.Bool.Decides.{nat_tests}
use Rattle.enc_base.specs.Token.{nil, is_token}
use Rattle.enc_base.specs.declared.token.Token.{Token}
use Rattle.enc_plain.specs.Alike.{are_rows, type_refs_alike, assembly_refs_alike, module_refs_alike, refs_alike, type_specs_alike, tokens_alike, signatures_alike}
use Rattle.enc_plain.specs.Cell.{Cell, number, text, blob, guid, refer, body, field}
use Rattle.enc_plain.specs.Keys.{token_key, names_key, version_key, assembly_ref_key, module_ref_key, reference_key, single_key, scope_of, near, scope_onward, outer, inner, end_key, scope_ended, ref_key, inner_key, spec_shape, spec_key, key_of, signature_key}
use Rattle.enc_plain.specs.declared.near.Near.{Near}
use Rattle.enc_plain.specs.Module.{Module, has_row, cells_of, cell_of}
use Rattle.enc_plain.specs.Rows.{Rows, number_of_cell, bytes_of_cell, token_of_cell, number_at, bytes_at, token_at}
use Rattle.enc_plain.specs.Signatures.{kind_in_table, signature_column, is_signature}
use Rattle.enc_plain.specs.Sound.{row_count, can_name, is_reference, cell_is_sound, IsSound}
use Rattle.enc_plain.proofs.Applied.{same_is}
use Rattle.enc_plain.proofs.CellsOf.{cell_there}
use Rattle.enc_schema.specs.declared.column.Column.{Column}
use Rattle.enc_schema.specs.declared.column.Column.TheVariants.{Coded}
use Rattle.enc_schema.specs.declared.column.Coding.TheVariants.{ResolutionScope}
use Rattle.enc_schema.specs.Schema.{columns_in, column_in}
use Rattle.enc_sigs.specs.Agree.{forests_agree, sig_trees_agree, if_both, sigs_agree}
use Rattle.enc_sigs.specs.Grammar.{table_of, token_named, is_coded, is_counted, sig_in}
use Rattle.enc_sigs.specs.Mix.{finished}
use Rattle.enc_sigs.specs.Shape.{sig_shape}
use Rattle.enc_sigs.specs.Tree.{Forest, none, more, SigTree, forest_of}
use Rattle.enc_sigs.specs.declared.kind.SigKind.{SigKind}
use Rattle.enc_sigs.specs.declared.kind.SigKind.TheVariants.{Method, TypeSpec}
use Rattle.enc_sigs.specs.declared.mix.Mix.{Mix}
use Rattle.enc_sigs.proofs.Named.{counted_names}
use Rattle.enc_sigs.proofs.Wider.{sig_keeps}
use Rattle.enc_dispatch.specs.Keeps.{is_read_by_likeness}
use Rattle.enc_dispatch.proofs.Named.{AllKnown, IsTest, method_known, spec_known}
use Rattle.enc_dispatch.proofs.OneShape.{AgreeOn, method_shape_same, spec_shape_same}

-- the token is nil or names a row of the module
abbrev pub Known : Module → Token → Type 0
Known m t = (t ≡ nil) ⊎ (has_row m t ≡ true)

-- rows of TypeRef, AssemblyRef, ModuleRef and TypeSpec stay as they are
abbrev pub RefsStay : Module → Module → Type 0
RefsStay m n = (u : Token) → has_row m u ≡ true → is_read_by_likeness u.table ≡ true → cells_of n u ≡ cells_of m u

-- what stands in equal rows
pub number_by : (r s : Rows) (a : Token) (i : ℕ) → r a ≡ s a → number_at r a i ≡ number_at s a i
unfolding number_at
number_by r s a i e = ap (λ o. number_of_cell (option_and_then (λ (cells : List Cell). slice_get cells i) o)) e

pub bytes_by : (r s : Rows) (a : Token) (i : ℕ) → r a ≡ s a → bytes_at r a i ≡ bytes_at s a i
unfolding bytes_at
bytes_by r s a i e = ap (λ o. bytes_of_cell (option_and_then (λ (cells : List Cell). slice_get cells i) o)) e

pub token_by : (r s : Rows) (a : Token) (i : ℕ) → r a ≡ s a → token_at r a i ≡ token_at s a i
unfolding token_at
token_by r s a i e = ap (λ o. token_of_cell (option_and_then (λ (cells : List Cell). slice_get cells i) o)) e

-- a column of a sound module names nil or a row
reference_known : (m : Module) (column : Column) (t : Token) → is_reference m column t ≡ true → Known m t
unfolding is_reference
reference_known m column t h = elim (or_cases (is_token t nil) (can_name column t.table && has_row m t) h) [
  | inl same ↦ inl (same_is t nil same)
  | inr there ↦ inr (and_parts (can_name column t.table) (has_row m t) there).1
]

cell_known : (m : Module) (u : Token) (column : Column) (o : Option Cell) → ((c : Cell) → o ≡ Some c → cell_is_sound m u column c ≡ true) → Known m (token_of_cell o)
cell_known m u column None sound = inl refl
cell_known m u column (Some (number n)) sound = inl refl
cell_known m u column (Some (text b)) sound = inl refl
cell_known m u column (Some (blob b)) sound = inl refl
cell_known m u column (Some (guid b)) sound = inl refl
cell_known m u column (Some (body b)) sound = inl refl
cell_known m u column (Some (field b)) sound = inl refl
cell_known m u column (Some (refer v)) sound = reference_known m column v (sound (refer v) refl)

token_is : (m : Module) (u : Token) (i : ℕ) → token_at (cells_of m) u i ≡ token_of_cell (cell_of m u i)
unfolding token_at
token_is m u i = ap token_of_cell (cell_there m u i)

pub column_known : (m : Module) (u : Token) (i : ℕ) (column : Column) → IsSound m → has_row m u ≡ true → column_in u.table i ≡ Some column → Known m (token_at (cells_of m) u i)
column_known m u i column sound there is =
    subst (Known m) (sym (token_is m u i)) (cell_known m u column (cell_of m u i) (λ c e. sound.cells.each u i column c there is e))

scope_column : column_in 0x01 0 ≡ Some (Coded ResolutionScope)
unfolding columns_in
scope_column = refl

scope_known : (m : Module) (u : Token) → IsSound m → has_row m u ≡ true → u.table ≡ 0x01 → Known m (token_at (cells_of m) u 0)
scope_known m u sound there e = column_known m u 0 (Coded ResolutionScope) sound there (ap (λ t. column_in t 0) e ∙ scope_column)

-- a known token of a table of references names a row that stays
there_by : (m : Module) (t : ℕ) (a : Token) → Known m a → a.table ≡ t → (t == 0) ≡ false → has_row m a ≡ true
there_by m t a (inl e) is other = let h : (nil.table == 0) ≡ false = subst (λ k. (k == 0) ≡ false) (sym is ∙ ap (λ (u : Token). u.table) e) other in absurd cc
there_by m t a (inr h) is other = h

stays : (m n : Module) (t : ℕ) (a : Token) → RefsStay m n → Known m a → a.table ≡ t → (t == 0) ≡ false → is_read_by_likeness t ≡ true → cells_of n a ≡ cells_of m a
stays m n t a stay known e other refs = stay a (there_by m t a known e other) (ap is_read_by_likeness e ∙ refs)

eq_of : (a b : ℕ) → (a == b) ≡ true → a ≡ b
eq_of a b h = grind (arith, nat_tests)

rows_same : (m n : Module) (t : ℕ) (a b : Token) → RefsStay m n → Known m a → Known m b → (t == 0) ≡ false → is_read_by_likeness t ≡ true → are_rows (cells_of n) t a b ≡ are_rows (cells_of m) t a b
unfolding are_rows
rows_same m n t a b stay ka kb other refs = by_tests (a.table == t) (b.table == t) refl refl
  where
    by_tests : (x y : Bool) → (a.table == t) ≡ x → (b.table == t) ≡ y → (x && y && is_some (cells_of n a) && is_some (cells_of n b)) ≡ (x && y && is_some (cells_of m a) && is_some (cells_of m b))
    by_tests true true ea eb =
        let fa = ap is_some (stays m n t a stay ka (eq_of a.table t ea) other refs) in
        let fb = ap is_some (stays m n t b stay kb (eq_of b.table t eb) other refs) in
        rw (fa, fb) refl
    by_tests true false ea eb = refl
    by_tests false y ea eb = refl

tables_are : (rows : Rows) (table : ℕ) (a b : Token) → are_rows rows table a b ≡ true → (a.table ≡ table) × (b.table ≡ table)
unfolding are_rows
tables_are rows table a b h = (grind (arith, nat_tests), grind (arith, nat_tests))

-- TypeRefs
types_none : (r : Rows) (f : Token → Token → Bool) (a b : Token) → are_rows r 0x01 a b ≡ false → type_refs_alike r f a b ≡ false
unfolding type_refs_alike
types_none r f a b e = rw e refl

types_by : (r s : Rows) (f g : Token → Token → Bool) (a b : Token) → r a ≡ s a → r b ≡ s b → are_rows r 0x01 a b ≡ are_rows s 0x01 a b → f (token_at s a 0) (token_at s b 0) ≡ g (token_at s a 0) (token_at s b 0) → type_refs_alike r f a b ≡ type_refs_alike s g a b
unfolding type_refs_alike
types_by r s f g a b ea eb rows scopes =
    rw (rows, bytes_by r s a 1 ea, bytes_by r s b 1 eb, bytes_by r s a 2 ea, bytes_by r s b 2 eb, token_by r s a 0 ea, token_by r s b 0 eb, scopes) refl

-- ModuleRefs
modules_none : (r : Rows) (a b : Token) → are_rows r 0x1A a b ≡ false → module_refs_alike r a b ≡ false
unfolding module_refs_alike
modules_none r a b e = rw e refl

modules_by : (r s : Rows) (a b : Token) → r a ≡ s a → r b ≡ s b → are_rows r 0x1A a b ≡ are_rows s 0x1A a b → module_refs_alike r a b ≡ module_refs_alike s a b
unfolding module_refs_alike
modules_by r s a b ea eb rows = rw (rows, bytes_by r s a 0 ea, bytes_by r s b 0 eb) refl

modules_same : (m n : Module) (a b : Token) (x : Bool) → RefsStay m n → Known m a → Known m b → are_rows (cells_of m) 0x1A a b ≡ x → module_refs_alike (cells_of n) a b ≡ module_refs_alike (cells_of m) a b
modules_same m n a b false stay ka kb e = modules_none (cells_of n) a b (rows_same m n 0x1A a b stay ka kb refl refl ∙ e) ∙ sym (modules_none (cells_of m) a b e)
modules_same m n a b true stay ka kb e =
    let t = tables_are (cells_of m) 0x1A a b e in
    modules_by (cells_of n) (cells_of m) a b (stays m n 0x1A a stay ka t.0 refl refl) (stays m n 0x1A b stay kb t.1 refl refl) (rows_same m n 0x1A a b stay ka kb refl refl)

-- AssemblyRefs
assemblies_none : (r : Rows) (a b : Token) → are_rows r 0x23 a b ≡ false → assembly_refs_alike r a b ≡ false
unfolding assembly_refs_alike
assemblies_none r a b e = rw e refl

assemblies_by : (r s : Rows) (a b : Token) → r a ≡ s a → r b ≡ s b → are_rows r 0x23 a b ≡ are_rows s 0x23 a b → assembly_refs_alike r a b ≡ assembly_refs_alike s a b
unfolding assembly_refs_alike
assemblies_by r s a b ea eb rows =
    rw (rows, number_by r s a 0 ea, number_by r s b 0 eb, number_by r s a 1 ea, number_by r s b 1 eb, number_by r s a 2 ea, number_by r s b 2 eb, number_by r s a 3 ea, number_by r s b 3 eb, number_by r s a 4 ea, number_by r s b 4 eb)
    (rw (bytes_by r s a 5 ea, bytes_by r s b 5 eb, bytes_by r s a 6 ea, bytes_by r s b 6 eb, bytes_by r s a 7 ea, bytes_by r s b 7 eb, bytes_by r s a 8 ea, bytes_by r s b 8 eb) refl)

assemblies_same : (m n : Module) (a b : Token) (x : Bool) → RefsStay m n → Known m a → Known m b → are_rows (cells_of m) 0x23 a b ≡ x → assembly_refs_alike (cells_of n) a b ≡ assembly_refs_alike (cells_of m) a b
assemblies_same m n a b false stay ka kb e = assemblies_none (cells_of n) a b (rows_same m n 0x23 a b stay ka kb refl refl ∙ e) ∙ sym (assemblies_none (cells_of m) a b e)
assemblies_same m n a b true stay ka kb e =
    let t = tables_are (cells_of m) 0x23 a b e in
    assemblies_by (cells_of n) (cells_of m) a b (stays m n 0x23 a stay ka t.0 refl refl) (stays m n 0x23 b stay kb t.1 refl refl) (rows_same m n 0x23 a b stay ka kb refl refl)

-- references
abbrev Same : Module → Module → (Rows → Token → Token → Bool) → Type 0
Same m n rel = (a b : Token) → Known m a → Known m b → rel (cells_of n) a b ≡ rel (cells_of m) a b

types_same : (m n : Module) (d : ℕ) (a b : Token) (x : Bool) → IsSound m → RefsStay m n → Same m n (λ rows. refs_alike rows d) → Known m a → Known m b → are_rows (cells_of m) 0x01 a b ≡ x → type_refs_alike (cells_of n) (refs_alike (cells_of n) d) a b ≡ type_refs_alike (cells_of m) (refs_alike (cells_of m) d) a b
types_same m n d a b false sound stay step ka kb e =
    types_none (cells_of n) (refs_alike (cells_of n) d) a b (rows_same m n 0x01 a b stay ka kb refl refl ∙ e) ∙ sym (types_none (cells_of m) (refs_alike (cells_of m) d) a b e)
types_same m n d a b true sound stay step ka kb e =
    let t = tables_are (cells_of m) 0x01 a b e in
    let sa = scope_known m a sound (there_by m 0x01 a ka t.0 refl) t.0 in
    let sb = scope_known m b sound (there_by m 0x01 b kb t.1 refl) t.1 in
    types_by (cells_of n) (cells_of m) (refs_alike (cells_of n) d) (refs_alike (cells_of m) d) a b (stays m n 0x01 a stay ka t.0 refl refl) (stays m n 0x01 b stay kb t.1 refl refl) (rows_same m n 0x01 a b stay ka kb refl refl)
    (step (token_at (cells_of m) a 0) (token_at (cells_of m) b 0) sa sb)

refs_same : (m n : Module) (d : ℕ) → IsSound m → RefsStay m n → Same m n (λ rows. refs_alike rows d)
unfolding refs_alike
refs_same m n zero sound stay a b ka kb = refl
refs_same m n (suc d) sound stay a b ka kb =
    rw (types_same m n d a b (are_rows (cells_of m) 0x01 a b) sound stay (refs_same m n d sound stay) ka kb refl, assemblies_same m n a b (are_rows (cells_of m) 0x23 a b) stay ka kb refl, modules_same m n a b (are_rows (cells_of m) 0x1A a b) stay ka kb refl) refl

-- signatures
forests_same : (m : Module) (same new : Token → Token → Bool) (f g : Forest) → ((t u : Token) → Known m t → Known m u → new t u ≡ same t u) → AllKnown (Known m) f → AllKnown (Known m) g → forests_agree new f g ≡ forests_agree same f g
unfolding forests_agree
forests_same m same new none none is kf kg = refl
forests_same m same new none (more f u k l s) is kf kg = refl
forests_same m same new (more e t n k r) none is kf kg = refl
forests_same m same new (more e t n k r) (more f u o l s) is kf kg = rw (is t u kf.0 kg.0, forests_same m same new k l is kf.1 kg.1, forests_same m same new r s is kf.2 kg.2) refl

both_same : (m : Module) (same new : Token → Token → Bool) (o u : Option SigTree) → ((t u : Token) → Known m t → Known m u → new t u ≡ same t u) → ((x : SigTree) → o ≡ Some x → AllKnown (Known m) (forest_of x.parts)) → ((x : SigTree) → u ≡ Some x → AllKnown (Known m) (forest_of x.parts))
    → if_both (sig_trees_agree new) o u ≡ if_both (sig_trees_agree same) o u
both_same m same new None u is ko ku = refl
both_same m same new (Some x) None is ko ku = refl
both_same m same new (Some x) (Some y) is ko ku = ap (λ t. x.kind == y.kind && x.generics == y.generics && t) (forests_same m same new (forest_of x.parts) (forest_of y.parts) is (ko x refl) (ku y refl))

-- the tokens that pass the test of a module's rows
counted_there : (m : Module) (n : ℕ) → is_counted (row_count m) n ≡ true → has_row m (token_named n) ≡ true
unfolding is_counted has_row
counted_there m n h =
    let a = and_parts (is_coded n && nat_le 1 (n / 4)) (nat_le (n / 4) (row_count m (table_of (n % 4)))) h in
    let b = and_parts (is_coded n) (nat_le 1 (n / 4)) a.0 in
    let some : nat_lt 0 (n / 4) ≡ true = grind (arith, nat_tests, b.1) in
    rw (some, a.1) refl

test_of_rows : (m : Module) → IsTest (Known m) (is_counted (row_count m))
test_of_rows m = record { passes = λ n h. inr (counted_there m n h); nothing = inl refl }

-- a signature of either kind names known tokens, and has one shape by keys that agree on them
pub record IsNamed (m : Module) (k : SigKind) (bytes : List ℕ) : Type 0 where
  pub tree : SigTree
  pub read : sig_in is_coded k bytes ≡ Some tree
  pub known : AllKnown (Known m) (forest_of tree.parts)
  pub shape : (key new : Token → Mix) → ((t : Token) → Known m t → key t ≡ new t) → sig_shape key k bytes ≡ sig_shape new k bytes

there_is : {A : Type 0} (o : Option A) → is_some o ≡ true → (x : A) × (o ≡ Some x)
there_is None h = absurd cc
there_is (Some x) h = (x, refl)

agree_on : (m : Module) (key new : Token → Mix) → ((t : Token) → Known m t → key t ≡ new t) → AgreeOn (is_counted (row_count m)) key new
agree_on m key new same = record { coded = counted_names (row_count m); same = λ n h. same (token_named n) (inr (counted_there m n h)) }

method_named : (m : Module) (bytes : List ℕ) → is_signature (row_count m) 0x06 bytes ≡ true → IsNamed m Method bytes
unfolding is_signature kind_in_table
method_named m bytes h =
    let w = there_is (sig_in (is_counted (row_count m)) Method bytes) h in
    record {
      tree = w.0;
      read = sig_keeps (is_counted (row_count m)) is_coded Method bytes w.0 (counted_names (row_count m)) w.1;
      known = method_known (Known m) (is_counted (row_count m)) bytes w.0 (test_of_rows m) w.1;
      shape = λ key new same. method_shape_same (is_counted (row_count m)) key new bytes w.0 (agree_on m key new same) w.1;
    }

spec_named : (m : Module) (bytes : List ℕ) → is_signature (row_count m) 0x1B bytes ≡ true → IsNamed m TypeSpec bytes
unfolding is_signature kind_in_table
spec_named m bytes h =
    let w = there_is (sig_in (is_counted (row_count m)) TypeSpec bytes) h in
    record {
      tree = w.0;
      read = sig_keeps (is_counted (row_count m)) is_coded TypeSpec bytes w.0 (counted_names (row_count m)) w.1;
      known = spec_known (Known m) (is_counted (row_count m)) bytes w.0 (test_of_rows m) w.1;
      shape = λ key new same. spec_shape_same (is_counted (row_count m)) key new bytes w.0 (agree_on m key new same) w.1;
    }

read_known : (m : Module) (k : SigKind) (bytes : List ℕ) (x : SigTree) → IsNamed m k bytes → sig_in is_coded k bytes ≡ Some x → AllKnown (Known m) (forest_of x.parts)
read_known m k bytes x named e = let f : named.tree ≡ x = some_is named.tree x (sym named.read ∙ e) in subst (λ (y : SigTree). AllKnown (Known m) (forest_of y.parts)) f named.known
  where
    some_is : (x y : SigTree) → Some x ≡ Some y → x ≡ y
    some_is x y e = cc

sigs_same : (m : Module) (k : SigKind) (same new : Token → Token → Bool) (a b : List ℕ) → ((t u : Token) → Known m t → Known m u → new t u ≡ same t u) → IsNamed m k a → IsNamed m k b → sigs_agree new k a b ≡ sigs_agree same k a b
unfolding sigs_agree
sigs_same m k same new a b is na nb = both_same m same new (sig_in is_coded k a) (sig_in is_coded k b) is (λ x e. read_known m k a x na e) (λ x e. read_known m k b x nb e)

-- TypeSpecs
spec_column : signature_column 0x1B ≡ Some 0
unfolding signature_column
spec_column = refl

spec_sound : (m : Module) (u : Token) → IsSound m → has_row m u ≡ true → u.table ≡ 0x1B → IsNamed m TypeSpec (bytes_at (cells_of m) u 0)
spec_sound m u sound there e =
    spec_named m (bytes_at (cells_of m) u 0) (ap (λ t. is_signature (row_count m) t (bytes_at (cells_of m) u 0)) (sym e) ∙ sound.signatures.each u 0 there (ap signature_column e ∙ spec_column))

specs_none : (r : Rows) (a b : Token) → are_rows r 0x1B a b ≡ false → type_specs_alike r a b ≡ false
unfolding type_specs_alike
specs_none r a b e = rw e refl

specs_by : (r s : Rows) (a b : Token) → r a ≡ s a → r b ≡ s b → are_rows r 0x1B a b ≡ are_rows s 0x1B a b → sigs_agree (refs_alike r 99) TypeSpec (bytes_at s a 0) (bytes_at s b 0) ≡ sigs_agree (refs_alike s 99) TypeSpec (bytes_at s a 0) (bytes_at s b 0) → type_specs_alike r a b ≡ type_specs_alike s a b
unfolding type_specs_alike kind_in_table
specs_by r s a b ea eb rows sigs = rw (rows, bytes_by r s a 0 ea, bytes_by r s b 0 eb, sigs) refl

specs_same : (m n : Module) (a b : Token) (x : Bool) → IsSound m → RefsStay m n → Known m a → Known m b → are_rows (cells_of m) 0x1B a b ≡ x → type_specs_alike (cells_of n) a b ≡ type_specs_alike (cells_of m) a b
specs_same m n a b false sound stay ka kb e = specs_none (cells_of n) a b (rows_same m n 0x1B a b stay ka kb refl refl ∙ e) ∙ sym (specs_none (cells_of m) a b e)
specs_same m n a b true sound stay ka kb e =
    let t = tables_are (cells_of m) 0x1B a b e in
    let na = spec_sound m a sound (there_by m 0x1B a ka t.0 refl) t.0 in
    let nb = spec_sound m b sound (there_by m 0x1B b kb t.1 refl) t.1 in
    specs_by (cells_of n) (cells_of m) a b (stays m n 0x1B a stay ka t.0 refl refl) (stays m n 0x1B b stay kb t.1 refl refl) (rows_same m n 0x1B a b stay ka kb refl refl)
    (sigs_same m TypeSpec (refs_alike (cells_of m) 99) (refs_alike (cells_of n) 99) (bytes_at (cells_of m) a 0) (bytes_at (cells_of m) b 0) (refs_same m n 99 sound stay) na nb)

tokens_same : (m n : Module) → IsSound m → RefsStay m n → Same m n tokens_alike
unfolding tokens_alike
tokens_same m n sound stay a b ka kb = rw (refs_same m n 100 sound stay a b ka kb, specs_same m n a b (are_rows (cells_of m) 0x1B a b) sound stay ka kb refl) refl

-- methods' signatures
method_column : signature_column 0x06 ≡ Some 4
unfolding signature_column
method_column = refl

pub method_sound : (m : Module) (u : Token) → IsSound m → has_row m u ≡ true → u.table ≡ 0x06 → IsNamed m Method (bytes_at (cells_of m) u 4)
method_sound m u sound there e =
    method_named m (bytes_at (cells_of m) u 4) (ap (λ t. is_signature (row_count m) t (bytes_at (cells_of m) u 4)) (sym e) ∙ sound.signatures.each u 4 there (ap signature_column e ∙ method_column))

pub signatures_same : (m n : Module) (a b : List ℕ) → IsSound m → RefsStay m n → IsNamed m Method a → IsNamed m Method b → signatures_alike (cells_of n) 0x06 a b ≡ signatures_alike (cells_of m) 0x06 a b
unfolding signatures_alike kind_in_table
signatures_same m n a b sound stay na nb =
    ap (λ t. bytes_eq a b || t) (sigs_same m Method (tokens_alike (cells_of m)) (tokens_alike (cells_of n)) a b (tokens_same m n sound stay) na nb)

-- keys
names_by : (r s : Rows) (a : Token) → r a ≡ s a → names_key r a ≡ names_key s a
unfolding names_key
names_by r s a e = rw (bytes_by r s a 1 e, bytes_by r s a 2 e) refl

version_by : (r s : Rows) (a : Token) → r a ≡ s a → version_key r a ≡ version_key s a
unfolding version_key
version_by r s a e = rw (number_by r s a 0 e, number_by r s a 1 e, number_by r s a 2 e, number_by r s a 3 e, number_by r s a 4 e) refl

assembly_by : (r s : Rows) (a : Token) → r a ≡ s a → assembly_ref_key r a ≡ assembly_ref_key s a
unfolding assembly_ref_key
assembly_by r s a e = rw (version_by r s a e, bytes_by r s a 5 e, bytes_by r s a 6 e, bytes_by r s a 7 e, bytes_by r s a 8 e) refl

module_by : (r s : Rows) (a : Token) → r a ≡ s a → module_ref_key r a ≡ module_ref_key s a
unfolding module_ref_key
module_by r s a e = rw (bytes_by r s a 0 e) refl

abbrev SameKey : Module → Module → (Rows → Token → Mix) → Type 0
SameKey m n key = (t : Token) → Known m t → key (cells_of n) t ≡ key (cells_of m) t

own_by : (r s : Rows) (t : Token) → r t ≡ s t → single_key r t ≡ single_key s t
unfolding single_key reference_key
own_by r s t e = rw (e, names_by r s t e, assembly_by r s t e, module_by r s t e) refl

one_way : (b : Bool) (k : Mix) → (if b then k else k) ≡ k
one_way true k = refl
one_way false k = refl

own_other : (r : Rows) (t : Token) → (t.table == 0x01) ≡ false → (t.table == 0x23) ≡ false → (t.table == 0x1A) ≡ false → single_key r t ≡ token_key t
unfolding single_key reference_key
own_other r t ex ey ez = rw (ex, ey, ez) (one_way (is_some (r t)) (token_key t))

own_by_tests : (m n : Module) (t : Token) (x y z : Bool) → RefsStay m n → Known m t → (t.table == 0x01) ≡ x → (t.table == 0x23) ≡ y → (t.table == 0x1A) ≡ z → single_key (cells_of n) t ≡ single_key (cells_of m) t
own_by_tests m n t true y z stay known ex ey ez = own_by (cells_of n) (cells_of m) t (stays m n 0x01 t stay known (eq_of t.table 0x01 ex) refl refl)
own_by_tests m n t false true z stay known ex ey ez = own_by (cells_of n) (cells_of m) t (stays m n 0x23 t stay known (eq_of t.table 0x23 ey) refl refl)
own_by_tests m n t false false true stay known ex ey ez = own_by (cells_of n) (cells_of m) t (stays m n 0x1A t stay known (eq_of t.table 0x1A ez) refl refl)
own_by_tests m n t false false false stay known ex ey ez = own_other (cells_of n) t ex ey ez ∙ sym (own_other (cells_of m) t ex ey ez)

own_same : (m n : Module) → RefsStay m n → SameKey m n single_key
own_same m n stay t known = own_by_tests m n t (t.table == 0x01) (t.table == 0x23) (t.table == 0x1A) stay known refl refl refl

-- the keys of some scopes are the same, and what is behind them is known
record AreSameNear (m : Module) (x y : Near) : Type 0 where
  pub same : x ≡ y
  pub known : Known m y.end

scope_same : (m n : Module) (t : Token) (x : Bool) → IsSound m → RefsStay m n → Known m t → (t.table == 0x01) ≡ x → (scope_of (cells_of n) t ≡ scope_of (cells_of m) t) × Known m (scope_of (cells_of m) t)
unfolding scope_of
scope_same m n t true sound stay known e =
    let table = eq_of t.table 0x01 e in
    rw e (token_by (cells_of n) (cells_of m) t 0 (stays m n 0x01 t stay known table refl refl), scope_known m t sound (there_by m 0x01 t known table refl) table)
scope_same m n t false sound stay known e = rw e (refl, known)

near_same : (m n : Module) (k : ℕ) (t : Token) → IsSound m → RefsStay m n → Known m t → AreSameNear m (near (cells_of n) k t) (near (cells_of m) k t)
unfolding near
near_same m n zero t sound stay known =
    let scope = scope_same m n t (t.table == 0x01) sound stay known refl in
    record { same = rw (own_same m n stay t known, scope.0) refl; known = scope.1 }
near_same m n (suc k) t sound stay known = onward_same m n k (near (cells_of n) k t) (near (cells_of m) k t) sound stay (near_same m n k t sound stay known) (λ u h. near_same m n k u sound stay h)
  where
    onward_same : (m n : Module) (k : ℕ) (x y : Near) → IsSound m → RefsStay m n → AreSameNear m x y → ((u : Token) → Known m u → AreSameNear m (near (cells_of n) k u) (near (cells_of m) k u)) → AreSameNear m (scope_onward (cells_of n) x k) (scope_onward (cells_of m) y k)
    onward_same m n k x y sound stay h step = let next = step y.end h.known in record { same = rw (h.same, next.same) refl; known = next.known }

onward_stays : (m n : Module) (k : ℕ) (x y : Near) → IsSound m → RefsStay m n → AreSameNear m x y → AreSameNear m (scope_onward (cells_of n) x k) (scope_onward (cells_of m) y k)
onward_stays m n k x y sound stay h = let next = near_same m n k y.end sound stay h.known in record { same = rw (h.same, next.same) refl; known = next.known }

end_same : (m n : Module) → RefsStay m n → SameKey m n end_key
unfolding end_key
end_same m n stay t known = rw (own_same m n stay t known) refl

ended_same : (m n : Module) (x y : Near) → RefsStay m n → AreSameNear m x y → scope_ended (cells_of n) x ≡ scope_ended (cells_of m) y
ended_same m n x y stay h = rw (h.same, end_same m n stay y.end h.known) refl

ref_key_same : (m n : Module) → IsSound m → RefsStay m n → SameKey m n ref_key
unfolding ref_key outer
ref_key_same m n sound stay t known =
    let x = near_same m n 6 t sound stay known in
    let y = onward_stays m n 5 (near (cells_of n) 6 t) (near (cells_of m) 6 t) sound stay x in
    let z = onward_stays m n 2 (scope_onward (cells_of n) (near (cells_of n) 6 t) 5) (scope_onward (cells_of m) (near (cells_of m) 6 t) 5) sound stay y in
    rw (ended_same m n (outer (cells_of n) t) (outer (cells_of m) t) stay z, own_same m n stay t known) refl

inner_key_same : (m n : Module) → IsSound m → RefsStay m n → SameKey m n inner_key
unfolding inner_key inner
inner_key_same m n sound stay t known =
    let x = near_same m n 6 t sound stay known in
    let y = onward_stays m n 5 (near (cells_of n) 6 t) (near (cells_of m) 6 t) sound stay x in
    let z = onward_stays m n 1 (scope_onward (cells_of n) (near (cells_of n) 6 t) 5) (scope_onward (cells_of m) (near (cells_of m) 6 t) 5) sound stay y in
    let w = onward_stays m n 0 (scope_onward (cells_of n) (scope_onward (cells_of n) (near (cells_of n) 6 t) 5) 1) (scope_onward (cells_of m) (scope_onward (cells_of m) (near (cells_of m) 6 t) 5) 1) sound stay z in
    rw (ended_same m n (inner (cells_of n) t) (inner (cells_of m) t) stay w, own_same m n stay t known) refl

spec_there : (m n : Module) (t : Token) → IsSound m → RefsStay m n → Known m t → t.table ≡ 0x1B → spec_key (cells_of n) t ≡ spec_key (cells_of m) t
unfolding spec_key spec_shape
spec_there m n t sound stay known table =
    let row = stays m n 0x1B t stay known table refl refl in
    let named = spec_sound m t sound (there_by m 0x1B t known table refl) table in
    rw (row, bytes_by (cells_of n) (cells_of m) t 0 row, named.shape (inner_key (cells_of n)) (inner_key (cells_of m)) (inner_key_same m n sound stay)) refl

key_same : (m n : Module) → IsSound m → RefsStay m n → SameKey m n key_of
unfolding key_of
key_same m n sound stay t known = by_test (t.table == 0x1B) refl
  where
    by_test : (x : Bool) → (t.table == 0x1B) ≡ x
        → (if x then spec_key (cells_of n) t else ref_key (cells_of n) t) ≡ (if x then spec_key (cells_of m) t else ref_key (cells_of m) t)
    by_test true e = spec_there m n t sound stay known (eq_of t.table 0x1B e)
    by_test false e = ref_key_same m n sound stay t known

pub signature_key_same : (m n : Module) (a : List ℕ) → IsSound m → RefsStay m n → IsNamed m Method a → signature_key (cells_of n) 0x06 a ≡ signature_key (cells_of m) 0x06 a
unfolding signature_key kind_in_table
signature_key_same m n a sound stay named = ap finished (named.shape (key_of (cells_of n)) (key_of (cells_of m)) (key_same m n sound stay))
