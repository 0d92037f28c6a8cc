-- The base of a case as acts, which obey behind the module that it begins with.
use Rattle.std.proofs.Common.{◌≡◌, ℕ, zero, suc, ◌+◌, ◌<◌, ◌≤◌, true, List, [], ◌∷◌, ◌++◌, length, map, Some, refl, sym, ap, ◌∙◌, arith, subst, codes, replicate}
use Rattle.std.specs.Prelude.{slice_get, nat_le}
use Rattle.std.specs.List.{range_with_len}
use Rattle.std.proofs.lemmas.Bool.Decides.{nat_tests}
use Rattle.std.proofs.lemmas.List.FromFn.{length-map-range_with_len}
use Rattle.enc_base.specs.Token.{nil}
use Rattle.enc_base.specs.declared.token.Token.{Token}
use Rattle.enc_rows.specs.Sums.{below}
use Rattle.enc_schema.specs.Coding.{tables_of}
use Rattle.enc_schema.specs.Schema.{columns_in, list_at}
use Rattle.enc_base.specs.Tables.{assembly_ref, type_ref, type_def}
use Rattle.enc_plain.specs.Chain.{Chain}
use Rattle.enc_plain.specs.Module.{Row}
use Rattle.enc_plain.specs.Signatures.{signature_column}
use Rattle.enc_plain.specs.Sound.{row_count}
use Rattle.enc_edit_list.specs.declared.edit.Cell.{Cell as CellValue}
use Rattle.enc_edit_list.specs.declared.edit.Cell.TheVariants as cell
use Rattle.enc_edit_list.specs.declared.edit.Edit.{Edit}
use Rattle.enc_edit_list.specs.Added.{adds_to, rows_added}
use Rattle.enc_edit_list.specs.Form.{edit_fits, stated_columns, cells_fit}
use Rattle.enc_rules.specs.Listed.{count_after}
use Rattle.enc_rules.specs.Rules.{cells_break}
use Rattle.enc_memory_module.specs.Applied.{alone}
use Rattle.enc_memory_module.specs.Begun.{begun}
use Rattle.enc_generator.specs.Generated.{named_row, adds_mscorlib, adds_object, adds_type, base_method, base_edits}
use Rattle.enc_generator.proofs.NamesApart.{Apart, Each, each_none, each_more, each_both, name_of_base, base_apart, base_whole}
use Rattle.enc_generator.proofs.Acts.{Act, plain_row, method, code, edits_of_acts, new_names, IsGoodAct}
use Rattle.enc_generator.proofs.ActsAdded.{one, added_cons}
use Rattle.enc_generator.proofs.Obeys.{IsPlainRow, Obeys}

abbrev pub base_act : ℕ → Act
base_act k = method (name_of_base k) k

-- the rows without an owner
abbrev assembly_cells : List CellValue
assembly_cells = cell.Num 4 ∷ cell.Num 0 ∷ cell.Num 0 ∷ cell.Num 0 ∷ cell.Num 0 ∷ cell.Blob [] ∷ cell.Text (codes "mscorlib") ∷ cell.Text [] ∷ cell.Blob [] ∷ []

abbrev object_cells : List CellValue
object_cells = cell.Refer (named_row assembly_ref 1) ∷ cell.Text (codes "Object") ∷ cell.Text (codes "System") ∷ []

abbrev type_cells : ℕ → List ℕ → Token → List CellValue
type_cells flags name parent = cell.Num flags ∷ cell.Text name ∷ cell.Text [] ∷ cell.Refer parent ∷ []

abbrev assembly : Act
assembly = plain_row assembly_ref assembly_cells

abbrev object : Act
object = plain_row type_ref object_cells

abbrev module_type : Act
module_type = plain_row type_def (type_cells 0 (codes "<Module>") nil)

abbrev p_type : Act
p_type = plain_row type_def (type_cells 0x100001 (codes "P") (named_row type_ref 1))

abbrev front_acts : List Act
front_acts = assembly ∷ object ∷ module_type ∷ p_type ∷ []

each_four : (P : Act → Type 0) (a b c d : Act) → P a → P b → P c → P d → Each P (a ∷ b ∷ c ∷ d ∷ [])
each_four P a b c d p q r s = each_more P a (b ∷ c ∷ d ∷ []) p (each_more P b (c ∷ d ∷ []) q (each_more P c (d ∷ []) r (each_more P d [] s (each_none P))))

unfoldable pub base_acts : List Act
base_acts = front_acts ++ map base_act (below 1000)

same_methods : (ks : List ℕ) → map base_method ks ≡ edits_of_acts (map base_act ks)
same_methods [] = refl
same_methods (k ∷ ks) = ap (λ (es : List Edit). base_method k ∷ es) (same_methods ks)

pub same_base_edits : base_edits ≡ edits_of_acts base_acts
unfolding base_edits base_acts
same_base_edits = ap (λ (es : List Edit). adds_mscorlib ∷ adds_object ∷ adds_type 0 (codes "<Module>") nil ∷ adds_type 0x100001 (codes "P") (named_row type_ref 1) ∷ es) (same_methods (below 1000))

method_names : (ks : List ℕ) → new_names (map base_act ks) ≡ map name_of_base ks
method_names [] = refl
method_names (k ∷ ks) = ap (λ (ns : List (List ℕ)). name_of_base k ∷ ns) (method_names ks)

pub base_names : new_names base_acts ≡ map name_of_base (below 1000)
unfolding base_acts
base_names = method_names (below 1000)

pub base_names_many : length (new_names base_acts) ≡ 1000
unfolding below
base_names_many = ap (λ (ns : List (List ℕ)). length ns) base_names ∙ length-map-range_with_len name_of_base 0 1000

below_many : (n : ℕ) → length (map base_act (below n)) ≡ n
unfolding below
below_many n = length-map-range_with_len base_act 0 n

pub base_many : length base_acts ≡ 1004
unfolding base_acts
base_many = let n = below_many 1000 in omega (arith, n)

-- what is numbered
mapped : (a n i : ℕ) (x : Act) → slice_get (map base_act (range_with_len a n)) i ≡ Some x → (x ≡ base_act (a + i)) × (i < n)
mapped a zero i x h = absurd cc
mapped a (suc n) zero x h = let e : a + 0 ≡ a = omega arith in let is : base_act a ≡ x = cc in (rw e (sym is), omega arith)
mapped a (suc n) (suc i) x h = let w = mapped (a + 1) n i x h in let e : a + 1 + i ≡ a + suc i = omega arith in (rw e at w.0, omega (arith, w.1))

each_method : (P : Act → Type 0) (n : ℕ) → ((k : ℕ) → k < n → P (base_act k)) → Each P (map base_act (below n))
unfolding below
each_method P n all i x h = let w = mapped 0 n i x h in subst P (sym w.0) (all (0 + i) (omega (arith, w.1)))

-- how many rows there are
rows_base : (t : ℕ) → rows_added (edits_of_acts base_acts) t ≡ one (adds_to t adds_mscorlib) + (one (adds_to t adds_object) + (one (adds_to t (adds_type 0 (codes "<Module>") nil)) + (one (adds_to t (adds_type 0x100001 (codes "P") (named_row type_ref 1))) + rows_added (edits_of_acts (map base_act (below 1000))) t)))
unfolding base_acts
rows_base t =
    let a = added_cons adds_mscorlib (adds_object ∷ adds_type 0 (codes "<Module>") nil ∷ adds_type 0x100001 (codes "P") (named_row type_ref 1) ∷ edits_of_acts (map base_act (below 1000))) t in
    let b = added_cons adds_object (adds_type 0 (codes "<Module>") nil ∷ adds_type 0x100001 (codes "P") (named_row type_ref 1) ∷ edits_of_acts (map base_act (below 1000))) t in
    let c = added_cons (adds_type 0 (codes "<Module>") nil) (adds_type 0x100001 (codes "P") (named_row type_ref 1) ∷ edits_of_acts (map base_act (below 1000))) t in
    let d = added_cons (adds_type 0x100001 (codes "P") (named_row type_ref 1)) (edits_of_acts (map base_act (below 1000))) t in
    omega (arith, a, b, c, d)

pub types_base : 2 ≤ rows_added (edits_of_acts base_acts) type_def
types_base = let n = rows_base type_def in rw n (omega arith)

refs_base : 1 ≤ rows_added (edits_of_acts base_acts) type_ref
refs_base = let n = rows_base type_ref in rw n (omega arith)

assemblies_base : 1 ≤ rows_added (edits_of_acts base_acts) assembly_ref
assemblies_base = let n = rows_base assembly_ref in rw n (omega arith)

-- the rows without an owner break no rule
is_there : (n : ℕ) → 1 ≤ n → nat_le 1 n ≡ true
is_there n h = grind (arith, nat_tests, h)

plain_assembly : (count : ℕ → ℕ) → IsPlainRow count assembly_ref assembly_cells
unfolding cells_break stated_columns columns_in signature_column edit_fits cells_fit tables_of
plain_assembly count = record { other = refl; alone = refl; allowed = refl; tokens = refl; unsigned = refl; form = refl }

plain_object : (count : ℕ → ℕ) → 1 ≤ count assembly_ref → IsPlainRow count type_ref object_cells
unfolding cells_break stated_columns columns_in signature_column edit_fits cells_fit tables_of
plain_object count some = record { other = refl; alone = refl; allowed = refl; tokens = rw (is_there (count assembly_ref) some) refl; unsigned = refl; form = refl }

plain_module : (count : ℕ → ℕ) → IsPlainRow count type_def (type_cells 0 (codes "<Module>") nil)
unfolding cells_break stated_columns columns_in signature_column edit_fits cells_fit tables_of
plain_module count = record { other = refl; alone = refl; allowed = refl; tokens = refl; unsigned = refl; form = refl }

plain_p : (count : ℕ → ℕ) → 1 ≤ count type_ref → IsPlainRow count type_def (type_cells 0x100001 (codes "P") (named_row type_ref 1))
unfolding cells_break stated_columns columns_in signature_column edit_fits cells_fit tables_of
plain_p count some = record { other = refl; alone = refl; allowed = refl; tokens = rw (is_there (count type_ref) some) refl; unsigned = refl; form = refl }

all_good : (count : ℕ → ℕ) → 1 ≤ count assembly_ref → 1 ≤ count type_ref → Each (IsGoodAct (IsPlainRow count) 0) base_acts
unfolding base_acts
all_good count assemblies refs =
    each_both (IsGoodAct (IsPlainRow count) 0) front_acts (map base_act (below 1000))
    (each_four (IsGoodAct (IsPlainRow count) 0) assembly object module_type p_type (plain_assembly count) (plain_object count assemblies) (plain_module count) (plain_p count refs))
    (each_method (IsGoodAct (IsPlainRow count) 0) 1000 (λ k low. (base_whole k (omega (arith, low)), omega (arith, low))))

-- no body is replaced
abbrev IsNoCode : Act → Type 0
IsNoCode a = (r n : ℕ) → a ≡ code r n → ⊥

none_replaced : Each IsNoCode base_acts
unfolding base_acts
none_replaced =
    each_both IsNoCode front_acts (map base_act (below 1000))
    (each_four IsNoCode assembly object module_type p_type (λ r n e. cc) (λ r n e. cc) (λ r n e. cc) (λ r n e. cc))
    (each_method IsNoCode 1000 (λ k low r n e. cc))

count_rows : (c : Chain) (edits : List Edit) (t : ℕ) → rows_added edits t ≤ count_after c edits t
unfolding count_after
count_rows c edits t = omega arith

-- so the base obeys
pub base_obeys : (name mvid : List ℕ) → Obeys (alone (begun name mvid)) [] base_acts
base_obeys name mvid =
    let count = count_after (alone (begun name mvid)) (edits_of_acts base_acts) in
    let types = count_rows (alone (begun name mvid)) (edits_of_acts base_acts) type_def in
    let refs = count_rows (alone (begun name mvid)) (edits_of_acts base_acts) type_ref in
    let assemblies = count_rows (alone (begun name mvid)) (edits_of_acts base_acts) assembly_ref in
    let two = types_base in
    let one_ref = refs_base in
    let one_assembly = assemblies_base in
    let many = base_many in
    record {
      methods = record { count = refl; named = λ r x h. absurd cc; il = λ r low. absurd (omega (arith, low)) };
      types = omega (arith, types, two);
      good = all_good (count_after (alone (begun name mvid)) (edits_of_acts base_acts)) (omega (arith, assemblies, one_assembly)) (omega (arith, refs, one_ref));
      apart = subst Apart (sym base_names) (base_apart 1000 (omega arith));
      once = λ j k r m n low h g. absurd (none_replaced j (code r m) h r m refl);
      short = omega (arith, many);
    }

-- the module that it begins with has one row
rows_none : (n t : ℕ) → list_at {A = Row} (replicate n []) t ≡ []
rows_none zero t = refl
rows_none (suc n) zero = refl
rows_none (suc n) (suc t) = rows_none n t

pub begun_few : (name mvid : List ℕ) (t : ℕ) → row_count (begun name mvid) t ≤ 1
begun_few name mvid zero = omega arith
begun_few name mvid (suc t) = rw (rows_none 0x2C t) (omega arith)
