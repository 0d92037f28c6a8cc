-- What is read of the rows that have depths.
use Rattle.std.proofs.Common.{◌≡◌, ℕ, ◌+◌, ◌-◌, ◌%◌, ◌<◌, Bool, true, false, List, length, Option, Some, None, refl, sym, ap, subst, ◌∙◌, arith}
use Rattle.std.specs.Prelude.{◌&&◌, is_some, nat_lt, nat_le, slice_index, if◌then◌else◌}
use Rattle.std.proofs.lemmas.Bool.Decides.{nat_tests}
use Rattle.enc_base.specs.Token.{nth_row}
use Rattle.enc_base.specs.declared.token.Token.{Token}
use Rattle.enc_sigs.specs.Grammar.{table_of, is_coded, is_counted, sig_in}
use Rattle.enc_sigs.specs.Tree.{Forest, none, more, SigTree, trees, forest_of, trees_of}
use Rattle.enc_sigs.specs.declared.kind.SigKind.{SigKind}
use Rattle.enc_sigs.specs.declared.kind.SigKind.TheVariants.{TypeSpec}
use Rattle.enc_sigs.proofs.Named.{counted_names}
use Rattle.enc_sigs.proofs.Wider.{sig_keeps}
use Rattle.enc_plain.specs.Cell.{blob, refer, blobs, kind_in}
use Rattle.enc_plain.specs.Module.{Module, cells_of, cell_of, has_row}
use Rattle.enc_plain.specs.Rows.{Rows, bytes_at, token_at}
use Rattle.enc_plain.specs.Signatures.{is_signature, kind_in_table}
use Rattle.enc_plain.specs.Sound.{IsSound, row_count}
use Rattle.enc_plain.proofs.CellsOf.{blob_there, token_there}
use Rattle.enc_reference_depth.specs.Depth.{deepest, deepest_in}
use Rattle.enc_reference_depth.specs.Edges.{AreFew, row_at_place, depth_from}
use Rattle.enc_reference_depth.proofs.TokensKept.{spec_column}
use Rattle.enc_reference_depth.proofs.TypesRead.{EachType, types_parts, types_read}

-- the rows of a table
pub row_here : (m : Module) (table k : ℕ) → k < row_count m table → has_row m (nth_row table k) ≡ true
unfolding has_row
row_here m table k low = by (row_count m table) low
  where
    by : (n : ℕ) → k < n → (nat_lt 0 (k + 1) && nat_le (k + 1) n) ≡ true
    by n low = grind (arith, nat_tests)

pub signature_kind : (t : ℕ) → t ≡ 0x1B → kind_in t 0 ≡ Some blobs
signature_kind t e = (spec_column t e).1

-- the counts that are at hand are the module's
same_functions : {A B : Type 0} (f g : A → B) → ((a : A) → f a ≡ g a) → f ≡ g
same_functions f g h i a = h a i

tables_low : (tag : ℕ) → table_of tag < 64
tables_low tag = grind (arith)

counted_same : (m : Module) (rows : List ℕ) → ((t : ℕ) → t < 64 → slice_index rows t ≡ row_count m t) → (n : ℕ)
    → is_counted (λ t. slice_index rows t) n ≡ is_counted (row_count m) n
unfolding is_counted
counted_same m rows same n = rw (same (table_of (n % 4)) (tables_low (n % 4))) refl

read_same : (m : Module) (rows : List ℕ) (bytes : List ℕ) → ((t : ℕ) → t < 64 → slice_index rows t ≡ row_count m t)
    → sig_in (is_counted (λ t. slice_index rows t)) TypeSpec bytes ≡ sig_in (is_counted (row_count m)) TypeSpec bytes
read_same m rows bytes same =
    ap (λ (test : ℕ → Bool). sig_in test TypeSpec bytes)
    (same_functions (is_counted (λ t. slice_index rows t)) (is_counted (row_count m)) (counted_same m rows same))

is_spec : (m : Module) (bytes : List ℕ) → is_signature (row_count m) 0x1B bytes ≡ true → is_some (sig_in (is_counted (row_count m)) TypeSpec bytes) ≡ true
unfolding is_signature kind_in_table
is_spec m bytes h = h

-- the signature of a TypeSpec is read
pub spec_is_read : (m : Module) (t : Token) (rows bytes : List ℕ) → IsSound m → has_row m t ≡ true → t.table ≡ 0x1B
    → ((n : ℕ) → n < 64 → slice_index rows n ≡ row_count m n) → cell_of m t 0 ≡ Some (blob bytes)
    → sig_in (is_counted (λ n. slice_index rows n)) TypeSpec bytes ≡ None → ⊥
spec_is_read m t rows bytes sound there e same cell h =
    let is : bytes ≡ bytes_at (cells_of m) t 0 = blob_there m t 0 bytes cell in
    let each = sound.signatures.each t 0 there (spec_column t.table e).0 in
    let good : is_signature (row_count m) 0x1B bytes ≡ true
    = subst (λ k. is_signature (row_count m) k bytes ≡ true) e (subst (λ b. is_signature (row_count m) t.table b ≡ true) (sym is) each) in
    let nothing : sig_in (is_counted (row_count m)) TypeSpec bytes ≡ None = sym (read_same m rows bytes same) ∙ h in
    let some = is_spec m bytes good in
    absurd (let f : false ≡ true = sym (ap (λ (o : Option SigTree). is_some o) nothing) ∙ some in cc)

-- as it is read whatever the rows
pub spec_read : (m : Module) (t : Token) (rows bytes : List ℕ) (s : SigTree) → cell_of m t 0 ≡ Some (blob bytes)
    → sig_in (is_counted (λ n. slice_index rows n)) TypeSpec bytes ≡ Some s → sig_in is_coded TypeSpec (bytes_at (cells_of m) t 0) ≡ Some s
spec_read m t rows bytes s cell h =
    subst (λ b. sig_in is_coded TypeSpec b ≡ Some s) (blob_there m t 0 bytes cell)
    (sig_keeps (is_counted (λ n. slice_index rows n)) is_coded TypeSpec bytes s (counted_names (λ n. slice_index rows n)) h)

few_types : (f : Forest) → EachType (λ t k. length (trees k) < 0x40000000) f → AreFew f
few_types none h = tt
few_types (more e t n k r) h =
    let p = types_parts (λ u g. length (trees g) < 0x40000000) e t n k r h in
    (p.0, few_types k p.1, few_types r p.2)

-- few types stand in each of its types
pub few_read : (good : ℕ → Bool) (kind : SigKind) (bytes : List ℕ) (s : SigTree) → sig_in good kind bytes ≡ Some s → AreFew (forest_of s.parts)
few_read good kind bytes s h =
    few_types (forest_of s.parts)
    (types_read (λ t k. length (trees k) < 0x40000000) good (λ t ts is few. subst (λ us. length us < 0x40000000) (sym (trees_of ts)) few) kind bytes s h)

-- from what the depths of the rows count
type_place : (m : Module) (n : ℕ) → n < row_count m 0x01 → row_at_place m n ≡ nth_row 0x01 n
type_place m n low = by (row_count m 0x01) low
  where
    by : (k : ℕ) → n < k → (if nat_lt n k then nth_row 0x01 n else nth_row 0x1B (n - k)) ≡ nth_row 0x01 n
    by k low = let e : nat_lt n k ≡ true = grind (arith, nat_tests) in rw e refl

spec_place : (m : Module) (n : ℕ) → row_at_place m (row_count m 0x01 + n) ≡ nth_row 0x1B n
spec_place m n = by (row_count m 0x01)
  where
    by : (k : ℕ) → (if nat_lt (k + n) k then nth_row 0x01 (k + n) else nth_row 0x1B (k + n - k)) ≡ nth_row 0x1B n
    by k = let e : nat_lt (k + n) k ≡ false = grind (arith, nat_tests) in let f : k + n - k ≡ n = omega arith in rw (e, f) refl

pub places : (m : Module) (n : ℕ) → (n < row_count m 0x01 → row_at_place m n ≡ nth_row 0x01 n) × (row_at_place m (row_count m 0x01 + n) ≡ nth_row 0x1B n)
places m n = (type_place m n, spec_place m n)

from_type : (rows : Rows) (depth : Token → ℕ) (n : ℕ) → depth_from rows depth (nth_row 0x01 n) ≡ 1 + depth (token_at rows (nth_row 0x01 n) 0)
unfolding depth_from
from_type rows depth n = refl

from_spec : (rows : Rows) (depth : Token → ℕ) (n : ℕ)
    → depth_from rows depth (nth_row 0x1B n) ≡ 1 + deepest_in depth (sig_in is_coded TypeSpec (bytes_at rows (nth_row 0x1B n) 0))
unfolding depth_from
from_spec rows depth n = refl

pub type_from : (m : Module) (n : ℕ) (t : Token) → n < row_count m 0x01 → cell_of m (nth_row 0x01 n) 0 ≡ Some (refer t) → (depth : Token → ℕ)
    → depth_from (cells_of m) depth (row_at_place m n) ≡ 1 + depth t
type_from m n t low cell depth =
    rw (type_place m n low)
    (from_type (cells_of m) depth n ∙ ap (λ (u : Token). 1 + depth u) (sym (token_there m (nth_row 0x01 n) 0 t cell)))

pub spec_from : (m : Module) (n : ℕ) (s : SigTree) → sig_in is_coded TypeSpec (bytes_at (cells_of m) (nth_row 0x1B n) 0) ≡ Some s → (depth : Token → ℕ)
    → depth_from (cells_of m) depth (row_at_place m (row_count m 0x01 + n)) ≡ 1 + deepest depth (forest_of s.parts)
spec_from m n s read depth = rw (spec_place m n) (from_spec (cells_of m) depth n ∙ ap (λ (o : Option SigTree). 1 + deepest_in depth o) read)
