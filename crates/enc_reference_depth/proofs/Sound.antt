-- What the tokens of a sound module name, and where walks from them end in a shallow one.
use Rattle.std.proofs.Common.{◌≡◌, ℕ, ◌+◌, ◌-◌, ◌/◌, ◌%◌, ◌<◌, ◌≤◌, Bool, true, false, List, Option, Some, None, refl, sym, ap, subst, ◌∙◌, inl, inr, arith}
use Rattle.std.specs.Prelude.{◌⊎◌, ◌&&◌, ◌==◌, is_some, nat_lt, nat_le, option_map, option_and_then, if◌then◌else◌}
use Rattle.std.proofs.lemmas.Bool.{and_parts, or_cases, eqb-true, ltb-true}
use Rattle.std.proofs.lemmas.Bool.Decides.{nat_tests}
use Rattle.enc_base.specs.Token.{nil, is_token, nth_row}
use Rattle.enc_base.specs.Order.{or_else, first_below}
use Rattle.enc_base.specs.declared.token.Token.{Token}
use Rattle.enc_base.proofs.First.{silent}
use Rattle.enc_schema.specs.Coding.{tables_of}
use Rattle.enc_schema.specs.Schema.{column_in, columns_in}
use Rattle.enc_schema.specs.declared.column.Coding.TheVariants.{ResolutionScope}
use Rattle.enc_schema.specs.declared.column.Column.{Column}
use Rattle.enc_schema.specs.declared.column.Column.TheVariants.{Coded}
use Rattle.enc_sigs.specs.Grammar.{table_of, token_named, is_coded, is_counted, sig_in}
use Rattle.enc_sigs.specs.Tree.{SigTree}
use Rattle.enc_sigs.specs.declared.kind.SigKind.{SigKind}
use Rattle.enc_sigs.proofs.Named.{counted_names}
use Rattle.enc_sigs.proofs.Wider.{sig_keeps}
use Rattle.enc_plain.specs.Cell.{Cell, number, text, blob, guid, refer, body, field, references, bodies, fields, kind_of, kind_in, is_body, is_field, cell_kind}
use Rattle.enc_plain.specs.Module.{Module, cells_of, cell_of, has_row}
use Rattle.enc_plain.specs.Rows.{token_at}
use Rattle.enc_plain.specs.Signatures.{kind_in_table, is_signature}
use Rattle.enc_plain.specs.Sound.{IsSound, row_count, is_reference, can_name}
use Rattle.enc_plain.proofs.CellsOf.{token_there}
use Rattle.enc_reference_depth.specs.Depth.{depth_within, deep_at, first_deep, IsShallow}
use Rattle.enc_plain.proofs.Applied.{same_is}
use Rattle.enc_reference_depth.proofs.TypesRead.{IsRead, is_nil, is_named, each_read}
use Rattle.enc_reference_depth.proofs.Signatures.{EachIn}
use Rattle.enc_reference_depth.proofs.Ends.{Ends, depth_none, ends_other}

-- the token is nil, or names a row
pub data Names (m : Module) (t : Token) : Type 0 where
  nothing : t ≡ nil → Names m t
  row : has_row m t ≡ true → Names m t

-- a column of references
kind_by : (t i : ℕ) (b f : Bool) (o : Option Column) → (if b then Some bodies else if f then Some fields else option_and_then kind_of o) ≡ Some references
    → (c : Column) × (o ≡ Some c)
kind_by t i true f o h = absurd cc
kind_by t i false true o h = absurd cc
kind_by t i false false None h = absurd cc
kind_by t i false false (Some c) h = (c, refl)

column_of : (t i : ℕ) → kind_in t i ≡ Some references → (c : Column) × (column_in t i ≡ Some c)
column_of t i h = kind_by t i (is_body t i) (is_field t i) (column_in t i) h

cell_is : (o : Option Cell) → option_map cell_kind o ≡ Some references → (t : Token) × (o ≡ Some (refer t))
cell_is None h = absurd cc
cell_is (Some (refer t)) h = (t, refl)
cell_is (Some (number n)) h = absurd cc
cell_is (Some (text b)) h = absurd cc
cell_is (Some (blob b)) h = absurd cc
cell_is (Some (guid b)) h = absurd cc
cell_is (Some (body b)) h = absurd cc
cell_is (Some (field b)) h = absurd cc

-- what such a column's cell is
record Refers (m : Module) (u : Token) (i : ℕ) : Type 0 where
  column : Column
  at : column_in u.table i ≡ Some column
  named : is_reference m column (token_at (cells_of m) u i) ≡ true

refers_so : (m : Module) (u : Token) (i : ℕ) → IsSound m → has_row m u ≡ true → kind_in u.table i ≡ Some references → Refers m u i
refers_so m u i sound there kind =
    let c = column_of u.table i kind in
    let t = cell_is (cell_of m u i) (sound.kinds.kinds u i references there kind) in
    record {
      column = c.0;
      at = c.1;
      named = subst (λ x. is_reference m c.0 x ≡ true) (token_there m u i t.0 t.1) (sound.cells.each u i c.0 (refer t.0) there c.1 t.1);
    }

names_by : (m : Module) (c : Column) (t : Token) → is_reference m c t ≡ true → Names m t
unfolding is_reference
names_by m c t h =
    elim (or_cases (is_token t nil) (can_name c t.table && has_row m t) h) [
      | inl is ↦ nothing (same_is t nil is)
      | inr there ↦ row (and_parts (can_name c t.table) (has_row m t) there).1
    ]

-- a reference names a row, or nothing
pub reference_names : (m : Module) (u : Token) (i : ℕ) → IsSound m → has_row m u ≡ true → kind_in u.table i ≡ Some references
    → Names m (token_at (cells_of m) u i)
reference_names m u i sound there kind = let r = refers_so m u i sound there kind in names_by m r.column (token_at (cells_of m) u i) r.named

can_by : (m : Module) (c : Column) (t : Token) → is_reference m c t ≡ true → (t ≡ nil) ⊎ (can_name c t.table ≡ true)
unfolding is_reference
can_by m c t h =
    elim (or_cases (is_token t nil) (can_name c t.table && has_row m t) h) [
      | inl is ↦ inl (same_is t nil is)
      | inr there ↦ inr (and_parts (can_name c t.table) (has_row m t) there).0
    ]

scope_here : (c : Column) → column_in 0x01 0 ≡ Some c → c ≡ Coded ResolutionScope
unfolding columns_in
scope_here c h = cc

scope_column : (t : ℕ) (c : Column) → t ≡ 0x01 → column_in t 0 ≡ Some c → c ≡ Coded ResolutionScope
scope_column t c e h = scope_here c (rw e at h)

pub scope_kind : kind_in 0x01 0 ≡ Some references
unfolding columns_in
scope_kind = refl

no_spec : (table : ℕ) (b : Bool) → (table == 0x1B) ≡ b → can_name (Coded ResolutionScope) table ≡ true → b ≡ false
unfolding tables_of
no_spec table false e h = refl
no_spec table true e h = let is = eqb-true table 0x1B e in let f = rw is at h in absurd cc

no_spec_by : (t : Token) → (t ≡ nil) ⊎ (can_name (Coded ResolutionScope) t.table ≡ true) → (t.table == 0x1B) ≡ false
no_spec_by t (inl e) = rw e refl
no_spec_by t (inr can) = no_spec t.table (t.table == 0x1B) refl can

-- the scope of a TypeRef names a row, or nothing, and is no TypeSpec
pub scope_names : (m : Module) (u : Token) → IsSound m → u.table ≡ 0x01 → has_row m u ≡ true → Names m (token_at (cells_of m) u 0)
scope_names m u sound e there = reference_names m u 0 sound there (rw e scope_kind)

pub scope_no_spec : (m : Module) (u : Token) → IsSound m → u.table ≡ 0x01 → has_row m u ≡ true → ((token_at (cells_of m) u 0).table == 0x1B) ≡ false
scope_no_spec m u sound e there =
    let r = refers_so m u 0 sound there (rw e scope_kind) in
    let is : r.column ≡ Coded ResolutionScope = scope_column u.table r.column e r.at in
    no_spec_by (token_at (cells_of m) u 0) (can_by m (Coded ResolutionScope) (token_at (cells_of m) u 0) (rw is at r.named))

-- the tokens in a sound signature
counted_row : (m : Module) (n : ℕ) → is_counted (row_count m) n ≡ true → has_row m (token_named n) ≡ true
unfolding is_counted has_row
counted_row m n h =
    let a = and_parts (is_coded n && nat_le 1 (n / 4)) (nat_le (n / 4) (row_count m (table_of (n % 4)))) h in
    let b = (and_parts (is_coded n) (nat_le 1 (n / 4)) a.0).1 in
    rw a.1 (above (n / 4) b)
  where
    above : (k : ℕ) → nat_le 1 k ≡ true → (nat_lt 0 k && true) ≡ true
    above k h = grind (arith, nat_tests)

counted_by : (m : Module) (kind : SigKind) (bytes : List ℕ) (o : Option SigTree) (s : SigTree) → sig_in (is_counted (row_count m)) kind bytes ≡ o
    → is_some o ≡ true → sig_in is_coded kind bytes ≡ Some s → sig_in (is_counted (row_count m)) kind bytes ≡ Some s
counted_by m kind bytes None s is some h = absurd cc
counted_by m kind bytes (Some x) s is some h =
    is ∙ sym (sig_keeps (is_counted (row_count m)) is_coded kind bytes x (counted_names (row_count m)) is) ∙ h

pub read_names : (m : Module) (t : Token) → IsRead (is_counted (row_count m)) t → Names m t
read_names m t (is_nil e) = nothing e
read_names m t (is_named n good e) = subst (λ x. Names m x) (sym e) (row (counted_row m n good))

pub signature_names : (m : Module) (table : ℕ) (bytes : List ℕ) → is_signature (row_count m) table bytes ≡ true → EachIn (Names m) table bytes
unfolding is_signature
signature_names m table bytes h = record {
  each = λ s e. each_read (Names m) (is_counted (row_count m)) (read_names m) (kind_in_table table bytes) bytes s
      (counted_by m (kind_in_table table bytes) bytes (sig_in (is_counted (row_count m)) (kind_in_table table bytes) bytes) s refl h e);
}

-- in a shallow module each walk ends
both_none : {A : Type 0} (o p : Option A) → or_else o p ≡ None → (o ≡ None) × (p ≡ None)
both_none None p h = (refl, h)
both_none (Some x) p h = absurd cc

none_deep : {A : Type 0} (b : Bool) (x : A) → (if b then None else Some x) ≡ None → b ≡ true
none_deep true x h = refl
none_deep false x h = absurd cc

not_deep : (m : Module) (table n : ℕ) → deep_at m table n ≡ None → Ends (cells_of m) 100 (nth_row table n)
unfolding deep_at
not_deep m table n h =
    ltb-true (depth_within (cells_of m) 100 (nth_row table n)) 100 (none_deep (nat_lt (depth_within (cells_of m) 100 (nth_row table n)) 100) (nth_row table n) h)

shallow_none : (m : Module) → IsShallow m
    → (first_below (deep_at m 0x01) (row_count m 0x01) ≡ None) × (first_below (deep_at m 0x1B) (row_count m 0x1B) ≡ None)
unfolding first_deep
shallow_none m h = both_none (first_below (deep_at m 0x01) (row_count m 0x01)) (first_below (deep_at m 0x1B) (row_count m 0x1B)) h

pub rows_of : (m : Module) (t : Token) → has_row m t ≡ true → (0 < t.row) × (t.row ≤ row_count m t.table)
unfolding has_row
rows_of m t h = (grind (arith, nat_tests), grind (arith, nat_tests))

pub nth_is : (t : Token) (table : ℕ) → t.table ≡ table → 0 < t.row → nth_row table (t.row - 1) ≡ t
nth_is t table e low =
    let r : t.row - 1 + 1 ≡ t.row = omega arith in
    rw r (rw (← e) refl)

table_ends : (m : Module) (t : Token) (table : ℕ) → first_below (deep_at m table) (row_count m table) ≡ None → t.table ≡ table → has_row m t ≡ true
    → Ends (cells_of m) 100 t
table_ends m t table none e there =
    let r = rows_of m t there in
    let low : t.row - 1 < row_count m table = rw e at (below t.row (row_count m t.table) r.0 r.1) in
    subst (λ x. Ends (cells_of m) 100 x) (nth_is t table e r.0) (not_deep m table (t.row - 1) (silent (deep_at m table) (row_count m table) (t.row - 1) none low))
  where
    below : (n k : ℕ) → 0 < n → n ≤ k → n - 1 < k
    below n k a b = omega arith

row_ends : (m : Module) (t : Token) (a b : Bool) → IsShallow m → has_row m t ≡ true → (t.table == 0x01) ≡ a → (t.table == 0x1B) ≡ b
    → Ends (cells_of m) 100 t
row_ends m t true b shallow there e f = table_ends m t 0x01 (shallow_none m shallow).0 (eqb-true t.table 0x01 e) there
row_ends m t false true shallow there e f = table_ends m t 0x1B (shallow_none m shallow).1 (eqb-true t.table 0x1B f) there
row_ends m t false false shallow there e f = ends_other (cells_of m) 99 t e f

pub all_end : (m : Module) (t : Token) → IsShallow m → Names m t → Ends (cells_of m) 100 t
all_end m t shallow (nothing e) = let d = depth_none (cells_of m) 100 t (ap (λ (x : Token). x.row) e) in omega (arith, d)
all_end m t shallow (row there) = row_ends m t (t.table == 0x01) (t.table == 0x1B) shallow there refl refl
