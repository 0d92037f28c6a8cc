-- Which columns a pass gathers.
use Rattle.std.proofs.Common.{◌≡◌, ℕ, Bool, true, false, List, [], Option, Some, None, refl, sym, ap, ◌∙◌, arith}
use Rattle.std.specs.Prelude.{◌==◌, not, option_and_then, if◌then◌else◌}
use Rattle.std.specs.List.{list_any}
use Rattle.std.proofs.lemmas.Bool.Decides.{nat_tests}
use Rattle.enc_base.specs.declared.token.Token.{Token}
use Rattle.enc_schema.specs.declared.column.Column.{Column}
use Rattle.enc_schema.specs.declared.column.Column.TheVariants as column
use Rattle.enc_schema.specs.Schema.{columns_in, column_in}
use Rattle.enc_plain.specs.Cell.{Cell, number, text, blob, guid, refer, body, field, Kind, numbers, texts, blobs, guids, references, bodies, fields, kind_of, kind_in, is_body, is_field, cell_kind}
use Rattle.std.proofs.Common.{◌+◌, ◌<◌, length}
use Rattle.enc_plain.specs.Module.{Module, rows_in, has_row, cell_of}
use Rattle.enc_plain.specs.Sound.{IsSound}
use Rattle.enc_plain.proofs.Columns.{plain_kind, column_with}
use Rattle.enc_plain.proofs.KindsOf.{kind_of_cell}
use Rattle.enc_rewriter.specs.Values.{gathers, values_for, values_if, values_at}
use Rattle.enc_rewriter.specs.declared.pass.Pass.{Pass}
use Rattle.enc_rewriter.specs.declared.pass.Pass.TheVariants as pass

body_is : (t i : ℕ) → is_body t i ≡ true → (t ≡ 0x06) × (i ≡ 0)
body_is t i e = (grind (arith, nat_tests), grind (arith, nat_tests))

field_is : (t i : ℕ) → is_field t i ≡ true → (t ≡ 0x1D) × (i ≡ 0)
field_is t i e = (grind (arith, nat_tests), grind (arith, nat_tests))

at_body : (c : Column) → column_in 0x06 0 ≡ Some c → c ≡ column.Num32
unfolding columns_in
at_body c e = cc

at_field : (c : Column) → column_in 0x1D 0 ≡ Some c → c ≡ column.Num32
unfolding columns_in
at_field c e = cc

pub body_column : (t i : ℕ) (c : Column) → column_in t i ≡ Some c → is_body t i ≡ true → c ≡ column.Num32
body_column t i c e is = let p = body_is t i is in at_body c (rw (p.0, p.1) at e)

pub field_column : (t i : ℕ) (c : Column) → column_in t i ≡ Some c → is_field t i ≡ true → c ≡ column.Num32
field_column t i c e is = let p = field_is t i is in at_field c (rw (p.0, p.1) at e)

-- by the column and where it stands
abbrev pub gathered_by : Pass → Bool → Column → Bool
gathered_by pass.Texts place column.Text = true
gathered_by pass.Users place c = place
gathered_by pass.Blobs place column.Blob = true
gathered_by pass.Guids place column.Guid = true
gathered_by _ place c = false

at_place : (p : Pass) → gathers p (Some bodies) ≡ gathered_by p true column.Num32
at_place pass.Texts = refl
at_place pass.Users = refl
at_place pass.Blobs = refl
at_place pass.Guids = refl

at_data : (p : Pass) → gathers p (Some fields) ≡ gathered_by p false column.Num32
at_data pass.Texts = refl
at_data pass.Users = refl
at_data pass.Blobs = refl
at_data pass.Guids = refl

plainly : (p : Pass) (c : Column) → gathers p (kind_of c) ≡ gathered_by p false c
plainly pass.Texts column.Num8 = refl
plainly pass.Texts column.Num16 = refl
plainly pass.Texts column.Num32 = refl
plainly pass.Texts column.Text = refl
plainly pass.Texts column.Guid = refl
plainly pass.Texts column.Blob = refl
plainly pass.Texts (column.Index t) = refl
plainly pass.Texts (column.Coded k) = refl
plainly pass.Texts (column.Run t) = refl
plainly pass.Users column.Num8 = refl
plainly pass.Users column.Num16 = refl
plainly pass.Users column.Num32 = refl
plainly pass.Users column.Text = refl
plainly pass.Users column.Guid = refl
plainly pass.Users column.Blob = refl
plainly pass.Users (column.Index t) = refl
plainly pass.Users (column.Coded k) = refl
plainly pass.Users (column.Run t) = refl
plainly pass.Blobs column.Num8 = refl
plainly pass.Blobs column.Num16 = refl
plainly pass.Blobs column.Num32 = refl
plainly pass.Blobs column.Text = refl
plainly pass.Blobs column.Guid = refl
plainly pass.Blobs column.Blob = refl
plainly pass.Blobs (column.Index t) = refl
plainly pass.Blobs (column.Coded k) = refl
plainly pass.Blobs (column.Run t) = refl
plainly pass.Guids column.Num8 = refl
plainly pass.Guids column.Num16 = refl
plainly pass.Guids column.Num32 = refl
plainly pass.Guids column.Text = refl
plainly pass.Guids column.Guid = refl
plainly pass.Guids column.Blob = refl
plainly pass.Guids (column.Index t) = refl
plainly pass.Guids (column.Coded k) = refl
plainly pass.Guids (column.Run t) = refl

by_place : (p : Pass) (t i : ℕ) (c : Column) (b f : Bool) → column_in t i ≡ Some c → is_body t i ≡ b → is_field t i ≡ f
    → gathers p (if b then Some bodies else if f then Some fields else option_and_then kind_of (column_in t i)) ≡ gathered_by p b c
by_place p t i c true f e is k = let n = body_column t i c e is in rw n (at_place p)
by_place p t i c false true e is k = let n = field_column t i c e k in rw n (at_data p)
by_place p t i c false false e is k = rw e (plainly p c)

pub by_column : (p : Pass) (t i : ℕ) (c : Column) → column_in t i ≡ Some c → gathers p (kind_in t i) ≡ gathered_by p (is_body t i) c
by_column p t i c e = by_place p t i c (is_body t i) (is_field t i) e refl refl

pub text_kind : (k : Option Kind) → gathers pass.Texts k ≡ true → k ≡ Some texts
text_kind (Some texts) e = refl
text_kind (Some numbers) e = absurd cc
text_kind (Some blobs) e = absurd cc
text_kind (Some guids) e = absurd cc
text_kind (Some references) e = absurd cc
text_kind (Some bodies) e = absurd cc
text_kind (Some fields) e = absurd cc
text_kind None e = absurd cc

pub blob_kind : (k : Option Kind) → gathers pass.Blobs k ≡ true → k ≡ Some blobs
blob_kind (Some blobs) e = refl
blob_kind (Some numbers) e = absurd cc
blob_kind (Some texts) e = absurd cc
blob_kind (Some guids) e = absurd cc
blob_kind (Some references) e = absurd cc
blob_kind (Some bodies) e = absurd cc
blob_kind (Some fields) e = absurd cc
blob_kind None e = absurd cc

pub guid_kind : (k : Option Kind) → gathers pass.Guids k ≡ true → k ≡ Some guids
guid_kind (Some guids) e = refl
guid_kind (Some numbers) e = absurd cc
guid_kind (Some texts) e = absurd cc
guid_kind (Some blobs) e = absurd cc
guid_kind (Some references) e = absurd cc
guid_kind (Some bodies) e = absurd cc
guid_kind (Some fields) e = absurd cc
guid_kind None e = absurd cc

users_kind : (k : Option Kind) → gathers pass.Users k ≡ true → k ≡ Some bodies
users_kind (Some bodies) e = refl
users_kind (Some numbers) e = absurd cc
users_kind (Some texts) e = absurd cc
users_kind (Some blobs) e = absurd cc
users_kind (Some guids) e = absurd cc
users_kind (Some references) e = absurd cc
users_kind (Some fields) e = absurd cc
users_kind None e = absurd cc

only_body : (t i : ℕ) (b f : Bool) → is_body t i ≡ b → (if b then Some bodies else if f then Some fields else option_and_then kind_of (column_in t i)) ≡ Some bodies → is_body t i ≡ true
only_body t i true f is e = is
only_body t i false true is e = absurd cc
only_body t i false false is e = absurd (no_column (column_in t i) e)
  where
    no_kind : (c : Column) → kind_of c ≡ Some bodies → ⊥
    no_kind column.Num8 e = absurd cc
    no_kind column.Num16 e = absurd cc
    no_kind column.Num32 e = absurd cc
    no_kind column.Text e = absurd cc
    no_kind column.Guid e = absurd cc
    no_kind column.Blob e = absurd cc
    no_kind (column.Index t) e = absurd cc
    no_kind (column.Coded k) e = absurd cc
    no_kind (column.Run t) e = absurd cc

    no_column : (o : Option Column) → option_and_then kind_of o ≡ Some bodies → ⊥
    no_column None e = absurd cc
    no_column (Some c) e = no_kind c e

pub body_kind : (t i : ℕ) → gathers pass.Users (kind_in t i) ≡ true → (t ≡ 0x06) × (i ≡ 0)
body_kind t i e = body_is t i (only_body t i (is_body t i) (is_field t i) refl (users_kind (kind_in t i) e))

by_cell : (p : Pass) (c : Cell) → gathers p (Some (cell_kind c)) ≡ false → values_for p c ≡ []
by_cell pass.Texts (text v) e = absurd cc
by_cell pass.Texts (number n) e = refl
by_cell pass.Texts (blob v) e = refl
by_cell pass.Texts (guid v) e = refl
by_cell pass.Texts (refer t) e = refl
by_cell pass.Texts (body b) e = refl
by_cell pass.Texts (field v) e = refl
by_cell pass.Users (body b) e = absurd cc
by_cell pass.Users (number n) e = refl
by_cell pass.Users (text v) e = refl
by_cell pass.Users (blob v) e = refl
by_cell pass.Users (guid v) e = refl
by_cell pass.Users (refer t) e = refl
by_cell pass.Users (field v) e = refl
by_cell pass.Blobs (blob v) e = absurd cc
by_cell pass.Blobs (number n) e = refl
by_cell pass.Blobs (text v) e = refl
by_cell pass.Blobs (guid v) e = refl
by_cell pass.Blobs (refer t) e = refl
by_cell pass.Blobs (body b) e = refl
by_cell pass.Blobs (field v) e = refl
by_cell pass.Guids (guid v) e = absurd cc
by_cell pass.Guids (number n) e = refl
by_cell pass.Guids (text v) e = refl
by_cell pass.Guids (blob v) e = refl
by_cell pass.Guids (refer t) e = refl
by_cell pass.Guids (body b) e = refl
by_cell pass.Guids (field v) e = refl

by_option : (p : Pass) (m : Module) (u : Token) (i : ℕ) (c : Column) (o : Option Cell) → IsSound m → has_row m u ≡ true → column_in u.table i ≡ Some c → cell_of m u i ≡ o
    → gathers p (kind_in u.table i) ≡ false → values_if p o ≡ []
by_option p m u i c None sound there e is not_its = refl
by_option p m u i c (Some cell) sound there e is not_its =
    let k = kind_of_cell m u i c cell sound.kinds there e is in
    by_cell p cell (sym (ap (gathers p) k) ∙ not_its)

-- a column that a pass doesn't gather has no value for its heap
pub nothing_there : (p : Pass) (m : Module) (u : Token) (i : ℕ) (c : Column) → IsSound m → has_row m u ≡ true → column_in u.table i ≡ Some c
    → gathers p (kind_in u.table i) ≡ false → values_at p m u i ≡ []
unfolding values_at
nothing_there p m u i c sound there e not_its = by_option p m u i c (cell_of m u i) sound there e refl not_its

-- a text has no zero
pub clean : (m : Module) (u : Token) (i : ℕ) (v : List ℕ) → IsSound m → has_row m u ≡ true → kind_in u.table i ≡ Some texts → cell_of m u i ≡ Some (text v)
    → not (list_any (λ c. c == 0) v) ≡ true
clean m u i v sound there kind is =
    let p = plain_kind u.table i texts refl kind in
    let c = column_with (column_in u.table i) texts p.kind in
    sound.cells.each u i c.0 (text v) there c.1 is

pub text_gathers : (p : Pass) (t i : ℕ) (c : Column) → column_in t i ≡ Some c → p ≡ pass.Texts → c ≡ column.Text → true ≡ gathers p (kind_in t i)
text_gathers p t i c e is there = sym (by_column p t i c e ∙ rw (is, there) refl)

pub blob_gathers : (p : Pass) (t i : ℕ) (c : Column) → column_in t i ≡ Some c → p ≡ pass.Blobs → c ≡ column.Blob → true ≡ gathers p (kind_in t i)
blob_gathers p t i c e is there = sym (by_column p t i c e ∙ rw (is, there) refl)

pub guid_gathers : (p : Pass) (t i : ℕ) (c : Column) → column_in t i ≡ Some c → p ≡ pass.Guids → c ≡ column.Guid → true ≡ gathers p (kind_in t i)
guid_gathers p t i c e is there = sym (by_column p t i c e ∙ rw (is, there) refl)

pub row_there : (m : Module) (t n : ℕ) → n < length (rows_in m t) → has_row m (record { table = t; row = n + 1 }) ≡ true
unfolding has_row
row_there m t n low = grind (arith, nat_tests)

pub ruleset kind_cases = (text_kind, blob_kind, guid_kind, body_kind)
