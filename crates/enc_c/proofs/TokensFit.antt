-- The rows of tokens that a sound module tells are of three bytes.
use Rattle.std.proofs.Common.{◌≡◌, ℕ, ◌+◌, ◌<◌, ◌≤◌, Bool, true, false, Option, Some, None, refl, arith}
use Rattle.std.specs.Prelude.{◌^◌, ◌&&◌, ◌||◌, position, option_map, option_and_then, if◌then◌else◌, Ok, Err}
use Rattle.std.proofs.lemmas.Bool.Decides.{nat_tests}
use Rattle.enc_base.specs.Token.{nil, is_token, nth_row}
use Rattle.enc_base.specs.declared.token.Token.{Token}
use Rattle.enc_schema.specs.Children.{is_child_table, owner_table}
use Rattle.enc_schema.specs.Schema.{column_in}
use Rattle.enc_schema.specs.declared.column.Column.{Column}
use Rattle.enc_plain.specs.Cell.{Cell, number, text, blob, guid, refer, body, field, Kind, numbers, texts, blobs, guids, references, bodies, fields, kind_of, kind_in, is_body, is_field}
use Rattle.enc_plain.specs.Module.{Module, has_row, has_kid, rows_in, cell_of, owner_of}
use Rattle.enc_plain.specs.Sound.{IsSound, is_reference, can_name, row_count}
use Rattle.enc_plain.proofs.Columns.{both_right}
use Rattle.enc_ppdb.proofs.Positions.{position_within}
use Rattle.enc_c.specs.declared.status.Status.TheVariants.{Absent, Unlike}
use Rattle.enc_c.specs.Cells.{token_told, asked_token}
use Rattle.enc_c.specs.Family.{owner_told, asked_owner}

-- a row that is there
low_row : (m : Module) (t : Token) → IsSound m → has_row m t ≡ true → t.row < 2 ^ 24
unfolding has_row
low_row m t sound e = let within : t.row ≤ row_count m t.table = grind (arith, nat_tests) in omega (arith, within, sound.counts.few t.table)

low_by : (m : Module) (c : Column) (t : Token) (nothing : Bool) → IsSound m → is_token t nil ≡ nothing → (nothing || (can_name c t.table && has_row m t)) ≡ true → t.row < 2 ^ 24
low_by m c t true sound is there = let e : t.row ≡ 0 = grind (arith, nat_tests) in omega (arith, e)
low_by m c t false sound is there = low_row m t sound (both_right (can_name c t.table) (has_row m t) there)

low_reference : (m : Module) (c : Column) (t : Token) → IsSound m → is_reference m c t ≡ true → t.row < 2 ^ 24
unfolding is_reference
low_reference m c t sound there = low_by m c t (is_token t nil) sound refl there

-- a token that is told stands in a column of references
refer_told : (k : Option Kind) (c : Option Cell) (u : Token) → Ok u ≡ token_told k c → (k ≡ Some references) × (c ≡ Some (refer u))
refer_told None c u e = absurd cc
refer_told (Some numbers) c u e = absurd cc
refer_told (Some texts) c u e = absurd cc
refer_told (Some blobs) c u e = absurd cc
refer_told (Some guids) c u e = absurd cc
refer_told (Some bodies) c u e = absurd cc
refer_told (Some fields) c u e = absurd cc
refer_told (Some references) None u e = absurd cc
refer_told (Some references) (Some (number n)) u e = absurd cc
refer_told (Some references) (Some (text bytes)) u e = absurd cc
refer_told (Some references) (Some (blob bytes)) u e = absurd cc
refer_told (Some references) (Some (guid bytes)) u e = absurd cc
refer_told (Some references) (Some (body there)) u e = absurd cc
refer_told (Some references) (Some (field bytes)) u e = absurd cc
refer_told (Some references) (Some (refer t)) u e = (refl, cc)

column_there : (b f : Bool) (o : Option Column) → (if b then Some bodies else if f then Some fields else option_and_then kind_of o) ≡ Some references → (c : Column) × (o ≡ Some c)
column_there true f o e = absurd cc
column_there false true o e = absurd cc
column_there false false None e = absurd cc
column_there false false (Some c) e = (c, refl)

token_by : (m : Module) (t : Token) (i : ℕ) (u : Token) (b : Bool) → IsSound m → has_row m t ≡ b
    → Ok u ≡ (if b then token_told (kind_in t.table i) (cell_of m t i) else Err Absent) → u.row < 2 ^ 24
token_by m t i u false sound there e = absurd cc
token_by m t i u true sound there e =
    let told = refer_told (kind_in t.table i) (cell_of m t i) u e in
    let column = column_there (is_body t.table i) (is_field t.table i) (column_in t.table i) told.0 in
    low_reference m column.0 u sound (sound.cells.each t i column.0 (refer u) there column.1 told.1)

pub token_fits : (m : Module) (t : Token) (i : ℕ) (u : Token) → IsSound m → Ok u ≡ asked_token m t i → u.row < 2 ^ 24
unfolding asked_token
token_fits m t i u sound e = token_by m t i u (has_row m t) sound refl e

owner_there : (o : Option Token) (u : Token) → Ok u ≡ owner_told o → o ≡ Some u
owner_there None u e = absurd cc
owner_there (Some x) u e = cc

-- an owner is a row of its table
low_owner : (m : Module) (t u : Token) (o : Option ℕ) → IsSound m → position (has_kid t) (rows_in m (owner_table t.table)) ≡ o
    → option_map (nth_row (owner_table t.table)) o ≡ Some u → u.row < 2 ^ 24
low_owner m t u None sound e is = absurd cc
low_owner m t u (Some k) sound e is =
    let row : u.row ≡ k + 1 = cc in
    omega (arith, row, position_within (has_kid t) (rows_in m (owner_table t.table)) k e, sound.counts.few (owner_table t.table))

owner_of_low : (m : Module) (t u : Token) → IsSound m → owner_of m t ≡ Some u → u.row < 2 ^ 24
unfolding owner_of
owner_of_low m t u sound e = low_owner m t u (position (has_kid t) (rows_in m (owner_table t.table))) sound refl e

owner_by : (m : Module) (t u : Token) (b c : Bool) → IsSound m
    → Ok u ≡ (if b then (if c then owner_told (owner_of m t) else Err Unlike) else Err Absent) → u.row < 2 ^ 24
owner_by m t u false c sound e = absurd cc
owner_by m t u true false sound e = absurd cc
owner_by m t u true true sound e = owner_of_low m t u sound (owner_there (owner_of m t) u e)

pub owner_fits : (m : Module) (t u : Token) → IsSound m → Ok u ≡ asked_owner m t → u.row < 2 ^ 24
unfolding asked_owner
owner_fits m t u sound e = owner_by m t u (has_row m t) (is_child_table t.table) sound e
