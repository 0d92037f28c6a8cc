-- The cells that are read of an image that was written are the module's.
use Rattle.std.proofs.Common.{◌≡◌, ℕ, ◌-◌, ◌≤◌, Bool, true, false, List, Some, refl, sym, ap, subst, ◌∙◌, arith}
use Rattle.std.specs.Prelude.{option_and_then, is_some, slice_index, if◌then◌else◌}
use Rattle.enc_base.specs.Token.{nth_row}
use Rattle.enc_base.specs.declared.token.Token.{Token}
use Rattle.enc_image.specs.Base.{users_of, field_bytes, reading_of, cell_in}
use Rattle.enc_image.proofs.Rows.{token_is}
use Rattle.enc_image.proofs.SoundTables.{place_of}
use Rattle.enc_meta.specs.Built.{Built, heaps_built}
use Rattle.enc_meta.specs.Heaps.{Counted, user_at}
use Rattle.enc_meta.specs.Regions.{Region}
use Rattle.enc_plain.specs.Bodies.{body_loaded}
use Rattle.enc_plain.specs.Cell.{body, field, kind_of, is_body, is_field}
use Rattle.enc_plain.specs.Module.{Module, has_row, cell_of}
use Rattle.enc_plain.specs.Reading.{cell_read, cell_with}
use Rattle.enc_plain.specs.Sound.{IsSound, row_count}
use Rattle.enc_plain.proofs.KindsOf.{row_bounds}
use Rattle.enc_rows.specs.Source.{Source, raw_in}
use Rattle.enc_schema.specs.Schema.{columns_in, column_in}
use Rattle.enc_schema.specs.declared.column.Column.{Column}
use Rattle.enc_schema.specs.declared.column.Column.TheVariants.{Num32}
use Rattle.enc_rewriter.specs.Placed.{Placed, IsBodyPlaced, loaded_with}
use Rattle.enc_rewriter.specs.Rewritten.{HoldModule}
use Rattle.enc_rewriter.proofs.ReadAs.{IsReadAs}
use Rattle.enc_rewriter.proofs.FieldsMeant.{field_meant}
use Rattle.enc_rewriter.proofs.NumbersMeant.{IsRead, number_says, plain_meant}

-- the place of a method's body is that which is read
pub body_stands : (m : Module) (h : Built) (p : Placed) (rows : List (List (List ℕ))) (s : Source) (u : Token) → IsRead m h p rows s → has_row m u ≡ true → u.table ≡ 0x06
    → IsBodyPlaced m (user_at (heaps_built h).users) p.code (u.row - 1) (raw_in s u 0)
unfolding columns_in
body_stands m h p rows s u r row table =
    let b = row_bounds m u row in
    let high : u.row ≤ row_count m 0x06 = subst (λ (t : ℕ). u.row ≤ row_count m t) table b.1 in
    let column : column_in u.table 0 ≡ Some Num32 = rw table refl in
    let at : is_body u.table 0 ≡ true = rw table refl in
    let says : raw_in s u 0 ≡ slice_index p.bodies (u.row - 1) = (number_says m h p rows s u 0 Num32 r row column).body at in
    subst (λ (n : ℕ). IsBodyPlaced m (user_at (heaps_built h).users) p.code (u.row - 1) n) (sym says) (r.held.placed.bodies (u.row - 1) (omega (arith, b.0, high)))

-- the body there is the module's
pub body_meant : (m : Module) (h : Built) (p : Placed) (rows : List (List (List ℕ))) (s : Source) (u : Token) → IsRead m h p rows s → has_row m u ≡ true → u.table ≡ 0x06
    → Some (body (body_loaded s.loaded (users_of s) (raw_in s u 0))) ≡ cell_of m u 0
body_meant m h p rows s u r row table =
    let b = row_bounds m u row in
    let e : nth_row 0x06 (u.row - 1) ≡ u = ap (λ (t : ℕ). nth_row t (u.row - 1)) (sym table) ∙ token_is u b.0 in
    let stands = body_stands m h p rows s u r row table in
    ap (λ (l : List Region). Some (body (body_loaded l (users_of s) (raw_in s u 0)))) r.read.loaded
    ∙ ap (λ (c : Counted). Some (body (body_loaded (loaded_with p.code r.read.behind) (user_at c.users) (raw_in s u 0)))) r.read.heaps
    ∙ sym (stands.meant r.read.behind)
    ∙ ap (λ (t : Token). cell_of m t 0) e

by_place : (m : Module) (h : Built) (p : Placed) (rows : List (List (List ℕ))) (s : Source) (u : Token) (i : ℕ) (c : Column) (b f : Bool) → IsRead m h p rows s → has_row m u ≡ true
    → column_in u.table i ≡ Some c → is_some (kind_of c) ≡ true → is_body u.table i ≡ b → is_field u.table i ≡ f
    → (if b then Some (body (body_loaded s.loaded (users_of s) (raw_in s u i))) else if f then Some (field (field_bytes s u)) else cell_read (reading_of s) c (raw_in s u i)) ≡ cell_of m u i
by_place m h p rows s u i c true f r row e kind is k =
    let q = place_of u.table i 0x06 is in
    subst (λ (j : ℕ). Some (body (body_loaded s.loaded (users_of s) (raw_in s u j))) ≡ cell_of m u j) (sym q.1) (body_meant m h p rows s u r row q.0)
by_place m h p rows s u i c false true r row e kind is k =
    let q = place_of u.table i 0x1D k in
    subst (λ (j : ℕ). Some (field (field_bytes s u)) ≡ cell_of m u j) (sym q.1) (field_meant m h p rows s u r row q.0)
by_place m h p rows s u i c false false r row e kind is k = plain_meant m h p rows s u i c r row e kind is k

-- each cell is the module's
pub cell_meant : (m : Module) (h : Built) (p : Placed) (rows : List (List (List ℕ))) (s : Source) (u : Token) (i : ℕ) (c : Column) → IsRead m h p rows s → has_row m u ≡ true
    → column_in u.table i ≡ Some c → is_some (kind_of c) ≡ true → cell_in s u i ≡ cell_of m u i
unfolding cell_in cell_with
cell_meant m h p rows s u i c r row e kind =
    ap (option_and_then (λ (x : Column). cell_with (reading_of s) u i x (raw_in s u i))) e
    ∙ by_place m h p rows s u i c (is_body u.table i) (is_field u.table i) r row e kind refl refl

pub cells_meant : (m : Module) (h : Built) (p : Placed) (rows : List (List (List ℕ))) (s : Source) (u : Token) (i : ℕ) (c : Column) → IsSound m → HoldModule m h p rows
    → IsReadAs m h p rows s → has_row m u ≡ true → column_in u.table i ≡ Some c → is_some (kind_of c) ≡ true → cell_in s u i ≡ cell_of m u i
cells_meant m h p rows s u i c sound held read row e kind = cell_meant m h p rows s u i c (record { sound = sound; held = held; read = read }) row e kind
