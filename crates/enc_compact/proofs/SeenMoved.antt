-- What a moved module says where the module that is lent says it of the row that came to a row's place.
use Rattle.std.proofs.Common.{◌≡◌, ℕ, ◌+◌, ◌*◌, ◌/◌, ◌%◌, ◌^◌, ◌<◌, ◌≤◌, Bool, true, false}
use Rattle.std.proofs.Common.{List, [], ◌∷◌, length, map, Option, Some, None, refl, sym, ap, subst, ◌∙◌, arith}
use Rattle.std.specs.Prelude.{◌==◌, ◌||◌, is_some, nat_lt, nat_le, option_map, slice_get}
use Rattle.std.specs.List.{list_any}
use Rattle.std.proofs.lemmas.Bool.{and_parts}
use Rattle.std.proofs.lemmas.Bool.Decides.{nat_tests}
use Rattle.std.proofs.lemmas.List.{length-map}
use Rattle.enc_base.specs.Token.{token_of, number_of}
use Rattle.enc_base.specs.declared.token.Token.{Token}
use Rattle.enc_token_map.specs.Body.{body_moved}
use Rattle.enc_opcodes.specs.Body.{Body}
use Rattle.enc_schema.specs.Children.{is_child_table}
use Rattle.enc_plain.specs.Cell.{Cell, blob, body, blobs, kind_in}
use Rattle.enc_plain.specs.Debug.{PlainPdb}
use Rattle.enc_plain.specs.Module.{Module, rows_in, has_row, cell_of, kids_of, owner_of}
use Rattle.enc_plain.specs.Sound.{IsSound, IsOwned, row_count}
use Rattle.enc_plain.proofs.Owned.{kid_owner, has_owner}
use Rattle.enc_compact.specs.Moved.{cell_moved, children_moved, entry_moved, module_with, module_moved, pdb_moved}
use Rattle.enc_row_order.specs.Orders.{Orders, place_in_order, old_row, moved_by, new_order, new_of, old_of}
use Rattle.enc_compact.specs.Seen.{bodies_moved, pdb_by, place_number, blob_numbered}
use Rattle.enc_compact.proofs.HeldKept.{rows_of}
use Rattle.enc_compact.proofs.KindsKept.{blob_at}
use Rattle.enc_compact.proofs.NewOrder.{new_order_are}
use Rattle.enc_compact.proofs.Owners.{moved_kids, owned_moved, same_place, child_row}
use Rattle.enc_compact.proofs.Places.{is_order, moved_before}
use Rattle.enc_compact.proofs.Rows.{get_map, count_moved, has_old, moved_cell}

pub count_seen : (m : Module) (t n : ℕ) → IsSound m → n ≡ length (rows_in m t) → n ≡ length (rows_in (module_moved m) t)
unfolding module_moved
count_seen m t n sound e = e ∙ sym (count_moved m (new_order m) t sound.owners.tables (new_order_are m sound))

-- the row that came to a row's place
pub old_is : (m : Module) (orders more : Orders) (t u : Token) → orders ≡ new_order m → more ≡ orders
    → u ≡ record { table = t.table; row = old_row (more t.table) t.row } → u ≡ old_of m t
unfolding old_of
old_is m orders more t u is same e = e ∙ ap (λ (o : Orders). record { table = t.table; row = old_row (o t.table) t.row }) (same ∙ is)

pub new_is : (m : Module) (orders more : Orders) (t u : Token) → orders ≡ new_order m → more ≡ orders → u ≡ moved_by more t → u ≡ new_of m t
new_is m orders more t u is same e = e ∙ ap (λ (o : Orders). moved_by o t) (same ∙ is)

-- the row is there
pub old_seen : (m : Module) (u : Token) → IsSound m → has_row (module_moved m) u ≡ true → has_row m (old_of m u) ≡ true
unfolding module_moved old_of
old_seen m u sound there = has_old m (new_order m) u sound.owners.tables (new_order_are m sound) there

-- and goes to the row that is asked for
back_again : (m : Module) (u : Token) → IsSound m → new_of m (old_of m u) ≡ u
unfolding old_of
back_again m u sound = moved_before m (new_order m) u (new_order_are m sound)

same_table : (m : Module) (u : Token) → (old_of m u).table ≡ u.table
unfolding old_of
same_table m u = refl

cell_at_new : (m : Module) (u : Token) (i : ℕ) → IsSound m → cell_of (module_moved m) (new_of m u) i ≡ option_map (cell_moved (new_of m) u.table i)
    (cell_of m u i)
unfolding module_moved
cell_at_new m u i sound = moved_cell m (new_order m) u i sound.owners.tables (new_order_are m sound)

-- so its cell is what stood there with its tokens moved
pub cell_seen : (m : Module) (u : Token) (i : ℕ) (c : Cell) → IsSound m → cell_of m (old_of m u) i ≡ Some c
    → cell_of (module_moved m) u i ≡ Some (cell_moved (new_of m) u.table i c)
cell_seen m u i c sound e =
    ap (λ (t : Token). cell_of (module_moved m) t i) (sym (back_again m u sound))
    ∙ cell_at_new m (old_of m u) i sound
    ∙ ap (option_map (cell_moved (new_of m) (old_of m u).table i)) e
    ∙ ap (λ t. Some (cell_moved (new_of m) t i c)) (same_table m u)

-- each cell is a place of its own
parts_of : (table row column : ℕ) → row < 2 ^ 32 → column < 2 ^ 8
    → (((table * 2 ^ 32 + row) * 2 ^ 8 + column) / 2 ^ 40 ≡ table) × (((table * 2 ^ 32 + row) * 2 ^ 8 + column) / 2 ^ 8 % 2 ^ 32 ≡ row)
    × (((table * 2 ^ 32 + row) * 2 ^ 8 + column) % 2 ^ 8 ≡ column)
parts_of table row column low short = (omega arith, omega arith, omega arith)

pub blob_numbered_is : (q : Module) (t : Token) (column : ℕ) (bytes : List ℕ) → t.row < 2 ^ 32 → column < 2 ^ 8 → cell_of q t column ≡ Some (blob bytes)
    → blob_numbered q (place_number t column) ≡ Some bytes
unfolding blob_numbered
blob_numbered_is q t column bytes low short e =
    let p = parts_of t.table t.row column low short in
    rw (p.0, p.1, p.2, e) refl

few_rows : (m : Module) (u : Token) → IsSound m → has_row (module_moved m) u ≡ true → u.row < 2 ^ 32
few_rows m u sound there =
    let p = rows_of (module_moved m) u there in
    omega (arith, p.1, count_seen m u.table (row_count m u.table) sound refl, sound.counts.few u.table)

pub place_seen : (m : Module) (u : Token) (column n : ℕ) → IsSound m → has_row (module_moved m) u ≡ true → kind_in u.table column ≡ Some blobs
    → column < 2 ^ 8 → n ≡ place_number u column
    → (cell_of (module_moved m) u column ≡ option_map blob (blob_numbered (module_moved m) n)) × (is_some (blob_numbered (module_moved m) n) ≡ true)
place_seen m u column n sound there kind short is =
    let low = few_rows m u sound there in
    let w = blob_at m (old_of m u) column sound.kinds (old_seen m u sound there) (ap (λ t. kind_in t column) (same_table m u) ∙ kind) in
    let cell = cell_seen m u column (blob w.0) sound w.1 in
    let numbered = ap (blob_numbered (module_moved m)) is ∙ blob_numbered_is (module_moved m) u column _ low short cell in
    (cell ∙ sym (ap (option_map blob) numbered), ap is_some numbered)

-- the entry point
pub entry_row : (m : Module) (token w : Token) (entry : ℕ) → entry ≡ m.entry → token ≡ token_of entry → has_row m token ≡ true → w ≡ new_of m token
    → number_of w ≡ (module_moved m).entry
unfolding module_moved module_with entry_moved
entry_row m token w entry e is there moved =
    let same : token ≡ token_of m.entry = is ∙ ap token_of e in
    let has : has_row m (token_of m.entry) ≡ true = ap (has_row m) (sym same) ∙ there in
    rw has (ap number_of (moved ∙ ap (moved_by (new_order m)) same))

pub entry_none : (m : Module) (token : Token) (entry : ℕ) → entry ≡ m.entry → token ≡ token_of entry → has_row m token ≡ false → entry ≡ (module_moved m).entry
unfolding module_moved module_with entry_moved
entry_none m token entry e is none =
    let same : token ≡ token_of m.entry = is ∙ ap token_of e in
    let has : has_row m (token_of m.entry) ≡ false = ap (has_row m) (sym same) ∙ none in
    rw has e

pub resources_seen : (m : Module) (bytes : List ℕ) → bytes ≡ m.resources → bytes ≡ (module_moved m).resources
unfolding module_moved module_with
resources_seen m bytes e = e

-- children
kids_at_new : (m : Module) (u : Token) (child : ℕ) → IsSound m → kids_of (module_moved m) (new_of m u) child ≡ children_moved (new_of m) child
    (kids_of m u child)
unfolding module_moved
kids_at_new m u child sound = moved_kids m (new_order m) u child sound.owners.tables (new_order_are m sound)

pub kids_seen : (m : Module) (u : Token) (child : ℕ) → IsSound m
    → kids_of (module_moved m) u child ≡ children_moved (new_of m) child (kids_of m (old_of m u) child)
kids_seen m u child sound =
    ap (λ (t : Token). kids_of (module_moved m) t child) (sym (back_again m u sound)) ∙ kids_at_new m (old_of m u) child sound

pub kids_many : (m : Module) (u : Token) (child n : ℕ) → IsSound m → n ≡ length (kids_of m (old_of m u) child) → n ≡ length (kids_of (module_moved m) u child)
kids_many m u child n sound e =
    e ∙ sym (length-map (kids_of m (old_of m u) child) (λ row. (new_of m (record { table = child; row = row })).row))
    ∙ ap (λ (xs : List ℕ). length xs) (sym (kids_seen m u child sound))

pub kid_there : (m : Module) (u : Token) (child i : ℕ) → IsSound m → i < length (kids_of (module_moved m) u child) → i < length (kids_of m (old_of m u) child)
kid_there m u child i sound low = subst (λ n. i < n) (sym (kids_many m u child (length (kids_of m (old_of m u) child)) sound refl)) low

pub kid_seen : (m : Module) (u k w : Token) (child i : ℕ) → IsSound m → slice_get (kids_of m (old_of m u) child) i ≡ Some k.row → k.table ≡ child
    → w ≡ new_of m k
    → slice_get (kids_of (module_moved m) u child) i ≡ Some w.row
kid_seen m u k w child i sound e table moved =
    ap (λ (xs : List ℕ). slice_get xs i) (kids_seen m u child sound)
    ∙ get_map (λ row. (new_of m (record { table = child; row = row })).row) (kids_of m (old_of m u) child) i
    ∙ ap (option_map (λ row. (new_of m (record { table = child; row = row })).row)) e
    ∙ ap (λ t. Some (new_of m (record { table = t; row = k.row })).row) (sym table)
    ∙ ap (λ (t : Token). Some t.row) (sym moved)

pub kid_table : (m : Module) (k w : Token) (child : ℕ) → k.table ≡ child → w ≡ new_of m k → w.table ≡ child
unfolding moved_by
kid_table m k w child table moved = ap (λ (t : Token). t.table) moved ∙ table

-- the owner of a child
any_mapped : (p : ℕ → Bool) (g : ℕ → ℕ) (xs : List ℕ) → list_any p (map g xs) ≡ list_any (λ x. p (g x)) xs
any_mapped p g [] = refl
any_mapped p g (x ∷ xs) = ap (λ b. p (g x) || b) (any_mapped p g xs)

has_moved_kid : (m : Module) (w child : Token) → IsSound m → list_any (λ k. k == (old_of m child).row) (kids_of m w child.table) ≡ true
    → list_any (λ k. k == child.row) (kids_of (module_moved m) (new_of m w) child.table) ≡ true
unfolding old_of
has_moved_kid m w child sound h =
    let orders : Orders = new_order m in
    let kids : List ℕ = kids_of m w child.table in
    let order = is_order m orders child.table (new_order_are m sound) in
    let back : (λ (k : ℕ). place_in_order (orders child.table) k == child.row) ≡ (λ (k : ℕ). k == old_row (orders child.table) child.row) =
    λ i k. same_place (row_count m child.table) (orders child.table) k child.row order i in
    ap (list_any (λ k. k == child.row)) (kids_at_new m w child.table sound ∙ child_row orders child.table kids)
    ∙ any_mapped (λ k. k == child.row) (place_in_order (orders child.table)) kids
    ∙ ap (λ (q : ℕ → Bool). list_any q kids) back
    ∙ h

owned_new : (m : Module) → IsSound m → IsOwned (module_moved m)
unfolding module_moved
owned_new m sound = owned_moved m (new_order m) sound.owners.tables (new_order_are m sound) sound.owners.owned

-- the owner has the child, at its old row
owner_has : (m : Module) (c w : Token) → IsSound m → has_row m c ≡ true → is_child_table c.table ≡ true → owner_of m c ≡ Some w
    → list_any (λ k. k == c.row) (kids_of m w c.table) ≡ true
unfolding has_row
owner_has m c w sound there child e =
    let p = and_parts (nat_lt 0 c.row) (nat_le c.row (row_count m c.table)) there in
    let o = has_owner m c sound.owners.owned child (above c.row p.0) (within c.row (row_count m c.table) p.1) in
    let same : o.owner ≡ w = same_owner o.owner w (sym o.is ∙ e) in
    ap (λ (u : Token). list_any (λ k. k == c.row) (kids_of m u c.table)) (sym same) ∙ o.has
  where
    above : (n : ℕ) → nat_lt 0 n ≡ true → 1 ≤ n
    above n e = grind (arith, nat_tests)

    within : (n k : ℕ) → nat_le n k ≡ true → n ≤ k
    within n k e = grind (arith, nat_tests)

    same_owner : (u w : Token) → Some u ≡ Some w → u ≡ w
    same_owner u w e = cc

pub owner_seen : (m : Module) (child w t : Token) → IsSound m → has_row (module_moved m) child ≡ true → is_child_table child.table ≡ true
    → owner_of m (old_of m child) ≡ Some w → t ≡ new_of m w → owner_of (module_moved m) child ≡ Some t
owner_seen m child w t sound there kid e moved =
    let table = same_table m child in
    let has = owner_has m (old_of m child) w sound (old_seen m child sound there) (ap is_child_table table ∙ kid) e in
    let here : list_any (λ k. k == (old_of m child).row) (kids_of m w child.table) ≡ true =
    ap (λ n. list_any (λ k. k == (old_of m child).row) (kids_of m w n)) (sym table) ∙ has in
    kid_owner (module_moved m) (new_of m w) child (owned_new m sound) kid (has_moved_kid m w child sound here) ∙ ap (λ (u : Token). Some u) (sym moved)

-- the place of a body
pub body_place : (m : Module) (places : ℕ → Option Body) (u : Token) (n : ℕ) → IsSound m → u.table ≡ 0x06 → cell_of m (old_of m u) 0 ≡ Some (body (places n))
    → cell_of (module_moved m) u 0 ≡ Some (body (bodies_moved m places n))
unfolding bodies_moved
body_place m places u n sound table e = cell_seen m u 0 (body (places n)) sound e

pub place_some : (m : Module) (places : ℕ → Option Body) (n : ℕ) (b : Bool) → is_some (places n) ≡ b → is_some (bodies_moved m places n) ≡ b
unfolding bodies_moved
place_some m places n b e = mapped (places n) ∙ e
  where
    mapped : (o : Option Body) → is_some (option_map (body_moved (moved_by (new_order m))) o) ≡ is_some o
    mapped None = refl
    mapped (Some x) = refl

-- the rows of children
pub kid_rows_seen : (m : Module) (u : Token) (child : ℕ) (new xs rows : List ℕ) → IsSound m → new ≡ children_moved (new_of m) child xs → xs ≡ rows
    → rows ≡ kids_of m (old_of m u) child → new ≡ kids_of (module_moved m) u child
kid_rows_seen m u child new xs rows sound moved same e =
    moved ∙ ap (children_moved (new_of m) child) (same ∙ e) ∙ sym (kids_seen m u child sound)

-- what is known of its methods
pub pdb_is : (m : Module) (p : PlainPdb) (orders : Orders) → orders ≡ new_order m → pdb_by orders p ≡ pdb_moved m p
unfolding pdb_moved old_of
pdb_is m p orders e = λ i t. p (record { table = t.table; row = old_row (e i t.table) t.row })
