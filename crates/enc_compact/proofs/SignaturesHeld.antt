-- The signatures that are held say those of the module that is lent with their tokens moved.
use Rattle.std.proofs.Common.{◌≡◌, ℕ, ◌+◌, ◌/◌, ◌%◌, ◌<◌, ◌≤◌, Bool, true, false, List, []}
use Rattle.std.proofs.Common.{◌∷◌, ◌++◌, length, Option, Some, None, refl, sym, ap, subst, ◌∙◌, ◌⊎◌, inl, inr, arith}
use Rattle.std.specs.Prelude.{◌==◌, ◌&&◌, nat_le, option_map, is_some, unwrap_or, if◌then◌else◌}
use Rattle.std.specs.BTreeMap.{BTreeMap, get, Updates}
use Rattle.std.specs.Ordering.{nat_cmp}
use Rattle.std.specs.Option.{option_map_or}
use Rattle.std.proofs.lemmas.Bool.{cases_lt}
use Rattle.std.proofs.lemmas.Bool.Decides.{nat_tests}
use Rattle.enc_base.specs.Token.{nth_row}
use Rattle.enc_base.specs.declared.token.Token.{Token}
use Rattle.enc_sigs.specs.Grammar.{table_of, is_coded, is_counted, sig_in}
use Rattle.enc_sigs.specs.Moved.{sig_moved}
use Rattle.enc_sigs.specs.Spelling.{sig_bytes}
use Rattle.enc_sigs.specs.Tree.{SigTree}
use Rattle.enc_plain.specs.Cell.{Cell, blob}
use Rattle.enc_plain.specs.Module.{Module, Row, rows_in, has_row, cells_of, cell_of}
use Rattle.enc_plain.specs.Rows.{bytes_at}
use Rattle.enc_plain.specs.Signatures.{signature_column, kind_in_table, is_signature}
use Rattle.enc_plain.specs.Sound.{IsSound, row_count}
use Rattle.enc_plain.proofs.CellsOf.{blob_there}
use Rattle.enc_compact.specs.Held.{number_in_slots, bytes_by, SlotSays, AreSaidUpto, AreSignaturesHeld}
use Rattle.enc_compact.specs.Held.{HeldOf, held_at, AreTablesHeld, AreAllHeld, blob_held, blob_seen, AreSlotsKnown}
use Rattle.enc_compact.specs.Moved.{signature_moved, blob_moved, holds_signatures}
use Rattle.enc_row_order.specs.Orders.{new_of}
use Rattle.enc_compact.proofs.Rows.{none_past}
use Rattle.enc_compact.proofs.HeldKept.{rows_of, row_slot, front_get, last_get, held_still, low_still, last_held, last_low, one_known, one_slot}
use Rattle.enc_compact.proofs.SignaturesKept.{signature_is}

-- counts that agree below 64 count the same tokens
low_table : (tag : ℕ) → table_of tag < 64
low_table tag = by (tag == 0) (tag == 1)
  where
    by : (a b : Bool) → (if a then 0x02 else if b then 0x01 else 0x1B) < 64
    by true b = omega arith
    by false true = omega arith
    by false false = omega arith

counted_same : (a b : ℕ → ℕ) → ((t : ℕ) → t < 64 → a t ≡ b t) → is_counted a ≡ is_counted b
unfolding is_counted
counted_same a b same = λ i n. is_coded n && nat_le 1 (n / 4) && nat_le (n / 4) (same (table_of (n % 4)) (low_table (n % 4)) i)

pub signature_same : (a b : ℕ → ℕ) (table : ℕ) (bytes : List ℕ) → ((t : ℕ) → t < 64 → a t ≡ b t) → is_signature b table bytes ≡ true
    → is_signature a table bytes ≡ true
unfolding is_signature
signature_same a b table bytes same is =
    ap (λ (good : ℕ → Bool). is_some (sig_in good (kind_in_table table bytes) bytes)) (counted_same a b same) ∙ is

-- what is read of a sound signature, and what is written of it
pub no_fault : (count : ℕ → ℕ) (table : ℕ) (bytes : List ℕ) → is_signature count table bytes ≡ true
    → sig_in (is_counted count) (kind_in_table table bytes) bytes ≡ None → ⊥
unfolding is_signature
no_fault count table bytes is none = let both : true ≡ false = sym is ∙ ap is_some none in absurd cc

pub written_is : (f : Token → Token) (count : ℕ → ℕ) (table : ℕ) (bytes out : List ℕ) (s : SigTree)
    → sig_in (is_counted count) (kind_in_table table bytes) bytes ≡ Some s
    → out ≡ [] ++ sig_bytes (sig_moved f s) → out ≡ signature_moved f table bytes
written_is f count table bytes out s read written = written ∙ sym (signature_is f count table bytes s read)

-- the number of what isn't held, and of what is held last, tells it
pub none_says : (f : Token → Token) (table : ℕ) (held : List (List ℕ)) (bytes moved : List ℕ) → moved ≡ signature_moved f table bytes → moved ≡ bytes
    → SlotSays f table held bytes 0
none_says f table held bytes moved is same = record { low = omega arith; says = sym same ∙ is }

pub last_says : (f : Token → Token) (table : ℕ) (held new : List (List ℕ)) (bytes moved : List ℕ) (slot : ℕ) → moved ≡ signature_moved f table bytes
    → new ≡ held ++ moved ∷ [] → slot ≡ length new → SlotSays f table new bytes slot
last_says f table held new bytes moved slot is grown many = record {
  low = last_low new slot many;
  says = ap (λ (o : Option (List ℕ)). unwrap_or o bytes) (last_held held new moved slot grown many) ∙ is;
}

-- and still does when more is held
pub says_still : (f : Token → Token) (table : ℕ) (held new more : List (List ℕ)) (bytes : List ℕ) (slot : ℕ) → new ≡ held ++ more
    → SlotSays f table held bytes slot → SlotSays f table new bytes slot
says_still f table held new more bytes slot grown says = subst (λ xs. SlotSays f table xs bytes slot) (sym grown) (record {
  low = low_still held more slot says.low;
  says = ap (λ (o : Option (List ℕ)). unwrap_or o bytes) (held_still held more slot says.low) ∙ says.says;
})

-- the signature that a view tells is sound
pub own_signature : (m : Module) (row : Token) (column : ℕ) (bytes : List ℕ) (count : ℕ → ℕ) → IsSound m → has_row m row ≡ true
    → signature_column row.table ≡ Some column
    → ((t : ℕ) → t < 64 → count t ≡ row_count m t) → cell_of m row column ≡ Some (blob bytes) → is_signature count row.table bytes ≡ true
own_signature m row column bytes count sound there e same cell =
    signature_same count (row_count m) row.table bytes same
    (ap (is_signature (row_count m) row.table) (blob_there m row column bytes cell) ∙ sound.signatures.each row column there e)

same_blob : (cell : Option Cell) (o : Option (List ℕ)) (bytes : List ℕ) → cell ≡ option_map blob o → cell ≡ Some (blob bytes) → o ≡ Some bytes
same_blob cell None bytes e f = let none : None ≡ Some (blob bytes) = sym e ∙ f in absurd cc
same_blob cell (Some b) bytes e f = let same : Some (blob b) ≡ Some (blob bytes) = sym e ∙ f in cc

stored_blob : (cell : Option Cell) (o : Option (List ℕ)) → cell ≡ option_map blob o → is_some o ≡ true
    → (bytes : List ℕ) × (o ≡ Some bytes) × (cell ≡ Some (blob bytes))
stored_blob cell None e some = absurd cc
stored_blob cell (Some b) e some = (b, refl, e)

-- the number that is known of a blob's place
pub place_says : (m : Module) (f : Token → Token) (stored : ℕ → Option (List ℕ)) (row : Token) (column : ℕ) (held : List (List ℕ)) (known : BTreeMap ℕ ℕ)
    (place slot : ℕ)
    → AreSlotsKnown stored (SlotSays f row.table held) known → Some slot ≡ get nat_cmp known place → cell_of m row column ≡ option_map blob (stored place)
    → is_some (stored place) ≡ true → SlotSays f row.table held (bytes_at (cells_of m) row column) slot
place_says m f stored row column held known place slot all found at some =
    let w = stored_blob (cell_of m row column) (stored place) at some in
    subst (λ b. SlotSays f row.table held b slot) (blob_there m row column w.0 w.2) (all place slot w.0 (sym found) w.1)

pub own_says : (m : Module) (f : Token → Token) (row : Token) (column : ℕ) (held : List (List ℕ)) (bytes : List ℕ) (slot : ℕ)
    → cell_of m row column ≡ Some (blob bytes)
    → SlotSays f row.table held bytes slot → SlotSays f row.table held (bytes_at (cells_of m) row column) slot
own_says m f row column held bytes slot cell says = subst (λ b. SlotSays f row.table held b slot) (blob_there m row column bytes cell) says

-- and one more that is known
pub blob_known : (m : Module) (f : Token → Token) (stored : ℕ → Option (List ℕ)) (row : Token) (column : ℕ) (held new more : List (List ℕ))
    (before after : BTreeMap ℕ ℕ)
    (bytes : List ℕ) (place slot : ℕ) → AreSlotsKnown stored (SlotSays f row.table held) before → new ≡ held ++ more
    → cell_of m row column ≡ option_map blob (stored place)
    → cell_of m row column ≡ Some (blob bytes) → SlotSays f row.table new bytes slot → Updates nat_cmp before after place (Some slot)
    → AreSlotsKnown stored (SlotSays f row.table new) after
blob_known m f stored row column held new more before after bytes place slot all grown at own says updates =
    one_known stored (SlotSays f row.table held) (SlotSays f row.table new) before after place slot all
    (λ b n h. says_still f row.table held new more b n grown h)
    (λ b e. subst (λ x. SlotSays f row.table new x slot) (same_bytes b (sym (same_blob (cell_of m row column) (stored place) bytes at own) ∙ e)) says) updates
  where
    same_bytes : (b : List ℕ) → Some bytes ≡ Some b → bytes ≡ b
    same_bytes b e = cc

-- one more row
pub row_says : (m : Module) (f : Token → Token) (table column : ℕ) (held new more : List (List ℕ)) (slots after : List ℕ) (n slot : ℕ)
    → AreSaidUpto m f table column held slots n → new ≡ held ++ more → SlotSays f table new (bytes_at (cells_of m) (nth_row table n) column) slot
    → after ≡ slots ++ slot ∷ [] → AreSaidUpto m f table column new after (n + 1)
row_says m f table column held new more slots after n slot all grown says pushed =
    one_slot (λ k i. SlotSays f table held (bytes_at (cells_of m) (nth_row table k) column) i)
    (λ k i. SlotSays f table new (bytes_at (cells_of m) (nth_row table k) column) i) slots after n slot all
    (λ k i h. says_still f table held new more (bytes_at (cells_of m) (nth_row table k) column) i grown h) says pushed

-- one more table
before_last : (all : List HeldOf) (h : HeldOf) (t : ℕ) → t < length all → held_at (all ++ h ∷ []) t ≡ held_at all t
before_last all h t low = ap (λ (o : Option HeldOf). unwrap_or o (record { held = []; slots = [] })) (front_get all (h ∷ []) t low)

the_last : (all : List HeldOf) (h : HeldOf) (t : ℕ) → t ≡ length all → held_at (all ++ h ∷ []) t ≡ h
the_last all h t e =
    ap (λ (k : ℕ). held_at (all ++ h ∷ []) k) e ∙ ap (λ (o : Option HeldOf). unwrap_or o (record { held = []; slots = [] })) (last_get all h)

one_longer : (all : List HeldOf) (h : HeldOf) → length (all ++ h ∷ []) ≡ length all + 1
one_longer [] h = refl
one_longer (x ∷ xs) h = omega (arith, one_longer xs h)

pub table_said : (m : Module) (f : Token → Token) (all new : List HeldOf) (h : HeldOf) (n : ℕ) → AreTablesHeld m f all n
    → AreSignaturesHeld m f n h.held h.slots
    → new ≡ all ++ h ∷ [] → AreTablesHeld m f new (n + 1)
table_said m f all new h n held says grown = record {
  count = ap (λ (xs : List HeldOf). length xs) grown ∙ one_longer all h ∙ ap (λ k. k + 1) held.count;
  each = λ t low. subst (λ (x : HeldOf). AreSignaturesHeld m f t x.held x.slots) (sym (ap (λ (xs : List HeldOf). held_at xs t) grown)) (by t
      (cases_lt t n) low);
}
  where
    by : (t : ℕ) → (t < n) ⊎ (n ≤ t) → t < n + 1 → AreSignaturesHeld m f t (held_at (all ++ h ∷ []) t).held (held_at (all ++ h ∷ []) t).slots
    by t (inl before) low =
        subst (λ (x : HeldOf). AreSignaturesHeld m f t x.held x.slots) (sym (before_last all h t (omega (arith, before, held.count)))) (held.each t before)
    by t (inr last) low =
        let e : t ≡ n = omega (arith, last, low) in
        subst (λ (x : HeldOf). AreSignaturesHeld m f t x.held x.slots) (sym (the_last all h t (e ∙ sym held.count)))
        (subst (λ k. AreSignaturesHeld m f k h.held h.slots) (sym e) says)

-- a row that is there is of a table that a module can have
table_low : (m : Module) (u : Token) → IsSound m → has_row m u ≡ true → u.table < 0x2D
table_low m u sound there = elim (cases_lt u.table 0x2D) [
  | inl low ↦ low
  | inr past ↦
      let p = rows_of m u there in
      let none : length (rows_in m u.table) ≡ 0 = ap (λ (rows : List Row). length rows) (none_past m.tables u.table 0x2D sound.owners.tables.all past) in
      absurd (omega (arith, p.0, p.1, none))
]

column_of : (table i : ℕ) (o : Option ℕ) → option_map_or (λ c. c == i) o false ≡ true → o ≡ Some i
column_of table i None e = absurd cc
column_of table i (Some c) e = let is : c ≡ i = grind (arith, nat_tests) in ap (λ (k : ℕ). Some k) is

-- so a moved module's blob is what its own view says
pub blob_said : (m : Module) (all : List HeldOf) (u : Token) (i : ℕ) (bytes new : List ℕ) → IsSound m → AreAllHeld m (new_of m) all → has_row m u ≡ true
    → cell_of m u i ≡ Some (blob bytes) → new ≡ blob_seen all u i bytes → new ≡ blob_moved (new_of m) u.table (holds_signatures u.table i) bytes
blob_said m all u i bytes new sound held there cell is = is ∙ by (holds_signatures u.table i) refl
  where
    by : (b : Bool) → holds_signatures u.table i ≡ b → blob_held (held_at all u.table) u.row bytes b ≡ blob_moved (new_of m) u.table b bytes
    by false e = refl
    by true e =
        let said = held.each u.table (table_low m u sound there) i (column_of u.table i (signature_column u.table) e) in
        let p = rows_of m u there in
        let w = row_slot (held_at all u.table).slots (row_count m u.table) u.row said.count p.0 p.1 in
        let at : bytes_at (cells_of m) (nth_row u.table w.0) i ≡ bytes =
        ap (λ k. bytes_at (cells_of m) (record { table = u.table; row = k }) i) (sym w.1) ∙ sym (blob_there m u i bytes cell) in
        let says = said.each w.0 (number_in_slots (held_at all u.table).slots u.row) w.2 in
        ap (λ (b : List ℕ). bytes_by (held_at all u.table).held b (number_in_slots (held_at all u.table).slots u.row)) (sym at)
        ∙ says.says ∙ ap (signature_moved (new_of m) u.table) at
