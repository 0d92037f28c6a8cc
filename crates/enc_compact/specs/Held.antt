-- What a moved module holds beside the one that it lends: the bodies and the signatures that other bytes say once
-- their tokens are moved.
use Rattle.std.specs.Prelude.{◌≡◌, ℕ, zero, suc, ◌<◌, Bool, true, false, List, [], length, Option, Some, None, slice_get, unwrap_or}
use Rattle.std.specs.BTreeMap.{BTreeMap, get}
use Rattle.std.specs.Ordering.{nat_cmp}
use Rattle.enc_base.specs.Token.{nth_row}
use Rattle.enc_base.specs.declared.token.Token.{Token}
use Rattle.enc_token_map.specs.Body.{body_moved}
use Rattle.enc_token_map.specs.Held.{Held}
use Rattle.enc_opcodes.specs.Body.{Code, Body, body_of, texts_are_there}
use Rattle.enc_plain.specs.Cell.{Cell, body}
use Rattle.enc_plain.specs.Module.{Module, cells_of, cell_of}
use Rattle.enc_plain.specs.Rows.{bytes_at}
use Rattle.enc_plain.specs.Signatures.{signature_column}
use Rattle.enc_plain.specs.Sound.{IsSound, row_count}
use Rattle.enc_base.specs.Tables as tables
use Rattle.enc_compact.specs.Moved.{signature_moved, holds_signatures}
use Rattle.enc_row_order.specs.Orders.{Orders, moved_by, new_order}

-- the number of a row, from 1: 0 where there is none
abbrev pub number_in_slots : List ℕ → ℕ → ℕ
number_in_slots slots zero = 0
number_in_slots slots (suc k) = unwrap_or (slice_get slots k) 0

-- the body with its local signature moved alone
abbrev pub with_locals : (Token → Token) → Body → Body
with_locals f b = record {
  stack = b.stack;
  init = b.init;
  locals = f b.locals;
  size = b.size;
  code = b.code;
  handlers = b.handlers;
}

-- the parts of a body of which code and sections are held
abbrev pub code_with : (Token → Token) → Body → Held → Code
code_with f b h = record { max = b.stack; init = b.init; locals = f b.locals; code = h.code; sections = h.sections }

-- the numbers of so many rows: of each holds what is said of it
pub record AreSlots (Says : ℕ → ℕ → Type 0) (slots : List ℕ) (many : ℕ) : Type 0 where
  pub count : length slots ≡ many
  pub each : (n slot : ℕ) → slice_get slots n ≡ Some slot → Says n slot

-- the numbers that are known of places: they tell what stands there
abbrev pub AreSlotsKnown : {A : Type 0} → (ℕ → Option A) → (A → ℕ → Type 0) → BTreeMap ℕ ℕ → Type 0
AreSlotsKnown {A} places Says known =
    (place slot : ℕ) (x : A) → get nat_cmp known place ≡ Some slot → places place ≡ Some x → Says x slot

-- what is held says the body with its tokens moved, and names the texts that are there
pub record HoldsBody (f : Token → Token) (texts : ℕ → Option (List ℕ)) (b : Body) (h : Held) : Type 0 where
  pub means : body_of texts (code_with f b h) ≡ body_moved f b
  pub there : texts_are_there texts h.code ≡ true

-- what a number tells: 0 nothing, and else one of those that are held
abbrev pub held_by : {A : Type 0} → List A → ℕ → Option A
held_by held zero = None
held_by held (suc k) = slice_get held k

-- what is held of a body, where anything is: without it none of its own tokens moves, so that its bytes are lent
abbrev pub HeldSays : (Token → Token) → (ℕ → Option (List ℕ)) → Body → Option Held → Type 0
HeldSays f texts b None = with_locals f b ≡ body_moved f b
HeldSays f texts b (Some h) = HoldsBody f texts b h

-- the number of a method's body tells it, among so many that are held
pub record SlotHolds (f : Token → Token) (texts : ℕ → Option (List ℕ)) (held : List Held) (b : Body)
    (slot : ℕ) : Type 0 where
  pub low : slot < suc (length held)
  pub says : HeldSays f texts b (held_by held slot)

-- so it does where a cell has a body
abbrev pub CellHolds : (Token → Token) → (ℕ → Option (List ℕ)) → List Held → Option Cell → ℕ → Type 0
CellHolds f texts held cell slot = (b : Body) → cell ≡ Some (body (Some b)) → SlotHolds f texts held b slot

-- so do the numbers of so many methods, and of all
abbrev pub AreHeldUpto : Module → (Token → Token) → (ℕ → Option (List ℕ)) → List Held → List ℕ → ℕ → Type 0
AreHeldUpto m f texts held slots many =
    AreSlots (λ n slot. CellHolds f texts held (cell_of m (nth_row tables.method_def n) 0) slot) slots many

abbrev pub AreBodiesHeld : Module → (Token → Token) → (ℕ → Option (List ℕ)) → List Held → List ℕ → Type 0
AreBodiesHeld m f texts held slots = AreHeldUpto m f texts held slots (row_count m tables.method_def)

-- the bytes of a signature that a number tells, its own where it tells none
abbrev pub bytes_by : List (List ℕ) → List ℕ → ℕ → List ℕ
bytes_by held bytes slot = unwrap_or (held_by held slot) bytes

-- the number of a signature tells its bytes once its tokens are moved, among so many that are held
pub record SlotSays (f : Token → Token) (table : ℕ) (held : List (List ℕ)) (bytes : List ℕ) (slot : ℕ) : Type 0 where
  pub low : slot < suc (length held)
  pub says : bytes_by held bytes slot ≡ signature_moved f table bytes

-- so do the numbers of so many rows of a table, by its column of signatures, and of all its rows, where it has such
-- a column
abbrev pub AreSaidUpto : Module → (Token → Token) → ℕ → ℕ → List (List ℕ) → List ℕ → ℕ → Type 0
AreSaidUpto m f table column held slots many =
    AreSlots (λ n slot. SlotSays f table held (bytes_at (cells_of m) (nth_row table n) column) slot) slots many

abbrev pub AreSignaturesHeld : Module → (Token → Token) → ℕ → List (List ℕ) → List ℕ → Type 0
AreSignaturesHeld m f table held slots =
    (column : ℕ) → signature_column table ≡ Some column → AreSaidUpto m f table column held slots (row_count m table)

-- the signatures of a table that are held, with the numbers of its rows
pub record HeldOf : Type 0 where
  pub held : List (List ℕ)
  pub slots : List ℕ

-- so are those of so many tables, and of all
abbrev pub held_at : List HeldOf → ℕ → HeldOf
held_at all table = unwrap_or (slice_get all table) (record { held = []; slots = [] })

pub record AreTablesHeld (m : Module) (f : Token → Token) (all : List HeldOf) (many : ℕ) : Type 0 where
  pub count : length all ≡ many
  pub each : (table : ℕ) → table < many → AreSignaturesHeld m f table (held_at all table).held (held_at all table).slots

abbrev pub AreAllHeld : Module → (Token → Token) → List HeldOf → Type 0
AreAllHeld m f all = AreTablesHeld m f all tables.table_count

-- the blob in a column of a row, where these are its own bytes
abbrev pub blob_held : HeldOf → ℕ → List ℕ → Bool → List ℕ
blob_held h row bytes true = bytes_by h.held bytes (number_in_slots h.slots row)
blob_held h row bytes false = bytes

abbrev pub blob_seen : List HeldOf → Token → ℕ → List ℕ → List ℕ
blob_seen all t column bytes = blob_held (held_at all t.table) t.row bytes (holds_signatures t.table column)

-- what a moved module holds fits the module that it lends
pub record HoldsMoved (m : Module) (texts : ℕ → Option (List ℕ)) (orders : Orders) (held : List Held) (slots : List ℕ)
    (all : List HeldOf) : Type 0 where
  pub sound : IsSound m
  pub order : orders ≡ new_order m
  pub bodies : AreBodiesHeld m (moved_by (new_order m)) texts held slots
  pub signatures : AreAllHeld m (moved_by (new_order m)) all
