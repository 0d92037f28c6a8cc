-- What lasts when a module is edited by updates that say the same by alike references, and its references don't lie
-- too deep.
use Rattle.std.specs.Prelude.{◌≡◌, ℕ, true, false}
use Rattle.enc_base.specs.declared.token.Token.{Token}
use Rattle.enc_delta.specs.Changes.{asked_of, cell_is_kept, has_no_slot, is_out_of_layout, may_differ}
use Rattle.enc_delta.specs.Twins.{is_twin}
use Rattle.enc_plain.specs.Apply.{Attached}
use Rattle.enc_plain.specs.Cell.{kind_in}
use Rattle.enc_plain.specs.Chain.{Chain}
use Rattle.enc_plain.specs.Module.{Module, cells_of, has_row}
use Rattle.enc_plain.specs.Rows.{Rows}
use Rattle.enc_plain.specs.Sound.{IsSound}
use Rattle.enc_schema.specs.Children.{is_child_table}
use Rattle.enc_reference_depth.specs.Depth.{IsShallow}

-- each row that was there is there, and says in each column what it said: equal numbers and texts, alike tokens and
-- signatures by the rows after. Only where
-- an update may say something else it may differ
pub record KeepsRows (m n : Module) : Type 0 where
  pub there : (t : Token) → has_row m t ≡ true → has_row n t ≡ true
  pub each : (t : Token) (i : ℕ) → has_row m t ≡ true → may_differ t.table i ≡ false
      → cell_is_kept (cells_of m) (cells_of n) t i (kind_in t.table i) ≡ true

-- a sound module, and one that it is edited to, which is sound and shallow
pub record Lasts (m n : Module) : Type 0 where
  pub before : IsSound m
  pub after : IsSound n
  pub keeps : KeepsRows m n
  pub shallow : IsShallow n

-- rows that are kept by two edits one after the other are kept by both
abbrev pub KeptTwice : Type 0
KeptTwice = (l m n : Module) → IsSound l → KeepsRows l m → Lasts m n → KeepsRows l n

-- two members that were there are twins after where they were before
abbrev pub TwinsLast : Type 0
TwinsLast =
    (m n : Module) → Lasts m n → (t u : Token) → has_row m t ≡ true → has_row m u ≡ true → t.table ≡ u.table
    → is_child_table t.table ≡ true
    → is_twin (asked_of (cells_of n)) t u ≡ is_twin (asked_of (cells_of m)) t u

-- a twin of a member that counts has that member as its twin
abbrev pub TwinsAreMutual : Type 0
TwinsAreMutual =
    (rows : Rows) (t u : Token) → t.table ≡ u.table → (asked_of rows).counts t ≡ true
    → is_twin (asked_of rows) t u ≡ true
    → is_twin (asked_of rows) u t ≡ true

-- a field that came to a type has its place after where it had it before, and a method its slot
abbrev pub LayoutsLast : Type 0
LayoutsLast =
    (m n : Module) → Lasts m n → (c : Chain) (a : Attached) → has_row m a.child ≡ true → has_row m a.owner ≡ true
    → is_out_of_layout c (cells_of n) a ≡ is_out_of_layout c (cells_of m) a

abbrev pub SlotsLast : Type 0
SlotsLast =
    (m n : Module) → Lasts m n → (c : Chain) (a : Attached) → has_row m a.child ≡ true → has_row m a.owner ≡ true
    → has_no_slot c (cells_of n) a ≡ has_no_slot c (cells_of m) a
