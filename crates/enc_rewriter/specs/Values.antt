-- The values that a module's cells have for each heap, in the order of its tables, rows and columns,
-- and the heaps that hold each of them once (ECMA-335 II.24.2.3 to II.24.2.5).
use Rattle.std.specs.Prelude.{◌≡◌, ℕ, ◌+◌, ◌<◌, ◌^◌, ◌*◌, Bool, true, false, nat_lt, if◌then◌else◌, List, [], ◌∷◌, length, flat_map}
use Rattle.std.specs.Prelude.{Option, Some, None, unwrap_or, Result, Ok, Err}
use Rattle.std.specs.List.{list_all}
use Rattle.enc_base.specs.Token.{nth_row}
use Rattle.enc_base.specs.Units.{units_of}
use Rattle.enc_base.specs.declared.refusal.StreamName.{StreamName}
use Rattle.enc_base.specs.declared.refusal.StreamName.TheVariants.{Strings, Users, Blobs, Guids}
use Rattle.enc_base.specs.declared.token.Token.{Token}
use Rattle.enc_meta.specs.Built.{Built, is_kept, is_guid_kept, none_from, with_text, with_user, with_blob, with_guid}
use Rattle.enc_meta.specs.Built.{joined_end, text_bytes, user_bytes, blob_bytes, unit_bytes}
use Rattle.enc_meta.specs.declared.builder.BuildFault.{BuildFault}
use Rattle.enc_meta.specs.declared.builder.BuildFault.TheVariants.{Memory, TooLarge}
use Rattle.enc_meta.specs.declared.heaps.HeapLengths.{HeapLengths}
use Rattle.enc_opcodes.specs.Body.{Body}
use Rattle.enc_opcodes.specs.Instruction.{Argument, text as named, Instruction}
use Rattle.enc_plain.specs.Cell.{Cell, text, blob, guid, body, Kind, texts, blobs, guids, bodies}
use Rattle.enc_plain.specs.Module.{Module, has_row, cell_of}
use Rattle.enc_plain.specs.Sound.{IsSound, row_count}
use Rattle.enc_rows.specs.Sums.{below}
use Rattle.enc_schema.specs.Schema.{columns_in}
use Rattle.enc_rewriter.specs.declared.pass.Pass.{Pass}
use Rattle.enc_rewriter.specs.declared.pass.Pass.TheVariants as pass

-- the user text of an operand, by the bytes of its units
abbrev pub text_named : Argument (List ℕ) → List (List ℕ)
text_named (named units) = unit_bytes units ∷ []
text_named _ = []

-- the user texts that instructions name, in their order
unfoldable pub texts_named : List (ℕ × Instruction (List ℕ)) → List (List ℕ)
texts_named code = flat_map (λ (x : ℕ × Instruction (List ℕ)). text_named x.1.arg) code

-- the user texts of a body, if there is one
abbrev pub users_of_body : Option Body → List (List ℕ)
users_of_body None = []
users_of_body (Some b) = texts_named b.code

-- what a cell has for a heap: `#Strings` its text, `#US` the user texts of its body, `#Blob` its blob, `#GUID` its GUID
abbrev pub values_for : Pass → Cell → List (List ℕ)
values_for pass.Texts (text v) = v ∷ []
values_for pass.Users (body there) = users_of_body there
values_for pass.Blobs (blob v) = v ∷ []
values_for pass.Guids (guid v) = v ∷ []
values_for _ _ = []

abbrev pub values_if : Pass → Option Cell → List (List ℕ)
values_if p None = []
values_if p (Some c) = values_for p c

-- the cells of this kind have values for the heap
abbrev pub gathers : Pass → Option Kind → Bool
gathers pass.Texts (Some texts) = true
gathers pass.Users (Some bodies) = true
gathers pass.Blobs (Some blobs) = true
gathers pass.Guids (Some guids) = true
gathers _ _ = false

-- a sound module has the row
pub record IsSoundRow (m : Module) (u : Token) : Type 0 where
  pub sound : IsSound m
  pub row : has_row m u ≡ true

-- the values of a row's column, of a row, of a table, and of all tables
unfoldable pub values_at : Pass → Module → Token → ℕ → List (List ℕ)
values_at p m u i = values_if p (cell_of m u i)

unfoldable pub values_of_row : Pass → Module → Token → List (List ℕ)
values_of_row p m u = flat_map (values_at p m u) (below (length (columns_in u.table)))

unfoldable pub values_of_table : Pass → Module → ℕ → List (List ℕ)
values_of_table p m t = flat_map (λ n. values_of_row p m (nth_row t n)) (below (row_count m t))

unfoldable pub all_values : Pass → Module → List (List ℕ)
all_values p m = flat_map (values_of_table p m) (below 64)

-- the heaps with one more value of a pass, and with all of a list
abbrev pub with_one : Pass → Built → List ℕ → Built
with_one pass.Texts h v = with_text h v
with_one pass.Users h v = with_user h v
with_one pass.Blobs h v = with_blob h v
with_one pass.Guids h v = with_guid h v

unfoldable pub with_all : Pass → Built → List (List ℕ) → Built
with_all p h [] = h
with_all p h (v ∷ rest) = with_all p (with_one p h v) rest

-- heaps behind no others
abbrev pub no_starts : HeapLengths
no_starts = record { strings = 0; users = 0; blobs = 0; guids = 0 }

-- none of them has a value yet
unfoldable pub no_heaps : Built
no_heaps = none_from no_starts

-- the heaps of a module: each value once, in the order of first use
unfoldable pub heaps_for : Module → Built
heaps_for m =
    with_all pass.Guids
    (with_all pass.Blobs (with_all pass.Users (with_all pass.Texts no_heaps (all_values pass.Texts m))
    (all_values pass.Users m)) (all_values pass.Blobs m))
    (all_values pass.Guids m)

-- how long the heap of a pass is
abbrev pub heap_size : Pass → Built → ℕ
heap_size pass.Texts h = joined_end text_bytes h.starts.strings h.texts
heap_size pass.Users h = joined_end user_bytes h.starts.users h.users
heap_size pass.Blobs h = joined_end blob_bytes h.starts.blobs h.blobs
heap_size pass.Guids h = 16 * (h.starts.guids + length h.guids)

-- and how long it may be
abbrev pub heap_limit : Pass → ℕ
heap_limit pass.Users = 2 ^ 24
heap_limit _ = 2 ^ 29

abbrev pub heap_of : Pass → StreamName
heap_of pass.Texts = Strings
heap_of pass.Users = Users
heap_of pass.Blobs = Blobs
heap_of pass.Guids = Guids

-- what a pass tells where it is refused: its heap, which passes its limit; want of memory tells nothing
abbrev pub IsPast : Result Unit BuildFault → Pass → Built → Type 0
IsPast (Ok _) p h = Unit {0}
IsPast (Err (TooLarge heap)) p h = (heap ≡ heap_of p) × (nat_lt (heap_limit p) (heap_size p h) ≡ true)
IsPast (Err Memory) p h = Unit {0}

-- a pass ends exactly where its heap is within its limit
abbrev pub PassEnds : Result Unit BuildFault → Pass → Built → Type 0
PassEnds (Ok _) p h = nat_lt (heap_limit p) (heap_size p h) ≡ false
PassEnds (Err (TooLarge heap)) p h = (heap ≡ heap_of p) × (nat_lt (heap_limit p) (heap_size p h) ≡ true)
PassEnds (Err Memory) p h = Unit {0}

-- a module's heap of distinct values passes its limit
unfoldable pub passes_limit : Pass → Module → Bool
passes_limit p m = nat_lt (heap_limit p) (heap_size p (heaps_for m))

-- the first heap that does, in the order of the passes
unfoldable pub too_large_heap : Module → Option StreamName
too_large_heap m =
    if passes_limit pass.Texts m then Some Strings
    else if passes_limit pass.Users m then Some Users
    else if passes_limit pass.Blobs m then Some Blobs
    else if passes_limit pass.Guids m then Some Guids
    else None

-- the heap that is told is the first that is too large; want of memory tells nothing
abbrev pub TellsHeap : {A : Type 0} → Result A BuildFault → Option StreamName → Type 0
TellsHeap (Ok _) first = first ≡ None
TellsHeap (Err (TooLarge heap)) first = first ≡ Some heap
TellsHeap (Err Memory) first = Unit {0}

-- the bytes of a user text's whole units, none where there is no text
abbrev pub units_told : Option (List ℕ) → List ℕ
units_told there = unit_bytes (units_of (unwrap_or there []))

-- the value has its place in the heap of a pass
abbrev pub is_kept_by : Pass → Built → List ℕ → Bool
is_kept_by pass.Texts h v = is_kept h.texts v
is_kept_by pass.Users h v = is_kept h.users v
is_kept_by pass.Blobs h v = is_kept h.blobs v
is_kept_by pass.Guids h v = is_guid_kept h.guids v

-- so have all values of a module, in heaps that stand behind no others
pub record KeepValues (m : Module) (h : Built) : Type 0 where
  pub starts : h.starts ≡ no_starts
  pub each : (p : Pass) (u : Token) (i : ℕ) → has_row m u ≡ true → i < length (columns_in u.table)
      → list_all (is_kept_by p h) (values_at p m u i) ≡ true
