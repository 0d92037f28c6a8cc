-- For the contracts of private functions: how the first methods of slots are found, by keys that methods of one slot
-- have in common.
use Rattle.std.specs.Prelude.{◌≡◌, ℕ, zero, suc, Bool, false, Option, Some, None, ◌+◌, ◌-◌, ◌%◌, ◌/◌, ◌^◌, ◌&&◌, ◌==◌, List, length, if◌then◌else◌}
use Rattle.enc_base.specs.Token.{nth_row}
use Rattle.enc_base.specs.declared.token.Token.{Token}
use Rattle.enc_key_map.specs.declared.index.Index.{Index}
use Rattle.enc_key_map.specs.declared.key.Key.{Key}
use Rattle.enc_key_map.specs.Index.{value_at, either}
use Rattle.enc_plain.specs.Keys.{signature_key}
use Rattle.enc_plain.specs.Rows.{Rows, bytes_at}
use Rattle.enc_schema.specs.Columns as columns
use Rattle.enc_base.specs.Tables as tables
use Rattle.enc_sigs.specs.Mix.{mix_of, mixed, mixed_ends, finished}
use Rattle.enc_dispatch.specs.Parts.{EachPart}
use Rattle.enc_dispatch.specs.Slots.{shares_slot, slot_in}
use Rattle.enc_dispatch.specs.Walks.{method_at}

-- the key of a method: its name and the key of its signature
unfoldable pub slot_key : Rows → Token → ℕ
slot_key rows t =
    finished (mixed (mixed_ends 0x800 (mix_of 0) (bytes_at rows t columns.method_def_name))
    (signature_key rows tables.method_def (bytes_at rows t columns.method_def_signature)))

abbrev pub is_slot : ℕ → Option ℕ → Bool
is_slot n None = false
is_slot n (Some k) = k == n

-- the n-th method is the first of its slot and has this key, n from 0
unfoldable pub is_first_of : Rows → ℕ → ℕ → Bool
is_first_of rows key n = is_slot (n + 1) (slot_in rows (nth_row tables.method_def n))
    && slot_key rows (nth_row tables.method_def n) == key

-- the row of the last of such methods among the first so many
unfoldable pub newest_first : Rows → ℕ → ℕ → Option ℕ
newest_first rows key zero = None
newest_first rows key (suc n) = if is_first_of rows key n then Some (n + 1) else newest_first rows key n

-- the last of those that shares a method's slot
unfoldable pub alike_first : Rows → ℕ → Token → ℕ → Option ℕ
alike_first rows key method zero = None
alike_first rows key method (suc n) =
    if is_first_of rows key n && shares_slot rows (nth_row tables.method_def n) method then Some (n + 1)
    else alike_first rows key method n

-- the same from a row on downward
unfoldable pub alike_from : Rows → ℕ → Token → Option ℕ → Option ℕ
alike_from rows key method None = None
alike_from rows key method (Some row) =
    if shares_slot rows (method_at row) method then Some row else alike_first rows key method (row - 1)

-- what the newest first method with a key stands by
abbrev pub bucket_key : ℕ → Key
bucket_key key = record { table = tables.method_def; row = key % 2 ^ 32; place = key / 2 ^ 32 }

-- the newest first method of a key, as an index has it, and as one has it that comes before another
abbrev pub stored_head : Index ℕ → ℕ → Option ℕ
stored_head index key = value_at index (bucket_key key)

abbrev pub head_over : Index ℕ → Index ℕ → ℕ → Option ℕ
head_over below above key = either (stored_head above key) (stored_head below key)

-- the newest first method of each key, and behind each method the one that was so before it
pub record AreBuckets (rows : Rows) (head : ℕ → Option ℕ) (links : List (Option ℕ)) : Type 0 where
  pub heads : (key : ℕ) → head key ≡ newest_first rows key (length links)
  pub next : EachPart (λ (n : ℕ) (o : Option ℕ). o ≡ newest_first rows (slot_key rows (nth_row tables.method_def n)) n)
      links

-- the slot of the n-th method, n from 0
abbrev pub IsSlotOf : Rows → ℕ → ℕ → Type 0
IsSlotOf rows n slot = slot_in rows (nth_row tables.method_def n) ≡ Some slot
