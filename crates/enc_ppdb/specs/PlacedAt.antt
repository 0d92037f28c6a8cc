-- Which document stands at a place: its number in the file with a number, 0 for the base and from 1 for the deltas,
-- the oldest first.
use Rattle.std.specs.Prelude.{ℕ, zero, suc, ◌+◌, ◌-◌, ◌/◌, ◌%◌, ◌^◌, ◌==◌, min, Bool, true, false, List, [], ◌∷◌, length, Option, None, is_some, option_and_then, if◌then◌else◌}
use Rattle.std.specs.List.{list_any}
use Rattle.enc_base.specs.Token.{is_token}
use Rattle.enc_base.specs.declared.token.Token.{Token}
use Rattle.enc_plain.specs.Debug.{Document}
use Rattle.enc_rows.specs.Source.{Source}
use Rattle.enc_ppdb.specs.PdbChain.{DebugDelta, base_row, delta_row, document_at}

-- room for more deltas, of which there are fewer than 2^32 - 1
unfoldable pub room_for : ℕ → ℕ → ℕ
room_for capacity deltas = min (capacity - deltas) (0xFFFFFFFE - deltas)

-- the file with a number, the newest delta first
unfoldable pub file_at : Option Source → List DebugDelta → ℕ → Option Source
file_at base [] zero = base
file_at base [] (suc n) = None
file_at base (d ∷ older) n = if n == length older + 1 then d.pdb else file_at base older n

-- the number of a delta that has a row, of no file where the method has a new body and no row, and else as before
abbrev pub number_or : Bool → Bool → ℕ → ℕ → ℕ → ℕ
number_or true changed own none before = own
number_or false true own none before = none
number_or false false own none before = before

-- the number of the newest file that knows a method
unfoldable pub file_number : Option Source → ℕ → List DebugDelta → Token → ℕ
file_number base none [] method = if is_some (base_row base method) then 0 else none
file_number base none (d ∷ older) method =
    number_or (is_some (delta_row d.pdb method)) (list_any (is_token method) d.changed) (length older + 1) none
    (file_number base none older method)

-- the document at a place
unfoldable pub document_placed : Option Source → List DebugDelta → ℕ → Option Document
document_placed base deltas place =
    option_and_then (λ (s : Source). document_at s (place % 2 ^ 32)) (file_at base deltas (place / 2 ^ 32))
