-- What a value of JSON says: texts, numbers, tokens, blobs and GUIDs, and the elements and keys that it has.
use Rattle.std.specs.Prelude.{ℕ, ◌==◌, length, Bool, false, List, [], ◌∷◌, Option, Some, None, option_map, nat_le, bytes_eq, if◌then◌else◌}
use Rattle.std.specs.List.{list_all, list_any}
use Rattle.std.specs.Result.{result_ok}
use Rattle.std.specs.Int.{w32, from_be_bytes}
use Rattle.serde_json.specs.Data.{Data, Items, no_items, item, Members, no_members, member}
use Rattle.serde_json.specs.Find.{as_str, as_u64, as_number, as_array, as_object}
use Rattle.hex.specs.Hex.{decode_of, decode_sized}
use Rattle.uuid.specs.Text.{parsed}
use Rattle.uuid.specs.Parts.{swap_fields}
use Rattle.enc_base.specs.Token.{token_of}
use Rattle.enc_base.specs.declared.token.Token.{Token}
use Rattle.enc_opcodes.specs.Instruction.{◌>>=◌}

-- the elements of an array, in order
abbrev pub elements_in : Items → List Data
elements_in no_items = []
elements_in (item d ds) = d ∷ elements_in ds

-- an array by its elements
unfoldable pub elements_of : Data → Option (List Data)
elements_of d = option_map elements_in (as_array d)

-- the keys of an object
abbrev pub keys_in : Members → List (List ℕ)
keys_in no_members = []
keys_in (member k d ms) = k ∷ keys_in ms

-- a text is among these
abbrev pub is_one_of : List (List ℕ) → List ℕ → Bool
is_one_of texts t = list_any (λ (u : List ℕ). bytes_eq u t) texts

-- there are members, and their keys are among these
abbrev pub keys_among : List (List ℕ) → Option Members → Bool
keys_among names None = false
keys_among names (Some ms) = list_all (is_one_of names) (keys_in ms)

-- the value is an object, and each of its keys is among these
unfoldable pub has_only : List (List ℕ) → Data → Bool
has_only names d = keys_among names (as_object d)

-- what a reader reads at a key that may be absent
abbrev pub at_key_or : {A : Type 0} → A → (Data → Option A) → Option Data → Option A
at_key_or default reader None = Some default
at_key_or default reader (Some d) = reader d

-- a whole number up to a bound
unfoldable pub number_said : ℕ → Data → Option ℕ
number_said most d = do
  kept ← as_number d
  n ← as_u64 kept
  if nat_le n most then Some n else None

-- a number that has no bound of its own
abbrev pub word_said : Data → Option ℕ
word_said d = number_said 0xFFFFFFFF d

-- an array of two numbers
abbrev pub pair_in : List Data → Option (ℕ × ℕ)
pair_in (a ∷ b ∷ []) = do
  first ← word_said a
  second ← word_said b
  Some (first, second)
pair_in _ = None

unfoldable pub pair_said : Data → Option (ℕ × ℕ)
pair_said d = elements_of d >>= pair_in

-- the bytes that a text of hexadecimal digits of either case spells
unfoldable pub hex_said : Data → Option (List ℕ)
hex_said d = as_str d >>= λ t. result_ok (decode_of t)

-- so many bytes
unfoldable pub bytes_said : ℕ → Data → Option (List ℕ)
bytes_said n d = do
  bytes ← hex_said d
  if length bytes == n then Some bytes else None

-- the number of a token, by eight hexadecimal digits of either case
unfoldable pub token_number_said : Data → Option ℕ
token_number_said d = as_str d >>= λ t. option_map (from_be_bytes w32) (result_ok (decode_sized t 4))

-- a token, by its number
unfoldable pub token_said : Data → Option Token
token_said d = option_map token_of (token_number_said d)

-- a GUID, its first three fields little-endian
unfoldable pub guid_said : Data → Option (List ℕ)
guid_said d = as_str d >>= λ t. option_map swap_fields (parsed t)
