-- What is written into heaps reads back, whatever heaps stand before.
use Rattle.std.specs.Prelude.{◌≡◌, ℕ, ◌+◌, ◌*◌, ◌%◌, ◌^◌, not, ◌&&◌, List, [], ◌∷◌, ◌++◌, length, map, Some, IsTrue, nat_lt, ◌==◌}
use Rattle.std.specs.List.{list_all, list_any}
use Rattle.enc_meta.specs.declared.heaps.HeapLengths.{HeapLengths}
use Rattle.enc_meta.specs.Heaps.{Counted, counted_strings}
use Rattle.enc_meta.specs.Joined.{joined_text, joined_user, joined_blob, joined_guid, joined_length}
use Rattle.enc_base.specs.Numbers.{is_empty}
use Rattle.enc_meta.specs.Built.{Built, is_kept, is_guid_kept, with_value, with_guid, offset_in, text_offset, user_offset, blob_offset, guid_number, heaps_built}

-- no text is empty or has a zero, units are of two bytes, lengths can be spelled, and GUIDs are of sixteen bytes
pub record IsGood (b : Built) : Type 0 where
  pub texts : IsTrue (list_all (λ (v : List ℕ). not (is_empty v) && not (list_any (λ c. c == 0) v)) b.texts)
  pub users : IsTrue (list_all (λ (v : List ℕ). length v % 2 == 0 && nat_lt (length v + 1) (2 ^ 29)) b.users)
  pub blobs : IsTrue (list_all (λ (v : List ℕ). nat_lt (length v) (2 ^ 29)) b.blobs)
  pub guids : IsTrue (list_all (λ (v : List ℕ). length v == 16) b.guids)

-- the heaps before are as long as the starts say, and none has more GUIDs
pub record ArePast (before : List Counted) (starts : HeapLengths) : Type 0 where
  pub strings : joined_length (map (λ (c : Counted). c.strings) before) ≡ starts.strings
  pub users : joined_length (map (λ (c : Counted). c.users) before) ≡ starts.users
  pub blobs : joined_length (map (λ (c : Counted). c.blobs) before) ≡ starts.blobs
  pub guids : IsTrue (list_all (λ (c : Counted). nat_lt (length c.guids) (16 * starts.guids + 16)) before)

-- the built heaps behind those before
abbrev pub heaps_joined : List Counted → Built → List Counted
heaps_joined before b = before ++ heaps_built b ∷ []

abbrev pub TextsAreRead : Type 0
TextsAreRead = (before : List Counted) (b : Built) (v : List ℕ) → IsGood b → ArePast before b.starts
    → IsTrue (is_kept b.texts v)
    → joined_text (heaps_joined before b) (text_offset b v) ≡ Some v

abbrev pub UsersAreRead : Type 0
UsersAreRead = (before : List Counted) (b : Built) (v : List ℕ) → IsGood b → ArePast before b.starts
    → IsTrue (is_kept b.users v)
    → joined_user (heaps_joined before b) (user_offset b v) ≡ Some v

abbrev pub BlobsAreRead : Type 0
BlobsAreRead = (before : List Counted) (b : Built) (v : List ℕ) → IsGood b → ArePast before b.starts
    → IsTrue (is_kept b.blobs v)
    → joined_blob (heaps_joined before b) (blob_offset b v) ≡ Some v

abbrev pub GuidsAreRead : Type 0
GuidsAreRead = (before : List Counted) (b : Built) (g : List ℕ) → IsGood b → ArePast before b.starts
    → IsTrue (is_guid_kept b.guids g)
    → joined_guid (heaps_joined before b) (guid_number b g) ≡ Some g

-- every byte of the built texts counts
abbrev pub TextsCount : Type 0
TextsCount = (b : Built) → IsGood b → counted_strings (heaps_built b).strings ≡ (heaps_built b).strings

-- an offset that was given stays
abbrev pub OffsetsStay : Type 0
OffsetsStay = (encode : List ℕ → List ℕ) (start : ℕ) (values : List (List ℕ)) (v w : List ℕ) → IsTrue (is_kept values v)
    → offset_in encode start (with_value values w) v ≡ offset_in encode start values v

abbrev pub NumbersStay : Type 0
NumbersStay = (b : Built) (g h : List ℕ) → IsTrue (is_guid_kept b.guids g)
    → guid_number (with_guid b h) g ≡ guid_number b g

-- different values have different offsets
abbrev pub OffsetsTell : Type 0
OffsetsTell = (b : Built) (v w : List ℕ) → IsGood b → IsTrue (is_kept b.texts v) → IsTrue (is_kept b.texts w)
    → text_offset b v ≡ text_offset b w → v ≡ w

abbrev pub UserOffsetsTell : Type 0
UserOffsetsTell = (b : Built) (v w : List ℕ) → IsGood b → IsTrue (is_kept b.users v) → IsTrue (is_kept b.users w)
    → user_offset b v ≡ user_offset b w → v ≡ w

abbrev pub BlobOffsetsTell : Type 0
BlobOffsetsTell = (b : Built) (v w : List ℕ) → IsGood b → IsTrue (is_kept b.blobs v) → IsTrue (is_kept b.blobs w)
    → blob_offset b v ≡ blob_offset b w → v ≡ w

abbrev pub GuidNumbersTell : Type 0
GuidNumbersTell = (b : Built) (g h : List ℕ) → IsGood b → IsTrue (is_guid_kept b.guids g)
    → IsTrue (is_guid_kept b.guids h)
    → guid_number b g ≡ guid_number b h → g ≡ h
