-- The heaps of a root and the entries in them (ECMA-335 II.24.2.3 to II.24.2.5).
use Rattle.std.specs.Prelude.{◌≤◌, ℕ, zero, suc, ◌+◌, ◌*◌, ◌/◌, ◌%◌, ◌&&◌, not, List, [], ◌∷◌, length, take, drop, replicate, Option, Some, None, option_and_then, nat_le, ◌==◌, if◌then◌else◌}
use Rattle.enc_base.specs.Numbers.{compressed_at}
use Rattle.enc_meta.specs.Root.{◌>>=◌, before_zero}
use Rattle.enc_meta.specs.declared.ends.TextEnds.{TextEnds}
use Rattle.enc_meta.specs.declared.heaps.HeapLengths.{HeapLengths}
use Rattle.enc_meta.specs.declared.root.Root.{Root}
use Rattle.enc_meta.specs.declared.span.Span.{Span}

-- the bytes of the four heaps that count
pub record Counted : Type 0 where
  pub strings : List ℕ
  pub users : List ℕ
  pub blobs : List ℕ
  pub guids : List ℕ

-- how many bytes stand up to the last that isn't zero
abbrev pub filled : List ℕ → ℕ
filled [] = 0
filled (b ∷ rest) = if filled rest == 0 && b == 0 then 0 else suc (filled rest)

-- the bytes of a `#Strings` that count: of the zeros at its end only the first
unfoldable pub counted_strings : List ℕ → List ℕ
counted_strings heap = take (filled heap + 1) heap

-- how many bytes stand up to and with the last zero
abbrev pub to_last_zero : List ℕ → ℕ
to_last_zero [] = 0
to_last_zero (b ∷ rest) = if to_last_zero rest == 0 && not (b == 0) then 0 else suc (to_last_zero rest)

-- how many bytes of a `#Strings` count, and where the last text that counts ends
unfoldable pub text_ends : List ℕ → TextEnds
text_ends heap = record { counted = length (counted_strings heap); last = to_last_zero (counted_strings heap) }

-- the bytes of a range
unfoldable pub part : List ℕ → Span → List ℕ
part bytes s = take s.len (drop s.start bytes)

unfoldable pub heaps_of : List ℕ → Root → Counted
heaps_of bytes root = record {
  strings = counted_strings (part bytes root.strings);
  users = part bytes root.users;
  blobs = part bytes root.blobs;
  guids = part bytes root.guids;
}

-- the ends of a root's texts
unfoldable pub ends_of : List ℕ → Root → TextEnds
ends_of bytes root = text_ends (part bytes root.strings)

-- no heap is longer than this
pub record AreAtMost (size : ℕ) (heaps : Counted) : Type 0 where
  pub strings : length heaps.strings ≤ size
  pub users : length heaps.users ≤ size
  pub blobs : length heaps.blobs ≤ size
  pub guids : length heaps.guids ≤ size

-- the bytes that count, and of the sixteens the whole ones
abbrev pub lengths_of : Counted → HeapLengths
lengths_of heaps = record {
  strings = length heaps.strings;
  users = length heaps.users;
  blobs = length heaps.blobs;
  guids = length heaps.guids / 16;
}

-- the text that begins at an offset, without its zero (II.24.2.3)
unfoldable pub text_entry : List ℕ → ℕ → Option (List ℕ)
text_entry heap offset = before_zero (drop offset heap)

-- the text at an offset: offset 0 is the empty one
unfoldable pub text_at : List ℕ → ℕ → Option (List ℕ)
text_at heap offset = if offset == 0 then Some [] else text_entry heap offset

-- the bytes at an offset behind their compressed length (II.24.2.4)
unfoldable pub blob_entry : List ℕ → ℕ → Option (List ℕ)
blob_entry heap offset = do
  head ← compressed_at heap offset
  if nat_le (head.1 + head.0) (length heap) then Some (take head.0 (drop head.1 heap)) else None

unfoldable pub blob_at : List ℕ → ℕ → Option (List ℕ)
blob_at heap offset = if offset == 0 then Some [] else blob_entry heap offset

-- the bytes of the UTF-16 units of a user text: its length is 0, or odd with one byte behind the units (II.24.2.4)
unfoldable pub units_in : List ℕ → Option (List ℕ)
units_in [] = Some []
units_in (b ∷ rest) = if length rest % 2 == 0 then Some (take (length rest) (b ∷ rest)) else None

unfoldable pub user_entry : List ℕ → ℕ → Option (List ℕ)
user_entry heap offset = option_and_then units_in (blob_entry heap offset)

unfoldable pub user_at : List ℕ → ℕ → Option (List ℕ)
user_at heap offset = if offset == 0 then Some [] else user_entry heap offset

-- the sixteen bytes behind so many sixteens
unfoldable pub sixteen_at : List ℕ → ℕ → Option (List ℕ)
sixteen_at heap k = if nat_le (16 * k + 16) (length heap) then Some (take 16 (drop (16 * k) heap)) else None

-- sixteen zeros
unfoldable pub nil_guid : List ℕ
nil_guid = replicate 16 0

-- entry k from 1 is the k-th sixteen bytes, and 0 is nil (II.24.2.5)
abbrev pub guid_at : List ℕ → ℕ → Option (List ℕ)
guid_at heap zero = Some (replicate 16 0)
guid_at heap (suc k) = sixteen_at heap k
