-- What the heaps whose entries go by offsets have in common.
use Rattle.std.specs.Prelude.{ℕ, ◌*◌, ◌/◌, List, [], length, map, take, Option}
use Rattle.enc_base.specs.declared.refusal.StreamName.{StreamName}
use Rattle.enc_base.specs.declared.refusal.StreamName.TheVariants as stream
use Rattle.enc_meta.specs.Heaps.{Counted, text_entry, blob_entry, user_entry, text_at, blob_at, user_at}
use Rattle.enc_meta.specs.Joined.{joined_entry}
use Rattle.enc_meta.specs.declared.heap.Heap.{Heap}
use Rattle.enc_meta.specs.declared.heap.Heap.TheVariants as heap
use Rattle.enc_meta.specs.declared.heaps.HeapLengths.{HeapLengths}

-- the bytes of a heap that count
abbrev pub bytes_in : Heap → Counted → List ℕ
bytes_in heap.Strings h = h.strings
bytes_in heap.Users h = h.users
bytes_in heap.Blobs h = h.blobs

-- the bytes of a stream that count: of `#GUID` the whole entries (II.24.2.5), of a stream that is no heap none
abbrev pub stream_counted : StreamName → Counted → List ℕ
stream_counted stream.Strings h = h.strings
stream_counted stream.Users h = h.users
stream_counted stream.Blobs h = h.blobs
stream_counted stream.Guids h = take (length h.guids / 16 * 16) h.guids
stream_counted _ h = []

-- the entry that begins at an offset of a heap's bytes
abbrev pub heap_entry : Heap → List ℕ → ℕ → Option (List ℕ)
heap_entry heap.Strings bytes offset = text_entry bytes offset
heap_entry heap.Users bytes offset = user_entry bytes offset
heap_entry heap.Blobs bytes offset = blob_entry bytes offset

-- the entry at an offset: offset 0 is the empty one
abbrev pub own_at : Heap → List ℕ → ℕ → Option (List ℕ)
own_at heap.Strings bytes offset = text_at bytes offset
own_at heap.Users bytes offset = user_at bytes offset
own_at heap.Blobs bytes offset = blob_at bytes offset

-- the entry at an offset of the joined heaps
abbrev pub joined_at : Heap → List Counted → ℕ → Option (List ℕ)
joined_at heap all offset = joined_entry (heap_entry heap) (map (bytes_in heap) all) offset

-- how many bytes a heap has
abbrev pub length_in : Heap → HeapLengths → ℕ
length_in heap.Strings l = l.strings
length_in heap.Users l = l.users
length_in heap.Blobs l = l.blobs
