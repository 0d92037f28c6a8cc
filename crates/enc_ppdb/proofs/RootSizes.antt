-- How long a root is, and its heaps.
use Rattle.std.proofs.Common.{◌≡◌, ℕ, ◌+◌, ◌-◌, ◌*◌, ◌≤◌, Bool, true, false, List, [], ◌∷◌, ◌++◌, length, flat_map, replicate, refl, ap, ◌∙◌, arith, length-append}
use Rattle.std.specs.Prelude.{◌==◌, codes}
use Rattle.std.specs.Int.{w32, to_le_bytes}
use Rattle.std.specs.List.{list_all}
use Rattle.std.proofs.lemmas.Bool.{and_parts, eqb-true}
use Rattle.std.proofs.lemmas.List.{length-replicate}
use Rattle.std.proofs.lemmas.List.Concat.{length-flat_map}
use Rattle.enc_base.specs.Numbers.{padded}
use Rattle.enc_emit.specs.Written.{in_fours, stream_header_written, front_written, strings_begin, users_begin, guids_begin, blobs_begin, five_end, table_name, five_headers_written, five_written, pdb_streams, streams_begin, further_headers_written, further_written, root_with_further, pdb_root_written}
use Rattle.enc_meta.specs.Built.{Built, text_bytes, user_bytes, blob_bytes, heap_bytes, guid_bytes, joined_end, joined_size, heaps_built}
use Rattle.enc_meta.specs.BuiltLaws.{IsGood}
use Rattle.enc_meta.specs.Heaps.{Counted}
use Rattle.enc_meta.specs.declared.heaps.HeapLengths.{HeapLengths}
use Rattle.enc_ppdb.specs.Written.{pdb_starts}

pub padded_few : (n : ℕ) → (n ≤ padded n) × (padded n ≤ n + 3)
unfolding padded
padded_few n = (omega arith, omega arith)

fours_length : (bytes : List ℕ) → length (in_fours bytes) ≡ padded (length bytes)
fours_length bytes =
    length-append bytes (replicate (padded (length bytes) - length bytes) 0)
    ∙ omega (arith, length-replicate {A = ℕ} (padded (length bytes) - length bytes) 0, padded_few (length bytes))

word_length : (n : ℕ) → length (to_le_bytes w32 n) ≡ 4
word_length n = refl

-- a stream's header takes eight bytes and its name with a zero, in fours
pub header_length : (name : List ℕ) (start size : ℕ) → length (stream_header_written name start size) ≤ 8 + length name + 4
unfolding stream_header_written
header_length name start size =
    let zeros : List ℕ = replicate (padded (length name + 1) - length name) 0 in
    let many : length zeros ≡ padded (length name + 1) - length name = length-replicate {A = ℕ} (padded (length name + 1) - length name) 0 in
    omega (
      arith,
      length-append (to_le_bytes w32 start) (to_le_bytes w32 size ++ name ++ zeros),
      length-append (to_le_bytes w32 size) (name ++ zeros),
      length-append name zeros,
      many,
      padded_few (length name + 1),
      word_length start,
      word_length size,
    )

name_few : (u : Bool) → length (table_name u) ≤ 2
name_few true = omega arith
name_few false = omega arith

pub headers_few : (start : ℕ) (u : Bool) (stream : List ℕ) (h : Counted) → length (five_headers_written start u stream h) ≤ 83
unfolding five_headers_written
headers_few start u stream h =
    let a = stream_header_written (table_name u) start (length stream) in
    let b = stream_header_written (codes "#Strings") (strings_begin start stream) (length h.strings) in
    let c = stream_header_written (codes "#US") (users_begin start stream h) (length h.users) in
    let d = stream_header_written (codes "#GUID") (guids_begin start stream h) (length h.guids) in
    let e = stream_header_written (codes "#Blob") (blobs_begin start stream h) (length h.blobs) in
    omega (
      arith,
      length-append (a ++ b ++ c ++ d) e,
      length-append (a ++ b ++ c) d,
      length-append (a ++ b) c,
      length-append a b,
      header_length (table_name u) start (length stream),
      header_length (codes "#Strings") (strings_begin start stream) (length h.strings),
      header_length (codes "#US") (users_begin start stream h) (length h.users),
      header_length (codes "#GUID") (guids_begin start stream h) (length h.guids),
      header_length (codes "#Blob") (blobs_begin start stream h) (length h.blobs),
      name_few u,
    )

pub front_length : (count : ℕ) → length (front_written count) ≡ 32
unfolding front_written
front_length count = refl

abbrev pub heaps_length : Counted → ℕ
heaps_length h = length h.strings + length h.users + length h.blobs + length h.guids

pub five_few : (stream : List ℕ) (h : Counted) → length (five_written stream h) ≤ length stream + heaps_length h + 15
unfolding five_written
five_few stream h =
    let a = in_fours stream in
    let b = in_fours h.strings in
    let c = in_fours h.users in
    let d = in_fours h.guids in
    let e = in_fours h.blobs in
    omega (
      arith,
      length-append (a ++ b ++ c ++ d) e,
      length-append (a ++ b ++ c) d,
      length-append (a ++ b) c,
      length-append a b,
      fours_length stream,
      fours_length h.strings,
      fours_length h.users,
      fours_length h.guids,
      fours_length h.blobs,
      padded_few (length stream),
      padded_few (length h.strings),
      padded_few (length h.users),
      padded_few (length h.guids),
      padded_few (length h.blobs),
    )

-- `#Pdb` has a header, and its bytes in fours
pdb_header_few : (pdb : List ℕ) (start : ℕ) → length (further_headers_written start (pdb_streams pdb)) ≤ 16
pdb_header_few pdb start = omega (arith, header_length (codes "#Pdb") start (length pdb), length-append (stream_header_written (codes "#Pdb") start (length pdb)) [])

pdb_few : (pdb : List ℕ) → length (further_written (pdb_streams pdb)) ≤ length pdb + 3
pdb_few pdb = omega (arith, length-append (in_fours pdb) [], fours_length pdb, padded_few (length pdb))

-- the root of a PDB is little longer than its streams
pub pdb_root_length : (pdb : List ℕ) (u : Bool) (stream : List ℕ) (h : Counted) → length (pdb_root_written pdb u stream h) ≤ length pdb + length stream + heaps_length h + 149
unfolding pdb_root_written root_with_further
pdb_root_length pdb u stream h =
    let more = pdb_streams pdb in
    let front = front_written (5 + length more) in
    let heads = five_headers_written (streams_begin more) u stream h in
    let others = further_headers_written (five_end (streams_begin more) stream h) more in
    let five = five_written stream h in
    let rest = further_written more in
    omega (
      arith,
      length-append (front ++ heads ++ others ++ five) rest,
      length-append (front ++ heads ++ others) five,
      length-append (front ++ heads) others,
      length-append front heads,
      front_length (5 + length more),
      headers_few (streams_begin more) u stream h,
      pdb_header_few pdb (five_end (streams_begin more) stream h),
      five_few stream h,
      pdb_few pdb,
    )

-- heaps that stand behind no others are as long as the joined ones
pub heap_is : (encode : List ℕ → List ℕ) (values : List (List ℕ)) → length (heap_bytes encode values) ≡ joined_end encode 0 values
unfolding heap_bytes joined_end
heap_is encode values = omega (arith, length-flat_map encode values)

sixteen_each : (guids : List (List ℕ)) → list_all (λ (v : List ℕ). length v == 16) guids ≡ true → length (flat_map (λ (g : List ℕ). g) guids) ≡ 16 * length guids
sixteen_each [] all = omega arith
sixteen_each (g ∷ guids) all =
    let a = and_parts (length g == 16) (list_all (λ (v : List ℕ). length v == 16) guids) all in
    omega (arith, length-append g (flat_map (λ (x : List ℕ). x) guids), eqb-true _ _ a.0, sixteen_each guids a.1)

pub guids_are : (guids : List (List ℕ)) → list_all (λ (v : List ℕ). length v == 16) guids ≡ true → length (guid_bytes 0 guids) ≡ 16 * (0 + length guids)
unfolding guid_bytes
guids_are guids all = omega (arith, sixteen_each guids all)

heaps_by : (h : Built) → heaps_length (heaps_built h)
    ≡ joined_end text_bytes 0 h.texts + joined_end user_bytes 0 h.users + joined_end blob_bytes 0 h.blobs + length (guid_bytes h.starts.guids h.guids)
unfolding heaps_built
heaps_by h = omega (arith, heap_is text_bytes h.texts, heap_is user_bytes h.users, heap_is blob_bytes h.blobs)

pub heaps_are : (h : Built) → h.starts ≡ pdb_starts → IsGood h → heaps_length (heaps_built h) ≡ joined_size h
unfolding joined_size
heaps_are h none good =
    let s : h.starts.strings ≡ 0 = ap (λ (x : HeapLengths). x.strings) none in
    let u : h.starts.users ≡ 0 = ap (λ (x : HeapLengths). x.users) none in
    let b : h.starts.blobs ≡ 0 = ap (λ (x : HeapLengths). x.blobs) none in
    let g : h.starts.guids ≡ 0 = ap (λ (x : HeapLengths). x.guids) none in
    let guids : length (guid_bytes h.starts.guids h.guids) ≡ 16 * (h.starts.guids + length h.guids) = rw g (guids_are h.guids good.guids) in
    let texts : joined_end text_bytes h.starts.strings h.texts ≡ joined_end text_bytes 0 h.texts = ap (λ (k : ℕ). joined_end text_bytes k h.texts) s in
    let users : joined_end user_bytes h.starts.users h.users ≡ joined_end user_bytes 0 h.users = ap (λ (k : ℕ). joined_end user_bytes k h.users) u in
    let blobs : joined_end blob_bytes h.starts.blobs h.blobs ≡ joined_end blob_bytes 0 h.blobs = ap (λ (k : ℕ). joined_end blob_bytes k h.blobs) b in
    omega (arith, heaps_by h, guids, texts, users, blobs)
