-- A root that was written is read back.
use Rattle.std.proofs.Common.{◌≡◌, ℕ, ◌+◌, ◌-◌, ◌^◌, ◌<◌, ◌≤◌, Bool, true, false, List, [], ◌∷◌, ◌++◌, length, Some, None, Ok, refl, ap, ◌∙◌, arith, append_assoc, subst}
use Rattle.std.specs.Prelude.{Option, codes, replicate}
use Rattle.std.proofs.lemmas.List.{append-nil}
use Rattle.enc_base.specs.Numbers.{padded}
use Rattle.enc_meta.specs.Root.{version_len, root_of, root_with}
use Rattle.enc_meta.specs.Heaps.{Counted, counted_strings, heaps_of, part}
use Rattle.enc_meta.specs.declared.root.Root.{Root}
use Rattle.enc_meta.specs.declared.span.Span.{Span}
use Rattle.enc_emit.specs.Written.{Further, jtd_streams, pdb_streams, streams_begin, five_end, five_headers_written, further_headers_written, five_written, further_written, front_written, root_with_further, root_written, root_size, pdb_root_written, in_fours, table_name, that_count, HoldsStreams, RootIsRead, CountedRootIsRead, PdbRootIsRead}
use Rattle.enc_emit.proofs.Rests.{Rests, IsName, at_begin, as_split, past, part_here, rest_size, fours_size}
use Rattle.enc_emit.proofs.Names.{front_size, front_version, front_five, front_six, jtd_name, pdb_name}
use Rattle.enc_emit.proofs.Five.{Spans, Ends, five, six, header_of, headers_there, five_there, six_there, streams_are, root_is}
use Rattle.enc_emit.proofs.Good.{IsBeside, jtd_beside, pdb_beside, five_good, six_good, root_for, five_root, jtd_root, pdb_root}

abbrev tail : List ℕ → Counted → List ℕ → List ℕ
tail stream h last = in_fours stream ++ (in_fours h.strings ++ (in_fours h.users ++ (in_fours h.guids ++ (in_fours h.blobs ++ last))))

abbrev behind : ℕ → List ℕ → ℕ
behind at x = at + padded (length x)

abbrev spans_from : ℕ → List ℕ → Counted → Spans
spans_from at stream h = record {
  tables = record { start = at; len = length stream };
  strings = record { start = behind at stream; len = length h.strings };
  users = record { start = behind (behind at stream) h.strings; len = length h.users };
  guids = record { start = behind (behind (behind at stream) h.strings) h.users; len = length h.guids };
  blobs = record { start = behind (behind (behind (behind at stream) h.strings) h.users) h.guids; len = length h.blobs };
}

-- within more they end too
wider : (size more : ℕ) (s : Spans) → size ≤ more → Ends size s → Ends more s
wider size more s le e = record {
  tables = omega (arith, le, e.tables);
  strings = omega (arith, le, e.strings);
  users = omega (arith, le, e.users);
  guids = omega (arith, le, e.guids);
  blobs = omega (arith, le, e.blobs);
}

abbrev size_from : ℕ → List ℕ → Counted → ℕ
size_from at stream h = behind (behind (behind (behind (behind at stream) h.strings) h.users) h.guids) h.blobs

no_less : (n : ℕ) → n ≤ padded n
unfolding padded
no_less n = omega arith

ends : (at : ℕ) (stream : List ℕ) (h : Counted) → Ends (size_from at stream h) (spans_from at stream h)
ends at stream h = record {
  tables = omega (arith, no_less (length stream));
  strings = omega (arith, no_less (length h.strings));
  users = omega (arith, no_less (length h.users));
  guids = omega (arith, no_less (length h.guids));
  blobs = omega (arith, no_less (length h.blobs));
}

fours_part : (bytes : List ℕ) (at : ℕ) (x rest : List ℕ) → Rests bytes at (in_fours x ++ rest) → part bytes (record { start = at; len = length x }) ≡ x
fours_part bytes at x rest r =
    let zeros = replicate (padded (length x) - length x) 0 in
    part_here bytes at x (zeros ++ rest) (as_split bytes at _ _ r (append_assoc x zeros rest))

fours_past : (bytes : List ℕ) (at : ℕ) (x rest : List ℕ) → Rests bytes at (in_fours x ++ rest) → Rests bytes (behind at x) rest
fours_past bytes at x rest r = past bytes at (behind at x) (in_fours x) rest r (ap (λ n. at + n) (fours_size x))

-- where the streams stand and what stands behind them
record AreThere (bytes : List ℕ) (at : ℕ) (stream : List ℕ) (h : Counted) (last : List ℕ) : Type 0 where
  pub tables : part bytes (spans_from at stream h).tables ≡ stream
  pub strings : part bytes (spans_from at stream h).strings ≡ h.strings
  pub users : part bytes (spans_from at stream h).users ≡ h.users
  pub guids : part bytes (spans_from at stream h).guids ≡ h.guids
  pub blobs : part bytes (spans_from at stream h).blobs ≡ h.blobs
  pub rest : Rests bytes (size_from at stream h) last

are_there : (bytes : List ℕ) (at : ℕ) (stream : List ℕ) (h : Counted) (last : List ℕ) → Rests bytes at (tail stream h last) → AreThere bytes at stream h last
are_there bytes at stream h last r0 =
    let r1 = fours_past bytes at stream _ r0 in
    let r2 = fours_past bytes _ h.strings _ r1 in
    let r3 = fours_past bytes _ h.users _ r2 in
    let r4 = fours_past bytes _ h.guids (in_fours h.blobs ++ last) r3 in
    record {
      tables = fours_part bytes at stream _ r0;
      strings = fours_part bytes _ h.strings _ r1;
      users = fours_part bytes _ h.users _ r2;
      guids = fours_part bytes _ h.guids _ r3;
      blobs = fours_part bytes _ h.blobs last r4;
      rest = fours_past bytes _ h.blobs last r4;
    }

counted_again : (bytes : List ℕ) (jtd u : Bool) (at : ℕ) (stream : List ℕ) (h : Counted) (last : List ℕ) (pdb : Option Span) → AreThere bytes at stream h last
    → heaps_of bytes (root_for jtd u (spans_from at stream h) pdb) ≡ that_count h
unfolding heaps_of
counted_again bytes jtd u at stream h last pdb is = rw (is.strings, is.users, is.guids, is.blobs) refl

holds : (bytes : List ℕ) (jtd u : Bool) (at : ℕ) (stream : List ℕ) (h : Counted) (last : List ℕ) (pdb : Option Span) → AreThere bytes at stream h last
    → HoldsStreams bytes jtd u stream (that_count h) (root_for jtd u (spans_from at stream h) pdb)
holds bytes jtd u at stream h last pdb is = record { tables = is.tables; form = refl; wide = refl; heaps = counted_again bytes jtd u at stream h last pdb is }

-- heaps of which every byte counts
all_count : (h : Counted) → counted_strings h.strings ≡ h.strings → that_count h ≡ h
all_count h counts = ap (λ (xs : List ℕ). record { strings = xs; users = h.users; blobs = h.blobs; guids = h.guids }) counts

-- the headers of the five and what stands behind them, one part behind the other
apart : (a b c d e t : List ℕ) → ((((a ++ b) ++ c) ++ d) ++ e) ++ t ≡ a ++ (b ++ (c ++ (d ++ (e ++ t))))
apart a b c d e t =
    append_assoc (((a ++ b) ++ c) ++ d) e t
    ∙ append_assoc ((a ++ b) ++ c) d (e ++ t)
    ∙ append_assoc (a ++ b) c (d ++ (e ++ t))
    ∙ append_assoc a b (c ++ (d ++ (e ++ t)))

headers_apart : (at : ℕ) (u : Bool) (stream : List ℕ) (h : Counted) (rest : List ℕ) → five_headers_written at u stream h ++ rest ≡ headers_there u (spans_from at stream h) rest
unfolding five_headers_written
headers_apart at u stream h rest =
    let s = spans_from at stream h in
    apart (header_of (table_name u) s.tables) (header_of (codes "#Strings") s.strings) (header_of (codes "#US") s.users) (header_of (codes "#GUID") s.guids) (header_of (codes "#Blob") s.blobs) rest

streams_apart : (stream : List ℕ) (h : Counted) (last : List ℕ) → five_written stream h ++ last ≡ tail stream h last
unfolding five_written
streams_apart stream h last = apart (in_fours stream) (in_fours h.strings) (in_fours h.users) (in_fours h.guids) (in_fours h.blobs) last

parts : (a b c d e : List ℕ) → (((a ++ b) ++ c) ++ d) ++ e ≡ a ++ (b ++ (c ++ (d ++ e)))
parts a b c d e = append_assoc ((a ++ b) ++ c) d e ∙ append_assoc (a ++ b) c (d ++ e) ∙ append_assoc a b (c ++ (d ++ e))

-- a root with its headers and its streams one behind the other
root_apart : (more : List Further) (u : Bool) (stream : List ℕ) (h : Counted)
    → root_with_further more u stream h
    ≡ front_written (5 + length more) ++ headers_there u (spans_from (streams_begin more) stream h) (further_headers_written (five_end (streams_begin more) stream h) more ++ tail stream h (further_written more))
unfolding root_with_further
root_apart more u stream h =
    let begin = streams_begin more in
    let front = front_written (5 + length more) in
    let heads = further_headers_written (five_end begin stream h) more in
    parts front (five_headers_written begin u stream h) heads (five_written stream h) (further_written more)
    ∙ ap (λ xs. front ++ (five_headers_written begin u stream h ++ (heads ++ xs))) (streams_apart stream h (further_written more))
    ∙ ap (λ xs. front ++ xs) (headers_apart begin u stream h (heads ++ tail stream h (further_written more)))

behind_front : (bytes : List ℕ) (count : ℕ) (rest : List ℕ) → bytes ≡ front_written count ++ rest → Rests bytes 32 rest
behind_front bytes count rest e = past bytes 0 32 (front_written count) rest (as_split bytes 0 _ _ (at_begin bytes) e) (ap (λ n. 0 + n) (front_size count))

version_of : (bytes : List ℕ) (count : ℕ) (rest : List ℕ) → bytes ≡ front_written count ++ rest → version_len bytes ≡ Some 12
version_of bytes count rest e = ap version_len e ∙ front_version count rest

-- the five streams alone
five_read : (bytes : List ℕ) (u : Bool) (stream : List ℕ) (h : Counted) → bytes ≡ front_written 5 ++ headers_there u (spans_from 108 stream h) (tail stream h []) → size_from 108 stream h < 2 ^ 32
    → (root : Root) × (root_of bytes ≡ Ok root) × HoldsStreams bytes false u stream (that_count h) root
five_read bytes u stream h e small =
    let s = spans_from 108 stream h in
    let size = size_from 108 stream h in
    let there = five_there bytes u s size (tail stream h []) (ends 108 stream h) small (behind_front bytes 5 _ e) in
    let is = are_there bytes 108 stream h [] there.1 in
    let whole : length bytes ≡ size = omega (arith, rest_size bytes size [] is.rest) in
    let listed = streams_are bytes 5 108 (five u s) (version_of bytes 5 _ e) (rw e (front_five _)) there.0 in
    let read = root_is bytes (five u s) listed (rw whole (five_good size u s (ends 108 stream h))) in
    (root_for false u s None, read ∙ ap (λ (r : Root). Ok r) (five_root u s), holds bytes false u 108 stream h [] None is)

-- where the further stream stands
abbrev further_span : List ℕ → Counted → List ℕ → Span
further_span stream h x = record { start = size_from 124 stream h; len = length x }

-- a root of six: what its headers say, where its streams stand, and that none is refused
record AreSix (bytes : List ℕ) (u : Bool) (stream : List ℕ) (h : Counted) (name x : List ℕ) : Type 0 where
  pub read : root_of bytes ≡ Ok (root_with (six u (spans_from 124 stream h) name (further_span stream h x)))
  pub there : AreThere bytes 124 stream h (in_fours x ++ [])
  pub last : part bytes (further_span stream h x) ≡ x

six_read : (bytes : List ℕ) (u : Bool) (stream : List ℕ) (h : Counted) (name x : List ℕ) → IsName name 8 → IsBeside name
    → bytes ≡ front_written 6 ++ headers_there u (spans_from 124 stream h) (header_of name (further_span stream h x) ++ tail stream h (in_fours x ++ []))
    → size_from 124 stream h + padded (length x) < 2 ^ 32 → AreSix bytes u stream h name x
six_read bytes u stream h name x is beside e small =
    let s = spans_from 124 stream h in
    let span = further_span stream h x in
    let five_size = size_from 124 stream h in
    let size = five_size + padded (length x) in
    let fit = wider five_size size s (omega arith) (ends 124 stream h) in
    let le : span.start + span.len ≤ size = omega (arith, no_less (length x)) in
    let r = six_there bytes u s size name span (tail stream h (in_fours x ++ [])) is fit small le (behind_front bytes 6 _ e) in
    let streams = are_there bytes 124 stream h (in_fours x ++ []) r.1 in
    let whole : length bytes ≡ size = omega (arith, rest_size bytes size [] (fours_past bytes five_size x [] streams.rest)) in
    let listed = streams_are bytes 6 124 (six u s name span) (version_of bytes 6 _ e) (rw e (front_six _)) r.0 in
    record {
      read = root_is bytes (six u s name span) listed (rw whole (six_good size u s name span beside fit le));
      there = streams;
      last = fours_part bytes five_size x [] streams.rest;
    }

six_of : (u : Bool) (stream : List ℕ) (h : Counted) (name x : List ℕ) → padded (length name + 1) ≡ 8
    → root_with_further (record { name = name; bytes = x } ∷ []) u stream h
    ≡ front_written 6 ++ headers_there u (spans_from 124 stream h) (header_of name (further_span stream h x) ++ tail stream h (in_fours x ++ []))
six_of u stream h name x eight =
    let f : Further = record { name = name; bytes = x } in
    let begin : streams_begin (f ∷ []) ≡ 124 = omega (arith, eight) in
    root_apart (f ∷ []) u stream h
    ∙ ap (λ (n : ℕ). front_written 6 ++ headers_there u (spans_from n stream h) (further_headers_written (five_end n stream h) (f ∷ []) ++ tail stream h (further_written (f ∷ [])))) begin
    ∙ ap (λ xs. front_written 6 ++ headers_there u (spans_from 124 stream h) (xs ++ tail stream h (in_fours x ++ []))) (append-nil (header_of name (further_span stream h x)))

jtd_read : (u : Bool) (stream : List ℕ) (h : Counted) → root_size true stream h < 2 ^ 32
    → (root : Root) × (root_of (root_written true u stream h) ≡ Ok root) × HoldsStreams (root_written true u stream h) true u stream (that_count h) root
unfolding root_written padded
jtd_read u stream h small =
    let bytes = root_with_further (jtd_streams true) u stream h in
    let are = six_read bytes u stream h (codes "#JTD") [] jtd_name jtd_beside (six_of u stream h (codes "#JTD") [] refl) small in
    (root_for true u (spans_from 124 stream h) None, are.read ∙ ap (λ (r : Root). Ok r) (jtd_root u (spans_from 124 stream h) (further_span stream h [])), holds bytes true u 124 stream h _ None are.there)

five_alone : (u : Bool) (stream : List ℕ) (h : Counted) → root_size false stream h < 2 ^ 32
    → (root : Root) × (root_of (root_written false u stream h) ≡ Ok root) × HoldsStreams (root_written false u stream h) false u stream (that_count h) root
unfolding root_written
five_alone u stream h small = five_read (root_with_further [] u stream h) u stream h (root_apart [] u stream h) small

-- the root of a module or of a delta, whatever its texts end with
pub counted_root_is_read : CountedRootIsRead
counted_root_is_read true u stream h small = jtd_read u stream h small
counted_root_is_read false u stream h small = five_alone u stream h small

-- and where every byte of its texts counts
pub root_is_read : RootIsRead
root_is_read jtd u stream h small counts =
    let r = counted_root_is_read jtd u stream h small in
    (r.0, r.1, subst (λ (x : Counted). HoldsStreams (root_written jtd u stream h) jtd u stream x r.0) (all_count h counts) r.2)

-- and that of a PDB
pub pdb_root_is_read : PdbRootIsRead
unfolding pdb_root_written padded
pdb_root_is_read pdb u stream h small counts =
    let bytes = root_with_further (pdb_streams pdb) u stream h in
    let s = spans_from 124 stream h in
    let span = further_span stream h pdb in
    let are = six_read bytes u stream h (codes "#Pdb") pdb pdb_name pdb_beside (six_of u stream h (codes "#Pdb") pdb refl) small in (
      root_for false u s (Some span),
      are.read ∙ ap (λ (r : Root). Ok r) (pdb_root u s span),
      subst (λ (x : Counted). HoldsStreams bytes false u stream x (root_for false u s (Some span))) (all_count h counts) (holds bytes false u 124 stream h _ (Some span) are.there),
      (span, refl, are.last),
    )
