-- The headers of the five streams, and of a further one behind them, are read where they were written.
use Rattle.std.proofs.Common.{◌≡◌, ℕ, suc, ◌+◌, ◌^◌, ◌<◌, ◌≤◌, Bool, false, List, [], ◌∷◌, ◌++◌, ◌||◌, length, Some, None, Ok, refl, arith}
use Rattle.std.specs.Prelude.{Option, codes, nat_lt, option_and_then, if◌then◌else◌}
use Rattle.std.specs.Int.{w16}
use Rattle.std.proofs.lemmas.Bool.Decides.{nat_tests}
use Rattle.enc_base.specs.Numbers.{little_endian_at}
use Rattle.enc_base.specs.Order.{first_below}
use Rattle.enc_base.specs.declared.refusal.StreamName.{StreamName}
use Rattle.enc_meta.specs.Root.{Header, headers, streams, version_len, known, has_stream, fault_of, stream_fault, root_with, root_or_fault, root_in, root_of}
use Rattle.enc_meta.specs.declared.span.Span.{Span}
use Rattle.enc_emit.specs.Written.{stream_header_written, table_name}
use Rattle.enc_emit.proofs.Rests.{Rests, IsName, header_here, header_past, one_more, none_yet}
use Rattle.enc_emit.proofs.Names.{tables_name, strings_name, users_name, guids_name, blobs_name}

-- where the five streams stand
pub record Spans : Type 0 where
  pub tables : Span
  pub strings : Span
  pub users : Span
  pub guids : Span
  pub blobs : Span

-- they end before this place
pub record Ends (size : ℕ) (s : Spans) : Type 0 where
  pub tables : s.tables.start + s.tables.len ≤ size
  pub strings : s.strings.start + s.strings.len ≤ size
  pub users : s.users.start + s.users.len ≤ size
  pub guids : s.guids.start + s.guids.len ≤ size
  pub blobs : s.blobs.start + s.blobs.len ≤ size

abbrev pub header : List ℕ → Span → Header
header name span = record { name = name; span = span }

abbrev pub five : Bool → Spans → List Header
five u s = header (table_name u) s.tables ∷ header (codes "#Strings") s.strings ∷ header (codes "#US") s.users ∷ header (codes "#GUID") s.guids ∷ header (codes "#Blob") s.blobs ∷ []

abbrev pub six : Bool → Spans → List ℕ → Span → List Header
six u s name span = header (table_name u) s.tables ∷ header (codes "#Strings") s.strings ∷ header (codes "#US") s.users ∷ header (codes "#GUID") s.guids ∷ header (codes "#Blob") s.blobs ∷ header name span ∷ []

abbrev pub header_of : List ℕ → Span → List ℕ
header_of name span = stream_header_written name span.start span.len

abbrev pub headers_there : Bool → Spans → List ℕ → List ℕ
headers_there u s rest = header_of (table_name u) s.tables ++ (header_of (codes "#Strings") s.strings ++ (header_of (codes "#US") s.users ++ (header_of (codes "#GUID") s.guids ++ (header_of (codes "#Blob") s.blobs ++ rest))))

pub five_there : (bytes : List ℕ) (u : Bool) (s : Spans) (size : ℕ) (rest : List ℕ) → Ends size s → size < 2 ^ 32 → Rests bytes 32 (headers_there u s rest) → (headers bytes 32 5 ≡ Some (five u s, 108)) × Rests bytes 108 rest
five_there bytes u s size rest fit small r0 =
    let r1 = header_past bytes 32 44 (table_name u) 4 s.tables.start s.tables.len _ (tables_name u) r0 refl in
    let r2 = header_past bytes 44 64 (codes "#Strings") 12 s.strings.start s.strings.len _ strings_name r1 refl in
    let r3 = header_past bytes 64 76 (codes "#US") 4 s.users.start s.users.len _ users_name r2 refl in
    let r4 = header_past bytes 76 92 (codes "#GUID") 8 s.guids.start s.guids.len _ guids_name r3 refl in
    let r5 = header_past bytes 92 108 (codes "#Blob") 8 s.blobs.start s.blobs.len _ blobs_name r4 refl in
    let h0 = header_here bytes 32 44 (table_name u) 4 s.tables.start s.tables.len _ (tables_name u) (omega (arith, small, fit.tables)) (omega (arith, small, fit.tables)) r0 refl in
    let h1 = header_here bytes 44 64 (codes "#Strings") 12 s.strings.start s.strings.len _ strings_name (omega (arith, small, fit.strings)) (omega (arith, small, fit.strings)) r1 refl in
    let h2 = header_here bytes 64 76 (codes "#US") 4 s.users.start s.users.len _ users_name (omega (arith, small, fit.users)) (omega (arith, small, fit.users)) r2 refl in
    let h3 = header_here bytes 76 92 (codes "#GUID") 8 s.guids.start s.guids.len _ guids_name (omega (arith, small, fit.guids)) (omega (arith, small, fit.guids)) r3 refl in
    let h4 = header_here bytes 92 108 (codes "#Blob") 8 s.blobs.start s.blobs.len _ blobs_name (omega (arith, small, fit.blobs)) (omega (arith, small, fit.blobs)) r4 refl in
    let e1 = one_more bytes 32 0 32 44 [] _ (none_yet bytes 32) h0 in
    let e2 = one_more bytes 32 1 44 64 _ _ e1 h1 in
    let e3 = one_more bytes 32 2 64 76 _ _ e2 h2 in
    let e4 = one_more bytes 32 3 76 92 _ _ e3 h3 in
    let e5 = one_more bytes 32 4 92 108 _ _ e4 h4 in
    (e5, r5)

pub six_there : (bytes : List ℕ) (u : Bool) (s : Spans) (size : ℕ) (name : List ℕ) (span : Span) (rest : List ℕ) → IsName name 8 → Ends size s → size < 2 ^ 32 → span.start + span.len ≤ size
    → Rests bytes 32 (headers_there u s (header_of name span ++ rest)) → (headers bytes 32 6 ≡ Some (six u s name span, 124)) × Rests bytes 124 rest
six_there bytes u s size name span rest is fit small le r =
    let f = five_there bytes u s size (header_of name span ++ rest) fit small r in
    let h5 = header_here bytes 108 124 name 8 span.start span.len rest is (omega (arith, small, le)) (omega (arith, small, le)) f.1 refl in
    (one_more bytes 32 5 108 124 (five u s) _ f.0 h5, header_past bytes 108 124 name 8 span.start span.len rest is f.1 refl)

pub streams_are : (bytes : List ℕ) (count end : ℕ) (all : List Header) → version_len bytes ≡ Some 12 → little_endian_at w16 bytes 30 ≡ Some count → headers bytes 32 count ≡ Some (all, end) → streams bytes ≡ Some all
unfolding streams
streams_are bytes count end all v n e = rw (v, n, e) refl

pub root_is : (bytes : List ℕ) (all : List Header) → streams bytes ≡ Some all → stream_fault (length bytes) all ≡ None → root_of bytes ≡ Ok (root_with all)
unfolding root_of root_in root_or_fault
root_is bytes all e none = rw (e, none) refl

-- a header that isn't at fault, and so many of them
pub no_fault : (size : ℕ) (before : List Header) (h : Header) → has_stream h.name before ≡ false → h.span.start + h.span.len ≤ size → fault_of size before h ≡ None
unfolding fault_of
no_fault size before h new fits =
    let test : nat_lt size (h.span.start + h.span.len) ≡ false = grind (arith, nat_tests, fits) in
    by (known h.name) (has_stream h.name before) _ new test
  where
    by : (o : Option StreamName) (a b : Bool) → a ≡ false → b ≡ false → option_and_then (λ which. if a || b then Some which else None) o ≡ None
    by None a b x y = refl
    by (Some w) a b x y = rw (x, y) refl

pub none_more : (rule : ℕ → Option StreamName) (n : ℕ) → first_below rule n ≡ None → rule n ≡ None → first_below rule (suc n) ≡ None
unfolding first_below
none_more rule n before here = rw (before, here) refl

pub none_first : (rule : ℕ → Option StreamName) → first_below rule 0 ≡ None
unfolding first_below
none_first rule = refl
