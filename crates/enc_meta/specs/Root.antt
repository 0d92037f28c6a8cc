-- The metadata root: its header, its streams, and the first thing that is wrong with them (ECMA-335 II.24.2.1,
-- II.24.2.2).
use Rattle.std.specs.Prelude.{◌≤◌, IfSome, ℕ, zero, suc, ◌+◌, ◌%◌, Bool, true, false, ◌&&◌, ◌||◌, List, [], ◌∷◌, ◌++◌, length, take, drop, Option, Some, None, option_map, option_and_then, unwrap_or, Result, Ok, Err, nat_lt, nat_le, ◌==◌, if◌then◌else◌, codes, find, slice_get, bytes_eq}
use Rattle.std.specs.List.{list_any}
use Rattle.std.specs.Int.{w16, w32}
use Rattle.enc_base.specs.Numbers.{little_endian_at, padded}
use Rattle.enc_base.specs.Order.{or_else, first_below}
use Rattle.enc_base.specs.declared.refusal.Refusal.{Refusal}
use Rattle.enc_base.specs.declared.refusal.StreamName.{StreamName}
use Rattle.enc_base.specs.declared.refusal.StreamName.TheVariants as name
use Rattle.enc_base.specs.declared.refusal.Code.TheVariants.{F}
use Rattle.enc_base.specs.declared.refusal.Place.TheVariants as place
use Rattle.enc_meta.specs.declared.root.Root.{Root}
use Rattle.enc_meta.specs.declared.span.Span.{Span}

infixl 10 ◌>>=◌
abbrev pub ◌>>=◌ : {A B : Type 0} → Option A → (A → Option B) → Option B
o >>= f = option_and_then f o

-- a stream's header: its name without the zero at its end, and where the stream stands in the root
pub record Header : Type 0 where
  pub name : List ℕ
  pub span : Span

-- the bytes before the first zero, where there is one
abbrev pub before_zero : List ℕ → Option (List ℕ)
before_zero [] = None
before_zero (b ∷ rest) = if b == 0 then Some [] else option_map (λ t. b ∷ t) (before_zero rest)

-- the name at a place: at most 32 bytes with its zero, and the zeros up to a multiple of 4 stand in the root too;
-- and the place behind it
unfoldable pub name_at : List ℕ → ℕ → Option (List ℕ × ℕ)
name_at bytes at = do
  text ← before_zero (take 32 (drop at bytes))
  if nat_le (at + padded (length text + 1)) (length bytes) then Some (text, at + padded (length text + 1)) else None

-- the header at a place, and the place behind it (II.24.2.2)
unfoldable pub header_at : List ℕ → ℕ → Option (Header × ℕ)
header_at bytes at = do
  start ← little_endian_at w32 bytes at
  size ← little_endian_at w32 bytes (at + 4)
  text ← name_at bytes (at + 8)
  Some (record { name = text.0; span = record { start = start; len = size } }, text.1)

-- so many headers one behind the other from a place, and the place behind them
unfoldable pub headers : List ℕ → ℕ → ℕ → Option (List Header × ℕ)
headers bytes at zero = Some ([], at)
headers bytes at (suc n) = do
  before ← headers bytes at n
  next ← header_at bytes before.1
  Some (before.0 ++ next.0 ∷ [], next.1)

-- the root's header is good, and its version has this many bytes: the magic, a zero, a multiple of 4 (II.24.2.1)
unfoldable pub version_len : List ℕ → Option ℕ
version_len bytes = do
  magic ← little_endian_at w32 bytes 0
  reserved ← little_endian_at w32 bytes 8
  len ← little_endian_at w32 bytes 12
  if magic == 0x424A5342 && reserved == 0 && len % 4 == 0 then Some len else None

-- the headers of all streams, where the root's header is good and they all stand in it
unfoldable pub streams : List ℕ → Option (List Header)
streams bytes = do
  len ← version_len bytes
  count ← little_endian_at w16 bytes (18 + len)
  option_map (λ (x : List Header × ℕ). x.0) (headers bytes (20 + len) count)

-- the headers that were read, none where they don't all stand there
abbrev pub headers_found : Option (List Header × ℕ) → List Header
headers_found None = []
headers_found (Some x) = x.0

-- the streams with a meaning; any other name is passed over
unfoldable pub known : List ℕ → Option StreamName
known text =
    if bytes_eq text (codes "#~") then Some name.Compressed
    else if bytes_eq text (codes "#-") then Some name.Uncompressed
    else if bytes_eq text (codes "#Strings") then Some name.Strings
    else if bytes_eq text (codes "#US") then Some name.Users
    else if bytes_eq text (codes "#Blob") then Some name.Blobs
    else if bytes_eq text (codes "#GUID") then Some name.Guids
    else if bytes_eq text (codes "#Pdb") then Some name.Pdb
    else if bytes_eq text (codes "#JTD") then Some name.Jtd
    else None

-- a stream of this name is among them
unfoldable pub has_stream : List ℕ → List Header → Bool
has_stream text all = list_any (λ (h : Header). bytes_eq h.name text) all

-- behind these headers, the header has a known name that stands among them already, or a known name and a range
-- outside the root
unfoldable pub fault_of : ℕ → List Header → Header → Option StreamName
fault_of size before h = do
  which ← known h.name
  if has_stream h.name before || nat_lt size (h.span.start + h.span.len) then Some which else None

-- what is wrong with header k
unfoldable pub fault_at : ℕ → List Header → ℕ → Option StreamName
fault_at size all k = option_and_then (fault_of size (take k all)) (slice_get all k)

-- exactly one of `#~` and `#-` is there
unfoldable pub has_one_table_stream : List Header → Bool
has_one_table_stream all = if has_stream (codes "#~") all then (if has_stream (codes "#-") all then false else true)
    else has_stream (codes "#-") all

-- the first stream that is refused, in the order of the headers, and then as `#~` the table stream
unfoldable pub stream_fault : ℕ → List Header → Option StreamName
stream_fault size all = or_else (first_below (fault_at size all) (length all)) (if has_one_table_stream all then None
    else Some name.Compressed)

-- where the stream of this name stands, nowhere where there is none
unfoldable pub span_of : List ℕ → List Header → Option Span
span_of text all = option_map (λ (h : Header). h.span) (find (λ (h : Header). bytes_eq h.name text) all)

abbrev pub nowhere : Span
nowhere = record { start = 0; len = 0 }

-- the root with these streams
unfoldable pub root_with : List Header → Root
root_with all = record {
  tables = unwrap_or (or_else (span_of (codes "#~") all) (span_of (codes "#-") all)) nowhere;
  uncompressed = has_stream (codes "#-") all;
  jtd = has_stream (codes "#JTD") all;
  strings = unwrap_or (span_of (codes "#Strings") all) nowhere;
  users = unwrap_or (span_of (codes "#US") all) nowhere;
  blobs = unwrap_or (span_of (codes "#Blob") all) nowhere;
  guids = unwrap_or (span_of (codes "#GUID") all) nowhere;
  pdb = span_of (codes "#Pdb") all;
}

-- the span stands in the bytes
abbrev pub IsSpanOf : List ℕ → Span → Type 0
IsSpanOf bytes s = s.start + s.len ≤ length bytes

-- every stream of the root stands in the bytes
pub record AreWithin (bytes : List ℕ) (root : Root) : Type 0 where
  pub tables : IsSpanOf bytes root.tables
  pub strings : IsSpanOf bytes root.strings
  pub users : IsSpanOf bytes root.users
  pub blobs : IsSpanOf bytes root.blobs
  pub guids : IsSpanOf bytes root.guids
  pub pdb : IfSome root.pdb (IsSpanOf bytes)

-- the root of good streams, or F2 at the first stream that is refused
unfoldable pub root_or_fault : List Header → Option StreamName → Result Root Refusal
root_or_fault all None = Ok (root_with all)
root_or_fault all (Some which) = Err (record { code = F 2; place = place.Stream which })

-- the root, or F1 where the header and the streams' headers don't fit the bytes, or F2
unfoldable pub root_in : List ℕ → Option (List Header) → Result Root Refusal
root_in bytes None = Err (record { code = F 1; place = place.Root })
root_in bytes (Some all) = root_or_fault all (stream_fault (length bytes) all)

unfoldable pub root_of : List ℕ → Result Root Refusal
root_of bytes = root_in bytes (streams bytes)
