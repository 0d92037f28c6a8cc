-- The headers of a .NET image (ECMA-335 II.25.2, II.25.3.3).
use Rattle.std.specs.Prelude.{ℕ, ◌+◌, ◌-◌, ◌*◌, ◌%◌, ◌&&◌, List, length, Option, Some, None, option_and_then, nat_le, nat_lt, ◌==◌, if◌then◌else◌}
use Rattle.std.specs.Int.{w16, w32, w64}
use Rattle.enc_base.specs.Numbers.{little_endian_at}
use Rattle.enc_meta.specs.Root.{◌>>=◌}
use Rattle.enc_meta.specs.Heaps.{part}
use Rattle.enc_meta.specs.declared.span.Span.{Span}
use Rattle.enc_pe.specs.Sections.{whole_at, span_at}
use Rattle.enc_pe.specs.declared.directory.Directory.{Directory}
use Rattle.enc_pe.specs.declared.headers.Headers.{Headers}
use Rattle.enc_pe.specs.declared.cli.CliHeader.{CliHeader}

-- where the COFF header stands: the file begins with MZ and has at 0x3C the place of PE\0\0, behind which it is
-- (II.25.2.1, II.25.2.2)
unfoldable pub coff_place : List ℕ → Option ℕ
coff_place bytes = do
  magic ← little_endian_at w16 bytes 0
  place ← little_endian_at w32 bytes 0x3C
  signature ← little_endian_at w32 bytes place
  if magic == 0x5A4D && signature == 0x4550 then Some (place + 4) else None

-- an RVA and a size (II.25.2.3.3)
unfoldable pub directory_at : List ℕ → ℕ → Option Directory
directory_at bytes at = do
  first ← little_endian_at w32 bytes at
  many ← little_endian_at w32 bytes (at + 4)
  Some (record { rva = first; size = many })

-- where the data directories begin in an optional header of this magic: PE32 (II.25.2.3.1), or PE32+ of the PE/COFF
-- specification
unfoldable pub directories_for : ℕ → Option ℕ
directories_for magic = if magic == 0x10B then Some 96 else if magic == 0x20B then Some 112 else None

-- where the data directories begin in an optional header; their count stands in front of them and is at least 15
-- (II.25.2.3.2)
unfoldable pub directories_in : List ℕ → Option ℕ
directories_in optional = do
  magic ← little_endian_at w16 optional 0
  place ← directories_for magic
  count ← little_endian_at w32 optional (place - 4)
  if nat_lt count 15 then None else Some place

-- the optional header: as many bytes behind the COFF header's twenty as that says (II.25.2.2)
unfoldable pub optional_at : List ℕ → ℕ → Option (List ℕ)
optional_at bytes coff = do
  size ← little_endian_at w16 bytes (coff + 16)
  whole_at bytes (coff + 20) size

-- where the section headers stand, 40 bytes each: behind the optional header, all in the file (II.25.3)
unfoldable pub section_headers : List ℕ → ℕ → Option Span
section_headers bytes coff = do
  count ← little_endian_at w16 bytes (coff + 2)
  size ← little_endian_at w16 bytes (coff + 16)
  if nat_le (coff + 20 + size + 40 * count) (length bytes)
      then Some (record { start = coff + 20 + size; len = 40 * count }) else None

-- the headers of an image; of the directories 6 is that of the debug entries and 14, the last of the fifteen, that
-- of the CLI header (II.25.2)
unfoldable pub headers_of : List ℕ → Option Headers
headers_of bytes = do
  coff ← coff_place bytes
  optional ← optional_at bytes coff
  place ← directories_in optional
  entries ← directory_at optional (place + 8 * 6)
  header ← directory_at optional (place + 8 * 14)
  rows ← section_headers bytes coff
  Some (record { debug = entries; cli = header; sections = rows })

-- a CLI header: flag 1, ILONLY, is set (II.25.3.3.1), and the ManagedNativeHeader is all zeros
unfoldable pub cli_in : List ℕ → Option CliHeader
cli_in header = do
  root ← directory_at header 8
  flags ← little_endian_at w32 header 16
  start ← little_endian_at w32 header 20
  kept ← directory_at header 24
  native ← little_endian_at w64 header 64
  if flags % 2 == 1 && native == 0 then Some (record { metadata = root; entry = start; resources = kept }) else None

-- the CLI header of an image: its directory says at least 72 bytes, and 72 stand in a section (II.25.3.3)
unfoldable pub cli_of : List ℕ → Headers → Option CliHeader
cli_of bytes h = if nat_lt h.cli.size 72 then None
    else option_and_then (λ s. cli_in (part bytes s)) (span_at bytes h.sections h.cli.rva 72)
