-- The headers of an image that was written are read back.
use Rattle.std.proofs.Common.{◌≡◌, ℕ, ◌+◌, ◌-◌, ◌^◌, ◌<◌, ◌≤◌, true, false, List, [], ◌∷◌, ◌++◌, length, drop, Some, refl, sym, ap, ◌∙◌, arith}
use Rattle.std.specs.Prelude.{nat_le, min}
use Rattle.std.specs.Int.{w16, w32, w64, from_le_bytes}
use Rattle.std.proofs.lemmas.Nat.{from_le_bytes-to_le_bytes_4}
use Rattle.std.proofs.lemmas.List.{append_assoc, length-append}
use Rattle.enc_base.specs.Numbers.{little_endian_at}
use Rattle.enc_meta.specs.declared.span.Span.{Span}
use Rattle.enc_pe.specs.declared.directory.Directory.{Directory}
use Rattle.enc_pe.specs.declared.headers.Headers.{Headers}
use Rattle.enc_pe.specs.declared.section.Section.{Section}
use Rattle.enc_pe.specs.Sections.{whole_at, inside, section_with, section_at, sections_from, sections_of}
use Rattle.enc_pe.specs.Headers.{coff_place, directory_at, directories_for, directories_in, optional_at, section_headers, headers_of, cli_in}
use Rattle.enc_pe.specs.Container.{is_bare}
use Rattle.enc_pe.specs.Written.{code_rva, cli_header, dos_header, coff_header, standard_fields, nt_fields, directories, optional_header, section_header}
use Rattle.enc_pe.proofs.Numbers.{not_more, half_in_front, word_in_front, whole_between}
use Rattle.enc_pe.proofs.HeadersWritten.{length_front, length_optional, length_section_header}

abbrev pub front : List ℕ
front = dos_header ++ coff_header

-- what the DOS and COFF headers say
magic_is : from_le_bytes w16 (drop 0 front) ≡ 0x5A4D
unfolding dos_header coff_header
magic_is = refl

place_is : from_le_bytes w32 (drop 0x3C front) ≡ 0x80
unfolding dos_header coff_header
place_is = refl

signature_is : from_le_bytes w32 (drop 0x80 front) ≡ 0x4550
unfolding dos_header coff_header
signature_is = refl

count_is : from_le_bytes w16 (drop 0x86 front) ≡ 1
unfolding dos_header coff_header
count_is = refl

size_is : from_le_bytes w16 (drop 0x94 front) ≡ 224
unfolding dos_header coff_header
size_is = refl

within_front : (n : ℕ) → n ≤ 152 → n ≤ length front
within_front n h = rw length_front h

pub not_bare : (rest : List ℕ) → is_bare (front ++ rest) ≡ false
unfolding dos_header coff_header
not_bare rest = refl

coff_read : (rest : List ℕ) → coff_place (front ++ rest) ≡ Some 0x84
unfolding coff_place
coff_read rest = rw (half_in_front front rest 0 0x5A4D (within_front 2 (omega arith)) magic_is, word_in_front front rest 0x3C 0x80 (within_front 0x40 (omega arith)) place_is, word_in_front front rest 0x80 0x4550 (within_front 0x84 (omega arith)) signature_is) refl

optional_read : (optional rest : List ℕ) → length optional ≡ 224 → optional_at (front ++ (optional ++ rest)) 0x84 ≡ Some optional
unfolding optional_at
optional_read optional rest long = rw (half_in_front front (optional ++ rest) 0x94 224 (within_front 0x96 (omega arith)) size_is) (whole_between front optional rest 152 224 length_front long)

-- where the section's header stands
abbrev pub header_span : Span
header_span = record { start = 376; len = 40 }

headers_read : (optional header rest : List ℕ) → length optional ≡ 224 → length header ≡ 40 → section_headers (front ++ (optional ++ (header ++ rest))) 0x84 ≡ Some header_span
unfolding section_headers
headers_read optional header rest long many =
    let all = optional ++ (header ++ rest) in
    let l1 = length-append front all in
    let l2 = length-append optional (header ++ rest) in
    let l3 = length-append header rest in
    let within : nat_le 416 (length (front ++ all)) ≡ true = not_more 416 (length (front ++ all)) (omega (arith, l1, l2, l3, long, many, length_front)) in
    rw (half_in_front front all 0x86 1 (within_front 0x88 (omega arith)) count_is, half_in_front front all 0x94 224 (within_front 0x96 (omega arith)) size_is, within) refl

-- what the optional header says
pe32_is : (size raw cli : ℕ) → little_endian_at w16 (optional_header size raw cli) 0 ≡ Some 0x10B
unfolding standard_fields nt_fields directories
pe32_is size raw cli = refl

sixteen_is : (size raw cli : ℕ) → little_endian_at w32 (optional_header size raw cli) 92 ≡ Some 16
unfolding standard_fields nt_fields directories
sixteen_is size raw cli = refl

debug_is : (size raw cli : ℕ) → directory_at (optional_header size raw cli) 144 ≡ Some (record { rva = 0; size = 0 })
unfolding standard_fields nt_fields directories directory_at
debug_is size raw cli = refl

cli_rva_is : (size raw cli : ℕ) → code_rva + cli < 2 ^ 32 → little_endian_at w32 (optional_header size raw cli) 208 ≡ Some (code_rva + cli)
unfolding standard_fields nt_fields directories
cli_rva_is size raw cli few = ap (λ n. Some n) (from_le_bytes-to_le_bytes_4 (code_rva + cli) few)

cli_size_is : (size raw cli : ℕ) → little_endian_at w32 (optional_header size raw cli) 212 ≡ Some 72
unfolding standard_fields nt_fields directories
cli_size_is size raw cli = refl

directories_read : (size raw cli : ℕ) → directories_in (optional_header size raw cli) ≡ Some 96
unfolding directories_in directories_for
directories_read size raw cli = rw (pe32_is size raw cli, sixteen_is size raw cli) refl

cli_is : (size raw cli : ℕ) → code_rva + cli < 2 ^ 32 → directory_at (optional_header size raw cli) 208 ≡ Some (record { rva = code_rva + cli; size = 72 })
unfolding directory_at
cli_is size raw cli few = rw (cli_rva_is size raw cli few, cli_size_is size raw cli) refl

-- all headers
abbrev pub headers_for : ℕ → Headers
headers_for cli = record { debug = record { rva = 0; size = 0 }; cli = record { rva = code_rva + cli; size = 72 }; sections = header_span }

all_from : (bytes optional : List ℕ) (debug cli : Directory) (rows : Span) → coff_place bytes ≡ Some 0x84 → optional_at bytes 0x84 ≡ Some optional → directories_in optional ≡ Some 96 → directory_at optional 144 ≡ Some debug → directory_at optional 208 ≡ Some cli → section_headers bytes 0x84 ≡ Some rows → headers_of bytes ≡ Some (record { debug = debug; cli = cli; sections = rows })
unfolding headers_of
all_from bytes optional debug cli rows h0 h1 h2 h3 h4 h5 = rw (h0, h1, h2, h3, h4, h5) refl

pub all_read : (size raw cli : ℕ) (rest : List ℕ) → code_rva + cli < 2 ^ 32 → headers_of (front ++ (optional_header size raw cli ++ (section_header size raw ++ rest))) ≡ Some (headers_for cli)
all_read size raw cli rest few =
    let optional = optional_header size raw cli in
    let header = section_header size raw in
    let l1 = length_optional size raw cli in
    let l2 = length_section_header size raw in
    all_from (front ++ (optional ++ (header ++ rest))) optional (record { rva = 0; size = 0 }) (record { rva = code_rva + cli; size = 72 }) header_span (coff_read (optional ++ (header ++ rest))) (optional_read optional (header ++ rest) l1) (directories_read size raw cli) (debug_is size raw cli) (cli_is size raw cli few) (headers_read optional header rest l1 l2)

-- the section by its header
rva_is : (size raw : ℕ) → little_endian_at w32 (section_header size raw) 12 ≡ Some code_rva
unfolding section_header
rva_is size raw = refl

raw_is : (size raw : ℕ) → raw < 2 ^ 32 → little_endian_at w32 (section_header size raw) 16 ≡ Some raw
unfolding section_header
raw_is size raw few = ap (λ n. Some n) (from_le_bytes-to_le_bytes_4 raw few)

start_is : (size raw : ℕ) → little_endian_at w32 (section_header size raw) 20 ≡ Some 512
unfolding section_header
start_is size raw = refl

abbrev pub section_for : ℕ → Section
section_for raw = record { rva = code_rva; raw = record { start = 512; len = raw } }

inside_is : (raw : ℕ) → inside (512 + raw) (record { start = 512; len = raw }) ≡ record { start = 512; len = raw }
unfolding inside
inside_is raw =
    let a : min 512 (512 + raw) ≡ 512 = omega arith in
    let b : min raw (512 + raw - 512) ≡ raw = omega arith in
    rw (a, b) refl

with_is : (size raw all : ℕ) → raw < 2 ^ 32 → all ≡ 512 + raw → section_with all (section_header size raw) ≡ Some (section_for raw)
unfolding section_with
with_is size raw all few is = rw (is, rva_is size raw, raw_is size raw few, start_is size raw, inside_is raw) refl

section_there : (size raw cli : ℕ) (rest : List ℕ) → raw < 2 ^ 32 → length (front ++ (optional_header size raw cli ++ (section_header size raw ++ rest))) ≡ 512 + raw → section_at (front ++ (optional_header size raw cli ++ (section_header size raw ++ rest))) 376 ≡ Some (section_for raw)
unfolding section_at
section_there size raw cli rest few is =
    let optional = optional_header size raw cli in
    let header = section_header size raw in
    let bytes = front ++ (optional ++ (header ++ rest)) in
    let e : bytes ≡ (front ++ optional) ++ (header ++ rest) = sym (append_assoc front optional (header ++ rest)) in
    let l : length (front ++ optional) ≡ 376 = omega (arith, length-append front optional, length_front, length_optional size raw cli) in
    let there : whole_at bytes 376 40 ≡ Some header = ap (λ b. whole_at b 376 40) e ∙ whole_between (front ++ optional) header rest 376 40 l (length_section_header size raw) in
    rw there (with_is size raw (length bytes) few is)

pub sections_read : (size raw cli : ℕ) (rest : List ℕ) → raw < 2 ^ 32 → length (front ++ (optional_header size raw cli ++ (section_header size raw ++ rest))) ≡ 512 + raw → sections_of (front ++ (optional_header size raw cli ++ (section_header size raw ++ rest))) header_span ≡ section_for raw ∷ []
unfolding sections_from
sections_read size raw cli rest few is = rw (section_there size raw cli rest few is) refl

-- the CLI header
cli_from : (bytes : List ℕ) (metadata many start kept few : ℕ) → little_endian_at w32 bytes 8 ≡ Some metadata → little_endian_at w32 bytes 12 ≡ Some many → little_endian_at w32 bytes 16 ≡ Some 1 → little_endian_at w32 bytes 20 ≡ Some start → little_endian_at w32 bytes 24 ≡ Some kept → little_endian_at w32 bytes 28 ≡ Some few → little_endian_at w64 bytes 64 ≡ Some 0 → cli_in bytes ≡ Some (record { metadata = record { rva = metadata; size = many }; entry = start; resources = record { rva = kept; size = few } })
unfolding cli_in directory_at
cli_from bytes metadata many start kept few h0 h1 h2 h3 h4 h5 h6 = rw (h0, h1, h2, h3, h4, h5, h6) refl

pub cli_read : (metadata many entry kept few : ℕ) → metadata < 2 ^ 32 → many < 2 ^ 32 → entry < 2 ^ 32 → kept < 2 ^ 32 → few < 2 ^ 32 → cli_in (cli_header metadata many entry kept few) ≡ Some (record { metadata = record { rva = metadata; size = many }; entry = entry; resources = record { rva = kept; size = few } })
unfolding cli_header
cli_read metadata many entry kept few h0 h1 h2 h3 h4 =
    let some = λ (n : ℕ) (h : n < 2 ^ 32). ap (λ m. Some m) (from_le_bytes-to_le_bytes_4 n h) in
    cli_from (cli_header metadata many entry kept few) metadata many entry kept few (some metadata h0) (some many h1) refl (some entry h2) (some kept h3) (some few h4) refl
