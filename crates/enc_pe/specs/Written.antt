-- Images that are written: PE32 headers, and one section with the code, the CLI header, the managed resources and
-- the metadata (ECMA-335 II.25).
use Rattle.std.specs.Prelude.{◌≡◌, ℕ, ◌+◌, ◌-◌, ◌*◌, ◌/◌, ◌^◌, ◌≤◌, ◌<◌, Bool, true, false, List, [], ◌∷◌, ◌++◌, length, replicate, Result, Ok, Err, ◌==◌, if◌then◌else◌, codes}
use Rattle.std.specs.Int.{w16, w32, to_le_bytes}
use Rattle.enc_meta.specs.Heaps.{part}
use Rattle.enc_pe.specs.declared.container.Container.{Container}
use Rattle.enc_pe.specs.declared.write.PeFault.{PeFault}
use Rattle.enc_pe.specs.declared.write.PeFault.TheVariants.{TooLarge}
use Rattle.enc_pe.specs.Container.{container_of}
use Rattle.enc_pe.specs.Loaded.{regions_of}

-- the next multiple
abbrev pub rounded : ℕ → ℕ → ℕ
rounded unit n = (n + (unit - 1)) / unit * unit

-- bytes with zeros up to the next multiple of a unit
abbrev pub filled_to : ℕ → List ℕ → List ℕ
filled_to unit bytes = bytes ++ replicate (rounded unit (length bytes) - length bytes) 0

-- the RVA of the section and of the code, which begins it; the headers take the first 512 bytes of the file
abbrev pub code_rva : ℕ
code_rva = 8192

abbrev pub headers_size : ℕ
headers_size = 512

abbrev pub half : ℕ → List ℕ
half n = to_le_bytes w16 n

abbrev pub word : ℕ → List ℕ
word n = to_le_bytes w32 n

-- where the parts of the section begin: behind the code the CLI header of 72 bytes, then the resources, then the
-- metadata, each at a multiple of four
abbrev pub cli_place : List ℕ → ℕ
cli_place code = rounded 4 (length code)

abbrev pub resources_place : List ℕ → ℕ
resources_place code = cli_place code + 72

abbrev pub root_place : List ℕ → List ℕ → ℕ
root_place code resources = resources_place code + rounded 4 (length resources)

-- resources of no bytes are absent
abbrev pub resources_rva : List ℕ → List ℕ → ℕ
resources_rva code resources = if length resources == 0 then 0 else code_rva + resources_place code

-- a CLI header: runtime version 2.5, where the metadata is, ILONLY, the entry point, where the resources are, and no
-- other directory (II.25.3.3)
unfoldable pub cli_header : ℕ → ℕ → ℕ → ℕ → ℕ → List ℕ
cli_header metadata many entry resources few =
    word 72 ++ half 2 ++ half 5 ++ word metadata ++ word many ++ word 1 ++ word entry ++ word resources ++ word few
    ++ replicate 40 0

-- the CLI header of these parts
abbrev pub cli_written : List ℕ → List ℕ → List ℕ → ℕ → List ℕ
cli_written root code resources entry = cli_header (code_rva + root_place code resources) (length root) entry
    (resources_rva code resources) (length resources)

-- the bytes of the section
unfoldable pub section_written : List ℕ → List ℕ → List ℕ → ℕ → List ℕ
section_written root code resources entry =
    filled_to 4 code ++ cli_written root code resources entry ++ filled_to 4 resources ++ root

-- the size of the section, in the file with zeros up to a multiple of 512
abbrev pub section_size : List ℕ → List ℕ → List ℕ → ℕ
section_size root code resources = root_place code resources + length root

abbrev pub raw_size : List ℕ → List ℕ → List ℕ → ℕ
raw_size root code resources = rounded 512 (section_size root code resources)

-- the DOS header and what it tells where PE\0\0 stands (II.25.2.1)
unfoldable pub dos_header : List ℕ
dos_header = codes "MZ" ++ replicate 58 0 ++ word 0x80 ++ replicate 64 0

-- the COFF header: i386, one section, an optional header of 224 bytes, an executable image (II.25.2.2); a DLL
unfoldable pub coff_header : List ℕ
coff_header = codes "PE" ++ half 0 ++ half 0x14C ++ half 1 ++ replicate 12 0 ++ half 0xE0 ++ half 0x2102

-- the optional header of PE32: its standard fields (II.25.2.3.1)
unfoldable pub standard_fields : ℕ → List ℕ
standard_fields raw = half 0x10B ++ (8 ∷ 0 ∷ []) ++ word raw ++ replicate 12 0 ++ word code_rva ++ word 0

-- those of NT (II.25.2.3.2)
unfoldable pub nt_fields : ℕ → List ℕ
nt_fields end =
    word 0x400000 ++ word 0x2000 ++ word 0x200 ++ half 4 ++ half 0 ++ replicate 4 0 ++ half 4 ++ half 0 ++ replicate 4 0
    ++ word end ++ word headers_size ++ word 0 ++ half 3 ++ half 0x8540
    ++ word 0x100000 ++ word 0x1000 ++ word 0x100000 ++ word 0x1000 ++ word 0 ++ word 16

-- and sixteen directories, of which only that of the CLI header is there (II.25.2.3.3)
unfoldable pub directories : ℕ → List ℕ
directories cli = replicate 112 0 ++ word cli ++ word 72 ++ replicate 8 0

abbrev pub optional_header : ℕ → ℕ → ℕ → List ℕ
optional_header size raw cli =
    standard_fields raw ++ nt_fields (code_rva + rounded 0x2000 size) ++ directories (code_rva + cli)

-- the header of the one section: code that is read and run (II.25.3)
unfoldable pub section_header : ℕ → ℕ → List ℕ
section_header size raw = codes ".text" ++ replicate 3 0 ++ word size ++ word code_rva ++ word raw ++ word headers_size
    ++ replicate 12 0 ++ word 0x60000020

unfoldable pub headers_written : ℕ → ℕ → ℕ → List ℕ
headers_written size raw cli =
    filled_to headers_size (dos_header ++ coff_header ++ optional_header size raw cli ++ section_header size raw)

-- the image
unfoldable pub image_written : List ℕ → List ℕ → List ℕ → ℕ → List ℕ
image_written root code resources entry =
    headers_written (section_size root code resources) (raw_size root code resources) (cli_place code)
    ++ filled_to 512 (section_written root code resources entry)

-- how long it is
abbrev pub image_size : List ℕ → List ℕ → List ℕ → ℕ
image_size root code resources = headers_size + raw_size root code resources

-- the largest image that is written
abbrev pub most_bytes : ℕ
most_bytes = 2 ^ 31

-- the image is refused because it is too large
abbrev pub is_too_large : {A : Type 0} → Result A PeFault → Bool
is_too_large (Err TooLarge) = true
is_too_large _ = false

-- a container with these parts, and with this code at its RVA
pub record Holds (image root code kept : List ℕ) (start : ℕ) (c : Container) : Type 0 where
  pub metadata : part image c.metadata ≡ root
  pub resources : part image c.resources ≡ kept
  pub entry : c.entry ≡ start
  pub bare : c.bare ≡ false
  pub behind : List ℕ
  pub loaded : regions_of image c.sections ≡ record { address = code_rva; bytes = code ++ behind } ∷ []

-- an image that was written is read back
abbrev pub ImageIsRead : Type 0
ImageIsRead = (root code resources : List ℕ) (entry : ℕ) → image_size root code resources ≤ most_bytes → entry < 2 ^ 32
    → (c : Container)
    × (container_of (image_written root code resources entry) ≡ Ok c)
    × Holds (image_written root code resources entry) root code resources entry c
