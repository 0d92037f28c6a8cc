-- The container of a module: a .NET image, or bare metadata (ECMA-335 II.25).
use Rattle.std.specs.Prelude.{ℕ, zero, suc, ◌+◌, ◌*◌, ◌/◌, Bool, true, false, ◌||◌, List, length, Option, Some, None, option_map, ok_or, Result, Ok, Err, nat_eq, ◌==◌, if◌then◌else◌, codes}
use Rattle.std.specs.List.{starts_with}
use Rattle.std.specs.Int.{w32}
use Rattle.enc_base.specs.Numbers.{little_endian_at}
use Rattle.enc_base.specs.declared.refusal.Refusal.{Refusal}
use Rattle.enc_base.specs.declared.refusal.Code.TheVariants.{F}
use Rattle.enc_base.specs.declared.refusal.Place.{Place}
use Rattle.enc_base.specs.declared.refusal.Place.TheVariants as place
use Rattle.enc_meta.specs.Root.{IsSpanOf, nowhere}
use Rattle.enc_meta.specs.Heaps.{part}
use Rattle.enc_meta.specs.declared.span.Span.{Span}
use Rattle.enc_pe.specs.Sections.{span_at, span_from}
use Rattle.enc_pe.specs.Headers.{headers_of, cli_of}
use Rattle.enc_pe.specs.declared.directory.Directory.{Directory}
use Rattle.enc_pe.specs.declared.container.Container.{Container}

infixl 10 ◌>>=◌
abbrev pub ◌>>=◌ : {A B : Type 0} → Result A Refusal → (A → Result B Refusal) → Result B Refusal
(Ok a) >>= f = f a
(Err e) >>= f = Err e

-- the refusal by rule F of this number
abbrev pub refusal : ℕ → Place → Refusal
refusal n part_of = record { code = F n; place = part_of }

-- where the bytes of a directory stand; one of size 0 is absent and stands nowhere
unfoldable pub directory_span : List ℕ → Span → Directory → Option Span
directory_span bytes sections d = if d.size == 0 then Some nowhere else span_at bytes sections d.rva d.size

-- the type of a debug entry is 17
abbrev pub is_type_17 : Option ℕ → Bool
is_type_17 None = false
is_type_17 (Some n) = n == 17

-- debug entry k, of 28 bytes, has type 17: an embedded Portable PDB (PE/COFF "Debug Directory", Portable PDB
-- "Embedded Portable PDB Debug Directory Entry")
unfoldable pub is_embedded : List ℕ → ℕ → Bool
is_embedded entries k = is_type_17 (little_endian_at w32 entries (28 * k + 12))

-- some of the first n debug entries has type 17
unfoldable pub embeds : List ℕ → ℕ → Bool
embeds entries zero = false
embeds entries (suc n) = embeds entries n || is_embedded entries n

-- the image's container, or its first refusal
unfoldable pub image_of : List ℕ → Result Container Refusal
image_of bytes = do
  h ← ok_or (headers_of bytes) (refusal 3 place.Headers)
  cli ← ok_or (cli_of bytes h) (refusal 4 place.Cli)
  root ← ok_or (span_at bytes h.sections cli.metadata.rva cli.metadata.size) (refusal 5 place.Metadata)
  kept ← ok_or (directory_span bytes h.sections cli.resources) (refusal 5 place.Resources)
  debug ← ok_or (directory_span bytes h.sections h.debug) (refusal 5 place.Debug)
  if embeds (part bytes debug) (length (part bytes debug) / 28) then Err (refusal 9 place.Debug)
      else Ok (record { metadata = root; resources = kept; entry = cli.entry; sections = h.sections; bare = false })

-- the file begins as a metadata root (II.24.2.1)
abbrev pub is_bare : List ℕ → Bool
is_bare bytes = starts_with nat_eq bytes (codes "BSJB")

-- the container of a bare file: all of it is the metadata root
abbrev pub bare_container : ℕ → Container
bare_container size = record {
  metadata = record { start = 0; len = size };
  resources = nowhere;
  entry = 0;
  sections = nowhere;
  bare = true;
}

-- the container of a file: bare metadata isn't judged
unfoldable pub container_of : List ℕ → Result Container Refusal
container_of bytes = if is_bare bytes then Ok (bare_container (length bytes)) else image_of bytes

-- the parts of the container stand in the file
pub record AreInside (bytes : List ℕ) (c : Container) : Type 0 where
  pub metadata : IsSpanOf bytes c.metadata
  pub resources : IsSpanOf bytes c.resources
  pub sections : IsSpanOf bytes c.sections

-- the bytes of a range of RVAs, in the first section that holds it whole
unfoldable pub bytes_at_rva : List ℕ → Container → ℕ → ℕ → Option (List ℕ)
bytes_at_rva bytes c first many = option_map (part bytes) (span_at bytes c.sections first many)

-- the bytes from an RVA up to the end of the raw part of the first section that holds the byte there
unfoldable pub bytes_from_rva : List ℕ → Container → ℕ → Option (List ℕ)
bytes_from_rva bytes c first = option_map (part bytes) (span_from bytes c.sections first)
