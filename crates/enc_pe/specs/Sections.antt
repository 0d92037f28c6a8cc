-- The sections of an image, and where a range of RVAs stands in the file (ECMA-335 II.25.3).
use Rattle.std.specs.Prelude.{ℕ, zero, suc, ◌+◌, ◌-◌, ◌/◌, min, Bool, ◌&&◌, List, [], ◌∷◌, length, take, drop, Option, Some, None, option_map, option_and_then, nat_le, if◌then◌else◌, find}
use Rattle.std.specs.Int.{w32}
use Rattle.enc_base.specs.Numbers.{little_endian_at}
use Rattle.enc_meta.specs.Root.{◌>>=◌}
use Rattle.enc_meta.specs.declared.span.Span.{Span}
use Rattle.enc_pe.specs.declared.section.Section.{Section}

-- so many bytes at a place, where they all stand there
unfoldable pub whole_at : List ℕ → ℕ → ℕ → Option (List ℕ)
whole_at bytes at n = if nat_le (at + n) (length bytes) then Some (take n (drop at bytes)) else None

-- what of a range stands in a file of this size
unfoldable pub inside : ℕ → Span → Span
inside size s = record { start = min s.start size; len = min s.len (size - s.start) }

-- the section with this header: the RVA of its first byte, and what of its raw part stands in a file of this size
-- (II.25.3)
unfoldable pub section_with : ℕ → List ℕ → Option Section
section_with size header = do
  first ← little_endian_at w32 header 12
  many ← little_endian_at w32 header 16
  place ← little_endian_at w32 header 20
  Some (record { rva = first; raw = inside size (record { start = place; len = many }) })

-- the section whose header of 40 bytes begins at a place
unfoldable pub section_at : List ℕ → ℕ → Option Section
section_at bytes at = option_and_then (section_with (length bytes)) (whole_at bytes at 40)

-- one section, and those behind it; where its header isn't whole there are none
abbrev pub section_and_rest : Option Section → List Section → List Section
section_and_rest None rest = []
section_and_rest (Some s) rest = s ∷ rest

-- so many sections, whose headers stand one behind the other from a place
unfoldable pub sections_from : List ℕ → ℕ → ℕ → List Section
sections_from bytes at zero = []
sections_from bytes at (suc n) = section_and_rest (section_at bytes at) (sections_from bytes (at + 40) n)

-- the sections whose headers stand in this range of the file
abbrev pub sections_of : List ℕ → Span → List Section
sections_of bytes headers = sections_from bytes headers.start (headers.len / 40)

-- the raw part holds the whole range of RVAs
unfoldable pub holds : ℕ → ℕ → Section → Bool
holds first many s = nat_le s.rva first && nat_le (first - s.rva + many) s.raw.len

-- where a range of RVAs stands in the file: in the first section that holds it whole
unfoldable pub span_at : List ℕ → Span → ℕ → ℕ → Option Span
span_at bytes headers first many =
    option_map (λ (s : Section). record { start = s.raw.start + (first - s.rva); len = many })
    (find (holds first many) (sections_of bytes headers))

-- where the bytes from an RVA on stand: up to the end of the raw part of the first section that holds the byte there
unfoldable pub span_from : List ℕ → Span → ℕ → Option Span
span_from bytes headers first =
    option_map (λ (s : Section). record { start = s.raw.start + (first - s.rva); len = s.raw.len - (first - s.rva) })
    (find (holds first 1) (sections_of bytes headers))
