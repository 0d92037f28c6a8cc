-- What of an image is loaded at which RVAs: the raw parts of its sections (ECMA-335 II.25.3).
use Rattle.std.specs.Prelude.{◌≡◌, ℕ, List, map}
use Rattle.enc_meta.specs.Heaps.{part}
use Rattle.enc_meta.specs.Regions.{Region, range_loaded, rest_loaded}
use Rattle.enc_meta.specs.declared.span.Span.{Span}
use Rattle.enc_pe.specs.declared.section.Section.{Section}
use Rattle.enc_pe.specs.declared.container.Container.{Container}
use Rattle.enc_pe.specs.Sections.{sections_of}
use Rattle.enc_pe.specs.Container.{bytes_at_rva, bytes_from_rva}

abbrev pub region_of : List ℕ → Section → Region
region_of bytes s = record { address = s.rva; bytes = part bytes s.raw }

-- the sections whose headers stand in this range of the file, by what of them stands there
unfoldable pub regions_of : List ℕ → Span → List Region
regions_of bytes headers = map (region_of bytes) (sections_of bytes headers)

-- what is read at an RVA is what is loaded there
abbrev pub RangesAreLoaded : Type 0
RangesAreLoaded = (bytes : List ℕ) (c : Container) (first many : ℕ)
    → bytes_at_rva bytes c first many ≡ range_loaded (regions_of bytes c.sections) first many

abbrev pub RestsAreLoaded : Type 0
RestsAreLoaded = (bytes : List ℕ) (c : Container) (first : ℕ)
    → bytes_from_rva bytes c first ≡ rest_loaded (regions_of bytes c.sections) first
