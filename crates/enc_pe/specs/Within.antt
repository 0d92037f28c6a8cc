-- For the contracts of private functions: sections whose raw parts stand in their file, and where a range of RVAs
-- stands by them.
use Rattle.std.specs.Prelude.{ℕ, ◌+◌, ◌-◌, ◌≤◌, List, [], ◌∷◌, length, find, Option, option_map}
use Rattle.enc_meta.specs.declared.span.Span.{Span}
use Rattle.enc_pe.specs.declared.section.Section.{Section}
use Rattle.enc_pe.specs.Sections.{holds}

-- the raw part of each section stands in the file
abbrev pub StandWithin : List ℕ → List Section → Type 0
StandWithin file [] = Unit {0}
StandWithin file (s ∷ rest) = (s.raw.start + s.raw.len ≤ length file) × StandWithin file rest

-- where a range of RVAs stands: in the first section that holds it whole
abbrev pub span_in : List Section → ℕ → ℕ → Option Span
span_in sections first many = option_map (λ (s : Section). record { start = s.raw.start + (first - s.rva); len = many })
    (find (holds first many) sections)

-- where the bytes from an RVA on stand: up to the end of the first section that holds the byte there
abbrev pub span_behind : List Section → ℕ → Option Span
span_behind sections first =
    option_map (λ (s : Section). record { start = s.raw.start + (first - s.rva); len = s.raw.len - (first - s.rva) })
    (find (holds first 1) sections)
