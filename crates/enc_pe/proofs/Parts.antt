-- The bytes of a range that stands in a file.
use Rattle.std.proofs.Common.{◌≡◌, ℕ, ◌+◌, ◌≤◌, List, length, drop, arith, length-drop}
use Rattle.std.proofs.lemmas.List.{length-take-le}
use Rattle.enc_meta.specs.Heaps.{part}
use Rattle.enc_meta.specs.declared.span.Span.{Span}

-- they are as many as it says
pub part_length : (bytes : List ℕ) (s : Span) → s.start + s.len ≤ length bytes → length (part bytes s) ≡ s.len
unfolding part
part_length bytes s within = length-take-le s.len (drop s.start bytes) (omega (arith, length-drop s.start bytes))
