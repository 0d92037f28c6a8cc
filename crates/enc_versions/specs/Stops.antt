-- Where a frame may stop: where a sequence point begins that isn't hidden (Portable PDB v1.0), and with it an
-- instruction (ECMA-335 III.1.2).
use Rattle.std.specs.Prelude.{◌≡◌, ℕ, Bool, ◌&&◌, ◌||◌, List, is_some, ◌==◌}
use Rattle.std.specs.BTreeSet.{BTreeSet, contains}
use Rattle.std.specs.List.{list_any}
use Rattle.std.specs.Ordering.{nat_cmp}
use Rattle.enc_opcodes.specs.Body.{Code, is_instruction_start}
use Rattle.enc_opcodes.specs.Instruction.{instructions_of}
use Rattle.enc_seqpoints.specs.declared.point.Point.{Point}

-- a point that isn't hidden stands at an offset
abbrev pub stands_at : ℕ → Point → Bool
stands_at offset p = p.offset == offset && is_some p.lines

abbrev pub is_at_point : List Point → ℕ → Bool
is_at_point points offset = list_any (stands_at offset) points

-- an instruction begins there too
abbrev pub is_stop_in : Code → List Point → ℕ → Bool
is_stop_in code points offset = is_instruction_start (instructions_of code.code) offset && is_at_point points offset

-- for the contracts of private functions: a set has these offsets
abbrev pub AreStops : Code → List Point → BTreeSet ℕ → Type 0
AreStops code points stops = (offset : ℕ) → contains nat_cmp stops offset ≡ is_stop_in code points offset

-- a set with the offset of one point more, where a test passes there and the point isn't hidden
abbrev pub KeepsStop : (ℕ → Bool) → Point → BTreeSet ℕ → BTreeSet ℕ → Type 0
KeepsStop starts p old new = (offset : ℕ)
    → contains nat_cmp new offset ≡ (contains nat_cmp old offset || (starts offset && stands_at offset p))
