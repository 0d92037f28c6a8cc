use Rattle.std.proofs.Common.{◌≡◌, ◌+◌, ◌++◌, ◌<◌, ◌^◌, map, drop}
use Rattle.enc_edit_list.specs.Sizes.{length_of_code, placed}
use Rattle.enc_jobs.proofs.code.offsets_in.Given as goal

-- the offsets so far, and those of the instructions that are left
abbrev pub invariant-loop-instr : goal.invariant-loop-instr
invariant-loop-instr l =
    (l.starts ++ map (λ x. x.0) (placed l.size (drop l.instr-index l.code)) ≡ map (λ x. x.0) (placed 0 l.fn.code))
    × (l.size + length_of_code (drop l.instr-index l.code) ≡ length_of_code l.fn.code)
    × (l.size < 2 ^ 32)
