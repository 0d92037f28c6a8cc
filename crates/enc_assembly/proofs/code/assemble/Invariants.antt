use Rattle.std.proofs.Common.{◌≡◌, ◌+◌, ◌++◌, drop}
use Rattle.enc_meta.specs.Built.{user_offset}
use Rattle.enc_edit_list.specs.Sizes.{length_of_code}
use Rattle.enc_assembly.specs.Assembly.{code_bytes}
use Rattle.enc_assembly.proofs.code.assemble.Given as goal

abbrev pub invariant-loop-k : goal.invariant-loop-k
invariant-loop-k l =
    (l.heaps ≡ l.fn.heaps)
    × (l.end + length_of_code (drop l.k l.code) ≡ length_of_code l.code)
    × (l.out.items ++ code_bytes (user_offset l.fn.heaps) l.end (drop l.k l.code) ≡ code_bytes (user_offset l.fn.heaps) 0 l.code)
