use Rattle.std.proofs.Common.{◌≡◌}
use Rattle.enc_jobs.specs.Lists.{every}
use Rattle.enc_jobs.specs.Code.{instr_placed}
use Rattle.enc_jobs.proofs.Loops.{behind}
use Rattle.enc_jobs.proofs.code.place.Given as goal

-- the instructions so far, and those that are left
abbrev pub invariant-loop-instr : goal.invariant-loop-instr
invariant-loop-instr l = behind l.list (every (instr_placed l.starts) l.instr-iterator.rest.items) ≡ every (instr_placed l.starts) l.fn.code.items
