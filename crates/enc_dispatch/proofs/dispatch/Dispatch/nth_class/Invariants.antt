use Rattle.std.proofs.Common.{◌≡◌, ◌-◌, length, drop}
use Rattle.enc_dispatch.specs.Walked.{climb_in, path_in}
use Rattle.enc_dispatch.proofs.dispatch.Dispatch.nth_class.Given as goal

abbrev pub invariant-loop : goal.invariant-loop
invariant-loop l = drop l.counter (path_in l.self l.fn.class) ≡ climb_in l.self (length l.self.classes - l.counter) l.at
