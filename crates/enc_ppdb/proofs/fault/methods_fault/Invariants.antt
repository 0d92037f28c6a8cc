use Rattle.std.proofs.Common.{◌≡◌, None}
use Rattle.enc_base.specs.Order.{first_below}
use Rattle.enc_ppdb.specs.Fault.{method_fault}
use Rattle.enc_ppdb.proofs.fault.methods_fault.Given as goal

abbrev pub invariant-loop-n : goal.invariant-loop-n
invariant-loop-n l = first_below (method_fault l.file) l.n ≡ None
