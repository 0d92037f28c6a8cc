use Rattle.std.proofs.Common.{◌≡◌, take}
use Rattle.std.specs.Prelude.{filter}
use Rattle.enc_merge.specs.Writing.{changes_debug}
use Rattle.enc_merge.proofs.methods.changed_methods.Given as goal

abbrev pub invariant-loop-k : goal.invariant-loop-k
invariant-loop-k l = l.changed.items ≡ filter (changes_debug l.last l.points) (take l.k l.methods)
