use Rattle.std.proofs.Common.{◌≡◌, ◌≤◌, ◌<◌, ◌+◌, ◌-◌, ◌*◌, ◌++◌}
use Rattle.enc_generator.specs.Generated.{lists_from}
use Rattle.enc_generator.proofs.lists.make_lists.Given as goal

-- the lists so far, and those that are left
abbrev pub invariant-loop-list : goal.invariant-loop-list
invariant-loop-list l = record {
  lists : l.lists ++ lists_from (l.list + 1) (l.count - l.list) l.methods l.state ≡ lists_from 1 l.count 1000 l.fn.start;
  some : 0 < l.methods;
  few : l.methods ≤ 1000 + 20 * l.list;
}
