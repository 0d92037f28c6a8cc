use Rattle.std.proofs.Common.{◌≡◌, ◌++◌, ◌-◌}
use Rattle.std.specs.List.{range_with_len}
use Rattle.enc_rows.proofs.children.push_places.Given as goal

-- with the places left, those so far are all
abbrev pub invariant-loop-p : goal.invariant-loop-p
invariant-loop-p l = l.fn.out.items ++ range_with_len l.fn.run.first (l.fn.run.end - l.fn.run.first) ≡ l.out.items ++ range_with_len l.p (l.fn.run.end - l.p)
