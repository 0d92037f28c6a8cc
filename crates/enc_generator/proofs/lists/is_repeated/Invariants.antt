use Rattle.std.proofs.Common.{◌≡◌, length}
use Rattle.std.specs.List.{list_any}
use Rattle.enc_generator.specs.Generated.{is_of_row}
use Rattle.enc_generator.proofs.lists.is_repeated.Given as goal

-- the turns that are left decide
abbrev pub invariant-loop-rest : goal.invariant-loop-rest
invariant-loop-rest l = list_any (is_of_row l.row) l.rest ≡ list_any (is_of_row l.row) l.fn.before

abbrev pub decreases-loop-rest : goal.decreases-loop-rest
decreases-loop-rest l = length l.rest
