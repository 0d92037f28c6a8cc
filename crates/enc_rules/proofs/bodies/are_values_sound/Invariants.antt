use Rattle.std.proofs.Common.{◌≡◌, length}
use Rattle.std.specs.List.{list_all}
use Rattle.enc_rules.specs.Known.{listed_counts}
use Rattle.enc_rules.specs.Marked.{is_marked, value_is_sound}
use Rattle.enc_rules.proofs.bodies.are_values_sound.Given as goal

abbrev pub invariant-loop-rest : goal.invariant-loop-rest
invariant-loop-rest g l = list_all (value_is_sound (listed_counts l.context) (is_marked l.marks)) l.rest ≡ list_all (value_is_sound (listed_counts l.context) (is_marked l.marks)) l.fn.code

abbrev pub decreases-loop-rest : goal.decreases-loop-rest
decreases-loop-rest g l = length l.rest
