use Rattle.std.proofs.Common.{◌≡◌, ◌+◌, ◌-◌, ◌*◌}
use Rattle.enc_sigs.specs.Grammar.{elem_in, many, params, test_of}
use Rattle.enc_sigs.specs.Reads.{left_after}
use Rattle.enc_sigs.proofs.judge.+judge.Given as goal

abbrev pub decreases-past_elem : goal.decreases-past_elem
decreases-past_elem l = 8 * l.depth

abbrev pub decreases-past_modified : goal.decreases-past_modified
decreases-past_modified l = 8 * l.depth + 1

abbrev pub decreases-past_array : goal.decreases-past_array
decreases-past_array l = 8 * l.depth + 1

abbrev pub decreases-past_many : goal.decreases-past_many
decreases-past_many l = 8 * l.depth + 1

abbrev pub decreases-past_instance : goal.decreases-past_instance
decreases-past_instance l = 8 * l.depth + 2

abbrev pub decreases-past_parameters : goal.decreases-past_parameters
decreases-past_parameters l = 8 * l.depth + 3

abbrev pub decreases-past_parts : goal.decreases-past_parts
decreases-past_parts l = 8 * l.depth + 4

abbrev pub decreases-past_pointer : goal.decreases-past_pointer
decreases-past_pointer l = 8 * l.depth + 5

abbrev pub decreases-past_formed : goal.decreases-past_formed
decreases-past_formed l = 8 * l.depth + 6

abbrev pub decreases-past_opened : goal.decreases-past_opened
decreases-past_opened l = 8 * l.depth + 7

abbrev pub invariant-past_many-loop-i : goal.invariant-past_many-loop-i
invariant-past_many-loop-i l = left_after (many (elem_in (test_of l.fn.rows) l.fn.depth) l.fn.count l.fn.bytes) ≡ left_after (many (elem_in (test_of l.fn.rows) l.fn.depth) (l.fn.count - l.i) l.rest)

abbrev pub invariant-past_parameters-loop-left : goal.invariant-past_parameters-loop-left
invariant-past_parameters-loop-left l = left_after (params (elem_in (test_of l.fn.rows) l.fn.depth) l.fn.count l.fn.bytes) ≡ left_after (params (elem_in (test_of l.fn.rows) l.fn.depth) l.left l.rest)

abbrev pub decreases-past_parameters-loop-left : goal.decreases-past_parameters-loop-left
decreases-past_parameters-loop-left l = l.left
