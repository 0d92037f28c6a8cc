use Rattle.std.proofs.Common.{◌≡◌, ◌+◌, ◌-◌, ◌*◌}
use Rattle.enc_sigs.specs.Walk.{many_walk, params_walk, elem_walk, Tells}
use Rattle.enc_sigs.proofs.walk.+walker.Given as goal

abbrev pub decreases-elem_of_both : goal.decreases-elem_of_both
decreases-elem_of_both g l = 8 * l.depth + 0

abbrev pub decreases-modified_of_both : goal.decreases-modified_of_both
decreases-modified_of_both g l = 8 * l.depth + 1

abbrev pub decreases-array_of_both : goal.decreases-array_of_both
decreases-array_of_both g l = 8 * l.depth + 1

abbrev pub decreases-many_of_both : goal.decreases-many_of_both
decreases-many_of_both g l = 8 * l.depth + 1

abbrev pub decreases-instance_of_both : goal.decreases-instance_of_both
decreases-instance_of_both g l = 8 * l.depth + 2

abbrev pub decreases-marked_of_both : goal.decreases-marked_of_both
decreases-marked_of_both g l = 8 * l.depth + 2

abbrev pub decreases-params_of_both : goal.decreases-params_of_both
decreases-params_of_both g l = 8 * l.depth + 3

abbrev pub decreases-parts_of_both : goal.decreases-parts_of_both
decreases-parts_of_both g l = 8 * l.depth + 4

abbrev pub decreases-method_of_both : goal.decreases-method_of_both
decreases-method_of_both g l = 8 * l.depth + 5

abbrev pub decreases-formed_of_both : goal.decreases-formed_of_both
decreases-formed_of_both g l = 8 * l.depth + 6

abbrev pub decreases-opened_of_both : goal.decreases-opened_of_both
decreases-opened_of_both g l = 8 * l.depth + 7

abbrev pub invariant-many_of_both-loop-i : goal.invariant-many_of_both-loop-i
invariant-many_of_both-loop-i g l = (rel : _) → Tells (goal.F-post g l.fn.same) rel → many_walk (elem_walk rel l.fn.depth) l.fn.count l.fn.a l.fn.b ≡ many_walk (elem_walk rel l.fn.depth) (l.fn.count - l.i) l.a l.b

abbrev pub invariant-params_of_both-loop-left : goal.invariant-params_of_both-loop-left
invariant-params_of_both-loop-left g l = (rel : _) → Tells (goal.F-post g l.fn.same) rel → params_walk (elem_walk rel l.fn.depth) l.fn.count l.fn.a l.fn.b ≡ params_walk (elem_walk rel l.fn.depth) l.left l.a l.b

abbrev pub decreases-params_of_both-loop-left : goal.decreases-params_of_both-loop-left
decreases-params_of_both-loop-left g l = l.left
