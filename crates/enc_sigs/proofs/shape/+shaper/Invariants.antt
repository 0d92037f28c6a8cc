use Rattle.std.proofs.Common.{◌≡◌, ◌+◌, ◌-◌, ◌*◌}
use Rattle.enc_sigs.specs.Shape.{many_shape, params_shape, elem_shape, GivesKeys}
use Rattle.enc_sigs.proofs.shape.+shaper.Given as goal

abbrev pub decreases-elem_shape : goal.decreases-elem_shape
decreases-elem_shape g l = 8 * l.depth + 0

abbrev pub decreases-modified_shape : goal.decreases-modified_shape
decreases-modified_shape g l = 8 * l.depth + 1

abbrev pub decreases-array_shape : goal.decreases-array_shape
decreases-array_shape g l = 8 * l.depth + 1

abbrev pub decreases-many_shape : goal.decreases-many_shape
decreases-many_shape g l = 8 * l.depth + 1

abbrev pub decreases-instance_shape : goal.decreases-instance_shape
decreases-instance_shape g l = 8 * l.depth + 2

abbrev pub decreases-marked_shape : goal.decreases-marked_shape
decreases-marked_shape g l = 8 * l.depth + 2

abbrev pub decreases-params_shape : goal.decreases-params_shape
decreases-params_shape g l = 8 * l.depth + 3

abbrev pub decreases-parts_shape : goal.decreases-parts_shape
decreases-parts_shape g l = 8 * l.depth + 4

abbrev pub decreases-method_shape : goal.decreases-method_shape
decreases-method_shape g l = 8 * l.depth + 5

abbrev pub decreases-formed_shape : goal.decreases-formed_shape
decreases-formed_shape g l = 8 * l.depth + 6

abbrev pub decreases-opened_shape : goal.decreases-opened_shape
decreases-opened_shape g l = 8 * l.depth + 7

abbrev pub invariant-many_shape-loop-i : goal.invariant-many_shape-loop-i
invariant-many_shape-loop-i g l = (keys : _) → GivesKeys (goal.F-post g l.fn.key) keys → many_shape (elem_shape keys l.fn.depth) l.fn.count l.fn.mix l.fn.bytes ≡ many_shape (elem_shape keys l.fn.depth) (l.fn.count - l.i) l.mix l.rest

abbrev pub invariant-params_shape-loop-left : goal.invariant-params_shape-loop-left
invariant-params_shape-loop-left g l = (keys : _) → GivesKeys (goal.F-post g l.fn.key) keys → params_shape (elem_shape keys l.fn.depth) l.fn.count l.fn.mix l.fn.bytes ≡ params_shape (elem_shape keys l.fn.depth) l.left l.mix l.rest

abbrev pub decreases-params_shape-loop-left : goal.decreases-params_shape-loop-left
decreases-params_shape-loop-left g l = l.left
