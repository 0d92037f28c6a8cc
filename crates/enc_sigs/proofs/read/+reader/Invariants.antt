use Rattle.std.proofs.Common.{◌≡◌, ◌+◌, ◌-◌, ◌*◌}
use Rattle.enc_sigs.specs.Grammar.{elem_in, many, params, in_counts}
use Rattle.enc_sigs.specs.Reads.{behind}
use Rattle.enc_sigs.proofs.read.+reader.Given as goal

abbrev pub decreases-elem : goal.decreases-elem
decreases-elem l = 8 * l.depth

abbrev pub decreases-wrapped : goal.decreases-wrapped
decreases-wrapped l = 8 * l.depth + 1

abbrev pub decreases-modified : goal.decreases-modified
decreases-modified l = 8 * l.depth + 1

abbrev pub decreases-array : goal.decreases-array
decreases-array l = 8 * l.depth + 1

abbrev pub decreases-many_elems : goal.decreases-many_elems
decreases-many_elems l = 8 * l.depth + 1

abbrev pub decreases-instance : goal.decreases-instance
decreases-instance l = 8 * l.depth + 2

abbrev pub decreases-sentinel : goal.decreases-sentinel
decreases-sentinel l = 8 * l.depth + 2

abbrev pub decreases-parameters : goal.decreases-parameters
decreases-parameters l = 8 * l.depth + 3

abbrev pub decreases-parts : goal.decreases-parts
decreases-parts l = 8 * l.depth + 4

abbrev pub decreases-pointer : goal.decreases-pointer
decreases-pointer l = 8 * l.depth + 5

abbrev pub decreases-formed : goal.decreases-formed
decreases-formed l = 8 * l.depth + 6

abbrev pub decreases-opened : goal.decreases-opened
decreases-opened l = 8 * l.depth + 7

abbrev pub invariant-many_elems-loop-i : goal.invariant-many_elems-loop-i
invariant-many_elems-loop-i l = behind l.fn.kids.items (many (elem_in (in_counts l.fn.counts) l.fn.depth) l.fn.count l.fn.bytes) ≡ behind l.kids.items (many (elem_in (in_counts l.fn.counts) l.fn.depth) (l.fn.count - l.i) l.rest)

abbrev pub invariant-parameters-loop-left : goal.invariant-parameters-loop-left
invariant-parameters-loop-left l = behind l.fn.kids.items (params (elem_in (in_counts l.fn.counts) l.fn.depth) l.fn.count l.fn.bytes) ≡ behind l.kids.items (params (elem_in (in_counts l.fn.counts) l.fn.depth) l.left l.rest)

abbrev pub decreases-parameters-loop-left : goal.decreases-parameters-loop-left
decreases-parameters-loop-left l = l.left
