use Rattle.std.proofs.Common.{◌≡◌, ◌+◌, ◌*◌, ◌++◌, ◌≤◌, length}
use Rattle.enc_sigs.specs.Tree.{forest_of, forest_size, tree_size}
use Rattle.enc_sigs.specs.Spelling.{joined, spellings}
use Rattle.enc_sigs.specs.Moved.{forest_moved, GivesTokens}
use Rattle.enc_sigs.proofs.write.+writer.Given as goal

abbrev pub decreases-write_elem : goal.decreases-write_elem
decreases-write_elem g l = 5 * tree_size l.elem.now + 1

abbrev pub decreases-write_within : goal.decreases-write_within
decreases-write_within g l = 5 * tree_size l.elem.now

abbrev pub decreases-write_elems : goal.decreases-write_elems
decreases-write_elems g l = 5 * forest_size (forest_of l.kids.now) + 2

abbrev pub decreases-write_first : goal.decreases-write_first
decreases-write_first g l = 5 * forest_size (forest_of l.kids.now) + 2

abbrev pub decreases-write_array : goal.decreases-write_array
decreases-write_array g l = 5 * forest_size (forest_of l.kids.now) + 3

abbrev pub decreases-write_counted : goal.decreases-write_counted
decreases-write_counted g l = 5 * forest_size (forest_of l.kids.now) + 3

abbrev pub decreases-write_instance : goal.decreases-write_instance
decreases-write_instance g l = 5 * forest_size (forest_of l.kids.now) + 4

abbrev pub decreases-write_parts : goal.decreases-write_parts
decreases-write_parts g l = 5 * forest_size (forest_of l.kids.now) + 3

abbrev pub decreases-write_pointer : goal.decreases-write_pointer
decreases-write_pointer g l = 5 * forest_size (forest_of l.kids.now) + 3

abbrev pub invariant-write_elems-loop-rest : goal.invariant-write_elems-loop-rest
invariant-write_elems-loop-rest g l = record {
  same : (f : _) → GivesTokens (goal.F-post g l.fn.moved) f
      → l.out.items ++ joined (spellings (forest_moved f (forest_of l.rest))) ≡ l.fn.out.items ++ joined (spellings (forest_moved f (forest_of l.fn.kids)));
  small : forest_size (forest_of l.rest) ≤ forest_size (forest_of l.fn.kids);
}

abbrev pub decreases-write_elems-loop-rest : goal.decreases-write_elems-loop-rest
decreases-write_elems-loop-rest g l = length l.rest
