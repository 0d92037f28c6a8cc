use Rattle.std.proofs.Common.{◌≡◌}
use Rattle.std.specs.Ordering.{nat_cmp}
use Rattle.std.specs.Cmp.Lexicographic.{slice_cmp}
use Rattle.std.specs.FinMap.{get, find}
use Rattle.std.specs.VecDeque.Iter.{deque_iter_rest}
use Rattle.enc_outside.specs.Log.{entries_of}
use Rattle.enc_outside.proofs.sure.SureStore.file.Given as goal

abbrev pub invariant-loop-write : goal.invariant-loop-write
invariant-loop-write l =
    get l.self l.name ≡ find (slice_cmp nat_cmp) l.name (entries_of (deque_iter_rest l.write-iterator))
