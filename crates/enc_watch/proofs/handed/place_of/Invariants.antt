use Rattle.std.proofs.Common.{map}
use Rattle.enc_watch.specs.Audience.{is_of_kind}
use Rattle.enc_watch.proofs.Taken.{TakesNone}
use Rattle.enc_watch.proofs.handed.place_of.Given as goal

abbrev pub invariant-loop-i : goal.invariant-loop-i
invariant-loop-i g l = TakesNone (is_of_kind l.fn.kind) (map g.W.Watcher.watching l.fn.watchers) l.i
