use Rattle.std.proofs.Common.{◌≡◌, map, length}
use Rattle.enc_base.specs.Token.{number_of}
use Rattle.enc_delta.specs.Lists.{AreTokens}
use Rattle.enc_delta.specs.Rules.{least}
use Rattle.enc_delta.proofs.ListsLate.{late_past, lesser_of}
use Rattle.enc_delta.proofs.lists.least_late.Given as goal

abbrev pub invariant-loop-rest : goal.invariant-loop-rest
invariant-loop-rest l = record {
  tokens : AreTokens l.rest;
  same : lesser_of l.best (least (late_past l.bound (map number_of l.rest))) ≡ least (late_past 0 (map number_of l.listed));
}

abbrev pub decreases-loop-rest : goal.decreases-loop-rest
decreases-loop-rest l = length l.rest
