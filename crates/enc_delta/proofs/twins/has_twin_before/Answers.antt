use Rattle.std.proofs.Common.{◌-◌, inl, inr, arith}
use Rattle.std.proofs.lemmas.Bool.{cases_lt}
use Rattle.enc_delta.proofs.ListsChildren.{equal_no}
use Rattle.enc_delta.proofs.NearTwins.{no_twin_below}
use Rattle.enc_delta.proofs.twins.has_twin_before.Goals as goal

pub returns-then-other-entry-clause-twin : goal.returns-then-other-entry-clause-twin
returns-then-other-entry-clause-twin g c = λ l low. elim (cases_lt l c.loop-left.left) [
  | inl below ↦
      let few = c.loop-left.invariant.few in
      let some = c.loop-left-test.true in
      no_twin_below (g.M.Members.asked c.args.members.now) (g.M.Members.keys c.args.members.now) c.args.entries.now c.args.k (c.loop-left.left - 1) l (g.met.M.Members.one c.args.members.now) c.requires.keyed c.requires.sorted (omega arith) (omega arith) c.requires.k (equal_no _ _ c.if-other-entry.true)
  | inr above ↦ c.loop-left.invariant.none l above low
]
