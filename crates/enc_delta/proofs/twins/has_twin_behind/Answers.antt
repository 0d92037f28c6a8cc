use Rattle.std.proofs.Common.{◌<◌, inl, inr, arith}
use Rattle.std.proofs.lemmas.Bool.{cases_lt}
use Rattle.enc_delta.proofs.ListsChildren.{equal_no}
use Rattle.enc_delta.proofs.NearTwins.{no_twin_above}
use Rattle.enc_delta.proofs.twins.has_twin_behind.Goals as goal

pub returns-then-other-entry-clause-twin : goal.returns-then-other-entry-clause-twin
returns-then-other-entry-clause-twin g c = λ l low high. elim (cases_lt l c.loop-j.j) [
  | inl before ↦ c.loop-j.invariant.none l low before
  | inr behind ↦
      let more : c.args.k < c.loop-j.j = omega (arith, c.loop-j.auto.j) in
      no_twin_above (g.M.Members.asked c.args.members.now) (g.M.Members.keys c.args.members.now) c.args.entries.now c.args.k c.loop-j.j l (g.met.M.Members.one c.args.members.now) c.requires.keyed c.requires.sorted more behind high (equal_no _ _ c.if-other-entry.true)
]
