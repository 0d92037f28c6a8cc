use Rattle.std.proofs.Common.{subst, sym}
use Rattle.enc_chain.specs.Kept.{IsReadyFor, Kept}
use Rattle.enc_chain.proofs.Chains.{more_go}
use Rattle.enc_chain.proofs.joined.Joined.commit.Goals as goal

pub invariant_of-self : goal.invariant_of-self
invariant_of-self c =
    let k : Kept = record { rows = c.self.inside.rows; points = c.self.inside.points } in
    let ready : IsReadyFor k c.args.prepared = subst (λ (x : Kept). IsReadyFor x c.args.prepared) (sym c.self.view_is) c.requires in
    rw (c.commit.ensures.deltas, c.add.ensures.deltas) (more_go k c.args.prepared ready c.self.invariant)

pub returns-clause-texts : goal.returns-clause-texts
returns-clause-texts c = rw (← c.self.view_is) c.commit.ensures.texts
