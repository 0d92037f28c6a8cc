use Rattle.std.proofs.Common.{sym, arith}
use Rattle.enc_agg.specs.Prepared.{to_add}
use Rattle.enc_agg.proofs.Histories.{user_kept, chain_more, history_more}
use Rattle.enc_agg.proofs.EveryPlace.{whole_more}
use Rattle.enc_agg.proofs.aggregate.Aggregate.commit.Goals as goal

pub invariant_of-self : goal.invariant_of-self
invariant_of-self c = rw c.push_reserved.ensures.items (whole_more c.self.inside.image c.self.inside.added.items c.self.inside.directory c.add.new.self c.self.inside.places c.add-2.new.self c.args.ready c.add.ensures.places c.add.ensures.owners c.add.ensures.counts c.add.ensures.kids c.add-2.ensures.places c.add-2.ensures.counts c.self.invariant (rw (← c.self.view_is) at c.requires.ready))

pub returns-clause-room : goal.returns-clause-room
returns-clause-room c =
    let room = rw (← c.self.view_is) at c.requires.room in
    rw (← c.self.view_is) (omega (arith, room, c.push_reserved.ensures.len, c.push_reserved.ensures.capacity))

pub returns-clause-texts : goal.returns-clause-texts
returns-clause-texts c = λ offset units is. user_kept c.self.inside.image c.self.inside.added.items c.push_reserved.new.self.items (to_add c.args.ready) c.push_reserved.ensures.items offset units (rw (← c.self.view_is) at is)

pub returns-clause-history : goal.returns-clause-history
returns-clause-history c =
    let room = rw (← c.self.view_is) at c.requires.room in
    rw (← c.self.view_is)
    (sym (history_more c.self.inside.image c.self.inside.added.items c.push_reserved.new.self.items (to_add c.args.ready) _ _
    c.push_reserved.ensures.items (omega (arith, room, c.push_reserved.ensures.len, c.push_reserved.ensures.capacity))))

pub returns-clause-chain : goal.returns-clause-chain
returns-clause-chain c = rw (← c.self.view_is)
    (chain_more c.self.inside.image c.self.inside.added.items c.push_reserved.new.self.items (to_add c.args.ready) c.push_reserved.ensures.items)
