use Rattle.std.proofs.Common.{arith}
use Rattle.std.specs.Prelude.{vec_len, vec_capacity}
use Rattle.enc_ppdb.proofs.PlacedFiles.{room_there, room_less}
use Rattle.enc_ppdb.proofs.Tellers.{whole_more}
use Rattle.enc_ppdb.proofs.SoundFiles.{chain_keeps_sound}
use Rattle.enc_ppdb.proofs.chain.PdbChain.add.Goals as goal

pub push_reserved-requires : goal.push_reserved-requires
push_reserved-requires c = (room_there (vec_capacity c.self.inside.added) (vec_len c.self.inside.added) (rw (← c.self.view_is) at c.requires.room)).0

pub invariant_of-self : goal.invariant_of-self
invariant_of-self c =
    let there = room_there (vec_capacity c.self.inside.added) (vec_len c.self.inside.added) (rw (← c.self.view_is) at c.requires.room) in (
      omega (arith, there.1, c.push_reserved.ensures.len),
      whole_more c.self.inside.base c.self.inside.added.items c.push_reserved.new.self.items (record { pdb = c.args.delta; changed = c.args.changed })
          c.self.inside.places c.add.new.self c.args.told c.push_reserved.ensures.items
          (chain_keeps_sound c.self.inside.base c.self.inside.added.items c.push_reserved.new.self.items (record { pdb = c.args.delta; changed = c.args.changed }) c.keeps_sound.ensures (c.self.invariant.1.sound 0) c.push_reserved.ensures.items)
          c.add.ensures.places c.add.ensures.counts c.self.invariant.1 (rw (← c.self.view_is) at c.requires.told),
    )

pub returns-clause-room : goal.returns-clause-room
returns-clause-room c =
    rw (← c.self.view_is, c.push_reserved.ensures.len, c.push_reserved.ensures.capacity)
    (room_less (vec_capacity c.self.inside.added) (vec_len c.self.inside.added) (rw (← c.self.view_is) at c.requires.room))
