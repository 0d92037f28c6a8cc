use Rattle.std.proofs.Common.{◌≡◌, suc, ◌-◌, refl, arith}
use Rattle.enc_meta.specs.Heaps.{nil_guid}
use Rattle.enc_agg.proofs.Histories.{id_at, heaps_many}
use Rattle.enc_agg.proofs.earlier.EarlierChainView.enc_id.Goals as goal

pub returns-then-generation-eq0 : goal.returns-then-generation-eq0
unfolding nil_guid
returns-then-generation-eq0 c = rw c.if-generation-eq0.true refl

pub id_in-requires : goal.id_in-requires
id_in-requires c =
    let few = rw (← c.self.view_is) at c.requires in
    let many = heaps_many c.self.inside.image.now c.self.inside.added.now in
    (omega (arith, few, many, c.if-generation-eq0.false))

pub returns : goal.returns
returns c =
    let e : c.args.generation ≡ suc (c.args.generation - 1) = omega (arith, c.if-generation-eq0.false) in
    rw (← c.self.view_is, e) (id_at c.self.inside.image.now c.self.inside.added.now (c.args.generation - 1) _ c.self.invariant.deltas.all (c.id_in.ensures))
