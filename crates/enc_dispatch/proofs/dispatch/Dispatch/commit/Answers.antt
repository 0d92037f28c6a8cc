use Rattle.std.proofs.Common.{subst}
use Rattle.enc_dispatch.specs.Growth.{HasGrown}
use Rattle.enc_dispatch.specs.Ready.{IsChangeFor, IsPreparedFor}
use Rattle.enc_dispatch.proofs.Grown.{grown}
use Rattle.enc_dispatch.proofs.dispatch.Dispatch.commit.Goals as goal

pub returns-then-has_room_for : goal.returns-then-has_room_for
unfolding IsPreparedFor
returns-then-has_room_for c = λ m prepared.
    let d = c.args.self.now in
    let is = subst (λ change. IsChangeFor d change m) c.in-More.is prepared in
    grown d c.in-More.growth c.grow.new.self m is.read is.sound is.stands is.comes (subst (λ x. HasGrown d x c.grow.new.self) c.in-More.growth-is c.grow.ensures)
