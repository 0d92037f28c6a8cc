use Rattle.std.proofs.Common.{subst, sym, ◌∙◌}
use Rattle.enc_dispatch.specs.Growth.{StandsUpTo, IsGrowth}
use Rattle.enc_dispatch.specs.Ready.{IsPreparedFor}
use Rattle.enc_dispatch.proofs.Grown.{stands_with_room, comes_with_room, few_classes}
use Rattle.enc_dispatch.proofs.Kept.{kept}
use Rattle.enc_dispatch.proofs.UpTo.{changed_up_to}
use Rattle.enc_dispatch.proofs.dispatch.Dispatch.prepare_changed.Goals as goal

pub growth-requires-clause-stands : goal.growth-requires-clause-stands
growth-requires-clause-stands g c =
    let m = g.V.ModuleView.meaning c.args.before.now in
    let n = g.W.ModuleView.meaning c.args.after.now in
    let all = sym c.all_keep.ensures ∙ c.if-not-all_keep.false in
    changed_up_to m n c.args.changed.now c.args.self.now c.rows_of.result c.requires.before c.requires.after c.requires.changed (kept m n c.args.changed.now c.requires.changed all) c.requires.stands c.rows_of.ensures

pub returns-clause-ready : goal.returns-clause-ready
unfolding IsPreparedFor
returns-clause-ready g c =
    let m = g.V.ModuleView.meaning c.args.before.now in
    let n = g.W.ModuleView.meaning c.args.after.now in
    let d = c.args.self.now in
    let all = sym c.all_keep.ensures ∙ c.if-not-all_keep.false in
    let growth = c.in_ok-growth.growth in
    let room = c.make_room.new.self.room in
    let stands = changed_up_to m n c.args.changed.now d c.rows_of.result c.requires.before c.requires.after c.requires.changed (kept m n c.args.changed.now c.requires.changed all) c.requires.stands c.rows_of.ensures in
    let fits = c.in_ok-make_room.ensures.room (few_classes d growth n c.rows_of.result stands c.in_ok-growth.ensures) in
    let same = sym c.in_ok-make_room.ensures.kept in
    record {
      room = fits;
      read = c.rows_of.result;
      stands = subst (λ x. StandsUpTo x n c.rows_of.result) same (stands_with_room d n c.rows_of.result room stands);
      comes = subst (λ x. IsGrowth x growth n c.rows_of.result) same (comes_with_room d growth n c.rows_of.result room c.in_ok-growth.ensures);
      sound = c.requires.after;
    }
