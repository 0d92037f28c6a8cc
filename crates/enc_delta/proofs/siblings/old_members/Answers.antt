use Rattle.std.proofs.Common.{subst, List, ap, ◌∙◌}
use Rattle.std.specs.List.{list_any}
use Rattle.enc_delta.specs.declared.pairs.Pair.{Pair}
use Rattle.enc_delta.specs.Members.{AreAdded}
use Rattle.enc_delta.proofs.TwinsTold.{old_are}
use Rattle.enc_delta.proofs.siblings.old_members.Goals as goal

pub returns : goal.returns
returns g c =
    let m = (g.C.ChainView.chain c.args.chain.now).plain in
    old_are (g.M.Members.asked c.args.members.now) m c.args.pairs.now c.deref.result.now _ (λ f. ap (list_any f) c.deref.ensures.value ∙ c.in_ok-grouped.ensures f) (subst (λ (before : List Pair). AreAdded m before c.deref.result.now c.add_all_old.new.all.items) c.new-old.ensures.items c.in_ok-add_all_old.ensures)
