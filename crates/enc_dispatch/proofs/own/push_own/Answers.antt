use Rattle.std.proofs.Common.{sym, ◌∙◌, ◌++◌}
use Rattle.std.proofs.lemmas.Result.{IfOk-weaker}
use Rattle.enc_key_map.specs.Index.{value_at}
use Rattle.enc_dispatch.specs.Entries.{earliest}
use Rattle.enc_dispatch.specs.Stored.{own_key}
use Rattle.enc_dispatch.proofs.Owns.{own_other, own_put}
use Rattle.enc_dispatch.proofs.own.push_own.Goals as goal

pub returns-in_default : goal.returns-in_default
returns-in_default g c = λ k s.
    own_other (g.V.ModuleView.meaning c.args.view.now) (c.args.methods.now.first.now ++ c.args.methods.now.more.now) c.args.wanted c.args.class k s c.args.row (value_at c.args.index.now (own_key k s)) _ (sym c.wanted_slot.ensures ∙ c.in_default.is)

pub returns : goal.returns
returns g c =
    IfOk-weaker c.push_first.result _ _ (λ x put. own_put (g.V.ModuleView.meaning c.args.view.now) (c.args.methods.now.first.now ++ c.args.methods.now.more.now) c.args.wanted c.args.class c.in-Some.slot c.args.row c.own_key.result c.own_part-part.result
    (value_at c.args.index.now) (earliest c.args.own.now.items) (earliest c.push_first.new.entries.items)
    c.own_key.ensures c.own_part-part.ensures (sym c.wanted_slot.ensures ∙ c.in-Some.is) put) c.push_first.ensures
