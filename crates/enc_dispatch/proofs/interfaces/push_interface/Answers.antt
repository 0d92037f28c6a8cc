use Rattle.std.proofs.lemmas.Result.{IfOk-weaker}
use Rattle.enc_key_map.specs.Index.{value_at}
use Rattle.enc_dispatch.specs.Entries.{earliest}
use Rattle.enc_dispatch.proofs.Put.{interface_other, interface_put}
use Rattle.enc_dispatch.proofs.interfaces.push_interface.Goals as goal

pub returns-then-class-ne-TYPE_DEF : goal.returns-then-class-ne-TYPE_DEF
returns-then-class-ne-TYPE_DEF g c =
    interface_other (g.V.ModuleView.meaning c.args.view.now) c.args.n c.token-class.result (value_at c.args.index.now) (earliest c.args.interfaces.now.items) c.token-class.ensures c.if-class-ne-TYPE_DEF.true

pub returns : goal.returns
returns g c =
    IfOk-weaker c.push_first.result _ _ (λ x put. interface_put (g.V.ModuleView.meaning c.args.view.now) c.args.n c.token-class.result c.token-interface.result c.interface_key-key.result (value_at c.args.index.now) (earliest c.args.interfaces.now.items) (earliest c.push_first.new.entries.items)
    c.interface_key-key.ensures c.token-class.ensures c.token-interface.ensures c.if-class-ne-TYPE_DEF.false put) c.push_first.ensures
