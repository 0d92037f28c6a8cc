use Rattle.std.proofs.Common.{sym, ◌∙◌}
use Rattle.std.proofs.lemmas.Result.{IfOk-weaker}
use Rattle.enc_key_map.specs.Index.{value_at}
use Rattle.enc_dispatch.specs.Entries.{earliest}
use Rattle.enc_dispatch.proofs.Put.{impl_other, impl_put}
use Rattle.enc_dispatch.proofs.impls.push_impl.Goals as goal

pub returns-then-not-is_given : goal.returns-then-not-is_given
returns-then-not-is_given g c =
    impl_other (g.V.ModuleView.meaning c.args.view.now) c.args.n c.token-class.result c.token-body.result c.token-declaration.result (value_at c.args.index.now) (earliest c.args.impls.now.items)
    c.token-class.ensures c.token-body.ensures c.token-declaration.ensures (sym c.is_given.ensures ∙ c.if-not-is_given.true)

pub returns : goal.returns
returns g c =
    IfOk-weaker c.push_first.result _ _ (λ x put. impl_put (g.V.ModuleView.meaning c.args.view.now) c.args.n c.token-class.result c.token-body.result c.token-declaration.result c.impl_key.result (value_at c.args.index.now) (earliest c.args.impls.now.items) (earliest c.push_first.new.entries.items)
    c.impl_key.ensures c.token-class.ensures c.token-body.ensures c.token-declaration.ensures (sym c.is_given.ensures ∙ c.if-not-is_given.false) put) c.push_first.ensures
