use Rattle.std.proofs.Common.{ap, ◌∙◌}
use Rattle.enc_key_map.specs.Index.{value_at}
use Rattle.enc_dispatch.specs.Entries.{earliest}
use Rattle.enc_dispatch.specs.Stored.{impl_key, impl_for}
use Rattle.enc_dispatch.proofs.Put.{later_none}
use Rattle.enc_dispatch.proofs.impls.impls_of.Goals as goal

pub loop-k-init : goal.loop-k-init
loop-k-init g c = λ class declaration.
    ap (λ items. earliest items (impl_key class declaration)) c.new-impls.ensures.items
    ∙ later_none (impl_for (g.V.ModuleView.meaning c.args.view.now) class declaration) c.args.read (value_at c.args.index.now (impl_key class declaration))
