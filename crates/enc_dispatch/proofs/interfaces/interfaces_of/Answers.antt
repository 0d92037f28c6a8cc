use Rattle.std.proofs.Common.{ap, ◌∙◌}
use Rattle.enc_key_map.specs.Index.{value_at}
use Rattle.enc_dispatch.specs.Entries.{earliest}
use Rattle.enc_dispatch.specs.Interfaces.{says_interface}
use Rattle.enc_dispatch.specs.Stored.{class_at, interface_key}
use Rattle.enc_dispatch.proofs.Put.{later_none}
use Rattle.enc_dispatch.proofs.interfaces.interfaces_of.Goals as goal

pub loop-k-init : goal.loop-k-init
loop-k-init g c = λ class i.
    ap (λ items. earliest items (interface_key class i)) c.new-interfaces.ensures.items
    ∙ later_none (says_interface (g.V.ModuleView.meaning c.args.view.now) (class_at class) i) c.args.read (value_at c.args.index.now (interface_key class i))
