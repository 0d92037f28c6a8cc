use Rattle.std.proofs.Common.{◌++◌}
use Rattle.enc_key_map.specs.Index.{value_at}
use Rattle.enc_dispatch.specs.Stored.{own_key}
use Rattle.enc_dispatch.proofs.Owns.{own_start}
use Rattle.enc_dispatch.proofs.own.push_kids.Goals as goal

pub loop-i-init : goal.loop-i-init
loop-i-init g c = λ k s. own_start (g.V.ModuleView.meaning c.args.view.now) (c.args.methods.now.first.now ++ c.args.methods.now.more.now) c.args.wanted c.args.class k s c.args.kids.now (value_at c.args.index.now (own_key k s)) _
