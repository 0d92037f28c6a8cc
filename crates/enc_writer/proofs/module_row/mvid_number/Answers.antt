use Rattle.std.proofs.Common.{◌∙◌, ap}
use Rattle.enc_plain.specs.Module.{has_row}
use Rattle.enc_writer.proofs.ModuleRow.{module_there, mvid_kind}
use Rattle.enc_writer.proofs.module_row.mvid_number.Goals as goal

pub guid-requires-clause-row : goal.guid-requires-clause-row
guid-requires-clause-row g c =
    let chain = g.C.ChainView.chain c.args.chain.now in
    ap (λ m. has_row m (record { table = 0; row = 1 })) (g.met.C.ChainView.means c.args.chain.now) ∙ module_there chain.plain c.requires.may.sound

pub guid-requires-clause-kind : goal.guid-requires-clause-kind
guid-requires-clause-kind g c = mvid_kind
