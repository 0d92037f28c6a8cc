use Rattle.std.proofs.Common.{◌∙◌, sym}
use Rattle.std.proofs.lemmas.Bool.{false≢true}
use Rattle.enc_rewriter.proofs.KeptValues.{guid_kept}
use Rattle.enc_writer.proofs.ModuleRow.{id_is_kept, id_is_read}
use Rattle.enc_writer.proofs.module_row.own_number.Goals as goal

pub unreachable-requires : goal.unreachable-requires
unreachable-requires g c =
    let chain = g.C.ChainView.chain c.args.chain.now in
    let kept = guid_kept c.args.heaps.now c.args.list.now.enc_id (id_is_kept chain c.args.list.now c.args.heaps.now c.requires.may c.requires.heaps) in
    let refused = rw c.in-Err-TooLarge.field-0-is at c.in-Err-TooLarge.ensures.refused in
    absurd (false≢true (sym kept.1 ∙ refused.1))

pub returns-in-Ok-clause-number : goal.returns-in-Ok-clause-number
returns-in-Ok-clause-number g c =
    let chain = g.C.ChainView.chain c.args.chain.now in
    id_is_read chain c.args.list.now c.args.heaps.now c.in-Ok.number c.requires.may c.requires.heaps c.laws.ensures.good c.in-Ok.ensures.number

pub returns-in-Ok-clause-same : goal.returns-in-Ok-clause-same
returns-in-Ok-clause-same g c =
    let chain = g.C.ChainView.chain c.args.chain.now in
    c.in-Ok.ensures.added ∙ (guid_kept c.args.heaps.now c.args.list.now.enc_id (id_is_kept chain c.args.list.now c.args.heaps.now c.requires.may c.requires.heaps)).0
