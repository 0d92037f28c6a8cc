use Rattle.enc_sigs.specs.Grammar.{in_counts}
use Rattle.enc_sigs.specs.declared.kind.SigKind.TheVariants.{TypeSpec}
use Rattle.enc_reference_depth.proofs.RowsRead.{few_read, signature_kind, spec_is_read, spec_read}
use Rattle.enc_reference_depth.proofs.edges.spec_sig.Goals as goal

pub blob-blob-requires-clause-kind : goal.blob-blob-requires-clause-kind
blob-blob-requires-clause-kind g c = signature_kind c.args.row.table c.requires.table

pub unreachable-requires : goal.unreachable-requires
unreachable-requires g c =
    spec_is_read (g.V.ModuleView.meaning c.args.view.now) c.args.row c.args.counts.now.rows c.blob-blob.result.now c.requires.sound c.requires.row
    c.requires.table c.requires.counts c.blob-blob.ensures (c.in-Err-Grammar.ensures c.in-Err-Grammar.field-0-is)

pub returns-in-Ok : goal.returns-in-Ok
returns-in-Ok g c = record {
  read = spec_read (g.V.ModuleView.meaning c.args.view.now) c.args.row c.args.counts.now.rows c.blob-blob.result.now c.in-Ok.sig c.blob-blob.ensures c.in-Ok.ensures;
  few = few_read (in_counts c.args.counts.now) TypeSpec c.blob-blob.result.now c.in-Ok.sig c.in-Ok.ensures;
}
