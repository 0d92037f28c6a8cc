use Rattle.std.proofs.Common.{◌∙◌}
use Rattle.enc_plain.specs.DebugSeen.{document_seen}
use Rattle.enc_ppdb.proofs.Documents.{document_there}
use Rattle.enc_ppdb.proofs.fault.is_document.Goals as goal

pub returns : goal.returns
returns c = c.is_some.ensures ∙ document_there document_seen c.good_document.result c.args.file.now c.args.row c.good_document.ensures
