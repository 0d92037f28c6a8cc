use Rattle.enc_rewriter.proofs.Gathers.{text_gathers, blob_gathers, guid_gathers}
use Rattle.enc_rewriter.proofs.pass.gathers.Goals as goal

pub returns-in-Text : goal.returns-in-Text
returns-in-Text c = text_gathers c.args.pass c.args.table c.args.i c.args.column c.requires c.in-Texts.is c.in-Text.is

pub returns-in-Blob : goal.returns-in-Blob
returns-in-Blob c = blob_gathers c.args.pass c.args.table c.args.i c.args.column c.requires c.in-Blobs.is c.in-Blob.is

pub returns-in-Guid : goal.returns-in-Guid
returns-in-Guid c = guid_gathers c.args.pass c.args.table c.args.i c.args.column c.requires c.in-Guids.is c.in-Guid.is
