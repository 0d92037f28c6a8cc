use Rattle.std.proofs.Common.{◌≡◌, map, take}
use Rattle.enc_pdb_writer.specs.Listed.{hash_of}
use Rattle.enc_pdb_writer.proofs.documents.hashes.Given as goal

abbrev pub invariant-loop-document : goal.invariant-loop-document
invariant-loop-document l = l.hashes.items ≡ map hash_of (take l.document-index l.documents)
