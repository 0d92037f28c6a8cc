use Rattle.std.proofs.Common.{◌≡◌, length}
use Rattle.std.specs.List.{list_all}
use Rattle.enc_rules.specs.Rules.{has_document}
use Rattle.enc_rules.proofs.points.have_documents.Given as goal

abbrev pub invariant-loop-rest : goal.invariant-loop-rest
invariant-loop-rest l = list_all (has_document l.documents) l.rest ≡ list_all (has_document l.documents) l.fn.points

abbrev pub decreases-loop-rest : goal.decreases-loop-rest
decreases-loop-rest l = length l.rest
