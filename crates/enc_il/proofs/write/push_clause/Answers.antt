use Rattle.std.proofs.lemmas.Result.{on_ok_weaker}
use Rattle.enc_il.specs.Written.{clause_bytes}
use Rattle.enc_il.proofs.Joined.{joined_clause}
use Rattle.enc_il.proofs.write.push_clause.Goals as goal

pub returns : goal.returns
unfolding clause_bytes
returns c = on_ok_weaker c.push_word-2.result (joined_clause _ _ _ _ _ _ _ _ _ _ _ c.in_ok-push_word.ensures c.in_ok-push_range.ensures c.in_ok-push_range-2.ensures) c.push_word-2.ensures
