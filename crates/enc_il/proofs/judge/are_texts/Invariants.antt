use Rattle.std.proofs.Common.{◌≡◌, drop}
use Rattle.enc_il.specs.Judged.{are_texts}
use Rattle.enc_il.proofs.judge.are_texts.Given as goal

-- what is left decides
abbrev pub invariant-loop-offset : goal.invariant-loop-offset
invariant-loop-offset g l = are_texts (g.T.UserTexts.texts l.texts) (drop l.offset-index l.offsets) ≡ are_texts (g.T.UserTexts.texts l.texts) l.offsets
