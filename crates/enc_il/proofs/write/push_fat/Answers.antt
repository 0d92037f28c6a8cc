use Rattle.std.proofs.Common.{ap, ◌++◌, ◌∙◌}
use Rattle.std.specs.Int.{w16, w32, to_le_bytes}
use Rattle.std.proofs.lemmas.Result.{on_ok_weaker}
use Rattle.enc_base.specs.Token.{number_of}
use Rattle.enc_il.specs.Written.{fat_written}
use Rattle.enc_il.proofs.Joined.{joined_fat}
use Rattle.enc_il.proofs.write.push_fat.Goals as goal

pub returns : goal.returns
unfolding fat_written
returns c =
    let one = c.in_ok-push_half.ensures ∙ ap (λ n. c.args.out.now.items ++ to_le_bytes w16 n) c.flags.ensures in
    let four = c.in_ok-push_word-2.ensures ∙ ap (λ n. c.push_word.new.out.items ++ to_le_bytes w32 n) (c.number.ensures ∙ ap number_of c.nil_or.ensures) in
    on_ok_weaker c.push_code.result (joined_fat _ _ _ _ _ _ _ _ _ _ _ one c.in_ok-push_half-2.ensures c.in_ok-push_word.ensures four) c.push_code.ensures
