use Rattle.std.proofs.Common.{Err, subst}
use Rattle.enc_merge.specs.declared.fault.MergeFault.{MergeFault}
use Rattle.enc_command_line.specs.Words.{texts}
use Rattle.enc_commands.specs.Loads.{followed}
use Rattle.enc_commands.specs.Verdict.{last_word, meta}
use Rattle.enc_merge.proofs.ShortRead.{short_last}
use Rattle.enc_commands.proofs.Merging.{MergesOf, merges_of, plan_of_deep, plan_of_heavy, plan_of_merged}
use Rattle.enc_commands.proofs.commands.merge.merged.Goals as goal

pub merge_last-requires-clause-short : goal.merge_last-requires-clause-short
merge_last-requires-clause-short c = rw c.rows.ensures (short_last c.args.judged.now.rows.deltas c.requires.short)

pub returns-in_ok-saving-in-Ok-clause-plan : goal.returns-in_ok-saving-in-Ok-clause-plan
returns-in_ok-saving-in-Ok-clause-plan c =
    plan_of_merged (meta (last_word (texts c.args.deltas.now))) c.args.out.now (followed c.args.judged.now) c.in_ok-saving-in-Ok.field-0 c.in-Ok.files c.requires.two c.holds.ensures.go (rw (c.rows.ensures, c.points.ensures) at c.in-Ok.ensures)
    c.in_ok-saving-in-Ok.ensures.outcome c.in_ok-saving-in-Ok.ensures.output c.in_ok-saving-in-Ok.ensures.saves

pub returns-in-Err-TooLarge-clause-plan : goal.returns-in-Err-TooLarge-clause-plan
returns-in-Err-TooLarge-clause-plan c =
    plan_of_heavy (meta (last_word (texts c.args.deltas.now))) c.args.out.now (followed c.args.judged.now) c.too_large.result c.requires.two c.holds.ensures.go
    (subst (λ (e : MergeFault). MergesOf (followed c.args.judged.now) (Err e)) c.in-Err-TooLarge.field-0-is (merges_of c.args.judged.now c.rows.result.now c.points.result.now (Err c.in-Err-TooLarge.field-0) c.rows.ensures c.points.ensures c.in-Err-TooLarge.ensures)) c.too_large.ensures.plan

pub returns-in-Err-Deep-clause-plan : goal.returns-in-Err-Deep-clause-plan
returns-in-Err-Deep-clause-plan c =
    plan_of_deep (meta (last_word (texts c.args.deltas.now))) c.args.out.now (followed c.args.judged.now) c.in-Err-Deep.token c.deep.result c.requires.two c.holds.ensures.go
    (subst (λ (e : MergeFault). MergesOf (followed c.args.judged.now) (Err e)) c.in-Err-Deep.field-0-is (merges_of c.args.judged.now c.rows.result.now c.points.result.now (Err c.in-Err-Deep.field-0) c.rows.ensures c.points.ensures c.in-Err-Deep.ensures)) c.deep.ensures.plan
