use Rattle.std.proofs.Common.{◌∙◌, Err, Ok}
use Rattle.enc_merge.specs.declared.fault.MergeFault.TheVariants.{Deep}
use Rattle.enc_merge.proofs.LastMerged.{deep_after, files_merged, merges_last, none_left, too_deep}
use Rattle.enc_merge.proofs.merge.merge_last.Goals as goal

pub returns-in-Some : goal.returns-in-Some
returns-in-Some c =
    let h = c.args.agg.now in
    let p = c.args.points.now in
    let x = c.of-last.result in
    merges_last h p x (Err (Deep c.in-Some.token)) c.of-last.ensures
    (too_deep x p c.in-Some.token c.in_ok-weigh.ensures (deep_after h x c.in_ok-token.field-0 c.of-last.ensures c.in_ok-token.ensures ∙ c.in-Some.is))

pub files_of-requires-clause-shallow : goal.files_of-requires-clause-shallow
files_of-requires-clause-shallow c =
    deep_after c.args.agg.now c.of-last.result c.in_ok-token.field-0 c.of-last.ensures c.in_ok-token.ensures ∙ none_left c.in_ok-token.field-0 c.in_default.not-Some

pub returns : goal.returns
returns c =
    let h = c.args.agg.now in
    let p = c.args.points.now in
    let x = c.of-last.result in
    merges_last h p x (Ok c.in_ok-files.files) c.of-last.ensures
    (files_merged h p x c.in_ok-files.files c.files_stand_law.ensures c.of-last.ensures c.requires.go c.in_ok-weigh.ensures
    (deep_after h x c.in_ok-token.field-0 c.of-last.ensures c.in_ok-token.ensures ∙ none_left c.in_ok-token.field-0 c.in_default.not-Some) c.in_ok-files.ensures)
