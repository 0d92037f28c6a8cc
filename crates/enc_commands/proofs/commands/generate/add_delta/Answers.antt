use Rattle.std.proofs.Common.{ℕ, List, ◌++◌, ap, ◌∙◌}
use Rattle.enc_agg.specs.Seen.{chain_of_all}
use Rattle.enc_commands.specs.Generating.{delta_saves}
use Rattle.enc_commands.specs.Loads.{file_seen}
use Rattle.enc_commands.specs.Plans.{saves_of}
use Rattle.enc_commands.proofs.Cases.{IsNext, judged_of, series_more}
use Rattle.enc_commands.proofs.commands.generate.add_delta.Goals as goal

pub returns-clause-series : goal.returns-clause-series
returns-clause-series c =
    let a = c.in_ok-judge_delta.ensures.step in
    let is = judged_of (file_seen c.in_ok-file.file) _ c.args.files (chain_of_all c.args.series.now.held.rows) a.0 c.in_ok-file.ensures a.1 in
    let saved = c.in_ok-push_delta.ensures ∙ ap (λ (name : List ℕ). saves_of c.args.series.now.saves.items ++ delta_saves name c.args.files) (c.as_str-2.ensures.value ∙ c.in_ok-name.ensures) in
    let next : IsNext c.args.lists.now c.args.k c.requires.stand.0 (chain_of_all c.args.series.now.held.rows) c.args.files a.0 = record { drawn = c.requires.at.drawn; there = c.requires.stand.1; stand = c.requires.stand.2; is = is } in
    series_more c.args.out.now c.args.lists.now c.args.k c.args.series.now _ c.requires.stand.0 c.args.files a.0 c.requires.at.series next c.case_laws.ensures.little c.generated_laws.ensures.silent a.2 saved
