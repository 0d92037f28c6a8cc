use Rattle.std.proofs.Common.{subst, sym, ap}
use Rattle.enc_agg.specs.Seen.{chain_of_all}
use Rattle.enc_rules.specs.Listed.{AfterList}
use Rattle.enc_list_delta.specs.Holds.{MayFollow}
use Rattle.enc_list_delta.proofs.TokensUnbroken.{other_rules}
use Rattle.enc_writer.specs.Stands.{NamesGuids}
use Rattle.enc_writer.specs.Files.{HoldFiles}
use Rattle.enc_writer.proofs.GuidsNamed.{chain_names}
use Rattle.enc_writer.proofs.write.written.Goals as goal

pub context_of-requires-clause-few : goal.context_of-requires-clause-few
context_of-requires-clause-few c =
    let may : MayFollow (chain_of_all c.args.agg.now) c.args.list.now = record { form = c.requires.form; rules = c.requires.rules; sound = c.sound.ensures } in
    (other_rules (chain_of_all c.args.agg.now) c.args.list.now may).few

pub files_of-requires-clause-names : goal.files_of-requires-clause-names
files_of-requires-clause-names c =
    subst NamesGuids (sym (ap (λ (j : AfterList). j.chain) c.in_ok-context.ensures)) (chain_names c.args.agg.now.base c.args.agg.now.deltas)

pub returns : goal.returns
returns c =
    let may : MayFollow (chain_of_all c.args.agg.now) c.args.list.now = record { form = c.requires.form; rules = c.requires.rules; sound = c.sound.ensures } in
    let files : HoldFiles (chain_of_all c.args.agg.now) c.args.list.now c.in_ok-files.files =
    subst (λ (j : AfterList). HoldFiles j.chain j.list c.in_ok-files.files) c.in_ok-context.ensures c.in_ok-files.ensures in
    c.stands_law.ensures (chain_of_all c.args.agg.now) c.args.list.now c.in_ok-files.files may c.requires.points files
