use Rattle.std.proofs.Common.{◌∙◌}
use Rattle.enc_jobs.proofs.Values.{among_seen}
use Rattle.enc_jobs.proofs.value.is_one_of.Goals as goal

pub returns : goal.returns
returns c = c.contains.ensures.value ∙ among_seen c.args.names.now c.args.text.now
