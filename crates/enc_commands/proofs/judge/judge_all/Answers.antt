use Rattle.enc_commands.specs.Loads.{bytes_seen}
use Rattle.enc_commands.specs.Verdict.{pdb}
use Rattle.enc_commands.proofs.KnownMethods.{base_within}
use Rattle.enc_commands.proofs.judge.judge_all.Goals as goal

pub begin-requires : goal.begin-requires
begin-requires c = base_within c.in_ok-image.image (pdb c.args.base.now) (bytes_seen c.args.file.debug) c.in_ok-pdb.pdb c.within_law.ensures.base c.in_ok-pdb.ensures.step
