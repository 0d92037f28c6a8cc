use Rattle.std.proofs.Common.{Some, None, ap, ◌∙◌}
use Rattle.enc_pe.proofs.Loaded.{rest_seen}
use Rattle.enc_pe.proofs.loaded_file.LoadedFile.rest.Goals as goal

pub returns-in-Some : goal.returns-in-Some
returns-in-Some c = ap Some c.part.ensures.part ∙ rest_seen _ _ _ _ (Some c.in-Some.span) c.self.view_is c.self.invariant c.in-Some.ensures

pub returns-in-None : goal.returns-in-None
returns-in-None c = rest_seen _ _ _ _ None c.self.view_is c.self.invariant c.in-None.ensures
