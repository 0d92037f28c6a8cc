use Rattle.std.proofs.Common.{ap}
use Rattle.enc_agg.specs.Seen.{module_of_all}
use Rattle.enc_compact.specs.Moved.{module_moved}
use Rattle.enc_c.proofs.Ordinary.{plain_image}
use Rattle.enc_c.proofs.held.Held.compact.Goals as goal

pub returns-clause-plain : goal.returns-clause-plain
returns-clause-plain c =
    plain_image (module_of_all c.self.inside.chain.rows) _ _ c.in-Ok.files.image c.in-Ok.files.pdb c.compact_laws.ensures.order (rw c.rows.ensures at c.sound.ensures)
    (ap (λ v. module_moved (module_of_all v)) (rw c.rows-2.ensures at c.in_ok-ordinary.ensures.module)) c.in-Ok.ensures.written
