use Rattle.std.proofs.Common.{refl}
use Rattle.enc_image.specs.Base.{module_in}
use Rattle.enc_image.proofs.view.ImageModuleView.entry.Goals as goal

pub returns : goal.returns
unfolding module_in
returns c = rw (← c.self.view_is) refl
