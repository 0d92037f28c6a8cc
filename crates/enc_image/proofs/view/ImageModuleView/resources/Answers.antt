use Rattle.enc_image.specs.Base.{module_in}
use Rattle.enc_image.proofs.view.ImageModuleView.resources.Goals as goal

pub returns : goal.returns
unfolding module_in
returns c = rw (← c.self.view_is) (rw c.deref.ensures.value at c.part.ensures.part)
