-- What is written of a module whose rows were moved is an ordinary image.
use Rattle.std.proofs.Common.{◌≡◌, ℕ, List, ap, ◌∙◌}
use Rattle.enc_plain.specs.Debug.{PlainPdb}
use Rattle.enc_plain.specs.Module.{Module}
use Rattle.enc_plain.specs.Sound.{IsSound}
use Rattle.enc_rewriter.specs.Rewritten.{IsPlainImage, RewritesTo, stands_in_order}
use Rattle.enc_compact.specs.Laws.{MovedStandsInOrder}
use Rattle.enc_compact.specs.Moved.{module_moved}
use Rattle.enc_compact.proofs.InOrder.{moved_in_order}

pub plain_image : (m n : Module) (p : PlainPdb) (image symbols : List ℕ) → MovedStandsInOrder → IsSound m → n ≡ module_moved m → RewritesTo n p image symbols → IsPlainImage image
plain_image m n p image symbols law sound is written = written.plain (ap stands_in_order is ∙ moved_in_order law m sound)
