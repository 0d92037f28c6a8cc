use Rattle.enc_base.proofs.SmallNumbers.{are_bytes}
use Rattle.enc_image.proofs.image.image_of.Goals as goal

pub invariant_of-result : goal.invariant_of-result
invariant_of-result c = record {
  file = are_bytes c.args.bytes.items c.items_fit;
  read = c.requires.read;
  opened = c.requires.opened;
  texts = c.requires.texts;
  sections = c.requires.sections;
  cells = c.requires.cells;
}
