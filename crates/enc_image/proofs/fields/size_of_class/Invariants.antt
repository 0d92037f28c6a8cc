use Rattle.std.proofs.Common.{◌≡◌, None}
use Rattle.enc_base.specs.Order.{first_below}
use Rattle.enc_image.specs.Base.{layout_size}
use Rattle.enc_image.specs.Seen.{source_seen}
use Rattle.enc_image.proofs.fields.size_of_class.Given as goal

abbrev pub invariant-loop-r : goal.invariant-loop-r
invariant-loop-r l = first_below (layout_size (source_seen l.cells) l.owner) l.r ≡ None
