-- An image whose parts hold a sound module means it, and is plain where its children stand in order.
use Rattle.std.proofs.Common.{◌≡◌, ℕ, true, List}
use Rattle.enc_meta.specs.Built.{Built, heaps_built}
use Rattle.enc_plain.specs.Module.{Module}
use Rattle.enc_plain.specs.Sound.{IsSound}
use Rattle.enc_rewriter.specs.Placed.{Placed}
use Rattle.enc_rewriter.specs.Rewritten.{HoldModule, FitsImage, image_of_parts, stands_in_order, ImagesMean, IsPlainImage}
use Rattle.enc_rewriter.proofs.ImagesMeant.{AreRead, image_meant}
use Rattle.enc_rewriter.proofs.IndicesGood.{no_index_fault}
use Rattle.enc_rewriter.proofs.KidsMeant.{known_of, children_read}
use Rattle.enc_rewriter.proofs.PlainImages.{image_plain}
use Rattle.enc_rewriter.proofs.RunsFit.{rows_fit}

are_read : (m : Module) (h : Built) (p : Placed) (rows : List (List (List ℕ))) → IsSound m → HoldModule m h p rows → AreRead m h p rows
are_read m h p rows sound held = record {
  fit = rows_fit m (heaps_built h) p rows sound held.numbers held.said;
  good = λ s read. no_index_fault m h p rows s sound held read;
  kids = λ s read. record { each = λ child n r is e. children_read (known_of m h p rows s sound held read) child n r is e };
}

pub images_mean : ImagesMean
images_mean m h p rows sound held fits = image_meant m h p rows sound held fits (are_read m h p rows sound held)

pub images_are_plain : (m : Module) (h : Built) (p : Placed) (rows : List (List (List ℕ))) → IsSound m → HoldModule m h p rows → FitsImage m h p rows
    → stands_in_order m ≡ true → IsPlainImage (image_of_parts m h p rows)
images_are_plain m h p rows sound held fits order = image_plain m h p rows sound held fits (are_read m h p rows sound held) order
