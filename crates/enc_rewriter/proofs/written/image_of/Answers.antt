use Rattle.std.proofs.Common.{◌≡◌, ℕ, ◌<◌, ◌≤◌, ◌^◌, true, List, length, sym, subst}
use Rattle.enc_meta.specs.Built.{Built}
use Rattle.enc_rewriter.specs.Rewritten.{IsPlainImage, MeansModule, stands_in_order, image_of_parts}
use Rattle.enc_rewriter.specs.Weight.{module_weight, most_weight}
use Rattle.enc_rewriter.proofs.ImageSizes.{parts_light, image_fits, image_light}
use Rattle.enc_rewriter.proofs.ImagesMean.{images_are_plain, images_mean}
use Rattle.enc_rewriter.proofs.written.image_of.Goals as goal

pub parts_with-requires : goal.parts_with-requires
parts_with-requires g c = record {
  sound = c.requires.sound;
  kept = c.requires.kept;
  weight = parts_light (g.V.ModuleView.meaning c.args.view.now) c.args.heaps c.requires.light;
}

pub image_with-requires-clause-fits : goal.image_with-requires-clause-fits
image_with-requires-clause-fits g c =
    let m = g.V.ModuleView.meaning c.args.view.now in
    let e = c.in_ok-parts.ensures in
    image_fits m c.in_ok-parts.parts.heaps c.in_ok-parts.parts.placed c.in_ok-parts.parts.tables c.requires.sound e.held
    (subst (λ (h : Built). module_weight m h < most_weight) (sym e.heaps) c.requires.light) e.code (subst (λ (n : ℕ). n < 2 ^ 32) c.entry.ensures c.word_law.ensures)

pub returns-clause-means : goal.returns-clause-means
returns-clause-means g c =
    let m = g.V.ModuleView.meaning c.args.view.now in
    let e = c.in_ok-parts.ensures in
    let p = c.in_ok-parts.parts in
    subst (λ bytes. MeansModule m bytes) (sym c.in_ok-image.ensures)
    (images_mean m p.heaps p.placed p.tables c.requires.sound e.held (image_fits m p.heaps p.placed p.tables c.requires.sound e.held
    (subst (λ (h : Built). module_weight m h < most_weight) (sym e.heaps) c.requires.light) e.code (subst (λ (n : ℕ). n < 2 ^ 32) c.entry.ensures c.word_law.ensures)))

pub returns-clause-light : goal.returns-clause-light
returns-clause-light g c =
    let m = g.V.ModuleView.meaning c.args.view.now in
    let e = c.in_ok-parts.ensures in
    let p = c.in_ok-parts.parts in
    subst (λ (xs : List ℕ). length xs ≤ module_weight m c.args.heaps) (sym c.in_ok-image.ensures)
    (subst (λ (h : Built). length (image_of_parts m p.heaps p.placed p.tables) ≤ module_weight m h) e.heaps (image_light m p.heaps p.placed p.tables c.requires.sound e.held e.code))

pub returns-clause-plain : goal.returns-clause-plain
returns-clause-plain g c =
    let m = g.V.ModuleView.meaning c.args.view.now in
    let e = c.in_ok-parts.ensures in
    let p = c.in_ok-parts.parts in
    subst (λ bytes. stands_in_order m ≡ true → IsPlainImage bytes) (sym c.in_ok-image.ensures)
    (images_are_plain m p.heaps p.placed p.tables c.requires.sound e.held (image_fits m p.heaps p.placed p.tables c.requires.sound e.held
    (subst (λ (h : Built). module_weight m h < most_weight) (sym e.heaps) c.requires.light) e.code (subst (λ (n : ℕ). n < 2 ^ 32) c.entry.ensures c.word_law.ensures)))
