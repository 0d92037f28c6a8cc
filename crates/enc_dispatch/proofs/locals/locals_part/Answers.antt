use Rattle.std.proofs.Common.{ℕ, List, Option, ap, ◌∙◌}
use Rattle.std.specs.Prelude.{option_and_then, slice_get}
use Rattle.enc_base.specs.Token.{nth_row}
use Rattle.enc_base.specs.Tables.{stand_alone_sig}
use Rattle.enc_objects.specs.declared.kind.Kind.{Kind}
use Rattle.enc_dispatch.specs.Stored.{kind_of_local}
use Rattle.enc_dispatch.proofs.Each.{each_of_eight}
use Rattle.enc_dispatch.proofs.locals.locals_part.Goals as goal

pub returns : goal.returns
returns g c =
    let f = kind_of_local (g.V.ModuleView.meaning c.args.view.now) (nth_row stand_alone_sig c.args.n) in
    let at = λ (k : ℕ). ap (λ (ks : Option (List Kind)). option_and_then (λ (l : List Kind). slice_get l k) ks) c.local_kinds-all.ensures in
    each_of_eight f c.nth_kind.result c.nth_kind-2.result c.nth_kind-3.result c.nth_kind-4.result c.nth_kind-5.result c.nth_kind-6.result c.nth_kind-7.result c.nth_kind-8.result
    (c.nth_kind.ensures ∙ at 0) (c.nth_kind-2.ensures ∙ at 1) (c.nth_kind-3.ensures ∙ at 2) (c.nth_kind-4.ensures ∙ at 3)
    (c.nth_kind-5.ensures ∙ at 4) (c.nth_kind-6.ensures ∙ at 5) (c.nth_kind-7.ensures ∙ at 6) (c.nth_kind-8.ensures ∙ at 7)
