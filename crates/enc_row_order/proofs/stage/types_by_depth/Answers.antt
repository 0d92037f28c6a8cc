use Rattle.std.proofs.Common.{◌∙◌, ◌<◌, ap, sym, subst}
use Rattle.std.specs.Prelude.{◌^◌, length}
use Rattle.enc_base.specs.Tables.{type_def}
use Rattle.enc_row_order.specs.Keyed.{entries_numbered}
use Rattle.enc_row_order.proofs.Staged.{depth_sorted, depths_few}
use Rattle.enc_row_order.proofs.stage.types_by_depth.Goals as goal

pub depth_entries-requires : goal.depth_entries-requires
depth_entries-requires g c = record {
  few = subst (λ xs. length xs < 2 ^ 24) (sym c.deref.ensures.value)
      (depths_few (g.V.ModuleView.meaning c.args.view.now) type_def _ c.requires.sound c.in_ok-depths.ensures);
}

pub returns : goal.returns
returns g c =
    depth_sorted (g.V.ModuleView.meaning c.args.view.now) type_def _ _ _ c.in_ok-depths.ensures (c.in_ok-entries.ensures ∙ ap entries_numbered c.deref.ensures.value)
    c.in_ok-rows.ensures
