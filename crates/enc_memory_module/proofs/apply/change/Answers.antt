use Rattle.std.proofs.Common.{◌≡◌, List, Some, refl, ap, ◌∙◌}
use Rattle.std.specs.Prelude.{slice_get}
use Rattle.std.proofs.lemmas.Option.{slice_get_read}
use Rattle.std.proofs.lemmas.Result.{on_ok_weaker}
use Rattle.enc_plain.specs.Apply.{put}
use Rattle.enc_plain.specs.Cell.{Cell}
use Rattle.enc_memory_module.specs.Encoded.{with_tables}
use Rattle.enc_memory_module.specs.Standing.{edit_assembles}
use Rattle.enc_memory_module.proofs.FollowingEdits.{changed_next}
use Rattle.enc_memory_module.proofs.Rest.{at_place}
use Rattle.enc_memory_module.proofs.apply.change.Goals as goal

pub cells_edited-requires : goal.cells_edited-requires
cells_edited-requires c =
    let there : slice_get c.args.added.now c.args.k ≡ Some c.index-edits-k.result = rw c.edits-edits.ensures at (slice_get_read c.edits-edits.result.now _ c.args.k c.index-edits-k.result refl (rw c.edits-edits.ensures c.requires.there) c.index-edits-k.is) in
    at_place edit_assembles c.args.added.now c.args.k c.index-edits-k.result c.requires.stand there

pub returns : goal.returns
returns c =
    let there : slice_get c.args.added.now c.args.k ≡ Some c.index-edits-k.result = rw c.edits-edits.ensures at (slice_get_read c.edits-edits.result.now _ c.args.k c.index-edits-k.result refl (rw c.edits-edits.ensures c.requires.there) c.index-edits-k.is) in
    let old = with_tables c.args.tables.now.items in
    on_ok_weaker c.put.result (λ is. changed_next c.args.module.now.plain old (with_tables c.put.new.tables.items) c.args.added.now c.args.k c.index-edits-k.result c.row_at-row.result there c.row_at-row.ensures
    (is ∙ ap (λ (cells : List Cell). put old (record { token = c.row_at-row.result; cells = cells })) c.in_ok-cells.ensures)) c.put.ensures
