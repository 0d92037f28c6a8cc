use Rattle.std.proofs.Common.{◌≡◌, ◌+◌, ◌<◌, ◌^◌, Some, take, refl, ap, ◌∙◌, arith}
use Rattle.std.specs.Prelude.{slice_get, option_map}
use Rattle.std.proofs.lemmas.Option.{slice_get_read}
use Rattle.enc_plain.specs.Chain.{rows_before}
use Rattle.enc_plain.specs.Sound.{row_count}
use Rattle.enc_edit_list.specs.declared.edit.Edit.TheVariants.{Add}
use Rattle.enc_edit_list.specs.Added.{rows_added}
use Rattle.enc_rules.specs.Edited.{row_edited}
use Rattle.enc_rules.proofs.RowsFew.{rank_few}
use Rattle.enc_memory_module.specs.Applied.{alone}
use Rattle.enc_memory_module.proofs.apply.row_at.Goals as goal

-- the edit at the place adds a row, the next of those that edits before it add
added : (c : goal.After-count) → slice_get c.args.added.now c.args.k ≡ Some (Add c.in-Add.table c.in-Add.owner c.in-Add.cells c.in-Add.code c.in-Add.points)
added c = rw c.edits-edits.ensures at (slice_get_read c.edits-edits.result.now _ c.args.k c.index-edits-k.result refl (rw c.edits-edits.ensures c.requires.there) c.index-edits-k.is) ∙ ap Some c.in-Add.is

ranked : (c : goal.After-count) → c.rank_at-rank.result ≡ rows_added (take c.args.k c.args.added.now) c.in-Add.table
ranked c = c.rank_at-rank.ensures (Add c.in-Add.table c.in-Add.owner c.in-Add.cells c.in-Add.code c.in-Add.points) (added c)

few : (c : goal.After-count) → rows_before (alone c.args.module.now.plain) c.in-Add.table + c.rank_at-rank.result + 1 < 2 ^ 24
few c = rank_few (alone c.args.module.now.plain) c.args.added.now c.args.k c.rank_at-rank.result c.in-Add.table c.in-Add.owner c.in-Add.cells c.in-Add.code c.in-Add.points (added c) (ranked c) c.requires.few

pub overflow_cast-result : goal.overflow_cast-result
overflow_cast-result c = omega (arith, few c)

pub overflow_add-result : goal.overflow_add-result
overflow_add-result c = omega (arith, few c, c.count.ensures.few)

pub overflow_add-result-in-Add : goal.overflow_add-result-in-Add
overflow_add-result-in-Add c = omega (arith, few c, c.count.ensures.few)

pub returns-in-Add : goal.returns-in-Add
returns-in-Add c =
    let m = c.args.module.now.plain in
    let row : row_count m c.in-Add.table + rows_added (take c.args.k c.args.added.now) c.in-Add.table + 1 ≡ c.count.result + c.rank_at-rank.result + 1 = omega (arith, c.count.ensures.count, ranked c) in
    ap (option_map (row_edited m (take c.args.k c.args.added.now))) (added c) ∙ ap (λ n. Some (record { table = c.in-Add.table; row = n })) row

pub returns-in-Body : goal.returns-in-Body
returns-in-Body c =
    let here : slice_get c.args.added.now c.args.k ≡ Some c.index-edits-k.result = rw c.edits-edits.ensures at (slice_get_read c.edits-edits.result.now _ c.args.k c.index-edits-k.result refl (rw c.edits-edits.ensures c.requires.there) c.index-edits-k.is) in
    ap (option_map (row_edited c.args.module.now.plain (take c.args.k c.args.added.now))) (here ∙ ap Some c.in-Body.is)
