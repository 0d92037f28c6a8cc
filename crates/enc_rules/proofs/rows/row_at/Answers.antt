use Rattle.std.proofs.Common.{◌≡◌, ◌+◌, Some, take, refl, ap, ◌∙◌, arith}
use Rattle.std.specs.Prelude.{slice_get, option_map}
use Rattle.std.proofs.lemmas.Option.{slice_get_read}
use Rattle.enc_plain.specs.Sound.{row_count}
use Rattle.enc_edit_list.specs.declared.edit.Edit.TheVariants.{Add}
use Rattle.enc_edit_list.specs.Added.{rows_added}
use Rattle.enc_rules.specs.Edited.{row_edited}
use Rattle.enc_rules.proofs.RowsFew.{rank_few}
use Rattle.enc_rules.proofs.rows.row_at.Goals as goal

pub overflow_cast-result : goal.overflow_cast-result
overflow_cast-result g c =
    let chain = g.C.ChainView.chain c.args.chain.now in
    let edits = c.args.added.now in
    let here : slice_get edits c.args.k ≡ Some c.index-edits-k.result = rw c.edits-edits.ensures at (slice_get_read c.edits-edits.result.now _ c.args.k c.index-edits-k.result refl (rw c.edits-edits.ensures c.requires.there) c.index-edits-k.is) in
    let there = here ∙ ap Some c.in-Add.is in
    let rank = c.rank_at-rank.ensures (Add c.in-Add.table c.in-Add.owner c.in-Add.cells c.in-Add.code c.in-Add.points) there in
    omega (arith, c.count.ensures.few, rank_few chain edits c.args.k c.rank_at-rank.result c.in-Add.table c.in-Add.owner c.in-Add.cells c.in-Add.code c.in-Add.points there rank c.requires.few)

pub overflow_add-result : goal.overflow_add-result
overflow_add-result g c =
    let chain = g.C.ChainView.chain c.args.chain.now in
    let edits = c.args.added.now in
    let here : slice_get edits c.args.k ≡ Some c.index-edits-k.result = rw c.edits-edits.ensures at (slice_get_read c.edits-edits.result.now _ c.args.k c.index-edits-k.result refl (rw c.edits-edits.ensures c.requires.there) c.index-edits-k.is) in
    let there = here ∙ ap Some c.in-Add.is in
    let rank = c.rank_at-rank.ensures (Add c.in-Add.table c.in-Add.owner c.in-Add.cells c.in-Add.code c.in-Add.points) there in
    omega (arith, c.count.ensures.few, rank_few chain edits c.args.k c.rank_at-rank.result c.in-Add.table c.in-Add.owner c.in-Add.cells c.in-Add.code c.in-Add.points there rank c.requires.few)

pub overflow_add-result-in-Add : goal.overflow_add-result-in-Add
overflow_add-result-in-Add g c =
    let chain = g.C.ChainView.chain c.args.chain.now in
    let edits = c.args.added.now in
    let here : slice_get edits c.args.k ≡ Some c.index-edits-k.result = rw c.edits-edits.ensures at (slice_get_read c.edits-edits.result.now _ c.args.k c.index-edits-k.result refl (rw c.edits-edits.ensures c.requires.there) c.index-edits-k.is) in
    let there = here ∙ ap Some c.in-Add.is in
    let rank = c.rank_at-rank.ensures (Add c.in-Add.table c.in-Add.owner c.in-Add.cells c.in-Add.code c.in-Add.points) there in
    omega (arith, c.count.ensures.few, rank_few chain edits c.args.k c.rank_at-rank.result c.in-Add.table c.in-Add.owner c.in-Add.cells c.in-Add.code c.in-Add.points there rank c.requires.few)

pub returns-in-Add : goal.returns-in-Add
returns-in-Add g c =
    let chain = g.C.ChainView.chain c.args.chain.now in
    let edits = c.args.added.now in
    let here : slice_get edits c.args.k ≡ Some c.index-edits-k.result = rw c.edits-edits.ensures at (slice_get_read c.edits-edits.result.now _ c.args.k c.index-edits-k.result refl (rw c.edits-edits.ensures c.requires.there) c.index-edits-k.is) in
    let there = here ∙ ap Some c.in-Add.is in
    let rank = c.rank_at-rank.ensures (Add c.in-Add.table c.in-Add.owner c.in-Add.cells c.in-Add.code c.in-Add.points) there in
    let count : c.count.result ≡ row_count chain.plain c.in-Add.table = c.count.ensures.count ∙ ap (λ m. row_count m c.in-Add.table) (g.met.C.ChainView.means c.args.chain.now) in
    let row : row_count chain.plain c.in-Add.table + rows_added (take c.args.k edits) c.in-Add.table + 1 ≡ c.count.result + c.rank_at-rank.result + 1 = omega (arith, count, rank) in
    ap (option_map (row_edited chain.plain (take c.args.k edits))) there ∙ ap (λ n. Some (record { table = c.in-Add.table; row = n })) row

pub returns-in-Body : goal.returns-in-Body
returns-in-Body g c =
    let chain = g.C.ChainView.chain c.args.chain.now in
    let edits = c.args.added.now in
    let here : slice_get edits c.args.k ≡ Some c.index-edits-k.result = rw c.edits-edits.ensures at (slice_get_read c.edits-edits.result.now _ c.args.k c.index-edits-k.result refl (rw c.edits-edits.ensures c.requires.there) c.index-edits-k.is) in
    ap (option_map (row_edited chain.plain (take c.args.k edits))) (here ∙ ap Some c.in-Body.is)
