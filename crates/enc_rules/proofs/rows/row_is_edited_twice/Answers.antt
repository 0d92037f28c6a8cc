use Rattle.std.proofs.Common.{◌≡◌, ◌+◌, ◌<◌, ◌≤◌, ◌++◌, ◌∷◌, [], Some, length, take, get_or, sym, ap, ◌∙◌, arith}
use Rattle.std.specs.Prelude.{slice_get}
use Rattle.std.specs.List.{list_any}
use Rattle.std.specs.Ordering.{nat_cmp}
use Rattle.std.specs.BTreeSet.{contains}
use Rattle.std.proofs.lemmas.List.{take_more}
use Rattle.std.proofs.lemmas.Option.{slice_get-get_or}
use Rattle.enc_base.specs.Token.{is_token}
use Rattle.enc_rules.specs.Edited.{rows_edited}
use Rattle.enc_rules.specs.Rules.{row_is_edited_twice}
use Rattle.enc_rules.proofs.FirstSuch.{such_none, such_more, such_found, such_end}
use Rattle.enc_rules.proofs.RowsEdited.{rows_all}
use Rattle.enc_rules.proofs.SameRow.{rows_unknown, rows_known, twice_is}
use Rattle.enc_rules.proofs.rows.row_is_edited_twice.Goals as goal

pub loop-k-init : goal.loop-k-init
loop-k-init g c = record {
  none = such_none (row_is_edited_twice c.args.context.now.chain c.args.context.now.list);
  known = rows_unknown c.new-known.result c.new-known.ensures.empty;
}

pub bounds-rows-k : goal.bounds-rows-k
bounds-rows-k g c = omega (arith, ap length c.rows-rows.ensures, rows_all c.args.context.now.chain.plain c.args.context.now.list.edits, ap length c.edits-edits.ensures.edits)

pub returns-then-contains-clause-first : goal.returns-then-contains-clause-first
returns-then-contains-clause-first g c =
    let chain = c.args.context.now.chain in
    let list = c.args.context.now.list in
    let rows = c.rows-rows.result.now in
    let row = get_or rows c.loop-k.k (record { table = 0; row = 0 }) in
    let low : c.loop-k.k < length rows = omega (arith, ap length c.rows-rows.ensures, rows_all chain.plain list.edits, ap length c.edits-edits.ensures.edits) in
    let there : slice_get (rows_edited chain.plain list.edits) c.loop-k.k ≡ Some row = ap (λ rs. slice_get rs c.loop-k.k) (sym c.rows-rows.ensures) ∙ slice_get-get_or rows c.loop-k.k (record { table = 0; row = 0 }) low in
    let test : row_is_edited_twice chain list c.loop-k.k ≡ c.contains.result =
    twice_is chain list c.loop-k.k row there
    ∙ ap (λ rs. list_any (λ u. is_token u row) (take c.loop-k.k rs)) (sym c.rows-rows.ensures)
    ∙ sym (c.loop-k.invariant.known.each row c.key_of_row-key.ensures.few)
    ∙ ap (λ n. contains nat_cmp c.loop-k.known n) (sym c.key_of_row-key.ensures.key)
    ∙ sym c.contains.ensures in
    such_found (row_is_edited_twice chain list) (length list.edits) c.loop-k.k (rw c.edits-edits.ensures.edits at c.loop-k-test.true) c.loop-k.invariant.none (test ∙ c.if-contains.true)

pub loop-k-preserved : goal.loop-k-preserved
loop-k-preserved g c =
    let chain = c.args.context.now.chain in
    let list = c.args.context.now.list in
    let rows = c.rows-rows.result.now in
    let row = get_or rows c.loop-k.k (record { table = 0; row = 0 }) in
    let low : c.loop-k.k < length rows = omega (arith, ap length c.rows-rows.ensures, rows_all chain.plain list.edits, ap length c.edits-edits.ensures.edits) in
    let there : slice_get (rows_edited chain.plain list.edits) c.loop-k.k ≡ Some row = ap (λ rs. slice_get rs c.loop-k.k) (sym c.rows-rows.ensures) ∙ slice_get-get_or rows c.loop-k.k (record { table = 0; row = 0 }) low in
    let test : row_is_edited_twice chain list c.loop-k.k ≡ c.contains.result =
    twice_is chain list c.loop-k.k row there
    ∙ ap (λ rs. list_any (λ u. is_token u row) (take c.loop-k.k rs)) (sym c.rows-rows.ensures)
    ∙ sym (c.loop-k.invariant.known.each row c.key_of_row-key.ensures.few)
    ∙ ap (λ n. contains nat_cmp c.loop-k.known n) (sym c.key_of_row-key.ensures.key)
    ∙ sym c.contains.ensures in
    let more : take (c.loop-k.k + 1) rows ≡ take c.loop-k.k rows ++ row ∷ [] = take_more rows c.loop-k.k (record { table = 0; row = 0 }) low in
    record {
      none = such_more (row_is_edited_twice chain list) c.loop-k.k c.loop-k.invariant.none (test ∙ c.if-contains.false);
      known = rw more (rows_known c.loop-k.known c.insert.new.self (take c.loop-k.k rows) row c.key_of_row-key.ensures.few c.loop-k.invariant.known (rw c.key_of_row-key.ensures.key at c.in_ok-insert.ensures.updates));
    }

pub returns-clause-first : goal.returns-clause-first
returns-clause-first g c =
    let list = c.args.context.now.list in
    let low : c.loop-k.k ≤ length list.edits = rw c.edits-edits.ensures.edits at c.loop-k.auto.k-end in
    let high : length list.edits ≤ c.loop-k.k = rw c.edits-edits.ensures.edits at c.loop-k-test.false in
    such_end (row_is_edited_twice c.args.context.now.chain list) (length list.edits) c.loop-k.k low high c.loop-k.invariant.none
