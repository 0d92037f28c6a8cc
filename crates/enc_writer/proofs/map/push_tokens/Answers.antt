use Rattle.std.proofs.Common.{◌≡◌, ◌≤◌, refl, subst, rules}
use Rattle.std.specs.Prelude.{slice_index}
use Rattle.enc_rows.specs.Written.{rows_at}
use Rattle.enc_rules.specs.Listed.{count_after}
use Rattle.enc_base.specs.Tables.{enc_map}
use Rattle.enc_writer.specs.MapWriting.{RowsMapped}
use Rattle.enc_writer.proofs.MapSays.{begin_mapped, table_mapped}
use Rattle.enc_writer.proofs.map.push_tokens.Goals as goal

pub loop-n-init : goal.loop-n-init
loop-n-init g c =
    let j = c.args.context.now in
    record {
      says = begin_mapped j.chain j.list c.args.table c.first_row-n.result (rows_at c.args.tables.now enc_map) c.requires.so_far c.first_row-n.ensures.none;
      others = λ k other. refl;
    }

pub returns-clause-says : goal.returns-clause-says
returns-clause-says g c =
    let j = c.args.context.now in
    let count : slice_index c.counts.result.now.rows c.args.table ≡ count_after j.chain j.list.edits c.args.table = c.counts.ensures c.args.table c.requires.table in
    let low : c.first_row-n.result ≤ count_after j.chain j.list.edits c.args.table = c.first_row-n.ensures.low in
    let n : c.loop-n.n ≡ count_after j.chain j.list.edits c.args.table = search rules in
    table_mapped j.chain j.list c.args.table (rows_at c.loop-n.tables enc_map)
    (subst (λ k. RowsMapped j.chain j.list c.args.table k (rows_at c.loop-n.tables enc_map)) n c.loop-n.invariant.says)
