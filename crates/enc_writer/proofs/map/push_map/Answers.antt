use Rattle.std.proofs.Common.{◌≡◌, refl, subst, rules}
use Rattle.enc_rows.specs.Written.{rows_at}
use Rattle.enc_base.specs.Tables.{enc_map}
use Rattle.enc_writer.specs.MapWriting.{TablesMapped}
use Rattle.enc_writer.proofs.MapSays.{no_table_mapped, all_mapped}
use Rattle.enc_writer.proofs.map.push_map.Goals as goal

pub loop-table-init : goal.loop-table-init
loop-table-init g c =
    let j = c.args.context.now in
    record { says = no_table_mapped j.chain j.list (rows_at c.args.tables.now enc_map) c.requires.none; others = λ k other. refl }

pub returns-clause-map : goal.returns-clause-map
returns-clause-map g c =
    let j = c.args.context.now in
    let all : c.loop-table.table ≡ 64 = search rules in
    all_mapped j.chain j.list (rows_at c.loop-table.tables enc_map)
    (subst (λ k. TablesMapped j.chain j.list k (rows_at c.loop-table.tables enc_map)) all c.loop-table.invariant.says)
