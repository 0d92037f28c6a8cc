use Rattle.std.proofs.Common.{ℕ, [], ◌∷◌, refl, sym, ap}
use Rattle.enc_schema.specs.Schema.{columns_in}
use Rattle.enc_pdb_writer.specs.Holding.{map_cells}
use Rattle.enc_pdb_writer.proofs.NamedRows.{named_more}
use Rattle.enc_pdb_writer.proofs.methods.name_methods.Goals as goal

pub push-requires-clause-table : goal.push-requires-clause-table
unfolding columns_in
push-requires-clause-table c = refl

pub push-requires-clause-cells : goal.push-requires-clause-cells
unfolding columns_in
push-requires-clause-cells c = refl

pub loop-i-preserved : goal.loop-i-preserved
unfolding map_cells
loop-i-preserved c =
    named_more c.args.tables.now c.loop-i.tables c.push.new.self c.args.rows.now c.loop-i.i 0 (c.number.result ∷ []) c.loop-i-test.true c.loop-i.invariant c.in_ok-push.ensures.pushed
    (ap (λ (n : ℕ). n ∷ []) (sym c.number.ensures))
