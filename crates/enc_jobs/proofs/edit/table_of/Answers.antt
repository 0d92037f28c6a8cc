use Rattle.std.proofs.Common.{◌≡◌, ◌∙◌, Some, None, true, refl, sym, arith}
use Rattle.std.specs.Prelude.{if◌then◌else◌}
use Rattle.enc_base.proofs.First.{first_found}
use Rattle.enc_schema.specs.Names.{table_name_in}
use Rattle.enc_jobs.specs.Edits.{has_this_name, table_named}
use Rattle.enc_jobs.proofs.edit.table_of.Goals as goal

pub returns-then-has_this_name : goal.returns-then-has_this_name
unfolding table_named
returns-then-has_this_name c =
    let named : has_this_name c.args.name.now (table_name_in c.loop-table.table) ≡ true = sym c.has_this_name.ensures ∙ c.if-has_this_name.true in
    first_found (λ t. if has_this_name c.args.name.now (table_name_in t) then Some t else None) 56 c.loop-table.table (Some c.loop-table.table) (omega arith) c.loop-table.invariant (rw named refl) refl
