use Rattle.std.proofs.Common.{◌≡◌, Some, None}
use Rattle.std.specs.Prelude.{if◌then◌else◌}
use Rattle.enc_base.specs.Order.{first_below}
use Rattle.enc_schema.specs.Names.{table_name_in}
use Rattle.enc_jobs.specs.Edits.{has_this_name}
use Rattle.enc_jobs.proofs.edit.table_of.Given as goal

-- no table so far has the name
abbrev pub invariant-loop-table : goal.invariant-loop-table
invariant-loop-table l = first_below (λ t. if has_this_name l.name (table_name_in t) then Some t else None) l.table ≡ None
