use Rattle.std.proofs.Common.{◌≡◌, ℕ, Bool, drop, nat_lt}
use Rattle.std.specs.Prelude.{slice_index}
use Rattle.enc_schema.specs.Coding.{each_table}
use Rattle.enc_schema.proofs.widths.each_below.Given as goal

abbrev pub invariant-loop-table : goal.invariant-loop-table
invariant-loop-table l =
    let test : ℕ → Bool = λ n. nat_lt (slice_index l.counts.rows n) l.limit in
    each_table test l.tables ≡ each_table test (drop l.table-index l.tables)
