use Rattle.std.proofs.Common.{◌+◌, ◌≤◌, refl, length, arith}
use Rattle.std.specs.Prelude.{nat_lt, slice_index}
use Rattle.enc_meta.specs.Built.{is_kept}
use Rattle.enc_schema.specs.Schema.{columns_in}
use Rattle.enc_ppdb.specs.Written.{most_pdb_weight}
use Rattle.enc_ppdb.specs.Holding.{heaps_size, passes_with}
use Rattle.enc_ppdb.proofs.ValuesAdded.{refused_so}
use Rattle.enc_ppdb.proofs.RowsGiven.{name_few, passes_past}
use Rattle.enc_ppdb.proofs.writer.push_document.Goals as goal

pub returns-in-Err-clause-refused : goal.returns-in-Err-clause-refused
returns-in-Err-clause-refused c =
    let h = c.args.heaps.now in
    let few : length c.deref.result.now ≤ 5 = rw (c.deref.ensures.value, c.in_ok-blob.ensures) (name_few (slice_index c.args.numbers 0)) in
    let kept = is_kept h.blobs c.deref.result.now in
    let more = length c.deref.result.now + 4 in
    refused_so c.in-Err.fault (passes_with h kept more) (nat_lt most_pdb_weight (heaps_size h + 9)) (passes_past h kept more (heaps_size h + 9) (omega (arith, few))) c.in-Err.ensures.refused

pub push-requires-clause-table : goal.push-requires-clause-table
unfolding columns_in
push-requires-clause-table c = refl

pub push-requires-clause-cells : goal.push-requires-clause-cells
unfolding columns_in
push-requires-clause-cells c = refl

pub returns-clause-size : goal.returns-clause-size
returns-clause-size c =
    let few : length c.deref.result.now ≤ 5 = rw (c.deref.ensures.value, c.in_ok-blob.ensures) (name_few (slice_index c.args.numbers 0)) in
    omega (arith, few, c.in-Ok.ensures.size)
