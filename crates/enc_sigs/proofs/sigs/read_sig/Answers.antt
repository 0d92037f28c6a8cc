use Rattle.std.specs.Prelude.{slice_index}
use Rattle.enc_sigs.specs.Grammar.{in_counts}
use Rattle.enc_sigs.proofs.Named.{counted_names}
use Rattle.enc_sigs.proofs.ReadBack.{nothing_left, read_is_spelled}
use Rattle.enc_sigs.proofs.sigs.read_sig.Goals as goal

pub invariant_of-result : goal.invariant_of-result
invariant_of-result c =
    let laws = c.written_laws.ensures in
    let counts = c.args.counts.now in
    let read = c.in_ok-front in
    read_is_spelled laws.back laws.signed_back (in_counts counts) c.args.kind c.args.blob.now read.front read.rest.now (counted_names (λ t. slice_index counts.rows t)) read.ensures (nothing_left read.rest.now c.in-empty.len_below)
