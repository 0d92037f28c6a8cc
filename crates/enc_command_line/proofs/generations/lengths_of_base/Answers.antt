use Rattle.std.proofs.Common.{◌≡◌, Some, ap}
use Rattle.std.specs.Prelude.{unwrap_or}
use Rattle.enc_meta.specs.Heaps.{lengths_of}
use Rattle.enc_command_line.proofs.Listed.{base_heaps}
use Rattle.enc_command_line.proofs.generations.lengths_of_base.Goals as goal

pub returns : goal.returns
returns c =
    let e : Some c.heap_lengths.result ≡ Some (lengths_of c.args.agg.now.base.heaps) = rw (base_heaps c.args.agg.now.base c.args.agg.now.deltas) at c.heap_lengths.ensures in
    ap (λ o. unwrap_or o c.heap_lengths.result) e
