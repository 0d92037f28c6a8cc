use Rattle.std.proofs.Common.{◌≡◌, ◌<◌, List, ℕ, true, sym, ap, ◌∙◌, subst}
use Rattle.std.specs.Prelude.{◌^◌}
use Rattle.enc_emit.specs.Written.{root_size, root_written}
use Rattle.enc_meta.specs.BuiltSeen.{heap_bytes_seen}
use Rattle.enc_meta.specs.Heaps.{Counted}
use Rattle.enc_rows.specs.Written.{AllFit, heap_bits, stream_of}
use Rattle.enc_merge.proofs.RootRoom.{root_fits}
use Rattle.enc_merge.proofs.ShortLists.{tokens_few}
use Rattle.enc_merge.proofs.WideRows.{tables_fit}
use Rattle.enc_merge.proofs.metadata.metadata_merged.Goals as goal

pub finish-requires : goal.finish-requires
finish-requires c =
    let rows = c.in_ok-tables.tables in
    let fit = tables_fit c.aggregate.result.now c.args.last.now c.args.numbers.now rows c.aggregate.ensures c.laws.ensures c.in_ok-tables.ensures in
    record { fit = subst (AllFit rows true) (sym c.heap_bits-flags.ensures.bits) (c.heap_bits_law.ensures rows true c.laws.ensures fit) }

pub write_root-requires : goal.write_root-requires
write_root-requires c =
    let rows = c.in_ok-tables.tables in
    let few = tokens_few c.aggregate.result.now c.args.last.now c.args.numbers.now c.aggregate.ensures c.requires.tokens in
    let size = root_fits c.aggregate.result.now c.args.last.now c.args.numbers.now rows c.aggregate.ensures c.laws.ensures c.in_ok-tables.ensures few in
    let stream : c.deref.result.now ≡ stream_of rows true (heap_bits rows) = c.deref.ensures.value ∙ c.in_ok-stream.ensures.bytes ∙ ap (stream_of rows true) c.heap_bits-flags.ensures.bits in
    subst (λ (s : List ℕ). root_size true s (heap_bytes_seen c.in_ok-heaps.heaps) < 2 ^ 32) (sym stream) (subst (λ (h : Counted). root_size true (stream_of rows true (heap_bits rows)) h < 2 ^ 32) (sym c.in_ok-heaps.ensures) size)

pub returns : goal.returns
returns c =
    let rows = c.in_ok-tables.tables in
    let few = tokens_few c.aggregate.result.now c.args.last.now c.args.numbers.now c.aggregate.ensures c.requires.tokens in
    let stream : c.deref.result.now ≡ stream_of rows true (heap_bits rows) = c.deref.ensures.value ∙ c.in_ok-stream.ensures.bytes ∙ ap (stream_of rows true) c.heap_bits-flags.ensures.bits in
    record {
      numbers = c.args.numbers.now;
      rows = rows;
      tokens = c.requires.tokens;
      held = c.in_ok-tables.ensures;
      are = c.laws.ensures;
      fit = tables_fit c.aggregate.result.now c.args.last.now c.args.numbers.now rows c.aggregate.ensures c.laws.ensures c.in_ok-tables.ensures;
      size = root_fits c.aggregate.result.now c.args.last.now c.args.numbers.now rows c.aggregate.ensures c.laws.ensures c.in_ok-tables.ensures few;
      root = c.in_ok-root.ensures ∙ ap (λ (s : List ℕ). root_written true true s (heap_bytes_seen c.in_ok-heaps.heaps)) stream ∙ ap (root_written true true (stream_of rows true (heap_bits rows))) c.in_ok-heaps.ensures;
    }
