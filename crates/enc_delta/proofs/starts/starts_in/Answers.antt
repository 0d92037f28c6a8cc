use Rattle.std.proofs.Common.{◌≡◌, ◌+◌, ◌*◌, ◌∙◌, arith}
use Rattle.enc_delta.specs.Delta.{delta_source}
use Rattle.enc_delta.specs.Starts.{lesser_in}
use Rattle.enc_delta.proofs.Halves.{cut_at}
use Rattle.enc_delta.proofs.Ranges.{lesser_rises, filled_more}
use Rattle.std.proofs.lemmas.List.{length-set}
use Rattle.enc_delta.proofs.starts.starts_in.Goals as goal

pub lesser_in-start-requires-clause-range : goal.lesser_in-start-requires-clause-range
lesser_in-start-requires-clause-range c =
    let s = delta_source c.args.bytes.now c.args.il.now c.args.opened.now.root c.args.opened.now.tables in
    let cut = cut_at s (c.loop-table.table * 0x1000000) c.requires.rising in
    record {
      behind = rw c.from-first.ensures c.loop-table.invariant.behind;
      before = rw (c.from-first.ensures, c.count-end.ensures.count) cut.within;
      within = omega (arith, c.count-end.ensures.count);
      few = c.count-end.ensures.few;
    }

pub loop-table-preserved : goal.loop-table-preserved
loop-table-preserved c =
    let s = delta_source c.args.bytes.now c.args.il.now c.args.opened.now.root c.args.opened.now.tables in
    let t = c.loop-table.table in
    let start : c.lesser_in-start.result ≡ lesser_in s (t * 0x1000000) = rw c.from-first.ensures at c.lesser_in-start.ensures in
    record {
      whole = length-set c.loop-table.starts t c.lesser_in-start.result ∙ c.loop-table.invariant.whole;
      filled = filled_more (λ k. lesser_in s (k * 0x1000000)) c.loop-table.starts t c.lesser_in-start.result (omega (arith, c.loop-table.invariant.whole)) c.loop-table.invariant.filled start;
      behind = rw start (lesser_rises s (t * 0x1000000) ((t + 1) * 0x1000000) c.requires.rising (omega arith));
    }
