use Rattle.std.proofs.Common.{◌*◌, ◌+◌, ◌≤◌, arith}
use Rattle.enc_base.specs.Token.{number_of}
use Rattle.enc_rows.specs.Layout.{rows_of}
use Rattle.enc_delta.specs.Starts.{lesser_in}
use Rattle.enc_delta.proofs.Halves.{cut_at}
use Rattle.enc_delta.proofs.Ranges.{lesser_rises}
use Rattle.enc_delta.proofs.delta.Delta.place_sought.Goals as goal

pub place_by_halves-requires-clause-range : goal.place_by_halves-requires-clause-range
place_by_halves-requires-clause-range c =
    let s = c.args.self.now in
    let first = c.args.token.table * 0x1000000 in
    let next = (c.args.token.table + 1) * 0x1000000 in
    let rising = c.rises.ensures.0 c.if-not-rises.false in
    let within : lesser_in s next ≤ rows_of s.layout 0x1F = (cut_at s next rising).within in
    record {
      behind = rw c.range.ensures.start (lesser_rises s first (number_of c.args.token) rising (omega arith));
      before = rw c.range.ensures.end (lesser_rises s (number_of c.args.token) next rising (omega arith));
      within = rw c.range.ensures.end within;
      few = omega (arith, c.range.ensures.end, within, c.range.ensures.few);
    }
