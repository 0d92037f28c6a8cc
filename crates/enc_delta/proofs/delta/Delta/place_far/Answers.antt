use Rattle.std.proofs.Common.{◌≡◌, ◌*◌, arith}
use Rattle.enc_base.specs.Token.{number_of}
use Rattle.enc_delta.specs.Starts.{lesser_in}
use Rattle.enc_delta.proofs.Halves.{cut_at}
use Rattle.enc_delta.proofs.Ranges.{lesser_rises}
use Rattle.enc_delta.proofs.delta.Delta.place_far.Goals as goal

pub below-start-requires-clause-range : goal.below-start-requires-clause-range
below-start-requires-clause-range c =
    let cut = cut_at c.args.self.now (c.args.token.table * 0x1000000) c.requires.rising in
    record {
      behind = omega arith;
      before = rw (c.from-first.ensures, c.map_len-end.ensures.count) cut.within;
      within = omega (arith, c.map_len-end.ensures.count);
      few = c.map_len-end.ensures.few;
    }

pub place_by_halves-requires-clause-start : goal.place_by_halves-requires-clause-start
place_by_halves-requires-clause-start c = rw c.from-first.ensures at c.below-start.ensures

pub place_by_halves-requires-clause-range : goal.place_by_halves-requires-clause-range
place_by_halves-requires-clause-range c =
    let first = c.args.token.table * 0x1000000 in
    let cut = cut_at c.args.self.now (number_of c.args.token) c.requires.rising in
    let start : c.below-start.result ≡ lesser_in c.args.self.now first = rw c.from-first.ensures at c.below-start.ensures in
    record {
      behind = rw start (lesser_rises c.args.self.now first (number_of c.args.token) c.requires.rising (omega arith));
      before = rw c.map_len-end.ensures.count cut.within;
      within = omega (arith, c.map_len-end.ensures.count);
      few = c.map_len-end.ensures.few;
    }
