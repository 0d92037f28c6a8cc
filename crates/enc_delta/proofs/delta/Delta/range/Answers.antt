use Rattle.std.proofs.Common.{◌+◌, arith}
use Rattle.enc_delta.specs.Starts.{AreTableStarts}
use Rattle.enc_delta.proofs.delta.Delta.range.Goals as goal

pub returns : goal.returns
returns c =
    let rises = c.self.invariant.rising.1 (rw (← c.self.view_is) at c.requires.rising) in
    let starts : AreTableStarts c.args.self.now c.self.inside.starts = rw (← c.self.view_is) (c.self.invariant.begin rises) in
    record {
      start = starts.begin c.args.table (omega arith);
      end = starts.begin (c.args.table + 1) (omega arith);
      few = starts.few;
    }
