use Rattle.std.proofs.Common.{take}
use Rattle.enc_merge.specs.Writing.{AreTokensHeld, tokens_of}
use Rattle.enc_merge.proofs.rows.push_rows.Given as goal

abbrev pub invariant-loop-k : goal.invariant-loop-k
invariant-loop-k l = AreTokensHeld l.last (tokens_of (take l.k l.numbers)) l.fn.tables l.tables
