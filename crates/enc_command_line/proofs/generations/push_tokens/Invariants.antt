use Rattle.std.proofs.Common.{◌≡◌, ◌++◌, take}
use Rattle.std.specs.Prelude.{flat_map}
use Rattle.enc_command_line.specs.Listing.{chain_before, token_line}
use Rattle.enc_command_line.proofs.generations.push_tokens.Given as goal

-- the lines so far are appended
abbrev pub invariant-loop-i : goal.invariant-loop-i
invariant-loop-i l = l.out.items ≡ l.fn.out.items ++ flat_map (token_line (chain_before l.agg l.generation) l.generation l.delta l.agg.deltas) (take l.i l.tokens)
