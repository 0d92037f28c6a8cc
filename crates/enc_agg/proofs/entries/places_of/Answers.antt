use Rattle.std.proofs.Common.{arith}
use Rattle.enc_agg.proofs.Gained.{not_placed, all_placed}
use Rattle.enc_agg.proofs.entries.places_of.Goals as goal

pub unreachable-requires : goal.unreachable-requires
unreachable-requires g c = not_placed c.args.tokens.now _ c.loop-k.k _ _ c.requires.tokens c.loop-k-test.true c.place_of.ensures.place c.in_default.is

pub returns-clause-places : goal.returns-clause-places
returns-clause-places g c = λ u. rw (← c.requires.tokens) (all_placed c.args.generation c.args.tokens.now c.loop-k.k u _ (omega (arith, c.loop-k-test.false)) (c.loop-k.invariant.places u))
