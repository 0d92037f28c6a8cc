use Rattle.std.proofs.Common.{◌≡◌, ◌-◌, ◌∷◌, ap, sym, ◌∙◌, drop, length, arith}
use Rattle.std.specs.Option.{option_copied}
use Rattle.enc_agg.proofs.Histories.{ids_count}
use Rattle.enc_merge.proofs.LastTwo.{first_there, second_there, newest_are, last_are}
use Rattle.enc_merge.proofs.last.Last.of.Goals as goal

pub overflow_sub-newest-2 : goal.overflow_sub-newest-2
overflow_sub-newest-2 c = omega (arith, ids_count c.args.agg.now.base c.args.agg.now.deltas, c.requires.two, c.generations-newest.ensures.count)

pub unreachable-requires : goal.unreachable-requires
unreachable-requires c =
    let newest : c.generations-newest.result - 1 ≡ length c.args.agg.now.deltas = omega (arith, ids_count c.args.agg.now.base c.args.agg.now.deltas, c.generations-newest.ensures.count) in
    first_there c.args.agg.now.deltas (c.generations-newest.result - 1) c.requires.two newest (sym c.delta.ensures ∙ ap option_copied c.in_default.is)

pub unreachable-requires-in_default-delta : goal.unreachable-requires-in_default-delta
unreachable-requires-in_default-delta c =
    let newest : c.generations-newest.result - 1 ≡ length c.args.agg.now.deltas = omega (arith, ids_count c.args.agg.now.base c.args.agg.now.deltas, c.generations-newest.ensures.count) in
    second_there c.args.agg.now.deltas (c.generations-newest.result - 1) c.requires.two newest (sym c.delta-2.ensures ∙ ap option_copied c.in_default-delta.is)

pub invariant_of-result : goal.invariant_of-result
invariant_of-result c =
    let newest : c.generations-newest.result - 1 ≡ length c.args.agg.now.deltas = omega (arith, ids_count c.args.agg.now.base c.args.agg.now.deltas, c.generations-newest.ensures.count) in
    let are : c.args.agg.now.deltas ≡ c.in-Some-delta.second.now ∷ c.in-Some.first.now ∷ drop 2 c.args.agg.now.deltas =
    newest_are c.args.agg.now.deltas (c.generations-newest.result - 1) c.in-Some.first.now c.in-Some-delta.second.now c.requires.two newest
    (sym c.delta.ensures ∙ ap option_copied c.in-Some.is) (sym c.delta-2.ensures ∙ ap option_copied c.in-Some-delta.is) in
    last_are c.args.agg.now c.in-Some.first.now c.in-Some-delta.second.now are c.follows.ensures c.requires.short

pub returns : goal.returns
returns c = invariant_of-result c
