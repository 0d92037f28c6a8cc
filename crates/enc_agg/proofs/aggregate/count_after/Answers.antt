use Rattle.std.proofs.Common.{◌≡◌, ◌+◌, sym, ◌∙◌, arith}
use Rattle.enc_agg.proofs.Paired.{count_after, few_after}
use Rattle.enc_agg.proofs.Histories.{with_sound}
use Rattle.enc_agg.proofs.aggregate.count_after.Goals as goal

pub returns-then-own-eq0 : goal.returns-then-own-eq0
returns-then-own-eq0 c =
    let e : c.count_in-before.result ≡ c.count_in-before.result + 0 = omega arith in
    let sound = with_sound c.args.image.now _ c.requires.sound c.requires.added in
    e ∙ count_after _ _ c.args.table c.count_in-before.result 0 sound c.requires.follows.lands c.count_in-before.ensures.count (sym c.if-own-eq0.true ∙ c.requires.more c.args.table (omega arith))

pub overflow_cast-result : goal.overflow_cast-result
overflow_cast-result c =
    let sound = with_sound c.args.image.now _ c.requires.sound c.requires.added in
    let few = few_after _ _ c.args.table c.count_in-before.result _ sound c.requires.follows.lands c.count_in-before.ensures.count (c.requires.more c.args.table (omega arith)) (omega (arith, c.if-own-eq0.false)) in
    omega (arith, few)

pub overflow_add-result : goal.overflow_add-result
overflow_add-result c =
    let sound = with_sound c.args.image.now _ c.requires.sound c.requires.added in
    let few = few_after _ _ c.args.table c.count_in-before.result _ sound c.requires.follows.lands c.count_in-before.ensures.count (c.requires.more c.args.table (omega arith)) (omega (arith, c.if-own-eq0.false)) in
    omega (arith, few)

pub returns : goal.returns
returns c =
    let sound = with_sound c.args.image.now _ c.requires.sound c.requires.added in
    count_after _ _ c.args.table c.count_in-before.result _ sound c.requires.follows.lands c.count_in-before.ensures.count (c.requires.more c.args.table (omega arith))
