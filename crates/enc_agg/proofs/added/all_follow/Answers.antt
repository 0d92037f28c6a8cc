use Rattle.std.specs.Prelude.{reverse}
use Rattle.enc_agg.proofs.Following.{before_added, one_follows, none_follows}
use Rattle.enc_agg.proofs.added.all_follow.Goals as goal

pub loop-last-preserved : goal.loop-last-preserved
loop-last-preserved c =
    let base = c.args.image.now in
    let rest = reverse c.loop-last.rest.now in
    let older = reverse c.in-Some.older.now in (
      before_added base rest older c.in-Some.last.now c.in-Some.ensures.parts c.loop-last.invariant.0,
      λ follow. c.loop-last.invariant.1 (one_follows base rest older c.in-Some.last.now c.in-Some.ensures.parts c.loop-last.invariant.0 c.was_read.ensures follow),
    )

pub returns : goal.returns
returns c = c.loop-last.invariant.1 (none_follows c.args.image.now (reverse c.loop-last.rest.now) c.in_default.ensures.parts c.sound.ensures.sound)
