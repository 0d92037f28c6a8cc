use Rattle.std.proofs.Common.{sym, ◌∙◌, None, Some, arith}
use Rattle.enc_dispatch.specs.Walked.{path_in}
use Rattle.enc_dispatch.proofs.Turns.{walk_end, walk_step}
use Rattle.enc_dispatch.proofs.dispatch.Dispatch.walk_down.Goals as goal

pub returns-in_default : goal.returns-in_default
returns-in_default c =
    walk_step c.args.self.now c.args.slot c.args.declared (path_in c.args.self.now c.args.class) c.loop-left.left c.nth_class-at.result c.loop-left.current _ None
    (omega (arith, c.loop-left-test.true)) c.nth_class-at.ensures (sym c.turn.ensures ∙ c.in_default.is) c.loop-left.invariant.0

pub loop-left-preserved : goal.loop-left-preserved
loop-left-preserved c = (
  walk_step c.args.self.now c.args.slot c.args.declared (path_in c.args.self.now c.args.class) c.loop-left.left c.nth_class-at.result c.loop-left.current _ (Some c.in-Some.next)
      (omega (arith, c.loop-left-test.true)) c.nth_class-at.ensures (sym c.turn.ensures ∙ c.in-Some.is) c.loop-left.invariant.0,
  omega (arith, c.loop-left.invariant.1),
)

pub returns : goal.returns
returns c =
    walk_end c.args.self.now c.args.slot c.args.declared (path_in c.args.self.now c.args.class) c.loop-left.left c.loop-left.current _
    (omega (arith, c.loop-left-test.false)) c.loop-left.invariant.0
