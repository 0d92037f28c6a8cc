use Rattle.std.proofs.Common.{sym, ◌∙◌}
use Rattle.enc_dispatch.specs.Walked.{left_in}
use Rattle.enc_dispatch.proofs.Climbs.{interface_end, interface_here, interface_next}
use Rattle.enc_dispatch.proofs.dispatch.Dispatch.from_interface.Goals as goal

pub returns-then-has_interface : goal.returns-then-has_interface
returns-then-has_interface c =
    interface_here c.args.self.now c.args.interface c.loop-rest.climb.class (left_in c.args.self.now c.loop-rest.climb) (left_in c.args.self.now c.in-Some.rest) _
    c.in-Some.ensures.path (sym c.has_interface.ensures ∙ c.if-has_interface.true) c.loop-rest.invariant

pub loop-rest-preserved : goal.loop-rest-preserved
loop-rest-preserved c =
    interface_next c.args.self.now c.args.interface c.loop-rest.climb.class (left_in c.args.self.now c.loop-rest.climb) (left_in c.args.self.now c.in-Some.rest) _
    c.in-Some.ensures.path (sym c.has_interface.ensures ∙ c.if-has_interface.false) c.loop-rest.invariant

pub returns : goal.returns
returns c = interface_end c.args.self.now c.args.interface (left_in c.args.self.now c.loop-rest.climb) _ c.in_default.ensures.path c.loop-rest.invariant
