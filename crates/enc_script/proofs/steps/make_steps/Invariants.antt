use Rattle.std.proofs.Common.{◌≡◌, ◌-◌}
use Rattle.enc_script.proofs.Stepping.{IsRest}
use Rattle.enc_script.proofs.steps.make_steps.Given as goal

-- so many steps were made
abbrev pub invariant-loop-made : goal.invariant-loop-made
invariant-loop-made g l =
    IsRest l.task l.count l.made l.fn.session l.session l.out.items l.fn.out.items × (l.session.seated.given ≡ l.fn.session.seated.given)

abbrev pub decreases-loop-made : goal.decreases-loop-made
decreases-loop-made g l = l.count - l.made
