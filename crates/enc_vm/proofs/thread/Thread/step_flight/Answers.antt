use Rattle.enc_vm.proofs.FlightTurns.{flight_turn}
use Rattle.enc_frames.specs.Handlers.{fly}
use Rattle.enc_frames.specs.HandlersSeen.{own_clauses}
use Rattle.enc_vm.proofs.thread.Thread.step_flight.Goals as goal

pub returns-in-Ok : goal.returns-in-Ok
returns-in-Ok c = λ s.
    flight_turn c.in-Ok.end c.fly.new.self c.args.self.now (fly (own_clauses c.args.self.now.top) c.args.self.now c.args.flight) c.effect_of_flight.result s _
    c.in-Ok.ensures c.effect_of_flight.ensures (c.came_to.ensures s c.fly.new.self)
