use Rattle.std.proofs.Common.{sym, ◌∙◌}
use Rattle.enc_c.proofs.SessionCalled.{at_limit, other_method}
use Rattle.enc_c.proofs.session_changes.spawn.Goals as goal

pub returns-in-Ok-Limit : goal.returns-in-Ok-Limit
returns-in-Ok-Limit c =
    at_limit c.args.method c.args.recording.now c.spawn.new.self c.number-in-Ok-Limit.result c.args.task.now (sym c.has_room.ensures ∙ c.if-not-has_room.false)
    (rw c.in-Ok-Limit.field-0-is at c.in-Ok-Limit.ensures.spawned).0 c.in-Ok-Limit.ensures.recorded c.number-in-Ok-Limit.ensures

pub returns-in-Ok-Method : goal.returns-in-Ok-Method
returns-in-Ok-Method c =
    other_method c.args.method c.args.recording.now c.spawn.new.self c.number-in-Ok-Method.result c.args.task.now
    (sym c.has_room.ensures ∙ c.if-not-has_room.false) (rw c.in-Ok-Method.field-0-is at c.in-Ok-Method.ensures.spawned).0
    c.in-Ok-Method.ensures.recorded c.number-in-Ok-Method.ensures
