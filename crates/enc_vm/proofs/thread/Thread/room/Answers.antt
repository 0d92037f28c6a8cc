use Rattle.std.proofs.Common.{rules, Some, None, refl, ap}
use Rattle.enc_versions.specs.Version.{Version}
use Rattle.enc_frames.specs.Machine.{Thread}
use Rattle.enc_vm.proofs.RoomAt.{room_seen}
use Rattle.enc_vm.proofs.thread.Thread.room.Goals as goal

pub returns-in-None : goal.returns-in-None
returns-in-None c users m methods placed =
    room_seen users m methods c.args.objects.now 0 c.self.inside.top c.args.self.now.top c.as_ref.result.now c.offset.result c.self.inside.top.stack
    c.instruction_in.result None (ap (λ (t : Thread Version). t.top) c.self.view_is) (search rules) (search rules) refl
    c.instruction_in.ensures.instr c.instruction_in.ensures.bytes placed (search rules) tt

pub returns-in-Some : goal.returns-in-Some
returns-in-Some c users m methods placed =
    room_seen users m methods c.args.objects.now c.instruction_room.result c.self.inside.top c.args.self.now.top c.as_ref.result.now c.offset.result c.stack.result.now
    c.instruction_in.result (Some (c.in-Some.instr, c.in-Some.field-0-1)) (ap (λ (t : Thread Version). t.top) c.self.view_is) (search rules) (search rules)
    (search rules) c.instruction_in.ensures.instr c.instruction_in.ensures.bytes placed (search rules) (c.instruction_room.ensures c.in-Some.field-0-1)
