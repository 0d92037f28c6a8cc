-- For the contracts of private functions: a call of a method of the module, in one value.
use Rattle.std.specs.Prelude.{List, length, Result}
use Rattle.enc_objects.specs.declared.trap.Trap.{Trap}
use Rattle.enc_objects.specs.declared.value.Value.{Value}
use Rattle.enc_plain.specs.Module.{Module}
use Rattle.enc_versions.specs.Version.{Version}
use Rattle.enc_frames.specs.Machine.{World, Thread, Shared}
use Rattle.enc_frames.specs.Results.{Made}
use Rattle.enc_frames.specs.Straight.{argument_kinds}
use Rattle.enc_vm.specs.Calls.{call_with}
use Rattle.enc_vm.specs.CallsSeen.{called_on}
use Rattle.enc_vm.specs.declared.calls.Call.{Call}

-- with these arguments, which are as many values on the stack
abbrev pub called_by : World Version → Module → Call → List Value → Thread Version → Shared → Result (Made Version) Trap
called_by w m c args t s =
    called_on w m c.kind.null_check c.kind.is_virtual c.next (length (argument_kinds c.shape)) c.method args t s

-- a call with what stands on the stack
abbrev pub call_made : World Version → Call → Thread Version → Shared → Result (Made Version) Trap
call_made w c t s = call_with w c.kind.null_check c.kind.is_virtual c.next c.method c.shape t s
