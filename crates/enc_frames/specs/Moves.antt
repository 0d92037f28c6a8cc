-- A frame goes on in another code, as a debugger asks for behind an edit: the product's own.
use Rattle.std.specs.Prelude.{ℕ, List, ◌++◌}
use Rattle.enc_objects.specs.declared.value.Value.{Value}
use Rattle.enc_frames.specs.Machine.{Frame}

-- the frame at an offset of another code, with more local variables behind its own; all else stays
abbrev pub moved_to : {C : Type 0} → C → ℕ → List Value → Frame C → Frame C
moved_to code offset more f =
    record {
      method = f.method;
      code = code;
      offset = offset;
      args = f.args;
      locals = f.locals ++ more;
      stack = f.stack;
      running = f.running;
    }
