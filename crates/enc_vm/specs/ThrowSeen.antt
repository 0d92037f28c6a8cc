-- For the contracts of private functions: the object that is thrown.
use Rattle.std.specs.Prelude.{ℕ, List, Result}
use Rattle.enc_objects.specs.declared.trap.Trap.{Trap}
use Rattle.enc_objects.specs.declared.value.Value.{Value}
use Rattle.enc_frames.specs.Memory.{not_null}
use Rattle.enc_frames.specs.Results.{◌>>=◌}
use Rattle.enc_frames.specs.Values.{upper, reference}

-- the object on the top of a stack
abbrev pub thrown_object : List Value → Result ℕ Trap
thrown_object stack = upper stack >>= λ p. reference p >>= not_null
