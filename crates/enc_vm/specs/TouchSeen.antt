-- For the contracts of private functions: the first touch of a type.
use Rattle.std.specs.Prelude.{List, [], Option, Some, None, Result, Ok, if◌then◌else◌}
use Rattle.std.specs.List.{list_any}
use Rattle.enc_base.specs.Token.{is_token}
use Rattle.enc_base.specs.declared.token.Token.{Token}
use Rattle.enc_machine_types.specs.Members.{type_constructor}
use Rattle.enc_plain.specs.Module.{Module}
use Rattle.enc_objects.specs.Objects.{Store}
use Rattle.enc_objects.specs.declared.trap.Trap.{Trap}
use Rattle.enc_versions.specs.Version.{Version}
use Rattle.enc_vm.specs.Calls.{with_type, enter, entering}
use Rattle.enc_frames.specs.FramesSeen.{shared_by}
use Rattle.enc_frames.specs.Machine.{World, Thread, Shared}
use Rattle.enc_frames.specs.Results.{◌>>=◌, Made}
use Rattle.enc_vm.specs.declared.declaring.FirstTouch.{FirstTouch}

-- the touch of a type, none where it isn't its first
abbrev pub first_touch : Module → Token → List Token → Option FirstTouch
first_touch m type touched =
    if list_any (λ (t : Token). is_token t type) touched then None
    else Some (record { touched = with_type type touched; constructor = type_constructor m type })

-- the constructor of a type is entered
abbrev pub constructed_in : World Version → Token → Thread Version → Shared → Result (Made Version) Trap
constructed_in w constructor t s = enter w t t.top constructor [] >>= λ u. Ok (entering s constructor u)

-- the instruction goes on behind the first touch of a type, or the type's constructor is entered
abbrev pub first_by : World Version → Option Token → (Shared → Result (Made Version) Trap) → Thread Version → Shared
    → Result (Made Version) Trap
first_by w None go t s = go s
first_by w (Some constructor) go t s = constructed_in w constructor t s

abbrev pub first_on : World Version → FirstTouch → (Shared → Result (Made Version) Trap) → Thread Version → Store
    → Result (Made Version) Trap
first_on w first go t store = first_by w first.constructor go t (shared_by store first.touched)

-- and behind any touch
abbrev pub touched_on : World Version → Option FirstTouch → (Shared → Result (Made Version) Trap) → Thread Version
    → Store → List Token
    → Result (Made Version) Trap
touched_on w None go t store touched = go (shared_by store touched)
touched_on w (Some first) go t store touched = first_on w first go t store
