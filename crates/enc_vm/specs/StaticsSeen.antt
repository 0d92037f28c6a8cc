-- For the contracts of private functions: static fields that are loaded and stored.
use Rattle.std.specs.Prelude.{ℕ, Result}
use Rattle.enc_base.specs.declared.token.Token.{Token}
use Rattle.enc_objects.specs.Objects.{Store as TheStore}
use Rattle.enc_objects.specs.declared.kind.Kind.{Kind}
use Rattle.enc_objects.specs.declared.trap.Trap.{Trap}
use Rattle.enc_plain.specs.Module.{Module}
use Rattle.enc_versions.specs.Version.{Version}
use Rattle.enc_vm.specs.Calls.{declaring, touch}
use Rattle.enc_frames.specs.Machine.{World, Frame, Thread, Shared}
use Rattle.enc_frames.specs.Memory.{Stored, load_static, store_static, named_field}
use Rattle.enc_frames.specs.Results.{◌>>=◌, Made}
use Rattle.enc_vm.specs.Step.{stored}
use Rattle.enc_vm.specs.declared.statics.KnownAccess.{KnownAccess}
use Rattle.enc_vm.specs.declared.statics.StaticAccess.{StaticAccess}
use Rattle.enc_vm.specs.declared.statics.StaticAccess.TheVariants.{Load, Store}

-- a static field of a kind is loaded or stored
abbrev pub accessed : StaticAccess → Kind → ℕ → Token → TheStore → Frame Version → Stored Version
accessed Load k next field s f = load_static k f.code.code.max next field s f
accessed Store k next field s f = store_static k next field s f

abbrev pub accessed_on : StaticAccess → Kind → ℕ → Token → Thread Version → Shared → Result (Made Version) Trap
accessed_on access k next field t s = stored s t (accessed access k next field s.store t.top)

abbrev pub access_made : KnownAccess → Thread Version → Shared → Result (Made Version) Trap
access_made a t s = accessed_on a.access.how a.kind a.access.next a.access.field t s

-- and its type is touched before
abbrev pub accessed_by : World Version → Module → StaticAccess → ℕ → Token → Shared → Thread Version
    → Result (Made Version) Trap
accessed_by w m access next field s t =
    named_field m field >>= λ k. touch w s t (declaring m field) (accessed_on access k next field t)
