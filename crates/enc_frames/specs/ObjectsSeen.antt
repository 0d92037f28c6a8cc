-- For the contracts of private functions: the kind of a field, or of a type, and what is done by it.
use Rattle.enc_base.specs.declared.token.Token.{Token}
use Rattle.enc_machine_types.specs.Types.{type_kind}
use Rattle.enc_objects.specs.declared.kind.Kind.{Kind}
use Rattle.enc_objects.specs.declared.trap.Trap.TheVariants.{X2}
use Rattle.enc_plain.specs.Module.{Module}
use Rattle.enc_versions.specs.Version.{Version}
use Rattle.enc_frames.specs.Memory.{Stored, named_field}
use Rattle.enc_frames.specs.Results.{◌>>=◌, or_trap}

abbrev pub by_field : Module → Token → (Kind → Stored Version) → Stored Version
by_field m field go = named_field m field >>= go

abbrev pub by_type : Module → Token → (Kind → Stored Version) → Stored Version
by_type m type go = or_trap X2 (type_kind m type) >>= go
