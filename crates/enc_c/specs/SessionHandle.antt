-- What the handle of a session owns.
use base.Fml.{Fml, feq, fex}
use base.Stored.{Coded}
use denote.RawPtr.{Ptr, null_ptr}
use Rattle.std.specs.Prelude.{Option, Some, None}
use Rattle.std.specs.Box.Ownership.{box_owns}
use Rattle.std.specs.Global.{Global}
use Rattle.std.specs.Coded.{coded_option}
use Rattle.std.specs.contracts.impls.GlobalAllocator.TheImpl.{ghosts}
use Rattle.enc_session.specs.contracts.recording.Recording.{the_row}

-- nothing at null, and else the box of the value
abbrev pub owns_session : Ptr → Option the_row.Denot → Fml
owns_session at None = feq Ptr at null_ptr
owns_session at (Some x) = fex Global (λ alloc. box_owns (ghosts.dealloc_token alloc) the_row at x)

abbrev pub session_coded : Coded (Option the_row.Denot)
session_coded = coded_option the_row.coded
