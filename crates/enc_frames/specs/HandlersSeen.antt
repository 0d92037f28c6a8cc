-- The clauses of a frame's own code.
use Rattle.std.specs.Prelude.{List}
use Rattle.enc_opcodes.specs.Body.{Handler}
use Rattle.enc_unwind.specs.Search.{handlers_of}
use Rattle.enc_versions.specs.Version.{Version}
use Rattle.enc_frames.specs.Machine.{Frame}

-- the clauses of a frame that holds a version
abbrev pub own_clauses : Frame Version → List Handler
own_clauses f = handlers_of f.code.code.sections
