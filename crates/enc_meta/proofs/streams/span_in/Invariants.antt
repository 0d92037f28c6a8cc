use Rattle.std.proofs.Common.{◌≡◌, None}
use Rattle.enc_meta.specs.Root.{headers, headers_found, span_of}
use Rattle.enc_meta.proofs.Headers.{IsRead}
use Rattle.enc_meta.proofs.streams.span_in.Given as goal

abbrev pub invariant-loop-i : goal.invariant-loop-i
invariant-loop-i l = record { before : IsRead l.bytes l.first l.i l.at; none : span_of l.name (headers_found (headers l.bytes l.first l.i)) ≡ None }
