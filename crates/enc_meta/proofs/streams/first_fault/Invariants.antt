use Rattle.std.proofs.Common.{◌≡◌, None}
use Rattle.enc_meta.specs.Root.{headers, headers_found, fault_at}
use Rattle.enc_base.specs.Order.{first_below}
use Rattle.enc_meta.proofs.Headers.{IsRead}
use Rattle.enc_meta.proofs.streams.first_fault.Given as goal

abbrev pub invariant-loop-i : goal.invariant-loop-i
invariant-loop-i l = record { before : IsRead l.bytes l.first l.i l.at; none : first_below (fault_at l.size (headers_found (headers l.bytes l.first l.count))) l.i ≡ None }
