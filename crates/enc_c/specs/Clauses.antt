-- The exception clauses of a method's body by numbers (ECMA-335 II.25.4.6).
use Rattle.std.specs.Prelude.{ℕ, List, map, Result, Ok, Err}
use Rattle.enc_base.specs.Token.{number_of}
use Rattle.enc_base.specs.declared.token.Token.{Token}
use Rattle.enc_opcodes.specs.Body.{Body, Handler, HandlerKind, catching, filtering, finishing, faulting}
use Rattle.enc_plain.specs.Module.{Module}
use Rattle.enc_c.specs.Code.{asked_body}
use Rattle.enc_c.specs.declared.clauses.ClauseNumbers.{ClauseNumbers}
use Rattle.enc_c.specs.declared.status.Status.{Status}

-- the number of a kind, and the class or the filter's offset that it has, 0 where it has neither
abbrev pub handler_number : HandlerKind → ℕ
handler_number (catching class) = 0
handler_number (filtering offset) = 1
handler_number finishing = 2
handler_number faulting = 4

abbrev pub handler_extra : HandlerKind → ℕ
handler_extra (catching class) = number_of class
handler_extra (filtering offset) = offset
handler_extra _ = 0

-- a clause
abbrev pub clause_numbers : Handler → ClauseNumbers
clause_numbers h = record {
  kind = handler_number h.kind;
  try_begin = h.tries.0;
  try_end = h.tries.1;
  handler_begin = h.handler.0;
  handler_end = h.handler.1;
  extra = handler_extra h.kind;
}

-- those of a method's body, in their order
abbrev pub clauses_told : Result Body Status → Result (List ClauseNumbers) Status
clauses_told (Ok b) = Ok (map clause_numbers b.handlers)
clauses_told (Err s) = Err s

unfoldable pub asked_clauses : Module → Token → Result (List ClauseNumbers) Status
asked_clauses m t = clauses_told (asked_body m t)
