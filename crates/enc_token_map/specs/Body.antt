-- Bodies whose tokens are moved, each to another row of its table (ECMA-335 II.25.4, III.1.9).
use Rattle.std.specs.Prelude.{◌≡◌, ℕ, List, map, length, Option}
use Rattle.enc_base.specs.declared.token.Token.{Token}
use Rattle.enc_opcodes.specs.Body.{Code, Body, Handler, HandlerKind, catching, filtering, finishing, faulting, body_of, texts_are_there}
use Rattle.enc_opcodes.specs.Instruction.{Argument, nothing, number, target, targets, token, text, raw, Instruction}

-- the operand with its token moved
abbrev pub argument_moved : {T : Type 0} → (Token → Token) → Argument T → Argument T
argument_moved f nothing = nothing
argument_moved f (number n) = number n
argument_moved f (target t) = target t
argument_moved f (targets ts) = targets ts
argument_moved f (token t) = token (f t)
argument_moved f (text t) = text t
argument_moved f (raw bytes) = raw bytes

-- the instruction, at its offset
abbrev pub instruction_moved : {T : Type 0} → (Token → Token) → ℕ × Instruction T → ℕ × Instruction T
instruction_moved f x = (x.0, record { op = x.1.op; arg = argument_moved f x.1.arg })

-- the class that a clause catches moved (II.25.4.6)
abbrev pub kind_moved : (Token → Token) → HandlerKind → HandlerKind
kind_moved f (catching t) = catching (f t)
kind_moved f (filtering offset) = filtering offset
kind_moved f finishing = finishing
kind_moved f faulting = faulting

abbrev pub handler_moved : (Token → Token) → Handler → Handler
handler_moved f h = record { kind = kind_moved f h.kind; tries = h.tries; handler = h.handler }

-- the body with each token of its instructions, of its clauses and of its local variables moved
unfoldable pub body_moved : (Token → Token) → Body → Body
body_moved f b = record {
  stack = b.stack;
  init = b.init;
  locals = f b.locals;
  size = b.size;
  code = map (instruction_moved f) b.code;
  handlers = map (handler_moved f) b.handlers;
}

-- the parts of a body mean, with whatever user texts, what those of another mean with its tokens moved, and name the
-- same texts
pub record MeansMoved (f : Token → Token) (old new : Code) : Type 0 where
  pub means : (texts : ℕ → Option (List ℕ)) → body_of texts new ≡ body_moved f (body_of texts old)
  pub texts : (texts : ℕ → Option (List ℕ)) → texts_are_there texts new.code ≡ texts_are_there texts old.code
  pub code : length new.code ≡ length old.code
  pub sections : length new.sections ≡ length old.sections
