-- The code and the sections that take the place of a body's own.
use Rattle.std.specs.Prelude.{ℕ, List, Option, Some, None}
use Rattle.enc_base.specs.declared.token.Token.{Token}
use Rattle.enc_opcodes.specs.Body.{Code}

-- code, and the sections behind it
pub record Held : Type 0 where
  pub code : List ℕ
  pub sections : List ℕ

-- a body with this local signature, and with what is held in place of its own code and sections, where something is
abbrev pub held_code : Option Held → Code → Token → Code
held_code None c locals = record { max = c.max; init = c.init; locals = locals; code = c.code; sections = c.sections }
held_code (Some h) c locals = record {
  max = c.max;
  init = c.init;
  locals = locals;
  code = h.code;
  sections = h.sections;
}
