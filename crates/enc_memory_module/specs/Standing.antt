-- For the contracts of private functions: bodies that are held, and can be assembled.
use Rattle.std.specs.Prelude.{◌≡◌, ℕ, ◌+◌, ◌*◌, ◌^◌, Bool, true, ◌&&◌, List, length, Option, Some, None, nat_lt}
use Rattle.std.specs.List.{list_all}
use Rattle.enc_il.specs.Written.{clause_fits}
use Rattle.enc_edit_list.specs.declared.body.ArgValue.{ArgValue}
use Rattle.enc_edit_list.specs.declared.body.ArgValue.TheVariants as arg
use Rattle.enc_edit_list.specs.declared.body.BodyValue.{BodyValue}
use Rattle.enc_edit_list.specs.declared.body.InstrValue.{InstrValue}
use Rattle.enc_edit_list.specs.declared.edit.Edit.{Edit}
use Rattle.enc_edit_list.specs.Form.{body_fits}
use Rattle.enc_edit_list.specs.Reach.{branches_reach}
use Rattle.enc_edit_list.specs.Sizes.{length_of_code}
use Rattle.enc_rules.specs.Listed.{body_given}

-- the numbers of an argument are as wide as they are held: an offset has four bytes, a token's table one
abbrev pub is_any_offset : ℕ → Bool
is_any_offset n = nat_lt n (2 ^ 32)

abbrev pub argument_is_held : ArgValue → Bool
argument_is_held (arg.Target t) = is_any_offset t
argument_is_held (arg.Targets ts) = list_all is_any_offset ts
argument_is_held (arg.Token t) = nat_lt t.table 0x100
argument_is_held _ = true

abbrev pub code_is_held : List InstrValue → Bool
code_is_held code = list_all (λ (i : InstrValue). argument_is_held i.arg) code

-- and so are those of a body
abbrev pub body_is_held : BodyValue → Bool
body_is_held b = nat_lt b.max (2 ^ 16) && nat_lt b.locals.table 0x100 && code_is_held b.code
    && list_all clause_fits b.clauses

-- a body has the form of one, its branches reach their targets, and it takes less than 2^32 bytes at most: its code,
-- 64 for its header and 28 for each clause
unfoldable pub body_assembles : BodyValue → Bool
body_assembles b = body_fits b && branches_reach 0 b.code
    && nat_lt (length_of_code b.code + 64 + 28 * length b.clauses) (2 ^ 32)

abbrev pub assembles_if : Option BodyValue → Bool
assembles_if None = true
assembles_if (Some b) = body_assembles b

-- so does the body that an edit gives
abbrev pub edit_assembles : Edit → Bool
edit_assembles e = assembles_if (body_given e)

-- a body that can be assembled wherever it is held
pub record Stands (b : BodyValue) : Type 0 where
  pub assembles : body_assembles b ≡ true
  pub held : body_is_held b ≡ true
