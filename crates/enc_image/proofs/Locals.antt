-- The local signature of a good body is a row.
use Rattle.std.proofs.Common.{◌≡◌, ℕ, ◌<◌, ◌≤◌, Bool, true, false, length, refl, sym, ◌∙◌, arith}
use Rattle.std.specs.Prelude.{◌&&◌, ◌||◌, ◌==◌, nat_le, IsTrue}
use Rattle.std.proofs.lemmas.Bool.Decides.{nat_tests}
use Rattle.enc_base.specs.declared.token.Token.{Token}
use Rattle.enc_opcodes.specs.Body.{Code, is_instruction_start, instruction_is_good, clause_is_good, is_good, locals_are_good}
use Rattle.enc_opcodes.specs.Clause.{clauses_of}
use Rattle.enc_opcodes.specs.Instruction.{instructions_of, end_of}
use Rattle.std.specs.List.{list_all}
use Rattle.enc_rows.specs.Layout.{Layout, rows_of, stream_has_row}

parts : (table row n : ℕ) → (row == 0 || table == 0x11 && nat_le row n) ≡ true → (row == 0) ≡ false → (table ≡ 0x11) × (row ≤ n) × (0 < row)
parts table row n good some = (grind (arith, nat_tests), grind (arith, nat_tests), grind (arith, nat_tests))

pub locals_row : (l : Layout) (t : Token) → IsTrue (locals_are_good (rows_of l) t) → (t.row == 0) ≡ false → (t.table ≡ 0x11) × IsTrue (stream_has_row l t)
unfolding locals_are_good
locals_row l t good some =
    let p = parts t.table t.row (rows_of l 0x11) good some in
    (p.0, rw p.0 (grind (arith, nat_tests, p.1, p.2)))

last : (a b c d : Bool) → (a && b && c && d) ≡ true → d ≡ true
last a b c true h = refl
last true true true false h = h
last true true false false h = h
last true false c false h = h
last false b c false h = h

first : (a b : Bool) → (a && b) ≡ true → a ≡ true
first true b h = refl
first false b h = h

-- a good body has a good one
pub good_locals : (count : ℕ → ℕ) (c : Code) (texts good : Bool) → good ≡ (is_good count c && texts) → good ≡ true → IsTrue (locals_are_good count c.locals)
unfolding is_good
good_locals count c texts good is whole = last (end_of c.code 0 == length c.code) (list_all (instruction_is_good count (is_instruction_start (instructions_of c.code))) (instructions_of c.code)) (list_all (clause_is_good count (is_instruction_start (instructions_of c.code)) (length c.code)) (clauses_of c.sections)) (locals_are_good count c.locals) (first _ texts (sym is ∙ whole))
