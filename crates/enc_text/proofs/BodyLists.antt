-- What the loops over a body have printed, and what is left to print.
use Rattle.std.proofs.Common.{◌≡◌, ℕ, suc, Bool, true, false, List, [], ◌++◌, map, drop, Option, Some, None, refl, sym, ap, ◌∙◌, append_assoc, append-nil}
use Rattle.std.specs.Prelude.{flat_map, is_some}
use Rattle.std.proofs.lemmas.Grind.{flat_map-append}
use Rattle.std.proofs.lemmas.List.{map-append}
use Rattle.enc_opcodes.specs.declared.code.Clause.{Clause}
use Rattle.enc_opcodes.specs.Instruction.{Instruction, instr_in, rest_of}
use Rattle.enc_opcodes.specs.Clause.{Section, clause_size, section_in, clause_in, clauses_in, clauses_of}
use Rattle.enc_opcodes.specs.Body.{instruction_told, handler_meant}
use Rattle.enc_opcodes.proofs.Instructions.{rest_none, rest_more}
use Rattle.enc_il.specs.Seen.{all_sections, behind_all}
use Rattle.enc_il.proofs.Sections.{all_none, behind_is, clauses_held, clauses_none, clauses_last, clauses_more}
use Rattle.enc_text.specs.BodyText.{instruction_text, handler_text}

-- the lines of instructions, and of clauses
abbrev pub lines : (ℕ → Option (List ℕ)) → List (ℕ × Instruction ℕ) → List ℕ
lines texts xs = flat_map instruction_text (map (instruction_told texts) xs)

abbrev pub clause_lines : List Clause → List ℕ
clause_lines cs = flat_map handler_text (map handler_meant cs)

-- one more is appended, and what was left was it and the rest
one_more : (new done here left rest all : List ℕ) → new ≡ done ++ here → left ≡ here ++ rest → done ++ left ≡ all → new ++ rest ≡ all
one_more new done here left rest all is split so = rw is (append_assoc done here rest ∙ ap (λ xs. done ++ xs) (sym split) ∙ so)

-- nothing is left
none_more : (done left all : List ℕ) → left ≡ [] → done ++ left ≡ all → done ≡ all
none_more done left all none so = sym (append-nil done) ∙ ap (λ xs. done ++ xs) (sym none) ∙ so

-- instructions
pub instruction_more : (texts : ℕ → Option (List ℕ)) (code : List ℕ) (at n : ℕ) (i : Instruction ℕ) (new done all : List ℕ) → Some (i, n) ≡ instr_in code at → new ≡ done ++ instruction_text (instruction_told texts (at, i)) → done ++ lines texts (rest_of code at) ≡ all → new ++ lines texts (rest_of code n) ≡ all
instruction_more texts code at n i new done all is more so = one_more new done (instruction_text (instruction_told texts (at, i))) (lines texts (rest_of code at)) (lines texts (rest_of code n)) all more (ap (lines texts) (rest_more code at n i (sym is))) so

pub instruction_none : (texts : ℕ → Option (List ℕ)) (code : List ℕ) (at : ℕ) (done all : List ℕ) → None ≡ instr_in code at → done ++ lines texts (rest_of code at) ≡ all → done ≡ all
instruction_none texts code at done all none so = none_more done (lines texts (rest_of code at)) all (ap (lines texts) (rest_none code at (sym none))) so

-- the clauses of a section
first_clause : (fat : Bool) (n m : ℕ) (bytes rest : List ℕ) (clause : Clause) → n ≡ suc m → rest ≡ drop (clause_size fat) bytes → clause ≡ clause_in fat bytes → clause_lines (clauses_in fat n bytes) ≡ handler_text (handler_meant clause) ++ clause_lines (clauses_in fat m rest)
unfolding clauses_in
first_clause fat n m bytes rest clause e behind is = rw (e, behind, ← is) refl

no_clauses : (fat : Bool) (n : ℕ) (bytes : List ℕ) → n ≡ 0 → clause_lines (clauses_in fat n bytes) ≡ []
unfolding clauses_in
no_clauses fat n bytes e = rw e refl

pub clause_more : (fat : Bool) (n m : ℕ) (bytes rest : List ℕ) (clause : Clause) (new done all : List ℕ) → n ≡ suc m → rest ≡ drop (clause_size fat) bytes → clause ≡ clause_in fat bytes → new ≡ done ++ handler_text (handler_meant clause) → done ++ clause_lines (clauses_in fat n bytes) ≡ all → new ++ clause_lines (clauses_in fat m rest) ≡ all
clause_more fat n m bytes rest clause new done all e behind is more so = one_more new done (handler_text (handler_meant clause)) (clause_lines (clauses_in fat n bytes)) (clause_lines (clauses_in fat m rest)) all more (first_clause fat n m bytes rest clause e behind is) so

pub clause_none : (fat : Bool) (n : ℕ) (bytes done all : List ℕ) → n ≡ 0 → done ++ clause_lines (clauses_in fat n bytes) ≡ all → done ≡ all
clause_none fat n bytes done all e so = none_more done (clause_lines (clauses_in fat n bytes)) all (no_clauses fat n bytes e) so

-- the clauses of sections
both_lines : (xs ys : List Clause) → clause_lines (xs ++ ys) ≡ clause_lines xs ++ clause_lines ys
both_lines xs ys = ap (flat_map handler_text) (map-append handler_meant xs ys) ∙ flat_map-append handler_text (map handler_meant xs) (map handler_meant ys)

pub section_last : (bytes : List ℕ) (x : Section × List ℕ) (new done all : List ℕ) → section_in bytes ≡ Some x → x.0.more ≡ false → new ≡ done ++ clause_lines (clauses_held x.0) → done ++ clause_lines (clauses_of bytes) ≡ all → new ≡ all
section_last bytes x new done all is last more so = more ∙ ap (λ cs. done ++ clause_lines cs) (sym (clauses_last bytes x is last)) ∙ so

pub section_more : (bytes : List ℕ) (x : Section × List ℕ) (new done all : List ℕ) → section_in bytes ≡ Some x → x.0.more ≡ true → is_some (all_sections bytes) ≡ true → new ≡ done ++ clause_lines (clauses_held x.0) → done ++ clause_lines (clauses_of bytes) ≡ all → new ++ clause_lines (clauses_of x.1) ≡ all
section_more bytes x new done all is another whole more so = one_more new done (clause_lines (clauses_held x.0)) (clause_lines (clauses_of bytes)) (clause_lines (clauses_of x.1)) all more (ap clause_lines (clauses_more bytes x is another whole) ∙ both_lines (clauses_held x.0) (clauses_of x.1)) so

-- sections that are whole don't end where none stands
pub never_none : (bytes : List ℕ) → section_in bytes ≡ None → is_some (all_sections bytes) ≡ true → ⊥
never_none bytes none whole = let e : false ≡ true = sym (ap is_some (all_none bytes none)) ∙ whole in absurd (cc)

-- sections that aren't have no lines
pub no_lines : (bytes old : List ℕ) → behind_all bytes ≡ None → old ≡ old ++ clause_lines (clauses_of bytes)
no_lines bytes old none = rw (clauses_none bytes (behind_is bytes none)) (sym (append-nil old))
