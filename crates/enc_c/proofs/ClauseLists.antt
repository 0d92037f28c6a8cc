-- What the loops over a body's clauses have told, and what is left to tell.
use Rattle.std.proofs.Common.{◌≡◌, ℕ, suc, Bool, true, false, List, [], ◌∷◌, ◌++◌, map, drop, Option, Some, None, refl, sym, ap, ◌∙◌, append_assoc, append-nil}
use Rattle.std.specs.Prelude.{is_some, Ok}
use Rattle.std.proofs.lemmas.List.{map-append}
use Rattle.enc_opcodes.specs.declared.code.Clause.{Clause}
use Rattle.enc_opcodes.specs.Clause.{Section, clause_size, section_in, clause_in, clauses_in, clauses_of}
use Rattle.enc_base.specs.declared.token.Token.{Token}
use Rattle.enc_opcodes.specs.Body.{Code, body_of, handler_meant}
use Rattle.enc_il.specs.Seen.{all_sections, behind_all}
use Rattle.enc_il.proofs.Sections.{behind_is, clauses_held, clauses_none, clauses_last, clauses_more}
use Rattle.enc_plain.specs.Module.{Module}
use Rattle.enc_c.specs.Clauses.{asked_clauses, clause_numbers}
use Rattle.enc_c.specs.Code.{asked_body}
use Rattle.enc_c.specs.declared.clauses.ClauseNumbers.{ClauseNumbers}

-- the numbers of clauses
abbrev pub numbered : List Clause → List ClauseNumbers
numbered cs = map clause_numbers (map handler_meant cs)

-- one more is told, and what was left was it and the rest
one_more : (new done here left rest all : List ClauseNumbers) → new ≡ done ++ here → left ≡ here ++ rest → done ++ left ≡ all → new ++ rest ≡ all
one_more new done here left rest all is split so = rw is (append_assoc done here rest ∙ ap (λ xs. done ++ xs) (sym split) ∙ so)

-- nothing is left
none_more : (done left all : List ClauseNumbers) → left ≡ [] → done ++ left ≡ all → done ≡ all
none_more done left all none so = sym (append-nil done) ∙ ap (λ xs. done ++ xs) (sym none) ∙ so

-- the clauses of a section
first_clause : (fat : Bool) (n m : ℕ) (bytes rest : List ℕ) (c : ClauseNumbers) → n ≡ suc m → rest ≡ drop (clause_size fat) bytes
    → c ≡ clause_numbers (handler_meant (clause_in fat bytes)) → numbered (clauses_in fat n bytes) ≡ (c ∷ []) ++ numbered (clauses_in fat m rest)
unfolding clauses_in
first_clause fat n m bytes rest c e behind is = rw (e, behind, is) refl

no_clauses : (fat : Bool) (n : ℕ) (bytes : List ℕ) → n ≡ 0 → numbered (clauses_in fat n bytes) ≡ []
unfolding clauses_in
no_clauses fat n bytes e = rw e refl

pub clause_more : (fat : Bool) (n m : ℕ) (bytes rest : List ℕ) (c : ClauseNumbers) (new done all : List ClauseNumbers) → n ≡ suc m
    → rest ≡ drop (clause_size fat) bytes → c ≡ clause_numbers (handler_meant (clause_in fat bytes)) → new ≡ done ++ c ∷ []
    → done ++ numbered (clauses_in fat n bytes) ≡ all → new ++ numbered (clauses_in fat m rest) ≡ all
clause_more fat n m bytes rest c new done all e behind is more so =
    one_more new done (c ∷ []) (numbered (clauses_in fat n bytes)) (numbered (clauses_in fat m rest)) all more
    (first_clause fat n m bytes rest c e behind is) so

pub clause_none : (fat : Bool) (n : ℕ) (bytes : List ℕ) (done all : List ClauseNumbers) → n ≡ 0 → done ++ numbered (clauses_in fat n bytes) ≡ all → done ≡ all
clause_none fat n bytes done all e so = none_more done (numbered (clauses_in fat n bytes)) all (no_clauses fat n bytes e) so

-- the clauses of sections
both_numbered : (xs ys : List Clause) → numbered (xs ++ ys) ≡ numbered xs ++ numbered ys
both_numbered xs ys = ap (map clause_numbers) (map-append handler_meant xs ys) ∙ map-append clause_numbers (map handler_meant xs) (map handler_meant ys)

pub section_last : (bytes : List ℕ) (x : Section × List ℕ) (new done all : List ClauseNumbers) → section_in bytes ≡ Some x → x.0.more ≡ false
    → new ≡ done ++ numbered (clauses_held x.0) → done ++ numbered (clauses_of bytes) ≡ all → new ≡ all
section_last bytes x new done all is last more so = more ∙ ap (λ cs. done ++ numbered cs) (sym (clauses_last bytes x is last)) ∙ so

pub section_more : (bytes : List ℕ) (x : Section × List ℕ) (new done all : List ClauseNumbers) → section_in bytes ≡ Some x → x.0.more ≡ true
    → is_some (all_sections bytes) ≡ true → new ≡ done ++ numbered (clauses_held x.0) → done ++ numbered (clauses_of bytes) ≡ all
    → new ++ numbered (clauses_of x.1) ≡ all
section_more bytes x new done all is another whole more so =
    one_more new done (numbered (clauses_held x.0)) (numbered (clauses_of bytes)) (numbered (clauses_of x.1)) all more
    (ap numbered (clauses_more bytes x is another whole) ∙ both_numbered (clauses_held x.0) (clauses_of x.1)) so

-- sections of which one isn't whole have none
pub none_numbered : (bytes : List ℕ) → behind_all bytes ≡ None → [] ≡ numbered (clauses_of bytes)
none_numbered bytes none = rw (clauses_none bytes (behind_is bytes none)) refl

-- the clauses of a body are those that are asked for
pub clauses_asked : (users : ℕ → Option (List ℕ)) (c : Code) (m : Module) (t : Token) (items : List ClauseNumbers) → Ok (body_of users c) ≡ asked_body m t
    → items ≡ numbered (clauses_of c.sections) → Ok items ≡ asked_clauses m t
unfolding asked_clauses body_of
clauses_asked users c m t items e is = rw (← e) (ap Ok is)
