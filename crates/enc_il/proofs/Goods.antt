-- How the parts of a body's judgement come together.
use Rattle.std.proofs.Common.{◌≡◌, ℕ, zero, suc, ◌-◌, ◌<◌, Bool, true, false, ◌&&◌, List, length, drop, Some, None, refl, sym, ap, ◌∙◌, arith}
use Rattle.std.specs.Prelude.{◌==◌, is_some}
use Rattle.std.proofs.lemmas.Bool.Decides.{nat_tests}
use Rattle.std.specs.List.{list_all}
use Rattle.std.proofs.Math.Path.{fun_ext}
use Rattle.std.proofs.lemmas.List.Folds.{list_all-append}
use Rattle.enc_opcodes.specs.declared.code.Clause.{Clause}
use Rattle.enc_opcodes.specs.Instruction.{instructions_of, end_of}
use Rattle.enc_opcodes.specs.Clause.{Section, clause_size, section_in, clause_in, clauses_in, clauses_of}
use Rattle.enc_opcodes.specs.Body.{Code, is_instruction_start, instruction_is_good, clause_is_good, locals_are_good, is_good}
use Rattle.enc_il.specs.Judged.{mark_at}
use Rattle.enc_il.specs.Seen.{all_sections}
use Rattle.enc_il.proofs.Sections.{all_none, clauses_held, clauses_last, clauses_more}

-- a body is good by the marks of where its instructions begin
good_by_marks : (count : ℕ → ℕ) (c : Code) (marks : List Bool) → ((t : ℕ) → mark_at marks t ≡ is_instruction_start (instructions_of c.code) t) → is_good count c ≡ (end_of c.code 0 == length c.code && list_all (instruction_is_good count (mark_at marks)) (instructions_of c.code) && list_all (clause_is_good count (mark_at marks) (length c.code)) (clauses_of c.sections) && locals_are_good count c.locals)
unfolding is_good
good_by_marks count c marks marked =
    let e : mark_at marks ≡ is_instruction_start (instructions_of c.code) = fun_ext marked in
    rw e refl

-- what one pass over its code found
abbrev pub Found : (ℕ → ℕ) → Code → Bool → List ℕ → Type 0
Found count c rows targets = (starts : ℕ → Bool) → list_all (instruction_is_good count starts) (instructions_of c.code) ≡ (rows && list_all starts targets)

is_true : (m n : ℕ) → m ≡ n → (m == n) ≡ true
is_true m n e = grind (arith, nat_tests)

is_false : (m n : ℕ) → (m ≡ n → ⊥) → (m == n) ≡ false
is_false m n other = grind (arith, nat_tests)

-- code that isn't whole instructions is not good
pub not_whole : (count : ℕ → ℕ) (c : Code) (end : ℕ) → end ≡ end_of c.code 0 → (end ≡ length c.code → ⊥) → false ≡ is_good count c
unfolding is_good
not_whole count c end is other =
    let e : (end_of c.code 0 == length c.code) ≡ false = is_false (end_of c.code 0) (length c.code) (λ h. other (is ∙ h)) in
    rw e refl

-- code with a token that is no row is not good
pub not_rows : (count : ℕ → ℕ) (c : Code) (rows : Bool) (targets : List ℕ) → Found count c rows targets → rows ≡ false → false ≡ is_good count c
unfolding is_good
not_rows count c rows targets found bad =
    let e : list_all (instruction_is_good count (is_instruction_start (instructions_of c.code))) (instructions_of c.code) ≡ false = found (is_instruction_start (instructions_of c.code)) ∙ rw bad refl in
    rw e (by_end (end_of c.code 0 == length c.code) (list_all (clause_is_good count (is_instruction_start (instructions_of c.code)) (length c.code)) (clauses_of c.sections)) (locals_are_good count c.locals))
  where
    by_end : (end clauses locals : Bool) → false ≡ (end && false && clauses && locals)
    by_end true clauses locals = refl
    by_end false clauses locals = refl

-- code that is whole, and names rows, is as good as its parts
pub whole_parts : (count : ℕ → ℕ) (c : Code) (marks : List Bool) (end : ℕ) (rows : Bool) (targets : List ℕ) (parts : Bool) → ((t : ℕ) → mark_at marks t ≡ is_instruction_start (instructions_of c.code) t) → end ≡ end_of c.code 0 → Found count c rows targets → end ≡ length c.code → rows ≡ true → parts ≡ (list_all (mark_at marks) targets && list_all (clause_is_good count (mark_at marks) (length c.code)) (clauses_of c.sections) && locals_are_good count c.locals) → parts ≡ is_good count c
whole_parts count c marks end rows targets parts marked is found whole all good =
    let e : (end_of c.code 0 == length c.code) ≡ true = is_true (end_of c.code 0) (length c.code) (sym is ∙ whole) in
    let f : list_all (instruction_is_good count (mark_at marks)) (instructions_of c.code) ≡ list_all (mark_at marks) targets = found (mark_at marks) ∙ rw all refl in
    good ∙ sym (good_by_marks count c marks marked ∙ rw (e, f) refl)

-- the clauses of a section, one by one
first_clause : (p : Clause → Bool) (fat : Bool) (n : ℕ) (bytes : List ℕ) → 0 < n → list_all p (clauses_in fat n bytes) ≡ (p (clause_in fat bytes) && list_all p (clauses_in fat (n - 1) (drop (clause_size fat) bytes)))
unfolding clauses_in
first_clause p fat zero bytes lt = absurd (omega (arith, lt))
first_clause p fat (suc n) bytes lt = let e : suc n - 1 ≡ n = omega arith in rw e refl

pub bad_clause : (p : Clause → Bool) (fat : Bool) (n : ℕ) (bytes : List ℕ) (clause : Clause) → 0 < n → clause ≡ clause_in fat bytes → p clause ≡ false → list_all p (clauses_in fat n bytes) ≡ false
bad_clause p fat n bytes clause some is bad = rw (first_clause p fat n bytes some, ← is, bad) refl

pub good_clause : (p : Clause → Bool) (fat : Bool) (n m : ℕ) (bytes rest : List ℕ) (clause : Clause) → n ≡ suc m → rest ≡ drop (clause_size fat) bytes → clause ≡ clause_in fat bytes → p clause ≡ true → list_all p (clauses_in fat n bytes) ≡ list_all p (clauses_in fat m rest)
unfolding clauses_in
good_clause p fat n m bytes rest clause e behind is good = rw (e, behind, ← is, good) refl

pub no_clauses : (p : Clause → Bool) (fat : Bool) (n : ℕ) (bytes : List ℕ) → n ≡ 0 → list_all p (clauses_in fat n bytes) ≡ true
unfolding clauses_in
no_clauses p fat n bytes e = rw e refl

-- the clauses of sections, section by section
pub last_section : (p : Clause → Bool) (bytes : List ℕ) (x : Section × List ℕ) → section_in bytes ≡ Some x → x.0.more ≡ false → list_all p (clauses_of bytes) ≡ list_all p (clauses_held x.0)
last_section p bytes x is last = ap (list_all p) (clauses_last bytes x is last)

pub more_sections : (p : Clause → Bool) (bytes : List ℕ) (x : Section × List ℕ) → section_in bytes ≡ Some x → x.0.more ≡ true → is_some (all_sections bytes) ≡ true → list_all p (clauses_of bytes) ≡ (list_all p (clauses_held x.0) && list_all p (clauses_of x.1))
more_sections p bytes x is more whole = ap (list_all p) (clauses_more bytes x is more whole) ∙ list_all-append p (clauses_held x.0) (clauses_of x.1)

by_more : (p : Clause → Bool) (bytes : List ℕ) (x : Section × List ℕ) (b : Bool) → section_in bytes ≡ Some x → x.0.more ≡ b → is_some (all_sections bytes) ≡ true → list_all p (clauses_held x.0) ≡ false → list_all p (clauses_of bytes) ≡ false
by_more p bytes x false is last whole bad = last_section p bytes x is last ∙ bad
by_more p bytes x true is more whole bad = rw (more_sections p bytes x is more whole, bad) refl

pub bad_section : (p : Clause → Bool) (bytes : List ℕ) (x : Section × List ℕ) → section_in bytes ≡ Some x → is_some (all_sections bytes) ≡ true → list_all p (clauses_held x.0) ≡ false → list_all p (clauses_of bytes) ≡ false
bad_section p bytes x is whole bad = by_more p bytes x x.0.more is refl whole bad

pub good_section : (p : Clause → Bool) (bytes : List ℕ) (x : Section × List ℕ) → section_in bytes ≡ Some x → x.0.more ≡ true → is_some (all_sections bytes) ≡ true → list_all p (clauses_held x.0) ≡ true → list_all p (clauses_of bytes) ≡ list_all p (clauses_of x.1)
good_section p bytes x is more whole good = rw (more_sections p bytes x is more whole, good) refl

-- sections that are whole don't end where none stands
pub never_none : (bytes : List ℕ) → section_in bytes ≡ None → is_some (all_sections bytes) ≡ true → ⊥
never_none bytes none whole = let e : false ≡ true = sym (ap is_some (all_none bytes none)) ∙ whole in absurd (cc)
