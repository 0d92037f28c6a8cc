-- The clauses that ask a filter, section by section.
use Rattle.std.proofs.Common.{◌≡◌, ℕ, zero, suc, ◌<◌, Bool, true, false, ◌&&◌, List, [], ◌∷◌, drop, Option, Some, None, refl, sym, ap, ◌∙◌, arith}
use Rattle.std.specs.Prelude.{◌==◌, ◌||◌, not, is_some, map}
use Rattle.std.specs.List.{list_any}
use Rattle.std.proofs.lemmas.Bool.Decides.{nat_tests}
use Rattle.std.proofs.lemmas.List.Folds.{list_any-append}
use Rattle.enc_opcodes.specs.declared.code.Clause.{Clause}
use Rattle.enc_opcodes.specs.declared.code.CodeRef.{CodeRef}
use Rattle.enc_opcodes.specs.Clause.{Section, clause_size, section_in, clause_in, clauses_in, clauses_of}
use Rattle.enc_opcodes.specs.Body.{Handler, handler_meant, kind_meant, body_of, code_seen}
use Rattle.enc_il.specs.Seen.{all_sections}
use Rattle.enc_il.proofs.Sections.{all_none, clauses_held, clauses_last, clauses_more, clauses_none}
use Rattle.enc_plain.specs.Module.{Module}
use Rattle.enc_machine_types.specs.Filters.{filters}
use Rattle.enc_machine_types.specs.Members.{is_filter, local_kinds, runs_body}

-- the clauses of a section, one by one
pub clause_filters : (p : Clause → Bool) (fat : Bool) (n : ℕ) (bytes : List ℕ) → 0 < n → p (clause_in fat bytes) ≡ true → list_any p (clauses_in fat n bytes) ≡ true
unfolding clauses_in
clause_filters p fat zero bytes some is = absurd (omega (arith, some))
clause_filters p fat (suc n) bytes some is = rw is refl

pub clause_passes : (p : Clause → Bool) (fat : Bool) (n m : ℕ) (bytes rest : List ℕ) → n ≡ suc m → rest ≡ drop (clause_size fat) bytes → p (clause_in fat bytes) ≡ false → list_any p (clauses_in fat n bytes) ≡ list_any p (clauses_in fat m rest)
unfolding clauses_in
clause_passes p fat n m bytes rest e behind is = rw (e, behind, is) refl

pub no_clauses : (p : Clause → Bool) (fat : Bool) (n : ℕ) (bytes : List ℕ) → n ≡ 0 → list_any p (clauses_in fat n bytes) ≡ false
unfolding clauses_in
no_clauses p fat n bytes e = rw e refl

-- the clauses of sections, section by section
pub last_section : (p : Clause → Bool) (bytes : List ℕ) (x : Section × List ℕ) → section_in bytes ≡ Some x → x.0.more ≡ false → list_any p (clauses_of bytes) ≡ list_any p (clauses_held x.0)
last_section p bytes x is last = ap (list_any p) (clauses_last bytes x is last)

more_sections : (p : Clause → Bool) (bytes : List ℕ) (x : Section × List ℕ) → section_in bytes ≡ Some x → x.0.more ≡ true → is_some (all_sections bytes) ≡ true → list_any p (clauses_of bytes) ≡ (list_any p (clauses_held x.0) || list_any p (clauses_of x.1))
more_sections p bytes x is more whole = ap (list_any p) (clauses_more bytes x is more whole) ∙ list_any-append p (clauses_held x.0) (clauses_of x.1)

by_more : (p : Clause → Bool) (bytes : List ℕ) (x : Section × List ℕ) (b : Bool) → section_in bytes ≡ Some x → x.0.more ≡ b → is_some (all_sections bytes) ≡ true → list_any p (clauses_held x.0) ≡ true → list_any p (clauses_of bytes) ≡ true
by_more p bytes x false is last whole held = last_section p bytes x is last ∙ held
by_more p bytes x true is more whole held = rw (more_sections p bytes x is more whole, held) refl

pub section_filters : (p : Clause → Bool) (bytes : List ℕ) (x : Section × List ℕ) → section_in bytes ≡ Some x → is_some (all_sections bytes) ≡ true → list_any p (clauses_held x.0) ≡ true → list_any p (clauses_of bytes) ≡ true
section_filters p bytes x is whole held = by_more p bytes x x.0.more is refl whole held

pub section_passes : (p : Clause → Bool) (bytes : List ℕ) (x : Section × List ℕ) → section_in bytes ≡ Some x → x.0.more ≡ true → is_some (all_sections bytes) ≡ true → list_any p (clauses_held x.0) ≡ false → list_any p (clauses_of bytes) ≡ list_any p (clauses_of x.1)
section_passes p bytes x is more whole held = rw (more_sections p bytes x is more whole, held) refl

-- sections that are whole don't end where none stands
pub never_none : (bytes : List ℕ) → section_in bytes ≡ None → is_some (all_sections bytes) ≡ true → ⊥
never_none bytes none whole = let e : false ≡ true = sym (ap is_some (all_none bytes none)) ∙ whole in absurd (cc)

-- sections of which one isn't whole have no clauses
pub none_whole : (p : Clause → Bool) (bytes : List ℕ) → all_sections bytes ≡ None → false ≡ list_any p (clauses_of bytes)
none_whole p bytes e = rw (clauses_none bytes e) refl

-- a handler asks a filter where its clause says so
filter_kind : (kind extra : ℕ) (a b c : Bool) → (kind == 4) ≡ a → (kind == 2) ≡ b → (kind == 1) ≡ c → is_filter (kind_meant kind extra) ≡ (kind == 1)
filter_kind kind extra true b c e f g = rw e (grind (arith, nat_tests))
filter_kind kind extra false true c e f g = rw (e, f) (grind (arith, nat_tests))
filter_kind kind extra false false true e f g = rw (e, f, g) refl
filter_kind kind extra false false false e f g = rw (e, f, g) refl

handlers_filter : (cs : List Clause) → list_any (λ (h : Handler). is_filter h.kind) (map handler_meant cs) ≡ list_any filters cs
handlers_filter [] = refl
handlers_filter (c ∷ cs) = rw (filter_kind c.kind c.extra (c.kind == 4) (c.kind == 2) (c.kind == 1) refl refl refl, handlers_filter cs) refl

-- which bodies are run
pub runs_is : (m : Module) (texts : ℕ → Option (List ℕ)) (c : CodeRef) → (is_some (local_kinds m c.locals) && not (list_any filters (clauses_of c.sections.now))) ≡ runs_body m (body_of texts (code_seen c))
unfolding runs_body body_of
runs_is m texts c = rw (handlers_filter (clauses_of c.sections.now)) refl

-- by the number of a clause's kind
pub kind_filters : (c d : Clause) → c ≡ d → c.kind ≡ 1 → filters d ≡ true
kind_filters c d e is = rw (← e, is) refl

pub kind_passes : (c d : Clause) → c ≡ d → (c.kind ≡ 1 → ⊥) → filters d ≡ false
kind_passes c d e other = rw (← e) (grind (arith, nat_tests))
