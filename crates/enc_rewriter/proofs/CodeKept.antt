-- A body that is good is good still where no table has fewer rows.
use Rattle.std.proofs.Common.{◌≡◌, ℕ, zero, suc, Bool, true, false, List, [], ◌∷◌, length, Option, Some, None, refl}
use Rattle.std.specs.Prelude.{◌&&◌, ◌||◌, ◌==◌, ◌%◌, not, if◌then◌else◌}
use Rattle.std.specs.List.{list_all}
use Rattle.std.proofs.lemmas.Bool.{and_parts, and_from}
use Rattle.enc_base.specs.Token.{token_of}
use Rattle.enc_meta.specs.Regions.{Region}
use Rattle.enc_opcodes.specs.Body.{Code, is_named, is_user, is_instruction_start, arg_is_good, instruction_is_good, range_is_good, extra_is_good, clause_is_good, locals_are_good, is_good, texts_are_there}
use Rattle.enc_opcodes.specs.Clause.{clauses_of}
use Rattle.enc_opcodes.specs.Instruction.{Argument, nothing, number, target, targets, token, text, raw, Instruction, end_of, instructions_of}
use Rattle.enc_opcodes.specs.declared.code.Clause.{Clause}
use Rattle.enc_opcodes.specs.declared.op.Operand.{Operand}
use Rattle.enc_opcodes.proofs.Sounds.{Grow, named_kept, locals_kept}
use Rattle.enc_plain.specs.Bodies.{code_loaded, code_is_good, body_is_good}

all_kept : {A : Type 0} (p q : A → Bool) (xs : List A) → ((x : A) → p x ≡ true → q x ≡ true) → list_all p xs ≡ true → list_all q xs ≡ true
all_kept p q [] keeps all = refl
all_kept p q (x ∷ xs) keeps all =
    let a = and_parts (p x) (list_all p xs) all in
    and_from (q x) (list_all q xs) (keeps x a.0) (all_kept p q xs keeps a.1)

arg_kept : (f g : ℕ → ℕ) (p : ℕ → Bool) (o : Operand) (a : Argument ℕ) → Grow f g → arg_is_good f p o a ≡ true → arg_is_good g p o a ≡ true
arg_kept f g p o nothing grow h = refl
arg_kept f g p o (number n) grow h = refl
arg_kept f g p o (target t) grow h = h
arg_kept f g p o (targets ts) grow h = h
arg_kept f g p o (token t) grow h =
    let a = and_parts (not (is_user o)) (is_named f t) h in
    and_from (not (is_user o)) (is_named g t) a.0 (named_kept f g t grow a.1)
arg_kept f g p o (text offset) grow h = refl
arg_kept f g p o (raw bytes) grow h = refl

instruction_kept : (f g : ℕ → ℕ) (p : ℕ → Bool) (x : ℕ × Instruction ℕ) → Grow f g → instruction_is_good f p x ≡ true → instruction_is_good g p x ≡ true
unfolding instruction_is_good
instruction_kept f g p x grow h = arg_kept f g p x.1.op.operand x.1.arg grow h

extra_kept : (f g : ℕ → ℕ) (p : ℕ → Bool) (e : ℕ) (a b c : Bool) → Grow f g → (if a then is_named f (token_of e) else if b then p e else c) ≡ true
    → (if a then is_named g (token_of e) else if b then p e else c) ≡ true
extra_kept f g p e true b c grow h = named_kept f g (token_of e) grow h
extra_kept f g p e false b c grow h = h

clause_kept : (f g : ℕ → ℕ) (p : ℕ → Bool) (size : ℕ) (c : Clause) → Grow f g → clause_is_good f p size c ≡ true → clause_is_good g p size c ≡ true
unfolding clause_is_good
clause_kept f g p size c grow h =
    let a = and_parts (range_is_good p size c.tries && range_is_good p size c.handler) (extra_is_good f p c.kind c.extra) h in
    and_from (range_is_good p size c.tries && range_is_good p size c.handler) (extra_is_good g p c.kind c.extra) a.0
    (extra_kept f g p c.extra (c.kind == 0) (c.kind == 1) (c.kind == 2 || c.kind == 4) grow a.1)

good_kept : (f g : ℕ → ℕ) (c : Code) → Grow f g → is_good f c ≡ true → is_good g c ≡ true
unfolding is_good
good_kept f g c grow h =
    let all = instructions_of c.code in
    let starts = is_instruction_start all in
    let d = and_parts (end_of c.code 0 == length c.code && list_all (instruction_is_good f (is_instruction_start all)) all && list_all (clause_is_good f (is_instruction_start all) (length c.code)) (clauses_of c.sections)) (locals_are_good f c.locals) h in
    let b = and_parts (end_of c.code 0 == length c.code && list_all (instruction_is_good f (is_instruction_start all)) all) (list_all (clause_is_good f (is_instruction_start all) (length c.code)) (clauses_of c.sections)) d.0 in
    let a = and_parts (end_of c.code 0 == length c.code) (list_all (instruction_is_good f (is_instruction_start all)) all) b.0 in
    let instructions = all_kept (instruction_is_good f starts) (instruction_is_good g starts) all (λ x e. instruction_kept f g starts x grow e) a.1 in
    let clauses = all_kept (clause_is_good f starts (length c.code)) (clause_is_good g starts (length c.code)) (clauses_of c.sections) (λ x e. clause_kept f g starts (length c.code) x grow e) b.1 in
    and_from _ _ (and_from _ _ (and_from _ _ a.0 instructions) clauses) (locals_kept f g c.locals grow d.1)

code_kept : (f g : ℕ → ℕ) (texts : ℕ → Option (List ℕ)) (o : Option Code) → Grow f g → code_is_good f texts o ≡ true → code_is_good g texts o ≡ true
code_kept f g texts None grow h = h
code_kept f g texts (Some c) grow h =
    let a = and_parts (is_good f c) (texts_are_there texts c.code) h in
    and_from (is_good g c) (texts_are_there texts c.code) (good_kept f g c grow a.0) a.1

pub body_kept : (f g : ℕ → ℕ) (texts : ℕ → Option (List ℕ)) (regions : List Region) (n flags : ℕ) → Grow f g → body_is_good f texts regions n flags ≡ true
    → body_is_good g texts regions n flags ≡ true
unfolding body_is_good
body_kept f g texts regions zero flags grow h = refl
body_kept f g texts regions (suc n) flags grow h =
    let a = and_parts (flags % 4 == 0) (code_is_good f texts (code_loaded regions (suc n))) h in
    and_from (flags % 4 == 0) (code_is_good g texts (code_loaded regions (suc n))) a.0 (code_kept f g texts (code_loaded regions (suc n)) grow a.1)
