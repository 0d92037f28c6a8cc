-- What a body means and whether it is good, by texts and by numbers of rows that agree where it counts.
use Rattle.std.proofs.Common.{◌≡◌, ℕ, ◌<◌, ◌≤◌, Bool, true, false, List, [], ◌∷◌, length, map, Option, Some, None, refl, ap, arith, inl, inr}
use Rattle.std.specs.Prelude.{is_some, unwrap_or, ◌==◌}
use Rattle.std.specs.List.{list_all}
use Rattle.std.proofs.lemmas.Bool.{cases_lt, and_parts}
use Rattle.std.proofs.lemmas.Bool.Decides.{nat_tests}
use Rattle.enc_base.specs.Token.{token_of}
use Rattle.enc_base.specs.declared.token.Token.{Token}
use Rattle.enc_base.specs.Units.{units_of}
use Rattle.enc_opcodes.specs.declared.op.Operand.{Operand}
use Rattle.enc_opcodes.specs.declared.code.Clause.{Clause}
use Rattle.enc_opcodes.specs.Instruction.{Argument, nothing, number, target, targets, token, text, raw, Instruction, instructions_of}
use Rattle.enc_opcodes.specs.Clause.{clauses_of}
use Rattle.enc_opcodes.specs.Body.{KeepsTexts, Code, told, instruction_told, body_of, may_name, is_named, is_instruction_start, arg_is_good, instruction_is_good, clause_is_good, locals_are_good, is_good, text_is_there, texts_are_there}

told_by : (f g : ℕ → Option (List ℕ)) (offset : ℕ) (o : Option (List ℕ)) → f offset ≡ o → is_some o ≡ true → KeepsTexts f g → unwrap_or (f offset) [] ≡ unwrap_or (g offset) []
told_by f g offset None is there keeps = absurd (cc)
told_by f g offset (Some x) is there keeps = rw (is, keeps offset x is) refl

arg_alike : (f g : ℕ → Option (List ℕ)) (a : Argument ℕ) → text_is_there f a ≡ true → KeepsTexts f g → told f a ≡ told g a
arg_alike f g nothing there keeps = refl
arg_alike f g (number n) there keeps = refl
arg_alike f g (target t) there keeps = refl
arg_alike f g (targets ts) there keeps = refl
arg_alike f g (token t) there keeps = refl
arg_alike f g (text offset) there keeps = ap (λ (x : List ℕ). text (units_of x)) (told_by f g offset (f offset) refl there keeps)
arg_alike f g (raw bytes) there keeps = refl

one_alike : (f g : ℕ → Option (List ℕ)) (x : ℕ × Instruction ℕ) → text_is_there f x.1.arg ≡ true → KeepsTexts f g → instruction_told f x ≡ instruction_told g x
one_alike f g x there keeps = ap (λ (a : Argument (List ℕ)). let i : Instruction (List ℕ) = record { op = x.1.op; arg = a } in (x.0, i)) (arg_alike f g x.1.arg there keeps)

list_alike : (f g : ℕ → Option (List ℕ)) (xs : List (ℕ × Instruction ℕ)) → list_all (λ (x : ℕ × Instruction ℕ). text_is_there f x.1.arg) xs ≡ true → KeepsTexts f g → map (instruction_told f) xs ≡ map (instruction_told g) xs
list_alike f g [] there keeps = refl
list_alike f g (x ∷ xs) there keeps =
    let h = and_parts (text_is_there f x.1.arg) (list_all (λ (y : ℕ × Instruction ℕ). text_is_there f y.1.arg) xs) there in
    rw (one_alike f g x h.0 keeps, list_alike f g xs h.1 keeps) refl

pub told_alike : (f g : ℕ → Option (List ℕ)) (code : List ℕ) → texts_are_there f code ≡ true → ((o : ℕ) (x : List ℕ) → f o ≡ Some x → g o ≡ Some x) → map (instruction_told f) (instructions_of code) ≡ map (instruction_told g) (instructions_of code)
unfolding texts_are_there
told_alike f g code there keeps = list_alike f g (instructions_of code) there keeps

pub body_told_alike : (f g : ℕ → Option (List ℕ)) (c : Code) → texts_are_there f c.code ≡ true → ((o : ℕ) (x : List ℕ) → f o ≡ Some x → g o ≡ Some x) → body_of f c ≡ body_of g c
unfolding body_of
body_told_alike f g c there keeps = rw (told_alike f g c.code there keeps) refl

-- the same texts are there
all_alike : {X : Type 0} (p q : X → Bool) (xs : List X) → ((x : X) → p x ≡ q x) → list_all p xs ≡ list_all q xs
all_alike p q [] same = refl
all_alike p q (x ∷ xs) same = rw (same x, all_alike p q xs same) refl

there_one : (f g : ℕ → Option (List ℕ)) (a : Argument ℕ) → ((o : ℕ) → is_some (f o) ≡ is_some (g o)) → text_is_there f a ≡ text_is_there g a
there_one f g nothing same = refl
there_one f g (number n) same = refl
there_one f g (target t) same = refl
there_one f g (targets ts) same = refl
there_one f g (token t) same = refl
there_one f g (text offset) same = same offset
there_one f g (raw bytes) same = refl

pub there_alike : (f g : ℕ → Option (List ℕ)) (code : List ℕ) → ((o : ℕ) → is_some (f o) ≡ is_some (g o)) → texts_are_there f code ≡ texts_are_there g code
unfolding texts_are_there
there_alike f g code same = all_alike _ _ (instructions_of code) (λ (x : ℕ × Instruction ℕ). there_one f g x.1.arg same)

-- numbers of rows that agree on the tables of metadata judge the same
abbrev pub SameRows : (ℕ → ℕ) → (ℕ → ℕ) → Type 0
SameRows f g = (t : ℕ) → t < 64 → f t ≡ g t

not_it : (k n : ℕ) → k < 64 → 64 ≤ n → (k == n) ≡ false
not_it k n lt le = grind (arith, nat_tests)

none_named : (n : ℕ) → 64 ≤ n → may_name n ≡ false
none_named n le =
    rw (not_it 0x01 n (omega arith) le, not_it 0x02 n (omega arith) le, not_it 0x04 n (omega arith) le, not_it 0x06 n (omega arith) le, not_it 0x0A n (omega arith) le, not_it 0x11 n (omega arith) le, not_it 0x1B n (omega arith) le, not_it 0x2B n (omega arith) le) refl

pub named_alike : (f g : ℕ → ℕ) (t : Token) → SameRows f g → is_named f t ≡ is_named g t
unfolding is_named
named_alike f g t same =
    elim (cases_lt t.table 64) [
      | inl lt ↦ rw (same t.table lt) refl
      | inr le ↦ rw (none_named t.table le) refl
    ]

arg_good_alike : (f g : ℕ → ℕ) (starts : ℕ → Bool) (o : Operand) (a : Argument ℕ) → SameRows f g → arg_is_good f starts o a ≡ arg_is_good g starts o a
arg_good_alike f g starts o nothing same = refl
arg_good_alike f g starts o (number n) same = refl
arg_good_alike f g starts o (target t) same = refl
arg_good_alike f g starts o (targets ts) same = refl
arg_good_alike f g starts o (token t) same = rw (named_alike f g t same) refl
arg_good_alike f g starts o (text offset) same = refl
arg_good_alike f g starts o (raw bytes) same = refl

one_good_alike : (f g : ℕ → ℕ) (starts : ℕ → Bool) (x : ℕ × Instruction ℕ) → SameRows f g → instruction_is_good f starts x ≡ instruction_is_good g starts x
unfolding instruction_is_good
one_good_alike f g starts x same = arg_good_alike f g starts x.1.op.operand x.1.arg same

clause_alike : (f g : ℕ → ℕ) (starts : ℕ → Bool) (size : ℕ) (c : Clause) → SameRows f g → clause_is_good f starts size c ≡ clause_is_good g starts size c
unfolding clause_is_good
clause_alike f g starts size c same = rw (named_alike f g (token_of c.extra) same) refl

locals_alike : (f g : ℕ → ℕ) (t : Token) → SameRows f g → locals_are_good f t ≡ locals_are_good g t
unfolding locals_are_good
locals_alike f g t same = rw (same 0x11 (omega arith)) refl

pub good_alike : (f g : ℕ → ℕ) (c : Code) → ((t : ℕ) → t < 64 → f t ≡ g t) → is_good f c ≡ is_good g c
unfolding is_good
good_alike f g c same =
    rw (all_alike (instruction_is_good f (is_instruction_start (instructions_of c.code))) (instruction_is_good g (is_instruction_start (instructions_of c.code))) (instructions_of c.code) (λ (x : ℕ × Instruction ℕ). one_good_alike f g (is_instruction_start (instructions_of c.code)) x same)) (
    rw (all_alike (clause_is_good f (is_instruction_start (instructions_of c.code)) (length c.code)) (clause_is_good g (is_instruction_start (instructions_of c.code)) (length c.code)) (clauses_of c.sections) (λ (x : Clause). clause_alike f g (is_instruction_start (instructions_of c.code)) (length c.code) x same)) (
    rw (locals_alike f g c.locals same) refl))
