-- A body whose instructions and clauses are those of another with their tokens moved.
use Rattle.std.proofs.Common.{◌≡◌, ℕ, List, [], ◌∷◌, length, map, Option, None, refl, ap, subst, ◌∙◌}
use Rattle.std.specs.List.{list_all}
use Rattle.enc_base.specs.declared.token.Token.{Token}
use Rattle.enc_opcodes.specs.Body.{Code, told, instruction_told, body_of, text_is_there, texts_are_there}
use Rattle.enc_opcodes.specs.Instruction.{Argument, nothing, number, target, targets, token, text, raw, Instruction, instructions_of}
use Rattle.enc_token_map.specs.Body.{argument_moved, instruction_moved, body_moved, MeansMoved}
use Rattle.enc_token_map.specs.Copied.{IsMovedFrom, AreMoved}
use Rattle.enc_token_map.specs.Held.{held_code}

-- texts are told whether tokens are moved before or after
arg_told : (f : Token → Token) (texts : ℕ → Option (List ℕ)) (a : Argument ℕ) → told texts (argument_moved f a) ≡ argument_moved f (told texts a)
arg_told f texts nothing = refl
arg_told f texts (number n) = refl
arg_told f texts (target t) = refl
arg_told f texts (targets ts) = refl
arg_told f texts (token t) = refl
arg_told f texts (text t) = refl
arg_told f texts (raw bytes) = refl

abbrev at_op : ℕ × Instruction ℕ → Argument (List ℕ) → ℕ × Instruction (List ℕ)
at_op x a = (x.0, record { op = x.1.op; arg = a })

all_told : (f : Token → Token) (texts : ℕ → Option (List ℕ)) (xs : List (ℕ × Instruction ℕ))
    → map (instruction_told texts) (map (instruction_moved f) xs) ≡ map (instruction_moved f) (map (instruction_told texts) xs)
all_told f texts [] = refl
all_told f texts (x ∷ xs) =
    ap (λ a. at_op x a ∷ map (instruction_told texts) (map (instruction_moved f) xs)) (arg_told f texts x.1.arg)
    ∙ ap (λ ys. at_op x (argument_moved f (told texts x.1.arg)) ∷ ys) (all_told f texts xs)

arg_there : (f : Token → Token) (texts : ℕ → Option (List ℕ)) (a : Argument ℕ) → text_is_there texts (argument_moved f a) ≡ text_is_there texts a
arg_there f texts nothing = refl
arg_there f texts (number n) = refl
arg_there f texts (target t) = refl
arg_there f texts (targets ts) = refl
arg_there f texts (token t) = refl
arg_there f texts (text t) = refl
arg_there f texts (raw bytes) = refl

all_there : (f : Token → Token) (texts : ℕ → Option (List ℕ)) (xs : List (ℕ × Instruction ℕ))
    → list_all (λ (x : ℕ × Instruction ℕ). text_is_there texts x.1.arg) (map (instruction_moved f) xs) ≡ list_all
    (λ (x : ℕ × Instruction ℕ). text_is_there texts x.1.arg) xs
all_there f texts [] = refl
all_there f texts (x ∷ xs) = rw (arg_there f texts x.1.arg, all_there f texts xs) refl

-- the parts of a body by their code and their sections
abbrev pub with_parts : Code → Token → List ℕ → List ℕ → Code
with_parts c locals code sections = record { max = c.max; init = c.init; locals = locals; code = code; sections = sections }

body_same : (f : Token → Token) (texts : ℕ → Option (List ℕ)) (c : Code) (code sections : List ℕ) → IsMovedFrom f c.code code 0
    → AreMoved f c.sections sections → length code ≡ length c.code
    → body_of texts (with_parts c (f c.locals) code sections) ≡ body_moved f (body_of texts c)
unfolding body_of body_moved
body_same f texts c code sections instructions clauses size =
    let said = ap (map (instruction_told texts)) instructions ∙ all_told f texts (instructions_of c.code) in
    rw (said, clauses.means, size) refl

texts_same : (f : Token → Token) (texts : ℕ → Option (List ℕ)) (old new : List ℕ) → IsMovedFrom f old new 0
    → texts_are_there texts new ≡ texts_are_there texts old
unfolding texts_are_there
texts_same f texts old new instructions = ap (list_all (λ (x : ℕ × Instruction ℕ). text_is_there texts x.1.arg)) instructions
    ∙ all_there f texts (instructions_of old)

pub means_moved : (f : Token → Token) (c : Code) (code sections : List ℕ) → IsMovedFrom f c.code code 0 → AreMoved f c.sections sections
    → length code ≡ length c.code → length sections ≡ length c.sections
    → MeansMoved f c (with_parts c (f c.locals) code sections)
means_moved f c code sections instructions clauses size many = record {
  means = λ texts. body_same f texts c code sections instructions clauses size;
  texts = λ texts. texts_same f texts c.code code instructions;
  code = size;
  sections = many;
}

-- bytes that are the body's own need not be held
pub means_own : (f : Token → Token) (c : Code) (code sections : List ℕ) → IsMovedFrom f c.code code 0 → AreMoved f c.sections sections → code ≡ c.code
    → sections ≡ c.sections
    → MeansMoved f c (held_code None c (f c.locals))
means_own f c code sections instructions clauses same alike =
    subst (λ xs. MeansMoved f c (with_parts c (f c.locals) c.code xs)) alike
    (subst (λ xs. MeansMoved f c (with_parts c (f c.locals) xs sections)) same
    (means_moved f c code sections instructions clauses (ap (λ (xs : List ℕ). length xs) same) (ap (λ (xs : List ℕ). length xs) alike)))
