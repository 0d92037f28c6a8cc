-- What one pass over a code has found so far.
use Rattle.std.proofs.Common.{◌≡◌, ℕ, Bool, true, false, ◌&&◌, List, ◌++◌, Option, None, refl, sym, ◌∙◌}
use Rattle.std.specs.Prelude.{is_some}
use Rattle.std.specs.List.{list_all}
use Rattle.std.proofs.lemmas.List.Folds.{list_all-append}
use Rattle.enc_opcodes.specs.declared.op.Operand.{Operand}
use Rattle.enc_opcodes.specs.Instruction.{Argument, nothing, number, target, targets, token, text, raw, Instruction, instr_in, rest_of}
use Rattle.enc_opcodes.specs.Body.{arg_is_good, instruction_is_good, text_is_there, texts_are_there}
use Rattle.enc_opcodes.proofs.Instructions.{rest_none, rest_more}
use Rattle.enc_il.specs.Judged.{targets_of, named_texts, are_texts, names_a_row}
use Rattle.enc_il.proofs.Starts.{IsRead}

and_true : (b : Bool) → (b && true) ≡ b
and_true true = refl
and_true false = refl

-- an argument is good where it names a row and its targets are beginnings
arg_parts : (count : ℕ → ℕ) (starts : ℕ → Bool) (o : Operand) (a : Argument ℕ) → arg_is_good count starts o a ≡ (names_a_row count o a && list_all starts (targets_of a))
arg_parts count starts o nothing = refl
arg_parts count starts o (number n) = refl
arg_parts count starts o (target t) = sym (and_true (starts t))
arg_parts count starts o (targets ts) = refl
arg_parts count starts o (token t) = sym (and_true (names_a_row count o (token t)))
arg_parts count starts o (text x) = refl
arg_parts count starts o (raw bytes) = refl

shuffled : (g l n t r : Bool) → ((g && l) && ((n && t) && r)) ≡ (((g && n) && (l && t)) && r)
shuffled false l n t r = refl
shuffled true true n t r = refl
shuffled true false true t r = refl
shuffled true false false t r = refl

-- all instructions are as good as what was found before a place and those from there on
abbrev pub AreFound : (ℕ → ℕ) → List ℕ → ℕ → Bool → List ℕ → Type 0
AreFound count code at rows found = (starts : ℕ → Bool) → list_all (instruction_is_good count starts) (rest_of code 0) ≡ ((rows && list_all starts found) && list_all (instruction_is_good count starts) (rest_of code at))

pub one_found : (count : ℕ → ℕ) (code : List ℕ) (at n : ℕ) (i : Instruction ℕ) (rows more : Bool) (found all : List ℕ) → IsRead code at i n → AreFound count code at rows found → more ≡ (rows && names_a_row count i.op.operand i.arg) → all ≡ found ++ targets_of i.arg → AreFound count code n more all
unfolding instruction_is_good
one_found count code at n i rows more found all is before is_more is_all starts =
    let behind = list_all (instruction_is_good count starts) (rest_of code n) in
    before starts
    ∙ rw (rest_more code at n i (sym is), arg_parts count starts i.op.operand i.arg, shuffled rows (list_all starts found) (names_a_row count i.op.operand i.arg) (list_all starts (targets_of i.arg)) behind, is_more, is_all, list_all-append starts found (targets_of i.arg)) refl

pub all_found : (count : ℕ → ℕ) (code : List ℕ) (at : ℕ) (rows : Bool) (found : List ℕ) → None ≡ instr_in code at → AreFound count code at rows found → (starts : ℕ → Bool) → list_all (instruction_is_good count starts) (rest_of code 0) ≡ (rows && list_all starts found)
all_found count code at rows found none before starts = before starts ∙ rw (rest_none code at (sym none)) (and_true (rows && list_all starts found))

-- so it is with the user texts that instructions name
text_parts : (texts : ℕ → Option (List ℕ)) (a : Argument ℕ) → text_is_there texts a ≡ are_texts texts (named_texts a)
text_parts texts nothing = refl
text_parts texts (number n) = refl
text_parts texts (target t) = refl
text_parts texts (targets ts) = refl
text_parts texts (token t) = refl
text_parts texts (text x) = sym (and_true (is_some (texts x)))
text_parts texts (raw bytes) = refl

joined : (l t r : Bool) → (l && (t && r)) ≡ ((l && t) && r)
joined true t r = refl
joined false t r = refl

abbrev pub AreNamed : List ℕ → ℕ → List ℕ → Type 0
AreNamed code at named = (texts : ℕ → Option (List ℕ)) → list_all (λ (x : ℕ × Instruction ℕ). text_is_there texts x.1.arg) (rest_of code 0) ≡ (are_texts texts named && list_all (λ (x : ℕ × Instruction ℕ). text_is_there texts x.1.arg) (rest_of code at))

pub one_named : (code : List ℕ) (at n : ℕ) (i : Instruction ℕ) (named all : List ℕ) → IsRead code at i n → AreNamed code at named → all ≡ named ++ named_texts i.arg → AreNamed code n all
one_named code at n i named all is before is_all texts =
    let behind = list_all (λ (x : ℕ × Instruction ℕ). text_is_there texts x.1.arg) (rest_of code n) in
    before texts
    ∙ rw (rest_more code at n i (sym is), text_parts texts i.arg, joined (are_texts texts named) (are_texts texts (named_texts i.arg)) behind, is_all, list_all-append (λ (t : ℕ). is_some (texts t)) named (named_texts i.arg)) refl

pub all_named : (code : List ℕ) (at : ℕ) (named : List ℕ) → None ≡ instr_in code at → AreNamed code at named → (texts : ℕ → Option (List ℕ)) → texts_are_there texts code ≡ are_texts texts named
unfolding texts_are_there
all_named code at named none before texts = before texts ∙ rw (rest_none code at (sym none)) (and_true (are_texts texts named))
