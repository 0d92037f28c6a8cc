-- User texts that code names are there still where there are more of them.
use Rattle.std.proofs.Common.{◌≡◌, ℕ, Bool, true, List, [], ◌∷◌, Option, Some, None, refl, ap}
use Rattle.std.specs.Prelude.{is_some}
use Rattle.std.specs.List.{list_all}
use Rattle.std.proofs.lemmas.Bool.{and_parts}
use Rattle.enc_opcodes.specs.Body.{text_is_there, texts_are_there}
use Rattle.enc_opcodes.specs.Instruction.{Argument, nothing, number, target, targets, token, text, raw, Instruction, instructions_of}

found_by : (f g : ℕ → Option (List ℕ)) (offset : ℕ) (o : Option (List ℕ)) → f offset ≡ o → is_some o ≡ true → ((n : ℕ) (x : List ℕ) → f n ≡ Some x → g n ≡ Some x)
    → is_some (g offset) ≡ true
found_by f g offset None is there more = absurd cc
found_by f g offset (Some x) is there more = rw (more offset x is) refl

one_more : (f g : ℕ → Option (List ℕ)) (a : Argument ℕ) → text_is_there f a ≡ true → ((n : ℕ) (x : List ℕ) → f n ≡ Some x → g n ≡ Some x) → text_is_there g a ≡ true
one_more f g nothing there more = refl
one_more f g (number n) there more = refl
one_more f g (target t) there more = refl
one_more f g (targets ts) there more = refl
one_more f g (token t) there more = refl
one_more f g (text offset) there more = found_by f g offset (f offset) refl there more
one_more f g (raw bytes) there more = refl

all_more : (f g : ℕ → Option (List ℕ)) (xs : List (ℕ × Instruction ℕ)) → list_all (λ (x : ℕ × Instruction ℕ). text_is_there f x.1.arg) xs ≡ true
    → ((n : ℕ) (x : List ℕ) → f n ≡ Some x → g n ≡ Some x) → list_all (λ (x : ℕ × Instruction ℕ). text_is_there g x.1.arg) xs ≡ true
all_more f g [] there more = refl
all_more f g (x ∷ xs) there more =
    let h = and_parts (text_is_there f x.1.arg) (list_all (λ (y : ℕ × Instruction ℕ). text_is_there f y.1.arg) xs) there in
    rw (one_more f g x.1.arg h.0 more, all_more f g xs h.1 more) refl

pub texts_more : (f g : ℕ → Option (List ℕ)) (code : List ℕ) → texts_are_there f code ≡ true → ((n : ℕ) (x : List ℕ) → f n ≡ Some x → g n ≡ Some x)
    → texts_are_there g code ≡ true
unfolding texts_are_there
texts_more f g code there more = all_more f g (instructions_of code) there more
