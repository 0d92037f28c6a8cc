-- What a body keeps when its tokens are moved.
use Rattle.std.proofs.Common.{◌≡◌, ℕ, ◌+◌, ◌*◌, Bool, true, List, [], ◌∷◌, map, refl, ap, ◌∙◌}
use Rattle.std.specs.Prelude.{nat_le, not, ◌==◌, ◌&&◌, ◌||◌, if◌then◌else◌}
use Rattle.std.specs.List.{list_all, flat_map}
use Rattle.std.proofs.lemmas.Bool.{and_parts, and_from}
use Rattle.std.proofs.Math.Path.{fun_ext}
use Rattle.enc_base.specs.declared.token.Token.{Token}
use Rattle.enc_opcodes.specs.declared.op.Operand.{Operand}
use Rattle.enc_opcodes.specs.declared.op.Operand.TheVariants as operand
use Rattle.enc_opcodes.specs.Instruction.{Argument, nothing, number, target, targets, token, text, raw, Instruction}
use Rattle.enc_opcodes.specs.Body.{Handler, HandlerKind, catching, filtering, finishing, faulting, is_user, is_named, range_is_good, locals_are_good}
use Rattle.enc_opcodes.specs.Sound.{target_count, operand_size, instruction_size, are_whole, begins_at, argument_is_sound, instruction_is_sound}
use Rattle.enc_opcodes.specs.Sound.{handler_kind_is_sound, handler_is_sound, body_is_sound}
use Rattle.enc_token_map.specs.Body.{argument_moved, instruction_moved, kind_moved, handler_moved, body_moved}
use Rattle.enc_token_map.specs.Laws.{text_of_argument, MovedStaysSound, MovedKeepsTexts}

-- the same offsets begin instructions
one_begins : (f : Token → Token) (xs : List (ℕ × Instruction (List ℕ))) (t : ℕ) → begins_at (map (instruction_moved f) xs) t ≡ begins_at xs t
one_begins f [] t = refl
one_begins f (x ∷ xs) t = ap (λ b. (x.0 == t) || b) (one_begins f xs t)

begins_same : (f : Token → Token) (xs : List (ℕ × Instruction (List ℕ))) → begins_at (map (instruction_moved f) xs) ≡ begins_at xs
begins_same f xs = fun_ext (one_begins f xs)

-- an instruction has as many bytes
count_same : (f : Token → Token) (a : Argument (List ℕ)) → target_count (argument_moved f a) ≡ target_count a
count_same f nothing = refl
count_same f (number n) = refl
count_same f (target t) = refl
count_same f (targets ts) = refl
count_same f (token t) = refl
count_same f (text t) = refl
count_same f (raw bytes) = refl

operand_same : (f : Token → Token) (o : Operand) (a : Argument (List ℕ)) → operand_size o (argument_moved f a) ≡ operand_size o a
operand_same f operand.None a = refl
operand_same f operand.I8 a = refl
operand_same f operand.U8 a = refl
operand_same f operand.U16 a = refl
operand_same f operand.I32 a = refl
operand_same f operand.I64 a = refl
operand_same f operand.R4 a = refl
operand_same f operand.R8 a = refl
operand_same f operand.Branch8 a = refl
operand_same f operand.Branch32 a = refl
operand_same f operand.Switch a = ap (λ n. 4 + 4 * n) (count_same f a)
operand_same f operand.Token a = refl
operand_same f operand.User a = refl

size_same : (f : Token → Token) (x : ℕ × Instruction (List ℕ)) → instruction_size (instruction_moved f x).1 ≡ instruction_size x.1
unfolding instruction_size
size_same f x = ap (λ n. (if nat_le 0xFE00 x.1.op.byte then 2 else 1) + n) (operand_same f x.1.op.operand x.1.arg)

whole_same : (f : Token → Token) (size at : ℕ) (xs : List (ℕ × Instruction (List ℕ))) → are_whole size at (map (instruction_moved f) xs) ≡ are_whole size at xs
unfolding are_whole
whole_same f size at [] = refl
whole_same f size at (x ∷ xs) =
    ap (λ b. x.0 == at && b)
    (ap (λ n. are_whole size (at + n) (map (instruction_moved f) xs)) (size_same f x) ∙ whole_same f size (at + instruction_size x.1) xs)

-- what is named goes to what is named
abbrev pub KeepsNamed : (Token → Token) → (ℕ → ℕ) → Type 0
KeepsNamed f count = (t : Token) → is_named count t ≡ true → is_named count (f t) ≡ true

argument_kept : (f : Token → Token) (count : ℕ → ℕ) (p : ℕ → Bool) (o : Operand) (a : Argument (List ℕ)) → KeepsNamed f count
    → argument_is_sound count p o a ≡ true → argument_is_sound count p o (argument_moved f a) ≡ true
argument_kept f count p o nothing keeps h = refl
argument_kept f count p o (number n) keeps h = refl
argument_kept f count p o (target t) keeps h = h
argument_kept f count p o (targets ts) keeps h = h
argument_kept f count p o (token t) keeps h =
    let a = and_parts (not (is_user o)) (is_named count t) h in
    and_from _ _ a.0 (keeps t a.1)
argument_kept f count p o (text units) keeps h = refl
argument_kept f count p o (raw bytes) keeps h = refl

instruction_kept : (f : Token → Token) (count : ℕ → ℕ) (p : ℕ → Bool) (x : ℕ × Instruction (List ℕ)) → KeepsNamed f count
    → instruction_is_sound count p x ≡ true → instruction_is_sound count p (instruction_moved f x) ≡ true
unfolding instruction_is_sound
instruction_kept f count p x keeps h = argument_kept f count p x.1.op.operand x.1.arg keeps h

kind_kept : (f : Token → Token) (count : ℕ → ℕ) (p : ℕ → Bool) (k : HandlerKind) → KeepsNamed f count → handler_kind_is_sound count p k ≡ true
    → handler_kind_is_sound count p (kind_moved f k) ≡ true
kind_kept f count p (catching t) keeps h = keeps t h
kind_kept f count p (filtering offset) keeps h = h
kind_kept f count p finishing keeps h = refl
kind_kept f count p faulting keeps h = refl

handler_kept : (f : Token → Token) (count : ℕ → ℕ) (p : ℕ → Bool) (size : ℕ) (x : Handler) → KeepsNamed f count → handler_is_sound count p size x ≡ true
    → handler_is_sound count p size (handler_moved f x) ≡ true
unfolding handler_is_sound
handler_kept f count p size x keeps h =
    let a = and_parts (range_is_good p size x.tries && range_is_good p size x.handler) (handler_kind_is_sound count p x.kind) h in
    and_from _ _ a.0 (kind_kept f count p x.kind keeps a.1)

-- what holds of each of a list holds of each still
all_kept : {A : Type 0} (g : A → A) (p : A → Bool) (xs : List A) → ((x : A) → p x ≡ true → p (g x) ≡ true) → list_all p xs ≡ true → list_all p (map g xs) ≡ true
all_kept g p [] keeps all = refl
all_kept g p (x ∷ xs) keeps all =
    let a = and_parts (p x) (list_all p xs) all in
    and_from (p (g x)) _ (keeps x a.0) (all_kept g p xs keeps a.1)

pub stays_sound : MovedStaysSound
unfolding body_is_sound body_moved
stays_sound f count b named locals h =
    let p = begins_at b.code in
    let d = and_parts (are_whole b.size 0 b.code && list_all (instruction_is_sound count p) b.code && list_all (handler_is_sound count p b.size) b.handlers)
    (locals_are_good count b.locals) h in
    let c = and_parts (are_whole b.size 0 b.code && list_all (instruction_is_sound count p) b.code) (list_all (handler_is_sound count p b.size) b.handlers)
    d.0 in
    let a = and_parts (are_whole b.size 0 b.code) (list_all (instruction_is_sound count p) b.code) c.0 in
    let whole = whole_same f b.size 0 b.code ∙ a.0 in
    let instructions = all_kept (instruction_moved f) (instruction_is_sound count p) b.code (λ x e. instruction_kept f count p x named e) a.1 in
    let handlers = all_kept (handler_moved f) (handler_is_sound count p b.size) b.handlers (λ x e. handler_kept f count p b.size x named e) c.1 in
    rw (begins_same f b.code) (and_from _ _ (and_from _ _ (and_from _ _ whole instructions) handlers) (locals b.locals d.1))

-- what arguments say besides tokens stays
pub all_same : {R : Type 0} (g : Argument (List ℕ) → List R) (f : Token → Token) (xs : List (ℕ × Instruction (List ℕ)))
    → ((a : Argument (List ℕ)) → g (argument_moved f a) ≡ g a)
    → flat_map (λ (x : ℕ × Instruction (List ℕ)). g x.1.arg) (map (instruction_moved f) xs) ≡ flat_map (λ (x : ℕ × Instruction (List ℕ)). g x.1.arg) xs
all_same g f [] same = refl
all_same g f (x ∷ xs) same = rw (same x.1.arg, all_same g f xs same) refl

-- so the user texts do
text_same : (f : Token → Token) (a : Argument (List ℕ)) → text_of_argument (argument_moved f a) ≡ text_of_argument a
text_same f nothing = refl
text_same f (number n) = refl
text_same f (target t) = refl
text_same f (targets ts) = refl
text_same f (token t) = refl
text_same f (text t) = refl
text_same f (raw bytes) = refl

pub keeps_texts : MovedKeepsTexts
unfolding body_moved
keeps_texts f b = all_same text_of_argument f b.code (text_same f)
