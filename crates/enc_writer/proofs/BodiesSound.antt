-- Whole code that means a sound body is good, where its clauses are of the kinds that there are.
use Rattle.std.proofs.Common.{◌≡◌, ℕ, Bool, true, false, List, [], ◌∷◌, length, map, Option, refl, sym, ap, ◌∙◌, arith}
use Rattle.std.specs.Prelude.{nat_le, ◌==◌, ◌&&◌, ◌||◌, if◌then◌else◌}
use Rattle.std.specs.List.{list_all, list_any}
use Rattle.std.proofs.lemmas.Bool.Decides.{nat_tests}
use Rattle.std.proofs.lemmas.Bool.{and_parts, and_from}
use Rattle.enc_base.specs.Token.{token_of}
use Rattle.enc_edit_list.specs.Form.{clause_is_stated}
use Rattle.enc_opcodes.specs.declared.op.Operand.{Operand}
use Rattle.enc_opcodes.specs.declared.code.Clause.{Clause}
use Rattle.enc_opcodes.specs.Clause.{clauses_of}
use Rattle.enc_opcodes.specs.Instruction.{Argument, nothing, number, target, targets, token, text, raw, Instruction, end_of, instructions_of}
use Rattle.enc_opcodes.specs.Body.{Code, catching, filtering, finishing, faulting, kind_meant, told, instruction_told, handler_meant, body_of, is_named, is_instruction_start, arg_is_good, instruction_is_good, range_is_good, clause_is_good, locals_are_good, is_good}
use Rattle.enc_opcodes.specs.Sound.{begins_at, argument_is_sound, instruction_is_sound, handler_kind_is_sound, handler_is_sound, are_whole, body_is_sound}

-- what holds of each that is told holds of each
each_back : {A B : Type 0} (h : A → B) (p : A → Bool) (q : B → Bool) (xs : List A) → ((x : A) → q (h x) ≡ true → p x ≡ true) → list_all q (map h xs) ≡ true → list_all p xs ≡ true
each_back h p q [] back all = refl
each_back h p q (x ∷ xs) back all =
    let a = and_parts (q (h x)) (list_all q (map h xs)) all in
    and_from (p x) _ (back x a.0) (each_back h p q xs back a.1)

targets_back : (p q : ℕ → Bool) (ts : List ℕ) → ((t : ℕ) → q t ≡ true → p t ≡ true) → list_all q ts ≡ true → list_all p ts ≡ true
targets_back p q [] back all = refl
targets_back p q (t ∷ ts) back all =
    let a = and_parts (q t) (list_all q ts) all in
    and_from (p t) _ (back t a.0) (targets_back p q ts back a.1)

-- an argument that is sound when it is told is good
arg_good : (texts : ℕ → Option (List ℕ)) (count : ℕ → ℕ) (p q : ℕ → Bool) (o : Operand) (a : Argument ℕ) → ((t : ℕ) → q t ≡ true → p t ≡ true) → argument_is_sound count q o (told texts a) ≡ true → arg_is_good count p o a ≡ true
arg_good texts count p q o nothing back h = refl
arg_good texts count p q o (number n) back h = refl
arg_good texts count p q o (target t) back h = back t h
arg_good texts count p q o (targets ts) back h = targets_back p q ts back h
arg_good texts count p q o (token t) back h = h
arg_good texts count p q o (text offset) back h = refl
arg_good texts count p q o (raw bytes) back h = refl

one_good : (texts : ℕ → Option (List ℕ)) (count : ℕ → ℕ) (p q : ℕ → Bool) (x : ℕ × Instruction ℕ) → ((t : ℕ) → q t ≡ true → p t ≡ true) → instruction_is_sound count q (instruction_told texts x) ≡ true → instruction_is_good count p x ≡ true
unfolding instruction_is_good instruction_is_sound
one_good texts count p q x back h = arg_good texts count p q x.1.op.operand x.1.arg back h

-- the same offsets begin instructions
begin_same : (texts : ℕ → Option (List ℕ)) (xs : List (ℕ × Instruction ℕ)) (t : ℕ) → begins_at (map (instruction_told texts) xs) t ≡ list_any (λ (x : ℕ × Instruction ℕ). x.0 == t) xs
begin_same texts [] t = refl
begin_same texts (x ∷ xs) t = ap (λ b. (x.0 == t) || b) (begin_same texts xs t)

begins_back : (texts : ℕ → Option (List ℕ)) (xs : List (ℕ × Instruction ℕ)) (t : ℕ) → begins_at (map (instruction_told texts) xs) t ≡ true → is_instruction_start xs t ≡ true
unfolding is_instruction_start
begins_back texts xs t h = sym (begin_same texts xs t) ∙ h

first_back : (a b c : Bool) → (a ≡ true → b ≡ true) → (a || c) ≡ true → (b || c) ≡ true
first_back true b c back h = rw (back refl) refl
first_back false true c back h = refl
first_back false false c back h = h

range_back : (p q : ℕ → Bool) (size : ℕ) (r : ℕ × ℕ) → ((t : ℕ) → q t ≡ true → p t ≡ true) → range_is_good q size r ≡ true → range_is_good p size r ≡ true
range_back p q size r back h =
    let a = and_parts (q r.0 && nat_le r.0 r.1) (q r.1 || r.1 == size) h in
    let b = and_parts (q r.0) (nat_le r.0 r.1) a.0 in
    and_from _ _ (and_from _ _ (back r.0 b.0) b.1) (first_back (q r.1) (p r.1) (r.1 == size) (back r.1) a.1)

-- a sound clause of one of the kinds is good
apart : (k m n : ℕ) → (m == n) ≡ false → (k == m) ≡ true → (k == n) ≡ false
apart k m n differ h = grind (arith, nat_tests)

kind_good : (count : ℕ → ℕ) (p q : ℕ → Bool) (k e : ℕ) (a b c d : Bool) → ((t : ℕ) → q t ≡ true → p t ≡ true) → (k == 0) ≡ a → (k == 1) ≡ b → (k == 2) ≡ c → (k == 4) ≡ d → (a || b || c || d) ≡ true
    → handler_kind_is_sound count q (if d then faulting else if c then finishing else if b then filtering e else catching (token_of e)) ≡ true
    → (if a then is_named count (token_of e) else if b then p e else c || d) ≡ true
kind_good count p q k e false false false false back ha hb hc hd known h = absurd cc
kind_good count p q k e false false false true back ha hb hc hd known h = refl
kind_good count p q k e false false true d back ha hb hc hd known h = refl
kind_good count p q k e false true false false back ha hb hc hd known h = back e h
kind_good count p q k e false true true d back ha hb hc hd known h = let n : (k == 2) ≡ false = apart k 1 2 refl hb in absurd cc
kind_good count p q k e false true false true back ha hb hc hd known h = let n : (k == 4) ≡ false = apart k 1 4 refl hb in absurd cc
kind_good count p q k e true false false false back ha hb hc hd known h = h
kind_good count p q k e true true c d back ha hb hc hd known h = let n : (k == 1) ≡ false = apart k 0 1 refl ha in absurd cc
kind_good count p q k e true false true d back ha hb hc hd known h = let n : (k == 2) ≡ false = apart k 0 2 refl ha in absurd cc
kind_good count p q k e true false false true back ha hb hc hd known h = let n : (k == 4) ≡ false = apart k 0 4 refl ha in absurd cc

clause_good : (count : ℕ → ℕ) (p q : ℕ → Bool) (size : ℕ) (c : Clause) → ((t : ℕ) → q t ≡ true → p t ≡ true) → clause_is_stated c ≡ true → handler_is_sound count q size (handler_meant c) ≡ true → clause_is_good count p size c ≡ true
unfolding clause_is_good handler_is_sound
clause_good count p q size c back known h =
    let a = and_parts (range_is_good q size c.tries && range_is_good q size c.handler) (handler_kind_is_sound count q (kind_meant c.kind c.extra)) h in
    let b = and_parts (range_is_good q size c.tries) (range_is_good q size c.handler) a.0 in
    and_from _ _ (and_from _ _ (range_back p q size c.tries back b.0) (range_back p q size c.handler back b.1)) (kind_good count p q c.kind c.extra (c.kind == 0) (c.kind == 1) (c.kind == 2) (c.kind == 4) back refl refl refl refl known a.1)

clauses_good : (count : ℕ → ℕ) (p q : ℕ → Bool) (size : ℕ) (cs : List Clause) → ((t : ℕ) → q t ≡ true → p t ≡ true) → list_all clause_is_stated cs ≡ true → list_all (handler_is_sound count q size) (map handler_meant cs) ≡ true
    → list_all (clause_is_good count p size) cs ≡ true
clauses_good count p q size [] back known h = refl
clauses_good count p q size (c ∷ cs) back known h =
    let a = and_parts (clause_is_stated c) (list_all clause_is_stated cs) known in
    let b = and_parts (handler_is_sound count q size (handler_meant c)) (list_all (handler_is_sound count q size) (map handler_meant cs)) h in
    and_from _ _ (clause_good count p q size c back a.0 b.0) (clauses_good count p q size cs back a.1 b.1)

eq_same : (a b : ℕ) → a ≡ b → (a == b) ≡ true
eq_same a b h = grind (arith, nat_tests)

-- the whole body
pub sound_is_good : (texts : ℕ → Option (List ℕ)) (count : ℕ → ℕ) (c : Code) → end_of c.code 0 ≡ length c.code → list_all clause_is_stated (clauses_of c.sections) ≡ true → body_is_sound count (body_of texts c) ≡ true → is_good count c ≡ true
unfolding is_good body_is_sound body_of
sound_is_good texts count c whole known h =
    let xs = instructions_of c.code in
    let all = map (instruction_told texts) xs in
    let handlers = map handler_meant (clauses_of c.sections) in
    let d = and_parts (are_whole (length c.code) 0 all && list_all (instruction_is_sound count (begins_at all)) all && list_all (handler_is_sound count (begins_at all) (length c.code)) handlers) (locals_are_good count c.locals) h in
    let b = and_parts (are_whole (length c.code) 0 all && list_all (instruction_is_sound count (begins_at all)) all) (list_all (handler_is_sound count (begins_at all) (length c.code)) handlers) d.0 in
    let a = and_parts (are_whole (length c.code) 0 all) (list_all (instruction_is_sound count (begins_at all)) all) b.0 in
    let begins : (t : ℕ) → begins_at all t ≡ true → is_instruction_start xs t ≡ true = begins_back texts xs in
    let instructions = each_back (instruction_told texts) (instruction_is_good count (is_instruction_start xs)) (instruction_is_sound count (begins_at all)) xs (λ x e. one_good texts count (is_instruction_start xs) (begins_at all) x begins e) a.1 in
    let clauses = clauses_good count (is_instruction_start xs) (begins_at all) (length c.code) (clauses_of c.sections) begins known b.1 in
    and_from _ _ (and_from _ _ (and_from _ _ (eq_same (end_of c.code 0) (length c.code) whole) instructions) clauses) d.1
