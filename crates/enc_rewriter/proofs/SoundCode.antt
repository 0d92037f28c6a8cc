-- Code that means a sound body is good, where its clauses are of known kinds.
use Rattle.std.proofs.Common.{◌≡◌, ℕ, zero, suc, ◌+◌, ◌-◌, Bool, true, false, List, [], ◌∷◌, length, map, Option, Some, None, refl, sym, ap, ◌∙◌, arith}
use Rattle.std.specs.Prelude.{nat_le, ◌==◌, ◌&&◌, ◌||◌, if◌then◌else◌}
use Rattle.std.specs.List.{list_all, list_any}
use Rattle.std.proofs.lemmas.Bool.Decides.{nat_tests}
use Rattle.std.proofs.lemmas.Bool.{and_parts, and_from}
use Rattle.enc_base.specs.Token.{token_of}
use Rattle.enc_base.proofs.SmallNumbers.{EachIsByte}
use Rattle.enc_opcodes.specs.declared.op.Operand.{Operand}
use Rattle.enc_opcodes.specs.declared.code.Clause.{Clause}
use Rattle.enc_opcodes.specs.Clause.{clauses_of}
use Rattle.enc_opcodes.specs.Instruction.{Argument, nothing, number, target, targets, token, text, raw, Instruction, instr_in, chain, chain_on, chain_end, end_on, IsChain, rest_of, end_of, instructions_of}
use Rattle.enc_opcodes.specs.Body.{Code, Handler, HandlerKind, catching, filtering, finishing, faulting, kind_meant, told, instruction_told, handler_meant, body_of, is_named, is_instruction_start, arg_is_good, instruction_is_good, range_is_good, clause_is_good, locals_are_good, is_good}
use Rattle.enc_opcodes.specs.Sound.{begins_at, instruction_size, argument_is_sound, instruction_is_sound, handler_kind_is_sound, handler_is_sound, are_whole, body_is_sound}
use Rattle.enc_opcodes.proofs.Whole.{chain_whole}
use Rattle.enc_rewriter.specs.Standing.{is_known, known_as}

eq_of : (a b : ℕ) → (a == b) ≡ true → a ≡ b
eq_of a b h = grind (arith, nat_tests)

eq_same : (a b : ℕ) → a ≡ b → (a == b) ≡ true
eq_same a b h = grind (arith, nat_tests)

-- an instruction ends behind its size
size_is : (texts : ℕ → Option (List ℕ)) (code : List ℕ) (at n : ℕ) (i : Instruction ℕ) → EachIsByte code → instr_in code at ≡ Some (i, n) → at + instruction_size (instruction_told texts (at, i)).1 ≡ n
unfolding IsChain are_whole
size_is texts code at n i bytes is = by_one (chain_whole texts code n at ((at, i) ∷ []) bytes one)
  where
    one : IsChain (instr_in code) n at ((at, i) ∷ [])
    one = (n, refl, is, refl)

    by_one : are_whole n at (map (instruction_told texts) ((at, i) ∷ [])) ≡ true → at + instruction_size (instruction_told texts (at, i)).1 ≡ n
    by_one h = eq_of (at + instruction_size (instruction_told texts (at, i)).1) n (and_parts (at == at) _ h).1

-- where the instructions take all bytes, reading ends with them
whole_by : (texts : ℕ → Option (List ℕ)) (code : List ℕ) (size at : ℕ) (o : Option (Instruction ℕ × ℕ)) (f : ℕ → List (ℕ × Instruction ℕ)) (g : ℕ → ℕ) → EachIsByte code
    → ((n : ℕ) → are_whole size n (map (instruction_told texts) (f n)) ≡ true → g n ≡ size) → instr_in code at ≡ o → are_whole size at (map (instruction_told texts) (chain_on at o f)) ≡ true
    → end_on at o g ≡ size
unfolding are_whole
whole_by texts code size at None f g bytes next is h = eq_of at size h
whole_by texts code size at (Some x) f g bytes next is h =
    let e : at + instruction_size (instruction_told texts (at, x.0)).1 ≡ x.1 = size_is texts code at x.1 x.0 bytes is in
    next x.1 (ap (λ n. are_whole size n (map (instruction_told texts) (f x.1))) (sym e) ∙ (and_parts (at == at) _ h).1)

whole_chain : (texts : ℕ → Option (List ℕ)) (code : List ℕ) (size k at : ℕ) → EachIsByte code → are_whole size at (map (instruction_told texts) (chain (instr_in code) k at)) ≡ true
    → chain_end (instr_in code) k at ≡ size
unfolding chain chain_end are_whole
whole_chain texts code size zero at bytes h = eq_of at size h
whole_chain texts code size (suc k) at bytes h = whole_by texts code size at (instr_in code at) (chain (instr_in code) k) (chain_end (instr_in code) k) bytes (λ n e. whole_chain texts code size k n bytes e) refl h

pub whole_end : (texts : ℕ → Option (List ℕ)) (code : List ℕ) (size : ℕ) → EachIsByte code → are_whole size 0 (map (instruction_told texts) (instructions_of code)) ≡ true → end_of code 0 ≡ size
unfolding rest_of end_of
whole_end texts code size bytes h = whole_chain texts code size (length code - 0) 0 bytes h

-- what holds of each that is told holds of each
each_back : {A B : Type 0} (h : A → B) (p : A → Bool) (q : B → Bool) (xs : List A) → ((x : A) → q (h x) ≡ true → p x ≡ true) → list_all q (map h xs) ≡ true → list_all p xs ≡ true
each_back h p q [] back all = refl
each_back h p q (x ∷ xs) back all =
    let a = and_parts (q (h x)) (list_all q (map h xs)) all in
    and_from (p x) _ (back x a.0) (each_back h p q xs back a.1)

targets_back : (p q : ℕ → Bool) (ts : List ℕ) → ((t : ℕ) → q t ≡ true → p t ≡ true) → list_all q ts ≡ true → list_all p ts ≡ true
targets_back p q [] back all = refl
targets_back p q (t ∷ ts) back all =
    let a = and_parts (q t) (list_all q ts) all in
    and_from (p t) _ (back t a.0) (targets_back p q ts back a.1)

arg_good : (texts : ℕ → Option (List ℕ)) (count : ℕ → ℕ) (p q : ℕ → Bool) (o : Operand) (a : Argument ℕ) → ((t : ℕ) → q t ≡ true → p t ≡ true) → argument_is_sound count q o (told texts a) ≡ true → arg_is_good count p o a ≡ true
arg_good texts count p q o nothing back h = refl
arg_good texts count p q o (number n) back h = refl
arg_good texts count p q o (target t) back h = back t h
arg_good texts count p q o (targets ts) back h = targets_back p q ts back h
arg_good texts count p q o (token t) back h = h
arg_good texts count p q o (text offset) back h = refl
arg_good texts count p q o (raw bytes) back h = refl

one_good : (texts : ℕ → Option (List ℕ)) (count : ℕ → ℕ) (p q : ℕ → Bool) (x : ℕ × Instruction ℕ) → ((t : ℕ) → q t ≡ true → p t ≡ true) → instruction_is_sound count q (instruction_told texts x) ≡ true → instruction_is_good count p x ≡ true
unfolding instruction_is_good instruction_is_sound
one_good texts count p q x back h = arg_good texts count p q x.1.op.operand x.1.arg back h

begin_same : (texts : ℕ → Option (List ℕ)) (xs : List (ℕ × Instruction ℕ)) (t : ℕ) → begins_at (map (instruction_told texts) xs) t ≡ list_any (λ (x : ℕ × Instruction ℕ). x.0 == t) xs
begin_same texts [] t = refl
begin_same texts (x ∷ xs) t = ap (λ b. (x.0 == t) || b) (begin_same texts xs t)

begins_back : (texts : ℕ → Option (List ℕ)) (xs : List (ℕ × Instruction ℕ)) (t : ℕ) → begins_at (map (instruction_told texts) xs) t ≡ true → is_instruction_start xs t ≡ true
unfolding is_instruction_start
begins_back texts xs t h = sym (begin_same texts xs t) ∙ h

first_back : (a b c : Bool) → (a ≡ true → b ≡ true) → (a || c) ≡ true → (b || c) ≡ true
first_back true b c back h = rw (back refl) refl
first_back false true c back h = refl
first_back false false c back h = h

range_back : (p q : ℕ → Bool) (size : ℕ) (r : ℕ × ℕ) → ((t : ℕ) → q t ≡ true → p t ≡ true) → range_is_good q size r ≡ true → range_is_good p size r ≡ true
range_back p q size r back h =
    let a = and_parts (q r.0 && nat_le r.0 r.1) (q r.1 || r.1 == size) h in
    let b = and_parts (q r.0) (nat_le r.0 r.1) a.0 in
    and_from _ _ (and_from _ _ (back r.0 b.0) b.1) (first_back (q r.1) (p r.1) (r.1 == size) (back r.1) a.1)

-- a sound clause of a known kind is good
apart : (k m n : ℕ) → (m == n) ≡ false → (k == m) ≡ true → (k == n) ≡ false
apart k m n differ h = grind (arith, nat_tests)

kind_good : (count : ℕ → ℕ) (p q : ℕ → Bool) (k e : ℕ) (a b c d : Bool) → ((t : ℕ) → q t ≡ true → p t ≡ true) → (k == 0) ≡ a → (k == 1) ≡ b → (k == 2) ≡ c → (k == 4) ≡ d → (a || b || c || d) ≡ true
    → handler_kind_is_sound count q (if d then faulting else if c then finishing else if b then filtering e else catching (token_of e)) ≡ true
    → (if a then is_named count (token_of e) else if b then p e else c || d) ≡ true
kind_good count p q k e false false false false back ha hb hc hd known h = absurd cc
kind_good count p q k e false false false true back ha hb hc hd known h = refl
kind_good count p q k e false false true d back ha hb hc hd known h = refl
kind_good count p q k e false true false false back ha hb hc hd known h = back e h
kind_good count p q k e false true true d back ha hb hc hd known h = let n : (k == 2) ≡ false = apart k 1 2 refl hb in absurd cc
kind_good count p q k e false true false true back ha hb hc hd known h = let n : (k == 4) ≡ false = apart k 1 4 refl hb in absurd cc
kind_good count p q k e true false false false back ha hb hc hd known h = h
kind_good count p q k e true true c d back ha hb hc hd known h = let n : (k == 1) ≡ false = apart k 0 1 refl ha in absurd cc
kind_good count p q k e true false true d back ha hb hc hd known h = let n : (k == 2) ≡ false = apart k 0 2 refl ha in absurd cc
kind_good count p q k e true false false true back ha hb hc hd known h = let n : (k == 4) ≡ false = apart k 0 4 refl ha in absurd cc

clause_good : (count : ℕ → ℕ) (p q : ℕ → Bool) (size : ℕ) (c : Clause) → ((t : ℕ) → q t ≡ true → p t ≡ true) → is_known c.kind ≡ true → handler_is_sound count q size (handler_meant c) ≡ true → clause_is_good count p size c ≡ true
unfolding clause_is_good handler_is_sound
clause_good count p q size c back known h =
    let a = and_parts (range_is_good q size c.tries && range_is_good q size c.handler) (handler_kind_is_sound count q (kind_meant c.kind c.extra)) h in
    let b = and_parts (range_is_good q size c.tries) (range_is_good q size c.handler) a.0 in
    and_from _ _ (and_from _ _ (range_back p q size c.tries back b.0) (range_back p q size c.handler back b.1)) (kind_good count p q c.kind c.extra (c.kind == 0) (c.kind == 1) (c.kind == 2) (c.kind == 4) back refl refl refl refl known a.1)

clauses_good : (count : ℕ → ℕ) (p q : ℕ → Bool) (size : ℕ) (cs : List Clause) → ((t : ℕ) → q t ≡ true → p t ≡ true) → list_all (λ (c : Clause). is_known c.kind) cs ≡ true → list_all (handler_is_sound count q size) (map handler_meant cs) ≡ true
    → list_all (clause_is_good count p size) cs ≡ true
clauses_good count p q size [] back known h = refl
clauses_good count p q size (c ∷ cs) back known h =
    let a = and_parts (is_known c.kind) (list_all (λ (c : Clause). is_known c.kind) cs) known in
    let b = and_parts (handler_is_sound count q size (handler_meant c)) (list_all (handler_is_sound count q size) (map handler_meant cs)) h in
    and_from _ _ (clause_good count p q size c back a.0 b.0) (clauses_good count p q size cs back a.1 b.1)

-- a clause of another kind means what one of kind 0 does
kind_same : (k e : ℕ) (a b c d : Bool) → (k == 0) ≡ a → (k == 1) ≡ b → (k == 2) ≡ c → (k == 4) ≡ d → kind_meant (if a || b || c || d then k else 0) e ≡ kind_meant k e
kind_same k e true b c d ha hb hc hd = refl
kind_same k e false true c d ha hb hc hd = refl
kind_same k e false false true d ha hb hc hd = refl
kind_same k e false false false true ha hb hc hd = refl
kind_same k e false false false false ha hb hc hd = rw (hb, hc, hd) refl

pub meant_same : (cs : List Clause) → map handler_meant (map known_as cs) ≡ map handler_meant cs
meant_same [] = refl
meant_same (c ∷ cs) =
    let first : handler_meant (known_as c) ≡ handler_meant c =
    ap (λ (k : HandlerKind). let h : Handler = record { kind = k; tries = c.tries; handler = c.handler } in h) (kind_same c.kind c.extra (c.kind == 0) (c.kind == 1) (c.kind == 2) (c.kind == 4) refl refl refl refl) in
    rw (first, meant_same cs) refl

known_kind : (k : ℕ) (t : Bool) → is_known k ≡ t → is_known (if t then k else 0) ≡ true
known_kind k true h = h
known_kind k false h = refl

pub all_known : (cs : List Clause) → list_all (λ (c : Clause). is_known c.kind) (map known_as cs) ≡ true
all_known [] = refl
all_known (c ∷ cs) = and_from _ _ (known_kind c.kind (is_known c.kind) refl) (all_known cs)

-- sound code is whole
pub sound_whole : (texts : ℕ → Option (List ℕ)) (count : ℕ → ℕ) (c : Code) → EachIsByte c.code → body_is_sound count (body_of texts c) ≡ true → end_of c.code 0 ≡ length c.code
unfolding body_is_sound body_of
sound_whole texts count c bytes h =
    let all = map (instruction_told texts) (instructions_of c.code) in
    let handlers = map handler_meant (clauses_of c.sections) in
    let d = and_parts (are_whole (length c.code) 0 all && list_all (instruction_is_sound count (begins_at all)) all && list_all (handler_is_sound count (begins_at all) (length c.code)) handlers) (locals_are_good count c.locals) h in
    let b = and_parts (are_whole (length c.code) 0 all && list_all (instruction_is_sound count (begins_at all)) all) (list_all (handler_is_sound count (begins_at all) (length c.code)) handlers) d.0 in
    let a = and_parts (are_whole (length c.code) 0 all) (list_all (instruction_is_sound count (begins_at all)) all) b.0 in
    whole_end texts c.code (length c.code) bytes a.0

-- and it is good
pub sound_is_good : (texts : ℕ → Option (List ℕ)) (count : ℕ → ℕ) (c : Code) → EachIsByte c.code → list_all (λ (x : Clause). is_known x.kind) (clauses_of c.sections) ≡ true → body_is_sound count (body_of texts c) ≡ true
    → is_good count c ≡ true
unfolding is_good body_is_sound body_of
sound_is_good texts count c bytes known h =
    let xs = instructions_of c.code in
    let all = map (instruction_told texts) xs in
    let handlers = map handler_meant (clauses_of c.sections) in
    let d = and_parts (are_whole (length c.code) 0 all && list_all (instruction_is_sound count (begins_at all)) all && list_all (handler_is_sound count (begins_at all) (length c.code)) handlers) (locals_are_good count c.locals) h in
    let b = and_parts (are_whole (length c.code) 0 all && list_all (instruction_is_sound count (begins_at all)) all) (list_all (handler_is_sound count (begins_at all) (length c.code)) handlers) d.0 in
    let a = and_parts (are_whole (length c.code) 0 all) (list_all (instruction_is_sound count (begins_at all)) all) b.0 in
    let begins : (t : ℕ) → begins_at all t ≡ true → is_instruction_start xs t ≡ true = begins_back texts xs in
    let whole = eq_same (end_of c.code 0) (length c.code) (whole_end texts c.code (length c.code) bytes a.0) in
    let instructions = each_back (instruction_told texts) (instruction_is_good count (is_instruction_start xs)) (instruction_is_sound count (begins_at all)) xs (λ x e. one_good texts count (is_instruction_start xs) (begins_at all) x begins e) a.1 in
    let clauses = clauses_good count (is_instruction_start xs) (begins_at all) (length c.code) (clauses_of c.sections) begins known b.1 in
    and_from _ _ (and_from _ _ (and_from _ _ whole instructions) clauses) d.1
