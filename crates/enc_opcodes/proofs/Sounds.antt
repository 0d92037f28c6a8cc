-- When a body is sound: where its code is good, and as long as no table has fewer rows.
use Rattle.std.proofs.Common.{◌≡◌, ℕ, ◌<◌, ◌≤◌, Bool, true, false, List, [], ◌∷◌, length, map, Option, refl, ap, ◌∙◌, arith}
use Rattle.std.specs.Prelude.{nat_le, not, ◌==◌, ◌&&◌, ◌||◌, if◌then◌else◌}
use Rattle.std.specs.List.{list_all, list_any}
use Rattle.std.proofs.lemmas.Bool.Decides.{nat_tests}
use Rattle.std.proofs.lemmas.Bool.{and_parts, and_from}
use Rattle.enc_base.specs.Token.{token_of}
use Rattle.enc_base.specs.declared.token.Token.{Token}
use Rattle.enc_base.proofs.SmallNumbers.{EachIsByte}
use Rattle.enc_opcodes.specs.declared.op.Operand.{Operand}
use Rattle.enc_opcodes.specs.declared.code.Clause.{Clause}
use Rattle.enc_opcodes.specs.Clause.{clauses_of}
use Rattle.enc_opcodes.specs.Instruction.{Argument, nothing, number, target, targets, token, text, raw, Instruction, end_of, instructions_of}
use Rattle.enc_opcodes.specs.Body.{Code, Body, Handler, HandlerKind, catching, filtering, finishing, faulting, told, instruction_told, handler_meant, body_of, may_name, is_named, is_user, is_instruction_start, arg_is_good, instruction_is_good, range_is_good, extra_is_good, clause_is_good, locals_are_good, is_good}
use Rattle.enc_opcodes.specs.Sound.{begins_at, argument_is_sound, instruction_is_sound, handler_kind_is_sound, handler_is_sound, are_whole, body_is_sound}
use Rattle.enc_opcodes.proofs.Instructions.{instructions_are_chain}
use Rattle.enc_opcodes.proofs.Whole.{chain_whole}

-- the tables whose rows an instruction may name have no fewer rows
pub record Grow (f g : ℕ → ℕ) : Type 0 where
  pub each : (t : ℕ) → may_name t ≡ true → f t ≤ g t

either_kept : (a b c : Bool) → (a || b) ≡ true → (b ≡ true → c ≡ true) → (a || c) ≡ true
either_kept true b c h keeps = refl
either_kept false b c h keeps = keeps h

more_rows : (n row m : ℕ) → n ≤ m → nat_le row n ≡ true → nat_le row m ≡ true
more_rows n row m le h = grind (arith, nat_tests)

-- what is named stays named
pub named_kept : (f g : ℕ → ℕ) (t : Token) → Grow f g → is_named f t ≡ true → is_named g t ≡ true
unfolding is_named
named_kept f g t grow h =
    let a = and_parts (may_name t.table && nat_le 1 t.row) (nat_le t.row (f t.table)) h in
    let b = and_parts (may_name t.table) (nat_le 1 t.row) a.0 in
    and_from _ _ a.0 (more_rows (f t.table) t.row (g t.table) (grow.each t.table b.0) a.1)

pub locals_kept : (f g : ℕ → ℕ) (t : Token) → Grow f g → locals_are_good f t ≡ true → locals_are_good g t ≡ true
unfolding locals_are_good
locals_kept f g t grow h = either_kept (t.row == 0) _ _ h (λ e.
    let a = and_parts (t.table == 0x11) (nat_le t.row (f 0x11)) e in
    and_from _ _ a.0 (more_rows (f 0x11) t.row (g 0x11) (grow.each 0x11 refl) a.1))

-- what holds of each of a list holds of each still
each_kept : {A B : Type 0} (h : A → B) (p : A → Bool) (q : B → Bool) (xs : List A) → ((x : A) → p x ≡ true → q (h x) ≡ true) → list_all p xs ≡ true → list_all q (map h xs) ≡ true
each_kept h p q [] keeps all = refl
each_kept h p q (x ∷ xs) keeps all =
    let a = and_parts (p x) (list_all p xs) all in
    and_from (q (h x)) _ (keeps x a.0) (each_kept h p q xs keeps a.1)

targets_kept : (p q : ℕ → Bool) (ts : List ℕ) → ((t : ℕ) → p t ≡ true → q t ≡ true) → list_all p ts ≡ true → list_all q ts ≡ true
targets_kept p q [] keeps all = refl
targets_kept p q (t ∷ ts) keeps all =
    let a = and_parts (p t) (list_all p ts) all in
    and_from (q t) _ (keeps t a.0) (targets_kept p q ts keeps a.1)

-- a good argument is sound when its user text is told
arg_sound : (texts : ℕ → Option (List ℕ)) (f g : ℕ → ℕ) (p q : ℕ → Bool) (o : Operand) (a : Argument ℕ) → Grow f g → ((t : ℕ) → p t ≡ true → q t ≡ true) → arg_is_good f p o a ≡ true → argument_is_sound g q o (told texts a) ≡ true
arg_sound texts f g p q o nothing grow keeps h = refl
arg_sound texts f g p q o (number n) grow keeps h = refl
arg_sound texts f g p q o (target t) grow keeps h = keeps t h
arg_sound texts f g p q o (targets ts) grow keeps h = targets_kept p q ts keeps h
arg_sound texts f g p q o (token t) grow keeps h =
    let a = and_parts (not (is_user o)) (is_named f t) h in
    and_from _ _ a.0 (named_kept f g t grow a.1)
arg_sound texts f g p q o (text offset) grow keeps h = refl
arg_sound texts f g p q o (raw bytes) grow keeps h = refl

one_sound : (texts : ℕ → Option (List ℕ)) (f g : ℕ → ℕ) (p q : ℕ → Bool) (x : ℕ × Instruction ℕ) → Grow f g → ((t : ℕ) → p t ≡ true → q t ≡ true) → instruction_is_good f p x ≡ true → instruction_is_sound g q (instruction_told texts x) ≡ true
unfolding instruction_is_good instruction_is_sound
one_sound texts f g p q x grow keeps h = arg_sound texts f g p q x.1.op.operand x.1.arg grow keeps h

-- the same offsets begin instructions
begin_same : (texts : ℕ → Option (List ℕ)) (xs : List (ℕ × Instruction ℕ)) (t : ℕ) → begins_at (map (instruction_told texts) xs) t ≡ list_any (λ (x : ℕ × Instruction ℕ). x.0 == t) xs
begin_same texts [] t = refl
begin_same texts (x ∷ xs) t = ap (λ b. (x.0 == t) || b) (begin_same texts xs t)

begins_told : (texts : ℕ → Option (List ℕ)) (xs : List (ℕ × Instruction ℕ)) (t : ℕ) → is_instruction_start xs t ≡ true → begins_at (map (instruction_told texts) xs) t ≡ true
unfolding is_instruction_start
begins_told texts xs t h = begin_same texts xs t ∙ h

range_kept : (p q : ℕ → Bool) (size : ℕ) (r : ℕ × ℕ) → ((t : ℕ) → p t ≡ true → q t ≡ true) → range_is_good p size r ≡ true → range_is_good q size r ≡ true
range_kept p q size r keeps h =
    let a = and_parts (p r.0 && nat_le r.0 r.1) (p r.1 || r.1 == size) h in
    let b = and_parts (p r.0) (nat_le r.0 r.1) a.0 in
    and_from _ _ (and_from _ _ (keeps r.0 b.0) b.1) (first_kept (p r.1) (q r.1) (r.1 == size) (keeps r.1) a.1)
  where
    first_kept : (a b c : Bool) → (a ≡ true → b ≡ true) → (a || c) ≡ true → (b || c) ≡ true
    first_kept true b c keeps h = rw (keeps refl) refl
    first_kept false true c keeps h = refl
    first_kept false false c keeps h = h

-- a clause of a good kind has a sound one
not_two : (k m n : ℕ) → (m == n) ≡ false → (k == m) ≡ true → (k == n) ≡ false
not_two k m n apart h = grind (arith, nat_tests)

kind_sound : (f g : ℕ → ℕ) (p q : ℕ → Bool) (k e : ℕ) (a b c d : Bool) → Grow f g → ((t : ℕ) → p t ≡ true → q t ≡ true) → (k == 0) ≡ a → (k == 1) ≡ b → (if a then is_named f (token_of e) else if b then p e else c || d) ≡ true → handler_kind_is_sound g q (if d then faulting else if c then finishing else if b then filtering e else catching (token_of e)) ≡ true
kind_sound f g p q k e a b c true grow keeps ha hb h = refl
kind_sound f g p q k e a b true false grow keeps ha hb h = refl
kind_sound f g p q k e true true false false grow keeps ha hb h = let n : (k == 1) ≡ false = not_two k 0 1 refl ha in absurd (cc)
kind_sound f g p q k e false true false false grow keeps ha hb h = keeps e h
kind_sound f g p q k e true false false false grow keeps ha hb h = named_kept f g (token_of e) grow h
kind_sound f g p q k e false false false false grow keeps ha hb h = absurd (cc)

clause_sound : (f g : ℕ → ℕ) (p q : ℕ → Bool) (size : ℕ) (c : Clause) → Grow f g → ((t : ℕ) → p t ≡ true → q t ≡ true) → clause_is_good f p size c ≡ true → handler_is_sound g q size (handler_meant c) ≡ true
unfolding clause_is_good handler_is_sound
clause_sound f g p q size c grow keeps h =
    let a = and_parts (range_is_good p size c.tries && range_is_good p size c.handler) (extra_is_good f p c.kind c.extra) h in
    let b = and_parts (range_is_good p size c.tries) (range_is_good p size c.handler) a.0 in
    and_from _ _ (and_from _ _ (range_kept p q size c.tries keeps b.0) (range_kept p q size c.handler keeps b.1)) (kind_sound f g p q c.kind c.extra (c.kind == 0) (c.kind == 1) (c.kind == 2) (c.kind == 4) grow keeps refl refl a.1)

eq_of : (a b : ℕ) → (a == b) ≡ true → a ≡ b
eq_of a b h = grind (arith, nat_tests)

-- the body that good code means is sound, whatever its user texts are
pub good_is_sound : (texts : ℕ → Option (List ℕ)) (f g : ℕ → ℕ) (c : Code) → EachIsByte c.code → Grow f g → is_good f c ≡ true → body_is_sound g (body_of texts c) ≡ true
unfolding is_good body_is_sound body_of
good_is_sound texts f g c bytes grow h =
    let all = instructions_of c.code in
    let d = and_parts (end_of c.code 0 == length c.code && list_all (instruction_is_good f (is_instruction_start all)) all && list_all (clause_is_good f (is_instruction_start all) (length c.code)) (clauses_of c.sections)) (locals_are_good f c.locals) h in
    let b = and_parts (end_of c.code 0 == length c.code && list_all (instruction_is_good f (is_instruction_start all)) all) (list_all (clause_is_good f (is_instruction_start all) (length c.code)) (clauses_of c.sections)) d.0 in
    let a = and_parts (end_of c.code 0 == length c.code) (list_all (instruction_is_good f (is_instruction_start all)) all) b.0 in
    let begins : (t : ℕ) → is_instruction_start all t ≡ true → begins_at (map (instruction_told texts) all) t ≡ true = begins_told texts all in
    let whole = chain_whole texts c.code (length c.code) 0 all bytes (instructions_are_chain c.code (eq_of (end_of c.code 0) (length c.code) a.0)) in
    let instructions = each_kept (instruction_told texts) (instruction_is_good f (is_instruction_start all)) (instruction_is_sound g (begins_at (map (instruction_told texts) all))) all (λ x e. one_sound texts f g (is_instruction_start all) (begins_at (map (instruction_told texts) all)) x grow begins e) a.1 in
    let handlers = each_kept handler_meant (clause_is_good f (is_instruction_start all) (length c.code)) (handler_is_sound g (begins_at (map (instruction_told texts) all)) (length c.code)) (clauses_of c.sections) (λ x e. clause_sound f g (is_instruction_start all) (begins_at (map (instruction_told texts) all)) (length c.code) x grow begins e) b.1 in
    and_from _ _ (and_from _ _ (and_from _ _ whole instructions) handlers) (locals_kept f g c.locals grow d.1)

-- the same of a sound body whose tables grow
argument_kept : (f g : ℕ → ℕ) (p : ℕ → Bool) (o : Operand) (a : Argument (List ℕ)) → Grow f g → argument_is_sound f p o a ≡ true → argument_is_sound g p o a ≡ true
argument_kept f g p o nothing grow h = refl
argument_kept f g p o (number n) grow h = refl
argument_kept f g p o (target t) grow h = h
argument_kept f g p o (targets ts) grow h = h
argument_kept f g p o (token t) grow h =
    let a = and_parts (not (is_user o)) (is_named f t) h in
    and_from _ _ a.0 (named_kept f g t grow a.1)
argument_kept f g p o (text units) grow h = refl
argument_kept f g p o (raw bytes) grow h = refl

all_kept : {A : Type 0} (p q : A → Bool) (xs : List A) → ((x : A) → p x ≡ true → q x ≡ true) → list_all p xs ≡ true → list_all q xs ≡ true
all_kept p q [] keeps all = refl
all_kept p q (x ∷ xs) keeps all =
    let a = and_parts (p x) (list_all p xs) all in
    and_from (q x) _ (keeps x a.0) (all_kept p q xs keeps a.1)

instruction_kept : (f g : ℕ → ℕ) (p : ℕ → Bool) (x : ℕ × Instruction (List ℕ)) → Grow f g → instruction_is_sound f p x ≡ true → instruction_is_sound g p x ≡ true
unfolding instruction_is_sound
instruction_kept f g p x grow h = argument_kept f g p x.1.op.operand x.1.arg grow h

kind_kept : (f g : ℕ → ℕ) (p : ℕ → Bool) (k : HandlerKind) → Grow f g → handler_kind_is_sound f p k ≡ true → handler_kind_is_sound g p k ≡ true
kind_kept f g p (catching t) grow h = named_kept f g t grow h
kind_kept f g p (filtering offset) grow h = h
kind_kept f g p finishing grow h = refl
kind_kept f g p faulting grow h = refl

handler_kept : (f g : ℕ → ℕ) (p : ℕ → Bool) (size : ℕ) (x : Handler) → Grow f g → handler_is_sound f p size x ≡ true → handler_is_sound g p size x ≡ true
unfolding handler_is_sound
handler_kept f g p size x grow h =
    let a = and_parts (range_is_good p size x.tries && range_is_good p size x.handler) (handler_kind_is_sound f p x.kind) h in
    and_from _ _ a.0 (kind_kept f g p x.kind grow a.1)

pub sound_kept : (f g : ℕ → ℕ) (b : Body) → Grow f g → body_is_sound f b ≡ true → body_is_sound g b ≡ true
unfolding body_is_sound
sound_kept f g b grow h =
    let d = and_parts (are_whole b.size 0 b.code && list_all (instruction_is_sound f (begins_at b.code)) b.code && list_all (handler_is_sound f (begins_at b.code) b.size) b.handlers) (locals_are_good f b.locals) h in
    let c = and_parts (are_whole b.size 0 b.code && list_all (instruction_is_sound f (begins_at b.code)) b.code) (list_all (handler_is_sound f (begins_at b.code) b.size) b.handlers) d.0 in
    let a = and_parts (are_whole b.size 0 b.code) (list_all (instruction_is_sound f (begins_at b.code)) b.code) c.0 in
    let instructions = all_kept (instruction_is_sound f (begins_at b.code)) (instruction_is_sound g (begins_at b.code)) b.code (λ x e. instruction_kept f g (begins_at b.code) x grow e) a.1 in
    let handlers = all_kept (handler_is_sound f (begins_at b.code) b.size) (handler_is_sound g (begins_at b.code) b.size) b.handlers (λ x e. handler_kept f g (begins_at b.code) b.size x grow e) c.1 in
    and_from _ _ (and_from _ _ (and_from _ _ a.0 instructions) handlers) (locals_kept f g b.locals grow d.1)

-- the local signature of good code is nil or a row
pub good_locals_of : (f : ℕ → ℕ) (c : Code) → is_good f c ≡ true → locals_are_good f c.locals ≡ true
unfolding is_good
good_locals_of f c h = (and_parts (end_of c.code 0 == length c.code && list_all (instruction_is_good f (is_instruction_start (instructions_of c.code))) (instructions_of c.code) && list_all (clause_is_good f (is_instruction_start (instructions_of c.code)) (length c.code)) (clauses_of c.sections)) (locals_are_good f c.locals) h).1

pub good_local : (f : ℕ → ℕ) (t : Token) → locals_are_good f t ≡ true → (t.row == 0) ≡ false → (t.table ≡ 0x11) × (0 < t.row) × (t.row ≤ f 0x11)
unfolding locals_are_good
good_local f t good some = parts t.table t.row (f 0x11) good some
  where
    parts : (table row n : ℕ) → (row == 0 || table == 0x11 && nat_le row n) ≡ true → (row == 0) ≡ false → (table ≡ 0x11) × (0 < row) × (row ≤ n)
    parts table row n good some = (grind (arith, nat_tests), grind (arith, nat_tests), grind (arith, nat_tests))

-- and so is that of a sound body
pub sound_locals : (f : ℕ → ℕ) (b : Body) → body_is_sound f b ≡ true → locals_are_good f b.locals ≡ true
unfolding body_is_sound
sound_locals f b h = (and_parts (are_whole b.size 0 b.code && list_all (instruction_is_sound f (begins_at b.code)) b.code && list_all (handler_is_sound f (begins_at b.code) b.size) b.handlers) (locals_are_good f b.locals) h).1
