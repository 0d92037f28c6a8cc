-- Frames stay placed: what follows a result, places in a sound body, and where its handlers begin.
use Rattle.std.proofs.Common.{◌≡◌, ℕ, zero, suc, Bool, true, false, ◌&&◌, ◌||◌, List, [], ◌∷◌, Option, Some, None, Result, Ok, Err, refl, arith, filter, slice_get, ◌==◌, if◌then◌else◌}
use Rattle.std.specs.List.{list_all, list_any}
use Rattle.std.proofs.lemmas.Bool.{and_parts, and_from}
use Rattle.std.proofs.lemmas.Bool.Decides.{nat_tests}
use Rattle.enc_objects.specs.declared.trap.Trap.{Trap}
use Rattle.enc_objects.specs.declared.value.Value.{Value}
use Rattle.enc_base.specs.declared.token.Token.{Token}
use Rattle.enc_opcodes.specs.Body.{Body, Handler, range_is_good, locals_are_good}
use Rattle.enc_opcodes.specs.Instruction.{Instruction}
use Rattle.enc_opcodes.specs.Sound.{begins_at, are_whole, instruction_is_sound, handler_kind_is_sound, handler_is_sound, body_is_sound}
use Rattle.enc_frames.specs.Handlers.{handler_range, handler_range_of}
use Rattle.enc_frames.specs.Machine.{World, Frame}
use Rattle.enc_vm.specs.Placed.{is_place_in, IsSoundCode, IsFramePlaced}
use Rattle.enc_frames.specs.Results.{◌>>=◌, or_trap}

-- what holds of what a result gives, and of what is there
abbrev pub AfterOk : {A : Type 0} → (A → Type 0) → Result A Trap → Type 0
AfterOk P (Ok x) = P x
AfterOk P (Err t) = Unit {0}

abbrev pub AfterSome : {A : Type 0} → (A → Type 0) → Option A → Type 0
AfterSome P (Some x) = P x
AfterSome P None = Unit {0}

pub through : {A B : Type 0} (Q : B → Type 0) (r : Result A Trap) (f : A → Result B Trap) → ((x : A) → AfterOk Q (f x)) → AfterOk Q (r >>= f)
through Q (Ok x) f each = each x
through Q (Err t) f each = tt

pub after_that : {A B : Type 0} (P : A → Type 0) (Q : B → Type 0) (r : Result A Trap) (f : A → Result B Trap)
    → AfterOk P r → ((x : A) → P x → AfterOk Q (f x)) → AfterOk Q (r >>= f)
after_that P Q (Ok x) f holds each = each x holds
after_that P Q (Err t) f holds each = tt

pub or_trapped : {A : Type 0} (P : A → Type 0) (x : Trap) (o : Option A) → AfterSome P o → AfterOk P (or_trap x o)
or_trapped P x (Some y) holds = holds
or_trapped P x None holds = tt

pub either_way : {A : Type 0} (P : A → Type 0) (b : Bool) (x y : A) → P x → P y → P (if b then x else y)
either_way P true x y hx hy = hx
either_way P false x y hx hy = hy

pub or_left : (a b : Bool) → a ≡ true → (a || b) ≡ true
or_left a b e = rw e refl

pub or_right : (a b : Bool) → b ≡ true → (a || b) ≡ true
or_right true b e = refl
or_right false b e = e

is_same : (n : ℕ) → (n == n) ≡ true
is_same n = grind (arith, nat_tests)

-- an instruction begins at a place
pub begins_place : (b : Body) (offset : ℕ) → begins_at b.code offset ≡ true → is_place_in b offset ≡ true
begins_place b offset h = or_left (begins_at b.code offset) (offset == b.size) h

-- the code's end is one
pub end_place : (b : Body) → is_place_in b b.size ≡ true
end_place b = or_right (begins_at b.code b.size) (b.size == b.size) (is_same b.size)

-- the parts of a sound body
pub record HasParts (count : ℕ → ℕ) (b : Body) : Type 0 where
  pub whole : are_whole b.size 0 b.code ≡ true
  pub instructions : list_all (instruction_is_sound count (begins_at b.code)) b.code ≡ true
  pub handlers : list_all (handler_is_sound count (begins_at b.code) b.size) b.handlers ≡ true

pub parts_of : (count : ℕ → ℕ) (b : Body) → body_is_sound count b ≡ true → HasParts count b
unfolding body_is_sound
parts_of count b h =
    let d = and_parts (are_whole b.size 0 b.code && list_all (instruction_is_sound count (begins_at b.code)) b.code && list_all (handler_is_sound count (begins_at b.code) b.size) b.handlers) (locals_are_good count b.locals) h in
    let c = and_parts (are_whole b.size 0 b.code && list_all (instruction_is_sound count (begins_at b.code)) b.code) (list_all (handler_is_sound count (begins_at b.code) b.size) b.handlers) d.0 in
    let a = and_parts (are_whole b.size 0 b.code) (list_all (instruction_is_sound count (begins_at b.code)) b.code) c.0 in
    record { whole = a.0; instructions = a.1; handlers = c.1 }

-- its first offset is a place
zero_in : (size : ℕ) (code : List (ℕ × Instruction (List ℕ))) → are_whole size 0 code ≡ true → (begins_at code 0 || 0 == size) ≡ true
unfolding are_whole
zero_in size [] h = h
zero_in size (x ∷ rest) h = or_left _ _ (or_left (x.0 == 0) (list_any (λ (y : ℕ × Instruction (List ℕ)). y.0 == 0) rest) (and_parts (x.0 == 0) _ h).0)

pub zero_place : (b : Body) → IsSoundCode b → is_place_in b 0 ≡ true
zero_place b sound = zero_in b.size b.code (parts_of sound.0 b sound.1).whole

-- and so is where a handler begins
range_begins : (begins : ℕ → Bool) (size : ℕ) (r : ℕ × ℕ) → range_is_good begins size r ≡ true → begins r.0 ≡ true
range_begins begins size r h = (and_parts (begins r.0) _ (and_parts _ (begins r.1 || r.1 == size) h).0).0

handler_begins : (count : ℕ → ℕ) (begins : ℕ → Bool) (size : ℕ) (x : Handler) → handler_is_sound count begins size x ≡ true → begins (x.handler.0) ≡ true
unfolding handler_is_sound
handler_begins count begins size x h =
    let a = and_parts (range_is_good begins size x.tries && range_is_good begins size x.handler) (handler_kind_is_sound count begins x.kind) h in
    range_begins begins size x.handler (and_parts (range_is_good begins size x.tries) (range_is_good begins size x.handler) a.0).1

range_place : (b : Body) (count : ℕ → ℕ) (clauses : List Handler) (k : ℕ) → is_place_in b 0 ≡ true
    → list_all (handler_is_sound count (begins_at b.code) b.size) clauses ≡ true → is_place_in b ((handler_range_of (slice_get clauses k)).0) ≡ true
range_place b count [] k first all = first
range_place b count (x ∷ rest) zero first all =
    begins_place b (x.handler.0) (handler_begins count (begins_at b.code) b.size x (and_parts (handler_is_sound count (begins_at b.code) b.size x) _ all).0)
range_place b count (x ∷ rest) (suc k) first all = range_place b count rest k first (and_parts (handler_is_sound count (begins_at b.code) b.size x) _ all).1

pub handler_place : (b : Body) → IsSoundCode b → (clause : ℕ) → is_place_in b ((handler_range b.handlers clause).0) ≡ true
unfolding handler_range
handler_place b sound clause = range_place b sound.0 b.handlers clause (zero_place b sound) (parts_of sound.0 b sound.1).handlers

-- fewer of those that hold hold
pub fewer_hold : {A : Type 0} (p q : A → Bool) (xs : List A) → list_all p xs ≡ true → list_all p (filter q xs) ≡ true
fewer_hold p q [] all = refl
fewer_hold p q (x ∷ xs) all =
    either_way (λ (l : List _). list_all p l ≡ true) (q x) (x ∷ filter q xs) (filter q xs)
    (and_from (p x) (list_all p (filter q xs)) (and_parts (p x) (list_all p xs) all).0 (fewer_hold p q xs (and_parts (p x) (list_all p xs) all).1))
    (fewer_hold p q xs (and_parts (p x) (list_all p xs) all).1)

-- a frame at another place of its body
pub here : {C : Type 0} (w : World C) (f : Frame C) (method : Token) (offset : ℕ) (args locals stack : List Value)
    → IsFramePlaced w f → is_place_in (w.body f.code) offset ≡ true
    → IsFramePlaced w (record { method = method; code = f.code; offset = offset; args = args; locals = locals; stack = stack; running = f.running })
here w f method offset args locals stack p at = record { sound = p.sound; at = at; leaves = p.leaves }
