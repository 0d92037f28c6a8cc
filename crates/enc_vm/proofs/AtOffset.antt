-- The instruction at an offset: what the list of a code's instructions has there is what its bytes say.
use Rattle.std.proofs.Common.{◌≡◌, ℕ, zero, suc, ◌+◌, ◌-◌, Bool, true, false, ◌<◌, List, [], ◌∷◌, length, map, get_or, Option, Some, None, Result, Err, refl, sym, ap, subst, ◌∙◌, arith}
use Rattle.std.specs.Prelude.{option_map, nat_lt, ◌==◌, ◌&&◌, ◌||◌, if◌then◌else◌}
use Rattle.std.specs.List.{list_all, list_any}
use Rattle.std.proofs.lemmas.Bool.Decides.{nat_tests}
use Rattle.std.proofs.lemmas.Bool.{and_parts, and_from}
use borrow.Author.Tests.{eqb-true}
use Rattle.enc_base.specs.Numbers.{AreBytes}
use Rattle.enc_base.proofs.SmallNumbers.{EachIsByte, bytes_each}
use Rattle.enc_il.specs.Seen.{arg_seen, instr_seen}
use Rattle.enc_objects.specs.declared.trap.Trap.{Trap}
use Rattle.enc_objects.specs.declared.trap.Trap.TheVariants.{X1}
use Rattle.enc_opcodes.proofs.Chains.{none_past}
use Rattle.enc_opcodes.proofs.Instructions.{instr_goes}
use Rattle.enc_opcodes.proofs.Whole.{chain_whole}
use Rattle.enc_opcodes.specs.Body.{Code, body_of, told, instruction_told}
use Rattle.enc_opcodes.specs.Instruction.{Instruction, instr_in, chain, chain_on, IsChain, rest_of, instructions_of}
use Rattle.enc_opcodes.specs.declared.code.Instr.{Instr}
use Rattle.enc_opcodes.specs.Sound.{begins_at, instruction_size, are_whole, body_is_sound}
use Rattle.enc_plain.specs.Module.{Module}
use Rattle.enc_versions.specs.Version.{Version}
use Rattle.enc_frames.specs.Machine.{Frame, Thread, Shared, version_world}
use Rattle.enc_vm.specs.Placed.{is_place_in, IsSoundCode, IsFramePlaced}
use Rattle.enc_vm.specs.EffectsSeen.{Performs}
use Rattle.enc_frames.specs.Results.{◌>>=◌, or_trap, Made}
use Rattle.enc_vm.specs.Step.{begin_of, instruction_among, instruction_of, advance, perform}
use Rattle.enc_vm.specs.declared.effect.Effect.{Effect}
use Rattle.enc_frames.specs.declared.stop.Stop.{Stop}

-- an instruction with its user text
abbrev pub told_one : (ℕ → Option (List ℕ)) → Instruction ℕ × ℕ → Instruction (List ℕ) × ℕ
told_one texts x = (record { op = x.0.op; arg = told texts x.0.arg }, x.1)

begin_is : (texts : ℕ → Option (List ℕ)) (step : ℕ → Option (Instruction ℕ × ℕ)) (size n : ℕ) (xs : List (ℕ × Instruction ℕ)) → IsChain step size n xs
    → begin_of size (map (instruction_told texts) xs) ≡ n
unfolding IsChain
begin_is texts step size n [] h = sym h
begin_is texts step size n (x ∷ rest) h = h.1

here : (texts : ℕ → Option (List ℕ)) (step : ℕ → Option (Instruction ℕ × ℕ)) (size offset at n : ℕ) (x : ℕ × Instruction ℕ) (rest : List (ℕ × Instruction ℕ))
    → x.0 ≡ offset → x.0 ≡ at → step at ≡ Some (x.1, n) → IsChain step size n rest
    → Some (record { op = x.1.op; arg = told texts x.1.arg }, begin_of size (map (instruction_told texts) rest)) ≡ option_map (told_one texts) (step offset)
here texts step size offset at n x rest there is stands next =
    ap (λ (k : ℕ). Some (record { op = x.1.op; arg = told texts x.1.arg }, k)) (begin_is texts step size n rest next)
    ∙ ap (option_map (told_one texts)) (sym stands)
    ∙ ap (λ (k : ℕ). option_map (told_one texts) (step k)) (sym is ∙ there)

found_by : (texts : ℕ → Option (List ℕ)) (step : ℕ → Option (Instruction ℕ × ℕ)) (size offset at n : ℕ) (x : ℕ × Instruction ℕ) (rest : List (ℕ × Instruction ℕ)) (b : Bool)
    → (x.0 == offset) ≡ b → x.0 ≡ at → step at ≡ Some (x.1, n) → IsChain step size n rest
    → (list_any (λ (y : ℕ × Instruction ℕ). y.0 == offset) rest ≡ true
    → instruction_among size offset (map (instruction_told texts) rest) ≡ option_map (told_one texts) (step offset))
    → (b || list_any (λ (y : ℕ × Instruction ℕ). y.0 == offset) rest) ≡ true
    → (if b then Some (record { op = x.1.op; arg = told texts x.1.arg }, begin_of size (map (instruction_told texts) rest))
    else instruction_among size offset (map (instruction_told texts) rest))
    ≡ option_map (told_one texts) (step offset)
found_by texts step size offset at n x rest true e is stands next behind any = here texts step size offset at n x rest (eqb-true x.0 offset e) is stands next
found_by texts step size offset at n x rest false e is stands next behind any = behind any

found : (texts : ℕ → Option (List ℕ)) (step : ℕ → Option (Instruction ℕ × ℕ)) (size offset at : ℕ) (xs : List (ℕ × Instruction ℕ)) → IsChain step size at xs
    → list_any (λ (x : ℕ × Instruction ℕ). x.0 == offset) xs ≡ true
    → instruction_among size offset (map (instruction_told texts) xs) ≡ option_map (told_one texts) (step offset)
unfolding IsChain instruction_among
found texts step size offset at [] h any = absurd cc
found texts step size offset at (x ∷ rest) h any =
    found_by texts step size offset at h.0 x rest (x.0 == offset) refl h.1 h.2 h.3 (found texts step size offset h.0 rest h.3) any

absent_by : (texts : ℕ → Option (List ℕ)) (size offset : ℕ) (x : ℕ × Instruction ℕ) (rest : List (ℕ × Instruction ℕ)) (b : Bool)
    → (list_any (λ (y : ℕ × Instruction ℕ). y.0 == offset) rest ≡ false → instruction_among size offset (map (instruction_told texts) rest) ≡ None)
    → (b || list_any (λ (y : ℕ × Instruction ℕ). y.0 == offset) rest) ≡ false
    → (if b then Some (record { op = x.1.op; arg = told texts x.1.arg }, begin_of size (map (instruction_told texts) rest))
    else instruction_among size offset (map (instruction_told texts) rest))
    ≡ None
absent_by texts size offset x rest true behind any = absurd cc
absent_by texts size offset x rest false behind any = behind any

absent : (texts : ℕ → Option (List ℕ)) (size offset : ℕ) (xs : List (ℕ × Instruction ℕ)) → list_any (λ (x : ℕ × Instruction ℕ). x.0 == offset) xs ≡ false
    → instruction_among size offset (map (instruction_told texts) xs) ≡ None
unfolding instruction_among
absent texts size offset [] any = refl
absent texts size offset (x ∷ rest) any = absent_by texts size offset x rest (x.0 == offset) (absent texts size offset rest) any

behind_all : (code : List ℕ) (offset : ℕ) → (offset == length code) ≡ true → instr_in code offset ≡ None
behind_all code offset h = ap (instr_in code) (eqb-true offset (length code) h) ∙ none_past (instr_in code) (length code) (length code) (instr_goes code) (omega arith)

at_by : (texts : ℕ → Option (List ℕ)) (code : List ℕ) (offset : ℕ) (b : Bool) → IsChain (instr_in code) (length code) 0 (instructions_of code)
    → list_any (λ (x : ℕ × Instruction ℕ). x.0 == offset) (instructions_of code) ≡ b
    → (b || offset == length code) ≡ true
    → instruction_among (length code) offset (map (instruction_told texts) (instructions_of code)) ≡ option_map (told_one texts) (instr_in code offset)
at_by texts code offset true chain e h = found texts (instr_in code) (length code) offset 0 (instructions_of code) chain e
at_by texts code offset false chain e h =
    absent texts (length code) offset (instructions_of code) e ∙ ap (option_map (told_one texts)) (sym (behind_all code offset h))

-- an instruction ends behind its size
size_is : (texts : ℕ → Option (List ℕ)) (code : List ℕ) (at n : ℕ) (i : Instruction ℕ) → EachIsByte code → instr_in code at ≡ Some (i, n)
    → at + instruction_size (instruction_told texts (at, i)).1 ≡ n
unfolding IsChain are_whole
size_is texts code at n i bytes is = by_one (chain_whole texts code n at ((at, i) ∷ []) bytes one)
  where
    one : IsChain (instr_in code) n at ((at, i) ∷ [])
    one = (n, refl, is, refl)

    by_one : are_whole n at (map (instruction_told texts) ((at, i) ∷ [])) ≡ true → at + instruction_size (instruction_told texts (at, i)).1 ≡ n
    by_one h = eqb-true (at + instruction_size (instruction_told texts (at, i)).1) n (and_parts (at == at) _ h).1

-- where the instructions take all bytes, they are all that is read
chain_by : (texts : ℕ → Option (List ℕ)) (code : List ℕ) (size at : ℕ) (o : Option (Instruction ℕ × ℕ)) (f : ℕ → List (ℕ × Instruction ℕ)) → EachIsByte code
    → ((n : ℕ) → are_whole size n (map (instruction_told texts) (f n)) ≡ true → IsChain (instr_in code) size n (f n))
    → instr_in code at ≡ o → are_whole size at (map (instruction_told texts) (chain_on at o f)) ≡ true
    → IsChain (instr_in code) size at (chain_on at o f)
unfolding are_whole IsChain
chain_by texts code size at None f bytes next is h = eqb-true at size h
chain_by texts code size at (Some x) f bytes next is h =
    let e : at + instruction_size (instruction_told texts (at, x.0)).1 ≡ x.1 = size_is texts code at x.1 x.0 bytes is in
    (x.1, refl, is, next x.1 (ap (λ n. are_whole size n (map (instruction_told texts) (f x.1))) (sym e) ∙ (and_parts (at == at) _ h).1))

whole_chain : (texts : ℕ → Option (List ℕ)) (code : List ℕ) (size k at : ℕ) → EachIsByte code
    → are_whole size at (map (instruction_told texts) (chain (instr_in code) k at)) ≡ true → IsChain (instr_in code) size at (chain (instr_in code) k at)
unfolding chain are_whole IsChain
whole_chain texts code size zero at bytes h = eqb-true at size h
whole_chain texts code size (suc k) at bytes h =
    chain_by texts code size at (instr_in code at) (chain (instr_in code) k) bytes (λ n e. whole_chain texts code size k n bytes e) refl h

whole_code : (texts : ℕ → Option (List ℕ)) (code : List ℕ) → EachIsByte code → are_whole (length code) 0 (map (instruction_told texts) (instructions_of code)) ≡ true
    → IsChain (instr_in code) (length code) 0 (instructions_of code)
unfolding rest_of
whole_code texts code bytes h = whole_chain texts code (length code) (length code - 0) 0 bytes h

begin_same : (texts : ℕ → Option (List ℕ)) (xs : List (ℕ × Instruction ℕ)) (t : ℕ) → begins_at (map (instruction_told texts) xs) t ≡ list_any (λ (x : ℕ × Instruction ℕ). x.0 == t) xs
begin_same texts [] t = refl
begin_same texts (x ∷ xs) t = ap (λ b. (x.0 == t) || b) (begin_same texts xs t)

-- at an offset where an instruction begins, or the code ends
at_offset : (texts : ℕ → Option (List ℕ)) (c : Code) (offset : ℕ) → AreBytes c.code → IsSoundCode (body_of texts c) → is_place_in (body_of texts c) offset ≡ true
    → instruction_among (length c.code) offset (map (instruction_told texts) (instructions_of c.code)) ≡ option_map (told_one texts) (instr_in c.code offset)
unfolding body_of body_is_sound
at_offset texts c offset bytes sound h =
    at_by texts c.code offset (list_any (λ (x : ℕ × Instruction ℕ). x.0 == offset) (instructions_of c.code))
    (whole_code texts c.code (bytes_each c.code bytes) (whole_of sound.1)) refl
    (ap (λ b. b || offset == length c.code) (sym (begin_same texts (instructions_of c.code) offset)) ∙ h)
  where
    whole_of : body_is_sound sound.0 (body_of texts c) ≡ true → are_whole (length c.code) 0 (map (instruction_told texts) (instructions_of c.code)) ≡ true
    whole_of e = (and_parts (are_whole (length c.code) 0 (body_of texts c).code) _ (and_parts (are_whole (length c.code) 0 (body_of texts c).code && _) _ (and_parts (are_whole (length c.code) 0 (body_of texts c).code && _ && _) _ e).0).0).0

-- the instruction at which a frame stands
pub instruction_is : (users : ℕ → Option (List ℕ)) (m : Module) (methods : List (Option Version)) (f : Frame Version)
    → AreBytes f.code.code.code → IsFramePlaced (version_world users m methods) f
    → instruction_of (version_world users m methods) f ≡ option_map (told_one users) (instr_in f.code.code.code f.offset)
unfolding version_world body_of
instruction_is users m methods f bytes placed = at_offset users f.code.code f.offset bytes placed.sound placed.at

advance_by : (users : ℕ → Option (List ℕ)) (m : Module) (methods : List (Option Version)) (s : Shared) (t : Thread Version)
    → AreBytes t.top.code.code.code → IsFramePlaced (version_world users m methods) t.top
    → advance (version_world users m methods) s t
    ≡ (or_trap X1 (option_map (told_one users) (instr_in t.top.code.code.code t.top.offset)) >>= λ (x : Instruction (List ℕ) × ℕ).
    perform (version_world users m methods) x.1 x.0.op x.0.arg s t)
unfolding advance version_world body_of
advance_by users m methods s t bytes placed =
    ap (λ (o : Option (Instruction (List ℕ) × ℕ)). or_trap X1 o >>= λ x. perform (version_world users m methods) x.1 x.0.op x.0.arg s t)
    (at_offset users t.top.code.code t.top.offset bytes placed.sound placed.at)

-- behind the code
pub advance_ends : (users : ℕ → Option (List ℕ)) (m : Module) (methods : List (Option Version)) (s : Shared) (t : Thread Version)
    → AreBytes t.top.code.code.code → IsFramePlaced (version_world users m methods) t.top → instr_in t.top.code.code.code t.top.offset ≡ None
    → advance (version_world users m methods) s t ≡ Err X1
advance_ends users m methods s t bytes placed none =
    advance_by users m methods s t bytes placed
    ∙ ap (λ (o : Option (Instruction ℕ × ℕ)). or_trap X1 (option_map (told_one users) o) >>= λ x. perform (version_world users m methods) x.1 x.0.op x.0.arg s t) none

-- at an instruction
pub advance_is : (users : ℕ → Option (List ℕ)) (m : Module) (methods : List (Option Version)) (s : Shared) (t : Thread Version) (i : Instruction ℕ) (n : ℕ)
    → AreBytes t.top.code.code.code → IsFramePlaced (version_world users m methods) t.top → instr_in t.top.code.code.code t.top.offset ≡ Some (i, n)
    → advance (version_world users m methods) s t ≡ perform (version_world users m methods) n i.op (told users i.arg) s t
advance_is users m methods s t i n bytes placed some =
    advance_by users m methods s t bytes placed
    ∙ ap (λ (o : Option (Instruction ℕ × ℕ)). or_trap X1 (option_map (told_one users) o) >>= λ x. perform (version_world users m methods) x.1 x.0.op x.0.arg s t) some

seen_none : (x : Option (Instr × ℕ)) (o : Option (Instruction ℕ × ℕ)) → option_map instr_seen x ≡ o → x ≡ None → o ≡ None
seen_none x o h none = sym h ∙ ap (option_map instr_seen) none

pub ends_at : (users : ℕ → Option (List ℕ)) (m : Module) (methods : List (Option Version)) (s : Shared) (t : Thread Version) (v : Version) (x : Option (Instr × ℕ))
    → v ≡ t.top.code → option_map instr_seen x ≡ instr_in v.code.code t.top.offset → AreBytes v.code.code → x ≡ None
    → IsFramePlaced (version_world users m methods) t.top → advance (version_world users m methods) s t ≡ Err X1
ends_at users m methods s t v x is seen bytes none placed =
    advance_ends users m methods s t (subst (λ (c : Version). AreBytes c.code.code) is bytes) placed
    (ap (λ (c : Version). instr_in c.code.code t.top.offset) (sym is) ∙ seen_none x (instr_in v.code.code t.top.offset) seen none)

-- and performs what stands there
pub performs_at : (users : ℕ → Option (List ℕ)) (m : Module) (methods : List (Option Version)) (s q : Shared) (t u : Thread Version) (v : Version)
    (x : Option (Instr × ℕ)) (i : Instr) (n : ℕ) (r : Result Effect Stop)
    → v ≡ t.top.code → option_map instr_seen x ≡ instr_in v.code.code t.top.offset → AreBytes v.code.code → x ≡ Some (i, n)
    → IsFramePlaced (version_world users m methods) t.top
    → Performs r q s u t (perform (version_world users m methods) n i.op (told users (arg_seen n i.arg)) s t)
    → Performs r q s u t (advance (version_world users m methods) s t)
performs_at users m methods s q t u v x i n r is seen bytes some placed done =
    subst (λ (said : Result (Made Version) Trap). Performs r q s u t said)
    (sym (advance_is users m methods s t (instr_seen (i, n)).0 n (subst (λ (c : Version). AreBytes c.code.code) is bytes) placed
    (ap (λ (c : Version). instr_in c.code.code t.top.offset) (sym is) ∙ sym seen ∙ ap (option_map instr_seen) some)))
    done

one_byte : (b : ℕ) → b < 256 → nat_lt b 0x100 ≡ true
one_byte b few = grind (arith, nat_tests)

pub all_bytes : (bytes : List ℕ) → ((i : ℕ) → get_or bytes i 0 < 256) → list_all (λ b. nat_lt b 0x100) bytes ≡ true
all_bytes [] each = refl
all_bytes (b ∷ rest) each = and_from (nat_lt b 0x100) _ (one_byte b (each 0)) (all_bytes rest (λ i. each (suc i)))
