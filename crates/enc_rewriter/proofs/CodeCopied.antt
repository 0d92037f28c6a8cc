-- Code that is said anew, instruction by instruction.
use Rattle.std.proofs.Common.{◌≡◌, ℕ, ◌+◌, ◌-◌, ◌*◌, ◌/◌, ◌%◌, ◌^◌, ◌<◌, ◌≤◌, Bool, true, false, List, [], ◌∷◌, ◌++◌, length, map, take, drop, get_or, Option, Some, None, refl, sym, ap, subst, ◌∙◌, arith, Result, Ok, Err}
use Rattle.std.specs.Prelude.{unwrap_or, ◌&&◌, OnOk, IfOk}
use Rattle.std.specs.List.{list_all}
use Rattle.std.specs.Int.{w32, to_le_bytes}
use Rattle.std.proofs.lemmas.List.{append_assoc, append-nil, length-append, length-take-le, length-drop, get_or-drop, get_or-take, get_or_append_left, get_or-append_right}
use Rattle.enc_base.specs.Numbers.{little_endian_at}
use Rattle.enc_base.specs.Units.{units_of}
use Rattle.enc_meta.specs.Built.{unit_bytes}
use Rattle.enc_opcodes.specs.Body.{told, instruction_told, text_is_there}
use Rattle.enc_opcodes.specs.Instruction.{Argument, nothing, number, target, targets, token, text, raw, Instruction, instr_in, rest_of, end_of}
use Rattle.enc_opcodes.proofs.Chains.{none_past}
use Rattle.enc_opcodes.proofs.Instructions.{instr_goes, instr_ends, rest_none, rest_more, rest_end_none, rest_end_more}
use Rattle.enc_il.proofs.Numbers.{word_between}
use Rattle.enc_il.specs.Seen.{arg_seen}
use Rattle.enc_opcodes.specs.declared.code.Arg.{Arg}
use Rattle.enc_opcodes.specs.declared.code.Arg.TheVariants as arg
use Rattle.std.proofs.lemmas.Bool.{and_parts, and_from}
use Rattle.std.proofs.lemmas.List.Folds.{list_all-append}
use Rattle.enc_rewriter.specs.Values.{units_told, text_named}
use Rattle.enc_rewriter.proofs.UserTexts.{left, left_more}
use Rattle.enc_rewriter.specs.Copied.{names_text, SaysSame, IsCopied, IsNamed}
use Rattle.enc_rewriter.proofs.OwnBytes.{Same, instr_same, instr_user, user_room}

-- units are those that their bytes spell
unit_is : (u : ℕ) → u % 0x100 + 256 * (u / 0x100) ≡ u
unit_is u = omega arith

pub units_again : (us : List ℕ) → units_of (unit_bytes us) ≡ us
unfolding units_of
units_again [] = refl
units_again (u ∷ us) = rw (unit_is u, units_again us) refl

pub one_more : (old new : ℕ → Option (List ℕ)) (code says : List ℕ) (at n : ℕ) (i j : Instruction ℕ) → instr_in code at ≡ Some (i, n) → instr_in says at ≡ Some (j, n)
    → instruction_told new (at, j) ≡ instruction_told old (at, i) → names_text new (at, j) ≡ true → SaysSame old new code says n → SaysSame old new code says at
one_more old new code says at n i j is there same named rest = record {
  told = ap (map (instruction_told new)) (rest_more says at n j there)
      ∙ ap (λ x. x ∷ map (instruction_told new) (rest_of says n)) same
      ∙ ap (λ xs. instruction_told old (at, i) ∷ xs) rest.told
      ∙ ap (map (instruction_told old)) (sym (rest_more code at n i is));
  ends = rest_end_more says at n j there ∙ rest.ends ∙ sym (rest_end_more code at n i is);
  there = ap (list_all (names_text new)) (rest_more says at n j there) ∙ and_from _ _ named rest.there;
}

-- an argument that names no user text says the same
abbrev pub names_none : Argument ℕ → Bool
names_none (text t) = false
names_none _ = true

arg_told : (old new : ℕ → Option (List ℕ)) (a : Argument ℕ) → names_none a ≡ true → told new a ≡ told old a
arg_told old new nothing e = refl
arg_told old new (number n) e = refl
arg_told old new (target t) e = refl
arg_told old new (targets ts) e = refl
arg_told old new (token t) e = refl
arg_told old new (text t) e = absurd cc
arg_told old new (raw bytes) e = refl

arg_there : (new : ℕ → Option (List ℕ)) (a : Argument ℕ) → names_none a ≡ true → text_is_there new a ≡ true
arg_there new nothing e = refl
arg_there new (number n) e = refl
arg_there new (target t) e = refl
arg_there new (targets ts) e = refl
arg_there new (token t) e = refl
arg_there new (text t) e = absurd cc
arg_there new (raw bytes) e = refl

-- the bytes of an instruction stand behind what was said before it
same_here : (code says rest : List ℕ) (at n : ℕ) → length says ≡ at → at ≤ n → n ≤ length code → Same code (says ++ (take (n - at) (drop at code) ++ rest)) at n
same_here code says rest at n size from to =
    let piece = take (n - at) (drop at code) in
    let long : length piece ≡ n - at = length-take-le (n - at) (drop at code) (rw (length-drop at code) (omega (arith, to))) in
    record {
      short = rw (length-append says (piece ++ rest), length-append piece rest) (omega (arith, long, size, from));
      each = λ i lo hi.
          let e : get_or (says ++ (piece ++ rest)) i 0 ≡ get_or (piece ++ rest) (i - at) 0 = get_or-append_right says (piece ++ rest) at i 0 size lo in
          let f : get_or (piece ++ rest) (i - at) 0 ≡ get_or piece (i - at) 0 = get_or_append_left piece rest 0 (i - at) (omega (arith, long, lo, hi)) in
          let g : get_or piece (i - at) 0 ≡ get_or (drop at code) (i - at) 0 = get_or-take (n - at) (drop at code) (i - at) 0 (omega (arith, lo, hi)) in
          let k : get_or (drop at code) (i - at) 0 ≡ get_or code (at + (i - at)) 0 = get_or-drop at code (i - at) 0 in
          let j : at + (i - at) ≡ i = omega (arith, lo) in
          sym (e ∙ f ∙ g ∙ k ∙ ap (λ p. get_or code p 0) j);
    }

piece_size : (code says : List ℕ) (at n : ℕ) → length says ≡ at → at ≤ n → n ≤ length code → length (says ++ take (n - at) (drop at code)) ≡ n
piece_size code says at n size from to =
    let long : length (take (n - at) (drop at code)) ≡ n - at = length-take-le (n - at) (drop at code) (rw (length-drop at code) (omega (arith, to))) in
    length-append says (take (n - at) (drop at code)) ∙ omega (arith, long, size, from)

-- nothing is said at first
pub copied_none : (old new : ℕ → Option (List ℕ)) (code : List ℕ) → IsCopied old new code [] 0
copied_none old new code = record { size = refl; ends = refl; before = λ rest same. same }

-- an instruction that names no user text is said as it is
pub copied_plain : (old new : ℕ → Option (List ℕ)) (code says : List ℕ) (at n : ℕ) (i : Instruction ℕ) → instr_in code at ≡ Some (i, n) → names_none i.arg ≡ true
    → IsCopied old new code says at → IsCopied old new code (says ++ take (n - at) (drop at code)) n
copied_plain old new code says at n i is plain copied =
    let lt = instr_ends code at n i is in
    let piece = take (n - at) (drop at code) in
    let from : at ≤ n = omega (arith, lt.0) in
    record {
      size = piece_size code says at n copied.size from lt.1;
      ends = sym (rest_end_more code at n i is) ∙ copied.ends;
      before = λ rest same.
          let there : instr_in (says ++ (piece ++ rest)) at ≡ Some (i, n) = instr_same code (says ++ (piece ++ rest)) at n i (same_here code says rest at n copied.size from lt.1) is in
          let split : (says ++ piece) ++ rest ≡ says ++ (piece ++ rest) = append_assoc says piece rest in
          let later : SaysSame old new code (says ++ (piece ++ rest)) n = subst (λ xs. SaysSame old new code xs n) split same in
          let alike : instruction_told new (at, i) ≡ instruction_told old (at, i) =
          ap (λ (a : Argument (List ℕ)). let j : Instruction (List ℕ) = record { op = i.op; arg = a } in (at, j)) (arg_told old new i.arg plain) in
          let now = one_more old new code (says ++ (piece ++ rest)) at n i i is there alike (arg_there new i.arg plain) later in
          subst (λ xs. SaysSame old new code xs 0) (sym split) (copied.before (piece ++ rest) now);
    }

-- one that names a user text is said with the token of another
units_alike : (old new : ℕ → Option (List ℕ)) (t x : ℕ) → new x ≡ Some (units_told (old t)) → units_of (unwrap_or (new x) []) ≡ units_of (unwrap_or (old t) [])
units_alike old new t x is = ap (λ (o : Option (List ℕ)). units_of (unwrap_or o [])) is ∙ units_again (units_of (unwrap_or (old t) []))

text_told : (old new : ℕ → Option (List ℕ)) (t x : ℕ) (a : Argument ℕ) → a ≡ text t → new x ≡ Some (units_told (old t)) → told new (text x) ≡ told old a
text_told old new t x a e is = ap (λ us. text us) (units_alike old new t x is) ∙ ap (told old) (sym e)

abbrev pub with_token : List ℕ → List ℕ → ℕ → ℕ → ℕ → List ℕ
with_token says code at n x = (says ++ take (n - at) (drop at code)) ++ to_le_bytes w32 (0x70000000 + x)

token_size : (xs : List ℕ) (x : ℕ) → length (xs ++ to_le_bytes w32 x) ≡ length xs + 4
token_size xs x = length-append xs (to_le_bytes w32 x)

pub copied_text : (old new : ℕ → Option (List ℕ)) (code says : List ℕ) (at n t x : ℕ) (i : Instruction ℕ) → instr_in code at ≡ Some (i, n) → i.arg ≡ text t → x < 2 ^ 24 → new x ≡ Some (units_told (old t))
    → IsCopied old new code says at → IsCopied old new code (with_token says code at (n - 4) x) n
copied_text old new code says at n t x i is names few told copied =
    let lt = instr_ends code at n i is in
    let room = user_room code at n t i is names in
    let piece = take (n - 4 - at) (drop at code) in
    let word = to_le_bytes w32 (0x70000000 + x) in
    let from : at ≤ n - 4 = omega (arith, room) in
    let to : n - 4 ≤ length code = omega (arith, lt.1) in
    let size : length (says ++ piece) ≡ n - 4 = piece_size code says at (n - 4) copied.size from to in
    record {
      size = token_size (says ++ piece) (0x70000000 + x) ∙ omega (arith, size, room);
      ends = sym (rest_end_more code at n i is) ∙ copied.ends;
      before = λ rest same.
          let split : ((says ++ piece) ++ word) ++ rest ≡ says ++ (piece ++ (word ++ rest)) = append_assoc (says ++ piece) word rest ∙ append_assoc says piece (word ++ rest) in
          let whole = says ++ (piece ++ (word ++ rest)) in
          let read : little_endian_at w32 ((says ++ piece) ++ (word ++ rest)) (n - 4) ≡ Some (0x70000000 + x) = word_between (says ++ piece) rest (0x70000000 + x) (n - 4) size (omega (arith, few)) in
          let read2 : little_endian_at w32 whole (n - 4) ≡ Some (0x70000000 + x) = ap (λ xs. little_endian_at w32 xs (n - 4)) (sym (append_assoc says piece (word ++ rest))) ∙ read in
          let j : Instruction ℕ = record { op = i.op; arg = text x } in
          let there : instr_in whole at ≡ Some (j, n) = instr_user code whole at n t x i is names (same_here code says (word ++ rest) at (n - 4) copied.size from to) read2 few in
          let later : SaysSame old new code whole n = subst (λ xs. SaysSame old new code xs n) split same in
          let alike : instruction_told new (at, j) ≡ instruction_told old (at, i) =
          ap (λ (a : Argument (List ℕ)). let k : Instruction (List ℕ) = record { op = i.op; arg = a } in (at, k)) (text_told old new t x i.arg names told) in
          let named : names_text new (at, j) ≡ true = rw told refl in
          let now = one_more old new code whole at n i j is there alike named later in
          subst (λ xs. SaysSame old new code xs 0) (sym split) (copied.before (piece ++ (word ++ rest)) now);
    }

pub copied_named : (old new : ℕ → Option (List ℕ)) (code says after : List ℕ) (at n t : ℕ) (i : Instruction ℕ) → instr_in code at ≡ Some (i, n) → i.arg ≡ text t → IsNamed old new code at n t says after
    → IsCopied old new code says at → IsCopied old new code after n
copied_named old new code says after at n t i is names named copied =
    subst (λ xs. IsCopied old new code xs n) (sym named.3) (copied_text old new code says at n t named.0 i is names named.1 named.2 copied)

-- of what was pushed
pub on_ok : {X E : Type 0} (r : Result X E) (P Q : Type 0) → (P → Q) → OnOk r P → OnOk r Q
on_ok (Ok x) P Q goes h = goes h
on_ok (Err e) P Q goes h = h

pub plain_seen : (end : ℕ) (a : Arg) → ((x : ℕ) → a ≡ arg.User x → ⊥) → names_none (arg_seen end a) ≡ true
plain_seen end arg.None other = refl
plain_seen end (arg.Num n) other = refl
plain_seen end (arg.Target t) other = refl
plain_seen end (arg.Targets ts) other = refl
plain_seen end (arg.Token t) other = refl
plain_seen end (arg.User x) other = absurd (other x refl)
plain_seen end (arg.Raw bytes) other = refl

-- the user texts of one instruction are kept, and so are those behind it
pub kept_both : (p : List ℕ → Bool) (texts : ℕ → Option (List ℕ)) (code : List ℕ) (at n : ℕ) (i : Instruction ℕ) → Some (i, n) ≡ instr_in code at → list_all p (left texts code at) ≡ true
    → (list_all p (text_named (told texts i.arg)) ≡ true) × (list_all p (left texts code n) ≡ true)
kept_both p texts code at n i is kept =
    and_parts (list_all p (text_named (told texts i.arg))) (list_all p (left texts code n))
    (sym (list_all-append p (text_named (told texts i.arg)) (left texts code n)) ∙ ap (list_all p) (sym (left_more texts code at n i is)) ∙ kept)

-- all of whole code is said
pub copied_all : (old new : ℕ → Option (List ℕ)) (code says : List ℕ) (at : ℕ) → None ≡ instr_in code at → end_of code 0 ≡ length code → IsCopied old new code says at
    → SaysSame old new code says 0 × (length says ≡ length code)
copied_all old new code says at none whole copied =
    let end : at ≡ length code = sym (rest_end_none code at (sym none)) ∙ copied.ends ∙ whole in
    let past : instr_in says at ≡ None = none_past (instr_in says) (length says) at (instr_goes says) (omega (arith, copied.size)) in
    let here : SaysSame old new code says at = record {
      told = ap (map (instruction_told new)) (rest_none says at past) ∙ ap (map (instruction_told old)) (sym (rest_none code at (sym none)));
      ends = rest_end_none says at past ∙ sym (rest_end_none code at (sym none));
      there = ap (list_all (names_text new)) (rest_none says at past);
    } in
    let nil = append-nil says in
    (subst (λ xs. SaysSame old new code xs 0) nil (copied.before [] (subst (λ xs. SaysSame old new code xs at) (sym nil) here)), copied.size ∙ end)

pub if_ok : {X E : Type 0} (r : Result X E) (P Q : X → Type 0) → ((x : X) → P x → Q x) → IfOk r P → IfOk r Q
if_ok (Ok x) P Q goes h = goes x h
if_ok (Err e) P Q goes h = h
