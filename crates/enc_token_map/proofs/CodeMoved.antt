-- Code whose tokens are moved, instruction by instruction.
use Rattle.std.proofs.Common.{◌≡◌, ℕ, ◌+◌, ◌-◌, ◌<◌, ◌≤◌, ◌^◌, Bool, true, false, List, [], ◌∷◌, ◌++◌, length, map, take, drop, get_or, Option, Some}
use Rattle.std.proofs.Common.{None, refl, sym, ap, subst, ◌∙◌, arith, Result, Ok, Err}
use Rattle.std.specs.Prelude.{OnOk, IfOk}
use Rattle.std.specs.Int.{w32, to_le_bytes}
use Rattle.std.proofs.lemmas.List.{append_assoc, append-nil, length-append, length-take-le, length-drop, get_or-drop, get_or-take, get_or_append_left}
use Rattle.std.proofs.lemmas.List.{get_or-append_right}
use Rattle.enc_base.specs.Numbers.{little_endian_at}
use Rattle.enc_base.specs.Token.{number_of}
use Rattle.enc_base.specs.declared.token.Token.{Token}
use Rattle.enc_base.proofs.SmallNumbers.{EachIsByte}
use Rattle.enc_il.proofs.Numbers.{word_between}
use Rattle.enc_il.specs.Seen.{arg_seen}
use Rattle.enc_opcodes.specs.declared.code.Arg.{Arg}
use Rattle.enc_opcodes.specs.declared.code.Arg.TheVariants as arg
use Rattle.enc_opcodes.specs.Instruction.{Argument, nothing, number, target, targets, token, text, raw, Instruction, instr_in, rest_of}
use Rattle.enc_opcodes.proofs.Instructions.{instr_ends, rest_none, rest_more}
use Rattle.enc_token_map.specs.Body.{argument_moved, instruction_moved}
use Rattle.enc_token_map.specs.Copied.{with_number, IsMovedFrom, IsMovedUpTo}
use Rattle.enc_token_map.proofs.OwnBytes.{Same, names_at, names_few, number_small, instr_same, instr_token}

pub one_more : (f : Token → Token) (code moved : List ℕ) (at n : ℕ) (i j : Instruction ℕ) → instr_in code at ≡ Some (i, n) → instr_in moved at ≡ Some (j, n)
    → (at, j) ≡ instruction_moved f (at, i) → IsMovedFrom f code moved n → IsMovedFrom f code moved at
one_more f code moved at n i j is there same rest =
    rest_more moved at n j there
    ∙ ap (λ x. x ∷ rest_of moved n) same
    ∙ ap (λ xs. instruction_moved f (at, i) ∷ xs) rest
    ∙ ap (map (instruction_moved f)) (sym (rest_more code at n i is))

-- an argument that names no token stays
abbrev pub names_none : Argument ℕ → Bool
names_none (token t) = false
names_none _ = true

arg_stays : (f : Token → Token) (a : Argument ℕ) → names_none a ≡ true → a ≡ argument_moved f a
arg_stays f nothing e = refl
arg_stays f (number n) e = refl
arg_stays f (target t) e = refl
arg_stays f (targets ts) e = refl
arg_stays f (token t) e = absurd cc
arg_stays f (text t) e = refl
arg_stays f (raw bytes) e = refl

pub plain_seen : (end : ℕ) (a : Arg) → ((t : Token) → a ≡ arg.Token t → ⊥) → names_none (arg_seen end a) ≡ true
plain_seen end arg.None other = refl
plain_seen end (arg.Num n) other = refl
plain_seen end (arg.Target t) other = refl
plain_seen end (arg.Targets ts) other = refl
plain_seen end (arg.Token t) other = absurd (other t refl)
plain_seen end (arg.User x) other = refl
plain_seen end (arg.Raw bytes) other = refl

-- the bytes of an instruction stand behind what was moved before it
same_here : (code moved rest : List ℕ) (at n : ℕ) → length moved ≡ at → at ≤ n → n ≤ length code
    → Same code (moved ++ (take (n - at) (drop at code) ++ rest)) at n
same_here code moved rest at n size from to =
    let piece = take (n - at) (drop at code) in
    let long : length piece ≡ n - at = length-take-le (n - at) (drop at code) (rw (length-drop at code) (omega (arith, to))) in
    record {
      short = rw (length-append moved (piece ++ rest), length-append piece rest) (omega (arith, long, size, from));
      each = λ i lo hi.
          let e : get_or (moved ++ (piece ++ rest)) i 0 ≡ get_or (piece ++ rest) (i - at) 0 = get_or-append_right moved (piece ++ rest) at i 0 size lo in
          let f : get_or (piece ++ rest) (i - at) 0 ≡ get_or piece (i - at) 0 = get_or_append_left piece rest 0 (i - at) (omega (arith, long, lo, hi)) in
          let g : get_or piece (i - at) 0 ≡ get_or (drop at code) (i - at) 0 = get_or-take (n - at) (drop at code) (i - at) 0 (omega (arith, lo, hi)) in
          let k : get_or (drop at code) (i - at) 0 ≡ get_or code (at + (i - at)) 0 = get_or-drop at code (i - at) 0 in
          let j : at + (i - at) ≡ i = omega (arith, lo) in
          sym (e ∙ f ∙ g ∙ k ∙ ap (λ p. get_or code p 0) j);
    }

piece_size : (code moved : List ℕ) (at n : ℕ) → length moved ≡ at → at ≤ n → n ≤ length code → length (moved ++ take (n - at) (drop at code)) ≡ n
piece_size code moved at n size from to =
    let long : length (take (n - at) (drop at code)) ≡ n - at = length-take-le (n - at) (drop at code) (rw (length-drop at code) (omega (arith, to))) in
    length-append moved (take (n - at) (drop at code)) ∙ omega (arith, long, size, from)

-- nothing is moved at first
pub moved_none : (f : Token → Token) (code : List ℕ) → IsMovedUpTo f code [] 0
moved_none f code = record { size = refl; before = λ rest same. same }

abbrev with_arg : ℕ → Instruction ℕ → Argument ℕ → ℕ × Instruction ℕ
with_arg at i a = (at, record { op = i.op; arg = a })

-- an instruction that names no token stays as it is
pub moved_plain : (f : Token → Token) (code moved : List ℕ) (at n : ℕ) (i : Instruction ℕ) → instr_in code at ≡ Some (i, n) → names_none i.arg ≡ true
    → IsMovedUpTo f code moved at → IsMovedUpTo f code (moved ++ take (n - at) (drop at code)) n
moved_plain f code moved at n i is plain before =
    let lt = instr_ends code at n i is in
    let piece = take (n - at) (drop at code) in
    let from : at ≤ n = omega (arith, lt.0) in
    record {
      size = piece_size code moved at n before.size from lt.1;
      before = λ rest same.
          let there : instr_in (moved ++ (piece ++ rest)) at ≡ Some (i, n) =
          instr_same code (moved ++ (piece ++ rest)) at n i (same_here code moved rest at n before.size from lt.1) is in
          let split : (moved ++ piece) ++ rest ≡ moved ++ (piece ++ rest) = append_assoc moved piece rest in
          let later : IsMovedFrom f code (moved ++ (piece ++ rest)) n = subst (λ xs. IsMovedFrom f code xs n) split same in
          let now = one_more f code (moved ++ (piece ++ rest)) at n i i is there (ap (with_arg at i) (arg_stays f i.arg plain)) later in
          subst (λ xs. IsMovedFrom f code xs 0) (sym split) (before.before (piece ++ rest) now);
    }

-- one that names a token has the number of another in its last four bytes
number_size : (xs : List ℕ) (x : ℕ) → length (xs ++ to_le_bytes w32 x) ≡ length xs + 4
number_size xs x = length-append xs (to_le_bytes w32 x)

pub moved_token : (f : Token → Token) (code moved : List ℕ) (at n : ℕ) (t : Token) (i : Instruction ℕ) → EachIsByte code → instr_in code at ≡ Some (i, n)
    → i.arg ≡ token t
    → (f t).table ≡ t.table → (f t).row < 2 ^ 24 → IsMovedUpTo f code moved at → IsMovedUpTo f code (with_number moved code at (n - 4) (number_of (f t))) n
moved_token f code moved at n t i bytes is names stays low before =
    let lt = instr_ends code at n i is in
    let named = names_at code at n t i is names in
    let room : at + 4 < n = named.room in
    let small : (f t).table < 256 = rw stays (names_few code at n t bytes named).1 in
    let few : number_of (f t) < 2 ^ 32 = number_small (f t) low small in
    let piece = take (n - 4 - at) (drop at code) in
    let word = to_le_bytes w32 (number_of (f t)) in
    let from : at ≤ n - 4 = omega (arith, room) in
    let to : n - 4 ≤ length code = omega (arith, lt.1) in
    let size : length (moved ++ piece) ≡ n - 4 = piece_size code moved at (n - 4) before.size from to in
    record {
      size = number_size (moved ++ piece) (number_of (f t)) ∙ omega (arith, size, room);
      before = λ rest same.
          let split : ((moved ++ piece) ++ word) ++ rest ≡ moved ++ (piece ++ (word ++ rest)) = append_assoc (moved ++ piece) word rest
          ∙ append_assoc moved piece (word ++ rest) in
          let whole = moved ++ (piece ++ (word ++ rest)) in
          let read : little_endian_at w32 ((moved ++ piece) ++ (word ++ rest)) (n - 4) ≡ Some (number_of (f t)) =
          word_between (moved ++ piece) rest (number_of (f t)) (n - 4) size few in
          let again : little_endian_at w32 whole (n - 4) ≡ Some (number_of (f t)) =
          ap (λ xs. little_endian_at w32 xs (n - 4)) (sym (append_assoc moved piece (word ++ rest))) ∙ read in
          let j : Instruction ℕ = record { op = i.op; arg = token (f t) } in
          let there : instr_in whole at ≡ Some (j, n) =
          instr_token code whole at n t (f t) i is names (same_here code moved (word ++ rest) at (n - 4) before.size from to) again stays low in
          let later : IsMovedFrom f code whole n = subst (λ xs. IsMovedFrom f code xs n) split same in
          let alike : (at, j) ≡ instruction_moved f (at, i) = ap (λ a. with_arg at i (argument_moved f a)) (sym names) in
          let now = one_more f code whole at n i j is there alike later in
          subst (λ xs. IsMovedFrom f code xs 0) (sym split) (before.before (piece ++ (word ++ rest)) now);
    }

-- what stands behind the last instruction stays, and is none there either
same_rest : (code moved : List ℕ) (at n : ℕ) → length moved ≡ at → at ≤ length code → n ≤ length code
    → Same (moved ++ take (length code - at) (drop at code)) code at n
same_rest code moved at n size within to =
    let piece = take (length code - at) (drop at code) in
    let nil : moved ++ (piece ++ []) ≡ moved ++ piece = ap (λ xs. moved ++ xs) (append-nil piece) in
    let here : Same code (moved ++ piece) at (length code) =
    subst (λ xs. Same code xs at (length code)) nil (same_here code moved [] at (length code) size within (omega arith)) in
    record { short = to; each = λ i lo hi. sym (here.each i lo (omega (arith, hi, to))) }

none_there : (code moved : List ℕ) (at : ℕ) (o : Option (Instruction ℕ × ℕ)) → length moved ≡ at → at ≤ length code → instr_in code at ≡ None
    → instr_in (moved ++ take (length code - at) (drop at code)) at ≡ o → o ≡ None
none_there code moved at None size within none is = refl
none_there code moved at (Some x) size within none is =
    let whole = moved ++ take (length code - at) (drop at code) in
    let lt = instr_ends whole at x.1 x.0 is in
    let long : length whole ≡ length code = piece_size code moved at (length code) size within (omega arith) in
    let other : instr_in code at ≡ Some x = instr_same whole code at x.1 x.0 (same_rest code moved at x.1 size within (omega (arith, lt.1, long))) is in
    absurd cc

pub moved_all : (f : Token → Token) (code moved : List ℕ) (at : ℕ) → None ≡ instr_in code at → at ≤ length code → IsMovedUpTo f code moved at
    → IsMovedFrom f code (moved ++ take (length code - at) (drop at code)) 0 × (length (moved ++ take (length code - at) (drop at code)) ≡ length code)
moved_all f code moved at none within before =
    let piece = take (length code - at) (drop at code) in
    let past : instr_in (moved ++ piece) at ≡ None = none_there code moved at (instr_in (moved ++ piece) at) before.size within (sym none) refl in
    let here : IsMovedFrom f code (moved ++ piece) at = rest_none (moved ++ piece) at past
    ∙ ap (map (instruction_moved f)) (sym (rest_none code at (sym none))) in
    (before.before piece here, piece_size code moved at (length code) before.size within (omega arith))

-- of what was pushed
pub on_ok : {X E : Type 0} (r : Result X E) (P Q : Type 0) → (P → Q) → OnOk r P → OnOk r Q
on_ok (Ok x) P Q goes h = goes h
on_ok (Err e) P Q goes h = h

pub if_ok : {X E : Type 0} (r : Result X E) (P Q : X → Type 0) → ((x : X) → P x → Q x) → IfOk r P → IfOk r Q
if_ok (Ok x) P Q goes h = goes x h
if_ok (Err e) P Q goes h = h
