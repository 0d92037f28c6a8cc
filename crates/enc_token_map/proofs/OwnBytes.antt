-- An instruction is read of its own bytes alone.
use Rattle.std.proofs.Common.{◌≡◌, ℕ, zero, suc, ◌+◌, ◌-◌, ◌*◌, ◌/◌, ◌%◌, ◌^◌, ◌<◌, ◌≤◌, Bool, true, false, cond, List, [], ◌∷◌, length, take, drop}
use Rattle.std.proofs.Common.{get_or, Option, Some, None, option_map, refl, sym, ap, ◌∙◌, arith}
use Rattle.std.specs.Prelude.{ℤ, option_and_then, nat_le, not, ◌==◌}
use Rattle.std.specs.Int.{Width, byte_len, w8, w16, w32, w64, from_le_bytes}
use Rattle.std.proofs.lemmas.List.{get_or-drop, length-drop}
use Rattle.std.proofs.lemmas.Bool.Decides.{nat_tests}
use Rattle.enc_base.specs.Numbers.{little_endian_at}
use Rattle.enc_base.specs.Token.{token_of, number_of}
use Rattle.enc_base.specs.declared.token.Token.{Token}
use Rattle.enc_base.proofs.SmallNumbers.{EachIsByte, number32_few}
use Rattle.enc_opcodes.specs.declared.op.Op.{Op}
use Rattle.enc_opcodes.specs.declared.op.Operand.{Operand}
use Rattle.enc_opcodes.specs.declared.op.Operand.TheVariants as operand
use Rattle.enc_opcodes.specs.Opcodes.{op_at}
use Rattle.enc_opcodes.specs.Instruction.{Argument, nothing, number, target, targets, token, text, raw, Instruction, range_at, widened, target_at}
use Rattle.enc_opcodes.specs.Instruction.{targets_at, text_or_token, switch_in, arg_in, op_in, instr_in}
use Rattle.enc_opcodes.proofs.Instructions.{range_there, instr_ends}

-- the bytes from a place up to another stand in both
pub record Same (a b : List ℕ) (at n : ℕ) : Type 0 where
  pub short : n ≤ length b
  pub each : (i : ℕ) → at ≤ i → i < n → get_or a i 0 ≡ get_or b i 0

byte_same : (a b : List ℕ) (at n p i : ℕ) → Same a b at n → at ≤ p → p + i < n → get_or (drop p a) i 0 ≡ get_or (drop p b) i 0
byte_same a b at n p i same from to = get_or-drop p a i 0 ∙ same.each (p + i) (omega (arith, from)) to ∙ sym (get_or-drop p b i 0)

fits : (m n : ℕ) → m ≤ n → nat_le m n ≡ true
fits m n le = grind (arith, nat_tests)

is_value : (b : Bool) (x y : ℕ) → cond b (Some x) None ≡ Some y → x ≡ y
is_value true x y h = cc
is_value false x y h = absurd cc

by_value : (w : Width) (a b : List ℕ) (p v : ℕ) → p + byte_len w ≤ length b → from_le_bytes w (drop p a) ≡ from_le_bytes w (drop p b)
    → little_endian_at w a p ≡ Some v → little_endian_at w b p ≡ Some v
by_value w a b p v short same is =
    let e : from_le_bytes w (drop p a) ≡ v = is_value (nat_le (p + byte_len w) (length a)) (from_le_bytes w (drop p a)) v is in
    rw (fits (p + byte_len w) (length b) short) (ap (λ (x : ℕ). Some x) (sym same ∙ e))

-- so the same numbers are read in both
number8_same : (a b : List ℕ) (at n p v : ℕ) → Same a b at n → at ≤ p → p + 1 ≤ n → little_endian_at w8 a p ≡ Some v → little_endian_at w8 b p ≡ Some v
number8_same a b at n p v same from to is =
    by_value w8 a b p v (omega (arith, to, same.short)) (omega (arith, byte_same a b at n p 0 same from (omega (arith, to)))) is

number16_same : (a b : List ℕ) (at n p v : ℕ) → Same a b at n → at ≤ p → p + 2 ≤ n → little_endian_at w16 a p ≡ Some v → little_endian_at w16 b p ≡ Some v
number16_same a b at n p v same from to is =
    by_value w16 a b p v (omega (arith, to, same.short))
    (omega (arith, byte_same a b at n p 0 same from (omega (arith, to)), byte_same a b at n p 1 same from (omega (arith, to)))) is

pub number32_same : (a b : List ℕ) (at n p v : ℕ) → Same a b at n → at ≤ p → p + 4 ≤ n → little_endian_at w32 a p ≡ Some v → little_endian_at w32 b p ≡ Some v
number32_same a b at n p v same from to is =
    by_value w32 a b p v (omega (arith, to, same.short))
    (omega (
      arith,
      byte_same a b at n p 0 same from (omega (arith, to)),
      byte_same a b at n p 1 same from (omega (arith, to)),
      byte_same a b at n p 2 same from (omega (arith, to)),
      byte_same a b at n p 3 same from (omega (arith, to)),
    ))
    is

number64_same : (a b : List ℕ) (at n p v : ℕ) → Same a b at n → at ≤ p → p + 8 ≤ n → little_endian_at w64 a p ≡ Some v → little_endian_at w64 b p ≡ Some v
number64_same a b at n p v same from to is =
    by_value w64 a b p v (omega (arith, to, same.short))
    (omega (
      arith,
      byte_same a b at n p 0 same from (omega (arith, to)),
      byte_same a b at n p 1 same from (omega (arith, to)),
      byte_same a b at n p 2 same from (omega (arith, to)),
      byte_same a b at n p 3 same from (omega (arith, to)),
      byte_same a b at n p 4 same from (omega (arith, to)),
      byte_same a b
          at n p 5 same from (omega (arith, to)),
      byte_same a b at n p 6 same from (omega (arith, to)),
      byte_same a b at n p 7 same from (omega (arith, to)),
    ))
    is

-- and the same ranges
take_same : (k : ℕ) (xs ys : List ℕ) → k ≤ length xs → k ≤ length ys → ((i : ℕ) → i < k → get_or xs i 0 ≡ get_or ys i 0) → take k xs ≡ take k ys
take_same zero xs ys le lf same = refl
take_same (suc k) [] ys le lf same = absurd (omega (arith, le))
take_same (suc k) (x ∷ xs) [] le lf same = absurd (omega (arith, lf))
take_same (suc k) (x ∷ xs) (y ∷ ys) le lf same =
    let first : x ≡ y = same 0 (omega arith) in
    rw (first, take_same k xs ys (omega (arith, le)) (omega (arith, lf)) (λ i low. same (suc i) (omega (arith, low)))) refl

is_range : (b : Bool) (x y : List ℕ) → cond b (Some x) None ≡ Some y → x ≡ y
is_range true x y h = cc
is_range false x y h = absurd cc

range_same : (a b : List ℕ) (at n p k : ℕ) (r : List ℕ) → Same a b at n → at ≤ p → p + k ≤ n → range_at a p k ≡ Some r → range_at b p k ≡ Some r
unfolding range_at
range_same a b at n p k r same from to is =
    let long : p + k ≤ length a = range_there a p k r is in
    let e : take k (drop p a) ≡ r = is_range (nat_le (p + k) (length a)) (take k (drop p a)) r is in
    let both : take k (drop p a) ≡ take k (drop p b) =
    take_same k (drop p a) (drop p b) (rw (length-drop p a) (omega (arith, long))) (rw (length-drop p b) (omega (arith, to, same.short)))
    (λ i low. byte_same a b at n p i same from (omega (arith, low, to))) in
    rw (fits (p + k) (length b) (omega (arith, to, same.short))) (ap (λ (x : List ℕ). Some x) (sym both ∙ e))

-- what was read, and the place behind it
place_is : {X : Type 0} (p q : X × ℕ) → Some p ≡ Some q → p.1 ≡ q.1
place_is {X} p q h = let e : p ≡ q = cc in ap (λ (x : X × ℕ). x.1) e

mapped : {X Y : Type 0} (o : Option X) (f : X → Y) (next : ℕ) (a : Y) (n : ℕ) → option_map {U = Y × ℕ} (λ (x : X). (f x, next)) o ≡ Some (a, n) → next ≡ n
mapped None f next a n h = absurd (cc)
mapped {X} {Y} (Some x) f next a n h = place_is {X = Y} (f x, next) (a, n) h

-- what is read of a first reading is read where that is
moved : {X Y : Type 0} (f : X → Y) (o p : Option X) (y : Y) → ((x : X) → o ≡ Some x → p ≡ Some x) → option_map f o ≡ Some y → option_map f p ≡ Some y
moved f None p y same h = absurd cc
moved f (Some x) p y same h = rw (same x refl) h

follow : {X Y : Type 0} (g k : X → Option Y) (o p : Option X) (y : Y) → ((x : X) → o ≡ Some x → g x ≡ Some y → (p ≡ Some x) × (k x ≡ Some y))
    → option_and_then g o ≡ Some y → option_and_then k p ≡ Some y
follow g k None p y each h = absurd cc
follow g k (Some x) p y each h = let e = each x refl h in rw (e.0) (e.1)

after : {X Y : Type 0} (g : X → Option Y) (o p : Option X) (y : Y) → ((x : X) → o ≡ Some x → p ≡ Some x) → option_and_then g o ≡ Some y
    → option_and_then g p ≡ Some y
after g o p y same h = follow g g o p y (λ x e h. (same x e, h)) h

-- a switch
abbrev with_targets : ℕ → Option (List ℕ) → Option (Argument ℕ × ℕ)
with_targets end offsets = option_and_then (λ (ts : List ℕ). Some (targets ts, end)) offsets

abbrev switch_of : ℕ → ℕ → Option (List ℕ) → Option (Argument ℕ × ℕ)
switch_of at count range = option_and_then (λ (distances : List ℕ). with_targets (at + 4 + 4 * count) (targets_at (at + 4 + 4 * count) distances)) range

targets_end : (end : ℕ) (o : Option (List ℕ)) (a : Argument ℕ) (n : ℕ) → with_targets end o ≡ Some (a, n) → end ≡ n
targets_end end None a n h = absurd cc
targets_end end (Some ts) a n h = place_is {X = Argument ℕ} (targets ts, end) (a, n) h

switch_end : (at count : ℕ) (o : Option (List ℕ)) (a : Argument ℕ) (n : ℕ) → switch_of at count o ≡ Some (a, n) → at + 4 + 4 * count ≡ n
switch_end at count None a n h = absurd cc
switch_end at count (Some r) a n h = targets_end (at + 4 + 4 * count) (targets_at (at + 4 + 4 * count) r) a n h

switch_same : (a b : List ℕ) (at n p : ℕ) (x : Argument ℕ) → Same a b at n → at ≤ p → switch_in a p ≡ Some (x, n) → switch_in b p ≡ Some (x, n)
unfolding switch_in
switch_same a b at n p x same from h =
    follow (λ (k : ℕ). switch_of p k (range_at a (p + 4) (4 * k))) (λ (k : ℕ). switch_of p k (range_at b (p + 4) (4 * k))) (little_endian_at w32 a p)
    (little_endian_at w32 b p) (x, n)
    (λ k e f.
    let end : p + 4 + 4 * k ≡ n = switch_end p k (range_at a (p + 4) (4 * k)) x n f in (
      number32_same a b at n p k same from (omega (arith, end)) e,
      after (λ (distances : List ℕ). with_targets (p + 4 + 4 * k) (targets_at (p + 4 + 4 * k) distances)) (range_at a (p + 4) (4 * k))
          (range_at b (p + 4) (4 * k)) (x, n)
          (λ r i. range_same a b at n (p + 4) (4 * k) r same (omega (arith, from)) (omega (arith, end)) i) f,
    ))
    h

-- an operand
arg_same : (k : Operand) (a b : List ℕ) (at n p : ℕ) (x : Argument ℕ) → Same a b at n → at ≤ p → arg_in k a p ≡ Some (x, n) → arg_in k b p ≡ Some (x, n)
unfolding arg_in
arg_same operand.None a b at n p x same from h = h
arg_same operand.I8 a b at n p x same from h =
    let e = mapped (little_endian_at w8 a p) _ (p + 1) x n h in
    moved _ (little_endian_at w8 a p) (little_endian_at w8 b p) (x, n) (λ v. number8_same a b at n p v same from (omega (arith, e))) h
arg_same operand.U8 a b at n p x same from h =
    let e = mapped (little_endian_at w8 a p) _ (p + 1) x n h in
    moved _ (little_endian_at w8 a p) (little_endian_at w8 b p) (x, n) (λ v. number8_same a b at n p v same from (omega (arith, e))) h
arg_same operand.U16 a b at n p x same from h =
    let e = mapped (little_endian_at w16 a p) _ (p + 2) x n h in
    moved _ (little_endian_at w16 a p) (little_endian_at w16 b p) (x, n) (λ v. number16_same a b at n p v same from (omega (arith, e))) h
arg_same operand.I32 a b at n p x same from h =
    let e = mapped (little_endian_at w32 a p) _ (p + 4) x n h in
    moved _ (little_endian_at w32 a p) (little_endian_at w32 b p) (x, n) (λ v. number32_same a b at n p v same from (omega (arith, e))) h
arg_same operand.I64 a b at n p x same from h =
    let e = mapped (little_endian_at w64 a p) _ (p + 8) x n h in
    moved _ (little_endian_at w64 a p) (little_endian_at w64 b p) (x, n) (λ v. number64_same a b at n p v same from (omega (arith, e))) h
arg_same operand.R4 a b at n p x same from h =
    let e = mapped (range_at a p 4) _ (p + 4) x n h in
    moved _ (range_at a p 4) (range_at b p 4) (x, n) (λ r. range_same a b at n p 4 r same from (omega (arith, e))) h
arg_same operand.R8 a b at n p x same from h =
    let e = mapped (range_at a p 8) _ (p + 8) x n h in
    moved _ (range_at a p 8) (range_at b p 8) (x, n) (λ r. range_same a b at n p 8 r same from (omega (arith, e))) h
arg_same operand.Branch8 a b at n p x same from h =
    let far = λ (v : ℕ). target_at (p + 1) (widened v) in
    let e = mapped (option_and_then far (little_endian_at w8 a p)) _ (p + 1) x n h in
    moved _ (option_and_then far (little_endian_at w8 a p)) (option_and_then far (little_endian_at w8 b p)) (x, n)
    (λ t. after far (little_endian_at w8 a p) (little_endian_at w8 b p) t (λ v. number8_same a b at n p v same from (omega (arith, e)))) h
arg_same operand.Branch32 a b at n p x same from h =
    let far = target_at (p + 4) in
    let e = mapped (option_and_then far (little_endian_at w32 a p)) _ (p + 4) x n h in
    moved _ (option_and_then far (little_endian_at w32 a p)) (option_and_then far (little_endian_at w32 b p)) (x, n)
    (λ t. after far (little_endian_at w32 a p) (little_endian_at w32 b p) t (λ v. number32_same a b at n p v same from (omega (arith, e)))) h
arg_same operand.Switch a b at n p x same from h = switch_same a b at n p x same from h
arg_same operand.Token a b at n p x same from h =
    let e = mapped (little_endian_at w32 a p) _ (p + 4) x n h in
    moved _ (little_endian_at w32 a p) (little_endian_at w32 b p) (x, n) (λ v. number32_same a b at n p v same from (omega (arith, e))) h
arg_same operand.User a b at n p x same from h =
    let e = mapped (little_endian_at w32 a p) _ (p + 4) x n h in
    moved _ (little_endian_at w32 a p) (little_endian_at w32 b p) (x, n) (λ v. number32_same a b at n p v same from (omega (arith, e))) h

-- which ends behind its place
switch_behind : (a : List ℕ) (p : ℕ) (x : Argument ℕ) (n : ℕ) (o : Option ℕ)
    → option_and_then (λ (k : ℕ). switch_of p k (range_at a (p + 4) (4 * k))) o ≡ Some (x, n) → p ≤ n
switch_behind a p x n None h = absurd cc
switch_behind a p x n (Some k) h = omega (arith, switch_end p k (range_at a (p + 4) (4 * k)) x n h)

arg_behind : (k : Operand) (a : List ℕ) (p : ℕ) (x : Argument ℕ) (n : ℕ) → arg_in k a p ≡ Some (x, n) → p ≤ n
unfolding arg_in switch_in
arg_behind operand.None a p x n h = let e = place_is {X = Argument ℕ} (nothing, p) (x, n) h in omega (arith, e)
arg_behind operand.I8 a p x n h = omega (arith, mapped (little_endian_at w8 a p) _ (p + 1) x n h)
arg_behind operand.U8 a p x n h = omega (arith, mapped (little_endian_at w8 a p) _ (p + 1) x n h)
arg_behind operand.U16 a p x n h = omega (arith, mapped (little_endian_at w16 a p) _ (p + 2) x n h)
arg_behind operand.I32 a p x n h = omega (arith, mapped (little_endian_at w32 a p) _ (p + 4) x n h)
arg_behind operand.I64 a p x n h = omega (arith, mapped (little_endian_at w64 a p) _ (p + 8) x n h)
arg_behind operand.R4 a p x n h = omega (arith, mapped (range_at a p 4) _ (p + 4) x n h)
arg_behind operand.R8 a p x n h = omega (arith, mapped (range_at a p 8) _ (p + 8) x n h)
arg_behind operand.Branch8 a p x n h =
    omega (arith, mapped (option_and_then (λ (v : ℕ). target_at (p + 1) (widened v)) (little_endian_at w8 a p)) _ (p + 1) x n h)
arg_behind operand.Branch32 a p x n h = omega (arith, mapped (option_and_then (target_at (p + 4)) (little_endian_at w32 a p)) _ (p + 4) x n h)
arg_behind operand.Switch a p x n h = switch_behind a p x n (little_endian_at w32 a p) h
arg_behind operand.Token a p x n h = omega (arith, mapped (little_endian_at w32 a p) _ (p + 4) x n h)
arg_behind operand.User a p x n h = omega (arith, mapped (little_endian_at w32 a p) _ (p + 4) x n h)

abbrev placed : Argument ℕ → ℕ → Option (Argument ℕ × ℕ)
placed a n = Some (a, n)

-- only these operands name a token
abbrev is_token : Argument ℕ → Bool
is_token (token t) = true
is_token _ = false

apart : (p : Argument ℕ × ℕ) (t : Token) (n : ℕ) → is_token p.0 ≡ false → Some p ≡ Some (token t, n) → ⊥
apart p t n differs h =
    let e : p ≡ (token t, n) = cc in
    let f : is_token p.0 ≡ true = ap (λ (y : Argument ℕ × ℕ). is_token y.0) e in
    absurd cc

by_number : (o : Option ℕ) (f : ℕ → ℤ) (next : ℕ) (t : Token) (n : ℕ)
    → option_map {U = Argument ℕ × ℕ} (λ (v : ℕ). (number (f v), next)) o ≡ Some (token t, n) → ⊥
by_number None f next t n h = absurd cc
by_number (Some v) f next t n h = apart (number (f v), next) t n refl h

by_raw : (o : Option (List ℕ)) (next : ℕ) (t : Token) (n : ℕ) → option_map {U = Argument ℕ × ℕ} (λ (v : List ℕ). (raw v, next)) o ≡ Some (token t, n) → ⊥
by_raw None next t n h = absurd cc
by_raw (Some v) next t n h = apart (raw v, next) t n refl h

by_target : (o : Option ℕ) (next : ℕ) (t : Token) (n : ℕ) → option_map {U = Argument ℕ × ℕ} (λ (v : ℕ). (target v, next)) o ≡ Some (token t, n) → ⊥
by_target None next t n h = absurd cc
by_target (Some v) next t n h = apart (target v, next) t n refl h

by_targets : (end : ℕ) (o : Option (List ℕ)) (t : Token) (n : ℕ) → with_targets end o ≡ Some (token t, n) → ⊥
by_targets end None t n h = absurd cc
by_targets end (Some ts) t n h = apart (targets ts, end) t n refl h

by_range : (p k : ℕ) (o : Option (List ℕ)) (t : Token) (n : ℕ) → switch_of p k o ≡ Some (token t, n) → ⊥
by_range p k None t n h = absurd cc
by_range p k (Some r) t n h = by_targets (p + 4 + 4 * k) (targets_at (p + 4 + 4 * k) r) t n h

by_count : (a : List ℕ) (p : ℕ) (o : Option ℕ) (t : Token) (n : ℕ)
    → option_and_then (λ (k : ℕ). switch_of p k (range_at a (p + 4) (4 * k))) o ≡ Some (token t, n) → ⊥
by_count a p None t n h = absurd cc
by_count a p (Some k) t n h = by_range p k (range_at a (p + 4) (4 * k)) t n h

-- which tokens an operand of this kind may name: in the place of a user text none of the table 70
abbrev pub may_stand : Operand → Token → Bool
may_stand operand.Token t = true
may_stand operand.User t = not (t.table == 0x70)
may_stand _ t = false

-- the token's number stands in the four bytes before the place behind it
abbrev TokenAt : Operand → List ℕ → ℕ → Token → ℕ → Type 0
TokenAt k a p t n = (may_stand k t ≡ true) × (p + 4 ≡ n) × ((v : ℕ) × (little_endian_at w32 a p ≡ Some v) × (t ≡ token_of v))

token_is : (t u : Token) (m n : ℕ) → placed (token t) m ≡ placed (token u) n → t ≡ u
token_is t u m n h =
    let e : (token t, m) ≡ (token u, n) = cc in
    ap (λ (y : Argument ℕ × ℕ). told y.0) e
  where
    told : Argument ℕ → Token
    told (token v) = v
    told _ = t

plain_token : (a : List ℕ) (p : ℕ) (o : Option ℕ) (t : Token) (n : ℕ) → little_endian_at w32 a p ≡ o
    → option_map {U = Argument ℕ × ℕ} (λ (v : ℕ). (token (token_of v), p + 4)) o ≡ Some (token t, n) → TokenAt operand.Token a p t n
plain_token a p None t n is h = absurd cc
plain_token a p (Some v) t n is h =
    (refl, place_is {X = Argument ℕ} (token (token_of v), p + 4) (token t, n) h, (v, is, sym (token_is (token_of v) t (p + 4) n h)))

user_token : (a : List ℕ) (p v : ℕ) (b : Bool) (t : Token) (n : ℕ) → little_endian_at w32 a p ≡ Some v → (v / 0x1000000 == 0x70) ≡ b
    → placed (cond b (text (v % 0x1000000)) (token (token_of v))) (p + 4) ≡ placed (token t) n → TokenAt operand.User a p t n
user_token a p v true t n is other h = absurd (apart (text (v % 0x1000000), p + 4) t n refl h)
user_token a p v false t n is other h =
    let e : token_of v ≡ t = token_is (token_of v) t (p + 4) n h in
    (ap (λ (u : Token). not (u.table == 0x70)) (sym e) ∙ ap not other, place_is {X = Argument ℕ} (token (token_of v), p + 4) (token t, n) h, (v, is, sym e))

text_token : (a : List ℕ) (p : ℕ) (o : Option ℕ) (t : Token) (n : ℕ) → little_endian_at w32 a p ≡ o
    → option_map {U = Argument ℕ × ℕ} (λ (v : ℕ). (text_or_token v, p + 4)) o ≡ Some (token t, n) → TokenAt operand.User a p t n
text_token a p None t n is h = absurd cc
text_token a p (Some v) t n is h = user_token a p v (v / 0x1000000 == 0x70) t n is refl h

token_operand : (k : Operand) (a : List ℕ) (p : ℕ) (t : Token) (n : ℕ) → arg_in k a p ≡ Some (token t, n) → TokenAt k a p t n
unfolding arg_in switch_in
token_operand operand.None a p t n h = absurd (apart (nothing, p) t n refl h)
token_operand operand.I8 a p t n h = absurd (by_number (little_endian_at w8 a p) _ (p + 1) t n h)
token_operand operand.U8 a p t n h = absurd (by_number (little_endian_at w8 a p) _ (p + 1) t n h)
token_operand operand.U16 a p t n h = absurd (by_number (little_endian_at w16 a p) _ (p + 2) t n h)
token_operand operand.I32 a p t n h = absurd (by_number (little_endian_at w32 a p) _ (p + 4) t n h)
token_operand operand.I64 a p t n h = absurd (by_number (little_endian_at w64 a p) _ (p + 8) t n h)
token_operand operand.R4 a p t n h = absurd (by_raw (range_at a p 4) (p + 4) t n h)
token_operand operand.R8 a p t n h = absurd (by_raw (range_at a p 8) (p + 8) t n h)
token_operand operand.Branch8 a p t n h =
    absurd (by_target (option_and_then (λ (v : ℕ). target_at (p + 1) (widened v)) (little_endian_at w8 a p)) (p + 1) t n h)
token_operand operand.Branch32 a p t n h = absurd (by_target (option_and_then (target_at (p + 4)) (little_endian_at w32 a p)) (p + 4) t n h)
token_operand operand.Switch a p t n h = absurd (by_count a p (little_endian_at w32 a p) t n h)
token_operand operand.Token a p t n h = plain_token a p (little_endian_at w32 a p) t n refl h
token_operand operand.User a p t n h = text_token a p (little_endian_at w32 a p) t n refl h

-- an instruction's code
abbrev op_of : ℕ → Option Op → Option (Op × ℕ)
op_of next o = option_map (λ (op : Op). (op, next)) o

abbrev second_of : ℕ → ℕ → Option ℕ → Option (Op × ℕ)
second_of first next o = option_and_then (λ (s : ℕ). op_of next (op_at first s)) o

abbrev op_behind_first : List ℕ → ℕ → ℕ → Option (Op × ℕ)
op_behind_first a at first = cond (first == 0xFE) (second_of first (at + 2) (little_endian_at w8 a (at + 1))) (op_of (at + 1) (op_at first 0))

op_end : (next : ℕ) (o : Option Op) (op : Op) (m : ℕ) → op_of next o ≡ Some (op, m) → next ≡ m
op_end next None op m h = absurd cc
op_end next (Some x) op m h = place_is {X = Op} (x, next) (op, m) h

second_end : (first next : ℕ) (o : Option ℕ) (op : Op) (m : ℕ) → second_of first next o ≡ Some (op, m) → next ≡ m
second_end first next None op m h = absurd cc
second_end first next (Some s) op m h = op_end next (op_at first s) op m h

prefix_same : (a b : List ℕ) (at n first : ℕ) (t : Bool) (op : Op) (m : ℕ) → Same a b at n → m ≤ n
    → cond t (second_of first (at + 2) (little_endian_at w8 a (at + 1))) (op_of (at + 1) (op_at first 0)) ≡ Some (op, m)
    → cond t (second_of first (at + 2) (little_endian_at w8 b (at + 1))) (op_of (at + 1) (op_at first 0)) ≡ Some (op, m)
prefix_same a b at n first true op m same le h =
    let end : at + 2 ≡ m = second_end first (at + 2) (little_endian_at w8 a (at + 1)) op m h in
    after (λ (s : ℕ). op_of (at + 2) (op_at first s)) (little_endian_at w8 a (at + 1)) (little_endian_at w8 b (at + 1)) (op, m)
    (λ s e. number8_same a b at n (at + 1) s same (omega arith) (omega (arith, end, le)) e) h
prefix_same a b at n first false op m same le h = h

op_same : (a b : List ℕ) (at n : ℕ) (op : Op) (m : ℕ) → Same a b at n → at < n → m ≤ n → op_in a at ≡ Some (op, m) → op_in b at ≡ Some (op, m)
unfolding op_in
op_same a b at n op m same some le h =
    follow (op_behind_first a at) (op_behind_first b at) (little_endian_at w8 a at) (little_endian_at w8 b at) (op, m)
    (λ first e f. (number8_same a b at n at first same (omega arith) (omega (arith, some)) e, prefix_same a b at n first (first == 0xFE) op m same le f)) h

prefix_behind : (a : List ℕ) (at first : ℕ) (t : Bool) (op : Op) (m : ℕ)
    → cond t (second_of first (at + 2) (little_endian_at w8 a (at + 1))) (op_of (at + 1) (op_at first 0)) ≡ Some (op, m) → at < m
prefix_behind a at first true op m h = omega (arith, second_end first (at + 2) (little_endian_at w8 a (at + 1)) op m h)
prefix_behind a at first false op m h = omega (arith, op_end (at + 1) (op_at first 0) op m h)

first_behind : (a : List ℕ) (at : ℕ) (o : Option ℕ) (op : Op) (m : ℕ) → option_and_then (op_behind_first a at) o ≡ Some (op, m) → at < m
first_behind a at None op m h = absurd cc
first_behind a at (Some first) op m h = prefix_behind a at first (first == 0xFE) op m h

op_behind : (a : List ℕ) (at : ℕ) (op : Op) (m : ℕ) → op_in a at ≡ Some (op, m) → at < m
unfolding op_in
op_behind a at op m h = first_behind a at (little_endian_at w8 a at) op m h

-- an instruction is its code and its operand
abbrev with_arg : Op → Option (Argument ℕ × ℕ) → Option (Instruction ℕ × ℕ)
with_arg op o = option_and_then (λ (rest : Argument ℕ × ℕ). Some (record { op = op; arg = rest.0 }, rest.1)) o

abbrev Parts : List ℕ → ℕ → Instruction ℕ → ℕ → Type 0
Parts a at i n = (m : ℕ) × (op_in a at ≡ Some (i.op, m)) × (arg_in i.op.operand a m ≡ Some (i.arg, n))

by_arg : (a : List ℕ) (at : ℕ) (op : Op) (m : ℕ) (o : Option (Argument ℕ × ℕ)) (i : Instruction ℕ) (n : ℕ) → op_in a at ≡ Some (op, m)
    → arg_in op.operand a m ≡ o → with_arg op o ≡ Some (i, n) → Parts a at i n
by_arg a at op m None i n head is h = absurd cc
by_arg a at op m (Some x) i n head is h =
    let e : (record { op = op; arg = x.0 }, x.1) ≡ (i, n) = cc in
    let o : op ≡ i.op = ap (λ (y : Instruction ℕ × ℕ). y.0.op) e in
    let f : x ≡ (i.arg, n) = ap (λ (y : Instruction ℕ × ℕ). (y.0.arg, y.1)) e in
    (m, head ∙ ap (λ (p : Op). Some (p, m)) o, ap (λ (p : Op). arg_in p.operand a m) (sym o) ∙ is ∙ ap (λ (y : Argument ℕ × ℕ). Some y) f)

by_op : (a : List ℕ) (at : ℕ) (o : Option (Op × ℕ)) (i : Instruction ℕ) (n : ℕ) → op_in a at ≡ o
    → option_and_then (λ (head : Op × ℕ). with_arg head.0 (arg_in head.0.operand a head.1)) o ≡ Some (i, n) → Parts a at i n
by_op a at None i n is h = absurd cc
by_op a at (Some x) i n is h = by_arg a at x.0 x.1 (arg_in x.0.operand a x.1) i n is refl h

parts : (a : List ℕ) (at n : ℕ) (i : Instruction ℕ) → instr_in a at ≡ Some (i, n) → Parts a at i n
unfolding instr_in
parts a at n i h = by_op a at (op_in a at) i n refl h

joined : (a : List ℕ) (at m n : ℕ) (op : Op) (x : Argument ℕ) → op_in a at ≡ Some (op, m) → arg_in op.operand a m ≡ Some (x, n)
    → instr_in a at ≡ Some (record { op = op; arg = x }, n)
unfolding instr_in
joined a at m n op x e f = rw e (rw f refl)

-- the same bytes are the same instruction
pub instr_same : (a b : List ℕ) (at n : ℕ) (i : Instruction ℕ) → Same a b at n → instr_in a at ≡ Some (i, n) → instr_in b at ≡ Some (i, n)
instr_same a b at n i same h =
    let p = parts a at n i h in
    let lt = instr_ends a at n i h in
    let le : p.0 ≤ n = arg_behind i.op.operand a p.0 i.arg n p.2 in
    let lo : at < p.0 = op_behind a at i.op p.0 p.1 in
    joined b at p.0 n i.op i.arg (op_same a b at n i.op p.0 same (omega (arith, lt.0)) le p.1)
    (arg_same i.op.operand a b at n p.0 i.arg same (omega (arith, lo)) p.2)

-- one that names a token has its number in its last four bytes
pub record NamesAt (a : List ℕ) (at n : ℕ) (t : Token) : Type 0 where
  pub room : at + 4 < n
  pub value : ℕ
  pub told : little_endian_at w32 a (n - 4) ≡ Some value
  pub is : t ≡ token_of value

pub names_at : (a : List ℕ) (at n : ℕ) (t : Token) (i : Instruction ℕ) → instr_in a at ≡ Some (i, n) → i.arg ≡ token t → NamesAt a at n t
names_at a at n t i h is =
    let p = parts a at n i h in
    let e = token_operand i.op.operand a p.0 t n (p.2 ∙ ap (λ (x : Argument ℕ). Some (x, n)) is) in
    let m : n - 4 ≡ p.0 = omega (arith, e.1) in
    record { room = omega (arith, op_behind a at i.op p.0 p.1, e.1); value = e.2.0; told = ap (λ k. little_endian_at w32 a k) m ∙ e.2.1; is = e.2.2 }

-- so its row is one of three bytes, and in bytes its table is one
pub row_few : (v : ℕ) → v % 0x1000000 < 2 ^ 24
row_few v = omega arith

pub table_few : (v : ℕ) → v < 2 ^ 32 → v / 0x1000000 < 256
table_few v few = omega arith

pub names_few : (a : List ℕ) (at n : ℕ) (t : Token) → EachIsByte a → NamesAt a at n t → (t.row < 2 ^ 24) × (t.table < 256)
names_few a at n t bytes names =
    let few = number32_few a (n - 4) names.value bytes names.told in
    rw (names.is) (row_few names.value, table_few names.value few)

-- a token is that of its number
table_again : (table row : ℕ) → row < 2 ^ 24 → (table * 0x1000000 + row) / 0x1000000 ≡ table
table_again table row few = omega arith

row_again : (table row : ℕ) → row < 2 ^ 24 → (table * 0x1000000 + row) % 0x1000000 ≡ row
row_again table row few = omega arith

pub token_again : (t : Token) → t.row < 2 ^ 24 → token_of (number_of t) ≡ t
token_again t few = rw (table_again t.table t.row few, row_again t.table t.row few) refl

pub number_small : (t : Token) → t.row < 2 ^ 24 → t.table < 256 → number_of t < 2 ^ 32
number_small t few small = omega (arith, few, small)

-- with another number there, another token is named
token_read : (k : Operand) (b : List ℕ) (p : ℕ) (t u : Token) → may_stand k t ≡ true → u.table ≡ t.table → u.row < 2 ^ 24
    → little_endian_at w32 b p ≡ Some (number_of u) → arg_in k b p ≡ Some (token u, p + 4)
unfolding arg_in switch_in
token_read operand.None b p t u may same few h = absurd cc
token_read operand.I8 b p t u may same few h = absurd cc
token_read operand.U8 b p t u may same few h = absurd cc
token_read operand.U16 b p t u may same few h = absurd cc
token_read operand.I32 b p t u may same few h = absurd cc
token_read operand.I64 b p t u may same few h = absurd cc
token_read operand.R4 b p t u may same few h = absurd cc
token_read operand.R8 b p t u may same few h = absurd cc
token_read operand.Branch8 b p t u may same few h = absurd cc
token_read operand.Branch32 b p t u may same few h = absurd cc
token_read operand.Switch b p t u may same few h = absurd cc
token_read operand.Token b p t u may same few h = rw h (ap (λ (v : Token). placed (token v) (p + 4)) (token_again u few))
token_read operand.User b p t u may same few h =
    let other : (number_of u / 0x1000000 == 0x70) ≡ false = ap (λ (m : ℕ). m == 0x70) (table_again u.table u.row few ∙ same) ∙ not_true (t.table == 0x70) may in
    rw h (rw other (ap (λ (v : Token). placed (token v) (p + 4)) (token_again u few)))
  where
    not_true : (b : Bool) → not b ≡ true → b ≡ false
    not_true true e = absurd cc
    not_true false e = refl

pub instr_token : (a b : List ℕ) (at n : ℕ) (t u : Token) (i : Instruction ℕ) → instr_in a at ≡ Some (i, n) → i.arg ≡ token t → Same a b at (n - 4)
    → little_endian_at w32 b (n - 4) ≡ Some (number_of u) → u.table ≡ t.table → u.row < 2 ^ 24
    → instr_in b at ≡ Some (record { op = i.op; arg = token u }, n)
instr_token a b at n t u i h is same told alike few =
    let p = parts a at n i h in
    let e = token_operand i.op.operand a p.0 t n (p.2 ∙ ap (λ (x : Argument ℕ). Some (x, n)) is) in
    let lo : at < p.0 = op_behind a at i.op p.0 p.1 in
    let m : n - 4 ≡ p.0 = omega (arith, e.1) in
    let there : little_endian_at w32 b p.0 ≡ Some (number_of u) = ap (λ k. little_endian_at w32 b k) (sym m) ∙ told in
    joined b at p.0 n i.op (token u) (op_same a b at (n - 4) i.op p.0 same (omega (arith, m, lo)) (omega (arith, m)) p.1)
    (token_read i.op.operand b p.0 t u e.0 alike few there ∙ ap (λ (k : ℕ). Some (token u, k)) e.1)
