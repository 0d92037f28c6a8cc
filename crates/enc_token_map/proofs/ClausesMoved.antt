-- Exception clauses whose classes are moved.
use Rattle.std.proofs.Common.{◌≡◌, ℕ, zero, suc, ◌+◌, ◌-◌, ◌*◌, ◌^◌, ◌<◌, ◌≤◌, Bool, true, false, ◌||◌, List, ◌++◌, length, map, take, drop, get_or}
use Rattle.std.proofs.Common.{Option, Some, None, refl, sym, ap, ◌∙◌, arith}
use Rattle.std.specs.Prelude.{unwrap_or, nat_le, ◌==◌, if◌then◌else◌}
use Rattle.std.specs.Int.{Width, byte_len, w8, w16, w32, from_le_bytes, to_le_bytes}
use Rattle.std.proofs.lemmas.List.{append_assoc, append-nil, length-append, length-take-le, length-drop, drop_at, get_or-take, get_or-drop, get_or_append_left}
use Rattle.std.proofs.lemmas.Bool.Decides.{nat_tests}
use Rattle.enc_base.specs.Numbers.{little_endian_at}
use Rattle.enc_base.specs.Token.{token_of, number_of}
use Rattle.enc_base.specs.declared.token.Token.{Token}
use Rattle.enc_base.proofs.SmallNumbers.{EachIsByte, each_drop, number32_few}
use Rattle.enc_il.proofs.Numbers.{word_between}
use Rattle.enc_opcodes.specs.declared.code.Clause.{Clause}
use Rattle.enc_opcodes.specs.Body.{HandlerKind, catching, filtering, finishing, faulting, Handler, kind_meant, handler_meant}
use Rattle.enc_opcodes.specs.Clause.{clause_size, number_or_zero, clause_in, clauses_in}
use Rattle.enc_token_map.specs.Body.{kind_moved, handler_moved}
use Rattle.enc_token_map.specs.Copied.{has_no_class, extra_moved, clause_moved, clauses_moved}
use Rattle.enc_token_map.proofs.OwnBytes.{row_few, table_few, token_again, number_small}

-- a token goes to one of its own table, and to a row that three bytes can name
abbrev pub Stays : (Token → Token) → Type 0
Stays f = (t : Token) → (f t).table ≡ t.table

abbrev pub StaysLow : (Token → Token) → Type 0
StaysLow f = (t : Token) → t.row < 2 ^ 24 → (f t).row < 2 ^ 24

-- the kind of a clause is moved with its last four bytes
abbrev extra_by : (Token → Token) → Bool → ℕ → ℕ
extra_by f other extra = if other then extra else number_of (f (token_of extra))

abbrev kind_by : Bool → Bool → Bool → ℕ → HandlerKind
kind_by filters finishes faults extra =
    if faults then faulting else if finishes then finishing else if filters then filtering extra else catching (token_of extra)

kind_again : (f : Token → Token) (a b c : Bool) (extra : ℕ) → token_of (number_of (f (token_of extra))) ≡ f (token_of extra)
    → kind_by a b c (extra_by f (a || b || c) extra) ≡ kind_moved f (kind_by a b c extra)
kind_again f a b true extra again = refl
kind_again f a true false extra again = refl
kind_again f true false false extra again = refl
kind_again f false false false extra again = ap (λ t. catching t) again

meant_again : (f : Token → Token) (kind extra : ℕ) → StaysLow f → kind_meant kind (extra_by f (has_no_class kind) extra) ≡ kind_moved f (kind_meant kind extra)
meant_again f kind extra low =
    kind_again f (kind == 1) (kind == 2) (kind == 4) extra (token_again (f (token_of extra)) (low (token_of extra) (row_few extra)))

extra_few : (f : Token → Token) (b : Bool) (extra : ℕ) → Stays f → StaysLow f → extra < 2 ^ 32 → extra_by f b extra < 2 ^ 32
extra_few f true extra stays low few = few
extra_few f false extra stays low few =
    number_small (f (token_of extra)) (low (token_of extra) (row_few extra)) (rw (stays (token_of extra)) (table_few extra few))

zero_or_few : (o : Option ℕ) (k : ℕ) → 0 < k → ((v : ℕ) → o ≡ Some v → v < k) → unwrap_or o 0 < k
zero_or_few None k some each = some
zero_or_few (Some v) k some each = each v refl

word_few : (bytes : List ℕ) (at : ℕ) → EachIsByte bytes → number_or_zero w32 bytes at < 2 ^ 32
word_few bytes at all = zero_or_few (little_endian_at w32 bytes at) (2 ^ 32) (omega arith) (λ v e. number32_few bytes at v all e)

-- a number before the last four bytes of a clause is that of the clause's own
front_get : (bytes word : List ℕ) (n i : ℕ) → n ≤ length bytes → i < n → get_or (take n bytes ++ word) i 0 ≡ get_or bytes i 0
front_get bytes word n i long few =
    let size : length (take n bytes) ≡ n = length-take-le n bytes long in
    get_or_append_left (take n bytes) word 0 i (omega (arith, size, few)) ∙ get_or-take n bytes i 0 few

fits : (m n : ℕ) → m ≤ n → nat_le m n ≡ true
fits m n le = grind (arith, nat_tests)

both_there : (w : Width) (a b : List ℕ) (at : ℕ) → at + byte_len w ≤ length a → at + byte_len w ≤ length b
    → from_le_bytes w (drop at a) ≡ from_le_bytes w (drop at b) → number_or_zero w a at ≡ number_or_zero w b at
both_there w a b at there here same = rw (fits (at + byte_len w) (length a) there, fits (at + byte_len w) (length b) here) same

-- the front of a clause stays
record SameFront (a b : List ℕ) (n : ℕ) : Type 0 where
  long : n ≤ length a
  other : n ≤ length b
  each : (i : ℕ) → i < n → get_or a i 0 ≡ get_or b i 0

byte_same : (a b : List ℕ) (n at i : ℕ) → SameFront a b n → at + i < n → get_or (drop at a) i 0 ≡ get_or (drop at b) i 0
byte_same a b n at i same few = get_or-drop at a i 0 ∙ same.each (at + i) few ∙ sym (get_or-drop at b i 0)

byte_front : (a b : List ℕ) (n at : ℕ) → SameFront a b n → at + 1 ≤ n → number_or_zero w8 a at ≡ number_or_zero w8 b at
byte_front a b n at same to =
    both_there w8 a b at (omega (arith, to, same.long)) (omega (arith, to, same.other)) (omega (arith, byte_same a b n at 0 same (omega (arith, to))))

half_front : (a b : List ℕ) (n at : ℕ) → SameFront a b n → at + 2 ≤ n → number_or_zero w16 a at ≡ number_or_zero w16 b at
half_front a b n at same to =
    both_there w16 a b at (omega (arith, to, same.long)) (omega (arith, to, same.other))
    (omega (arith, byte_same a b n at 0 same (omega (arith, to)), byte_same a b n at 1 same (omega (arith, to))))

word_front : (a b : List ℕ) (n at : ℕ) → SameFront a b n → at + 4 ≤ n → number_or_zero w32 a at ≡ number_or_zero w32 b at
word_front a b n at same to =
    both_there w32 a b at (omega (arith, to, same.long)) (omega (arith, to, same.other))
    (omega (
      arith,
      byte_same a b n at 0 same (omega (arith, to)),
      byte_same a b n at 1 same (omega (arith, to)),
      byte_same a b n at 2 same
          (omega (arith, to)),
      byte_same a b n at 3 same (omega (arith, to)),
    ))

-- a clause by its parts
abbrev with_extra : Clause → ℕ → Clause
with_extra c extra = record { kind = c.kind; tries = c.tries; handler = c.handler; extra = extra }

fat_again : (a b : List ℕ) (extra : ℕ) → SameFront a b 20 → number_or_zero w32 a 20 ≡ extra → clause_in true a ≡ with_extra (clause_in true b) extra
unfolding clause_in
fat_again a b extra same is =
    rw (
      word_front a b 20 0 same (omega arith),
      word_front a b 20 4 same (omega arith),
      word_front a b 20 8 same (omega arith),
      word_front a b 20 12 same
          (omega arith),
      word_front a b 20 16 same (omega arith),
      is,
    ) refl

small_again : (a b : List ℕ) (extra : ℕ) → SameFront a b 8 → number_or_zero w32 a 8 ≡ extra → clause_in false a ≡ with_extra (clause_in false b) extra
unfolding clause_in
small_again a b extra same is =
    rw (
      half_front a b 8 0 same (omega arith),
      half_front a b 8 2 same (omega arith),
      byte_front a b 8 4 same (omega arith),
      half_front a b 8 5 same
          (omega arith),
      byte_front a b 8 7 same (omega arith),
      is,
    ) refl

-- the front of a clause with a word behind it
with_word : (bytes rest : List ℕ) (n x : ℕ) → n ≤ length bytes → SameFront ((take n bytes ++ to_le_bytes w32 x) ++ rest) bytes n
with_word bytes rest n x long =
    let word = to_le_bytes w32 x in
    let e : (take n bytes ++ word) ++ rest ≡ take n bytes ++ (word ++ rest) = append_assoc (take n bytes) word rest in
    let size : length (take n bytes) ≡ n = length-take-le n bytes long in
    record {
      long = rw (e, length-append (take n bytes) (word ++ rest)) (omega (arith, size));
      other = long;
      each = λ i few. rw e (front_get bytes (word ++ rest) n i long few);
    }

word_read : (bytes rest : List ℕ) (n x : ℕ) → n ≤ length bytes → x < 2 ^ 32 → number_or_zero w32 ((take n bytes ++ to_le_bytes w32 x) ++ rest) n ≡ x
word_read bytes rest n x long few =
    let word = to_le_bytes w32 x in
    let e : (take n bytes ++ word) ++ rest ≡ take n bytes ++ (word ++ rest) = append_assoc (take n bytes) word rest in
    rw (e, word_between (take n bytes) rest x n (length-take-le n bytes long) few) refl

clause_by : (fat : Bool) (bytes rest : List ℕ) (x : ℕ) → clause_size fat ≤ length bytes → x < 2 ^ 32
    → clause_in fat ((take (clause_size fat - 4) bytes ++ to_le_bytes w32 x) ++ rest) ≡ with_extra (clause_in fat bytes) x
clause_by true bytes rest x long few =
    fat_again ((take 20 bytes ++ to_le_bytes w32 x) ++ rest) bytes x (with_word bytes rest 20 x (omega (arith, long)))
    (word_read bytes rest 20 x (omega (arith, long)) few)
clause_by false bytes rest x long few =
    small_again ((take 8 bytes ++ to_le_bytes w32 x) ++ rest) bytes x (with_word bytes rest 8 x (omega (arith, long)))
    (word_read bytes rest 8 x (omega (arith, long)) few)

extra_is : (fat : Bool) (bytes : List ℕ) → EachIsByte bytes → (clause_in fat bytes).extra < 2 ^ 32
unfolding clause_in
extra_is true bytes all = word_few bytes 20 all
extra_is false bytes all = word_few bytes 8 all

-- the clause at the front means the same with its class moved
pub clause_again : (f : Token → Token) (fat : Bool) (bytes rest : List ℕ) → Stays f → StaysLow f → EachIsByte bytes → clause_size fat ≤ length bytes
    → handler_meant (clause_in fat (clause_moved f fat bytes ++ rest)) ≡ handler_moved f (handler_meant (clause_in fat bytes))
unfolding clause_moved
clause_again f fat bytes rest stays low all long =
    let c = clause_in fat bytes in
    let few = extra_few f (has_no_class c.kind) c.extra stays low (extra_is fat bytes all) in
    ap handler_meant (clause_by fat bytes rest (extra_moved f c) long few)
    ∙ ap (λ k. let h : Handler = record { kind = k; tries = c.tries; handler = c.handler } in h) (meant_again f c.kind c.extra low)

size_four : (fat : Bool) → (clause_size fat - 4) + 4 ≡ clause_size fat
size_four true = refl
size_four false = refl

pub clause_long : (f : Token → Token) (fat : Bool) (bytes : List ℕ) → clause_size fat ≤ length bytes → length (clause_moved f fat bytes) ≡ clause_size fat
unfolding clause_moved
clause_long f fat bytes long =
    let word = to_le_bytes w32 (extra_moved f (clause_in fat bytes)) in
    let four : (clause_size fat - 4) + 4 ≡ clause_size fat = size_four fat in
    let size : length (take (clause_size fat - 4) bytes) ≡ clause_size fat - 4 = length-take-le (clause_size fat - 4) bytes (omega (arith, long)) in
    length-append (take (clause_size fat - 4) bytes) word ∙ omega (arith, size, four)

-- so it is with so many of them
more_size : (k n : ℕ) → k * suc n ≡ k + k * n
more_size k n = omega arith

pub clauses_long : (f : Token → Token) (fat : Bool) (n : ℕ) (bytes : List ℕ) → length bytes ≡ clause_size fat * n
    → length (clauses_moved f fat n bytes) ≡ clause_size fat * n
unfolding clauses_moved
clauses_long f fat zero bytes long = let e : clause_size fat * 0 ≡ 0 = omega arith in rw e refl
clauses_long f fat (suc n) bytes long =
    let k = clause_size fat in
    let more : k * suc n ≡ k + k * n = more_size k n in
    let rest : length (drop k bytes) ≡ k * n = length-drop k bytes ∙ omega (arith, long, more) in
    length-append (clause_moved f fat bytes) (clauses_moved f fat n (drop k bytes))
    ∙ omega (arith, clause_long f fat bytes (omega (arith, long, more)), clauses_long f fat n (drop k bytes) rest, more)

abbrev pub meant : List Clause → List Handler
meant cs = map handler_meant cs

pub clauses_again : (f : Token → Token) (fat : Bool) (n : ℕ) (bytes : List ℕ) → Stays f → StaysLow f → EachIsByte bytes → length bytes ≡ clause_size fat * n
    → meant (clauses_in fat n (clauses_moved f fat n bytes)) ≡ map (handler_moved f) (meant (clauses_in fat n bytes))
unfolding clauses_moved clauses_in
clauses_again f fat zero bytes stays low all long = refl
clauses_again f fat (suc n) bytes stays low all long =
    let k = clause_size fat in
    let more : k * suc n ≡ k + k * n = more_size k n in
    let rest : length (drop k bytes) ≡ k * n = length-drop k bytes ∙ omega (arith, long, more) in
    let first : k ≤ length bytes = omega (arith, long, more) in
    let behind = clauses_moved f fat n (drop k bytes) in
    rw (
      drop_at (clause_moved f fat bytes) behind k (clause_long f fat bytes first),
      clause_again f fat bytes behind stays low all first,
      clauses_again f fat n (drop k bytes) stays low (each_drop bytes k all) rest,
    ) refl

-- what was put and what is left are all clauses
pub more_put : (f : Token → Token) (fat : Bool) (n m : ℕ) (bytes put all : List ℕ) → n ≡ suc m → put ++ clauses_moved f fat n bytes ≡ all
    → (put ++ clause_moved f fat bytes) ++ clauses_moved f fat m (drop (clause_size fat) bytes) ≡ all
unfolding clauses_moved
more_put f fat n m bytes put all is h =
    append_assoc put (clause_moved f fat bytes) (clauses_moved f fat m (drop (clause_size fat) bytes))
    ∙ ap (λ k. put ++ clauses_moved f fat k bytes) (sym is) ∙ h

pub none_put : (f : Token → Token) (fat : Bool) (n : ℕ) (bytes put all : List ℕ) → n ≡ 0 → put ++ clauses_moved f fat n bytes ≡ all → put ≡ all
unfolding clauses_moved
none_put f fat n bytes put all is h = sym (append-nil put) ∙ ap (λ k. put ++ clauses_moved f fat k bytes) (sym is) ∙ h

pub left_size : (fat : Bool) (n m : ℕ) (bytes : List ℕ) → n ≡ suc m → length bytes ≡ clause_size fat * n
    → length (drop (clause_size fat) bytes) ≡ clause_size fat * m
left_size fat n m bytes is long =
    let k = clause_size fat in
    let more : k * n ≡ k + k * m = ap (λ i. k * i) is ∙ more_size k m in
    length-drop k bytes ∙ omega (arith, long, more)

pub one_there : (fat : Bool) (n : ℕ) (bytes : List ℕ) → 0 < n → length bytes ≡ clause_size fat * n → clause_size fat ≤ length bytes
one_there fat zero bytes some long = absurd (omega (arith, some))
one_there fat (suc m) bytes some long =
    let more = more_size (clause_size fat) m in
    omega (arith, long, more)
