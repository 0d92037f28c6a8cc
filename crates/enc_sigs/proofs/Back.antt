-- What is written reads back, with what is moved in it: one thing and another, a number and what depends on it, many.
use Rattle.std.proofs.Common.{◌≡◌, ℕ, zero, suc, ◌<◌, Bool, true, false, List, [], ◌∷◌, ◌++◌, length, drop, Option, Some, None, refl, sym, ap, subst, ◌∙◌, append_assoc}
use Rattle.std.proofs.lemmas.Bool.{lt-ltb, ltb-true}
use Rattle.std.proofs.lemmas.Int.{of_z-to_z}
use Rattle.std.proofs.Math.Seq.{drop-append_seam}
use Rattle.std.specs.Prelude.{◌&&◌, nat_lt, option_map, option_and_then, if◌then◌else◌, ℤ}
use Rattle.std.specs.Int.{w32, cast_signed}
use Rattle.enc_base.specs.Numbers.{compressed, signed, spelled, spelled_signed, is_within, WrittenIsRead, SignedWrittenIsRead}
use Rattle.enc_base.specs.declared.token.Token.{Token}
use Rattle.enc_sigs.specs.Grammar.{upon, many, list_in, byte_in, token_in, token_named}
use Rattle.enc_base.specs.Readers.{Reader, giving, both, number_in, signed_in, is_small, bits_of}
use Rattle.enc_sigs.specs.Spelling.{number_bytes, signed_bytes, token_bytes, token_number}
use Rattle.enc_sigs.specs.Moved.{GoesTo}
use Rattle.enc_sigs.proofs.Many.{many_length, number_less}
use Rattle.enc_sigs.proofs.Agreed.{upon_known}

-- how things are moved and written: which may be moved, each to what, and its bytes
pub record Moves (A : Type 0) : Type 0 where
  pub may : A → Bool
  pub to : A → A
  pub bytes : A → List ℕ

-- what the first reads, moved and written, the second reads, whatever follows it
abbrev pub Back : {A : Type 0} → Moves A → Reader A → Reader A → Type 0
Back {A} m r s = (bytes : List ℕ) (p : A × List ℕ) (rest : List ℕ) → r bytes ≡ Some p → m.may p.0 ≡ true
    → s (m.bytes (m.to p.0) ++ rest) ≡ Some (m.to p.0, rest)

-- nothing is moved
abbrev pub staying : {A : Type 0} → (A → List ℕ) → Moves A
staying {A} w = record { may = λ (x : A). true; to = λ (x : A). x; bytes = w }

-- put into another form it is moved and written the same
pub record Fits {A B : Type 0} (h : A → B) (m : Moves A) (n : Moves B) (x : A) : Type 0 where
  pub may : n.may (h x) ≡ m.may x
  pub to : n.to (h x) ≡ h (m.to x)
  pub bytes : n.bytes (h (m.to x)) ≡ m.bytes (m.to x)

pub and_left : (s t : Bool) → (s && t) ≡ true → s ≡ true
and_left true t e = refl
and_left false t e = absurd (cc)

pub and_second : (s t : Bool) → (s && t) ≡ true → t ≡ true
and_second true t e = e
and_second false t e = absurd (cc)

given_back : {A B : Type 0} (h : A → B) (m : Moves A) (n : Moves B) (r s : Reader A) (bytes : List ℕ) (o : Option (A × List ℕ)) (p : B × List ℕ) (rest : List ℕ)
    → ((q : A × List ℕ) → r bytes ≡ Some q → Fits h m n q.0) → Back m r s → r bytes ≡ o → option_map {T = A × List ℕ} (λ q. (h q.0, q.1)) o ≡ Some p
    → n.may p.0 ≡ true → giving h s (n.bytes (n.to p.0) ++ rest) ≡ Some (n.to p.0, rest)
given_back h m n r s bytes None p rest fits back is e may = absurd (cc)
given_back {A} {B} h m n r s bytes (Some q) p rest fits back is e may =
    let f : (h q.0, q.1) ≡ p = cc in
    let k = fits q is in
    let P : B × List ℕ → Type 0 = λ x. n.may x.0 ≡ true → giving h s (n.bytes (n.to x.0) ++ rest) ≡ Some (n.to x.0, rest) in
    let Q : B → Type 0 = λ y. giving h s (n.bytes y ++ rest) ≡ Some (y, rest) in
    let read : n.may (h q.0) ≡ true → giving h s (m.bytes (m.to q.0) ++ rest) ≡ Some (h (m.to q.0), rest)
    = λ g. ap (option_map {T = A × List ℕ} (λ q. (h q.0, q.1))) (back bytes q rest is (sym k.may ∙ g)) in
    let here : P (h q.0, q.1) = λ g. subst Q (sym k.to) (ap (λ z. giving h s (z ++ rest)) k.bytes ∙ read g) in
    subst P f here may

pub giving_back : {A B : Type 0} (h : A → B) (m : Moves A) (n : Moves B) (r s : Reader A)
    → ((bytes : List ℕ) (q : A × List ℕ) → r bytes ≡ Some q → Fits h m n q.0) → Back m r s → Back n (giving h r) (giving h s)
giving_back h m n r s fits back bytes p rest e may = given_back h m n r s bytes (r bytes) p rest (fits bytes) back refl e may

both_read : {A B : Type 0} (r : Reader A) (s : Reader B) (bytes mid rest : List ℕ) (x : A) (y : B) → r bytes ≡ Some (x, mid) → s mid ≡ Some (y, rest)
    → both r s bytes ≡ Some ((x, y), rest)
both_read r s bytes mid rest x y e f = rw (e, f) refl

abbrev pub pair_moves : {A B : Type 0} → Moves A → Moves B → Moves (A × B)
pair_moves {A} {B} m n = record {
  may = λ (x : A × B). m.may x.0 && n.may x.1;
  to = λ (x : A × B). (m.to x.0, n.to x.1);
  bytes = λ (x : A × B). m.bytes x.0 ++ n.bytes x.1;
}

second_back : {A B : Type 0} (m : Moves A) (n : Moves B) (r u : Reader A) (s v : Reader B) (bytes : List ℕ) (x : A × List ℕ) (o : Option (B × List ℕ))
    (p : (A × B) × List ℕ) (rest : List ℕ) → Back m r u → Back n s v → r bytes ≡ Some x → s x.1 ≡ o
    → option_map {T = B × List ℕ} (λ q. ((x.0, q.0), q.1)) o ≡ Some p → (m.may p.0.0 && n.may p.0.1) ≡ true
    → both u v ((m.bytes (m.to p.0.0) ++ n.bytes (n.to p.0.1)) ++ rest) ≡ Some ((m.to p.0.0, n.to p.0.1), rest)
second_back m n r u s v bytes x None p rest first second is at e may = absurd (cc)
second_back {A} {B} m n r u s v bytes x (Some y) p rest first second is at e may =
    let f : ((x.0, y.0), y.1) ≡ p = cc in
    let P : (A × B) × List ℕ → Type 0 = λ q. (m.may q.0.0 && n.may q.0.1) ≡ true
    → both u v ((m.bytes (m.to q.0.0) ++ n.bytes (n.to q.0.1)) ++ rest) ≡ Some ((m.to q.0.0, n.to q.0.1), rest) in
    let a = m.bytes (m.to x.0) in
    let b = n.bytes (n.to y.0) in
    let here : P ((x.0, y.0), y.1) = λ g.
    let one = first bytes x (b ++ rest) is (and_left (m.may x.0) (n.may y.0) g) in
    let two = second x.1 y rest at (and_second (m.may x.0) (n.may y.0) g) in
    ap (both u v) (append_assoc a b rest) ∙ both_read u v (a ++ (b ++ rest)) (b ++ rest) rest (m.to x.0) (n.to y.0) one two in
    subst P f here may

first_back : {A B : Type 0} (m : Moves A) (n : Moves B) (r u : Reader A) (s v : Reader B) (bytes : List ℕ) (o : Option (A × List ℕ)) (p : (A × B) × List ℕ)
    (rest : List ℕ) → Back m r u → Back n s v → r bytes ≡ o
    → option_and_then {T = A × List ℕ} (λ p. option_map {T = B × List ℕ} (λ q. ((p.0, q.0), q.1)) (s p.1)) o ≡ Some p → (m.may p.0.0 && n.may p.0.1) ≡ true
    → both u v ((m.bytes (m.to p.0.0) ++ n.bytes (n.to p.0.1)) ++ rest) ≡ Some ((m.to p.0.0, n.to p.0.1), rest)
first_back m n r u s v bytes None p rest first second is e may = absurd (cc)
first_back m n r u s v bytes (Some x) p rest first second is e may = second_back m n r u s v bytes x (s x.1) p rest first second is refl e may

pub both_back : {A B : Type 0} (m : Moves A) (n : Moves B) (r u : Reader A) (s v : Reader B) → Back m r u → Back n s v
    → Back (pair_moves m n) (both r s) (both u v)
both_back m n r u s v first second bytes p rest e may = first_back m n r u s v bytes (r bytes) p rest first second refl e may

upon_read : {B : Type 0} (r : Reader ℕ) (s : ℕ → Reader B) (bytes mid rest : List ℕ) (n : ℕ) (y : B) → r bytes ≡ Some (n, mid) → s n mid ≡ Some (y, rest)
    → upon r s bytes ≡ Some ((n, y), rest)
upon_read r s bytes mid rest n y e f = rw (e, f) refl

abbrev pub upon_moves : {B : Type 0} → (ℕ → List ℕ) → (ℕ → Moves B) → Moves (ℕ × B)
upon_moves {B} w m = record {
  may = λ (x : ℕ × B). (m x.0).may x.1;
  to = λ (x : ℕ × B). (x.0, (m x.0).to x.1);
  bytes = λ (x : ℕ × B). w x.0 ++ (m x.0).bytes x.1;
}

upon_second : {B : Type 0} (w : ℕ → List ℕ) (m : ℕ → Moves B) (r : Reader ℕ) (s v : ℕ → Reader B) (bytes : List ℕ) (x : ℕ × List ℕ)
    (o : Option (B × List ℕ)) (p : (ℕ × B) × List ℕ) (rest : List ℕ) → Back (staying w) r r → ((n : ℕ) → Back (m n) (s n) (v n)) → r bytes ≡ Some x
    → s x.0 x.1 ≡ o → option_map {T = B × List ℕ} (λ q. ((x.0, q.0), q.1)) o ≡ Some p → (m p.0.0).may p.0.1 ≡ true
    → upon r v ((w p.0.0 ++ (m p.0.0).bytes ((m p.0.0).to p.0.1)) ++ rest) ≡ Some ((p.0.0, (m p.0.0).to p.0.1), rest)
upon_second w m r s v bytes x None p rest first second is at e may = absurd (cc)
upon_second {B} w m r s v bytes x (Some y) p rest first second is at e may =
    let f : ((x.0, y.0), y.1) ≡ p = cc in
    let P : (ℕ × B) × List ℕ → Type 0 = λ q. (m q.0.0).may q.0.1 ≡ true
    → upon r v ((w q.0.0 ++ (m q.0.0).bytes ((m q.0.0).to q.0.1)) ++ rest) ≡ Some ((q.0.0, (m q.0.0).to q.0.1), rest) in
    let a = w x.0 in
    let b = (m x.0).bytes ((m x.0).to y.0) in
    let here : P ((x.0, y.0), y.1) = λ g.
    ap (upon r v) (append_assoc a b rest)
    ∙ upon_read r v (a ++ (b ++ rest)) (b ++ rest) rest x.0 ((m x.0).to y.0) (first bytes x (b ++ rest) is refl) (second x.0 x.1 y rest at g) in
    subst P f here may

upon_first : {B : Type 0} (w : ℕ → List ℕ) (m : ℕ → Moves B) (r : Reader ℕ) (s v : ℕ → Reader B) (bytes : List ℕ) (o : Option (ℕ × List ℕ))
    (p : (ℕ × B) × List ℕ) (rest : List ℕ) → Back (staying w) r r → ((n : ℕ) → Back (m n) (s n) (v n)) → r bytes ≡ o
    → option_and_then {T = ℕ × List ℕ} (λ p. option_map {T = B × List ℕ} (λ q. ((p.0, q.0), q.1)) (s p.0 p.1)) o ≡ Some p → (m p.0.0).may p.0.1 ≡ true
    → upon r v ((w p.0.0 ++ (m p.0.0).bytes ((m p.0.0).to p.0.1)) ++ rest) ≡ Some ((p.0.0, (m p.0.0).to p.0.1), rest)
upon_first w m r s v bytes None p rest first second is e may = absurd (cc)
upon_first w m r s v bytes (Some x) p rest first second is e may = upon_second w m r s v bytes x (s x.0 x.1) p rest first second is refl e may

pub upon_back : {B : Type 0} (w : ℕ → List ℕ) (m : ℕ → Moves B) (r : Reader ℕ) (s v : ℕ → Reader B) → Back (staying w) r r
    → ((n : ℕ) → Back (m n) (s n) (v n)) → Back (upon_moves w m) (upon r s) (upon r v)
upon_back w m r s v first second bytes p rest e may = upon_first w m r s v bytes (r bytes) p rest first second refl e may

-- a list is moved and written one by one
pub record AreMany {A : Type 0} (m : Moves A) (ms : Moves (List A)) : Type 0 where
  pub none : ms.bytes [] ≡ []
  pub stays : ms.to [] ≡ []
  pub more : (x : A × List A) → Fits (λ (p : A × List A). p.0 ∷ p.1) (pair_moves m ms) ms x

moved_length : {A : Type 0} (m : Moves A) (ms : Moves (List A)) (xs : List A) → AreMany m ms → length (ms.to xs) ≡ length xs
moved_length m ms [] are = ap length are.stays
moved_length m ms (x ∷ xs) are = let k = are.more (x, xs) in ap length k.to ∙ ap suc (moved_length m ms xs are)

-- many, and a count and so many
pub many_back : {A : Type 0} (m : Moves A) (ms : Moves (List A)) (r s : Reader A) (n : ℕ) → AreMany m ms → Back m r s → Back ms (many r n) (many s n)
unfolding many
many_back {A} m ms r s zero are back bytes p rest e may =
    let f : ([], bytes) ≡ p = cc in
    let P : List A × List ℕ → Type 0 = λ q. many s zero (ms.bytes (ms.to q.0) ++ rest) ≡ Some (ms.to q.0, rest) in
    let Q : List A → Type 0 = λ xs. many s zero (ms.bytes xs ++ rest) ≡ Some (xs, rest) in
    let here : Q [] = ap (λ z. many s zero (z ++ rest)) are.none in
    let there : P ([], bytes) = subst Q (sym are.stays) here in
    subst P f there
many_back {A} m ms r s (suc n) are back bytes p rest e may =
    giving_back (λ (p : A × List A). p.0 ∷ p.1) (pair_moves m ms) ms (both r (many r n)) (both s (many s n)) (λ b q f. are.more q.0)
    (both_back m ms r s (many r n) (many s n) back (many_back m ms r s n are back)) bytes p rest e may

abbrev pub counted_moves : {A : Type 0} → Moves (List A) → Moves (List A)
counted_moves {A} ms = record { may = ms.may; to = ms.to; bytes = λ (xs : List A). number_bytes (length xs) ++ ms.bytes xs }

pub counted_back : {A : Type 0} (m : Moves A) (ms : Moves (List A)) (r s : Reader A) → AreMany m ms → Back (staying number_bytes) number_in number_in
    → Back m r s → Back (counted_moves ms) (list_in r) (list_in s)
unfolding list_in
counted_back {A} m ms r s are numbers back =
    giving_back (λ (p : ℕ × List A). p.1) (upon_moves number_bytes (λ n. ms)) (counted_moves ms) (upon number_in (many r)) (upon number_in (many s))
    (λ bytes q e. record {
      may = refl;
      to = refl;
      bytes = ap (λ k. number_bytes k ++ ms.bytes (ms.to q.0.1))
          (moved_length m ms q.0.1 are ∙ upon_known (λ x. length x.1 ≡ x.0) (many r) (number_in bytes) q (many_length r) e);
    })
    (upon_back number_bytes (λ n. ms) number_in (many r) (many s) numbers (λ n. many_back m ms r s n are back))

-- numbers
number_on : (o : Option (ℕ × ℕ)) (n : ℕ) (s rest : List ℕ) → o ≡ Some (n, length s) → n < 0x20000000
    → option_and_then {T = ℕ × ℕ} {U = ℕ × List ℕ} (λ x. if nat_lt x.0 0x20000000 then Some (x.0, drop x.1 (s ++ rest)) else None) o ≡ Some (n, rest)
number_on o n s rest e few = rw (e, lt-ltb n 0x20000000 few, drop-append_seam s rest) refl

number_spelled : (n : ℕ) → n < 0x20000000 → number_bytes n ≡ spelled n
unfolding number_bytes
number_spelled n few = ap (λ t. if t then spelled n else []) (lt-ltb n 0x20000000 few)

number_again : (n : ℕ) (rest : List ℕ) → WrittenIsRead → n < 0x20000000 → number_in (spelled n ++ rest) ≡ Some (n, rest)
unfolding number_in
number_again n rest written few = number_on (compressed (spelled n ++ rest)) n (spelled n) rest (written n rest few) few

number_read : (n : ℕ) (rest : List ℕ) → WrittenIsRead → n < 0x20000000 → number_in (number_bytes n ++ rest) ≡ Some (n, rest)
number_read n rest written few = ap (λ s. number_in (s ++ rest)) (number_spelled n few) ∙ number_again n rest written few

pub number_back : WrittenIsRead → Back (staying number_bytes) number_in number_in
number_back written bytes p rest e may = number_read p.0 rest written (number_less bytes p e)

small_if : (n : ℕ) (rest : List ℕ) (t : Bool) (p : ℕ × List ℕ) → is_small n ≡ t → (if t then Some (n, rest) else None) ≡ Some p → is_small p.0 ≡ true
small_if n rest true p t e = let f : (n, rest) ≡ p = cc in subst (λ (x : ℕ × List ℕ). is_small x.0 ≡ true) f t
small_if n rest false p t e = absurd (cc)

small_on : (o : Option (ℤ × ℕ)) (bytes : List ℕ) (p : ℕ × List ℕ)
    → option_and_then {T = ℤ × ℕ} {U = ℕ × List ℕ} (λ x. if is_small (bits_of x.0) then Some (bits_of x.0, drop x.1 bytes) else None) o ≡ Some p
    → is_small p.0 ≡ true
small_on None bytes p e = absurd (cc)
small_on (Some x) bytes p e = small_if (bits_of x.0) (drop x.1 bytes) (is_small (bits_of x.0)) p refl e

signed_on : (o : Option (ℤ × ℕ)) (n : ℕ) (s rest : List ℕ) → o ≡ Some (cast_signed w32 n, length s) → is_small n ≡ true
    → option_and_then {T = ℤ × ℕ} {U = ℕ × List ℕ} (λ x. if is_small (bits_of x.0) then Some (bits_of x.0, drop x.1 (s ++ rest)) else None) o
    ≡ Some (n, rest)
signed_on o n s rest e small =
    let few : n < 0x100000000 = ltb-true n 0x100000000 (and_second (is_within 0x10000000 n) (nat_lt n 0x100000000) small) in
    rw (e, of_z-to_z w32 n few, small, drop-append_seam s rest) refl

signed_again : (n : ℕ) (rest : List ℕ) → SignedWrittenIsRead → is_small n ≡ true → signed_in (spelled_signed n ++ rest) ≡ Some (n, rest)
unfolding signed_in
signed_again n rest written small =
    let few = ltb-true n 0x100000000 (and_second (is_within 0x10000000 n) (nat_lt n 0x100000000) small) in
    let within = and_left (is_within 0x10000000 n) (nat_lt n 0x100000000) small in
    signed_on (signed (spelled_signed n ++ rest)) n (spelled_signed n) rest (written n rest few within) small

signed_spelled : (n : ℕ) → is_small n ≡ true → signed_bytes n ≡ spelled_signed n
unfolding signed_bytes
signed_spelled n small = ap (λ t. if t then spelled_signed n else []) small

signed_small : (bytes : List ℕ) (p : ℕ × List ℕ) → signed_in bytes ≡ Some p → is_small p.0 ≡ true
unfolding signed_in
signed_small bytes p e = small_on (signed bytes) bytes p e

pub signed_back : SignedWrittenIsRead → Back (staying signed_bytes) signed_in signed_in
signed_back written bytes p rest e may =
    let small = signed_small bytes p e in
    ap (λ s. signed_in (s ++ rest)) (signed_spelled p.0 small) ∙ signed_again p.0 rest written small

-- a byte
abbrev pub when : Bool → ℕ → List ℕ → Option (ℕ × List ℕ)
when t b rest = if t then Some (b, rest) else None

byte_if : (test : ℕ → Bool) (b : ℕ) (more : List ℕ) (t : Bool) (p : ℕ × List ℕ) (rest : List ℕ) → test b ≡ t → when t b more ≡ Some p
    → when (test p.0) p.0 rest ≡ Some (p.0, rest)
byte_if test b more true p rest is e =
    let f : (b, more) ≡ p = cc in
    subst (λ (x : ℕ × List ℕ). when (test x.0) x.0 rest ≡ Some (x.0, rest)) f (ap (λ t. when t b rest) is)
byte_if test b more false p rest is e = absurd (cc)

pub byte_back : (test : ℕ → Bool) → Back (staying (λ b. b ∷ [])) (byte_in test) (byte_in test)
unfolding byte_in
byte_back test [] p rest e may = absurd (cc)
byte_back test (b ∷ more) p rest e may = byte_if test b more (test b) p rest refl e

-- a byte passes its test
tested_if : (test : ℕ → Bool) (b : ℕ) (more : List ℕ) (t : Bool) (p : ℕ × List ℕ) → test b ≡ t → (if t then Some (b, more) else None) ≡ Some p
    → test p.0 ≡ true
tested_if test b more true p is e = let f : (b, more) ≡ p = cc in subst (λ (x : ℕ × List ℕ). test x.0 ≡ true) f is
tested_if test b more false p is e = absurd (cc)

pub byte_tested : (test : ℕ → Bool) (bytes : List ℕ) (p : ℕ × List ℕ) → byte_in test bytes ≡ Some p → test p.0 ≡ true
unfolding byte_in
byte_tested test [] p e = absurd (cc)
byte_tested test (b ∷ more) p e = tested_if test b more (test b) p refl e

-- each token that is read and may be moved goes where the other test reads it
abbrev pub Goes : (Token → Token) → (Token → Bool) → (ℕ → Bool) → (ℕ → Bool) → Type 0
Goes f may good test = (n : ℕ) → n < 0x20000000 → good n ≡ true → may (token_named n) ≡ true → GoesTo f test n

abbrev pub token_moves : (Token → Token) → (Token → Bool) → Moves Token
token_moves f may = record { may = may; to = f; bytes = token_bytes }

token_again : (f : Token → Token) (test : ℕ → Bool) (n : ℕ) (rest : List ℕ) → WrittenIsRead → GoesTo f test n
    → token_in test (token_bytes (f (token_named n)) ++ rest) ≡ Some (f (token_named n), rest)
unfolding token_in token_bytes
token_again f test n rest written goes =
    let k = token_number (f (token_named n)) in
    let here : number_in (number_bytes k ++ rest) ≡ Some (k, rest) = number_read k rest written goes.short in
    ap (option_and_then {T = ℕ × List ℕ} {U = Token × List ℕ} (λ p. if test p.0 then Some (token_named p.0, p.1) else None)) here
    ∙ ap (λ t. if t then Some (token_named k, rest) else None) goes.passes
    ∙ ap (λ (t : Token). Some (t, rest)) goes.named

token_if : (f : Token → Token) (may : Token → Bool) (good test : ℕ → Bool) (n : ℕ) (mid : List ℕ) (t : Bool) (p : Token × List ℕ) (rest : List ℕ)
    → WrittenIsRead → Goes f may good test → n < 0x20000000 → good n ≡ t → (if t then Some (token_named n, mid) else None) ≡ Some p
    → may p.0 ≡ true → token_in test (token_bytes (f p.0) ++ rest) ≡ Some (f p.0, rest)
token_if f may good test n mid true p rest written goes few is e ok =
    let g : (token_named n, mid) ≡ p = cc in
    let P : Token × List ℕ → Type 0 = λ x. may x.0 ≡ true → token_in test (token_bytes (f x.0) ++ rest) ≡ Some (f x.0, rest) in
    let here : P (token_named n, mid) = λ k. token_again f test n rest written (goes n few is k) in
    subst P g here ok
token_if f may good test n mid false p rest written goes few is e ok = absurd (cc)

token_on : (f : Token → Token) (may : Token → Bool) (good test : ℕ → Bool) (o : Option (ℕ × List ℕ)) (p : Token × List ℕ) (rest : List ℕ)
    → WrittenIsRead → Goes f may good test → ((q : ℕ × List ℕ) → o ≡ Some q → q.0 < 0x20000000)
    → option_and_then {T = ℕ × List ℕ} {U = Token × List ℕ} (λ p. if good p.0 then Some (token_named p.0, p.1) else None) o ≡ Some p
    → may p.0 ≡ true → token_in test (token_bytes (f p.0) ++ rest) ≡ Some (f p.0, rest)
token_on f may good test None p rest written goes few e ok = absurd (cc)
token_on f may good test (Some q) p rest written goes few e ok = token_if f may good test q.0 q.1 (good q.0) p rest written goes (few q refl) refl e ok

pub token_back : (f : Token → Token) (may : Token → Bool) (good test : ℕ → Bool) → WrittenIsRead → Goes f may good test
    → Back (token_moves f may) (token_in good) (token_in test)
unfolding token_in
token_back f may good test written goes bytes p rest e ok = token_on f may good test (number_in bytes) p rest written goes (number_less bytes) e ok
