-- What is left behind things that are read one behind the other: one more, none that is read, none left.
use Rattle.std.proofs.Common.{◌≡◌, ℕ, zero, suc, ◌+◌, List, [], ◌∷◌, Option, Some, None, refl, sym, ap, ◌∙◌, arith}
use Rattle.std.specs.Prelude.{option_map, option_and_then, drop, if◌then◌else◌, Bool, true, false}
use Rattle.enc_base.specs.Readers.{Reader}
use Rattle.enc_sigs.specs.Tree.{Tree}
use Rattle.enc_sigs.specs.Grammar.{many, params, marked_in, begins, wrapped_in, numbered_in}
use Rattle.enc_sigs.specs.Reads.{left_after}

-- what is left says that something was read
pub read_by : {A : Type 0} (o : Option (A × List ℕ)) (rest : List ℕ) → Some rest ≡ left_after o → (x : A) × (o ≡ Some (x, rest))
read_by None rest e = absurd (cc)
read_by (Some p) rest e = let f : rest ≡ p.1 = cc in rw f (p.0, refl)

pub unread_by : {A : Type 0} (o : Option (A × List ℕ)) → None ≡ left_after o → o ≡ None
unread_by None e = refl
unread_by (Some p) e = absurd (cc)

pair_left : {A : Type 0} (x : A) (o : Option (List A × List ℕ)) → left_after (option_map {T = (A × List A) × List ℕ} (λ p. (p.0.0 ∷ p.0.1, p.1)) (option_map {T = List A × List ℕ} (λ q. ((x, q.0), q.1)) o)) ≡ left_after o
pair_left x None = refl
pair_left x (Some q) = refl

-- one more is read
pub left_more : {A : Type 0} (one : Reader A) (n m : ℕ) (bytes rest : List ℕ) → n ≡ suc m → Some rest ≡ left_after (one bytes) → left_after (many one n bytes) ≡ left_after (many one m rest)
unfolding many
left_more one n m bytes rest e is = let x = read_by (one bytes) rest is in rw (e, x.1) (pair_left x.0 (many one m rest))

-- none is read
pub left_fails : {A : Type 0} (one : Reader A) (n m : ℕ) (bytes : List ℕ) → n ≡ suc m → None ≡ left_after (one bytes) → left_after (many one n bytes) ≡ None
unfolding many
left_fails one n m bytes e is = rw (e, unread_by (one bytes) is) refl

-- none is left
pub left_done : {A : Type 0} (one : Reader A) (n : ℕ) (bytes : List ℕ) → n ≡ 0 → left_after (many one n bytes) ≡ Some bytes
unfolding many
left_done one n bytes e = rw e refl

-- the same of parameters
pub params_left_more : (one : Reader Tree) (n m : ℕ) (bytes rest : List ℕ) → n ≡ suc m → begins 0x41 bytes ≡ false → Some rest ≡ left_after (one bytes) → left_after (params one n bytes) ≡ left_after (params one m rest)
unfolding params
params_left_more one n m bytes rest e plain is = let x = read_by (one bytes) rest is in rw (e, plain, x.1) (pair_left x.0 (params one m rest))

pub params_left_fails : (one : Reader Tree) (n m : ℕ) (bytes : List ℕ) → n ≡ suc m → begins 0x41 bytes ≡ false → None ≡ left_after (one bytes) → left_after (params one n bytes) ≡ None
unfolding params
params_left_fails one n m bytes e plain is = rw (e, plain, unread_by (one bytes) is) refl

pub params_left_done : (one : Reader Tree) (n : ℕ) (bytes : List ℕ) → n ≡ 0 → left_after (params one n bytes) ≡ Some bytes
unfolding params
params_left_done one n bytes e = rw e refl

-- behind a sentinel as many types stand as parameters are left
first_wrapped : (one : Reader Tree) (n : ℕ) (bytes : List ℕ) (o : Option (Tree × List ℕ)) → one bytes ≡ o → left_after (marked_in one n bytes) ≡ left_after (many one (suc n) bytes)
unfolding marked_in wrapped_in many
first_wrapped one n bytes None e = rw e refl
first_wrapped one n bytes (Some p) e = rw e (pair_left _ (many one n p.1) ∙ sym (pair_left p.0 (many one n p.1)))

pub params_left_marked : (one : Reader Tree) (n m : ℕ) (bytes : List ℕ) → n ≡ suc m → begins 0x41 bytes ≡ true → left_after (params one n bytes) ≡ left_after (many one n (drop 1 bytes))
unfolding params
params_left_marked one n m bytes e marked = rw (e, marked) (first_wrapped one m (drop 1 bytes) (one (drop 1 bytes)) refl)

-- a size or a lower bound
pub numeral_left : (r : Reader ℕ) (bytes rest : List ℕ) (n : ℕ) → Some (n, rest) ≡ r bytes → Some rest ≡ left_after (numbered_in 0 r bytes)
unfolding numbered_in
numeral_left r bytes rest n e = rw (← e) refl

pub numeral_none : (r : Reader ℕ) (bytes : List ℕ) → None ≡ r bytes → None ≡ left_after (numbered_in 0 r bytes)
unfolding numbered_in
numeral_none r bytes e = rw (← e) refl
