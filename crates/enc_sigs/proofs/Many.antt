-- Things read one behind the other: one more, none that is read, none left.
use Rattle.std.proofs.Common.{◌≡◌, ℕ, zero, suc, ◌+◌, ◌<◌, List, [], ◌∷◌, ◌++◌, Option, Some, None, refl, sym, ap, ◌∙◌, arith, append_assoc, append-nil, length-append, ◌≤◌}
use Rattle.std.specs.Prelude.{option_map, option_and_then, drop, if◌then◌else◌, Bool, true, false, length, nat_lt, IfOk, Result, Ok, Err, Vec}
use Rattle.std.specs.declared.alloc.Global.{Global}
use Rattle.std.specs.Borrow.{Bor}
use Rattle.enc_sigs.specs.declared.kind.SigFault.{SigFault}
use borrow.Author.Tests.{ltb-true}
use Rattle.enc_base.specs.Numbers.{compressed}
use Rattle.enc_sigs.specs.Tree.{Tree}
use Rattle.enc_sigs.specs.Grammar.{many, more_in, params, marked_in, begins, wrapped_in, parts_in, elem_in}
use Rattle.enc_base.specs.Readers.{Reader, number_in}
use Rattle.enc_sigs.specs.Reads.{behind, AreRead}

-- behind nothing is what is read
pub behind_none : (o : Option (List Tree × List ℕ)) → o ≡ behind [] o
behind_none None = refl
behind_none (Some p) = refl

abbrev joined : Tree → Option (List Tree × List ℕ) → Option (List Tree × List ℕ)
joined x o = option_map {T = List Tree × List ℕ} (λ q. (x ∷ q.0, q.1)) o

pub joined_behind : (ts : List Tree) (x : Tree) (o : Option (List Tree × List ℕ)) → behind ts (joined x o) ≡ behind (ts ++ x ∷ []) o
joined_behind ts x None = refl
joined_behind ts x (Some p) = ap (λ us. Some (us, p.1)) (sym (append_assoc ts (x ∷ []) p.0))

pair_on : (x : Tree) (o : Option (List Tree × List ℕ)) → option_map {T = (Tree × List Tree) × List ℕ} (λ p. (p.0.0 ∷ p.0.1, p.1)) (option_map {T = List Tree × List ℕ} (λ q. ((x, q.0), q.1)) o) ≡ joined x o
pair_on x None = refl
pair_on x (Some q) = refl

by_parts : (ts : List Tree) (x : Tree) (o : Option (List Tree × List ℕ)) (n : ℕ) → behind ts (option_map {T = (ℕ × (Tree × List Tree)) × List ℕ} (λ p. (p.0.1.0 ∷ p.0.1.1, p.1)) (option_map {T = (Tree × List Tree) × List ℕ} (λ q. ((n, q.0), q.1)) (option_map {T = List Tree × List ℕ} (λ q. ((x, q.0), q.1)) o))) ≡ behind (ts ++ x ∷ []) o
by_parts ts x None n = refl
by_parts ts x (Some p) n = ap (λ us. Some (us, p.1)) (sym (append_assoc ts (x ∷ []) p.0))

more_on : (x : Tree) (bytes rest : List ℕ) (first : Reader Tree) (others : Reader (List Tree)) → first bytes ≡ Some (x, rest) → more_in first others bytes ≡ joined x (others rest)
more_on x bytes rest first others e = rw e (pair_on x (others rest))

pub more_behind : (ts : List Tree) (x : Tree) (bytes rest : List ℕ) (first : Reader Tree) (others : Reader (List Tree)) → first bytes ≡ Some (x, rest) → behind ts (more_in first others bytes) ≡ behind (ts ++ x ∷ []) (others rest)
more_behind ts x bytes rest first others e = ap (behind ts) (more_on x bytes rest first others e) ∙ joined_behind ts x (others rest)

-- one more is read
pub many_more : (one : Reader Tree) (ts : List Tree) (n m : ℕ) (bytes rest : List ℕ) (x : Tree) → n ≡ suc m → one bytes ≡ Some (x, rest) → behind ts (many one n bytes) ≡ behind (ts ++ x ∷ []) (many one m rest)
unfolding many
many_more one ts n m bytes rest x e is = rw e (more_behind ts x bytes rest one (many one m) is)

-- none is read
pub many_fails : (one : Reader Tree) (ts : List Tree) (n m : ℕ) (bytes : List ℕ) → n ≡ suc m → one bytes ≡ None → behind ts (many one n bytes) ≡ None
unfolding many
many_fails one ts n m bytes e is = rw (e, is) refl

-- none is left
pub many_done : (one : Reader Tree) (ts : List Tree) (n : ℕ) (bytes : List ℕ) → n ≡ 0 → behind ts (many one n bytes) ≡ Some (ts, bytes)
unfolding many
many_done one ts n bytes e = rw e (ap (λ us. Some (us, bytes)) (append-nil ts))

-- the same of parameters
pub params_more : (one : Reader Tree) (ts : List Tree) (n m : ℕ) (bytes rest : List ℕ) (x : Tree) → n ≡ suc m → begins 0x41 bytes ≡ false → one bytes ≡ Some (x, rest) → behind ts (params one n bytes) ≡ behind (ts ++ x ∷ []) (params one m rest)
unfolding params
params_more one ts n m bytes rest x e plain is = rw (e, plain) (more_behind ts x bytes rest one (params one m) is)

pub params_marked : (one : Reader Tree) (n m : ℕ) (bytes : List ℕ) → n ≡ suc m → begins 0x41 bytes ≡ true → params one n bytes ≡ marked_in one m (drop 1 bytes)
unfolding params
params_marked one n m bytes e marked = rw (e, marked) refl

pub params_fails : (one : Reader Tree) (ts : List Tree) (n m : ℕ) (bytes : List ℕ) → n ≡ suc m → begins 0x41 bytes ≡ false → one bytes ≡ None → behind ts (params one n bytes) ≡ None
unfolding params
params_fails one ts n m bytes e plain is = rw (e, plain, is) refl

pub params_done : (one : Reader Tree) (ts : List Tree) (n : ℕ) (bytes : List ℕ) → n ≡ 0 → behind ts (params one n bytes) ≡ Some (ts, bytes)
unfolding params
params_done one ts n bytes e = rw e (ap (λ us. Some (us, bytes)) (append-nil ts))

-- the parameter behind a sentinel
pub marked_more : (one : Reader Tree) (ts : List Tree) (n : ℕ) (bytes rest : List ℕ) (x : Tree) → wrapped_in one 0x41 bytes ≡ Some (x, rest) → behind ts (marked_in one n bytes) ≡ behind (ts ++ x ∷ []) (many one n rest)
unfolding marked_in
marked_more one ts n bytes rest x is = more_behind ts x bytes rest (wrapped_in one 0x41) (many one n) is

-- the count, the first part and the parameters
pub parts_more : (one : Reader Tree) (ts : List Tree) (n : ℕ) (bytes mid rest : List ℕ) (x : Tree) → number_in bytes ≡ Some (n, mid) → one mid ≡ Some (x, rest) → behind ts (parts_in one bytes) ≡ behind (ts ++ x ∷ []) (params one n rest)
unfolding parts_in
parts_more one ts n bytes mid rest x count is = rw (count, is) (by_parts ts x (params one n rest) n)

-- nothing is read at depth 0
pub elem_none : (good : ℕ → Bool) (depth : ℕ) (bytes : List ℕ) → depth ≡ 0 → elem_in good depth bytes ≡ None
unfolding elem_in
elem_none good depth bytes e = rw e refl

-- what a look for a sentinel tells
pub plain_by : (b : Bool) (x : List ℕ) → None ≡ (if b then Some x else None) → b ≡ false
plain_by true x e = absurd (cc)
plain_by false x e = refl

pub marked_by : (b : Bool) (x y : List ℕ) → Some y ≡ (if b then Some x else None) → b ≡ true
marked_by true x y e = refl
marked_by false x y e = absurd (cc)

pub marked_is : (b : Bool) (x y : List ℕ) → Some y ≡ (if b then Some x else None) → y ≡ x
marked_is true x y e = cc
marked_is false x y e = absurd (cc)

-- as many are read as there should be
pair_length : {A : Type 0} (n : ℕ) (x : A) (o : Option (List A × List ℕ)) (q : List A × List ℕ) → ((p : List A × List ℕ) → o ≡ Some p → length p.0 ≡ n) → option_map {T = (A × List A) × List ℕ} (λ p. (p.0.0 ∷ p.0.1, p.1)) (option_map {T = List A × List ℕ} (λ p. ((x, p.0), p.1)) o) ≡ Some q → length q.0 ≡ suc n
pair_length n x None q h e = absurd (cc)
pair_length n x (Some p) q h e =
    let f : (x ∷ p.0, p.1) ≡ q = cc in
    rw (← f) (ap suc (h p refl))

one_length : {A : Type 0} (n : ℕ) (others : Reader (List A)) (o : Option (A × List ℕ)) (q : List A × List ℕ) → ((bytes : List ℕ) (p : List A × List ℕ) → others bytes ≡ Some p → length p.0 ≡ n) → option_map {T = (A × List A) × List ℕ} (λ p. (p.0.0 ∷ p.0.1, p.1)) (option_and_then {T = A × List ℕ} (λ p. option_map {T = List A × List ℕ} (λ r. ((p.0, r.0), r.1)) (others p.1)) o) ≡ Some q → length q.0 ≡ suc n
one_length n others None q h e = absurd (cc)
one_length n others (Some p) q h e = pair_length n p.0 (others p.1) q (h p.1) e

pub many_length : {A : Type 0} (one : Reader A) (n : ℕ) (bytes : List ℕ) (q : List A × List ℕ) → many one n bytes ≡ Some q → length q.0 ≡ n
unfolding many
many_length one zero bytes q e = let f : ([], bytes) ≡ q = cc in rw (← f) refl
many_length one (suc n) bytes q e = one_length n (many one n) (one bytes) q (many_length one n) e

params_by : (one : Reader Tree) (n : ℕ) (marked : Bool) (bytes : List ℕ) (q : List Tree × List ℕ) → ((b : List ℕ) (p : List Tree × List ℕ) → params one n b ≡ Some p → length p.0 ≡ n) → (if marked then marked_in one n (drop 1 bytes) else more_in one (params one n) bytes) ≡ Some q → length q.0 ≡ suc n
unfolding marked_in
params_by one n true bytes q h e = one_length n (many one n) (wrapped_in one 0x41 (drop 1 bytes)) q (many_length one n) e
params_by one n false bytes q h e = one_length n (params one n) (one bytes) q h e

pub params_length : (one : Reader Tree) (n : ℕ) (bytes : List ℕ) (q : List Tree × List ℕ) → params one n bytes ≡ Some q → length q.0 ≡ n
unfolding params
params_length one zero bytes q e = let f : ([], bytes) ≡ q = cc in rw (← f) refl
params_length one (suc n) bytes q e = params_by one n (begins 0x41 bytes) bytes q (params_length one n) e

behind_length : (ts : List Tree) (n : ℕ) (o : Option (List Tree × List ℕ)) (p : List Tree × List ℕ) → ((q : List Tree × List ℕ) → o ≡ Some q → length q.0 ≡ n) → behind ts o ≡ Some p → length p.0 ≡ length ts + n
behind_length ts n None p h e = absurd (cc)
behind_length ts n (Some q) p h e =
    let f : (ts ++ q.0, q.1) ≡ p = cc in
    rw (← f) (length-append ts q.0 ∙ ap (λ k. length ts + k) (h q refl))

-- so many in a result are few
pub many_few : (one : Reader Tree) (ts : List Tree) (n : ℕ) (bytes : List ℕ) (r : Result (Vec Tree Global × Bor (List ℕ)) SigFault) → n < 0x20000000 → length ts ≤ 1 → AreRead r (behind ts (many one n bytes)) → IfOk r (λ p. length p.0.items < 4294967296)
many_few one ts n bytes (Ok p) few small e = omega (arith, behind_length ts n (many one n bytes) (p.0.items, p.1.now) (many_length one n bytes) e)
many_few one ts n bytes (Err f) few small e = tt

-- a number that is read is below 2^29
less_if : (n : ℕ) (rest : List ℕ) (t : Bool) (p : ℕ × List ℕ) → nat_lt n 0x20000000 ≡ t → (if t then Some (n, rest) else None) ≡ Some p → p.0 < 0x20000000
less_if n rest true p t e = let f : (n, rest) ≡ p = cc in rw (← f) (ltb-true n 0x20000000 t)
less_if n rest false p t e = absurd (cc)

less_on : (o : Option (ℕ × ℕ)) (bytes : List ℕ) (p : ℕ × List ℕ) → option_and_then {T = ℕ × ℕ} (λ x. if nat_lt x.0 0x20000000 then Some (x.0, drop x.1 bytes) else None) o ≡ Some p → p.0 < 0x20000000
less_on None bytes p e = absurd (cc)
less_on (Some x) bytes p e = less_if x.0 (drop x.1 bytes) (nat_lt x.0 0x20000000) p refl e

pub number_less : (bytes : List ℕ) (p : ℕ × List ℕ) → number_in bytes ≡ Some p → p.0 < 0x20000000
unfolding number_in
number_less bytes p e = less_on (compressed bytes) bytes p e

-- the parts behind a count are few
few_params : (n : ℕ) (x : Tree) (o : Option (List Tree × List ℕ)) (q : List Tree × List ℕ) → n < 0x20000000 → ((p : List Tree × List ℕ) → o ≡ Some p → length p.0 ≡ n) → option_map {T = (ℕ × (Tree × List Tree)) × List ℕ} (λ p. (p.0.1.0 ∷ p.0.1.1, p.1)) (option_map {T = (Tree × List Tree) × List ℕ} (λ q. ((n, q.0), q.1)) (option_map {T = List Tree × List ℕ} (λ q. ((x, q.0), q.1)) o)) ≡ Some q → length q.0 ≤ 0x20000000
few_params n x None q few h e = absurd (cc)
few_params n x (Some p) q few h e = let f : (x ∷ p.0, p.1) ≡ q = cc in rw (← f) (omega (arith, h p refl, few))

few_first : (one : Reader Tree) (n : ℕ) (o : Option (Tree × List ℕ)) (q : List Tree × List ℕ) → n < 0x20000000 → option_map {T = (ℕ × (Tree × List Tree)) × List ℕ} (λ p. (p.0.1.0 ∷ p.0.1.1, p.1)) (option_map {T = (Tree × List Tree) × List ℕ} (λ q. ((n, q.0), q.1)) (option_and_then {T = Tree × List ℕ} (λ p. option_map {T = List Tree × List ℕ} (λ q. ((p.0, q.0), q.1)) (params one n p.1)) o)) ≡ Some q → length q.0 ≤ 0x20000000
few_first one n None q few e = absurd (cc)
few_first one n (Some p) q few e = few_params n p.0 (params one n p.1) q few (params_length one n p.1) e

few_count : (one : Reader Tree) (o : Option (ℕ × List ℕ)) (q : List Tree × List ℕ) → ((p : ℕ × List ℕ) → o ≡ Some p → p.0 < 0x20000000) → option_map {T = (ℕ × (Tree × List Tree)) × List ℕ} (λ p. (p.0.1.0 ∷ p.0.1.1, p.1)) (option_and_then {T = ℕ × List ℕ} (λ n. option_map {T = (Tree × List Tree) × List ℕ} (λ q. ((n.0, q.0), q.1)) (option_and_then {T = Tree × List ℕ} (λ p. option_map {T = List Tree × List ℕ} (λ q. ((p.0, q.0), q.1)) (params one n.0 p.1)) (one n.1))) o) ≡ Some q → length q.0 ≤ 0x20000000
few_count one None q h e = absurd (cc)
few_count one (Some n) q h e = few_first one n.0 (one n.1) q (h n refl) e

no_more : (ts : List Tree) (o : Option (List Tree × List ℕ)) (p : List Tree × List ℕ) → ((q : List Tree × List ℕ) → o ≡ Some q → length q.0 ≤ 0x20000000) → behind ts o ≡ Some p → length p.0 ≤ length ts + 0x20000000
no_more ts None p h e = absurd (cc)
no_more ts (Some q) p h e =
    let f : (ts ++ q.0, q.1) ≡ p = cc in
    rw (← f) (omega (arith, length-append ts q.0, h q refl))

pub parts_few : (one : Reader Tree) (ts : List Tree) (bytes : List ℕ) (r : Result (Vec Tree Global × Bor (List ℕ)) SigFault) → length ts ≤ 1 → AreRead r (behind ts (parts_in one bytes)) → IfOk r (λ p. length p.0.items < 4294967296)
unfolding parts_in
parts_few one ts bytes (Ok p) small e = omega (arith, no_more ts (parts_in one bytes) (p.0.items, p.1.now) (λ q. few_count one (number_in bytes) q (number_less bytes)) e, small)
parts_few one ts bytes (Err f) small e = tt
