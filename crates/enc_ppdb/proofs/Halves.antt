-- What a search by halves finds is the first position.
use Rattle.std.proofs.Common.{◌≡◌, ℕ, zero, suc, ◌-◌, ◌<◌, ◌≤◌, Bool, true, false, List, [], ◌∷◌, ◌++◌, length, get_or, cond, Some, None, refl, ap, sym, ◌∙◌, inl, inr, arith}
use Rattle.std.specs.Prelude.{◌==◌, ◌&&◌, position, nat_lt, nat_le, IsTrue}
use Rattle.std.specs.List.{position_or_len}
use Rattle.std.specs.List.Sorted.{IsNonDecreasingBy, IsPartitionPoint}
use Rattle.std.proofs.lemmas.Bool.{and_parts, eqb-true, cases_lt}
use Rattle.std.proofs.lemmas.Bool.Decides.{nat_tests}
use Rattle.std.proofs.lemmas.List.Sums.{position_or_len_is}
use Rattle.std.proofs.lemmas.List.Sorted.{IsNonDecreasingBy-push}
use Rattle.enc_base.specs.Token.{nil, is_token}
use Rattle.enc_base.specs.declared.token.Token.{Token}
use Rattle.enc_ppdb.specs.Seen.{token_order, is_next, IsCut}

-- what is before the token or past it in order isn't the token
other_by : (t u : Token) (b : Bool) → is_token t u ≡ b → (token_order t ≡ token_order u → ⊥) → is_token t u ≡ false
other_by t u false e h = e
other_by t u true e h =
    let parts = and_parts (t.table == u.table) (t.row == u.row) e in
    let table = eqb-true t.table u.table parts.0 in
    let row = eqb-true t.row u.row parts.1 in
    absurd (h (omega (arith, table, row)))

pub other : (t u : Token) → (token_order t ≡ token_order u → ⊥) → is_token t u ≡ false
other t u h = other_by t u (is_token t u) refl h

lt_true : (n m : ℕ) → nat_lt n m ≡ true → n < m
lt_true n m e = grind (arith, nat_tests)

le_true : (n m : ℕ) → nat_le n m ≡ true → n ≤ m
le_true n m e = grind (arith, nat_tests)

lt_false : (n m : ℕ) → nat_lt n m ≡ false → m ≤ n
lt_false n m e = grind (arith, nat_tests)

pub cut_at : (tokens : List Token) (token : Token) (i wanted : ℕ) → wanted ≡ token_order token → i ≤ length tokens → IsPartitionPoint (λ (t : Token). nat_lt (token_order t) wanted ≡ true) (λ (t : Token). nat_lt (token_order t) wanted ≡ false) tokens i → IsCut tokens token i
cut_at tokens token i wanted is le p = record {
  within = le;
  less = λ k a. let e = lt_true (token_order (get_or tokens k nil)) wanted (p.0 k nil (omega arith) a) in omega (arith, is, e);
  rest = λ k a b. let e = lt_false (token_order (get_or tokens k nil)) wanted (p.1 k nil a b) in omega (arith, is, e);
}

less_fails : (tokens : List Token) (token : Token) (i : ℕ) → IsCut tokens token i → (k : ℕ) → k < i → is_token token (get_or tokens k nil) ≡ false
less_fails tokens token i cut k a = other token (get_or tokens k nil) (λ e. let h = cut.less k a in absurd (omega (arith, e, h)))

found_by : (n m : ℕ) → n < m → cond (nat_lt n m) (Some n) None ≡ Some n
found_by n m h = let e : nat_lt n m ≡ true = grind (arith, nat_tests) in rw e refl

missing_by : (n m : ℕ) → n ≡ m → cond (nat_lt n m) (Some n) None ≡ None
missing_by n m h = let e : nat_lt n m ≡ false = grind (arith, nat_tests) in rw e refl

-- what stands at an index is the same by any default
same_read : (tokens : List Token) (i : ℕ) (d e : Token) → i < length tokens → get_or tokens i d ≡ get_or tokens i e
same_read [] i d e lt = absurd (omega arith)
same_read (t ∷ tokens) zero d e lt = refl
same_read (t ∷ tokens) (suc i) d e lt = same_read tokens i d e (omega arith)

-- the token that stands there
pub found_there : (tokens : List Token) (token d : Token) (i : ℕ) → IsCut tokens token i → i < length tokens → is_token token (get_or tokens i d) ≡ true → Some i ≡ position (is_token token) tokens
found_there tokens token d i cut lt is =
    let here : is_token token (get_or tokens i nil) ≡ true = ap (is_token token) (same_read tokens i nil d lt) ∙ is in
    let e : position_or_len (is_token token) tokens ≡ i = position_or_len_is (is_token token) tokens i nil cut.within (less_fails tokens token i cut) (λ a. here) in
    rw e (sym (found_by i (length tokens) lt))

-- none stands there
pub missing_past : (tokens : List Token) (token : Token) (i : ℕ) → IsCut tokens token i → length tokens ≤ i → None ≡ position (is_token token) tokens
missing_past tokens token i cut le =
    let e : position_or_len (is_token token) tokens ≡ i = position_or_len_is (is_token token) tokens i nil cut.within (less_fails tokens token i cut) (λ a. absurd (omega arith)) in
    rw e (sym (missing_by i (length tokens) (omega (arith, cut.within))))

-- another one stands there
all_fail : (tokens : List Token) (token : Token) (i : ℕ) → IsNonDecreasingBy token_order tokens → IsCut tokens token i → i < length tokens → (token_order token ≡ token_order (get_or tokens i nil) → ⊥) → (k : ℕ) → k < length tokens → is_token token (get_or tokens k nil) ≡ false
all_fail tokens token i up cut lt apart k a = other token (get_or tokens k nil) (λ e. elim (cases_lt k i) [
  | inl b ↦ let h = cut.less k b in absurd (omega (arith, e, h))
  | inr b ↦ let h = up i k nil b a in let g = cut.rest i (omega arith) lt in apart (omega (arith, e, h, g))
])

apart_by : (n m : ℕ) → (n == m) ≡ false → n ≡ m → ⊥
apart_by n m f e = absurd (grind (arith, nat_tests))

pub missing_there : (tokens : List Token) (token d : Token) (i : ℕ) → IsNonDecreasingBy token_order tokens → IsCut tokens token i → i < length tokens → (token_order token == token_order (get_or tokens i d)) ≡ false → None ≡ position (is_token token) tokens
missing_there tokens token d i up cut lt differ =
    let apart = λ (h : token_order token ≡ token_order (get_or tokens i nil)). apart_by (token_order token) (token_order (get_or tokens i d)) differ (h ∙ ap token_order (same_read tokens i nil d lt)) in
    let e : position_or_len (is_token token) tokens ≡ length tokens = position_or_len_is (is_token token) tokens (length tokens) nil (omega arith) (all_fail tokens token i up cut lt apart) (λ a. absurd (omega arith)) in
    rw e (sym (missing_by (length tokens) (length tokens) refl))

-- one token more, where it isn't before the last
next_le : (tokens : List Token) (token d : Token) → is_next tokens token ≡ true → 0 < length tokens → token_order (get_or tokens (length tokens - 1) d) ≤ token_order token
next_le tokens token d next some =
    let h = le_true (token_order (get_or tokens (length tokens - 1) nil)) (token_order token) next in
    let e = ap token_order (same_read tokens (length tokens - 1) d nil (omega arith)) in
    omega (arith, h, e)

pub rises_more : (rises : Bool) (tokens more : List Token) (token : Token) (still : Bool) → (IsTrue rises → IsNonDecreasingBy token_order tokens) → still ≡ (rises && is_next tokens token) → more ≡ tokens ++ token ∷ [] → IsTrue still → IsNonDecreasingBy token_order more
rises_more rises tokens more token still before is grown holds =
    let parts = and_parts rises (is_next tokens token) (sym is ∙ holds) in
    rw grown (IsNonDecreasingBy-push token_order tokens token (before parts.0) (λ d some. next_le tokens token d parts.1 some))
