-- Methods with the sizes of their code.
use Rattle.std.proofs.Common.{◌≡◌, ℕ, zero, suc, Bool, true, false, List, [], ◌∷◌, ◌++◌, length, Option, Some, None, refl, ap, sym, ◌∙◌, arith}
use Rattle.std.specs.Prelude.{◌==◌, ◌&&◌, position, slice_get, option_map, option_and_then, if◌then◌else◌}
use Rattle.std.proofs.lemmas.Bool.Decides.{nat_tests}
use Rattle.enc_base.specs.Token.{is_token}
use Rattle.enc_base.specs.declared.token.Token.{Token}
use Rattle.enc_base.specs.Tables as tables
use Rattle.enc_plain.proofs.Owned.{position_cons}
use Rattle.enc_ppdb.specs.Misplaced.{size_for}
use Rattle.enc_ppdb.specs.Points.{names_method}
use Rattle.enc_ppdb.specs.Seen.{sized}

pub sized_length : (methods : List Token) (sizes : List ℕ) → length methods ≡ length sizes → length sizes ≡ length (sized methods sizes)
sized_length [] [] e = refl
sized_length [] (n ∷ sizes) e = absurd (omega (arith, e))
sized_length (m ∷ methods) [] e = absurd (omega (arith, e))
sized_length (m ∷ methods) (n ∷ sizes) e = omega (arith, sized_length methods sizes (omega (arith, e)))

pub sized_push : (methods : List Token) (sizes : List ℕ) (method : Token) (size : ℕ) → length methods ≡ length sizes → sized (methods ++ method ∷ []) (sizes ++ size ∷ []) ≡ sized methods sizes ++ (method, size) ∷ []
sized_push [] [] method size e = refl
sized_push [] (n ∷ sizes) method size e = absurd (omega (arith, e))
sized_push (m ∷ methods) [] method size e = absurd (omega (arith, e))
sized_push (m ∷ methods) (n ∷ sizes) method size e = ap (λ xs. (m, n) ∷ xs) (sized_push methods sizes method size (omega (arith, e)))

-- an element of both lists, or of none
pub sized_get : (methods : List Token) (sizes : List ℕ) (i : ℕ) → length methods ≡ length sizes → slice_get (sized methods sizes) i ≡ option_and_then (λ (m : Token). option_map (λ (n : ℕ). (m, n)) (slice_get sizes i)) (slice_get methods i)
sized_get [] [] i e = refl
sized_get [] (n ∷ sizes) i e = absurd (omega (arith, e))
sized_get (m ∷ methods) [] i e = absurd (omega (arith, e))
sized_get (m ∷ methods) (n ∷ sizes) zero e = refl
sized_get (m ∷ methods) (n ∷ sizes) (suc i) e = sized_get methods sizes i (omega (arith, e))

same_test : (a b : ℕ) → (a == b) ≡ (b == a)
same_test a b = grind (arith, nat_tests)

abbrev method_of : Token → Token
method_of token = record { table = tables.method_def; row = token.row }

names_is : (m token : Token) → names_method m token ≡ is_token (method_of token) m
names_is m token = ap (λ t. t && token.row == m.row) (same_test m.table tables.method_def)

size_cons : (m token : Token) (n : ℕ) (rest : List (Token × ℕ)) → size_for ((m, n) ∷ rest) token ≡ (if names_method m token then Some n else size_for rest token)
unfolding size_for
size_cons m token n rest = refl

size_none : (token : Token) → size_for [] token ≡ None
unfolding size_for
size_none token = refl

by_test : (t : Bool) (n : ℕ) (sizes : List ℕ) (o : Option ℕ) → (if t then Some n else option_and_then (slice_get sizes) o) ≡ option_and_then (slice_get (n ∷ sizes)) (if t then Some 0 else option_map suc o)
by_test true n sizes o = refl
by_test false n sizes None = refl
by_test false n sizes (Some i) = refl

-- the size of a method is that at its first position
pub size_at : (methods : List Token) (sizes : List ℕ) (token : Token) → length methods ≡ length sizes → size_for (sized methods sizes) token ≡ option_and_then (slice_get sizes) (position (is_token (method_of token)) methods)
size_at [] [] token e = size_none token
size_at [] (n ∷ sizes) token e = absurd (omega (arith, e))
size_at (m ∷ methods) [] token e = absurd (omega (arith, e))
size_at (m ∷ methods) (n ∷ sizes) token e =
    let p = is_token (method_of token) in
    rw (size_cons m token n (sized methods sizes), position_cons p m methods, names_is m token, size_at methods sizes token (omega (arith, e))) (by_test (p m) n sizes (position p methods))

-- the same as a search gives it
pub size_missing : (methods : List Token) (sizes : List ℕ) (token : Token) → length methods ≡ length sizes → None ≡ position (is_token (record { table = 6; row = token.row })) methods → None ≡ size_for (sized methods sizes) token
size_missing methods sizes token e none = ap (option_and_then (slice_get sizes)) none ∙ sym (size_at methods sizes token e)

pub size_found : (methods : List Token) (sizes : List ℕ) (token : Token) (i : ℕ) (o : Option ℕ) → length methods ≡ length sizes → Some i ≡ position (is_token (record { table = 6; row = token.row })) methods → o ≡ slice_get sizes i → o ≡ size_for (sized methods sizes) token
size_found methods sizes token i o e some is = is ∙ ap (option_and_then (slice_get sizes)) some ∙ sym (size_at methods sizes token e)

-- as two looks give it
pub sized_first : (methods : List Token) (sizes : List ℕ) (i : ℕ) → length methods ≡ length sizes → slice_get methods i ≡ None → slice_get (sized methods sizes) i ≡ None
sized_first methods sizes i e none = sized_get methods sizes i e ∙ ap (option_and_then (λ (m : Token). option_map (λ (n : ℕ). (m, n)) (slice_get sizes i))) none

none_of : {A B C : Type 0} (f : B → A → C) (o : Option B) (p : Option A) → p ≡ None → option_and_then (λ (m : B). option_map (f m) p) o ≡ None
none_of f None p e = refl
none_of f (Some m) p e = ap (option_map (f m)) e

pub sized_second : (methods : List Token) (sizes : List ℕ) (i : ℕ) → length methods ≡ length sizes → slice_get sizes i ≡ None → slice_get (sized methods sizes) i ≡ None
sized_second methods sizes i e none = sized_get methods sizes i e ∙ none_of (λ (m : Token) (n : ℕ). (m, n)) (slice_get methods i) (slice_get sizes i) none

pub sized_both : (methods : List Token) (sizes : List ℕ) (i : ℕ) (m : Token) (n : ℕ) → length methods ≡ length sizes → slice_get methods i ≡ Some m → slice_get sizes i ≡ Some n → slice_get (sized methods sizes) i ≡ Some (m, n)
sized_both methods sizes i m n e first second =
    sized_get methods sizes i e ∙ ap (option_and_then (λ (m : Token). option_map (λ (n : ℕ). (m, n)) (slice_get sizes i))) first ∙ ap (option_map (λ (n : ℕ). (m, n))) second

pub ruleset sized_steps = (sized_first, sized_second, sized_both)
