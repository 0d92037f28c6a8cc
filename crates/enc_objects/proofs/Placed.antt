-- Values by token: what is found after one is put.
use Rattle.std.proofs.Common.{◌≡◌, Bool, true, false, cond, [], ◌∷◌, Option, Some, refl, sym, ap, ◌∙◌, arith}
use Rattle.std.specs.Ordering.{is_eq, match_ordering}
use Rattle.std.specs.declared.cmp.Ordering.{Ordering}
use Rattle.std.specs.declared.cmp.Ordering.TheVariants.{Less, Equal, Greater}
use Rattle.enc_base.specs.Token.{is_token}
use Rattle.enc_base.specs.declared.token.Token.{Token}
use Rattle.enc_objects.specs.declared.value.Value.{Value}
use Rattle.enc_objects.specs.Entries.{Entries, token_ordering, value_for, put_value}

-- tokens are equal in order where they are the same
pub same_in_order : (a b : Token) → is_eq (token_ordering a b) ≡ is_token a b
same_in_order a b = grind arith

-- a token that is equal to two others shows that they are equal
pub order_joins : (q k x : Token) → token_ordering k x ≡ Equal → is_eq (token_ordering q x) ≡ is_eq (token_ordering q k)
order_joins q k x e = grind (arith, e)

pub order_parts : (q k x : Token) → is_eq (token_ordering q x) ≡ true → is_eq (token_ordering q k) ≡ true → is_eq (token_ordering k x) ≡ true
order_parts q k x e f = grind (arith, e, f)

twice : (t u : Bool) (v w : Value) (rest : Option Value) → u ≡ t → cond u (Some v) rest ≡ cond t (Some v) (cond u (Some w) rest)
twice true true v w rest e = refl
twice true false v w rest e = absurd cc
twice false true v w rest e = absurd cc
twice false false v w rest e = refl

swapped : (a b : Bool) (v w : Value) (rest : Option Value) → (a ≡ true → b ≡ true → false ≡ true) → cond a (Some v) (cond b (Some w) rest) ≡ cond b (Some w) (cond a (Some v) rest)
swapped true true v w rest apart = let e = apart refl refl in absurd cc
swapped true false v w rest apart = refl
swapped false b v w rest apart = refl

-- what is found after a value is put: it, or what was found before
pub found_after_put : (q k : Token) (v : Value) (es : Entries) → value_for q (put_value k v es) ≡ cond (is_eq (token_ordering q k)) (Some v) (value_for q es)
found_after_put q k v [] = refl
found_after_put q k v (e ∷ es) = by (token_ordering k e.0) refl (found_after_put q k v es)
  where
    by : (r : Ordering) → token_ordering k e.0 ≡ r → value_for q (put_value k v es) ≡ cond (is_eq (token_ordering q k)) (Some v) (value_for q es)
        → value_for q (match_ordering r ((k, v) ∷ e ∷ es) ((e.0, v) ∷ es) (e ∷ put_value k v es)) ≡ cond (is_eq (token_ordering q k)) (Some v) (value_for q (e ∷ es))
    by Less p rest = refl
    by Equal p rest = twice (is_eq (token_ordering q k)) (is_eq (token_ordering q e.0)) v e.1 (value_for q es) (order_joins q k e.0 p)
    by Greater p rest =
        ap (cond (is_eq (token_ordering q e.0)) (Some e.1)) rest
        ∙ swapped (is_eq (token_ordering q e.0)) (is_eq (token_ordering q k)) e.1 v (value_for q es) (λ f g. sym (ap is_eq p) ∙ order_parts q k e.0 f g)
