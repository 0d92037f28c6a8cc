-- The rows of edits that break no rule fit the module, one behind the other.
use Rattle.std.proofs.Common.{◌≡◌, ℕ, Bool, true, false, List, [], ◌∷◌, ◌++◌, length, refl, sym, ◌∙◌, arith, append_assoc}
use Rattle.std.specs.Prelude.{◌||◌}
use Rattle.std.specs.List.{list_any}
use Rattle.std.proofs.lemmas.Bool.Decides.{nat_tests}
use Rattle.enc_base.specs.Token.{is_token}
use Rattle.enc_base.specs.declared.token.Token.{Token}
use Rattle.enc_plain.specs.Chain.{Chain}
use Rattle.enc_plain.specs.Fits.{changes}
use Rattle.enc_plain.specs.Module.{Module}
use Rattle.enc_edit_list.specs.declared.edit.Edit.{Edit}
use Rattle.enc_edit_list.specs.declared.edit.EditList.{EditList}
use Rattle.enc_rules.specs.Edited.{row_edited, rows_behind, rows_edited, changes_behind}
use Rattle.enc_rules.specs.Rules.{row_is_edited_twice}
use Rattle.enc_memory_module.proofs.Split.{seam, row_there, rows_before_it, rows_append}

-- what no test passes of a list doesn't pass for a token among it
abbrev pub Among : Token → List Token → Type 0
Among t ts = (p : Token → Bool) → list_any p ts ≡ false → p t ≡ false

neither : (a b : Bool) → (a || b) ≡ false → (a ≡ false) × (b ≡ false)
neither false b h = (refl, h)
neither true b h = absurd cc

either_none : (a b : Bool) → a ≡ false → b ≡ false → (a || b) ≡ false
either_none a b p q = rw (p, q) refl

none_append : (p : Token → Bool) (xs ys : List Token) → list_any p (xs ++ ys) ≡ false → (list_any p xs ≡ false) × (list_any p ys ≡ false)
none_append p [] ys h = (refl, h)
none_append p (x ∷ xs) ys h =
    let w = neither (p x) (list_any p (xs ++ ys)) h in
    let more = none_append p xs ys w.1 in
    (either_none (p x) (list_any p xs) w.0 more.0, more.1)

pub among_more : (t : Token) (xs ys : List Token) → Among t xs → Among t (xs ++ ys)
among_more t xs ys is p h = is p (none_append p xs ys h).0

pub among_last : (t : Token) (xs : List Token) → Among t (xs ++ t ∷ [])
among_last t xs p h = (neither (p t) false ((none_append p xs (t ∷ []) h).1)).0

-- no edit of the rest is about a row that one before it is about
unfoldable pub Fresh : Module → List Edit → List Edit → Type 0
Fresh m before [] = Unit {0}
Fresh m before (e ∷ rest) = (list_any (λ u. is_token u (row_edited m before e)) (rows_edited m before) ≡ false) × Fresh m (before ++ e ∷ []) rest

fresh_here : (c : Chain) (l : EditList) (before rest : List Edit) (e : Edit) → l.edits ≡ before ++ e ∷ rest → row_is_edited_twice c l (length before) ≡ false → list_any (λ u. is_token u (row_edited c.plain before e)) (rows_edited c.plain before) ≡ false
unfolding row_is_edited_twice
fresh_here c l before rest e is h =
    rw (is, seam before rest e, row_there c.plain before rest e, rows_before_it c.plain before rest e) at h

pub all_fresh : (c : Chain) (l : EditList) (before rest : List Edit) → l.edits ≡ before ++ rest → ((k : ℕ) → row_is_edited_twice c l k ≡ false) → Fresh c.plain before rest
unfolding Fresh
all_fresh c l before [] is h = tt
all_fresh c l before (e ∷ rest) is h =
    (fresh_here c l before rest e is (h (length before)), all_fresh c l (before ++ e ∷ []) rest (is ∙ sym (append_assoc before (e ∷ []) rest)) h)

token_sym : (t u : Token) → is_token t u ≡ false → is_token u t ≡ false
token_sym t u h = grind (arith, nat_tests, h)

-- so their changes have no row for a token among those before
pub none_changed : (m : Module) (t : Token) (before rest : List Edit) → Fresh m before rest → Among t (rows_edited m before) → changes (changes_behind m before rest) t ≡ false
unfolding Fresh changes_behind
none_changed m t before [] fresh among = refl
none_changed m t before (e ∷ rest) fresh among =
    let own : is_token (row_edited m before e) t ≡ false = token_sym t (row_edited m before e) (among (λ u. is_token u (row_edited m before e)) fresh.0) in
    let still : Among t (rows_edited m (before ++ e ∷ [])) = rw (rows_append m [] before (e ∷ [])) (among_more t (rows_edited m before) (rows_behind m before (e ∷ [])) among) in
    either_none (is_token (row_edited m before e) t) (changes (changes_behind m (before ++ e ∷ []) rest) t) own (none_changed m t (before ++ e ∷ []) rest fresh.1 still)
