-- The edit at a place gives its method the body, where no other gives it one.
use Rattle.std.proofs.Common.{◌≡◌, ℕ, zero, suc, ◌<◌, Bool, true, false, List, [], ◌∷◌, Some, refl, ap, ◌∙◌, arith}
use Rattle.std.specs.Prelude.{◌&&◌, ◌==◌, slice_get, if◌then◌else◌}
use Rattle.std.proofs.lemmas.Bool.{and_parts}
use Rattle.std.proofs.lemmas.Bool.Decides.{nat_tests}
use Rattle.enc_base.specs.Token.{is_token}
use Rattle.enc_base.specs.declared.token.Token.{Token}
use Rattle.enc_plain.proofs.Applied.{same_is}
use Rattle.enc_edit_list.specs.declared.edit.Edit.{Edit}
use Rattle.enc_rules.specs.Rules.{gives_body}
use Rattle.enc_pdb_writer.specs.Stated.{edit_giving, AreMethods}

is_token_self : (t : Token) → is_token t t ≡ true
is_token_self t =
    let a : (t.table == t.table) ≡ true = grind (arith, nat_tests) in
    let b : (t.row == t.row) ≡ true = grind (arith, nat_tests) in
    rw (a, b) refl

-- no edit before a place gives the method its body
abbrev NoneBefore : List Token → List Edit → Token → ℕ → Type 0
NoneBefore methods edits t k = (i : ℕ) (d : Edit) (u : Token) → i < k → slice_get edits i ≡ Some d → slice_get methods i ≡ Some u → gives_body d ≡ true → is_token u t ≡ true → ⊥

passed_by : (methods : List Token) (edits : List Edit) (u : Token) (d : Edit) (t : Token) (e : Edit) (b : Bool) → (gives_body d && is_token u t) ≡ b → (gives_body d ≡ true → is_token u t ≡ true → ⊥) → edit_giving methods edits t ≡ Some e
    → (if b then Some d else edit_giving methods edits t) ≡ Some e
passed_by methods edits u d t e true is none later = let parts = and_parts (gives_body d) (is_token u t) is in absurd (none parts.0 parts.1)
passed_by methods edits u d t e false is none later = later

found : (methods : List Token) (edits : List Edit) (k : ℕ) (e : Edit) (t : Token) → slice_get edits k ≡ Some e → slice_get methods k ≡ Some t → gives_body e ≡ true → NoneBefore methods edits t k → edit_giving methods edits t ≡ Some e
unfolding edit_giving
found [] edits k e t a b gives none = absurd cc
found (u ∷ methods) [] k e t a b gives none = absurd cc
found (u ∷ methods) (d ∷ edits) zero e t a b gives none =
    let x : d ≡ e = cc in
    let y : u ≡ t = cc in
    rw (x, y, gives, is_token_self t) refl
found (u ∷ methods) (d ∷ edits) (suc k) e t a b gives none =
    passed_by methods edits u d t e (gives_body d && is_token u t) refl (λ g s. none 0 d u (omega arith) refl refl g s)
    (found methods edits k e t a b gives (λ i f v lt p q g s. none (suc i) f v (omega (arith, lt)) p q g s))

pub gives_at : (methods : List Token) (edits : List Edit) (k : ℕ) (e : Edit) (t : Token) → AreMethods methods edits → slice_get edits k ≡ Some e → slice_get methods k ≡ Some t → gives_body e ≡ true → edit_giving methods edits t ≡ Some e
gives_at methods edits k e t are a b gives =
    found methods edits k e t a b gives (λ i d u lt p q g s. are.once i k d e t lt p a g gives (q ∙ ap (λ (v : Token). Some v) (same_is u t s)) b)
