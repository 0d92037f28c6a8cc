-- A class catches what extends it.
use Rattle.std.proofs.Common.{◌≡◌, ℕ, zero, suc, Bool, true, false, ◌||◌, List, [], ◌∷◌, refl, ap, ◌∙◌}
use Rattle.std.specs.Prelude.{codes}
use Rattle.std.specs.List.{list_any}
use Rattle.std.proofs.Math.Bool.{or-true}
use Rattle.std.proofs.lemmas.List.Folds.{list_any-append}
use Rattle.enc_base.specs.Token.{is_token}
use Rattle.enc_base.specs.declared.token.Token.{Token}
use Rattle.enc_plain.specs.ClassPath.{path_of}
use Rattle.enc_plain.specs.Alike.{refs_alike, tokens_alike}
use Rattle.enc_plain.specs.Module.{cells_of}
use Rattle.enc_plain.specs.Rows.{Rows}
use Rattle.enc_unwind.specs.Laws.{BasesCatch}
use Rattle.enc_unwind.specs.Thrown.{behind_path, type_refs, types_of, is_caught_by}
use Rattle.enc_plain.specs.System.{is_of_system}

same_refs : (rows : Rows) (depth : ℕ) (a b : Token) → is_token a b ≡ true → refs_alike rows depth a b ≡ true
unfolding refs_alike
same_refs rows zero a b same = same
same_refs rows (suc depth) a b same = rw same refl

same_alike : (rows : Rows) (a b : Token) → is_token a b ≡ true → tokens_alike rows a b ≡ true
unfolding tokens_alike
same_alike rows a b same = rw (same_refs rows 100 a b same) refl

among_found : (p q : Token → Bool) (xs : List Token) → ((t : Token) → p t ≡ true → q t ≡ true) → list_any p xs ≡ true → list_any q xs ≡ true
among_found p q [] more h = absurd cc
among_found p q (x ∷ xs) more h = by_first (p x) refl h (among_found p q xs more)
  where
    by_first : (b : Bool) → p x ≡ b → (b || list_any p xs) ≡ true → (list_any p xs ≡ true → list_any q xs ≡ true) → (q x || list_any q xs) ≡ true
    by_first true e h rest = rw (more x e) refl
    by_first false e h rest = ap (λ b. q x || b) (rest h) ∙ or-true (q x)

pub bases_catch : BasesCatch
unfolding types_of is_caught_by
bases_catch m class base extended =
    let caught : Token → Bool = λ t. tokens_alike (cells_of m) t base in
    let behind = type_refs (behind_path m class (path_of m class)) in
    let found : list_any caught (path_of m class) ≡ true = among_found (λ (t : Token). is_token t base) caught (path_of m class) (λ t. same_alike (cells_of m) t base) extended in
    ap (λ b. is_of_system m (codes "Object") base || b) (list_any-append caught (path_of m class) behind ∙ ap (λ b. b || list_any caught behind) found)
    ∙ or-true (is_of_system m (codes "Object") base)
