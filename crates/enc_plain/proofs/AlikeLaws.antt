-- The laws of likeness.
use Rattle.std.proofs.Common.{◌≡◌, ℕ, zero, suc, Bool, true, false, None, refl, arith, ap, ◌∙◌}
use Rattle.std.specs.Prelude.{◌&&◌, ◌||◌, ◌==◌}
use Rattle.std.proofs.lemmas.Bool.{false_from_ne_true}
use Rattle.std.proofs.lemmas.Bool.Decides.{nat_tests}
use Rattle.std.proofs.lemmas.Slice.Eq.{bytes_eq-Decides}
use Rattle.enc_base.specs.Token.{is_token}
use Rattle.enc_base.specs.declared.token.Token.{Token}
use Rattle.enc_plain.specs.Rows.{Rows, bytes_at}
use Rattle.enc_plain.specs.Alike.{are_rows, same_bytes, type_refs_alike, assembly_refs_alike, module_refs_alike, refs_alike, type_specs_alike, tokens_alike}
use Rattle.enc_plain.specs.AlikeLaws.{EachIsAlikeItself, NoneIsAlikeByAnother, AbsentIsAlikeItselfAlone}
use Rattle.enc_plain.proofs.Applied.{same_is}
use Rattle.enc_plain.proofs.Scopes.{refs_same, are_namesakes, no_assembly, no_module, others_by}

itself_is : (t : Token) → is_token t t ≡ true
itself_is t = grind (arith, nat_tests)

pub each_is_alike_itself : EachIsAlikeItself
unfolding tokens_alike
each_is_alike_itself rows t = rw (← refs_same rows 100 t t (itself_is t)) refl

no_spec : (rows : Rows) (a b : Token) → are_rows rows 0x1B a b ≡ false → type_specs_alike rows a b ≡ false
unfolding type_specs_alike
no_spec rows a b h = rw h refl

no_rows : (rows : Rows) (table : ℕ) (a b : Token) → rows a ≡ None → are_rows rows table a b ≡ false
unfolding are_rows
no_rows rows table a b h = rw h (grind (arith, nat_tests))

pub unnamed : (rows : Rows) (a b : Token) → are_rows rows 0x01 a b ≡ false → are_namesakes rows a b ≡ false
unnamed rows a b h = rw h refl

none_by : (p s q r : Bool) → s ≡ false → q ≡ false → r ≡ false → (p || s || q || r) ≡ p
none_by true s q r a b c = refl
none_by false s q r a b c = rw (a, b, c) refl

-- references are alike by equality alone where neither names nor columns make them so
refs_are : (rows : Rows) (d : ℕ) (a b : Token) → are_namesakes rows a b ≡ false → are_rows rows 0x23 a b ≡ false → are_rows rows 0x1A a b ≡ false → refs_alike rows d a b ≡ is_token a b
unfolding refs_alike
refs_are rows zero a b n h k = refl
refs_are rows (suc d) a b n h k = none_by (is_token a b) (type_refs_alike rows (refs_alike rows d) a b) (assembly_refs_alike rows a b) (module_refs_alike rows a b) (others_by rows (refs_alike rows d) a b n) (no_assembly rows a b h) (no_module rows a b k)

or_none : (p q : Bool) → q ≡ false → (p || q) ≡ p
or_none true q h = refl
or_none false q h = h

pub tokens_are : (rows : Rows) (a b : Token) → are_namesakes rows a b ≡ false → are_rows rows 0x23 a b ≡ false → are_rows rows 0x1A a b ≡ false → are_rows rows 0x1B a b ≡ false → tokens_alike rows a b ≡ is_token a b
unfolding tokens_alike
tokens_are rows a b n h k l = or_none (refs_alike rows 100 a b) (type_specs_alike rows a b) (no_spec rows a b l) ∙ refs_are rows 100 a b n h k

pub absent_is_alike_itself_alone : AbsentIsAlikeItselfAlone
absent_is_alike_itself_alone rows a b h = tokens_are rows a b (unnamed rows a b (no_rows rows 0x01 a b h)) (no_rows rows 0x23 a b h) (no_rows rows 0x1A a b h) (no_rows rows 0x1B a b h)

other_table : (rows : Rows) (t u : ℕ) (a b : Token) → a.table ≡ t → (t == u) ≡ false → are_rows rows u a b ≡ false
unfolding are_rows
other_table rows t u a b h e = grind (arith, nat_tests)

another_token : (rows : Rows) (i : ℕ) (a b : Token) → ¬ (bytes_at rows a i ≡ bytes_at rows b i) → is_token a b ≡ false
another_token rows i a b h = false_from_ne_true (is_token a b) (λ e. h (ap (λ (t : Token). bytes_at rows t i) (same_is a b e)))

differ : (rows : Rows) (i : ℕ) (a b : Token) → ¬ (bytes_at rows a i ≡ bytes_at rows b i) → same_bytes rows a b i ≡ false
differ rows i a b h = grind (arith, bytes_eq-Decides)

by_another : (rows : Rows) (i : ℕ) (a b : Token) → a.table ≡ 0x01 → ¬ (bytes_at rows a i ≡ bytes_at rows b i) → are_namesakes rows a b ≡ false → tokens_alike rows a b ≡ false
by_another rows i a b t h n = tokens_are rows a b n (other_table rows 0x01 0x23 a b t refl) (other_table rows 0x01 0x1A a b t refl) (other_table rows 0x01 0x1B a b t refl) ∙ another_token rows i a b h

last_of : (p q r : Bool) → r ≡ false → (p && q && r) ≡ false
last_of p q r h = rw h (grind (arith, nat_tests))

middle_of : (p q r : Bool) → q ≡ false → (p && q && r) ≡ false
middle_of p q r h = rw h (grind (arith, nat_tests))

pub none_is_alike_by_another_name : NoneIsAlikeByAnother 1
none_is_alike_by_another_name rows a b t h = by_another rows 1 a b t h (middle_of (are_rows rows 0x01 a b) (same_bytes rows a b 1) (same_bytes rows a b 2) (differ rows 1 a b h))

pub none_is_alike_by_another_namespace : NoneIsAlikeByAnother 2
none_is_alike_by_another_namespace rows a b t h = by_another rows 2 a b t h (last_of (are_rows rows 0x01 a b) (same_bytes rows a b 1) (same_bytes rows a b 2) (differ rows 2 a b h))
