-- Alike tokens and signatures have one key.
use Rattle.std.proofs.Common.{◌≡◌, ℕ, zero, suc, ◌-◌, Bool, true, false, List, refl, sym, ap, ◌∙◌, inl, inr, ◌⊎◌, arith}
use Rattle.std.specs.Prelude.{is_some, ◌||◌, ◌==◌, bytes_eq}
use Rattle.std.proofs.lemmas.Bool.Decides.{nat_tests}
use Rattle.std.proofs.lemmas.Slice.Eq.{bytes_eq-Decides}
use Rattle.enc_base.specs.Token.{is_token}
use Rattle.enc_base.specs.declared.token.Token.{Token}
use Rattle.enc_sigs.specs.Agree.{sigs_agree}
use Rattle.enc_sigs.specs.Mix.{finished}
use Rattle.enc_sigs.specs.Shape.{sig_shape}
use Rattle.enc_sigs.specs.declared.mix.Mix.{Mix}
use Rattle.enc_sigs.specs.declared.kind.SigKind.{SigKind}
use Rattle.enc_sigs.specs.declared.kind.SigKind.TheVariants.{TypeSpec}
use Rattle.enc_sigs.proofs.Shared.{alike_have_one_shape, both_left, both_right, or_else_right, token_is}
use Rattle.enc_plain.specs.Rows.{Rows, bytes_at}
use Rattle.enc_plain.specs.Signatures.{kind_in_table}
use Rattle.enc_plain.specs.Alike.{are_rows, type_refs_alike, assembly_refs_alike, module_refs_alike, refs_alike, type_specs_alike, tokens_alike, signatures_alike}
use Rattle.enc_plain.specs.Keys.{inner_key, spec_shape, spec_key, key_of, signature_key}
use Rattle.enc_plain.proofs.ScopeKeys.{refs_one, inners_one}

one_of : (p s q r : Bool) → (p || s || q || r) ≡ true → (p ≡ true) ⊎ ((s ≡ true) ⊎ ((q ≡ true) ⊎ (r ≡ true)))
one_of true s q r h = inl refl
one_of false true q r h = inr (inl refl)
one_of false false true r h = inr (inr (inl refl))
one_of false false false r h = inr (inr (inr h))

tables_are : (rows : Rows) (table : ℕ) (a b : Token) → are_rows rows table a b ≡ true → (a.table ≡ table) × (b.table ≡ table)
unfolding are_rows
tables_are rows table a b h = (grind (arith, nat_tests), grind (arith, nat_tests))

not_spec : (rows : Rows) (table : ℕ) (a b : Token) → are_rows rows table a b ≡ true → (table == 0x1B) ≡ false → ((a.table == 0x1B) ≡ false) × ((b.table == 0x1B) ≡ false)
not_spec rows table a b h e = let t = tables_are rows table a b h in (rw t.0 e, rw t.1 e)

-- no TypeSpecs are alike as references but equal ones
no_specs : (rows : Rows) (d : ℕ) (a b : Token) → refs_alike rows d a b ≡ true → (a ≡ b) ⊎ (((a.table == 0x1B) ≡ false) × ((b.table == 0x1B) ≡ false))
unfolding refs_alike type_refs_alike assembly_refs_alike module_refs_alike
no_specs rows zero a b h = inl (token_is a b h)
no_specs rows (suc d) a b h = elim (one_of (is_token a b) (type_refs_alike rows (refs_alike rows d) a b) (assembly_refs_alike rows a b) (module_refs_alike rows a b) h) [
  | inl same ↦ inl (token_is a b same)
  | inr (inl types) ↦ inr (not_spec rows 0x01 a b (both_left _ _ (both_left _ _ (both_left _ _ types))) refl)
  | inr (inr (inl assemblies)) ↦ inr (not_spec rows 0x23 a b (both_left _ _ (both_left _ _ (both_left _ _ (both_left _ _ (both_left _ _ (both_left _ _ (both_left _ _ (both_left _ _ (both_left _ _ assemblies))))))))) refl)
  | inr (inr (inr modules)) ↦ inr (not_spec rows 0x1A a b (both_left _ _ modules) refl)
]

refs_key : (rows : Rows) (a b : Token) → refs_alike rows 100 a b ≡ true → key_of rows a ≡ key_of rows b
unfolding key_of
refs_key rows a b h = elim (no_specs rows 100 a b h) [
  | inl same ↦ ap (key_of rows) same
  | inr others ↦ rw (others.0, others.1) (refs_one rows a b h)
]

specs_by : (rows : Rows) (a b : List ℕ) → (bytes_eq a b || sigs_agree (refs_alike rows 99) TypeSpec a b) ≡ true → sig_shape (inner_key rows) TypeSpec a ≡ sig_shape (inner_key rows) TypeSpec b
specs_by rows a b h = elim (or_else_right (bytes_eq a b) (sigs_agree (refs_alike rows 99) TypeSpec a b) h) [
  | inl same ↦ ap (sig_shape (inner_key rows) TypeSpec) ((bytes_eq-Decides a b).0 same)
  | inr agree ↦ alike_have_one_shape (refs_alike rows 99) (inner_key rows) TypeSpec a b (inners_one rows) agree
]

spec_is : (rows : Rows) (t : Token) → t.table ≡ 0x1B → is_some (rows t) ≡ true → key_of rows t ≡ spec_shape rows (bytes_at rows t 0)
unfolding key_of spec_key
spec_is rows t e there = let test : (t.table == 0x1B) ≡ true = ap (λ n. n == 0x1B) e in rw (test, there) refl

both_there : (rows : Rows) (table : ℕ) (a b : Token) → are_rows rows table a b ≡ true → (is_some (rows a) ≡ true) × (is_some (rows b) ≡ true)
unfolding are_rows
both_there rows table a b h = (grind (arith, nat_tests), grind (arith, nat_tests))

specs_key : (rows : Rows) (a b : Token) → type_specs_alike rows a b ≡ true → key_of rows a ≡ key_of rows b
unfolding spec_shape type_specs_alike kind_in_table
specs_key rows a b h =
    let tables = tables_are rows 0x1B a b (both_left _ _ h) in
    let there = both_there rows 0x1B a b (both_left _ _ h) in
    spec_is rows a tables.0 there.0 ∙ specs_by rows (bytes_at rows a 0) (bytes_at rows b 0) (both_right (are_rows rows 0x1B a b) _ h) ∙ sym (spec_is rows b tables.1 there.1)

-- alike tokens
pub tokens_one : (rows : Rows) (a b : Token) → tokens_alike rows a b ≡ true → key_of rows a ≡ key_of rows b
unfolding tokens_alike
tokens_one rows a b h = elim (or_else_right (refs_alike rows 100 a b) (type_specs_alike rows a b) h) [ inl refs ↦ refs_key rows a b refs | inr specs ↦ specs_key rows a b specs ]

sigs_by : (rows : Rows) (k : SigKind) (a b : List ℕ) → (bytes_eq a b || sigs_agree (tokens_alike rows) k a b) ≡ true → sig_shape (key_of rows) k a ≡ sig_shape (key_of rows) k b
sigs_by rows k a b h = elim (or_else_right (bytes_eq a b) (sigs_agree (tokens_alike rows) k a b) h) [
  | inl same ↦ ap (sig_shape (key_of rows) k) ((bytes_eq-Decides a b).0 same)
  | inr agree ↦ alike_have_one_shape (tokens_alike rows) (key_of rows) k a b (tokens_one rows) agree
]

-- alike signatures of a table whose signatures are all of one kind, and that isn't TypeSpec
pub signatures_one : (rows : Rows) (table : ℕ) (a b : List ℕ) → (table == 0x1B) ≡ false → kind_in_table table a ≡ kind_in_table table b → signatures_alike rows table a b ≡ true → signature_key rows table a ≡ signature_key rows table b
unfolding signatures_alike signature_key
signatures_one rows table a b other one h = ap finished (ap (λ k. sig_shape (key_of rows) k a) one ∙ sigs_by rows (kind_in_table table b) a b (rw (other, one) at h))
