-- Members with alike signatures have one key.
use Rattle.std.proofs.Common.{◌≡◌, ℕ, Bool, true, false, List, refl, sym, ap, ◌∙◌, inl, inr, arith}
use Rattle.std.specs.Prelude.{◌==◌, ◌||◌, ◌&&◌, ◌⊎◌, unwrap_or}
use Rattle.std.proofs.lemmas.Bool.Decides.{nat_tests}
use Rattle.enc_base.specs.declared.token.Token.{Token}
use Rattle.enc_plain.specs.Rows.{Rows, bytes_at}
use Rattle.enc_plain.specs.Signatures.{kind_in_table, signature_column}
use Rattle.enc_plain.specs.Alike.{signatures_alike}
use Rattle.enc_plain.specs.Keys.{signature_key, member_key}
use Rattle.enc_plain.proofs.OneKey.{signatures_one}

two : (b : Bool) → (b ≡ true) ⊎ (b ≡ false)
two true = inl refl
two false = inr refl

-- the table of a member: of a field, a method, an event or a property
abbrev pub is_of_members : ℕ → Bool → Bool → Bool
is_of_members t f m = t == 0x04 && f || t == 0x06 && m || t == 0x14 || t == 0x17

three : (t : ℕ) (f m : Bool) → is_of_members t f m ≡ true → (t == 0x14) ≡ false → (t ≡ 0x04) ⊎ (t ≡ 0x06) ⊎ (t ≡ 0x17)
three t f m h other = grind (arith, nat_tests)

no_spec : (t : ℕ) (f m : Bool) → is_of_members t f m ≡ true → (t == 0x1B) ≡ false
no_spec t f m h = grind (arith, nat_tests)

kind_by : (t : ℕ) (a b : List ℕ) → (t ≡ 0x04) ⊎ (t ≡ 0x06) ⊎ (t ≡ 0x17) → kind_in_table t a ≡ kind_in_table t b
unfolding kind_in_table
kind_by t a b h = elim h [ inl e ↦ rw e refl | inr w ↦ elim w [ inl e ↦ rw e refl | inr e ↦ rw e refl ] ]

left_false : (a b : Bool) → (a || b) ≡ true → a ≡ false → b ≡ true
left_false true b h e = absurd cc
left_false false b h e = h

event_key : (rows : Rows) (t : Token) → (t.table == 0x14) ≡ true → member_key rows t ≡ 0
unfolding member_key
event_key rows t e = rw e refl

other_key : (rows : Rows) (t : Token) → (t.table == 0x14) ≡ false → member_key rows t ≡ signature_key rows t.table (bytes_at rows t (unwrap_or (signature_column t.table) 0))
unfolding member_key
other_key rows t e = rw e refl

by_signature : (rows : Rows) (t u : Token) (f m : Bool) → is_of_members t.table f m ≡ true → t.table ≡ u.table → (t.table == 0x14 || signatures_alike rows t.table (bytes_at rows t (unwrap_or (signature_column t.table) 0)) (bytes_at rows u (unwrap_or (signature_column t.table) 0))) ≡ true → (t.table == 0x14) ≡ false → member_key rows t ≡ member_key rows u
by_signature rows t u f m is same alike other =
    let agree = left_false (t.table == 0x14) (signatures_alike rows t.table (bytes_at rows t (unwrap_or (signature_column t.table) 0)) (bytes_at rows u (unwrap_or (signature_column t.table) 0))) alike other in
    let fourth : (u.table == 0x14) ≡ false = ap (λ n. n == 0x14) (sym same) ∙ other in
    let one = signatures_one rows t.table (bytes_at rows t (unwrap_or (signature_column t.table) 0)) (bytes_at rows u (unwrap_or (signature_column t.table) 0)) (no_spec t.table f m is) (kind_by t.table _ _ (three t.table f m is other)) agree in
    other_key rows t other ∙ one ∙ ap (λ n. signature_key rows n (bytes_at rows u (unwrap_or (signature_column n) 0))) same ∙ sym (other_key rows u fourth)

pub members_one : (rows : Rows) (t u : Token) (f m : Bool) → is_of_members t.table f m ≡ true → t.table ≡ u.table → (t.table == 0x14 || signatures_alike rows t.table (bytes_at rows t (unwrap_or (signature_column t.table) 0)) (bytes_at rows u (unwrap_or (signature_column t.table) 0))) ≡ true → member_key rows t ≡ member_key rows u
members_one rows t u f m is same alike = elim (two (t.table == 0x14)) [
  | inl event ↦ event_key rows t event ∙ sym (event_key rows u (ap (λ n. n == 0x14) (sym same) ∙ event))
  | inr other ↦ by_signature rows t u f m is same alike other
]
