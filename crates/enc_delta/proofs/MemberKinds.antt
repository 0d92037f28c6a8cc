-- The kinds of the columns by which members are judged.
use Rattle.std.proofs.Common.{◌≡◌, ℕ, Bool, true, false, Some, refl, inl, inr, arith}
use Rattle.std.specs.Prelude.{◌==◌, ◌||◌, ◌&&◌, ◌⊎◌, unwrap_or, IsTrue}
use Rattle.std.proofs.lemmas.Bool.Decides.{nat_tests}
use Rattle.enc_base.specs.declared.token.Token.{Token}
use Rattle.enc_schema.specs.Schema.{columns_in}
use Rattle.enc_plain.specs.Cell.{texts, blobs, kind_in}
use Rattle.enc_plain.specs.Rows.{Rows}
use Rattle.enc_plain.specs.Signatures.{signature_column}
use Rattle.enc_delta.specs.Changes.{is_member, name_column}
use Rattle.enc_delta.specs.Gains.{has_signature}
use Rattle.enc_delta.specs.Members.{is_member_table}

-- a member is of one of four tables
tables : (t : ℕ) (f m : Bool) → (t == 0x04 && f || t == 0x06 && m || t == 0x14 || t == 0x17) ≡ true → (t ≡ 0x04) ⊎ (t ≡ 0x06) ⊎ (t ≡ 0x14) ⊎ (t ≡ 0x17)
tables t f m h = grind (arith, nat_tests)

named : (t : ℕ) → (t ≡ 0x04) ⊎ (t ≡ 0x06) ⊎ (t ≡ 0x14) ⊎ (t ≡ 0x17) → kind_in t (name_column t) ≡ Some texts
unfolding columns_in
named t h =
    elim h [
      | inl e ↦ rw e refl
      | inr w ↦ elim w [
        | inl e ↦ rw e refl
        | inr w ↦ elim w [ inl e ↦ rw e refl | inr e ↦ rw e refl ]
      ]
    ]

-- rows of these tables have names
pub name_kind : (t : ℕ) → IsTrue (is_member_table t) → kind_in t (name_column t) ≡ Some texts
name_kind t h = named t (grind (arith, nat_tests))

-- and a signature, where it is no event
signed : (t : ℕ) → (t ≡ 0x04) ⊎ (t ≡ 0x06) ⊎ (t ≡ 0x14) ⊎ (t ≡ 0x17) → (t == 0x14) ≡ false → has_signature t ≡ true
signed t h other = grind (arith, nat_tests)

pub told_by_signature : (rows : Rows) (t : Token) → IsTrue (is_member rows t) → (t.table == 0x14) ≡ false → IsTrue (has_signature t.table)
unfolding is_member
told_by_signature rows t h other = signed t.table (tables t.table _ _ h) other

two : (t : ℕ) → IsTrue (has_signature t) → (t == 0x06) ≡ false → (t ≡ 0x04) ⊎ (t ≡ 0x17)
two t h other = grind (arith, nat_tests)

pub signature_kind : (t : ℕ) → IsTrue (has_signature t) → (t == 0x06) ≡ false → kind_in t 2 ≡ Some blobs
unfolding columns_in
signature_kind t h other = elim (two t h other) [ inl e ↦ rw e refl | inr e ↦ rw e refl ]

pub signature_two : (t : ℕ) → IsTrue (has_signature t) → (t == 0x06) ≡ false → unwrap_or (signature_column t) 0 ≡ 2
unfolding signature_column
signature_two t h other = elim (two t h other) [ inl e ↦ rw e refl | inr e ↦ rw e refl ]

pub signature_four : (t : ℕ) → t ≡ 0x06 → unwrap_or (signature_column t) 0 ≡ 4
unfolding signature_column
signature_four t e = rw e refl

pub ruleset signature_steps = (signature_kind, signature_two, signature_four)
