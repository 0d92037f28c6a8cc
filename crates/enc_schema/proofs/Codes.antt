-- Coded indices: what a row above a tag decodes to, and what decodes to a token.
use Rattle.std.proofs.Common.{◌≡◌, ◌≢◌, ℕ, zero, suc, ◌+◌, ◌*◌, ◌/◌, ◌%◌, ◌^◌, ◌<◌, Bool, true, false, cond, ◌⊎◌, inl, inr, List, [], ◌∷◌, get_or, Option, Some, None, option_map, refl, sym, ◌∙◌, ap, arith, ◌≤◌, length}
use Rattle.std.specs.Prelude.{option_and_then, slice_get, nat_eq}
use Rattle.std.proofs.Math.Nat.{div-le_self}
use Rattle.std.proofs.lemmas.Nat.{div-mul-add, mod-mul-add}
use Rattle.std.proofs.lemmas.Bool.{ne_eqb, eqb-false}
use Rattle.enc_base.specs.declared.token.Token.{Token}
use Rattle.enc_base.specs.Token.{nil}
use Rattle.enc_schema.specs.declared.column.Coding.{Coding}
use Rattle.enc_schema.specs.Coding.{tables_of, tag_bits, table_with, decoded, named}

at_place : (xs : List (Option ℕ)) (i : ℕ) → option_and_then (λ (t : Option ℕ). t) (slice_get xs i) ≡ get_or xs i None
at_place [] i = refl
at_place (x ∷ xs) zero = refl
at_place (x ∷ xs) (suc i) = at_place xs i

pub with_tag : (kind : Coding) (tag : ℕ) → table_with kind tag ≡ get_or (tables_of kind) tag None
unfolding table_with
with_tag kind tag = at_place (tables_of kind) tag

-- a row above the tag of a table
pub decoded_at : (kind : Coding) (m tag row table : ℕ) → m ≡ 2 ^ tag_bits kind → tag < m → 0 < row → get_or (tables_of kind) tag None ≡ Some table → decoded kind (row * m + tag) ≡ Some (record { table = table; row = row })
unfolding decoded
decoded_at kind m tag row table e lt some is =
    let isnt : nat_eq row 0 ≡ false = ne_eqb row 0 (λ h. omega arith) in
    rw (← e) (rw (div-mul-add row m tag lt, mod-mul-add row m tag lt, isnt, with_tag kind tag, is) refl)

from_decoded : (b : Bool) (o : Option ℕ) (n : ℕ) (token : Token) → cond b (Some nil) (option_map (λ (t : ℕ). record { table = t; row = n }) o) ≡ Some token → ((b ≡ true) × (nil ≡ token)) ⊎ ((b ≡ false) × (o ≡ Some token.table) × (n ≡ token.row))
from_decoded true o n token h = inl (refl, cc)
from_decoded false None n token h = absurd (cc)
from_decoded false (Some t) n token h = inr (refl, cc, cc)

pub decoded_zero : (kind : Coding) → decoded kind 0 ≡ Some nil
unfolding decoded
decoded_zero kind =
    let e : 0 / 2 ^ tag_bits kind ≡ 0 = omega (arith, div-le_self 0 (2 ^ tag_bits kind)) in
    rw e refl

above_none : (n row : ℕ) → n ≢ 0 → n ≡ row → 0 < row
above_none n row some e = omega arith

-- what decodes to a token: it is nil, or its table has a tag
decodes : (kind : Coding) (v : ℕ) (token : Token) → decoded kind v ≡ Some token → (nil ≡ token) ⊎ ((tag : ℕ) × (get_or (tables_of kind) tag None ≡ Some token.table) × (0 < token.row))
unfolding decoded
decodes kind v token h =
    let m : ℕ = 2 ^ tag_bits kind in
    elim (from_decoded (nat_eq (v / m) 0) (table_with kind (v % m)) (v / m) token h) [
      | inl w ↦ inl w.1
      | inr w ↦ inr (v % m, sym (with_tag kind (v % m)) ∙ w.1, above_none (v / m) token.row (eqb-false (v / m) 0 w.0) w.2)
    ]

-- a token with a row names that row
pub named_row : (token : Token) → token.row ≢ 0 → named token ≡ token
named_row token some = rw (ne_eqb token.row 0 some) refl

-- nothing decodes to a row of a table with no tag
pub none_to_row : (kind : Coding) (token : Token) → token.row ≢ 0 → ((tag : ℕ) → get_or (tables_of kind) tag None ≢ Some token.table) → (v : ℕ) → decoded kind v ≢ Some (named token)
none_to_row kind token row none v h =
    elim (decodes kind v token (h ∙ ap (λ t. Some t) (named_row token row))) [
      | inl w ↦ row (sym (ap (λ (t : Token). t.row) w))
      | inr w ↦ none w.0 w.1
    ]

-- row 0 is nil
pub zero_to_nil : (kind : Coding) (token : Token) → token.row ≡ 0 → decoded kind 0 ≡ Some (named token)
zero_to_nil kind token e = decoded_zero kind ∙ sym (rw e refl)

pub found : (kind : Coding) (token : Token) (tables : List (Option ℕ)) (bits tag v : ℕ) → bits ≡ tag_bits kind → tables ≡ tables_of kind → tag < length tables → length tables ≤ 2 ^ tag_bits kind → token.row ≢ 0 → get_or tables tag None ≡ Some token.table → v ≡ token.row * 2 ^ bits + tag → decoded kind v ≡ Some (named token)
found kind token tables bits tag v eb et lt few some is ev =
    let e : 2 ^ bits ≡ 2 ^ tag_bits kind = ap (λ n. 2 ^ n) eb in
    rw ev (decoded_at kind (2 ^ bits) tag token.row token.table e (omega arith) (omega arith) (rw et at is)) ∙ sym (ap (λ t. Some t) (named_row token some))
