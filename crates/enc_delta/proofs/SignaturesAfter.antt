-- Signatures by the rows after a delta.
use Rattle.std.proofs.Common.{◌≡◌, ℕ, ◌<◌, Bool, List, [], Option, Some, refl, sym, ap, ◌∙◌, inl, inr, arith}
use Rattle.std.proofs.lemmas.Option.{slice_get-get_or}
use Rattle.std.specs.Prelude.{length, slice_index_or, slice_index, ◌%◌, ◌⊎◌, unwrap_or, Result, Ok, Err, IfOk}
use Rattle.enc_rows.specs.Source.{Source, raw_in}
use Rattle.enc_meta.specs.Joined.{joined_blob}
use Rattle.enc_plain.specs.Rows.{bytes_at}
use Rattle.enc_sigs.specs.Grammar.{is_counted, table_of}
use Rattle.enc_plain.specs.Cell.{blobs, kind_in}
use Rattle.enc_plain.specs.Chain.{Chain}
use Rattle.enc_plain.specs.Signatures.{signature_column, is_signature}
use Rattle.enc_schema.specs.Schema.{columns_in}
use Rattle.enc_delta.specs.Delta.{listed, place_in}
use Rattle.enc_delta.specs.Context.{Joined, joined_rows}
use Rattle.enc_delta.specs.Known.{is_joined_signature}
use Rattle.enc_delta.specs.Rules.{rows_with, heaps_after}
use Rattle.enc_delta.proofs.OwnRows.{own, blob_own}
use Rattle.enc_delta.specs.Changes.{of_nth}
use Rattle.enc_base.specs.declared.token.Token.{Token}
use Rattle.enc_base.specs.declared.refusal.Place.{Place}
use Rattle.std.proofs.lemmas.Bool.Decides.{nat_tests}

-- two functions with the same values are one
same_functions : {A B : Type 0} (f g : A → B) → ((a : A) → f a ≡ g a) → f ≡ g
same_functions f g h i a = h a i

-- where the counts are those after the delta, so are the tokens that name rows
tables_low : (tag : ℕ) → table_of tag < 64
tables_low tag = grind (arith)

counted_alike : (c : Chain) (s : Source) (counts : List ℕ) → ((t : ℕ) → t < 64 → slice_index counts t ≡ rows_with c (listed s) t) → (n : ℕ) → is_counted (slice_index counts) n ≡ is_counted (rows_with c (listed s)) n
unfolding is_counted
counted_alike c s counts same n = rw (same (table_of (n % 4)) (tables_low (n % 4))) refl

pub judged_alike : (c : Chain) (s : Source) (counts : List ℕ) (table : ℕ) (blob : List ℕ) → ((t : ℕ) → t < 64 → slice_index counts t ≡ rows_with c (listed s) t) → is_signature (slice_index counts) table blob ≡ is_signature (rows_with c (listed s)) table blob
unfolding is_signature
judged_alike c s counts table blob same = rw (same_functions (is_counted (slice_index counts)) (is_counted (rows_with c (listed s))) (counted_alike c s counts same)) refl

-- a column of signatures is one of blobs
tables : (table i : ℕ) → signature_column table ≡ Some i → (table ≡ 0x04) × (i ≡ 2) ⊎ (table ≡ 0x0A) × (i ≡ 2) ⊎ (table ≡ 0x17) × (i ≡ 2) ⊎ (table ≡ 0x06) × (i ≡ 4) ⊎ (table ≡ 0x11) × (i ≡ 0) ⊎ (table ≡ 0x1B) × (i ≡ 0) ⊎ (table ≡ 0x2B) × (i ≡ 1)
unfolding signature_column
tables table i h = grind (arith, nat_tests)

at : (table i t k : ℕ) → kind_in t k ≡ Some blobs → (table ≡ t) × (i ≡ k) → kind_in table i ≡ Some blobs
at table i t k is e = rw (e.0, e.1) is

pub blob_there : (table i : ℕ) → signature_column table ≡ Some i → kind_in table i ≡ Some blobs
unfolding columns_in
blob_there table i h =
    elim (tables table i h) [
      | inl e ↦ at table i 0x04 2 refl e
      | inr w ↦ elim w [
        | inl e ↦ at table i 0x0A 2 refl e
        | inr w ↦ elim w [
          | inl e ↦ at table i 0x17 2 refl e
          | inr w ↦ elim w [
            | inl e ↦ at table i 0x06 4 refl e
            | inr w ↦ elim w [
              | inl e ↦ at table i 0x11 0 refl e
              | inr w ↦ elim w [
                | inl e ↦ at table i 0x1B 0 refl e
                | inr e ↦ at table i 0x2B 1 refl e
              ]
            ]
          ]
        ]
      ]
    ]

-- a rule on the k-th token
pub nth_is : (rule : Token → Option Place) (s : Source) (tokens : List Token) (k : ℕ) (d : Token) → tokens ≡ listed s → k < length tokens → rule (slice_index_or tokens k d) ≡ of_nth rule s k
nth_is rule s tokens k d e low =
    let there = rw e at (slice_get-get_or tokens k d low) in
    rw (there, e) refl

-- a row that the delta lists is judged by what stands at its number
pub row_judged : {E : Type 0} (j : Joined) (t : Token) (i k n : ℕ) (r : Result Bool E) → kind_in t.table i ≡ Some blobs → Some k ≡ place_in (listed j.delta) t → n ≡ raw_in j.delta (own t k) i → IfOk r (λ good. good ≡ is_joined_signature j t.table n) → IfOk r (λ good. good ≡ is_signature (rows_with j.chain (listed j.delta)) t.table (bytes_at (joined_rows j) t i))
row_judged j t i k n (Ok good) kind there is h = h ∙ ap (is_signature (rows_with j.chain (listed j.delta)) t.table) (ap (λ m. unwrap_or (joined_blob (heaps_after j.chain j.delta) m) []) is ∙ sym (blob_own j.chain j.delta t k i kind (sym there)))
row_judged j t i k n (Err e) kind there is h = tt
