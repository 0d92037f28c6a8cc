-- Signatures by numbers of rows that are equal for each table.
use Rattle.std.proofs.Common.{◌≡◌, ℕ, ◌<◌, Bool, List, refl, ap, ◌∙◌, arith}
use Rattle.std.specs.Prelude.{◌%◌, not, slice_index}
use Rattle.enc_base.specs.declared.token.Token.{Token}
use Rattle.enc_sigs.specs.Grammar.{is_counted, table_of}
use Rattle.enc_plain.specs.Rows.{Rows, bytes_at}
use Rattle.enc_plain.specs.Signatures.{is_signature}
use Rattle.enc_edit_list.specs.declared.edit.Edit.{Edit}
use Rattle.enc_rules.specs.Rules.{new_signature_breaks}

-- two functions with the same values are one
same_functions : {A B : Type 0} (f g : A → B) → ((a : A) → f a ≡ g a) → f ≡ g
same_functions f g h i a = h a i

tables_low : (tag : ℕ) → table_of tag < 64
tables_low tag = grind (arith)

counted_alike : (f g : ℕ → ℕ) → ((t : ℕ) → t < 64 → f t ≡ g t) → (n : ℕ) → is_counted f n ≡ is_counted g n
unfolding is_counted
counted_alike f g same n = rw (same (table_of (n % 4)) (tables_low (n % 4))) refl

pub signature_alike : (f g : ℕ → ℕ) (table : ℕ) (blob : List ℕ) → ((t : ℕ) → t < 64 → f t ≡ g t) → is_signature f table blob ≡ is_signature g table blob
unfolding is_signature
signature_alike f g table blob same = rw (same_functions (is_counted f) (is_counted g) (counted_alike f g same)) refl

-- the signature of an added row
pub signature_told : (counts : List ℕ) (count : ℕ → ℕ) (rows : Rows) (e : Edit) (t : Token) (i : ℕ) (r : Bool) → ((t : ℕ) → t < 64 → slice_index counts t ≡ count t) → r ≡ is_signature (slice_index counts) t.table (bytes_at rows t i) → not (is_signature count t.table (bytes_at rows t i)) ≡ new_signature_breaks count rows e t → not r ≡ new_signature_breaks count rows e t
signature_told counts count rows e t i r same is told = ap not (is ∙ signature_alike (slice_index counts) count t.table (bytes_at rows t i) same) ∙ told
