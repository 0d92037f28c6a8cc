-- Rows that two edits keep, one after the other, are kept by both.
use Rattle.std.proofs.Common.{◌≡◌, ℕ, Bool, true, false, List, Option, Some, None, refl, sym, ap, subst, ◌∙◌, arith}
use Rattle.std.specs.Prelude.{◌==◌, option_and_then, unwrap_or, bytes_eq, if◌then◌else◌}
use Rattle.std.proofs.lemmas.Bool.{eqb-true, eq-eqb}
use Rattle.std.proofs.lemmas.Option.{slice_get_past}
use Rattle.std.proofs.lemmas.Slice.Eq.{bytes_eq-Decides}
use Rattle.enc_base.specs.declared.token.Token.{Token}
use Rattle.enc_schema.specs.Schema.{columns_in, column_in}
use Rattle.enc_schema.specs.declared.column.Column.{Column}
use Rattle.enc_schema.proofs.TableNames.{columns_few}
use Rattle.enc_plain.specs.Cell.{Kind, numbers, texts, blobs, guids, references, bodies, fields, kind_of, kind_in, is_body, is_field}
use Rattle.enc_plain.specs.Module.{Module, cells_of, has_row}
use Rattle.enc_plain.specs.Rows.{number_at, bytes_at, token_at}
use Rattle.enc_plain.specs.Signatures.{signature_column}
use Rattle.enc_plain.specs.Sound.{IsSound}
use Rattle.enc_plain.specs.Alike.{signatures_alike, tokens_alike}
use Rattle.enc_delta.specs.Changes.{is_signature_column, cell_is_kept}
use Rattle.enc_reference_depth.specs.Kept.{KeepsRows, Lasts, KeptTwice}
use Rattle.enc_reference_depth.proofs.Signatures.{EachIn, tokens_on, signatures_on}
use Rattle.enc_reference_depth.proofs.Sound.{Names, reference_names}
use Rattle.enc_reference_depth.proofs.TokensKept.{names_kept, each_in_as, row_names, tokens_after, signatures_after, spec_signature_after}

numbers_on : (a b c : ℕ) → (a == b) ≡ true → (b == c) ≡ true → (a == c) ≡ true
numbers_on a b c h k = eq-eqb a c (eqb-true a b h ∙ eqb-true b c k)

bytes_on : (a b c : List ℕ) → bytes_eq a b ≡ true → bytes_eq b c ≡ true → bytes_eq a c ≡ true
bytes_on a b c h k = (bytes_eq-Decides a c).1 ((bytes_eq-Decides a b).0 h ∙ (bytes_eq-Decides b c).0 k)

-- no column is so far that a table without signatures would have them there
far_kind : (b f : Bool) (o : Option Column) → o ≡ None → (if b then Some bodies else if f then Some fields else option_and_then kind_of o) ≡ Some blobs → ⊥
far_kind true f o e h = absurd cc
far_kind false true o e h = absurd cc
far_kind false false None e h = absurd cc
far_kind false false (Some c) e h = absurd cc

no_far : (t i : ℕ) → 0xFF ≡ i → kind_in t i ≡ Some blobs → ⊥
no_far t i far h =
    let few = columns_few t in
    far_kind (is_body t i) (is_field t i) (column_in t i) (slice_get_past (columns_in t) i (omega (arith, few, far))) h

column_by : (t i : ℕ) (o : Option ℕ) → signature_column t ≡ o → kind_in t i ≡ Some blobs → (unwrap_or o 0xFF == i) ≡ true → signature_column t ≡ Some i
column_by t i None e kind h = absurd (no_far t i (eqb-true 0xFF i h) kind)
column_by t i (Some k) e kind h = e ∙ ap (λ (n : ℕ). Some n) (eqb-true k i h)

column_is : (t i : ℕ) → kind_in t i ≡ Some blobs → is_signature_column t i ≡ true → signature_column t ≡ Some i
column_is t i kind h = column_by t i (signature_column t) refl kind h

module _ (l m n : Module) (sound : IsSound l) (first : KeepsRows l m) (lasts : Lasts m n) where
  -- signatures
  before : (t : Token) (i : ℕ) → has_row l t ≡ true → signature_column t.table ≡ Some i → EachIn (Names m) t.table (bytes_at (cells_of l) t i)
  before t i there e =
      each_in_as (Names l) (Names m) t.table (bytes_at (cells_of l) t i) (λ u h. names_kept l m u first h) (row_names l t i sound there e)

  spec_column : (t i : ℕ) → t ≡ 0x1B → signature_column t ≡ Some i → i ≡ 0
  unfolding signature_column
  spec_column t i e h = let f = rw e at h in cc

  by_spec : (t : Token) (i : ℕ) (b : Bool) → (t.table == 0x1B) ≡ b → has_row l t ≡ true → signature_column t.table ≡ Some i
      → signatures_alike (cells_of m) t.table (bytes_at (cells_of l) t i) (bytes_at (cells_of m) t i) ≡ true
      → signatures_alike (cells_of n) t.table (bytes_at (cells_of l) t i) (bytes_at (cells_of m) t i) ≡ true
  by_spec t i true e there column h =
      let is = eqb-true t.table 0x1B e in
      let zero_is = spec_column t.table i is column in
      let names = subst (λ k. EachIn (Names m) k (bytes_at (cells_of l) t i)) is (before t i there column) in
      subst (λ k. signatures_alike (cells_of n) k (bytes_at (cells_of l) t i) (bytes_at (cells_of m) t i) ≡ true) (sym is)
      (subst (λ j. signatures_alike (cells_of n) 0x1B (bytes_at (cells_of l) t i) (bytes_at (cells_of m) t j) ≡ true) (sym zero_is)
      (spec_signature_after m n lasts t (bytes_at (cells_of l) t i) (first.there t there) is names
      (subst (λ j. signatures_alike (cells_of m) 0x1B (bytes_at (cells_of l) t i) (bytes_at (cells_of m) t j) ≡ true) zero_is
      (subst (λ k. signatures_alike (cells_of m) k (bytes_at (cells_of l) t i) (bytes_at (cells_of m) t i) ≡ true) is h))))
  by_spec t i false e there column h =
      signatures_after m n lasts t.table (bytes_at (cells_of l) t i) (bytes_at (cells_of m) t i) e (before t i there column)
      (row_names m t i lasts.before (first.there t there) column) h

  signatures_twice : (t : Token) (i : ℕ) → has_row l t ≡ true → signature_column t.table ≡ Some i
      → signatures_alike (cells_of m) t.table (bytes_at (cells_of l) t i) (bytes_at (cells_of m) t i) ≡ true
      → signatures_alike (cells_of n) t.table (bytes_at (cells_of m) t i) (bytes_at (cells_of n) t i) ≡ true
      → signatures_alike (cells_of n) t.table (bytes_at (cells_of l) t i) (bytes_at (cells_of n) t i) ≡ true
  signatures_twice t i there column h k =
      signatures_on (cells_of n) t.table (bytes_at (cells_of l) t i) (bytes_at (cells_of m) t i) (bytes_at (cells_of n) t i)
      (by_spec t i (t.table == 0x1B) refl there column h) k

  blobs_twice : (t : Token) (i : ℕ) (b : Bool) → is_signature_column t.table i ≡ b → kind_in t.table i ≡ Some blobs → has_row l t ≡ true
      → (if b then signatures_alike (cells_of m) t.table (bytes_at (cells_of l) t i) (bytes_at (cells_of m) t i)
      else bytes_eq (bytes_at (cells_of l) t i) (bytes_at (cells_of m) t i)) ≡ true
      → (if b then signatures_alike (cells_of n) t.table (bytes_at (cells_of m) t i) (bytes_at (cells_of n) t i)
      else bytes_eq (bytes_at (cells_of m) t i) (bytes_at (cells_of n) t i)) ≡ true
      → (if b then signatures_alike (cells_of n) t.table (bytes_at (cells_of l) t i) (bytes_at (cells_of n) t i)
      else bytes_eq (bytes_at (cells_of l) t i) (bytes_at (cells_of n) t i)) ≡ true
  blobs_twice t i true e kind there h k = signatures_twice t i there (column_is t.table i kind e) h k
  blobs_twice t i false e kind there h k = bytes_on (bytes_at (cells_of l) t i) (bytes_at (cells_of m) t i) (bytes_at (cells_of n) t i) h k

  -- references
  references_twice : (t : Token) (i : ℕ) → kind_in t.table i ≡ Some references → has_row l t ≡ true
      → tokens_alike (cells_of m) (token_at (cells_of l) t i) (token_at (cells_of m) t i) ≡ true
      → tokens_alike (cells_of n) (token_at (cells_of m) t i) (token_at (cells_of n) t i) ≡ true
      → tokens_alike (cells_of n) (token_at (cells_of l) t i) (token_at (cells_of n) t i) ≡ true
  references_twice t i kind there h k =
      tokens_on (cells_of n) (token_at (cells_of l) t i) (token_at (cells_of m) t i) (token_at (cells_of n) t i)
      (tokens_after m n lasts (token_at (cells_of l) t i) (token_at (cells_of m) t i)
      (names_kept l m (token_at (cells_of l) t i) first (reference_names l t i sound there kind))
      (reference_names m t i lasts.before (first.there t there) kind) h) k

  -- a cell of each kind
  by_kind : (t : Token) (i : ℕ) (k : Option Kind) → kind_in t.table i ≡ k → has_row l t ≡ true
      → cell_is_kept (cells_of l) (cells_of m) t i k ≡ true → cell_is_kept (cells_of m) (cells_of n) t i k ≡ true
      → cell_is_kept (cells_of l) (cells_of n) t i k ≡ true
  by_kind t i (Some numbers) e there a b = numbers_on (number_at (cells_of l) t i) (number_at (cells_of m) t i) (number_at (cells_of n) t i) a b
  by_kind t i (Some texts) e there a b = bytes_on (bytes_at (cells_of l) t i) (bytes_at (cells_of m) t i) (bytes_at (cells_of n) t i) a b
  by_kind t i (Some blobs) e there a b = blobs_twice t i (is_signature_column t.table i) refl e there a b
  by_kind t i (Some references) e there a b = references_twice t i e there a b
  by_kind t i (Some guids) e there a b = refl
  by_kind t i (Some bodies) e there a b = refl
  by_kind t i (Some fields) e there a b = refl
  by_kind t i None e there a b = refl

  pub twice : KeepsRows l n
  twice = record {
    there = λ t h. lasts.keeps.there t (first.there t h);
    each = λ t i there may. by_kind t i (kind_in t.table i) refl there (first.each t i there may) (lasts.keeps.each t i (first.there t there) may);
  }

pub kept_twice : KeptTwice
kept_twice l m n sound first lasts = twice l m n sound first lasts
