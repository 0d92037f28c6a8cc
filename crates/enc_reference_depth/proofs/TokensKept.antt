-- Tokens and signatures are alike after an edit where they were before.
use Rattle.std.proofs.Common.{◌≡◌, ℕ, Bool, true, false, List, Some, refl, subst, arith}
use Rattle.std.specs.Prelude.{◌==◌, if◌then◌else◌}
use Rattle.enc_base.specs.declared.token.Token.{Token}
use Rattle.enc_schema.specs.Schema.{columns_in}
use Rattle.enc_sigs.specs.declared.kind.SigKind.TheVariants.{TypeSpec}
use Rattle.enc_sigs.specs.Tree.{forest_of}
use Rattle.enc_plain.specs.Cell.{blobs, kind_in}
use Rattle.enc_plain.specs.Module.{Module, cells_of, has_row}
use Rattle.enc_plain.specs.Rows.{Rows, bytes_at}
use Rattle.enc_plain.specs.Signatures.{kind_in_table, signature_column}
use Rattle.enc_plain.specs.Sound.{IsSound}
use Rattle.enc_plain.specs.Alike.{refs_alike, blobs_alike, tokens_alike, signatures_alike}
use Rattle.enc_delta.specs.Changes.{may_differ, is_signature_column}
use Rattle.enc_reference_depth.specs.Kept.{KeepsRows, Lasts}
use Rattle.enc_reference_depth.proofs.Agreeing.{EachOf, each_as, each_both}
use Rattle.enc_reference_depth.proofs.References.{refs_back, refs_on}
use Rattle.enc_reference_depth.proofs.Signatures.{EachIn, SpecsAlike, TokensAre, references, specs, tokens_parts, tokens_whole, blobs_back, blobs_on, blobs_swap, blobs_carry}
use Rattle.enc_reference_depth.proofs.Ends.{Ends, row_of_some, some_of_row, tokens_end, ends_carried}
use Rattle.enc_reference_depth.proofs.Sound.{Names, nothing, row, signature_names, all_end}
use Rattle.enc_reference_depth.proofs.RowsKept.{signature_kept, rows_kept, rows_before, ends_after, refs_after, refs_before}

-- what names a row names one after
pub names_kept : (m n : Module) (t : Token) → KeepsRows m n → Names m t → Names n t
names_kept m n t keeps (nothing e) = nothing e
names_kept m n t keeps (row there) = row (keeps.there t there)

pub each_in_as : (P Q : Token → Type 0) (table : ℕ) (bytes : List ℕ) → ((t : Token) → P t → Q t) → EachIn P table bytes → EachIn Q table bytes
each_in_as P Q table bytes f h = record { each = λ s e. each_as P Q (forest_of s.parts) f (h.each s e) }

-- the tokens in a sound row's signature
pub row_names : (m : Module) (t : Token) (i : ℕ) → IsSound m → has_row m t ≡ true → signature_column t.table ≡ Some i
    → EachIn (Names m) t.table (bytes_at (cells_of m) t i)
row_names m t i sound there e = signature_names m t.table (bytes_at (cells_of m) t i) (sound.signatures.each t i there e)

pub spec_column : (t : ℕ) → t ≡ 0x1B
    → (signature_column t ≡ Some 0) × (kind_in t 0 ≡ Some blobs) × (may_differ t 0 ≡ false) × (is_signature_column t 0 ≡ true)
unfolding signature_column columns_in
spec_column t e = rw e (refl, refl, refl, refl)

pub spec_names : (m : Module) (t : Token) → IsSound m → has_row m t ≡ true → t.table ≡ 0x1B → EachIn (Names m) 0x1B (bytes_at (cells_of m) t 0)
spec_names m t sound there e = subst (λ k. EachIn (Names m) k (bytes_at (cells_of m) t 0)) e (row_names m t 0 sound there (spec_column t.table e).0)

inner_of : (rows : Rows) (a b : List ℕ) → signatures_alike rows 0x1B a b ≡ true → blobs_alike (refs_alike rows 99) 0x1B a b ≡ true
unfolding signatures_alike
inner_of rows a b h = h

of_inner : (rows : Rows) (a b : List ℕ) → blobs_alike (refs_alike rows 99) 0x1B a b ≡ true → signatures_alike rows 0x1B a b ≡ true
unfolding signatures_alike
of_inner rows a b h = h

table_of : (rows : Rows) (table : ℕ) (a b : List ℕ) → (table == 0x1B) ≡ false → signatures_alike rows table a b ≡ true
    → blobs_alike (tokens_alike rows) table a b ≡ true
unfolding signatures_alike
table_of rows table a b other h = by_table (table == 0x1B) other h
  where
    by_table : (c : Bool) → c ≡ false → blobs_alike (if c then refs_alike rows 99 else tokens_alike rows) table a b ≡ true
        → blobs_alike (tokens_alike rows) table a b ≡ true
    by_table true e k = absurd cc
    by_table false e k = k

of_table : (rows : Rows) (table : ℕ) (a b : List ℕ) → (table == 0x1B) ≡ false → blobs_alike (tokens_alike rows) table a b ≡ true
    → signatures_alike rows table a b ≡ true
unfolding signatures_alike
of_table rows table a b other h = by_table (table == 0x1B) other h
  where
    by_table : (c : Bool) → c ≡ false → blobs_alike (tokens_alike rows) table a b ≡ true
        → blobs_alike (if c then refs_alike rows 99 else tokens_alike rows) table a b ≡ true
    by_table true e k = absurd cc
    by_table false e k = k

-- the signature of a TypeSpec is alike the one that it had
spec_kept : (m n : Module) (t : Token) → KeepsRows m n → has_row m t ≡ true → t.table ≡ 0x1B
    → blobs_alike (refs_alike (cells_of n) 99) 0x1B (bytes_at (cells_of m) t 0) (bytes_at (cells_of n) t 0) ≡ true
spec_kept m n t keeps there e =
    let c = spec_column t.table e in
    inner_of (cells_of n) (bytes_at (cells_of m) t 0) (bytes_at (cells_of n) t 0)
    (subst (λ k. signatures_alike (cells_of n) k (bytes_at (cells_of m) t 0) (bytes_at (cells_of n) t 0) ≡ true) e
    (signature_kept m n t 0 keeps there c.2 c.1 c.3))

spec_kind : (P : Token → Type 0) (bytes : List ℕ) → EachOf P TypeSpec bytes → EachIn P 0x1B bytes
unfolding kind_in_table
spec_kind P bytes h = h

-- and walks from its tokens end after
spec_ends : (m n : Module) (t : Token) → Lasts m n → has_row m t ≡ true → t.table ≡ 0x1B → EachIn (Ends (cells_of n) 99) 0x1B (bytes_at (cells_of m) t 0)
spec_ends m n t lasts there e =
    let after = lasts.keeps.there t there in
    blobs_carry (Names m) (Ends (cells_of n) 99) (refs_alike (cells_of n) 99) 0x1B (bytes_at (cells_of m) t 0) (bytes_at (cells_of n) t 0)
    (λ x y h p q. ends_carried n 99 99 x y (omega arith) h q) (spec_kept m n t lasts.keeps there e) (spec_names m t lasts.before there e)
    (spec_kind (Ends (cells_of n) 99) (bytes_at (cells_of n) t 0) (tokens_end n 99 t e (some_of_row n t after) (all_end n t lasts.shallow (row after))))

-- what names a row, and from where a walk ends
record NamesEnding (m n : Module) (t : Token) : Type 0 where
  names : Names m t
  ends : Ends (cells_of n) 99 t

both_in : (m n : Module) (table : ℕ) (bytes : List ℕ) → EachIn (Names m) table bytes → EachIn (Ends (cells_of n) 99) table bytes
    → EachIn (NamesEnding m n) table bytes
both_in m n table bytes p q = record {
  each = λ s e. each_both (Names m) (Ends (cells_of n) 99) (NamesEnding m n) (forest_of s.parts)
      (λ t a b. record { names = a; ends = b }) (p.each s e) (q.each s e);
}

module _ (m n : Module) (lasts : Lasts m n) where
  ending_of : (t : Token) → Names m t → Ends (cells_of n) 100 t
  ending_of t names = all_end n t lasts.shallow (names_kept m n t lasts.keeps names)

  spec_after : (x y : Token) → SpecsAlike (cells_of m) x y → SpecsAlike (cells_of n) x y
  spec_after x y h =
      let a = row_of_some m x h.both.here in
      let b = row_of_some m y h.both.too in
      let s = h.both.first in
      let t = h.both.second in
      let on = refs_on (cells_of n) 99 in
      let mid = blobs_swap (Ends (cells_of n) 99) (refs_alike (cells_of m) 99) (refs_alike (cells_of n) 99) 0x1B (bytes_at (cells_of m) x 0)
      (bytes_at (cells_of m) y 0) (λ u v p q k. refs_after m n lasts.before lasts.keeps 99 u v (omega arith) p q k)
      (spec_ends m n x lasts a s) (spec_ends m n y lasts b t) h.signature in
      let first = blobs_back (refs_alike (cells_of n) 99) 0x1B (bytes_at (cells_of m) x 0) (bytes_at (cells_of n) x 0) (refs_back (cells_of n) 99)
      (spec_kept m n x lasts.keeps a s) in
      record {
        both = rows_kept m n 0x1B x y lasts.keeps h.both;
        signature = blobs_on (refs_alike (cells_of n) 99) 0x1B (bytes_at (cells_of n) x 0) (bytes_at (cells_of m) x 0) (bytes_at (cells_of n) y 0) on first
            (blobs_on (refs_alike (cells_of n) 99) 0x1B (bytes_at (cells_of m) x 0) (bytes_at (cells_of m) y 0) (bytes_at (cells_of n) y 0) on mid
            (spec_kept m n y lasts.keeps b t));
      }

  spec_before : (x y : Token) → Names m x → Names m y → SpecsAlike (cells_of n) x y → SpecsAlike (cells_of m) x y
  spec_before x y v w h =
      let both = rows_before m n 0x1B x y v w refl h.both in
      let a = row_of_some m x both.here in
      let b = row_of_some m y both.too in
      let s = h.both.first in
      let t = h.both.second in
      let on = refs_on (cells_of n) 99 in
      let last = blobs_back (refs_alike (cells_of n) 99) 0x1B (bytes_at (cells_of m) y 0) (bytes_at (cells_of n) y 0) (refs_back (cells_of n) 99)
      (spec_kept m n y lasts.keeps b t) in
      let mid = blobs_on (refs_alike (cells_of n) 99) 0x1B (bytes_at (cells_of m) x 0) (bytes_at (cells_of n) x 0) (bytes_at (cells_of m) y 0) on
      (spec_kept m n x lasts.keeps a s)
      (blobs_on (refs_alike (cells_of n) 99) 0x1B (bytes_at (cells_of n) x 0) (bytes_at (cells_of n) y 0) (bytes_at (cells_of m) y 0) on h.signature last) in
      record {
        both = both;
        signature = blobs_swap (NamesEnding m n) (refs_alike (cells_of n) 99) (refs_alike (cells_of m) 99) 0x1B (bytes_at (cells_of m) x 0)
            (bytes_at (cells_of m) y 0)
            (λ u v p q k. refs_before m n lasts.before lasts.keeps 99 u v (omega arith) p.names q.names p.ends q.ends k)
            (both_in m n 0x1B (bytes_at (cells_of m) x 0) (spec_names m x lasts.before a s) (spec_ends m n x lasts a s))
            (both_in m n 0x1B (bytes_at (cells_of m) y 0) (spec_names m y lasts.before b t) (spec_ends m n y lasts b t)) mid;
      }

  are_after : (x y : Token) → Names m x → Names m y → TokensAre (cells_of m) x y → TokensAre (cells_of n) x y
  are_after x y v w (references h) = references (refs_after m n lasts.before lasts.keeps 100 x y (omega arith) (ending_of x v) (ending_of y w) h)
  are_after x y v w (specs h) = specs (spec_after x y h)

  are_before : (x y : Token) → Names m x → Names m y → TokensAre (cells_of n) x y → TokensAre (cells_of m) x y
  are_before x y v w (references h) =
      references (refs_before m n lasts.before lasts.keeps 100 x y (omega arith) v w (ending_of x v) (ending_of y w) h)
  are_before x y v w (specs h) = specs (spec_before x y v w h)

  -- tokens that name rows are alike after where they were before
  pub tokens_after : (x y : Token) → Names m x → Names m y → tokens_alike (cells_of m) x y ≡ true → tokens_alike (cells_of n) x y ≡ true
  tokens_after x y v w h = tokens_whole (cells_of n) x y (are_after x y v w (tokens_parts (cells_of m) x y h))

  pub tokens_before : (x y : Token) → Names m x → Names m y → tokens_alike (cells_of n) x y ≡ true → tokens_alike (cells_of m) x y ≡ true
  tokens_before x y v w h = tokens_whole (cells_of m) x y (are_before x y v w (tokens_parts (cells_of n) x y h))

  -- and so are signatures but those of TypeSpecs
  pub signatures_after : (table : ℕ) (a b : List ℕ) → (table == 0x1B) ≡ false → EachIn (Names m) table a → EachIn (Names m) table b
      → signatures_alike (cells_of m) table a b ≡ true → signatures_alike (cells_of n) table a b ≡ true
  signatures_after table a b other p q h =
      of_table (cells_of n) table a b other
      (blobs_swap (Names m) (tokens_alike (cells_of m)) (tokens_alike (cells_of n)) table a b (λ u v. tokens_after u v) p q (table_of (cells_of m) table a b other h))

  pub signatures_before : (table : ℕ) (a b : List ℕ) → (table == 0x1B) ≡ false → EachIn (Names m) table a → EachIn (Names m) table b
      → signatures_alike (cells_of n) table a b ≡ true → signatures_alike (cells_of m) table a b ≡ true
  signatures_before table a b other p q h =
      of_table (cells_of m) table a b other
      (blobs_swap (Names m) (tokens_alike (cells_of n)) (tokens_alike (cells_of m)) table a b (λ u v. tokens_before u v) p q (table_of (cells_of n) table a b other h))

  -- the signature of a TypeSpec that was alike that of a row is alike it after
  pub spec_signature_after : (t : Token) (a : List ℕ) → has_row m t ≡ true → t.table ≡ 0x1B → EachIn (Names m) 0x1B a
      → signatures_alike (cells_of m) 0x1B a (bytes_at (cells_of m) t 0) ≡ true → signatures_alike (cells_of n) 0x1B a (bytes_at (cells_of m) t 0) ≡ true
  spec_signature_after t a there e names h =
      let k = inner_of (cells_of m) a (bytes_at (cells_of m) t 0) h in
      let ends = spec_ends m n t lasts there e in
      let begins = blobs_carry (Names m) (Ends (cells_of n) 99) (refs_alike (cells_of m) 99) 0x1B a (bytes_at (cells_of m) t 0)
      (λ x y g p q. ends_after m n lasts.before lasts.keeps 99 99 x y (omega arith) (omega arith) g q) k names ends in
      of_inner (cells_of n) a (bytes_at (cells_of m) t 0)
      (blobs_swap (Ends (cells_of n) 99) (refs_alike (cells_of m) 99) (refs_alike (cells_of n) 99) 0x1B a (bytes_at (cells_of m) t 0)
      (λ u v p q g. refs_after m n lasts.before lasts.keeps 99 u v (omega arith) p q g) begins ends k)
