-- Alike signatures and tokens: likeness goes back and on.
use Rattle.std.proofs.Common.{◌≡◌, ℕ, suc, Bool, true, false, List, refl, sym, subst, inl, inr}
use Rattle.std.specs.Prelude.{◌==◌, bytes_eq, if◌then◌else◌}
use Rattle.std.proofs.lemmas.Bool.{or_cases, or_left, or_right, and_parts, and_from}
use Rattle.std.proofs.lemmas.Slice.Eq.{bytes_eq-Decides}
use Rattle.enc_base.specs.declared.token.Token.{Token}
use Rattle.enc_sigs.specs.Agree.{sigs_agree}
use Rattle.enc_plain.specs.Rows.{Rows, bytes_at}
use Rattle.enc_plain.specs.Signatures.{kind_in_table}
use Rattle.enc_plain.specs.Alike.{are_rows, refs_alike, blobs_alike, type_specs_alike, tokens_alike, alike_in_table, signatures_alike}
use Rattle.enc_reference_depth.proofs.Agreeing.{GoesBack, GoesOn, Swaps, Carries, Agree, EachOf, agree_parts, agree_whole, agree_back, agree_on, agree_swap, agree_carry}
use Rattle.enc_reference_depth.proofs.OneKind.{kind_kept}
use Rattle.enc_reference_depth.proofs.References.{BothRows, rows_parts, rows_whole, rows_back, rows_on, RefsAre, same, types, assemblies, modules, refs_parts, refs_equal, refs_back, refs_on, apart}

-- what makes two blobs alike
pub data BlobsAre (alike : Token → Token → Bool) (table : ℕ) (a b : List ℕ) : Type 0 where
  equal : a ≡ b → BlobsAre alike table a b
  agree : Agree alike (kind_in_table table a) a b → BlobsAre alike table a b

pub blobs_parts : (alike : Token → Token → Bool) (table : ℕ) (a b : List ℕ) → blobs_alike alike table a b ≡ true → BlobsAre alike table a b
blobs_parts alike table a b h =
    elim (or_cases (bytes_eq a b) (sigs_agree alike (kind_in_table table a) a b) h) [
      | inl is ↦ equal ((bytes_eq-Decides a b).0 is)
      | inr is ↦ agree (agree_parts alike (kind_in_table table a) a b is)
    ]

pub blobs_whole : (alike : Token → Token → Bool) (table : ℕ) (a b : List ℕ) → BlobsAre alike table a b → blobs_alike alike table a b ≡ true
blobs_whole alike table a b (equal e) = or_left (bytes_eq a b) (sigs_agree alike (kind_in_table table a) a b) ((bytes_eq-Decides a b).1 e)
blobs_whole alike table a b (agree w) =
    or_right (bytes_eq a b) (sigs_agree alike (kind_in_table table a) a b) (agree_whole alike (kind_in_table table a) a b w)

agree_kind : (alike : Token → Token → Bool) (table : ℕ) (a b : List ℕ) → Agree alike (kind_in_table table a) a b
    → kind_in_table table b ≡ kind_in_table table a
agree_kind alike table a b w = kind_kept table a b w.second w.too

are_back : (alike : Token → Token → Bool) (table : ℕ) (a b : List ℕ) → GoesBack alike → BlobsAre alike table a b → BlobsAre alike table b a
are_back alike table a b back (equal e) = equal (sym e)
are_back alike table a b back (agree w) =
    agree (subst (λ k. Agree alike k b a) (sym (agree_kind alike table a b w)) (agree_back alike (kind_in_table table a) a b back w))

pub blobs_back : (alike : Token → Token → Bool) (table : ℕ) (a b : List ℕ) → GoesBack alike → blobs_alike alike table a b ≡ true
    → blobs_alike alike table b a ≡ true
blobs_back alike table a b back h = blobs_whole alike table b a (are_back alike table a b back (blobs_parts alike table a b h))

are_on : (alike : Token → Token → Bool) (table : ℕ) (a b c : List ℕ) → GoesOn alike → BlobsAre alike table a b → BlobsAre alike table b c
    → BlobsAre alike table a c
are_on alike table a b c on (equal e) k = rw e k
are_on alike table a b c on (agree w) (equal e) = rw (← e) (agree w)
are_on alike table a b c on (agree w) (agree v) =
    let k = subst (λ k. Agree alike k b c) (agree_kind alike table a b w) v in
    agree (agree_on alike (kind_in_table table a) a b c on w k)

pub blobs_on : (alike : Token → Token → Bool) (table : ℕ) (a b c : List ℕ) → GoesOn alike → blobs_alike alike table a b ≡ true
    → blobs_alike alike table b c ≡ true → blobs_alike alike table a c ≡ true
blobs_on alike table a b c on h k = blobs_whole alike table a c (are_on alike table a b c on (blobs_parts alike table a b h) (blobs_parts alike table b c k))

-- each token of a table's signature is as told
abbrev pub EachIn : (Token → Type 0) → ℕ → List ℕ → Type 0
EachIn P table blob = EachOf P (kind_in_table table blob) blob

are_swap : (P : Token → Type 0) (alike other : Token → Token → Bool) (table : ℕ) (a b : List ℕ) → Swaps P alike other → EachIn P table a → EachIn P table b
    → BlobsAre alike table a b → BlobsAre other table a b
are_swap P alike other table a b swaps p q (equal e) = equal e
are_swap P alike other table a b swaps p q (agree w) =
    let r = subst (λ k. EachOf P k b) (agree_kind alike table a b w) q in
    agree (agree_swap P alike other (kind_in_table table a) a b swaps p r w)

pub blobs_swap : (P : Token → Type 0) (alike other : Token → Token → Bool) (table : ℕ) (a b : List ℕ) → Swaps P alike other → EachIn P table a
    → EachIn P table b → blobs_alike alike table a b ≡ true → blobs_alike other table a b ≡ true
blobs_swap P alike other table a b swaps p q h = blobs_whole other table a b (are_swap P alike other table a b swaps p q (blobs_parts alike table a b h))

are_carry : (P Q : Token → Type 0) (alike : Token → Token → Bool) (table : ℕ) (a b : List ℕ) → Carries P Q alike → BlobsAre alike table a b
    → EachIn P table a → EachIn Q table b → EachIn Q table a
are_carry P Q alike table a b carries (equal e) p q = rw e q
are_carry P Q alike table a b carries (agree w) p q =
    agree_carry P Q alike (kind_in_table table a) a b carries w p (subst (λ k. EachOf Q k b) (agree_kind alike table a b w) q)

pub blobs_carry : (P Q : Token → Type 0) (alike : Token → Token → Bool) (table : ℕ) (a b : List ℕ) → Carries P Q alike → blobs_alike alike table a b ≡ true
    → EachIn P table a → EachIn Q table b → EachIn Q table a
blobs_carry P Q alike table a b carries h p q = are_carry P Q alike table a b carries (blobs_parts alike table a b h) p q

-- TypeSpecs with alike signatures
pub record SpecsAlike (rows : Rows) (a b : Token) : Type 0 where
  pub both : BothRows rows 0x1B a b
  pub signature : blobs_alike (refs_alike rows 99) 0x1B (bytes_at rows a 0) (bytes_at rows b 0) ≡ true

-- what makes two tokens alike
pub data TokensAre (rows : Rows) (a b : Token) : Type 0 where
  references : refs_alike rows 100 a b ≡ true → TokensAre rows a b
  specs : SpecsAlike rows a b → TokensAre rows a b

specs_parts : (rows : Rows) (a b : Token) → type_specs_alike rows a b ≡ true → SpecsAlike rows a b
unfolding type_specs_alike
specs_parts rows a b h =
    let f = and_parts (are_rows rows 0x1B a b) (blobs_alike (refs_alike rows 99) 0x1B (bytes_at rows a 0) (bytes_at rows b 0)) h in
    record { both = rows_parts rows 0x1B a b f.0; signature = f.1 }

specs_whole : (rows : Rows) (a b : Token) → SpecsAlike rows a b → type_specs_alike rows a b ≡ true
unfolding type_specs_alike
specs_whole rows a b h =
    and_from (are_rows rows 0x1B a b) (blobs_alike (refs_alike rows 99) 0x1B (bytes_at rows a 0) (bytes_at rows b 0)) (rows_whole rows 0x1B a b h.both) h.signature

pub tokens_parts : (rows : Rows) (a b : Token) → tokens_alike rows a b ≡ true → TokensAre rows a b
unfolding tokens_alike
tokens_parts rows a b h =
    elim (or_cases (refs_alike rows 100 a b) (type_specs_alike rows a b) h) [
      | inl is ↦ references is
      | inr is ↦ specs (specs_parts rows a b is)
    ]

pub tokens_whole : (rows : Rows) (a b : Token) → TokensAre rows a b → tokens_alike rows a b ≡ true
unfolding tokens_alike
tokens_whole rows a b (references h) = or_left (refs_alike rows 100 a b) (type_specs_alike rows a b) h
tokens_whole rows a b (specs h) = or_right (refs_alike rows 100 a b) (type_specs_alike rows a b) (specs_whole rows a b h)

-- a TypeSpec is alike itself alone among references
case_alone : (rows : Rows) (scopes : Token → Token → Bool) (a b : Token) → a.table ≡ 0x1B → RefsAre rows scopes a b → a ≡ b
case_alone rows scopes a b t (same e) = e
case_alone rows scopes a b t (types h) = apart a.table 0x1B 0x01 t h.both.first refl
case_alone rows scopes a b t (assemblies h) = apart a.table 0x1B 0x23 t h.both.first refl
case_alone rows scopes a b t (modules h) = apart a.table 0x1B 0x1A t h.both.first refl

pub spec_alone : (rows : Rows) (d : ℕ) (a b : Token) → a.table ≡ 0x1B → refs_alike rows (suc d) a b ≡ true → a ≡ b
spec_alone rows d a b t h = case_alone rows (refs_alike rows d) a b t (refs_parts rows d a b h)

pub alone_spec : (rows : Rows) (d : ℕ) (a b : Token) → b.table ≡ 0x1B → refs_alike rows (suc d) a b ≡ true → a ≡ b
alone_spec rows d a b t h = sym (spec_alone rows d b a t (refs_back rows (suc d) a b h))

pub tokens_equal : (rows : Rows) (a b : Token) → a ≡ b → tokens_alike rows a b ≡ true
tokens_equal rows a b e = tokens_whole rows a b (references (refs_equal rows 100 a b e))

tokens_are_back : (rows : Rows) (a b : Token) → TokensAre rows a b → TokensAre rows b a
tokens_are_back rows a b (references h) = references (refs_back rows 100 a b h)
tokens_are_back rows a b (specs h) = specs (record {
  both = rows_back rows 0x1B a b h.both;
  signature = blobs_back (refs_alike rows 99) 0x1B (bytes_at rows a 0) (bytes_at rows b 0) (refs_back rows 99) h.signature;
})

pub tokens_back : (rows : Rows) → GoesBack (tokens_alike rows)
tokens_back rows a b h = tokens_whole rows b a (tokens_are_back rows a b (tokens_parts rows a b h))

tokens_are_on : (rows : Rows) (a b c : Token) → TokensAre rows a b → TokensAre rows b c → TokensAre rows a c
tokens_are_on rows a b c (references h) (references k) = references (refs_on rows 100 a b c h k)
tokens_are_on rows a b c (references h) (specs k) = rw (alone_spec rows 99 a b k.both.first h) (specs k)
tokens_are_on rows a b c (specs h) (references k) = rw (← spec_alone rows 99 b c h.both.second k) (specs h)
tokens_are_on rows a b c (specs h) (specs k) = specs (record {
  both = rows_on rows 0x1B a b c h.both k.both;
  signature = blobs_on (refs_alike rows 99) 0x1B (bytes_at rows a 0) (bytes_at rows b 0) (bytes_at rows c 0) (refs_on rows 99) h.signature k.signature;
})

pub tokens_on : (rows : Rows) → GoesOn (tokens_alike rows)
tokens_on rows a b c h k = tokens_whole rows a c (tokens_are_on rows a b c (tokens_parts rows a b h) (tokens_parts rows b c k))

-- what is alike in a table's signatures goes back and on
in_table_back : (rows : Rows) (b : Bool) → GoesBack (if b then refs_alike rows 99 else tokens_alike rows)
in_table_back rows true = refs_back rows 99
in_table_back rows false = tokens_back rows

in_table_on : (rows : Rows) (b : Bool) → GoesOn (if b then refs_alike rows 99 else tokens_alike rows)
in_table_on rows true = refs_on rows 99
in_table_on rows false = tokens_on rows

pub signatures_back : (rows : Rows) (table : ℕ) (a b : List ℕ) → signatures_alike rows table a b ≡ true → signatures_alike rows table b a ≡ true
unfolding signatures_alike
signatures_back rows table a b h = blobs_back (alike_in_table rows table) table a b (in_table_back rows (table == 0x1B)) h

pub signatures_on : (rows : Rows) (table : ℕ) (a b c : List ℕ) → signatures_alike rows table a b ≡ true → signatures_alike rows table b c ≡ true
    → signatures_alike rows table a c ≡ true
unfolding signatures_alike
signatures_on rows table a b c h k = blobs_on (alike_in_table rows table) table a b c (in_table_on rows (table == 0x1B)) h k
