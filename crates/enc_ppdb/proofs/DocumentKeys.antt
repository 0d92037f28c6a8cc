-- Documents by the numbers of their values: the same exactly where these are, and they stay when heaps grow.
use Rattle.std.proofs.Common.{◌≡◌, ℕ, ◌<◌, Bool, true, false, ◌&&◌, List, [], ◌∷◌, length, map, refl, sym, ap, ◌∙◌, arith}
use Rattle.std.specs.Prelude.{bytes_eq, position}
use Rattle.std.specs.List.{list_all}
use Rattle.std.proofs.lemmas.Bool.{and_parts}
use Rattle.std.proofs.lemmas.List.{length-append}
use Rattle.enc_base.specs.Numbers.{spelled}
use Rattle.enc_meta.specs.Built.{Built, is_kept, is_guid_kept, blob_bytes, blob_offset, guid_number}
use Rattle.enc_meta.proofs.Reading.{spelled_some}
use Rattle.enc_meta.proofs.Standing.{same_bytes}
use Rattle.enc_meta.proofs.Staying.{offset_tells, number_tells}
use Rattle.enc_plain.proofs.Owned.{position_cons}
use Rattle.enc_plain.specs.Debug.{Document}
use Rattle.enc_ppdb.specs.Written.{is_same}
use Rattle.enc_ppdb.specs.Holding.{document_key, keeps_values, name_blob, document_cells, keeps_document, Grown}
use Rattle.enc_ppdb.proofs.HeapsGrown.{eq_self}

-- two tests that are true together
both_ways : (a b : Bool) → (a ≡ true → b ≡ true) → (b ≡ true → a ≡ true) → a ≡ b
both_ways true b to from = sym (to refl)
both_ways false true to from = from refl
both_ways false false to from = refl

-- what is kept of a document, part by part
pub record Keeps (h : Built) (d : Document) : Type 0 where
  pub name : is_kept h.blobs d.name ≡ true
  pub algorithm : is_guid_kept h.guids d.algorithm ≡ true
  pub hash : is_kept h.blobs d.hash ≡ true
  pub language : is_guid_kept h.guids d.language ≡ true

pub parts_kept : (h : Built) (d : Document) → keeps_values h d ≡ true → Keeps h d
unfolding keeps_values
parts_kept h d kept =
    let a = and_parts (is_kept h.blobs d.name) (is_guid_kept h.guids d.algorithm && (is_kept h.blobs d.hash && is_guid_kept h.guids d.language)) kept in
    let b = and_parts (is_guid_kept h.guids d.algorithm) (is_kept h.blobs d.hash && is_guid_kept h.guids d.language) a.1 in
    let c = and_parts (is_kept h.blobs d.hash) (is_guid_kept h.guids d.language) b.1 in
    record { name = a.0; algorithm = b.0; hash = c.0; language = c.1 }

pub kept_parts : (h : Built) (d : Document) → is_kept h.blobs d.name ≡ true → is_guid_kept h.guids d.algorithm ≡ true → is_kept h.blobs d.hash ≡ true → is_guid_kept h.guids d.language ≡ true → keeps_values h d ≡ true
unfolding keeps_values
kept_parts h d a b c e = rw (a, b, c, e) refl

abbrev made : List ℕ → List ℕ → List ℕ → List ℕ → Document
made a b c d = record { name = a; algorithm = b; hash = c; language = d }

equal_parts : (a b : List ℕ) (c d : List ℕ) (e f : List ℕ) (g h : List ℕ) → a ≡ b → c ≡ d → e ≡ f → g ≡ h
    → made a c e g ≡ made b d f h
equal_parts a b c d e f g h p q r s = rw (p, q, r, s) refl

pub same_parts : (d e : Document) → is_same d e ≡ true → d ≡ e
unfolding is_same
same_parts d e h =
    let a = and_parts (bytes_eq d.name e.name) (bytes_eq d.algorithm e.algorithm && (bytes_eq d.hash e.hash && bytes_eq d.language e.language)) h in
    let b = and_parts (bytes_eq d.algorithm e.algorithm) (bytes_eq d.hash e.hash && bytes_eq d.language e.language) a.1 in
    let c = and_parts (bytes_eq d.hash e.hash) (bytes_eq d.language e.language) b.1 in
    equal_parts d.name e.name d.algorithm e.algorithm d.hash e.hash d.language e.language (same_bytes d.name e.name a.0) (same_bytes d.algorithm e.algorithm b.0) (same_bytes d.hash e.hash c.0)
    (same_bytes d.language e.language c.1)

pub same_self : (d : Document) → is_same d d ≡ true
unfolding is_same
same_self d = rw (eq_self d.name, eq_self d.algorithm, eq_self d.hash, eq_self d.language) refl

pub blob_some : (x : List ℕ) → 0 < length (blob_bytes x)
blob_some x = rw (length-append (spelled (length x)) x) (omega (arith, spelled_some (length x)))

-- documents with the same numbers are the same
key_tells : (h : Built) (d e : Document) → keeps_values h d ≡ true → keeps_values h e ≡ true → document_key h d ≡ document_key h e → is_same d e ≡ true
unfolding document_key is_same
key_tells h d e here there same =
    let a = parts_kept h d here in
    let b = parts_kept h e there in
    let n : blob_offset h d.name ≡ blob_offset h e.name = cc in
    let m : guid_number h d.algorithm ≡ guid_number h e.algorithm = cc in
    let k : blob_offset h d.hash ≡ blob_offset h e.hash = cc in
    let l : guid_number h d.language ≡ guid_number h e.language = cc in
    rw (
      offset_tells blob_bytes blob_some h.starts.blobs h.blobs d.name e.name a.name b.name n,
      number_tells h.starts.guids h.guids d.algorithm e.algorithm a.algorithm b.algorithm m,
      offset_tells blob_bytes blob_some h.starts.blobs h.blobs d.hash e.hash a.hash b.hash k,
      number_tells h.starts.guids h.guids d.language e.language a.language b.language l,
    )
    (rw (eq_self e.name, eq_self e.algorithm, eq_self e.hash, eq_self e.language) refl)

pub key_same : (h : Built) (d e : Document) → keeps_values h d ≡ true → keeps_values h e ≡ true → bytes_eq (document_key h d) (document_key h e) ≡ is_same d e
key_same h d e here there =
    both_ways (bytes_eq (document_key h d) (document_key h e)) (is_same d e) (λ same. key_tells h d e here there (same_bytes (document_key h d) (document_key h e) same))
    (λ same. ap (λ x. bytes_eq (document_key h d) (document_key h x)) (sym (same_parts d e same)) ∙ eq_self (document_key h d))

pub document_values : (h : Built) (d : Document) → keeps_document h d ≡ true → keeps_values h d ≡ true
unfolding keeps_document
document_values h d kept = (and_parts (keeps_values h d) (is_kept h.blobs (name_blob (blob_offset h d.name))) kept).0

pub document_name : (h : Built) (d : Document) → keeps_document h d ≡ true → is_kept h.blobs (name_blob (blob_offset h d.name)) ≡ true
unfolding keeps_document
document_name h d kept = (and_parts (keeps_values h d) (is_kept h.blobs (name_blob (blob_offset h d.name))) kept).1

-- the place among the numbers is the place among the documents
pub key_place : (h : Built) (d : Document) (documents : List Document) → keeps_values h d ≡ true → list_all (keeps_document h) documents ≡ true
    → position (bytes_eq (document_key h d)) (map (document_key h) documents) ≡ position (is_same d) documents
key_place h d [] here all = refl
key_place h d (e ∷ documents) here all =
    let parts = and_parts (keeps_document h e) (list_all (keeps_document h) documents) all in
    rw (position_cons (bytes_eq (document_key h d)) (document_key h e) (map (document_key h) documents), position_cons (is_same d) e documents, key_same h d e here (document_values h e parts.0), key_place h d documents here parts.1)
    refl

-- later heaps keep them, with the same numbers
pub values_stay : (h k : Built) (d : Document) → Grown h k → keeps_values h d ≡ true → (keeps_values k d ≡ true) × (document_key k d ≡ document_key h d)
unfolding document_key
values_stay h k d grown kept =
    let a = parts_kept h d kept in (
      kept_parts k d (grown.blobs d.name a.name).0 (grown.guids d.algorithm a.algorithm).0 (grown.blobs d.hash a.hash).0 (grown.guids d.language a.language).0,
      rw ((grown.blobs d.name a.name).1, (grown.guids d.algorithm a.algorithm).1, (grown.blobs d.hash a.hash).1, (grown.guids d.language a.language).1) refl,
    )

cells_stay : (h k : Built) (d : Document) → Grown h k → keeps_document h d ≡ true → (keeps_document k d ≡ true) × (document_cells k d ≡ document_cells h d)
unfolding document_cells keeps_document
cells_stay h k d grown kept =
    let values = document_values h d kept in
    let a = parts_kept h d values in
    let n = grown.blobs (name_blob (blob_offset h d.name)) (document_name h d kept) in (
      rw ((grown.blobs d.name a.name).1, (values_stay h k d grown values).0, n.0) refl,
      rw ((grown.blobs d.name a.name).1, n.1, (grown.guids d.algorithm a.algorithm).1, (grown.blobs d.hash a.hash).1, (grown.guids d.language a.language).1) refl,
    )

pub all_stay : (h k : Built) (documents : List Document) → Grown h k → list_all (keeps_document h) documents ≡ true
    → (list_all (keeps_document k) documents ≡ true) × (map (document_cells k) documents ≡ map (document_cells h) documents) × (map (document_key k) documents ≡ map (document_key h) documents)
all_stay h k [] grown all = (refl, refl, refl)
all_stay h k (d ∷ documents) grown all =
    let parts = and_parts (keeps_document h d) (list_all (keeps_document h) documents) all in
    let one = cells_stay h k d grown parts.0 in
    let key = values_stay h k d grown (document_values h d parts.0) in
    let rest = all_stay h k documents grown parts.1 in
    (rw (one.0, rest.0) refl, rw (one.1, rest.1) refl, rw (key.1, rest.2) refl)
