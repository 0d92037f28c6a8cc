-- The values of a document, one by one: kept, and refused only where the limit is passed.
use Rattle.std.proofs.Common.{◌≡◌, ℕ, ◌+◌, ◌≤◌, Bool, true, false, ◌&&◌, not, [], ◌∷◌, refl, sym, ◌∙◌, arith, Err}
use Rattle.std.specs.Prelude.{nat_lt}
use Rattle.std.proofs.lemmas.Bool.Decides.{nat_tests}
use Rattle.enc_base.specs.declared.refusal.StreamName.TheVariants as stream
use Rattle.enc_meta.specs.Built.{Built, is_kept, is_guid_kept, blob_offset, guid_number}
use Rattle.enc_meta.specs.declared.builder.BuildFault.{BuildFault}
use Rattle.enc_meta.specs.declared.builder.BuildFault.TheVariants.{Memory, TooLarge}
use Rattle.enc_plain.specs.Debug.{Document}
use Rattle.enc_ppdb.specs.Written.{most_pdb_weight}
use Rattle.enc_ppdb.specs.Holding.{heaps_size, keeps_values, document_key, Grown, RefusesPdb, passes_with}
use Rattle.enc_ppdb.proofs.DocumentKeys.{Keeps, parts_kept, kept_parts}

-- what is refused here is refused there, where it passes there too
pub refused_so : (fault : BuildFault) (here there : Bool) → (here ≡ true → there ≡ true) → RefusesPdb {A = ℕ} (Err fault) here → RefusesPdb {A = ℕ} (Err fault) there
refused_so Memory here there so is = tt
refused_so (TooLarge stream.Compressed) here there so is = is
refused_so (TooLarge stream.Uncompressed) here there so is = is
refused_so (TooLarge stream.Strings) here there so is = is
refused_so (TooLarge stream.Users) here there so is = is
refused_so (TooLarge stream.Blobs) here there so is = is
refused_so (TooLarge stream.Guids) here there so is = is
refused_so (TooLarge stream.Pdb) here there so is = so is
refused_so (TooLarge stream.Jtd) here there so is = is

passes_by : (a b : Bool) (m n : ℕ) → m ≤ n → (b ≡ true → a ≡ true) → (not a && nat_lt most_pdb_weight m) ≡ true → (not b && nat_lt most_pdb_weight n) ≡ true
passes_by true b m n le so is = absurd cc
passes_by false true m n le so is = let e : false ≡ true = so refl in absurd cc
passes_by false false m n le so is = grind (arith, nat_tests, le, is)

pub passes_so : (h k : Built) (a b : Bool) (m n : ℕ) → heaps_size k + m ≤ heaps_size h + n → (b ≡ true → a ≡ true) → passes_with k a m ≡ true → passes_with h b n ≡ true
unfolding passes_with
passes_so h k a b m n le so is = passes_by a b (heaps_size k + m) (heaps_size h + n) le so is

-- in later heaps each part is kept
pub parts_later : (h k : Built) (d : Document) → Grown h k → keeps_values h d ≡ true → Keeps k d
parts_later h k d grown kept =
    let a = parts_kept h d kept in
    record { name = (grown.blobs d.name a.name).0; algorithm = (grown.guids d.algorithm a.algorithm).0; hash = (grown.blobs d.hash a.hash).0; language = (grown.guids d.language a.language).0 }

-- the four heaps, one behind the other
pub all_kept : (a b c e : Built) (d : Document) → is_kept a.blobs d.name ≡ true → Grown a b → is_guid_kept b.guids d.algorithm ≡ true → Grown b c → is_kept c.blobs d.hash ≡ true → Grown c e → is_guid_kept e.guids d.language ≡ true → keeps_values e d ≡ true
all_kept a b c e d name ab algorithm bc hash ce language =
    kept_parts e d (ce.blobs d.name (bc.blobs d.name (ab.blobs d.name name).0).0).0 (ce.guids d.algorithm (bc.guids d.algorithm algorithm).0).0 (ce.blobs d.hash hash).0 language

pub all_numbers : (a b c e : Built) (d : Document) (w x y z : ℕ) → is_kept a.blobs d.name ≡ true → Grown a b → is_guid_kept b.guids d.algorithm ≡ true → Grown b c → is_kept c.blobs d.hash ≡ true → Grown c e
    → w ≡ blob_offset a d.name → x ≡ guid_number b d.algorithm → y ≡ blob_offset c d.hash → z ≡ guid_number e d.language → (w ∷ x ∷ y ∷ z ∷ []) ≡ document_key e d
unfolding document_key
all_numbers a b c e d w x y z name ab algorithm bc hash ce p q r s =
    let one = ab.blobs d.name name in
    let two = bc.blobs d.name one.0 in
    let three = ce.blobs d.name two.0 in
    let four = bc.guids d.algorithm algorithm in
    let five = ce.guids d.algorithm four.0 in
    let six = ce.blobs d.hash hash in
    rw (p ∙ sym one.1 ∙ sym two.1 ∙ sym three.1, q ∙ sym four.1 ∙ sym five.1, r ∙ sym six.1, s) refl

-- where all are kept already nothing changes
pub all_same : (o a b c e : Built) (d : Document) → (is_kept o.blobs d.name ≡ true → a ≡ o) → (is_guid_kept a.guids d.algorithm ≡ true → b ≡ a) → (is_kept b.blobs d.hash ≡ true → c ≡ b) → (is_guid_kept c.guids d.language ≡ true → e ≡ c)
    → Grown o a → Grown o b → Grown o c → keeps_values o d ≡ true → e ≡ o
all_same o a b c e d p q r s oa ob oc kept =
    let k = parts_kept o d kept in
    s (oc.guids d.language k.language).0 ∙ r (ob.blobs d.hash k.hash).0 ∙ q (oa.guids d.algorithm k.algorithm).0 ∙ p k.name
