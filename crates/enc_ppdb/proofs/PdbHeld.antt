-- What is written of all methods holds the plain PDB.
use Rattle.std.proofs.Common.{◌≡◌, ℕ, zero, suc, ◌≤◌, ◌<◌, Bool, true, false, List, [], ◌∷◌, length, map, drop, Option, Some, refl, sym, ap, subst, ◌∙◌, arith, append-nil, Err}
use Rattle.std.specs.Prelude.{◌^◌, option_map, option_and_then, nat_lt, slice_get}
use Rattle.std.specs.List.{list_all}
use Rattle.std.proofs.lemmas.Bool.{and_parts}
use Rattle.std.proofs.lemmas.Bool.Decides.{nat_tests}
use Rattle.std.proofs.lemmas.List.{length-map}
use Rattle.enc_base.specs.Numbers.{compressed, spelled, WrittenIsRead}
use Rattle.enc_base.specs.declared.refusal.StreamName.TheVariants as stream
use Rattle.enc_meta.specs.Built.{Built, is_kept, is_guid_kept, blob_offset, guid_number, heaps_built}
use Rattle.enc_meta.specs.BuiltLaws.{IsGood, ArePast}
use Rattle.enc_meta.specs.Heaps.{blob_at, guid_at}
use Rattle.enc_meta.specs.declared.builder.BuildFault.{BuildFault}
use Rattle.enc_meta.specs.declared.builder.BuildFault.TheVariants.{Memory, TooLarge}
use Rattle.enc_meta.proofs.Alone.{blob_alone, guid_alone}
use Rattle.enc_meta.proofs.BuiltMeanings.{blobs_are_read, guids_are_read}
use Rattle.enc_meta.proofs.Reading.{spelled_some}
use Rattle.enc_plain.specs.Debug.{Document, MethodDebug, PlainPdb}
use Rattle.enc_plain.specs.DocumentName.{part_in, name_parts_in, name_joined, document_name_in}
use Rattle.enc_ppdb.specs.declared.writer.Writer.{Writer}
use Rattle.enc_ppdb.specs.Written.{documents_of, nth_method, pdb_weight, most_pdb_weight, pdb_starts, TellsPdb, DocumentSays, MethodSays, HoldPdb}
use Rattle.enc_ppdb.specs.Holding.{name_blob, document_cells, keeps_document, heaps_size, RefusesPdb, pdb_weight_of, MethodHeld, IsWritten}
use Rattle.enc_ppdb.proofs.DocumentKeys.{parts_kept, document_values, document_name}
use Rattle.enc_ppdb.proofs.RowsGiven.{blob_low}

past_none : (h : Built) → h.starts ≡ pdb_starts → ArePast [] h.starts
past_none h none = rw none (record { strings = refl; users = refl; blobs = refl; guids = refl })

blob_told : (h : Built) (v : List ℕ) → IsGood h → h.starts ≡ pdb_starts → is_kept h.blobs v ≡ true → blob_at (heaps_built h).blobs (blob_offset h v) ≡ Some v
blob_told h v good none kept = sym (blob_alone (heaps_built h) (blob_offset h v)) ∙ blobs_are_read [] h v good (past_none h none) kept

guid_told : (h : Built) (v : List ℕ) → IsGood h → h.starts ≡ pdb_starts → is_guid_kept h.guids v ≡ true → guid_at (heaps_built h).guids (guid_number h v) ≡ Some v
guid_told h v good none kept = sym (guid_alone (heaps_built h) (guid_number h v)) ∙ guids_are_read [] h v good (past_none h none) kept

-- a name of one part
drop_whole : (xs : List ℕ) → drop (length xs) xs ≡ []
drop_whole [] = refl
drop_whole (x ∷ xs) = drop_whole xs

one_part : (blobs : List ℕ) (bytes name : List ℕ) (n : ℕ) → 0 < length bytes → part_in blobs bytes ≡ Some (name, []) → option_map (name_joined 0) (name_parts_in blobs (length bytes) bytes) ≡ Some name
unfolding name_parts_in name_joined
one_part blobs [] name n some is = absurd (omega (arith, some))
one_part blobs (x ∷ bytes) name n some is = rw is refl

part_read : (blobs : List ℕ) (offset : ℕ) (name : List ℕ) → WrittenIsRead → offset < 2 ^ 29 → blob_at blobs offset ≡ Some name → part_in blobs (spelled offset) ≡ Some (name, [])
unfolding part_in
part_read blobs offset name written low there =
    let read : compressed (spelled offset) ≡ Some (offset, length (spelled offset)) = ap compressed (sym (append-nil (spelled offset))) ∙ written offset [] low in
    ap (λ o. option_and_then (λ (number : ℕ × ℕ). option_map (λ (text : List ℕ). (text, drop number.1 (spelled offset))) (blob_at blobs number.0)) o) read
    ∙ ap (λ o. option_map (λ (text : List ℕ). (text, drop (length (spelled offset)) (spelled offset))) o) there ∙ ap (λ x. Some (name, x)) (drop_whole (spelled offset))

name_read : (blobs : List ℕ) (offset : ℕ) (name : List ℕ) → WrittenIsRead → offset < 2 ^ 29 → blob_at blobs offset ≡ Some name → document_name_in blobs (name_blob offset) ≡ Some name
unfolding document_name_in name_blob
name_read blobs offset name written low there = one_part blobs (spelled offset) name 0 (spelled_some offset) (part_read blobs offset name written low there)

document_says : (h : Built) (d : Document) (most : ℕ) → WrittenIsRead → IsGood h → h.starts ≡ pdb_starts → heaps_size h ≤ 2 ^ 29 → keeps_document h d ≡ true → DocumentSays (heaps_built h) d (document_cells h d)
unfolding document_cells
document_says h d most written good none size kept =
    let a = parts_kept h d (document_values h d kept) in
    let low = blob_low h d.name a.name in
    record {
      count = refl;
      name = (
        name_blob (blob_offset h d.name),
        blob_told h (name_blob (blob_offset h d.name)) good none (document_name h d kept),
        name_read (heaps_built h).blobs (blob_offset h d.name) d.name written (omega (arith, low, size)) (blob_told h d.name good none a.name),
      );
      algorithm = guid_told h d.algorithm good none a.algorithm;
      hash = blob_told h d.hash good none a.hash;
      language = guid_told h d.language good none a.language;
    }

method_says : (h : Built) (documents : List Document) (d : MethodDebug) (cells : List ℕ) → IsGood h → h.starts ≡ pdb_starts → MethodHeld h documents d cells → MethodSays (heaps_built h) documents d cells
method_says h documents d cells good none held =
    subst (λ c. MethodSays (heaps_built h) documents d c) (sym held.cells) (record {
      count = refl;
      points = (held.blob, blob_told h held.blob good none held.kept, held.reads);
      several = held.several;
    })

mapped_at : {X Y : Type 0} (f : X → Y) (xs : List X) (i : ℕ) (x : X) (y : Y) → slice_get xs i ≡ Some x → slice_get (map f xs) i ≡ Some y → f x ≡ y
mapped_at f [] i x y at there = absurd cc
mapped_at f (z ∷ zs) zero x y at there = let e : z ≡ x = cc in let k : f z ≡ y = cc in ap f (sym e) ∙ k
mapped_at f (z ∷ zs) (suc i) x y at there = mapped_at f zs i x y at there

all_at : {X : Type 0} (test : X → Bool) (xs : List X) (i : ℕ) (x : X) → list_all test xs ≡ true → slice_get xs i ≡ Some x → test x ≡ true
all_at test [] i x all at = absurd cc
all_at test (y ∷ ys) zero x all at = let e : y ≡ x = cc in ap test (sym e) ∙ (and_parts (test y) (list_all test ys) all).0
all_at test (y ∷ ys) (suc i) x all at = all_at test ys i x (and_parts (test y) (list_all test ys) all).1 at

-- the parts hold the plain PDB
pub parts_hold : (p : PlainPdb) (placed : ℕ → Option Document) (n : ℕ) (w : Writer) → WrittenIsRead → IsGood w.heaps → IsWritten p n n 0 placed (documents_of p n) w → HoldPdb p n w.heaps w.tables
parts_hold p placed n w written good so =
    let held = so.held in
    let size : heaps_size w.heaps ≤ 2 ^ 29 = omega (arith, held.size, so.light) in
    record {
      starts = held.starts;
      documents = ap length held.rows ∙ length-map (documents_of p n) (document_cells w.heaps);
      document = λ k d cells at there.
          let is = mapped_at (document_cells w.heaps) (documents_of p n) k d cells at (sym (ap (λ rows. slice_get rows k) held.rows) ∙ there) in
          subst (λ c. DocumentSays (heaps_built w.heaps) d c) is
          (document_says w.heaps d 0 written good held.starts size (all_at (keeps_document w.heaps) (documents_of p n) k d held.kept at));
      methods = held.count;
      method = λ k cells at. method_says w.heaps (documents_of p n) (nth_method p k) cells good held.starts (held.method k cells at);
      others = held.others;
    }

-- what is told of the weight
pub refused_told : (fault : BuildFault) (weight : ℕ) → RefusesPdb {A = ℕ} (Err fault) (nat_lt most_pdb_weight weight) → TellsPdb {A = ℕ} (Err fault) weight
refused_told Memory weight is = tt
refused_told (TooLarge stream.Compressed) weight is = is
refused_told (TooLarge stream.Uncompressed) weight is = is
refused_told (TooLarge stream.Strings) weight is = is
refused_told (TooLarge stream.Users) weight is = is
refused_told (TooLarge stream.Blobs) weight is = is
refused_told (TooLarge stream.Guids) weight is = is
refused_told (TooLarge stream.Pdb) weight is = is
refused_told (TooLarge stream.Jtd) weight is = is

pub weight_told : (p : PlainPdb) (placed : ℕ → Option Document) (n : ℕ) (w : Writer) → IsWritten p n n 0 placed (documents_of p n) w → nat_lt most_pdb_weight (pdb_weight p n) ≡ false
unfolding pdb_weight pdb_weight_of
weight_told p placed n w so =
    let low : pdb_weight p n ≤ 2 ^ 29 = omega (arith, so.weight, so.light) in
    grind (arith, nat_tests, low)
