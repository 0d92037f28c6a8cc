-- Names of documents that heaps keep, each with the blob that says it.
use Rattle.std.proofs.Common.{◌≡◌, ℕ, zero, suc, ◌+◌, ◌≤◌, ◌<◌, Bool, true, false, List, [], ◌∷◌, ◌++◌, length, map, take, drop, get_or, Option, Some, None, refl, sym, ap, subst, ◌∙◌, arith, append-nil, length-append}
use Rattle.std.proofs.Math.Seq.{drop-length}
use Rattle.std.specs.Prelude.{◌^◌, not, ◌&&◌, sum_by, nat_lt, is_some, option_map, option_and_then, unwrap_or, slice_get}
use Rattle.std.specs.List.{list_all}
use Rattle.std.proofs.lemmas.Bool.Decides.{nat_tests}
use Rattle.std.proofs.lemmas.List.{take_more, map-append}
use Rattle.std.proofs.lemmas.List.Sums.{sum_by_more}
use Rattle.std.proofs.lemmas.Option.{slice_get-map}
use Rattle.enc_base.specs.Numbers.{compressed, spelled, WrittenIsRead}
use Rattle.enc_meta.specs.Built.{Built, is_kept, blob_offset, heaps_built, none_from, joined_end}
use Rattle.enc_meta.specs.BuiltLaws.{IsGood, ArePast}
use Rattle.enc_meta.specs.Heaps.{blob_at}
use Rattle.enc_meta.proofs.Alone.{blob_alone}
use Rattle.enc_meta.proofs.BuiltMeanings.{blobs_are_read}
use Rattle.enc_meta.proofs.Reading.{spelled_some}
use Rattle.enc_plain.specs.DocumentName.{part_in, name_parts_in, name_joined, document_name_in}
use Rattle.enc_ppdb.specs.Holding.{name_blob, heaps_size, Grown, passes_with}
use Rattle.enc_ppdb.specs.Written.{pdb_starts}
use Rattle.enc_ppdb.proofs.RowsGiven.{blob_low}
use Rattle.enc_edit_list.specs.declared.edit.DocumentValue.{DocumentValue}
use Rattle.enc_rules.specs.Rules.{room_of_document}
use Rattle.enc_pdb_writer.specs.Names.{name_stated, kept_name_at, has_name, name_kept, SaysName, AreSaid}

-- what has room doesn't pass the limit
not_past : (b : Bool) (size : ℕ) → size ≤ 2 ^ 29 → (not b && nat_lt (2 ^ 29) size) ≡ true → ⊥
not_past true size low is = absurd cc
not_past false size low is = grind (arith, nat_tests, low, is)

pub has_room : (h : Built) (kept : Bool) (more : ℕ) → heaps_size h + more ≤ 2 ^ 29 → passes_with h kept more ≡ true → ⊥
unfolding passes_with
has_room h kept more low is = not_past kept (heaps_size h + more) low is

-- a name that is said stays so in later heaps
pub still_said : (h k : Built) (name : List ℕ) (offset : ℕ) → Grown h k → SaysName h name offset → SaysName k name offset
still_said h k name offset grown says =
    let a = grown.blobs name says.kept in
    let b = grown.blobs (name_blob (blob_offset h name)) says.blob in
    let same : name_blob (blob_offset h name) ≡ name_blob (blob_offset k name) = ap name_blob (sym a.1) in
    record {
      kept = a.0;
      blob = subst (λ v. is_kept k.blobs v ≡ true) same b.0;
      here = says.here ∙ sym b.1 ∙ ap (blob_offset k) same;
    }

-- a blob is read at its offset
past_none : (h : Built) → h.starts ≡ pdb_starts → ArePast [] h.starts
past_none h none = rw none (record { strings = refl; users = refl; blobs = refl; guids = refl })

blob_told : (h : Built) (v : List ℕ) → IsGood h → h.starts ≡ pdb_starts → is_kept h.blobs v ≡ true → blob_at (heaps_built h).blobs (blob_offset h v) ≡ Some v
blob_told h v good none kept = sym (blob_alone (heaps_built h) (blob_offset h v)) ∙ blobs_are_read [] h v good (past_none h none) kept

-- a name of one part
one_part : (blobs bytes name : List ℕ) → 0 < length bytes → part_in blobs bytes ≡ Some (name, []) → option_map (name_joined 0) (name_parts_in blobs (length bytes) bytes) ≡ Some name
unfolding name_parts_in name_joined
one_part blobs [] name some is = absurd (omega (arith, some))
one_part blobs (x ∷ bytes) name some is = rw is refl

part_read : (blobs : List ℕ) (offset : ℕ) (name : List ℕ) → WrittenIsRead → offset < 2 ^ 29 → blob_at blobs offset ≡ Some name → part_in blobs (spelled offset) ≡ Some (name, [])
unfolding part_in
part_read blobs offset name written low there =
    let read : compressed (spelled offset) ≡ Some (offset, length (spelled offset)) = ap compressed (sym (append-nil (spelled offset))) ∙ written offset [] low in
    ap (λ o. option_and_then (λ (number : ℕ × ℕ). option_map (λ (text : List ℕ). (text, drop number.1 (spelled offset))) (blob_at blobs number.0)) o) read
    ∙ ap (λ o. option_map (λ (text : List ℕ). (text, drop (length (spelled offset)) (spelled offset))) o) there ∙ ap (λ x. Some (name, x)) (drop-length (spelled offset))

name_read : (blobs : List ℕ) (offset : ℕ) (name : List ℕ) → WrittenIsRead → offset < 2 ^ 29 → blob_at blobs offset ≡ Some name → document_name_in blobs (name_blob offset) ≡ Some name
unfolding document_name_in name_blob
name_read blobs offset name written low there = one_part blobs (spelled offset) name (spelled_some offset) (part_read blobs offset name written low there)

-- a name that is said is read
said_read : (h : Built) (name : List ℕ) (offset : ℕ) → WrittenIsRead → IsGood h → h.starts ≡ pdb_starts → heaps_size h ≤ 2 ^ 29 → SaysName h name offset → kept_name_at (heaps_built h).blobs offset ≡ Some name
unfolding kept_name_at
said_read h name offset written good none size says =
    let blobs = (heaps_built h).blobs in
    let at : blob_at blobs offset ≡ Some (name_blob (blob_offset h name)) = ap (blob_at blobs) says.here ∙ blob_told h (name_blob (blob_offset h name)) good none says.blob in
    let low = blob_low h name says.kept in
    ap (option_and_then (document_name_in blobs)) at ∙ name_read blobs (blob_offset h name) name written (omega (arith, low, size)) (blob_told h name good none says.kept)

pub all_named : (h : Built) (names : List (List ℕ)) (offsets : List ℕ) → WrittenIsRead → IsGood h → h.starts ≡ pdb_starts → heaps_size h ≤ 2 ^ 29 → AreSaid h names offsets → list_all (has_name (heaps_built h).blobs) offsets ≡ true
unfolding has_name
all_named h names offsets written good none size said = by names offsets said.many said.each
  where
    by : (names : List (List ℕ)) (offsets : List ℕ) → length offsets ≡ length names → ((k offset : ℕ) (name : List ℕ) → slice_get names k ≡ Some name → slice_get offsets k ≡ Some offset → SaysName h name offset)
        → list_all (λ offset. is_some (kept_name_at (heaps_built h).blobs offset)) offsets ≡ true
    by names [] many each = refl
    by [] (o ∷ offsets) many each = absurd (omega (arith, many))
    by (name ∷ names) (o ∷ offsets) many each =
        rw (said_read h name o written good none size (each 0 o name refl refl), by names offsets (omega (arith, many)) (λ k offset v a b. each (suc k) offset v a b)) refl

pub names_are : (h : Built) (names : List (List ℕ)) (offsets : List ℕ) → WrittenIsRead → IsGood h → h.starts ≡ pdb_starts → heaps_size h ≤ 2 ^ 29 → AreSaid h names offsets → map (name_kept (heaps_built h).blobs) offsets ≡ names
unfolding name_kept
names_are h names offsets written good none size said = by names offsets said.many said.each
  where
    by : (names : List (List ℕ)) (offsets : List ℕ) → length offsets ≡ length names → ((k offset : ℕ) (name : List ℕ) → slice_get names k ≡ Some name → slice_get offsets k ≡ Some offset → SaysName h name offset)
        → map (λ offset. unwrap_or (kept_name_at (heaps_built h).blobs offset) []) offsets ≡ names
    by [] [] many each = refl
    by (name ∷ names) [] many each = absurd (omega (arith, many))
    by [] (o ∷ offsets) many each = absurd (omega (arith, many))
    by (name ∷ names) (o ∷ offsets) many each =
        rw (said_read h name o written good none size (each 0 o name refl refl), by names offsets (omega (arith, many)) (λ k offset v a b. each (suc k) offset v a b)) refl

-- the name at a place
kept_by : (o : Option (List ℕ)) → is_some o ≡ true → o ≡ Some (unwrap_or o [])
kept_by None some = absurd cc
kept_by (Some x) some = refl

pub name_here : (blobs : List ℕ) (offsets : List ℕ) (i offset : ℕ) → has_name blobs offset ≡ true → slice_get offsets i ≡ Some offset → kept_name_at blobs offset ≡ slice_get (map (name_kept blobs) offsets) i
unfolding has_name name_kept
name_here blobs offsets i offset has at = kept_by (kept_name_at blobs offset) has ∙ sym (slice_get-map (λ o. unwrap_or (kept_name_at blobs o) []) offsets i ∙ ap (option_map (λ o. unwrap_or (kept_name_at blobs o) [])) at)

-- a name, and then the blob that says it
pub said_now : (h k : Built) (name blob : List ℕ) (at offset : ℕ) → is_kept h.blobs name ≡ true → at ≡ blob_offset h name → blob ≡ name_blob at → Grown h k → is_kept k.blobs blob ≡ true → offset ≡ blob_offset k blob → SaysName k name offset
said_now h k name blob at offset kept here is grown blob_kept blob_here =
    let a = grown.blobs name kept in
    let same : blob ≡ name_blob (blob_offset k name) = is ∙ ap name_blob (here ∙ sym a.1) in
    record {
      kept = a.0;
      blob = subst (λ v. is_kept k.blobs v ≡ true) same blob_kept;
      here = blob_here ∙ ap (blob_offset k) same;
    }

pub said_none : (h : Built) (offsets : List ℕ) → offsets ≡ [] → AreSaid h [] offsets
said_none h offsets none = record { many = ap length none; each = λ k offset name at there. absurd cc }

said_by_place : (h k : Built) (names : List (List ℕ)) (name : List ℕ) (offsets : List ℕ) (offset : ℕ) → Grown h k → AreSaid h names offsets → SaysName k name offset
    → (i o : ℕ) (v : List ℕ) → slice_get (names ++ name ∷ []) i ≡ Some v → slice_get (offsets ++ offset ∷ []) i ≡ Some o → SaysName k v o
said_by_place h k names name offsets offset grown said last i o v at there = by names offsets said.many said.each i at there
  where
    by : (names : List (List ℕ)) (offsets : List ℕ) → length offsets ≡ length names → ((k offset : ℕ) (name : List ℕ) → slice_get names k ≡ Some name → slice_get offsets k ≡ Some offset → SaysName h name offset)
        → (i : ℕ) → slice_get (names ++ name ∷ []) i ≡ Some v → slice_get (offsets ++ offset ∷ []) i ≡ Some o → SaysName k v o
    by [] [] many each zero at there = let a : name ≡ v = cc in let b : offset ≡ o = cc in rw (← a, ← b) last
    by [] [] many each (suc i) at there = absurd cc
    by [] (x ∷ offsets) many each i at there = absurd (omega (arith, many))
    by (x ∷ names) [] many each i at there = absurd (omega (arith, many))
    by (x ∷ names) (y ∷ offsets) many each zero at there = let a : x ≡ v = cc in let b : y ≡ o = cc in rw (← a, ← b) (still_said h k x y grown (each 0 y x refl refl))
    by (x ∷ names) (y ∷ offsets) many each (suc i) at there = by names offsets (omega (arith, many)) (λ k offset v a b. each (suc k) offset v a b) i at there

-- one more
pub said_more : (h k : Built) (names all : List (List ℕ)) (name : List ℕ) (offsets later : List ℕ) (offset : ℕ) → all ≡ names ++ name ∷ [] → later ≡ offsets ++ offset ∷ [] → Grown h k → AreSaid h names offsets → SaysName k name offset → AreSaid k all later
said_more h k names all name offsets later offset a b grown said last = rw (a, b) (record {
  many = omega (arith, length-append offsets (offset ∷ []), length-append names (name ∷ []), said.many);
  each = λ i o v at there. said_by_place h k names name offsets offset grown said last i o v at there;
})

-- the same name
pub said_as : (h : Built) (a b : List ℕ) (offset : ℕ) → a ≡ b → SaysName h a offset → SaysName h b offset
said_as h a b offset same says = subst (λ v. SaysName h v offset) same says

-- one document more
pub names_more : (ds : List DocumentValue) (i : ℕ) (d : DocumentValue) → i < length ds → map name_stated (take (i + 1) ds) ≡ map name_stated (take i ds) ++ (get_or ds i d).name ∷ []
names_more ds i d low = ap (map name_stated) (take_more ds i d low) ∙ map-append name_stated (take i ds) (get_or ds i d ∷ [])

pub rooms_more : (ds : List DocumentValue) (i : ℕ) (d : DocumentValue) → i < length ds → sum_by room_of_document (take (i + 1) ds) ≡ sum_by room_of_document (take i ds) + (128 + length (get_or ds i d).name)
rooms_more ds i d low = sum_by_more room_of_document ds i d low

-- no offset, no name
pub no_name : (blobs : List ℕ) (offsets : List ℕ) (i : ℕ) → slice_get offsets i ≡ None → None ≡ slice_get (map (name_kept blobs) offsets) i
no_name blobs offsets i none = sym (slice_get-map (name_kept blobs) offsets i ∙ ap (option_map (name_kept blobs)) none)

-- heaps without values
pub none_small : heaps_size (none_from pdb_starts) ≤ 1
unfolding heaps_size joined_end
none_small = omega arith
