-- What is meant of an edit list is sound, and its points can be spelled.
use Rattle.std.proofs.Common.{◌≡◌, ℕ, zero, suc, ◌≤◌, ◌<◌, Bool, true, false, List, [], ◌∷◌, length, map, Option, Some, None, refl, sym, ap, subst, ◌∙◌, arith}
use Rattle.std.specs.Prelude.{◌^◌, ◌&&◌, ◌||◌, ◌==◌, not, is_ok, is_some, nat_le, nat_lt, option_map, option_and_then, slice_get}
use Rattle.std.specs.List.{list_all}
use Rattle.std.proofs.lemmas.Bool.{and_parts, and_from}
use Rattle.std.proofs.lemmas.Bool.Decides.{nat_tests}
use Rattle.std.proofs.lemmas.Option.{slice_get-map}
use Rattle.enc_base.specs.declared.token.Token.{Token}
use Rattle.enc_base.specs.Tables as tables
use Rattle.enc_seqpoints.specs.declared.point.Point.{Point}
use Rattle.enc_seqpoints.specs.Grammar.{MethodPoints, method_points}
use Rattle.enc_seqpoints.specs.Spelling.{blob_of, first_document}
use Rattle.enc_seqpoints.proofs.PointsSpelled.{pointed, none_spelled, spelled_so}
use Rattle.enc_plain.specs.Debug.{Document, plain_point, debug_of}
use Rattle.enc_plain.specs.SoundDebug.{numbered, can_be_spelled, have_documents, IsSoundDebug, IsSoundPdb}
use Rattle.enc_edit_list.specs.declared.edit.DocumentValue.{DocumentValue}
use Rattle.enc_edit_list.specs.declared.edit.Edit.{Edit}
use Rattle.enc_edit_list.specs.declared.edit.EditList.{EditList}
use Rattle.enc_rules.specs.Listed.{body_given, points_given}
use Rattle.enc_rules.specs.Rules.{has_document, has_points}
use Rattle.enc_pdb_writer.specs.declared.edits.MethodEdit.{MethodEdit}
use Rattle.enc_pdb_writer.specs.Listed.{said_by, said_at, can_be_said, can_be_spelled_at, documents_used, edit_of_row, has_short_row, row_placed, points_said_of, numbered_document, pdb_listed, list_pdb, AreByRows, IsPdbListed}
use Rattle.enc_pdb_writer.specs.Stated.{document_stated, locals_row, edit_points_stand, points_stand, AreMethods}
use Rattle.enc_pdb_writer.proofs.Lists.{one_of_all, all_of_each}
use Rattle.enc_pdb_writer.proofs.PlacedEdits.{has_place}
use Rattle.enc_pdb_writer.proofs.PointsSaid.{method_is}
use Rattle.enc_pdb_writer.proofs.Weighed.{edits_stand, is_light, has_room, are_few}

-- points that can be spelled can be so in plain form
ones_row : {X : Type 0} (points : List X) → list_all (λ (q : X). true) points ≡ true
ones_row [] = refl
ones_row (p ∷ points) = ones_row points

abbrev offset_of : Point → ℕ
offset_of p = p.offset

abbrev document_of : Point → ℕ
document_of p = p.document

abbrev lines_of : Point → Option (ℕ × ℕ × ℕ × ℕ)
lines_of p = p.lines

point_same : (points : List Point) → map (pointed offset_of lines_of document_of) points ≡ points
point_same [] = refl
point_same (p ∷ points) = ap (λ (qs : List Point). p ∷ qs) (point_same points)

plain_same : (f : ℕ → Option Document) (points : List Point) → map (numbered 1) (map (plain_point f) points) ≡ map (pointed offset_of lines_of (λ (q : Point). 1)) points
plain_same f [] = refl
plain_same f (p ∷ points) = ap (λ (qs : List Point). numbered 1 (plain_point f p) ∷ qs) (plain_same f points)

first_one : (p : Point) (points : List Point) → first_document 0 (map (pointed offset_of lines_of (λ (q : Point). 1)) (p ∷ points)) ≡ 1
unfolding first_document
first_one p points = refl

plain_spelled : (f : ℕ → Option Document) (points : List Point) → is_ok (blob_of 0 0 points) ≡ true → can_be_spelled (map (plain_point f) points) ≡ true
unfolding can_be_spelled
plain_spelled f [] good = none_spelled 0 0
plain_spelled f (p ∷ points) good =
    ap (λ (qs : List Point). is_ok (blob_of 0 0 qs)) (plain_same f (p ∷ points))
    ∙ spelled_so offset_of lines_of document_of (λ (q : Point). 1) 0 0 0 0 p points (ones_row (p ∷ points)) (first_one p points)
    (ap (λ (qs : List Point). is_ok (blob_of 0 0 qs)) (point_same (p ∷ points)) ∙ good)

-- each point has its document
stated_there : (documents : List DocumentValue) (n : ℕ) → 1 ≤ n → n ≤ length documents → is_some (numbered_document (map document_stated documents) n) ≡ true
stated_there documents zero low high = absurd (omega (arith, low))
stated_there documents (suc n) low high = ap is_some (slice_get-map document_stated documents n) ∙ by (slice_get documents n) refl
  where
    by : (o : Option DocumentValue) → slice_get documents n ≡ o → is_some (option_map document_stated o) ≡ true
    by None e = absurd (past documents n (omega (arith, high)) e)
      where
        past : (xs : List DocumentValue) (k : ℕ) → k < length xs → slice_get xs k ≡ None → ⊥
        past [] k lt none = omega (arith, lt)
        past (x ∷ xs) zero lt none = cc
        past (x ∷ xs) (suc k) lt none = past xs k (omega (arith, lt)) none
    by (Some d) e = refl

documents_there : (documents : List DocumentValue) (points : List Point) → list_all (has_document (length documents)) points ≡ true → have_documents (map (plain_point (numbered_document (map document_stated documents))) points) ≡ true
unfolding have_documents
documents_there documents [] all = refl
documents_there documents (p ∷ points) all =
    let parts = and_parts (has_document (length documents) p) (list_all (has_document (length documents)) points) all in
    let range = and_parts (nat_le 1 p.document) (nat_le p.document (length documents)) parts.0 in
    let low : 1 ≤ p.document = grind (arith, nat_tests, range.0) in
    let high : p.document ≤ length documents = grind (arith, nat_tests, range.1) in
    and_from _ _ (stated_there documents p.document low high) (documents_there documents points parts.1)

-- what is good of an edit with points
record IsGoodEdit (documents : List DocumentValue) (e : Edit) : Type 0 where
  locals : locals_row (body_given e) < 2 ^ 24
  spelled : is_ok (blob_of 0 0 (points_given e)) ≡ true
  there : list_all (has_document (length documents)) (points_given e) ≡ true

stands_so : (some : Bool) (rest : Bool) → (not some || rest) ≡ true → some ≡ true → rest ≡ true
stands_so true rest is e = is
stands_so false rest is e = absurd cc

good_edit : (l : EditList) (methods : List Token) (placed : List MethodEdit) (n : ℕ) (m : MethodEdit) → points_stand l ≡ true → AreMethods methods l.edits → AreByRows methods l.edits placed → slice_get placed n ≡ Some m
    → (e : Edit) × (slice_get l.edits m.place ≡ Some e) × IsGoodEdit l.documents e
good_edit l methods placed n m stands are by at =
    let place = has_place methods l.edits placed n m by at in
    let e = place.edit in
    let row = are.each m.place e (place.token) (place.here) (place.named) (place.points) in
    let good = stands_so (has_points e) (is_ok (blob_of 0 0 (points_given e)) && list_all (has_document (length l.documents)) (points_given e))
    (one_of_all (edit_points_stand (length l.documents)) l.edits m.place e (edits_stand l stands) (place.here)) (place.points) in
    let parts = and_parts (is_ok (blob_of 0 0 (points_given e))) (list_all (has_document (length l.documents)) (points_given e)) good in
    (e, place.here, record { locals = row.3; spelled = parts.0; there = parts.1 })

-- the points of an edit are sound
sound_edit : (documents : List DocumentValue) (e : Edit) → IsGoodEdit documents e → IsSoundDebug (debug_of (numbered_document (map document_stated documents)) (said_by (Some e)))
unfolding debug_of
sound_edit documents e good = record {
  locals = omega (arith, good.locals);
  spelled = plain_spelled (numbered_document (map document_stated documents)) (points_given e) good.spelled;
  documents = documents_there documents (points_given e) good.there;
}

sound_none : (f : ℕ → Option Document) → IsSoundDebug (debug_of f (method_points 0 []))
unfolding debug_of can_be_spelled have_documents
sound_none f = record { locals = omega arith; spelled = none_spelled 0 0; documents = refl }

sound_by : (documents : List DocumentValue) (o : Option Edit) → ((e : Edit) → o ≡ Some e → IsGoodEdit documents e) → IsSoundDebug (debug_of (numbered_document (map document_stated documents)) (said_by o))
sound_by documents None each = sound_none (numbered_document (map document_stated documents))
sound_by documents (Some e) each = sound_edit documents e (each e refl)

-- the edit of a row is good
row_by : (l : EditList) (methods : List Token) (placed : List MethodEdit) (n : ℕ) (e : Edit) (o : Option MethodEdit) → slice_get placed n ≡ o → points_stand l ≡ true → AreMethods methods l.edits → AreByRows methods l.edits placed
    → option_and_then (λ (m : MethodEdit). slice_get l.edits m.place) o ≡ Some e → IsGoodEdit l.documents e
row_by l methods placed n e None at stands are by is = absurd cc
row_by l methods placed n e (Some m) at stands are by is =
    let r = good_edit l methods placed n m stands are by at in
    let same : r.0 ≡ e = let both : Some (r.0) ≡ Some e = sym (r.1) ∙ is in cc in
    subst (IsGoodEdit l.documents) same (r.2)

good_row : (l : EditList) (methods : List Token) (placed : List MethodEdit) (row : ℕ) (e : Edit) → points_stand l ≡ true → AreMethods methods l.edits → AreByRows methods l.edits placed → edit_of_row l.edits placed row ≡ Some e → IsGoodEdit l.documents e
good_row l methods placed zero e stands are by is = absurd cc
good_row l methods placed (suc n) e stands are by is = row_by l methods placed n e (slice_get placed n) refl stands are by is

said_none : (edits : List Edit) (placed : List MethodEdit) (method : Token) → (method.table == tables.method_def) ≡ false → points_said_of (said_at edits placed) method ≡ method_points 0 []
unfolding points_said_of
said_none edits placed method other = rw other refl

documents_are : (placed : List MethodEdit) (documents : List DocumentValue) (n : ℕ) (e : Edit) (edits : List Edit) → edit_of_row edits placed n ≡ Some e → documents_used placed documents ≡ documents
documents_are [] documents zero e edits is = absurd cc
documents_are [] documents (suc n) e edits is = absurd cc
documents_are (m ∷ placed) documents n e edits is = refl

sound_method : (l : EditList) (methods : List Token) (placed : List MethodEdit) (method : Token) (b : Bool) → (method.table == tables.method_def) ≡ b → points_stand l ≡ true → AreMethods methods l.edits → AreByRows methods l.edits placed
    → IsSoundDebug (debug_of (numbered_document (map document_stated (documents_used placed l.documents))) (points_said_of (said_at l.edits placed) method))
sound_method l methods placed method false other stands are by =
    let f = numbered_document (map document_stated (documents_used placed l.documents)) in
    subst (λ (m : MethodPoints). IsSoundDebug (debug_of f m)) (sym (said_none l.edits placed method other)) (sound_none f)
sound_method l methods placed method true is stands are by =
    let used = documents_used placed l.documents in
    let o = edit_of_row l.edits placed method.row in
    let table : method.table ≡ tables.method_def = grind (arith, nat_tests, is) in
    subst (λ (m : MethodPoints). IsSoundDebug (debug_of (numbered_document (map document_stated used)) m)) (sym (method_is l.edits placed method o table refl))
    (sound_by used o (λ e at. subst (λ (ds : List DocumentValue). IsGoodEdit ds e) (sym (documents_are placed l.documents method.row e l.edits at)) (good_row l methods placed method.row e stands are by at)))

pub is_sound : (l : EditList) (methods : List Token) (placed : List MethodEdit) → points_stand l ≡ true → AreMethods methods l.edits → AreByRows methods l.edits placed → IsSoundPdb (list_pdb l placed)
unfolding pdb_listed
is_sound l methods placed stands are by = record { each = λ method. sound_method l methods placed method (method.table == tables.method_def) refl stands are by }

-- its points can be spelled
can_by : (documents : List DocumentValue) (o : Option Edit) (e : Edit) → o ≡ Some e → IsGoodEdit documents e → can_be_said o ≡ true
can_by documents o e is good =
    let low : nat_lt (locals_row (body_given e)) (2 ^ 29) ≡ true = grind (arith, nat_tests, good.locals) in
    ap can_be_said is ∙ and_from _ _ low good.spelled

all_can : (l : EditList) (methods : List Token) (placed : List MethodEdit) → points_stand l ≡ true → AreMethods methods l.edits → AreByRows methods l.edits placed → can_be_spelled_at l.edits placed ≡ true
unfolding can_be_spelled_at
all_can l methods placed stands are by = all_of_each (λ (m : MethodEdit). can_be_said (slice_get l.edits m.place)) placed (λ k m at.
    let r = good_edit l methods placed k m stands are by at in can_by l.documents (slice_get l.edits m.place) (r.0) (r.1) (r.2))

short_row : (row : ℕ) (t : Token) → row ≡ t.row → t.row < 2 ^ 24 → has_short_row row ≡ true
short_row row t same low = grind (arith, nat_tests, same, low)

short_by : (rows : List MethodEdit) → ((k : ℕ) (m : MethodEdit) → slice_get rows k ≡ Some m → has_short_row m.row ≡ true) → list_all has_short_row (map row_placed rows) ≡ true
short_by [] each = refl
short_by (m ∷ rows) each = rw (each 0 m refl, short_by rows (λ k n at. each (suc k) n at)) refl

short_rows : (l : EditList) (methods : List Token) (placed : List MethodEdit) → AreMethods methods l.edits → AreByRows methods l.edits placed → list_all has_short_row (map row_placed placed) ≡ true
short_rows l methods placed are by = short_by placed (λ k m at.
    let place = has_place methods l.edits placed k m by at in
    let row = are.each m.place (place.edit) (place.token) (place.here) (place.named) (place.points) in
    short_row m.row (place.token) (place.row) (row.2))

pub is_listed : (l : EditList) (methods : List Token) (placed : List MethodEdit) → points_stand l ≡ true → AreMethods methods l.edits → AreByRows methods l.edits placed → IsPdbListed l placed
is_listed l methods placed stands are by = record {
  room = has_room l methods placed stands by;
  said = all_can l methods placed stands are by;
  sound = is_sound l methods placed stands are by;
  light = is_light l methods placed stands are by;
  few = are_few l methods placed stands are by;
  rows = short_rows l methods placed are by;
}
