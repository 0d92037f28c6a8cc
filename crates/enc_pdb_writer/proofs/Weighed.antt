-- What is meant of an edit list weighs no more than its points and its documents.
use Rattle.std.proofs.Common.{◌≡◌, ℕ, zero, suc, ◌+◌, ◌*◌, ◌≤◌, ◌<◌, Bool, true, false, List, [], ◌∷◌, length, map, take, get_or, Option, Some, None, refl, sym, ap, ◌∙◌, arith}
use Rattle.std.proofs.Math.Seq.{take-length}
use Rattle.std.specs.Prelude.{◌^◌, ◌||◌, not, sum_by, nat_le, option_map, unwrap_or, slice_get}
use Rattle.std.specs.List.{list_any, list_all}
use Rattle.std.proofs.lemmas.Bool.{and_parts}
use Rattle.std.proofs.lemmas.Bool.Decides.{nat_tests}
use Rattle.std.proofs.lemmas.List.{length-map}
use Rattle.std.proofs.lemmas.List.Sums.{sum_by_more, sum_by-cons}
use Rattle.std.proofs.lemmas.Option.{slice_get-map, slice_get-get_or}
use Rattle.sha2.proofs.Facts256.{length-sha256}
use Rattle.enc_base.specs.Token.{nth_row}
use Rattle.enc_base.specs.declared.token.Token.{Token}
use Rattle.enc_rows.specs.Sums.{sum_below}
use Rattle.enc_rows.proofs.Below.{sum_none, sum_suc}
use Rattle.enc_base.specs.Tables as tables
use Rattle.enc_seqpoints.specs.declared.point.Point.{Point}
use Rattle.enc_seqpoints.specs.Grammar.{MethodPoints, method_points}
use Rattle.enc_plain.specs.Debug.{Document, plain_point, debug_of}
use Rattle.enc_edit_list.specs.declared.edit.DocumentValue.{DocumentValue}
use Rattle.enc_edit_list.specs.declared.edit.Edit.{Edit}
use Rattle.enc_edit_list.specs.declared.edit.EditList.{EditList}
use Rattle.enc_rules.specs.Rules.{has_points, room_of_points, room_of_document}
use Rattle.enc_ppdb.specs.Written.{is_same, nth_method, documents_of, document_weight, method_weight, pdb_weight}
use Rattle.enc_ppdb.proofs.PdbRows.{same_self}
use Rattle.enc_pdb_writer.specs.declared.edits.MethodEdit.{MethodEdit}
use Rattle.enc_pdb_writer.specs.Listed.{said_by, said_at, documents_used, ListedPdb, row_said, points_said_of, numbered_document, pdb_listed, list_pdb, AreByRows}
use Rattle.enc_pdb_writer.specs.Names.{HaveRoom}
use Rattle.enc_pdb_writer.specs.Stated.{document_stated, edit_points_stand, points_stand, AreMethods}
use Rattle.enc_pdb_writer.proofs.Lists.{some_by_one}
use Rattle.enc_pdb_writer.proofs.PlacedEdits.{has_place, weight_placed, placed_weight}
use Rattle.enc_pdb_writer.proofs.DocumentsWithin.{is_among, points_among, documents_within, sum_within}

-- a sum below n is that of the first n of a list
pub sum_listed : {X : Type 0} (f : ℕ → ℕ) (w : X → ℕ) (xs : List X) (n : ℕ) (d : X) → n ≤ length xs → ((k : ℕ) → k < n → f k ≡ w (get_or xs k d)) → sum_below f n ≡ sum_by w (take n xs)
sum_listed f w xs zero d le each = sum_none f
sum_listed f w xs (suc n) d le each =
    let n1 : suc n ≡ n + 1 = omega arith in
    let more : sum_below f (n + 1) ≡ sum_below f n + f n = ap (sum_below f) (sym n1) ∙ sum_suc f n in
    let same : sum_below f (n + 1) ≡ sum_by w (take (n + 1) xs) =
    omega (arith, more, sum_listed f w xs n d (omega (arith, le)) (λ k lt. each k (omega (arith, lt))), each n (omega arith), sum_by_more w xs n d (omega (arith, le))) in
    ap (sum_below f) n1 ∙ same ∙ ap (λ (m : ℕ). sum_by w (take m xs)) (sym n1)

-- what is said of the n-th row
pub nth_said : (methods : List MethodPoints) (n : ℕ) → points_said_of methods (nth_row tables.method_def n) ≡ unwrap_or (slice_get methods n) (method_points 0 [])
unfolding points_said_of
nth_said methods n = let e : n + 1 ≡ suc n = omega arith in ap (row_said methods) e

abbrev nobody : MethodEdit
nobody = record { row = 0; place = 0 }

pub nth_placed : (edits : List Edit) (placed : List MethodEdit) (n : ℕ) (m : MethodEdit) → slice_get placed n ≡ Some m → points_said_of (said_at edits placed) (nth_row tables.method_def n) ≡ said_by (slice_get edits m.place)
unfolding said_at
nth_placed edits placed n m at =
    nth_said (said_at edits placed) n
    ∙ ap (λ (o : Option MethodPoints). unwrap_or o (method_points 0 [])) (slice_get-map (λ (x : MethodEdit). said_by (slice_get edits x.place)) placed n ∙ ap (option_map (λ (x : MethodEdit). said_by (slice_get edits x.place))) at)

many_points : (f : ℕ → Option Document) (m : MethodPoints) → length (debug_of f m).points ≡ length m.points
unfolding debug_of
many_points f m = length-map m.points (plain_point f)

nth_weight : (documents : List Document) (edits : List Edit) (placed : List MethodEdit) (n : ℕ) → n < length placed
    → method_weight (nth_method (pdb_listed (record { documents = documents; methods = said_at edits placed })) n) ≡ weight_placed edits (get_or placed n nobody)
unfolding pdb_listed
nth_weight documents edits placed n lt =
    let said = nth_placed edits placed n (get_or placed n nobody) (slice_get-get_or placed n nobody lt) in
    ap (λ (k : ℕ). 64 + 32 * k) (many_points (numbered_document documents) (points_said_of (said_at edits placed) (nth_row tables.method_def n)) ∙ ap (λ (m : MethodPoints). length m.points) said)

methods_weight : (documents : List Document) (edits : List Edit) (placed : List MethodEdit)
    → sum_below (λ n. method_weight (nth_method (pdb_listed (record { documents = documents; methods = said_at edits placed })) n)) (length placed) ≡ sum_by (weight_placed edits) placed
methods_weight documents edits placed =
    sum_listed _ (weight_placed edits) placed (length placed) nobody (omega arith) (λ k lt. nth_weight documents edits placed k lt)
    ∙ ap (sum_by (weight_placed edits)) (take-length placed)

-- each document of a point is one of those that points can have
numbered_among : (all : List Document) (n : ℕ) → is_among all (numbered_document all n) ≡ true
numbered_among all zero = refl
numbered_among all (suc n) = by (slice_get all n) refl
  where
    by : (o : Option Document) → slice_get all n ≡ o → is_among all o ≡ true
    by None e = refl
    by (Some d) e = some_by_one (is_same d) all n d e (same_self d)

debug_among : (all : List Document) (points : List Point) → points_among all (map (plain_point (numbered_document all)) points) ≡ true
debug_among all [] = refl
debug_among all (p ∷ points) = rw (numbered_among all p.document, debug_among all points) refl

listed_among : (l : ListedPdb) (method : Token) → points_among l.documents (pdb_listed l method).points ≡ true
unfolding pdb_listed debug_of
listed_among l method = debug_among l.documents (points_said_of l.methods method).points

documents_weight : (documents : List DocumentValue) → sum_by document_weight (map document_stated documents) ≡ sum_by room_of_document documents
documents_weight [] = refl
documents_weight (d ∷ documents) = rw (sum_by-cons document_weight (document_stated d) (map document_stated documents), sum_by-cons room_of_document d documents) (omega (arith, length-sha256 d.source, documents_weight documents))

pub weighs : (l : EditList) (placed : List MethodEdit) (documents : List DocumentValue)
    → pdb_weight (pdb_listed (record { documents = map document_stated documents; methods = said_at l.edits placed })) (length placed) ≤ 65536 + sum_by (weight_placed l.edits) placed + sum_by room_of_document documents
unfolding pdb_weight
weighs l placed documents =
    let all = map document_stated documents in
    let p = pdb_listed (record { documents = all; methods = said_at l.edits placed }) in
    let within = sum_within document_weight (documents_of p (length placed)) all (documents_within all p (length placed) (λ k lt. listed_among (record { documents = all; methods = said_at l.edits placed }) (nth_row tables.method_def k))) in
    omega (arith, methods_weight all l.edits placed, within, documents_weight documents)

-- where an edit has points, there is room for all
with_points : (some low : Bool) → (not some || low) ≡ true → some ≡ true → low ≡ true
with_points true low is e = is
with_points false low is e = absurd cc

pub room_stands : (l : EditList) → points_stand l ≡ true → list_any has_points l.edits ≡ true → 0x10000 + sum_by room_of_points l.edits + sum_by room_of_document l.documents ≤ 2 ^ 29
unfolding points_stand
room_stands l stands some =
    let total = 0x10000 + sum_by room_of_points l.edits + sum_by room_of_document l.documents in
    let parts = and_parts (list_all (edit_points_stand (length l.documents)) l.edits) (not (list_any has_points l.edits) || nat_le total (2 ^ 29)) stands in
    let low = with_points (list_any has_points l.edits) (nat_le total (2 ^ 29)) parts.1 some in
    grind (arith, nat_tests, low)

pub edits_stand : (l : EditList) → points_stand l ≡ true → list_all (edit_points_stand (length l.documents)) l.edits ≡ true
unfolding points_stand
edits_stand l stands = (and_parts (list_all (edit_points_stand (length l.documents)) l.edits) _ stands).0

some_points : (methods : List Token) (edits : List Edit) (m : MethodEdit) (placed : List MethodEdit) → AreByRows methods edits (m ∷ placed) → list_any has_points edits ≡ true
some_points methods edits m placed are =
    let at = has_place methods edits (m ∷ placed) 0 m are refl in
    some_by_one has_points edits m.place (at.edit) (at.here) (at.points)

pub is_light : (l : EditList) (methods : List Token) (placed : List MethodEdit) → points_stand l ≡ true → AreMethods methods l.edits → AreByRows methods l.edits placed → pdb_weight (list_pdb l placed) (length placed) ≤ 2 ^ 29
is_light l methods [] stands are by = omega (arith, weighs l [] [])
is_light l methods (m ∷ placed) stands are by =
    omega (arith, weighs l (m ∷ placed) l.documents, placed_weight methods l.edits (m ∷ placed) are.many by, room_stands l stands (some_points methods l.edits m placed by))

pub has_room : (l : EditList) (methods : List Token) (placed : List MethodEdit) → points_stand l ≡ true → AreByRows methods l.edits placed → HaveRoom (documents_used placed l.documents)
has_room l methods [] stands by = omega arith
has_room l methods (m ∷ placed) stands by = omega (arith, room_stands l stands (some_points methods l.edits m placed by))

-- there are few methods
weight_some : (edits : List Edit) (placed : List MethodEdit) → 64 * length placed ≤ sum_by (weight_placed edits) placed
weight_some edits [] = omega arith
weight_some edits (m ∷ placed) = omega (arith, sum_by-cons (weight_placed edits) m placed, weight_some edits placed)

pub are_few : (l : EditList) (methods : List Token) (placed : List MethodEdit) → points_stand l ≡ true → AreMethods methods l.edits → AreByRows methods l.edits placed → length placed < 2 ^ 24
are_few l methods [] stands are by = omega arith
are_few l methods (m ∷ placed) stands are by =
    omega (arith, weight_some l.edits (m ∷ placed), placed_weight methods l.edits (m ∷ placed) are.many by, room_stands l stands (some_points methods l.edits m placed by))
