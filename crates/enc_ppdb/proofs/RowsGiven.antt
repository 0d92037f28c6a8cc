-- A document gets a row, or has one: what its heaps, its rows and its weight come to.
use Rattle.std.proofs.Common.{◌≡◌, ℕ, ◌+◌, ◌≤◌, ◌<◌, Bool, true, false, ◌||◌, ◌&&◌, not, List, [], ◌∷◌, ◌++◌, length, Some, None, refl, sym, ap, subst, ◌∙◌, arith}
use Rattle.std.specs.Prelude.{is_some, nat_lt, sum_by, bytes_eq, slice_index, if◌then◌else◌}
use Rattle.std.specs.BTreeMap.{BTreeMap, Updates}
use Rattle.std.specs.Cmp.Lexicographic.{slice_cmp}
use Rattle.std.specs.Ordering.{nat_cmp}
use Rattle.std.proofs.lemmas.Bool.Decides.{nat_tests}
use Rattle.std.proofs.lemmas.List.Sums.{sum_by-cons}
use Rattle.std.proofs.lemmas.Bool.{and_from}
use Rattle.enc_base.specs.Numbers.{is_empty}
use Rattle.enc_meta.specs.Built.{Built, is_kept, is_among, blob_bytes, blob_offset, place_among, offset_in, joined_end}
use Rattle.enc_plain.specs.Debug.{Document}
use Rattle.enc_rows.specs.Written.{count_at}
use Rattle.enc_seqpoints.proofs.PointsSized.{spelled_few}
use Rattle.enc_ppdb.specs.declared.writer.Writer.{Writer}
use Rattle.enc_ppdb.specs.Written.{document_weight, most_pdb_weight}
use Rattle.enc_ppdb.specs.Holding.{document_key, keeps_values, name_blob, document_cells, keeps_document, heaps_size, Grown, passes_with, row_known, is_unknown, OneDocument, RowBy, RowGiven}
use Rattle.enc_ppdb.proofs.HeapsGrown.{grown_twice}
use Rattle.enc_ppdb.proofs.DocumentKeys.{blob_some, parts_kept, values_stay}

-- a name's blob has five bytes at most
pub name_few : (n : ℕ) → length (name_blob n) ≤ 5
unfolding name_blob
name_few n = omega (arith, spelled_few n)

lt_more : (a b c : ℕ) → b ≤ c → nat_lt a b ≡ true → nat_lt a c ≡ true
lt_more a b c le is = grind (arith, nat_tests)

passes_lt : (a b : Bool) (c : ℕ) → (not a && nat_lt most_pdb_weight c) ≡ true → nat_lt most_pdb_weight c ≡ true
passes_lt true b c is = absurd cc
passes_lt false b c is = is

-- what is refused passes the limit
pub passes_past : (h : Built) (kept : Bool) (more size : ℕ) → heaps_size h + more ≤ size → passes_with h kept more ≡ true → nat_lt most_pdb_weight size ≡ true
unfolding passes_with
passes_past h kept more size le is = lt_more most_pdb_weight (heaps_size h + more) size le (passes_lt kept kept (heaps_size h + more) is)

-- an offset stands below the end of its heap
place_test : (at : ℕ) (w : List ℕ) (rest : List (List ℕ)) (v : List ℕ) (b : Bool) → 0 < length (blob_bytes w)
    → (is_among rest v ≡ true → place_among blob_bytes (at + length (blob_bytes w)) rest v < at + length (blob_bytes w) + sum_by (λ (x : List ℕ). length (blob_bytes x)) rest)
    → (b || is_among rest v) ≡ true
    → (if b then at else place_among blob_bytes (at + length (blob_bytes w)) rest v) < at + (length (blob_bytes w) + sum_by (λ (x : List ℕ). length (blob_bytes x)) rest)
place_test at w rest v true some later there = omega (arith, some)
place_test at w rest v false some later there = omega (arith, later there)

place_low : (at : ℕ) (values : List (List ℕ)) (v : List ℕ) → is_among values v ≡ true
    → place_among blob_bytes at values v < at + sum_by (λ (x : List ℕ). length (blob_bytes x)) values
unfolding place_among
place_low at [] v there = absurd cc
place_low at (w ∷ rest) v there =
    rw (sum_by-cons (λ (x : List ℕ). length (blob_bytes x)) w rest) (place_test at w rest v (bytes_eq w v) (blob_some w) (λ e. place_low (at + length (blob_bytes w)) rest v e) there)

offset_test : (start : ℕ) (values : List (List ℕ)) (v : List ℕ) (b : Bool)
    → (b || is_among values v) ≡ true → (if b then 0 else place_among blob_bytes (start + 1) values v) < joined_end blob_bytes start values
unfolding joined_end
offset_test start values v true there = omega arith
offset_test start values v false there = place_low (start + 1) values v there

pub blob_low : (h : Built) (v : List ℕ) → is_kept h.blobs v ≡ true → blob_offset h v < heaps_size h
unfolding is_kept offset_in heaps_size
blob_low h v kept = omega (arith, offset_test h.starts.blobs h.blobs v (is_empty v) kept)

-- no row is known where a value isn't kept, or none is known by the numbers
and_left : (a b : Bool) → a ≡ false → not (a && b) ≡ true
and_left true b h = absurd cc
and_left false b h = refl

and_right : (a b : Bool) → b ≡ false → not (a && b) ≡ true
and_right true b h = ap not h
and_right false b h = refl

unknown_by : (w : Writer) (k : Built) (d : Document) (b : Bool) → keeps_values w.heaps d ≡ b → Grown w.heaps k → row_known w (document_key k d) ≡ None → is_unknown w d ≡ true
unfolding is_unknown
unknown_by w k d true is grown none =
    and_right (keeps_values w.heaps d) (is_some (row_known w (document_key w.heaps d))) (ap (λ key. is_some (row_known w key)) (sym (values_stay w.heaps k d grown is).1) ∙ ap is_some none)
unknown_by w k d false is grown none = and_left (keeps_values w.heaps d) (is_some (row_known w (document_key w.heaps d))) is

pub unknown_row : (w : Writer) (k : Built) (d : Document) → Grown w.heaps k → row_known w (document_key k d) ≡ None → is_unknown w d ≡ true
unknown_row w k d grown none = unknown_by w k d (keeps_values w.heaps d) refl grown none

values_by : (w : Writer) (d : Document) (b : Bool) (size : ℕ) → keeps_values w.heaps d ≡ b → (not b && nat_lt most_pdb_weight size) ≡ true → is_unknown w d ≡ true
unfolding is_unknown
values_by w d true size is h = absurd cc
values_by w d false size is h = and_left (keeps_values w.heaps d) (is_some (row_known w (document_key w.heaps d))) is

-- a document whose values are refused would pass the limit
pub values_refused : (w : Writer) (d : Document) (name : List ℕ) → name ≡ d.name → heaps_size w.heaps ≤ w.weight → passes_with w.heaps (keeps_values w.heaps d) (40 + length name + length d.hash) ≡ true
    → (is_unknown w d && nat_lt most_pdb_weight (w.weight + document_weight d)) ≡ true
unfolding passes_with
values_refused w d name same size is =
    let long : length name ≡ length d.name = ap length same in
    and_from (is_unknown w d) (nat_lt most_pdb_weight (w.weight + document_weight d)) (values_by w d (keeps_values w.heaps d) (heaps_size w.heaps + (40 + length name + length d.hash)) refl is)
    (passes_past w.heaps (keeps_values w.heaps d) (40 + length name + length d.hash) (w.weight + document_weight d) (omega (arith, size, long)) is)

pub weight_refused : (w : Writer) (k : Built) (d : Document) (name hash size : ℕ) → name ≡ length d.name → hash ≡ length d.hash → Grown w.heaps k → row_known w (document_key k d) ≡ None → size ≤ w.weight + (96 + name + hash)
    → nat_lt most_pdb_weight size ≡ true → (is_unknown w d && nat_lt most_pdb_weight (w.weight + document_weight d)) ≡ true
weight_refused w k d name hash size n h grown none le is =
    and_from (is_unknown w d) (nat_lt most_pdb_weight (w.weight + document_weight d)) (unknown_row w k d grown none) (lt_more most_pdb_weight size (w.weight + document_weight d) (omega (arith, n, h, le)) is)

-- a row that is known
pub found_given : (w : Writer) (k : Built) (d : Document) (row : ℕ) → Grown w.heaps k → keeps_values k d ≡ true → (keeps_values w.heaps d ≡ true → k ≡ w.heaps) → Some row ≡ row_known w (document_key k d)
    → RowGiven d w (record { heaps = k; tables = w.tables; by_value = w.by_value; places = w.places; weight = w.weight }) row
found_given w k d row grown kept same known = record {
  grown = grown;
  kept = kept;
  by = subst (λ o. RowBy o d w (record { heaps = k; tables = w.tables; by_value = w.by_value; places = w.places; weight = w.weight }) row) known
      (record { rows = refl; known = refl; weight = refl; heaps = same }, refl);
  places = refl;
}

name_kept : (k l : Built) (d : Document) (n : ℕ) → Grown k l → keeps_values k d ≡ true → n ≡ blob_offset k d.name → is_kept l.blobs (name_blob n) ≡ true → keeps_document l d ≡ true
unfolding keeps_document
name_kept k l d n grown kept is there =
    and_from (keeps_values l d) (is_kept l.blobs (name_blob (blob_offset l d.name))) (values_stay k l d grown kept).0
    (ap (λ x. is_kept l.blobs (name_blob x)) ((grown.blobs d.name (parts_kept k d kept).name).1 ∙ sym is) ∙ there)

cells_given : (k l : Built) (d : Document) (numbers : List ℕ) → Grown k l → keeps_values k d ≡ true → numbers ≡ document_key k d
    → (blob_offset l (name_blob (slice_index numbers 0)) ∷ slice_index numbers 1 ∷ slice_index numbers 2 ∷ slice_index numbers 3 ∷ []) ≡ document_cells l d
unfolding document_cells document_key
cells_given k l d numbers grown kept is =
    let a = parts_kept k d kept in
    rw (is, (grown.blobs d.name a.name).1, (grown.guids d.algorithm a.algorithm).1, (grown.blobs d.hash a.hash).1, (grown.guids d.language a.language).1) refl

first_number : (k : Built) (d : Document) (numbers : List ℕ) → numbers ≡ document_key k d → slice_index numbers 0 ≡ blob_offset k d.name
unfolding document_key
first_number k d numbers is = rw is refl

pub first_low : (k : Built) (d : Document) (numbers : List ℕ) (most : ℕ) → numbers ≡ document_key k d → keeps_values k d ≡ true → heaps_size k ≤ most → slice_index numbers 0 < most
first_low k d numbers most is kept size =
    let e = first_number k d numbers is in
    let low = blob_low k d.name (parts_kept k d kept).name in
    omega (arith, e, low, size)

-- a row of its own
pub added_given : (w : Writer) (k l : Built) (d : Document) (numbers : List ℕ) (tables : List (List (List ℕ))) (known : BTreeMap (List ℕ) ℕ) (name hash weight row : ℕ) → name ≡ length d.name → hash ≡ length d.hash
    → Grown w.heaps k → Grown k l → keeps_values k d ≡ true → numbers ≡ document_key k d → row_known w numbers ≡ None → is_kept l.blobs (name_blob (slice_index numbers 0)) ≡ true
    → OneDocument w.tables tables (blob_offset l (name_blob (slice_index numbers 0)) ∷ slice_index numbers 1 ∷ slice_index numbers 2 ∷ slice_index numbers 3 ∷ []) → row ≡ count_at tables 0x30
    → Updates (slice_cmp nat_cmp) w.by_value known numbers (Some row) → weight ≡ w.weight + (96 + name + hash) → heaps_size k ≤ heaps_size w.heaps + (40 + name + hash) → heaps_size l ≤ heaps_size k + 9
    → RowGiven d w (record { heaps = l; tables = tables; by_value = known; places = w.places; weight = weight }) row
added_given w k l d numbers tables known name hash weight row n h grown more kept is none there rows number updates heavy size longer =
    let key : numbers ≡ document_key l d = is ∙ sym (values_stay k l d more kept).1 in
    let new : Writer = record { heaps = l; tables = tables; by_value = known; places = w.places; weight = weight } in
    record {
      grown = grown_twice w.heaps k l grown more;
      kept = (values_stay k l d more kept).0;
      by = subst (λ o. RowBy o d w new row) (sym none ∙ ap (λ x. row_known w x) key) (record {
        rows = subst (λ cells. OneDocument w.tables tables cells) (cells_given k l d numbers more kept is) rows;
        kept = name_kept k l d (slice_index numbers 0) more kept (first_number k d numbers is) there;
        known = subst (λ x. Updates (slice_cmp nat_cmp) w.by_value known x (Some row)) key updates;
        number = number;
        weight = heavy ∙ omega (arith, n, h);
        size = omega (arith, n, h, size, longer);
      });
      places = refl;
    }

-- a name that was put into an empty list
pub name_is : (name out front there : List ℕ) → name ≡ out → out ≡ front ++ there → front ≡ [] → name ≡ there
name_is name out front there a b none = a ∙ b ∙ ap (λ xs. xs ++ there) none
