-- A document that is given a row: what is written holds as before, with that document among the others.
use Rattle.std.proofs.Common.{◌≡◌, ℕ, suc, ◌+◌, Bool, true, false, cond, ◌||◌, List, [], ◌∷◌, ◌++◌, length, map, Option, Some, None, refl, sym, ap, subst, ◌∙◌, arith}
use Rattle.std.specs.Prelude.{bytes_eq, position, option_map, is_some, unwrap_or, sum_by, if◌then◌else◌, slice_get}
use Rattle.std.specs.List.{list_all, list_any}
use Rattle.std.specs.BTreeMap.{is_at}
use Rattle.std.specs.Cmp.Lexicographic.{slice_cmp}
use Rattle.std.specs.Ordering.{nat_cmp}
use Rattle.std.proofs.lemmas.Bool.{and_parts}
use Rattle.std.proofs.lemmas.Map.Text.{is_eq-slice_cmp}
use Rattle.std.proofs.lemmas.List.{length-append, map-append, length-map}
use Rattle.std.proofs.lemmas.List.Folds.{list_any-append, list_all-append}
use Rattle.std.proofs.lemmas.List.Sums.{sum_by-append}
use Rattle.enc_meta.proofs.Places.{bytes_eq_sym}
use Rattle.enc_meta.proofs.Standing.{same_bytes}
use Rattle.enc_meta.specs.Built.{Built}
use Rattle.enc_plain.proofs.Owned.{position_cons}
use Rattle.enc_plain.specs.Debug.{Document, PlainPoint, MethodDebug, PlainPdb}
use Rattle.enc_rows.specs.Written.{rows_at, count_at}
use Rattle.enc_seqpoints.specs.Grammar.{method_points}
use Rattle.enc_ppdb.specs.declared.writer.Writer.{Writer}
use Rattle.enc_ppdb.specs.Written.{is_same, with_document, nth_method, row_among, points_numbered, document_weight}
use Rattle.enc_ppdb.specs.Holding.{document_key, keeps_values, document_cells, keeps_document, Grown, row_known, RowAdded, RowFound, RowBy, RowGiven, has_among, have_rows, MethodHeld, IsPdbHeld}
use Rattle.enc_ppdb.proofs.DocumentKeys.{same_parts, same_self, key_place, all_stay, document_values}
use Rattle.enc_ppdb.proofs.Positions.{position_any}

-- one element more
more_by : (a b : Bool) (o : Option ℕ) (n : ℕ)
    → (if a then Some 0 else option_map suc (if b then o else Some n)) ≡ (if a || b then (if a then Some 0 else option_map suc o) else Some (suc n))
more_by true b o n = refl
more_by false true o n = refl
more_by false false o n = refl

less_by : (a b : Bool) (o : Option ℕ) → (if a then Some 0 else option_map suc (if b then o else None)) ≡ (if a || b then (if a then Some 0 else option_map suc o) else None)
less_by true b o = refl
less_by false true o = refl
less_by false false o = refl

position_last : {X : Type 0} (p : X → Bool) (xs : List X) (y : X) → p y ≡ true → position p (xs ++ y ∷ []) ≡ (if list_any p xs then position p xs else Some (length xs))
position_last p [] y is = position_cons p y [] ∙ rw is refl
position_last p (x ∷ xs) y is =
    rw (position_cons p x (xs ++ y ∷ []), position_last p xs y is, position_cons p x xs) (more_by (p x) (list_any p xs) (position p xs) (length xs))

position_other : {X : Type 0} (p : X → Bool) (xs : List X) (y : X) → p y ≡ false → position p (xs ++ y ∷ []) ≡ (if list_any p xs then position p xs else None)
position_other p [] y is = position_cons p y [] ∙ rw is refl
position_other p (x ∷ xs) y is =
    rw (position_cons p x (xs ++ y ∷ []), position_other p xs y is, position_cons p x xs) (less_by (p x) (list_any p xs) (position p xs))

position_by : {X : Type 0} (p : X → Bool) (xs : List X) (y : X) (b : Bool) → p y ≡ b → list_any p xs ≡ true → position p (xs ++ y ∷ []) ≡ position p xs
position_by p xs y true is among = position_last p xs y is ∙ rw among refl
position_by p xs y false is among = position_other p xs y is ∙ rw among refl

position_stays : {X : Type 0} (p : X → Bool) (xs : List X) (y : X) → list_any p xs ≡ true → position p (xs ++ y ∷ []) ≡ position p xs
position_stays p xs y among = position_by p xs y (p y) refl among

or_true : (a b : Bool) → a ≡ true → (a || b) ≡ true
or_true true b h = refl
or_true false b h = absurd cc

-- a row that is given stays
row_stays : (documents : List Document) (e : Document) (o : Option Document) → has_among documents o ≡ true
    → (has_among (documents ++ e ∷ []) o ≡ true) × (row_among (documents ++ e ∷ []) o ≡ row_among documents o)
unfolding row_among
row_stays documents e None among = absurd cc
row_stays documents e (Some d) among = (
  list_any-append (is_same d) documents (e ∷ []) ∙ or_true (list_any (is_same d) documents) (list_any (is_same d) (e ∷ [])) among,
  ap (λ x. unwrap_or (option_map suc x) 0) (position_stays (is_same d) documents e among),
)

pub points_stay : (documents : List Document) (e : Document) (points : List PlainPoint) → have_rows documents points ≡ true
    → (have_rows (documents ++ e ∷ []) points ≡ true) × (points_numbered (documents ++ e ∷ []) points ≡ points_numbered documents points)
unfolding have_rows points_numbered
points_stay documents e [] among = (refl, refl)
points_stay documents e (p ∷ points) among =
    let parts = and_parts (has_among documents p.document) (list_all (λ (q : PlainPoint). has_among documents q.document) points) among in
    let one = row_stays documents e p.document parts.0 in
    let rest = points_stay documents e points parts.1 in
    (rw (one.0, rest.0) refl, rw (one.1, rest.1) refl)

-- so does the row of a method
method_more : (h k : Built) (documents : List Document) (e : Document) (d : MethodDebug) (cells : List ℕ) → Grown h k → MethodHeld h documents d cells → MethodHeld k (documents ++ e ∷ []) d cells
method_more h k documents e d cells grown held =
    let stays = points_stay documents e d.points held.among in
    let blob = grown.blobs held.blob held.kept in
    record {
      blob = held.blob;
      first = held.first;
      cells = held.cells ∙ ap (λ n. held.first ∷ n ∷ []) (sym blob.1);
      kept = blob.0;
      reads = held.reads ∙ ap (λ x. Some (method_points d.locals x)) (sym stays.1);
      low = rw (length-append documents (e ∷ [])) (omega (arith, held.low));
      several = held.several;
      among = stays.0;
    }

pub among_kept : (h : Built) (d : Document) (documents : List Document) → list_any (is_same d) documents ≡ true → list_all (keeps_document h) documents ≡ true → keeps_values h d ≡ true
among_kept h d [] among all = absurd cc
among_kept h d (e ∷ documents) among all =
    let parts = and_parts (keeps_document h e) (list_all (keeps_document h) documents) all in
    by h (is_same d e) refl among (document_values h e parts.0) (λ later. among_kept h d documents later parts.1)
  where
    by : (h : Built) (b : Bool) → is_same d e ≡ b → (b || list_any (is_same d) documents) ≡ true → keeps_values h e ≡ true → (list_any (is_same d) documents ≡ true → keeps_values h d ≡ true) → keeps_values h d ≡ true
    by h true is any kept later = ap (λ x. keeps_values h x) (same_parts d e is) ∙ kept
    by h false is any kept later = later any

-- what is known by the numbers of a document is its row
pub known_row : (p : PlainPdb) (n room : ℕ) (placed : ℕ → Option Document) (documents : List Document) (old : Writer) (k : Built) (d : Document) → IsPdbHeld p n room placed documents old → Grown old.heaps k → keeps_values k d ≡ true
    → row_known old (document_key k d) ≡ option_map suc (position (is_same d) documents)
known_row p n room placed documents old k d held grown kept =
    let stays = all_stay old.heaps k documents grown held.kept in
    held.by_value (document_key k d) ∙ ap (λ keys. option_map suc (position (bytes_eq (document_key k d)) keys)) (sym stays.2)
    ∙ ap (λ x. option_map suc x) (key_place k d documents kept stays.0)

same_writer : (old new : Writer) → new.heaps ≡ old.heaps → new.tables ≡ old.tables → new.by_value ≡ old.by_value → new.places ≡ old.places → new.weight ≡ old.weight → old ≡ new
same_writer old new a b c d e = rw (← a, ← b, ← c, ← d, ← e) refl

-- what a document with a row comes to
pub record NowHeld (p : PlainPdb) (n room : ℕ) (placed : ℕ → Option Document) (documents after : List Document) (d : Document) (old new : Writer) (given : ℕ) : Type 0 where
  pub held : IsPdbHeld p n room placed after new
  pub row : row_among after (Some d) ≡ given
  pub among : has_among after (Some d) ≡ true
  pub weight : new.weight + sum_by document_weight documents ≡ old.weight + sum_by document_weight after

pub with_known : (documents : List Document) (d : Document) → list_any (is_same d) documents ≡ true → with_document documents d ≡ documents
unfolding with_document
with_known documents d among = rw among refl

pub with_new : (documents : List Document) (d : Document) → list_any (is_same d) documents ≡ false → with_document documents d ≡ documents ++ d ∷ []
unfolding with_document
with_new documents d among = rw among refl

found_there : (p : PlainPdb) (n room : ℕ) (placed : ℕ → Option Document) (documents : List Document) (d : Document) (old new : Writer) (row i : ℕ) → position (is_same d) documents ≡ Some i → IsPdbHeld p n room placed documents old
    → RowFound d old new → row ≡ suc i → new.places ≡ old.places → NowHeld p n room placed documents documents d old new row
unfolding row_among
found_there p n room placed documents d old new row i is held found number places =
    let among : list_any (is_same d) documents ≡ true = sym (position_any (is_same d) documents) ∙ ap is_some is in
    let heaps = found.heaps (among_kept old.heaps d documents among held.kept) in
    let same = same_writer old new heaps found.rows found.known places found.weight in
    record {
      held = subst (λ w. IsPdbHeld p n room placed documents w) same held;
      row = ap (λ x. unwrap_or (option_map suc x) 0) is ∙ sym number;
      among = among;
      weight = ap (λ w. w + sum_by document_weight documents) found.weight;
    }

-- a row of its own
eq_query : (key k : List ℕ) → is_at (slice_cmp nat_cmp key) k ≡ bytes_eq key k
eq_query key k = is_eq-slice_cmp key k

absent : (o : Option ℕ) → is_some o ≡ false → o ≡ None
absent None h = refl
absent (Some i) h = absurd cc

last_key : (keys : List (List ℕ)) (key k : List ℕ) (row : ℕ) (b : Bool) (o : Option ℕ) → bytes_eq key k ≡ b → o ≡ cond b (Some row) (option_map suc (position (bytes_eq k) keys)) → position (bytes_eq key) keys ≡ None → row ≡ suc (length keys)
    → o ≡ option_map suc (position (bytes_eq k) (keys ++ key ∷ []))
last_key keys key k row true o is now none number =
    let same : key ≡ k = same_bytes key k is in
    let free : list_any (bytes_eq k) keys ≡ false = ap (λ x. list_any (bytes_eq x) keys) (sym same) ∙ sym (position_any (bytes_eq key) keys) ∙ ap is_some none in
    now ∙ rw (position_last (bytes_eq k) keys key (bytes_eq_sym k key ∙ is), free) (ap (λ x. Some x) number)
last_key keys key k row false o is now none number =
    now ∙ ap (λ x. option_map suc x) (by (list_any (bytes_eq k) keys) refl)
  where
    by : (b : Bool) → list_any (bytes_eq k) keys ≡ b → position (bytes_eq k) keys ≡ position (bytes_eq k) (keys ++ key ∷ [])
    by true among = sym (position_stays (bytes_eq k) keys key among)
    by false free = absent (position (bytes_eq k) keys) (position_any (bytes_eq k) keys ∙ free) ∙ sym (position_other (bytes_eq k) keys key (bytes_eq_sym k key ∙ is) ∙ rw free refl)

all_more : (h : Built) (documents : List Document) (d : Document) → list_all (keeps_document h) documents ≡ true → keeps_document h d ≡ true → list_all (keeps_document h) (documents ++ d ∷ []) ≡ true
all_more h documents d all one = rw (list_all-append (keeps_document h) documents (d ∷ []), all, one) refl

place_more : (documents : List Document) (e : Document) (o : Option Document) (row : ℕ) → (row_among documents o ≡ row) × (has_among documents o ≡ true)
    → (row_among (documents ++ e ∷ []) o ≡ row) × (has_among (documents ++ e ∷ []) o ≡ true)
place_more documents e o row is = let stays = row_stays documents e o is.1 in (stays.1 ∙ is.0, stays.0)

end_true : (a b : Bool) → b ≡ true → (a || (b || false)) ≡ true
end_true true b h = refl
end_true false true h = refl
end_true false false h = absurd cc

added_there : (p : PlainPdb) (n room : ℕ) (placed : ℕ → Option Document) (documents : List Document) (d : Document) (old new : Writer) (row : ℕ) → position (is_same d) documents ≡ None → IsPdbHeld p n room placed documents old
    → Grown old.heaps new.heaps → keeps_values new.heaps d ≡ true → RowAdded d old new row → new.places ≡ old.places → NowHeld p n room placed documents (documents ++ d ∷ []) d old new row
unfolding row_among row_known
added_there p n room placed documents d old new row is held grown kept added places =
    let free : list_any (is_same d) documents ≡ false = sym (position_any (is_same d) documents) ∙ ap is_some is in
    let stays = all_stay old.heaps new.heaps documents grown held.kept in
    let rows : rows_at new.tables 0x30 ≡ map (document_cells new.heaps) (documents ++ d ∷ []) =
    added.rows 0x30 ∙ ap (λ (xs : List (List ℕ)). xs ++ document_cells new.heaps d ∷ []) (held.rows ∙ sym stays.1) ∙ sym (map-append (document_cells new.heaps) documents (d ∷ [])) in
    let many : count_at new.tables 0x30 ≡ suc (length documents) = ap length rows ∙ length-map (documents ++ d ∷ []) (document_cells new.heaps) ∙ length-append documents (d ∷ []) ∙ omega arith in
    let keys : length (map (document_key new.heaps) documents) ≡ length documents = length-map documents (document_key new.heaps) in
    record {
      held = record {
        starts = grown.starts ∙ held.starts;
        texts = grown.texts ∙ held.texts;
        users = grown.users ∙ held.users;
        size = omega (arith, added.size, held.size, added.weight, length-append documents (d ∷ []));
        rows = rows;
        kept = all_more new.heaps documents d stays.0 added.kept;
        by_value = λ key.
            last_key (map (document_key new.heaps) documents) (document_key new.heaps d) key row (bytes_eq (document_key new.heaps d) key) (row_known new key) refl
            (added.known.0 key ∙ ap (λ b. cond b (Some row) (row_known old key)) (eq_query (document_key new.heaps d) key)
            ∙ ap (λ o. cond (bytes_eq (document_key new.heaps d) key) (Some row) o) (held.by_value key ∙ ap (λ xs. option_map suc (position (bytes_eq key) xs)) (sym stays.2)))
            (key_place new.heaps d documents kept stays.0 ∙ is) (added.number ∙ many ∙ ap suc (sym keys))
            ∙ ap (λ xs. option_map suc (position (bytes_eq key) xs)) (sym (map-append (document_key new.heaps) documents (d ∷ [])));
        places = λ place r at. place_more documents d (placed place) r (held.places place r (rw places at at));
        count = ap length (added.rows 0x31) ∙ held.count;
        method = λ k cells at. method_more old.heaps new.heaps documents d (nth_method p k) cells grown (held.method k cells (sym (ap (λ xs. slice_get xs k) (added.rows 0x31)) ∙ at));
        others = λ table a b. ap length (added.rows table ∙ rw a refl) ∙ held.others table a b;
      };
      row = ap (λ x. unwrap_or (option_map suc x) 0) (position_last (is_same d) documents d (same_self d) ∙ ap (λ b. if b then position (is_same d) documents else Some (length documents)) free) ∙ sym (added.number ∙ many);
      among = list_any-append (is_same d) documents (d ∷ []) ∙ end_true (list_any (is_same d) documents) (is_same d d) (same_self d);
      weight = rw (sum_by-append document_weight documents (d ∷ []), added.weight) (omega arith);
    }

by_place : (p : PlainPdb) (n room : ℕ) (placed : ℕ → Option Document) (documents : List Document) (d : Document) (old new : Writer) (row : ℕ) (o : Option ℕ) → position (is_same d) documents ≡ o → IsPdbHeld p n room placed documents old
    → Grown old.heaps new.heaps → keeps_values new.heaps d ≡ true → RowBy (option_map suc o) d old new row → new.places ≡ old.places → NowHeld p n room placed documents (with_document documents d) d old new row
by_place p n room placed documents d old new row None is held grown kept by places =
    subst (λ after. NowHeld p n room placed documents after d old new row) (sym (with_new documents d (sym (position_any (is_same d) documents) ∙ ap is_some is)))
    (added_there p n room placed documents d old new row is held grown kept by places)
by_place p n room placed documents d old new row (Some i) is held grown kept by places =
    subst (λ after. NowHeld p n room placed documents after d old new row) (sym (with_known documents d (sym (position_any (is_same d) documents) ∙ ap is_some is)))
    (found_there p n room placed documents d old new row i is held by.0 by.1 places)

-- what is written still holds, with the document among the others
pub now_held : (p : PlainPdb) (n room : ℕ) (placed : ℕ → Option Document) (documents : List Document) (d : Document) (old new : Writer) (row : ℕ) → IsPdbHeld p n room placed documents old → RowGiven d old new row → NowHeld p n room placed documents (with_document documents d) d old new row
now_held p n room placed documents d old new row held given =
    by_place p n room placed documents d old new row (position (is_same d) documents) refl held given.grown given.kept
    (subst (λ o. RowBy o d old new row) (known_row p n room placed documents old new.heaps d held given.grown given.kept) given.by) given.places
