-- What the tests build fits, and is short.
use Rattle.std.proofs.Common.{◌≡◌, ℕ, ◌+◌, ◌*◌, ◌^◌, ◌<◌, ◌≤◌, Bool, true, false, List, [], ◌∷◌, ◌++◌, length, refl, ap, arith, length-append, eqb-true}
use Rattle.std.specs.Prelude.{flat_map, IsTrue, sum_by, codes, replicate, ◌==◌, if◌then◌else◌}
use Rattle.std.specs.List.{list_all}
use Rattle.std.proofs.lemmas.List.{length-replicate}
use Rattle.std.proofs.lemmas.List.Sums.{sum_by-cons}
use Rattle.std.proofs.lemmas.Bool.{and_parts, and_from}
use Rattle.enc_meta.specs.Heaps.{Counted}
use Rattle.enc_base.specs.Numbers.{padded}
use Rattle.enc_meta.specs.Built.{none_from, with_text, text_bytes, user_bytes, blob_bytes, heap_bytes, guid_bytes, joined_end, heaps_built, AreWithinLimits}
use Rattle.enc_meta.specs.declared.heaps.HeapLengths.{HeapLengths}
use Rattle.enc_meta.specs.declared.span.Span.{Span}
use Rattle.enc_rows.specs.Written.{rows_at, count_at, stream_of, heap_bits, AreRows, IndicesFit}
use Rattle.enc_rows.proofs.Small.{small, small_indices_fit, stream_few}
use Rattle.enc_emit.specs.Written.{Parts, Further, five_end, streams_begin, size_with_further, built_size, pdb_built_size}
use Rattle.enc_emit.specs.Little.{AreNear, IsLittle}

pub little_none : (p : Parts) (starts : HeapLengths) → AreNear starts → p.heaps ≡ none_from starts → p.rows ≡ [] → IsLittle p
little_none p starts near h r = record {
  small = λ k. rw r refl;
  few = λ k. rw r (omega arith);
  near = rw h near;
  users = rw h refl;
  blobs = rw h refl;
  guids = rw h refl;
}

all_push : {A : Type 0} (test : A → Bool) (xs : List A) (x : A) → IsTrue (list_all test xs) → IsTrue (test x) → IsTrue (list_all test (xs ++ x ∷ []))
all_push test [] x all one = and_from _ _ one refl
all_push test (y ∷ xs) x all one =
    let parts = and_parts (test y) (list_all test xs) all in
    and_from _ _ parts.0 (all_push test xs x parts.1 one)

pub little_push : (p q : Parts) (table : ℕ) (cells : List ℕ) → IsLittle p → q.heaps ≡ p.heaps → ((k : ℕ) → rows_at q.rows k ≡ (if k == table then rows_at p.rows k ++ cells ∷ [] else rows_at p.rows k)) → IsTrue (small cells) → count_at p.rows table < 8 → IsLittle q
little_push p q table cells little h r low room = record {
  small = λ k. rw (r k) (rows_by (k == table) (rows_at p.rows k) (little.small k));
  few = λ k. rw (r k) (count_by k (k == table) refl);
  near = rw h little.near;
  users = rw h little.users;
  blobs = rw h little.blobs;
  guids = rw h little.guids;
}
  where
    rows_by : (b : Bool) (rows : List (List ℕ)) → IsTrue (list_all small rows) → IsTrue (list_all small (if b then rows ++ cells ∷ [] else rows))
    rows_by true rows all = all_push small rows cells all low
    rows_by false rows all = all

    count_by : (k : ℕ) (b : Bool) → k == table ≡ b → length (if b then rows_at p.rows k ++ cells ∷ [] else rows_at p.rows k) ≤ 8
    count_by k true e =
        let same : k ≡ table = eqb-true k table e in
        omega (arith, length-append (rows_at p.rows k) (cells ∷ []), ap (λ t. count_at p.rows t) same, room)
    count_by k false e = little.few k

pub little_same : (p q : Parts) → IsLittle p → q.heaps ≡ p.heaps → ((k : ℕ) → rows_at q.rows k ≡ rows_at p.rows k) → IsLittle q
little_same p q little h r = record {
  small = λ k. rw (r k) (little.small k);
  few = λ k. rw (r k) (little.few k);
  near = rw h little.near;
  users = rw h little.users;
  blobs = rw h little.blobs;
  guids = rw h little.guids;
}

pub little_text : (p q : Parts) (text : List ℕ) → IsLittle p → q.rows ≡ p.rows → q.heaps ≡ with_text p.heaps text → IsLittle q
little_text p q text little r h = record {
  small = λ k. rw r (little.small k);
  few = λ k. rw r (little.few k);
  near = rw h little.near;
  users = rw h little.users;
  blobs = rw h little.blobs;
  guids = rw h little.guids;
}

pub little_fits : (p : Parts) (jtd : Bool) → IsLittle p → AreRows p.rows → IndicesFit p.rows jtd
little_fits p jtd little rows = small_indices_fit p.rows jtd rows little.small

length_flat : {A : Type 0} (f : A → List ℕ) (xs : List A) → length (flat_map f xs) ≡ sum_by (λ x. length (f x)) xs
length_flat f [] = refl
length_flat f (x ∷ xs) = rw (sum_by-cons (λ y. length (f y)) x xs) (omega (arith, length-append (f x) (flat_map f xs), length_flat f xs))

heap_length : (encode : List ℕ → List ℕ) (start : ℕ) (values : List (List ℕ)) → start + length (heap_bytes encode values) ≡ joined_end encode start values
unfolding heap_bytes joined_end
heap_length encode start values = omega (arith, length_flat encode values)

no_values : (encode : List ℕ → List ℕ) (values : List (List ℕ)) → values ≡ [] → length (heap_bytes encode values) ≡ 1
unfolding heap_bytes
no_values encode values e = rw e refl

no_guids : (start : ℕ) (guids : List (List ℕ)) → guids ≡ [] → length (guid_bytes start guids) ≡ 16 * start
unfolding guid_bytes
no_guids start guids e = rw e (omega (arith, length-append {A = ℕ} (replicate (16 * start) 0) [], length-replicate {A = ℕ} (16 * start) 0))

padded_few : (n : ℕ) → padded n ≤ n + 3
unfolding padded
padded_few n = omega arith

five_few : (p : Parts) (jtd : Bool) (start : ℕ) → IsLittle p → AreRows p.rows → AreWithinLimits p.heaps → start ≤ 124 → five_end start (stream_of p.rows jtd (heap_bits p.rows)) (heaps_built p.heaps) < 2 ^ 31
unfolding heaps_built
five_few p jtd start little rows limits low =
    let b = p.heaps in
    let nowhere : Span = record { start = 0; len = 0 } in
    let stream = stream_few p.rows nowhere jtd (heap_bits p.rows) rows little.few in
    let h : Counted = heaps_built b in
    let strings : b.starts.strings + length h.strings ≡ joined_end text_bytes b.starts.strings b.texts = heap_length text_bytes b.starts.strings b.texts in
    let users : length h.users ≡ 1 = no_values user_bytes b.users little.users in
    let blobs : length h.blobs ≡ 1 = no_values blob_bytes b.blobs little.blobs in
    let guids : length h.guids ≡ 16 * b.starts.guids = no_guids b.starts.guids b.guids little.guids in
    omega (arith, stream, strings, users, blobs, guids, limits.texts, little.near.strings, little.near.guids, low, padded_few (length (stream_of p.rows jtd (heap_bits p.rows))), padded_few (length h.strings), padded_few (length h.users), padded_few (length h.blobs), padded_few (length h.guids))

-- with a further stream that is short, of a name of four bytes
six_few : (p : Parts) (jtd : Bool) (f : Further) → IsLittle p → AreRows p.rows → AreWithinLimits p.heaps → length f.name ≡ 4 → length f.bytes ≤ 1000 → size_with_further (f ∷ []) (stream_of p.rows jtd (heap_bits p.rows)) (heaps_built p.heaps) < 2 ^ 32
six_few p jtd f little rows limits four short =
    let begin : streams_begin (f ∷ []) ≤ 124 = omega (arith, four, padded_few (length f.name + 1)) in
    omega (arith, five_few p jtd (streams_begin (f ∷ [])) little rows limits begin, short, padded_few (length f.bytes))

pub little_size : (p : Parts) (jtd : Bool) → IsLittle p → AreRows p.rows → AreWithinLimits p.heaps → built_size p jtd < 2 ^ 32
little_size p true little rows limits = six_few p true (record { name = codes "#JTD"; bytes = [] }) little rows limits refl (omega arith)
little_size p false little rows limits = omega (arith, five_few p false 108 little rows limits (omega arith))

pub little_pdb_size : (p : Parts) (pdb : List ℕ) → IsLittle p → AreRows p.rows → AreWithinLimits p.heaps → length pdb ≤ 1000 → pdb_built_size p pdb < 2 ^ 32
little_pdb_size p pdb little rows limits short = six_few p false (record { name = codes "#Pdb"; bytes = pdb }) little rows limits refl short
