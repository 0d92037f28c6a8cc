-- Points that can be spelled with one row can be spelled with any rows, in so many bytes.
use Rattle.std.proofs.Common.{◌≡◌, ℕ, Bool, true, false, ◌||◌, ◌&&◌, List, [], ◌∷◌, map, Option, refl, sym, ap, ◌∙◌, arith, Result, Ok, Err}
use Rattle.std.specs.Prelude.{◌==◌, is_ok, if◌then◌else◌}
use Rattle.std.specs.List.{list_all}
use Rattle.std.proofs.lemmas.Bool.{and_parts}
use Rattle.std.proofs.lemmas.Bool.Decides.{nat_tests}
use Rattle.enc_seqpoints.specs.declared.base.Base.{Base}
use Rattle.enc_seqpoints.specs.declared.base.Record.TheVariants.{Sequence}
use Rattle.enc_seqpoints.specs.declared.point.Point.{Point}
use Rattle.enc_seqpoints.specs.Grammar.{is_row, after, opened, start_after}
use Rattle.enc_seqpoints.specs.Spelling.{document_holds, is_later, are_writable, is_writable, point_bytes, preceded, records_of, first_document, header_bytes, blob_of}

-- points with rows of their own
abbrev pub pointed : {X : Type 0} → (X → ℕ) → (X → Option (ℕ × ℕ × ℕ × ℕ)) → (X → ℕ) → X → Point
pointed at lines f x = record { offset = at x; document = f x; lines = lines x }

ok_if : (t : Bool) (r : Result (List ℕ) ℕ) → is_ok (if t then r else Err 0) ≡ true → (t ≡ true) × (is_ok r ≡ true)
ok_if true r is = (refl, is)
ok_if false r is = absurd cc

ok_preceded : (n : ℕ) (front : List ℕ) (r : Result (List ℕ) ℕ) → is_ok (preceded n front r) ≡ is_ok r
ok_preceded n front (Ok bytes) = refl
ok_preceded n front (Err i) = refl

-- the first point, and those behind it
ok_parts : (b : Base) (p : Point) (points : List Point) → is_ok (records_of b (p ∷ points)) ≡ true → (is_writable b p ≡ true) × (is_ok (records_of (after b (Sequence p)) points) ≡ true)
unfolding records_of
ok_parts b p points is =
    let parts = ok_if (is_writable b p) (preceded 1 (point_bytes b p) (records_of (after b (Sequence p)) points)) is in
    (parts.0, sym (ok_preceded 1 (point_bytes b p) (records_of (after b (Sequence p)) points)) ∙ parts.1)

ok_more : (b : Base) (p : Point) (points : List Point) → is_writable b p ≡ true → is_ok (records_of (after b (Sequence p)) points) ≡ true → is_ok (records_of b (p ∷ points)) ≡ true
unfolding records_of
ok_more b p points is rest = rw is (ok_preceded 1 (point_bytes b p) (records_of (after b (Sequence p)) points) ∙ rest)

writable_too : (b c : Base) (offset : ℕ) (lines : Option (ℕ × ℕ × ℕ × ℕ)) (one row : ℕ) → b.offset ≡ c.offset → b.start ≡ c.start → document_holds c row ≡ true → is_writable b (record { offset = offset; document = one; lines = lines }) ≡ true → is_writable c (record { offset = offset; document = row; lines = lines }) ≡ true
unfolding is_writable
writable_too b c at lines one row offset start holds is =
    let parts = and_parts (document_holds b one) (is_later b.offset at && are_writable b.start lines) is in
    rw (holds, ← offset, ← start) parts.1

or_end : (a b : Bool) → b ≡ true → (a || b) ≡ true
or_end true b h = refl
or_end false b h = h

behind_holds : (b : Base) (p : Point) (row : ℕ) → is_row row ≡ true → document_holds (after b (Sequence p)) row ≡ true
unfolding document_holds after
behind_holds b p row is = or_end (row == p.document) (is_row row) is

none_ok : (b : Base) → is_ok (records_of b []) ≡ true
unfolding records_of
none_ok b = refl

all_ok : {X : Type 0} (at : X → ℕ) (lines : X → Option (ℕ × ℕ × ℕ × ℕ)) (g f : X → ℕ) (b c : Base) (p : X) (points : List X) → b.offset ≡ c.offset → b.start ≡ c.start → document_holds c (f p) ≡ true
    → list_all (λ (q : X). is_row (f q)) points ≡ true
    → is_ok (records_of b (map (pointed at lines g) (p ∷ points))) ≡ true → is_ok (records_of c (map (pointed at lines f) (p ∷ points))) ≡ true
unfolding after
all_ok at lines g f b c p [] offset start holds all is =
    let parts = ok_parts b (pointed at lines g p) [] is in
    ok_more c (pointed at lines f p) [] (writable_too b c (at p) (lines p) (g p) (f p) offset start holds parts.0) (none_ok (after c (Sequence (pointed at lines f p))))
all_ok at lines g f b c p (q ∷ points) offset start holds all is =
    let parts = ok_parts b (pointed at lines g p) (map (pointed at lines g) (q ∷ points)) is in
    let rows = and_parts (is_row (f q)) (list_all (λ r. is_row (f r)) points) all in
    ok_more c (pointed at lines f p) (map (pointed at lines f) (q ∷ points)) (writable_too b c (at p) (lines p) (g p) (f p) offset start holds parts.0)
    (all_ok at lines g f (after b (Sequence (pointed at lines g p))) (after c (Sequence (pointed at lines f p))) q points refl (ap (λ s. start_after s (lines p)) start)
    (behind_holds c (pointed at lines f p) (f q) rows.0) rows.1 parts.1)

eq_self : (n : ℕ) → (n == n) ≡ true
eq_self n = grind (arith, nat_tests)

opened_holds : (n : ℕ) → document_holds (opened n) n ≡ true
unfolding document_holds
opened_holds n = rw (eq_self n) refl

-- points that can be spelled can be spelled with other rows, where the first one holds at first
pub spelled_so : {X : Type 0} (at : X → ℕ) (lines : X → Option (ℕ × ℕ × ℕ × ℕ)) (g f : X → ℕ) (a b locals document : ℕ) (p : X) (points : List X) → list_all (λ (q : X). is_row (f q)) (p ∷ points) ≡ true
    → first_document document (map (pointed at lines f) (p ∷ points)) ≡ f p → is_ok (blob_of a b (map (pointed at lines g) (p ∷ points))) ≡ true
    → is_ok (blob_of locals document (map (pointed at lines f) (p ∷ points))) ≡ true
unfolding blob_of
spelled_so at lines g f a b locals document p points all same is =
    let rows = and_parts (is_row (f p)) (list_all (λ q. is_row (f q)) points) all in
    let ys = map (pointed at lines f) (p ∷ points) in
    let xs = map (pointed at lines g) (p ∷ points) in
    let one = first_document b xs in
    ok_preceded 0 (header_bytes locals document (first_document document ys)) (records_of (opened (first_document document ys)) ys)
    ∙ rw same (all_ok at lines g f (opened one) (opened (f p)) p points refl refl (opened_holds (f p)) rows.1
    (sym (ok_preceded 0 (header_bytes a b one) (records_of (opened one) xs)) ∙ is))

-- none always can
pub none_spelled : (locals document : ℕ) → is_ok (blob_of locals document []) ≡ true
unfolding blob_of
none_spelled locals document =
    let first = first_document document [] in
    ok_preceded 0 (header_bytes locals document first) (records_of (opened first) []) ∙ none_ok (opened first)
