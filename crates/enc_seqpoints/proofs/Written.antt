-- What is read can be written: points, records and blobs.
use Rattle.std.proofs.Common.{◌≡◌, ℕ, zero, suc, ◌+◌, ◌^◌, ◌<◌, Bool, true, false, List, [], ◌∷◌, length, Option, Some, None, refl, ap, sym, subst, ◌∙◌, arith}
use Rattle.std.proofs.lemmas.Bool.{lt-ltb, eq-eqb, ltb-true, eqb-true, eqb-false, and_parts, and_from, or_left, or_right}
use Rattle.std.specs.Prelude.{◌&&◌, ◌==◌, nat_lt, is_some, is_ok, option_map, Result, Ok, Err, if◌then◌else◌}
use Rattle.enc_seqpoints.specs.declared.point.Point.{Point}
use Rattle.enc_seqpoints.specs.declared.base.Base.{Base}
use Rattle.enc_seqpoints.specs.declared.base.Record.{Record}
use Rattle.enc_seqpoints.specs.declared.base.Record.TheVariants.{Document, Sequence}
use Rattle.enc_seqpoints.specs.Grammar.{leading, continued, is_row, document_row_in, moved, column_difference_in, start_in, are_lines, spanned, seen_in, lines_in, offset_from, point_in, begun_in, record_in, after, with_record, records_in, opened, document_in, header_in, body_in, points_in, method_points, MethodPoints}
use Rattle.enc_base.specs.Readers.{giving, both, number_in, signed_in}
use Rattle.enc_seqpoints.specs.Spelling.{document_holds, is_later, ends_behind, is_near, are_writable, is_writable, point_bytes, preceded, records_of, first_document, header_bytes, blob_of}
use Rattle.enc_seqpoints.specs.Laws.{ReadIsWritable}
use Rattle.enc_seqpoints.proofs.Somes.{bind_some, map_some, if_some, same_some}
use Rattle.enc_seqpoints.proofs.Writing.{records_first}
use Rattle.enc_seqpoints.proofs.Readable.{upon_some, giving_some, leading_some, both_some, number_few, row_good, up_to, start_near, spanned_parts}

-- the end is behind the start
behind_by : (lines bits : ℕ) (l : ℕ × ℕ × ℕ × ℕ) (none : Bool) (mid points_behind : List ℕ) → lines == 0 ≡ none → (none && bits == 0) ≡ false → (if none then number_in else signed_in) mid ≡ Some (bits, points_behind) → l.0 + lines ≡ l.2 → moved l.1 bits ≡ Some l.3 → ends_behind l ≡ true
unfolding ends_behind
behind_by lines bits l true mid points_behind is some read sum leads =
    let zero_lines : lines ≡ 0 = eqb-true lines 0 is in
    let few = number_few mid bits points_behind read in
    let up : l.1 + bits ≡ l.3 = up_to l.1 bits l.3 few leads in
    let more : (bits ≡ 0 → ⊥) = eqb-false bits 0 some in
    let pos : 0 < bits = omega (arith, more) in
    let same : l.0 ≡ l.2 = omega (arith, zero_lines, sum) in
    let lt : l.1 < l.3 = omega (arith, up, pos) in
    or_right (nat_lt l.0 l.2) (l.0 == l.2 && nat_lt l.1 l.3) (and_from (l.0 == l.2) (nat_lt l.1 l.3) (eq-eqb l.0 l.2 same) (lt-ltb l.1 l.3 lt))
behind_by lines bits l false mid points_behind is some read sum leads =
    let more : (lines ≡ 0 → ⊥) = eqb-false lines 0 is in
    let pos : 0 < lines = omega (arith, more) in
    let lt : l.0 < l.2 = omega (arith, sum, pos) in
    or_left (nat_lt l.0 l.2) (l.0 == l.2 && nat_lt l.1 l.3) (lt-ltb l.0 l.2 lt)

visible_good : (s : Option (ℕ × ℕ)) (lines bits : ℕ) (mid points_behind rest : List ℕ) (l : ℕ × ℕ × ℕ × ℕ) → (lines == 0 && bits == 0) ≡ false → column_difference_in lines mid ≡ Some (bits, points_behind) → leading (spanned lines bits) (start_in s) points_behind ≡ Some (l, rest) → are_writable s (Some l) ≡ true
unfolding column_difference_in are_writable
visible_good s lines bits mid points_behind rest l some read e =
    let h = leading_some {A = ℕ × ℕ} {B = ℕ × ℕ × ℕ × ℕ} (spanned lines bits) (start_in s) points_behind l rest e in
    let i = spanned_parts lines bits h.0 l h.2 in
    let started : start_in s points_behind ≡ Some ((l.0, l.1), rest) = h.1 ∙ ap (λ (x : ℕ × ℕ). Some (x, rest)) i.0 in
    and_from (are_lines l) (ends_behind l && is_near s l) i.3 (and_from (ends_behind l) (is_near s l) (behind_by lines bits l (lines == 0) mid points_behind refl some read i.1 i.2) (start_near s l points_behind rest started))

seen_by : (s : Option (ℕ × ℕ)) (lines bits : ℕ) (mid points_behind rest : List ℕ) (o : Option (ℕ × ℕ × ℕ × ℕ)) (hidden : Bool) → (lines == 0 && bits == 0) ≡ hidden → column_difference_in lines mid ≡ Some (bits, points_behind) → (if hidden then Some (None, points_behind) else giving Some (leading (spanned lines bits) (start_in s)) points_behind) ≡ Some (o, rest) → are_writable s o ≡ true
unfolding are_writable
seen_by s lines bits mid points_behind rest o true is read e =
    let same : None ≡ o = ap (λ (p : Option (ℕ × ℕ × ℕ × ℕ) × List ℕ). p.0) (same_some {A = Option (ℕ × ℕ × ℕ × ℕ) × List ℕ} (None, points_behind) (o, rest) e) in
    subst (λ (x : Option (ℕ × ℕ × ℕ × ℕ)). are_writable s x ≡ true) same refl
seen_by s lines bits mid points_behind rest o false is read e =
    let h = giving_some {A = ℕ × ℕ × ℕ × ℕ} {B = Option (ℕ × ℕ × ℕ × ℕ)} Some (leading (spanned lines bits) (start_in s)) points_behind o rest e in
    subst (λ (x : Option (ℕ × ℕ × ℕ × ℕ)). are_writable s x ≡ true) h.2 (visible_good s lines bits mid points_behind rest h.0 is read h.1)

-- the lines of a point that is read can be written
lines_good : (s : Option (ℕ × ℕ)) (bytes rest : List ℕ) (o : Option (ℕ × ℕ × ℕ × ℕ)) → lines_in s bytes ≡ Some (o, rest) → are_writable s o ≡ true
unfolding lines_in seen_in
lines_good s bytes rest o e =
    let h = upon_some {A = ℕ} {B = Option (ℕ × ℕ × ℕ × ℕ)} number_in (λ lines. continued (column_difference_in lines) (seen_in s lines)) bytes o rest e in
    let i = upon_some {A = ℕ} {B = Option (ℕ × ℕ × ℕ × ℕ)} (column_difference_in h.0) (seen_in s h.0) h.1 o rest h.3 in
    seen_by s h.0 i.0 h.1 i.1 rest o (h.0 == 0 && i.0 == 0) refl i.2 i.3

-- a record that is read is of a point that can be written, or of a document that can be said
abbrev pub IsGood : Base → Record → Type 0
IsGood b (Document row) = (is_some b.offset ≡ true) × (is_row row ≡ true)
IsGood b (Sequence p) = (p.document ≡ b.document) × (is_later b.offset p.offset ≡ true) × (are_writable b.start p.lines ≡ true)

past_by : (o : Option ℕ) (difference : ℕ) → (is_some o && difference == 0) ≡ false → offset_from o difference < 0x20000000 → is_later o (offset_from o difference) ≡ true
unfolding is_later
past_by None difference some few = lt-ltb difference 0x20000000 few
past_by (Some before) difference some few =
    let more : (difference ≡ 0 → ⊥) = eqb-false difference 0 some in
    let lt : before < before + difference = omega (arith, more) in
    and_from (nat_lt before (before + difference)) (nat_lt (before + difference) 0x20000000) (lt-ltb before (before + difference) lt) (lt-ltb (before + difference) 0x20000000 few)

point_good : (b : Base) (difference : ℕ) (bytes rest : List ℕ) (r : Record) → (is_some b.offset && difference == 0) ≡ false → point_in b (offset_from b.offset difference) bytes ≡ Some (r, rest) → IsGood b r
unfolding point_in
point_good b difference bytes rest r some e =
    let offset = offset_from b.offset difference in
    let make : Option (ℕ × ℕ × ℕ × ℕ) → Record = λ lines. Sequence (record { offset = offset; document = b.document; lines = lines }) in
    let h = if_some {A = Record × List ℕ} (nat_lt offset 0x20000000) (giving make (lines_in b.start) bytes) (r, rest) e in
    let i = giving_some {A = Option (ℕ × ℕ × ℕ × ℕ)} {B = Record} make (lines_in b.start) bytes r rest h.1 in
    subst (IsGood b) i.2 (refl, past_by b.offset difference some (ltb-true offset 0x20000000 h.0), lines_good b.start bytes rest i.0 i.1)

begun_good : (b : Base) (difference : ℕ) (bytes rest : List ℕ) (r : Record) (says : Bool) → (is_some b.offset && difference == 0) ≡ says → (if says then giving Document document_row_in bytes else point_in b (offset_from b.offset difference) bytes) ≡ Some (r, rest) → IsGood b r
begun_good b difference bytes rest r true is e =
    let h = giving_some {A = ℕ} {B = Record} Document document_row_in bytes r rest e in
    subst (IsGood b) h.2 ((and_parts (is_some b.offset) (difference == 0) is).0, row_good bytes h.0 rest h.1)
begun_good b difference bytes rest r false is e = point_good b difference bytes rest r is e

record_good : (b : Base) (bytes rest : List ℕ) (r : Record) → record_in b bytes ≡ Some (r, rest) → IsGood b r
unfolding record_in begun_in
record_good b bytes rest r e =
    let h = upon_some {A = ℕ} {B = Record} number_in (begun_in b) bytes r rest e in
    begun_good b h.0 h.1 rest r (is_some b.offset && h.0 == 0) refl h.3

-- what records count from, with another document
abbrev holding : Base → ℕ → Base
holding b document = record { offset = b.offset; document = document; start = b.start }

after_document : (b : Base) (document row : ℕ) → after (holding b document) (Document row) ≡ holding b row
unfolding after
after_document b document row = refl

after_point : (b : Base) (document : ℕ) (p : Point) → after (holding b document) (Sequence p) ≡ holding (after b (Sequence p)) p.document
unfolding after
after_point b document p = refl

says_row : (b : Base) (row : ℕ) → is_some b.offset ≡ true → is_row row ≡ true → document_holds b row ≡ true
unfolding document_holds
says_row b row some good = or_right (row == b.document) (is_some b.offset && is_row row) (and_from (is_some b.offset) (is_row row) some good)

says_own : (b : Base) (p : Point) → document_holds (after b (Sequence p)) p.document ≡ true
unfolding document_holds after
says_own b p = or_left (p.document == p.document) (is_row p.document) (eq-eqb p.document p.document refl)

first_good : (b : Base) (document : ℕ) (p : Point) → document_holds b document ≡ true → IsGood (holding b document) (Sequence p) → is_writable b p ≡ true
unfolding is_writable
first_good b document p holds good =
    let h : document_holds b p.document ≡ true = rw good.0 holds in
    and_from (document_holds b p.document) (is_later b.offset p.offset && are_writable b.start p.lines) h (and_from (is_later b.offset p.offset) (are_writable b.start p.lines) good.1 good.2)

ok_behind : (n : ℕ) (front : List ℕ) (r : Result (List ℕ) ℕ) → is_ok r ≡ true → is_ok (preceded n front r) ≡ true
ok_behind n front (Ok bytes) e = refl
ok_behind n front (Err i) e = absurd (cc)

-- the points of records can be written, whatever document the records hold that can be said
abbrev AreGood : ℕ → Type 0
AreGood n = (b : Base) (document : ℕ) (bytes : List ℕ) (points : List Point) → document_holds b document ≡ true → records_in n (holding b document) bytes ≡ Some points → is_ok (records_of b points) ≡ true

next_good : (n : ℕ) (b : Base) (document : ℕ) (r : Record) (rest : List ℕ) (points more : List Point) → AreGood n → document_holds b document ≡ true → IsGood (holding b document) r → records_in n (after (holding b document) r) rest ≡ Some more → with_record r more ≡ points → is_ok (records_of b points) ≡ true
next_good n b document (Document row) rest points more all holds good is same =
    let e : records_in n (holding b row) rest ≡ Some points = ap (λ x. records_in n x rest) (sym (after_document b document row)) ∙ is ∙ ap Some same in
    all b row rest points (says_row b row good.0 good.1) e
next_good n b document (Sequence p) rest points more all holds good is same =
    let e : records_in n (holding (after b (Sequence p)) p.document) rest ≡ Some more = ap (λ x. records_in n x rest) (sym (after_point b document p)) ∙ is in
    let can = first_good b document p holds good in
    let later = all (after b (Sequence p)) p.document rest more (says_own b p) e in
    let whole : is_ok (records_of b (p ∷ more)) ≡ true = ap is_ok (records_first b p more can) ∙ ok_behind 1 (point_bytes b p) (records_of (after b (Sequence p)) more) later in
    subst (λ ps. is_ok (records_of b ps) ≡ true) same whole

none_good : (b : Base) (points : List Point) → Some [] ≡ Some points → is_ok (records_of b points) ≡ true
unfolding records_of
none_good b points e = subst (λ ps. is_ok (records_of b ps) ≡ true) (same_some [] points e) refl

records_good : (n : ℕ) → AreGood n
unfolding records_in
records_good zero b document [] points holds e = none_good b points e
records_good zero b document (x ∷ bytes) points holds e = absurd (cc)
records_good (suc n) b document [] points holds e = none_good b points e
records_good (suc n) b document (x ∷ bytes) points holds e =
    let h = bind_some {A = Record × List ℕ} {B = List Point} (λ r. option_map (with_record r.0) (records_in n (after (holding b document) r.0) r.1)) (record_in (holding b document) (x ∷ bytes)) points e in
    let i = map_some {A = List Point} {B = List Point} (with_record h.0.0) (records_in n (after (holding b document) h.0.0) h.0.1) points h.2 in
    next_good n b document h.0.0 h.0.1 points i.0 (records_good n) holds (record_good (holding b document) (x ∷ bytes) h.0.1 h.0.0 h.1) i.1 i.2

-- the first point's document is that of the header
first_known : (n d : ℕ) (bytes : List ℕ) (p : Point) (points : List Point) → records_in n (opened d) bytes ≡ Some (p ∷ points) → p.document ≡ d
unfolding records_in
first_known zero d [] p points e = absurd (cc)
first_known zero d (x ∷ bytes) p points e = absurd (cc)
first_known (suc n) d [] p points e = absurd (cc)
first_known (suc n) d (x ∷ bytes) p points e =
    let h = bind_some {A = Record × List ℕ} {B = List Point} (λ r. option_map (with_record r.0) (records_in n (after (opened d) r.0) r.1)) (record_in (opened d) (x ∷ bytes)) (p ∷ points) e in
    let i = map_some {A = List Point} {B = List Point} (with_record h.0.0) (records_in n (after (opened d) h.0.0) h.0.1) (p ∷ points) h.2 in
    by h.0.0 i.0 (record_good (opened d) (x ∷ bytes) h.0.1 h.0.0 h.1) i.2
  where
    by : (r : Record) (more : List Point) → IsGood (opened d) r → with_record r more ≡ p ∷ points → p.document ≡ d
    by (Document row) more good same = absurd (let f = good.0 in cc)
    by (Sequence q) more good same = let f : q ≡ p = cc in rw (← f) good.0

holds_same : (d : ℕ) → document_holds (opened d) d ≡ true
unfolding document_holds
holds_same d = or_left (d == d) false (eq-eqb d d refl)

ok_blob : (locals document : ℕ) (points : List Point) → is_ok (records_of (opened (first_document document points)) points) ≡ true → is_ok (blob_of locals document points) ≡ true
unfolding blob_of
ok_blob locals document points e = ok_behind 0 (header_bytes locals document (first_document document points)) (records_of (opened (first_document document points)) points) e

none_ok : (b : Base) → is_ok (records_of b []) ≡ true
unfolding records_of
none_ok b = refl

-- the document that is read at first is one that is said
first_is : (document d : ℕ) (bytes rest : List ℕ) (nil : Bool) (p : Point) (points : List Point) → document == 0 ≡ nil → (if nil then document_row_in bytes else Some (document, bytes)) ≡ Some (d, rest) → p.document ≡ d → first_document document (p ∷ points) ≡ d
unfolding first_document
first_is document d bytes rest true p points is read same =
    let row : is_row p.document ≡ true = rw same (row_good bytes d rest read) in
    rw (is, row) same
first_is document d bytes rest false p points is read same =
    let e : document ≡ d = ap (λ (q : ℕ × List ℕ). q.0) (same_some {A = ℕ × List ℕ} (document, bytes) (d, rest) read) in
    rw is e

header_first : (document d : ℕ) (bytes rest : List ℕ) (p : Point) (points : List Point) → document_in document bytes ≡ Some (d, rest) → p.document ≡ d → first_document document (p ∷ points) ≡ d
unfolding document_in
header_first document d bytes rest p points read same = first_is document d bytes rest (document == 0) p points refl read same

listed : (document locals d : ℕ) (bytes rest : List ℕ) (points : List Point) → document_in document bytes ≡ Some (d, rest) → records_in (length rest) (opened d) rest ≡ Some points → is_ok (blob_of locals document points) ≡ true
listed document locals d bytes rest [] read e = ok_blob locals document [] (none_ok (opened (first_document document [])))
listed document locals d bytes rest (p ∷ points) read e =
    let same = first_known (length rest) d rest p points e in
    let first = header_first document d bytes rest p points read same in
    let good = records_good (length rest) (opened d) d rest (p ∷ points) (holds_same d) e in
    ok_blob locals document (p ∷ points) (rw first good)

body_good : (document : ℕ) (bytes : List ℕ) (m : MethodPoints) → body_in document bytes ≡ Some m → (m.locals < 2 ^ 29) × (is_ok (blob_of m.locals document m.points) ≡ true)
unfolding body_in header_in
body_good document bytes m e =
    let h = bind_some {A = (ℕ × ℕ) × List ℕ} {B = MethodPoints} (λ h. option_map (method_points h.0.0) (records_in (length h.1) (opened h.0.1) h.1)) (both number_in (document_in document) bytes) m e in
    let i = map_some {A = List Point} {B = MethodPoints} (method_points h.0.0.0) (records_in (length h.0.1) (opened h.0.0.1) h.0.1) m h.2 in
    let j = both_some number_in (document_in document) bytes h.0.0.0 h.0.0.1 h.0.1 h.1 in
    let few = number_few bytes h.0.0.0 j.0 j.1 in
    subst (λ (m : MethodPoints). (m.locals < 2 ^ 29) × (is_ok (blob_of m.locals document m.points) ≡ true)) i.2 (few, listed document h.0.0.0 h.0.0.1 j.0 h.0.1 i.0 j.2 i.1)

pub read_good : ReadIsWritable
unfolding points_in
read_good document [] m e =
    subst (λ (m : MethodPoints). (m.locals < 2 ^ 29) × (is_ok (blob_of m.locals document m.points) ≡ true)) (same_some {A = MethodPoints} (method_points 0 []) m e) (omega arith, ok_blob 0 document [] (none_ok (opened (first_document document []))))
read_good document (b ∷ bytes) m e = body_good document (b ∷ bytes) m e
