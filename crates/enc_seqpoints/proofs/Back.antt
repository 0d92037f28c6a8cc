-- Points that are written read back.
use Rattle.std.proofs.Common.{◌≡◌, ℕ, zero, suc, ◌+◌, ◌-◌, ◌<◌, ◌≤◌, ◌⊎◌, inl, inr, Bool, true, false, List, [], ◌∷◌, ◌++◌, length, Option, Some, None, refl, ap, sym, ◌∙◌, arith, append_assoc, length-append}
use Rattle.std.proofs.lemmas.Bool.{lt-ltb, ltb-true, eqb-true, ne_eqb, eq-eqb, and_parts, or_cases, and_left, and_right}
use Rattle.std.specs.Prelude.{◌&&◌, ◌||◌, ◌==◌, not, nat_lt, is_some, if◌then◌else◌}
use Rattle.enc_base.specs.Numbers.{one_byte, two_bytes, four_bytes, WrittenIsRead, SignedWrittenIsRead}
use Rattle.enc_seqpoints.specs.declared.point.Point.{Point}
use Rattle.enc_seqpoints.specs.declared.base.Base.{Base}
use Rattle.enc_seqpoints.specs.declared.base.Record.{Record}
use Rattle.enc_seqpoints.specs.declared.base.Record.TheVariants.{Document, Sequence}
use Rattle.enc_seqpoints.specs.Grammar.{is_line, is_column, are_lines, is_row, document_row_in, moved, moved_in, column_difference_in, start_in, spanned, seen_in, lines_in, offset_from, point_in, begun_in, record_in, after, with_record, records_in}
use Rattle.enc_base.specs.Readers.{Reader, both, number_in}
use Rattle.enc_seqpoints.specs.Spelling.{spelled_number, spelled_difference, between, is_close, document_holds, is_later, ends_behind, is_near, are_writable, is_writable, document_bytes, offset_bytes, columns_bytes, start_bytes, lines_bytes, point_bytes}
use Rattle.enc_seqpoints.proofs.Numbers.{number_again, signed_again, row_again, below_is, moved_between, moved_again, between_small, up_by, close_from}
use Rattle.enc_seqpoints.proofs.Records.{none_in_none}

line_few : (n : ℕ) → is_line n ≡ true → n < 0x20000000
line_few n good = ltb-true n 0x20000000 (and_parts (nat_lt n 0x20000000) (not (n == 0xFEEFEE)) good).0

-- lines and columns within their limits
pub lines_few : (l : ℕ × ℕ × ℕ × ℕ) → are_lines l ≡ true → (l.0 < 0x20000000) × (l.1 < 0x10000) × (l.2 < 0x20000000) × (l.3 < 0x10000)
unfolding are_lines
lines_few l good =
    let h = and_parts (is_line l.0) (is_column l.1 && (is_line l.2 && is_column l.3)) good in
    let i = and_parts (is_column l.1) (is_line l.2 && is_column l.3) h.1 in
    let j = and_parts (is_line l.2) (is_column l.3) i.1 in
    (line_few l.0 h.0, ltb-true l.1 0x10000 i.0, line_few l.2 j.0, ltb-true l.3 0x10000 j.1)

both_again : {A B : Type 0} (r : Reader A) (s : Reader B) (bytes mid rest : List ℕ) (x : A) (y : B) → r bytes ≡ Some (x, mid) → s mid ≡ Some (y, rest) → both r s bytes ≡ Some ((x, y), rest)
both_again r s bytes mid rest x y e f = rw (e, f) refl

-- a start
start_again : (s : Option (ℕ × ℕ)) (l : ℕ × ℕ × ℕ × ℕ) (rest : List ℕ) → WrittenIsRead → SignedWrittenIsRead → are_lines l ≡ true → is_near s l ≡ true → start_in s (start_bytes s l ++ rest) ≡ Some ((l.0, l.1), rest)
unfolding start_in start_bytes is_near
start_again None l rest written signed good near =
    let few = lines_few l good in
    let low : l.1 < 0x20000000 = omega (arith, few.1) in
    ap (both number_in number_in) (append_assoc (spelled_number l.0) (spelled_number l.1) rest) ∙ both_again number_in number_in (spelled_number l.0 ++ (spelled_number l.1 ++ rest)) (spelled_number l.1 ++ rest) rest l.0 l.1 (number_again l.0 (spelled_number l.1 ++ rest) written few.0) (number_again l.1 rest written low)
start_again (Some s) l rest written signed good near =
    let few = lines_few l good in
    let low : l.1 < 0x20000000 = omega (arith, few.1) in
    let close = and_parts (is_close s.0 l.0) (is_close s.1 l.1) near in
    let first = spelled_difference (between s.0 l.0) in
    let second = spelled_difference (between s.1 l.1) in
    ap (both (moved_in s.0) (moved_in s.1)) (append_assoc first second rest) ∙ both_again (moved_in s.0) (moved_in s.1) (first ++ (second ++ rest)) (second ++ rest) rest l.0 l.1 (moved_again s.0 l.0 (second ++ rest) signed few.0 close.0) (moved_again s.1 l.1 rest signed low close.1)

-- the end by its differences
spanned_is : (l : ℕ × ℕ × ℕ × ℕ) (bits : ℕ) → are_lines l ≡ true → l.0 ≤ l.2 → moved l.1 bits ≡ Some l.3 → spanned (l.2 - l.0) bits (l.0, l.1) ≡ Some l
unfolding spanned
spanned_is l bits good le is =
    let few = lines_few l good in
    let e : l.0 + (l.2 - l.0) ≡ l.2 = omega (arith, le) in
    rw (e, below_is l.2 few.2, is, good) refl

lines_by : (s : Option (ℕ × ℕ)) (l : ℕ × ℕ × ℕ × ℕ) (bits : ℕ) (bytes mid points_behind rest : List ℕ) → number_in bytes ≡ Some (l.2 - l.0, mid) → column_difference_in (l.2 - l.0) mid ≡ Some (bits, points_behind) → ((l.2 - l.0) == 0 && bits == 0) ≡ false → start_in s points_behind ≡ Some ((l.0, l.1), rest) → spanned (l.2 - l.0) bits (l.0, l.1) ≡ Some l → lines_in s bytes ≡ Some (Some l, rest)
unfolding lines_in seen_in
lines_by s l bits bytes mid points_behind rest e f g h i = rw (e, f, g, h, i) refl

-- where the columns tell start and end apart, and where the lines do
by_columns : (s : Option (ℕ × ℕ)) (l : ℕ × ℕ × ℕ × ℕ) (rest : List ℕ) → WrittenIsRead → SignedWrittenIsRead → are_lines l ≡ true → is_near s l ≡ true → l.0 ≡ l.2 → l.1 < l.3 → lines_in s (spelled_number (l.2 - l.0) ++ (spelled_number (l.3 - l.1) ++ (start_bytes s l ++ rest))) ≡ Some (Some l, rest)
unfolding column_difference_in
by_columns s l rest written signed good near same lt =
    let few = lines_few l good in
    let none : l.2 - l.0 ≡ 0 = omega (arith, same) in
    let low : l.2 - l.0 < 0x20000000 = omega (arith, same) in
    let short : l.3 - l.1 < 0x20000000 = omega (arith, few.3) in
    let points_behind = start_bytes s l ++ rest in
    let some : (l.3 - l.1 ≡ 0 → ⊥) = λ e. omega (arith, lt, e) in
    lines_by s l (l.3 - l.1) (spelled_number (l.2 - l.0) ++ (spelled_number (l.3 - l.1) ++ points_behind)) (spelled_number (l.3 - l.1) ++ points_behind) points_behind rest (number_again (l.2 - l.0) (spelled_number (l.3 - l.1) ++ points_behind) written low) (rw none (number_again (l.3 - l.1) points_behind written short)) (and_right ((l.2 - l.0) == 0) ((l.3 - l.1) == 0) (ne_eqb (l.3 - l.1) 0 some)) (start_again s l rest written signed good near) (spanned_is l (l.3 - l.1) good (omega (arith, same)) (up_by l.1 l.3 (omega (arith, lt)) (omega (arith, few.3))))

by_lines : (s : Option (ℕ × ℕ)) (l : ℕ × ℕ × ℕ × ℕ) (rest : List ℕ) → WrittenIsRead → SignedWrittenIsRead → are_lines l ≡ true → is_near s l ≡ true → l.0 < l.2 → lines_in s (spelled_number (l.2 - l.0) ++ (spelled_difference (between l.1 l.3) ++ (start_bytes s l ++ rest))) ≡ Some (Some l, rest)
unfolding column_difference_in
by_lines s l rest written signed good near lt =
    let few = lines_few l good in
    let low : l.2 - l.0 < 0x20000000 = omega (arith, few.2) in
    let points_behind = start_bytes s l ++ rest in
    let columns = spelled_difference (between l.1 l.3) in
    let some : (l.2 - l.0 ≡ 0 → ⊥) = λ e. omega (arith, lt, e) in
    let close = close_from l.1 l.3 (omega (arith, few.1)) (omega (arith, few.3)) in
    lines_by s l (between l.1 l.3) (spelled_number (l.2 - l.0) ++ (columns ++ points_behind)) (columns ++ points_behind) points_behind rest (number_again (l.2 - l.0) (columns ++ points_behind) written low) (rw (ne_eqb (l.2 - l.0) 0 some) (signed_again (between l.1 l.3) points_behind signed (between_small l.1 l.3 close))) (and_left ((l.2 - l.0) == 0) (between l.1 l.3 == 0) (ne_eqb (l.2 - l.0) 0 some)) (start_again s l rest written signed good near) (spanned_is l (between l.1 l.3) good (omega (arith, lt)) (moved_between l.1 l.3 (omega (arith, few.3)) close))

-- the end is behind the start by its line, or by its column on one line
behind_by : (l : ℕ × ℕ × ℕ × ℕ) → ends_behind l ≡ true → (l.0 < l.2) ⊎ ((l.0 ≡ l.2) × (l.1 < l.3))
unfolding ends_behind
behind_by l e = by_or (or_cases (nat_lt l.0 l.2) (l.0 == l.2 && nat_lt l.1 l.3) e)
  where
    by_or : (nat_lt l.0 l.2 ≡ true) ⊎ ((l.0 == l.2 && nat_lt l.1 l.3) ≡ true) → (l.0 < l.2) ⊎ ((l.0 ≡ l.2) × (l.1 < l.3))
    by_or (inl h) = inl (ltb-true l.0 l.2 h)
    by_or (inr h) = let i = and_parts (l.0 == l.2) (nat_lt l.1 l.3) h in inr (eqb-true l.0 l.2 i.0, ltb-true l.1 l.3 i.1)

three_parts : (x y z rest : List ℕ) → (x ++ (y ++ z)) ++ rest ≡ x ++ (y ++ (z ++ rest))
three_parts x y z rest = append_assoc x (y ++ z) rest ∙ ap (λ s. x ++ s) (append_assoc y z rest)

visible_again : (s : Option (ℕ × ℕ)) (l : ℕ × ℕ × ℕ × ℕ) (rest : List ℕ) → WrittenIsRead → SignedWrittenIsRead → are_lines l ≡ true → is_near s l ≡ true → (l.0 < l.2) ⊎ ((l.0 ≡ l.2) × (l.1 < l.3)) → lines_in s (lines_bytes s (Some l) ++ rest) ≡ Some (Some l, rest)
unfolding lines_bytes columns_bytes
visible_again s l rest written signed good near (inl lt) =
    let e : l.0 == l.2 ≡ false = ne_eqb l.0 l.2 (λ same. omega (arith, lt, same)) in
    rw e (ap (lines_in s) (three_parts (spelled_number (l.2 - l.0)) (spelled_difference (between l.1 l.3)) (start_bytes s l) rest) ∙ by_lines s l rest written signed good near lt)
visible_again s l rest written signed good near (inr h) =
    let e : l.0 == l.2 ≡ true = eq-eqb l.0 l.2 h.0 in
    rw e (ap (lines_in s) (three_parts (spelled_number (l.2 - l.0)) (spelled_number (l.3 - l.1)) (start_bytes s l) rest) ∙ by_columns s l rest written signed good near h.0 h.1)

hidden_by : (s : Option (ℕ × ℕ)) (bytes mid rest : List ℕ) → number_in bytes ≡ Some (0, mid) → number_in mid ≡ Some (0, rest) → lines_in s bytes ≡ Some (None, rest)
unfolding lines_in column_difference_in seen_in
hidden_by s bytes mid rest e f = rw (e, f) refl

-- the lines of a point
pub lines_again : (s : Option (ℕ × ℕ)) (o : Option (ℕ × ℕ × ℕ × ℕ)) (rest : List ℕ) → WrittenIsRead → SignedWrittenIsRead → are_writable s o ≡ true → lines_in s (lines_bytes s o ++ rest) ≡ Some (o, rest)
unfolding lines_bytes are_writable
lines_again s None rest written signed can =
    ap (lines_in s) (append_assoc (spelled_number 0) (spelled_number 0) rest) ∙ hidden_by s (spelled_number 0 ++ (spelled_number 0 ++ rest)) (spelled_number 0 ++ rest) rest (number_again 0 (spelled_number 0 ++ rest) written (omega arith)) (number_again 0 rest written (omega arith))
lines_again s (Some l) rest written signed can =
    let h = and_parts (are_lines l) (ends_behind l && is_near s l) can in
    let i = and_parts (ends_behind l) (is_near s l) h.1 in
    visible_again s l rest written signed h.0 i.1 (behind_by l i.0)

-- a record of a point, behind what holds already
record_by : (b : Base) (p : Point) (difference : ℕ) (bytes mid rest : List ℕ) → number_in bytes ≡ Some (difference, mid) → (is_some b.offset && difference == 0) ≡ false → offset_from b.offset difference ≡ p.offset → p.offset < 0x20000000 → p.document ≡ b.document → lines_in b.start mid ≡ Some (p.lines, rest) → record_in b bytes ≡ Some (Sequence p, rest)
unfolding record_in begun_in point_in
record_by b p difference bytes mid rest e f g few same lines = rw (e, f, g, lt-ltb p.offset 0x20000000 few, lines) (ap (λ d. Some (Sequence (record { offset = p.offset; document = d; lines = p.lines }), rest)) (sym same))

offset_by : (b : Base) (o : Option ℕ) (p : Point) (more rest : List ℕ) → b.offset ≡ o → WrittenIsRead → is_later o p.offset ≡ true → p.document ≡ b.document → lines_in b.start more ≡ Some (p.lines, rest) → record_in b (offset_bytes o p.offset ++ more) ≡ Some (Sequence p, rest)
unfolding is_later offset_bytes
offset_by b None p more rest is written past same lines =
    let few = ltb-true p.offset 0x20000000 past in
    record_by b p p.offset (spelled_number p.offset ++ more) more rest (number_again p.offset more written few) (rw is refl) (rw is refl) few same lines
offset_by b (Some before) p more rest is written past same lines =
    let h = and_parts (nat_lt before p.offset) (nat_lt p.offset 0x20000000) past in
    let lt = ltb-true before p.offset h.0 in
    let few = ltb-true p.offset 0x20000000 h.1 in
    let d = p.offset - before in
    let some : (d ≡ 0 → ⊥) = λ e. omega (arith, lt, e) in
    let low : d < 0x20000000 = omega (arith, few) in
    let sum : before + (p.offset - before) ≡ p.offset = omega (arith, lt) in
    record_by b p d (spelled_number d ++ more) more rest (number_again d more written low) (rw is (ne_eqb d 0 some)) (rw is sum) few same lines

point_again : (b : Base) (p : Point) (rest : List ℕ) → WrittenIsRead → SignedWrittenIsRead → p.document ≡ b.document → is_later b.offset p.offset ≡ true → are_writable b.start p.lines ≡ true → record_in b ((offset_bytes b.offset p.offset ++ lines_bytes b.start p.lines) ++ rest) ≡ Some (Sequence p, rest)
point_again b p rest written signed same past can =
    ap (record_in b) (append_assoc (offset_bytes b.offset p.offset) (lines_bytes b.start p.lines) rest) ∙ offset_by b b.offset p (lines_bytes b.start p.lines ++ rest) rest refl written past same (lines_again b.start p.lines rest written signed can)

-- a document record
document_by : (b : Base) (row : ℕ) (bytes mid rest : List ℕ) → number_in bytes ≡ Some (0, mid) → is_some b.offset ≡ true → document_row_in mid ≡ Some (row, rest) → record_in b bytes ≡ Some (Document row, rest)
unfolding record_in begun_in
document_by b row bytes mid rest e some f = rw (e, some, f) refl

document_again : (b : Base) (row : ℕ) (rest : List ℕ) → WrittenIsRead → is_some b.offset ≡ true → is_row row ≡ true → record_in b ((spelled_number 0 ++ spelled_number row) ++ rest) ≡ Some (Document row, rest)
document_again b row rest written some good =
    ap (record_in b) (append_assoc (spelled_number 0) (spelled_number row) rest) ∙ document_by b row (spelled_number 0 ++ (spelled_number row ++ rest)) (spelled_number row ++ rest) rest (number_again 0 (spelled_number row ++ rest) written (omega arith)) some (row_again row rest written good)

-- each number takes a byte at least
pub number_long : (n : ℕ) → 0 < length (spelled_number n)
unfolding spelled_number
number_long n = by (nat_lt n 0x80) (nat_lt n 0x4000)
  where
    by : (s t : Bool) → 0 < length (if s then one_byte n else if t then two_bytes n else four_bytes n)
    by true t = omega arith
    by false true = omega arith
    by false false = omega arith

offset_long : (o : Option ℕ) (offset : ℕ) → 0 < length (offset_bytes o offset)
unfolding offset_bytes
offset_long None offset = number_long offset
offset_long (Some before) offset = number_long (offset - before)

-- a record and those behind it
records_step : (n m : ℕ) (b : Base) (bytes rest : List ℕ) (r : Record) (points : List Point) → n ≡ suc m → record_in b bytes ≡ Some (r, rest) → records_in m (after b r) rest ≡ Some points → records_in n b bytes ≡ Some (with_record r points)
unfolding records_in
records_step n m b [] rest r points e is more = absurd (let f = sym (none_in_none b) ∙ is in cc)
records_step n m b (x ∷ bytes) rest r points e is more = rw (e, is, more) refl

-- a document record changes nothing of what a point leaves behind
after_same : (b : Base) (row : ℕ) (p : Point) → after (after b (Document row)) (Sequence p) ≡ after b (Sequence p)
unfolding after
after_same b row p = refl

-- a point where its document holds, and where it doesn't
held_step : (n : ℕ) (b : Base) (p : Point) (points : List Point) (rest : List ℕ) → WrittenIsRead → SignedWrittenIsRead → p.document ≡ b.document → is_later b.offset p.offset ≡ true → are_writable b.start p.lines ≡ true → length ((offset_bytes b.offset p.offset ++ lines_bytes b.start p.lines) ++ rest) ≤ n → ((m : ℕ) → length rest ≤ m → records_in m (after b (Sequence p)) rest ≡ Some points) → records_in n b ((offset_bytes b.offset p.offset ++ lines_bytes b.start p.lines) ++ rest) ≡ Some (p ∷ points)
held_step n b p points rest written signed same past can le more =
    let x = offset_bytes b.offset p.offset in
    let y = lines_bytes b.start p.lines in
    let long = offset_long b.offset p.offset in
    let sum : length ((x ++ y) ++ rest) ≡ length x + length y + length rest = length-append (x ++ y) rest ∙ ap (λ k. k + length rest) (length-append x y) in
    let e : n ≡ suc (n - 1) = omega (arith, le, sum, long) in
    let enough : length rest ≤ n - 1 = omega (arith, le, sum, long) in
    records_step n (n - 1) b ((x ++ y) ++ rest) rest (Sequence p) points e (point_again b p rest written signed same past can) (more (n - 1) enough)

changed_step : (n : ℕ) (b : Base) (p : Point) (points : List Point) (rest : List ℕ) → WrittenIsRead → SignedWrittenIsRead → is_some b.offset ≡ true → is_row p.document ≡ true → is_later b.offset p.offset ≡ true → are_writable b.start p.lines ≡ true → length ((spelled_number 0 ++ spelled_number p.document) ++ ((offset_bytes b.offset p.offset ++ lines_bytes b.start p.lines) ++ rest)) ≤ n → ((m : ℕ) → length rest ≤ m → records_in m (after b (Sequence p)) rest ≡ Some points) → records_in n b ((spelled_number 0 ++ spelled_number p.document) ++ ((offset_bytes b.offset p.offset ++ lines_bytes b.start p.lines) ++ rest)) ≡ Some (p ∷ points)
unfolding after
changed_step n b p points rest written signed some good past can le more =
    let x = spelled_number 0 ++ spelled_number p.document in
    let points_behind = (offset_bytes b.offset p.offset ++ lines_bytes b.start p.lines) ++ rest in
    let long = number_long 0 in
    let sum : length (x ++ points_behind) ≡ length (spelled_number 0) + length (spelled_number p.document) + length points_behind = length-append x points_behind ∙ ap (λ k. k + length points_behind) (length-append (spelled_number 0) (spelled_number p.document)) in
    let e : n ≡ suc (n - 1) = omega (arith, le, sum, long) in
    let enough : length points_behind ≤ n - 1 = omega (arith, le, sum, long) in
    records_step n (n - 1) b (x ++ points_behind) points_behind (Document p.document) (p ∷ points) e (document_again b p.document points_behind written some good) (held_step (n - 1) (after b (Document p.document)) p points rest written signed refl past can enough more)

-- the document holds, or a record before the point says it
by_document : (n : ℕ) (b : Base) (p : Point) (points : List Point) (rest : List ℕ) (same : Bool) → p.document == b.document ≡ same → WrittenIsRead → SignedWrittenIsRead → (same || is_some b.offset && is_row p.document) ≡ true → is_later b.offset p.offset ≡ true → are_writable b.start p.lines ≡ true → length ((if same then [] else spelled_number 0 ++ spelled_number p.document) ++ ((offset_bytes b.offset p.offset ++ lines_bytes b.start p.lines) ++ rest)) ≤ n → ((m : ℕ) → length rest ≤ m → records_in m (after b (Sequence p)) rest ≡ Some points) → records_in n b ((if same then [] else spelled_number 0 ++ spelled_number p.document) ++ ((offset_bytes b.offset p.offset ++ lines_bytes b.start p.lines) ++ rest)) ≡ Some (p ∷ points)
by_document n b p points rest true is written signed holds past can le more = held_step n b p points rest written signed (eqb-true p.document b.document is) past can le more
by_document n b p points rest false is written signed holds past can le more =
    let h = and_parts (is_some b.offset) (is_row p.document) holds in
    changed_step n b p points rest written signed h.0 h.1 past can le more

pub point_step : (n : ℕ) (b : Base) (p : Point) (points : List Point) (rest : List ℕ) → WrittenIsRead → SignedWrittenIsRead → is_writable b p ≡ true → length (point_bytes b p ++ rest) ≤ n → ((m : ℕ) → length rest ≤ m → records_in m (after b (Sequence p)) rest ≡ Some points) → records_in n b (point_bytes b p ++ rest) ≡ Some (p ∷ points)
unfolding is_writable point_bytes document_bytes document_holds
point_step n b p points rest written signed can le more =
    let h = and_parts (document_holds b p.document) (is_later b.offset p.offset && are_writable b.start p.lines) can in
    let i = and_parts (is_later b.offset p.offset) (are_writable b.start p.lines) h.1 in
    let x = document_bytes b p.document in
    let y = offset_bytes b.offset p.offset ++ lines_bytes b.start p.lines in
    let e : (x ++ y) ++ rest ≡ x ++ (y ++ rest) = append_assoc x y rest in
    let small : length (x ++ (y ++ rest)) ≤ n = rw e at le in
    ap (records_in n b) e ∙ by_document n b p points rest (p.document == b.document) refl written signed h.0 i.0 i.1 small more

pub none_left : (n : ℕ) (b : Base) → records_in n b [] ≡ Some []
unfolding records_in
none_left zero b = refl
none_left (suc n) b = refl
