-- How many bytes the blob of a method's points has at most.
use Rattle.std.proofs.Common.{◌≡◌, ℕ, ◌+◌, ◌-◌, ◌*◌, ◌≤◌, Bool, true, false, List, [], ◌∷◌, ◌++◌, length, Option, Some, None, refl, arith, Result, Ok, Err}
use Rattle.std.specs.Prelude.{◌==◌, nat_lt, if◌then◌else◌}
use Rattle.std.proofs.lemmas.List.{length-append}
use Rattle.enc_base.specs.Numbers.{spelled, one_byte, two_bytes, four_bytes, is_within, rotated}
use Rattle.enc_seqpoints.specs.declared.base.Base.{Base}
use Rattle.enc_seqpoints.specs.declared.base.Record.TheVariants.{Sequence}
use Rattle.enc_seqpoints.specs.declared.point.Point.{Point}
use Rattle.enc_seqpoints.specs.Grammar.{after, opened}
use Rattle.enc_seqpoints.specs.Spelling.{spelled_number, spelled_difference, between, is_writable, document_bytes, offset_bytes, columns_bytes, start_bytes, lines_bytes, point_bytes, preceded, records_of, first_document, header_bytes, blob_of}

-- a number has four bytes at most
pub spelled_few : (n : ℕ) → length (spelled n) ≤ 4
spelled_few n = by (nat_lt n 0x80) (nat_lt n 0x4000)
  where
    by : (a b : Bool) → length (if a then one_byte n else if b then two_bytes n else four_bytes n) ≤ 4
    by true b = omega arith
    by false true = omega arith
    by false false = omega arith

number_few : (n : ℕ) → length (spelled_number n) ≤ 4
unfolding spelled_number
number_few n = spelled_few n

signed_by : (a b : Bool) (x y z : ℕ) → length (if a then one_byte x else if b then two_bytes y else four_bytes z) ≤ 4
signed_by true b x y z = omega arith
signed_by false true x y z = omega arith
signed_by false false x y z = omega arith

difference_few : (n : ℕ) → length (spelled_difference n) ≤ 4
unfolding spelled_difference
difference_few bits = signed_by (is_within 0x40 bits) (is_within 0x2000 bits) (rotated 0x40 bits) (rotated 0x2000 bits) (rotated 0x10000000 bits)

both_few : (x y : List ℕ) (m n : ℕ) → length x ≤ m → length y ≤ n → length (x ++ y) ≤ m + n
both_few x y m n a b = rw (length-append x y) (omega (arith, a, b))

document_few : (b : Base) (document : ℕ) → length (document_bytes b document) ≤ 8
unfolding document_bytes
document_few b document = by (document == b.document)
  where
    by : (t : Bool) → length (if t then [] else spelled_number 0 ++ spelled_number document) ≤ 8
    by true = omega arith
    by false = both_few (spelled_number 0) (spelled_number document) 4 4 (number_few 0) (number_few document)

offset_few : (o : Option ℕ) (offset : ℕ) → length (offset_bytes o offset) ≤ 4
unfolding offset_bytes
offset_few None offset = number_few offset
offset_few (Some before) offset = number_few (offset - before)

columns_few : (l : ℕ × ℕ × ℕ × ℕ) → length (columns_bytes l) ≤ 4
unfolding columns_bytes
columns_few l = by (l.0 == l.2)
  where
    by : (t : Bool) → length (if t then spelled_number (l.3 - l.1) else spelled_difference (between l.1 l.3)) ≤ 4
    by true = number_few (l.3 - l.1)
    by false = difference_few (between l.1 l.3)

start_few : (s : Option (ℕ × ℕ)) (l : ℕ × ℕ × ℕ × ℕ) → length (start_bytes s l) ≤ 8
unfolding start_bytes
start_few None l = both_few (spelled_number l.0) (spelled_number l.1) 4 4 (number_few l.0) (number_few l.1)
start_few (Some s) l = both_few (spelled_difference (between s.0 l.0)) (spelled_difference (between s.1 l.1)) 4 4 (difference_few (between s.0 l.0)) (difference_few (between s.1 l.1))

lines_few : (s : Option (ℕ × ℕ)) (o : Option (ℕ × ℕ × ℕ × ℕ)) → length (lines_bytes s o) ≤ 16
unfolding lines_bytes
lines_few s None = let e = both_few (spelled_number 0) (spelled_number 0) 4 4 (number_few 0) (number_few 0) in omega (arith, e)
lines_few s (Some l) =
    both_few (spelled_number (l.2 - l.0)) (columns_bytes l ++ start_bytes s l) 4 12 (number_few (l.2 - l.0)) (both_few (columns_bytes l) (start_bytes s l) 4 8 (columns_few l) (start_few s l))

point_few : (b : Base) (p : Point) → length (point_bytes b p) ≤ 28
unfolding point_bytes
point_few b p =
    both_few (document_bytes b p.document) (offset_bytes b.offset p.offset ++ lines_bytes b.start p.lines) 8 20 (document_few b p.document)
    (both_few (offset_bytes b.offset p.offset) (lines_bytes b.start p.lines) 4 16 (offset_few b.offset p.offset) (lines_few b.start p.lines))

front_by : (n : ℕ) (front bytes : List ℕ) (m k : ℕ) (r : Result (List ℕ) ℕ) → length front ≤ m → ((rest : List ℕ) → r ≡ Ok rest → length rest ≤ k) → preceded n front r ≡ Ok bytes → length bytes ≤ m + k
front_by n front bytes m k (Ok rest) low more is = let e : front ++ rest ≡ bytes = cc in rw (← e) (both_few front rest m k low (more rest refl))
front_by n front bytes m k (Err i) low more is = absurd cc

if_ok : (t : Bool) (r : Result (List ℕ) ℕ) (bytes : List ℕ) → (if t then r else Err 0) ≡ Ok bytes → r ≡ Ok bytes
if_ok true r bytes is = is
if_ok false r bytes is = absurd cc

records_few : (b : Base) (points : List Point) (bytes : List ℕ) → records_of b points ≡ Ok bytes → length bytes ≤ 28 * length points
unfolding records_of
records_few b [] bytes is = let e : [] ≡ bytes = cc in rw (← e) (omega arith)
records_few b (p ∷ points) bytes is =
    let many : length (p ∷ points) ≡ length points + 1 = omega arith in
    let rest = front_by 1 (point_bytes b p) bytes 28 (28 * length points) (records_of (after b (Sequence p)) points) (point_few b p) (records_few (after b (Sequence p)) points)
    (if_ok (is_writable b p) (preceded 1 (point_bytes b p) (records_of (after b (Sequence p)) points)) bytes is) in
    rw many (omega (arith, rest))

header_few : (locals document first : ℕ) → length (header_bytes locals document first) ≤ 8
unfolding header_bytes
header_few locals document first = by (document == 0)
  where
    by : (t : Bool) → length (spelled_number locals ++ (if t then spelled_number first else [])) ≤ 8
    by true = both_few (spelled_number locals) (spelled_number first) 4 4 (number_few locals) (number_few first)
    by false = let e = both_few (spelled_number locals) [] 4 0 (number_few locals) (omega arith) in omega (arith, e)

-- a blob has 8 bytes and 28 for each point at most
pub blob_few : (locals document : ℕ) (points : List Point) (bytes : List ℕ) → blob_of locals document points ≡ Ok bytes → length bytes ≤ 8 + 28 * length points
unfolding blob_of
blob_few locals document points bytes is =
    let first = first_document document points in
    front_by 0 (header_bytes locals document first) bytes 8 (28 * length points) (records_of (opened first) points) (header_few locals document first) (records_few (opened first) points) is
