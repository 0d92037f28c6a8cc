-- A blob that is written reads back.
use Rattle.std.proofs.Common.{◌≡◌, ℕ, ◌<◌, ◌≤◌, Bool, true, false, List, [], ◌∷◌, ◌++◌, length, Some, refl, ap, sym, ◌∙◌, arith, append_assoc, append-nil, length-append}
use Rattle.std.specs.Prelude.{◌==◌, Result, Ok, Err, if◌then◌else◌}
use Rattle.enc_base.specs.Numbers.{WrittenIsRead, SignedWrittenIsRead}
use Rattle.enc_seqpoints.specs.declared.point.Point.{Point}
use Rattle.enc_seqpoints.specs.declared.base.Base.{Base}
use Rattle.enc_seqpoints.specs.declared.base.Record.TheVariants.{Sequence}
use Rattle.enc_seqpoints.specs.Grammar.{is_row, after, opened, records_in, document_in, header_in, body_in, points_in, method_points}
use Rattle.enc_seqpoints.specs.Spelling.{spelled_number, is_writable, point_bytes, preceded, records_of, said_first, first_document, header_bytes, blob_of}
use Rattle.enc_seqpoints.specs.Laws.{PointsReadBack}
use Rattle.enc_seqpoints.proofs.Numbers.{number_again, row_again}
use Rattle.enc_seqpoints.proofs.Writing.{records_first, records_stop}
use Rattle.enc_seqpoints.proofs.Back.{point_step, none_left, number_long}

-- the records of the points read back
abbrev RecordsBack : List Point → Type 0
RecordsBack points = (b : Base) (n : ℕ) (bytes : List ℕ) → records_of b points ≡ Ok bytes → length bytes ≤ n → records_in n b bytes ≡ Some points

first_back : (b : Base) (p : Point) (points : List Point) (n : ℕ) (bytes : List ℕ) (r : Result (List ℕ) ℕ) → WrittenIsRead → SignedWrittenIsRead → RecordsBack points → is_writable b p ≡ true → records_of (after b (Sequence p)) points ≡ r → preceded 1 (point_bytes b p) r ≡ Ok bytes → length bytes ≤ n → records_in n b bytes ≡ Some (p ∷ points)
first_back b p points n bytes (Err i) written signed back can is e le = absurd (cc)
first_back b p points n bytes (Ok more) written signed back can is e le =
    let same : point_bytes b p ++ more ≡ bytes = cc in
    let small : length (point_bytes b p ++ more) ≤ n = rw same le in
    ap (records_in n b) (sym same) ∙ point_step n b p points more written signed can small (λ m enough. back (after b (Sequence p)) m more is enough)

records_by : (b : Base) (p : Point) (points : List Point) (n : ℕ) (bytes : List ℕ) (can : Bool) → WrittenIsRead → SignedWrittenIsRead → RecordsBack points → is_writable b p ≡ can → records_of b (p ∷ points) ≡ Ok bytes → length bytes ≤ n → records_in n b bytes ≡ Some (p ∷ points)
records_by b p points n bytes true written signed back can e le = first_back b p points n bytes (records_of (after b (Sequence p)) points) written signed back can refl (sym (records_first b p points can) ∙ e) le
records_by b p points n bytes false written signed back can e le = absurd (let f = sym (records_stop b p points can) ∙ e in cc)

records_back : (points : List Point) → WrittenIsRead → SignedWrittenIsRead → RecordsBack points
unfolding records_of
records_back [] written signed b n bytes e le =
    let none : [] ≡ bytes = cc in
    ap (records_in n b) (sym none) ∙ none_left n b
records_back (p ∷ points) written signed b n bytes e le = records_by b p points n bytes (is_writable b p) written signed (records_back points written signed) refl e le

-- a row that is said is one
said_row : (points : List Point) → is_row (said_first points) ≡ true
said_row [] = refl
said_row (p ∷ points) = by (is_row p.document) refl
  where
    by : (t : Bool) → is_row p.document ≡ t → is_row (if t then p.document else 1) ≡ true
    by true e = e
    by false e = refl

said_header : (locals document first : ℕ) (rest : List ℕ) → WrittenIsRead → locals < 0x20000000 → document == 0 ≡ true → is_row first ≡ true → header_in document ((spelled_number locals ++ spelled_number first) ++ rest) ≡ Some ((locals, first), rest)
unfolding header_in document_in
said_header locals document first rest written few is row =
    rw (append_assoc (spelled_number locals) (spelled_number first) rest, number_again locals (spelled_number first ++ rest) written few, is, row_again first rest written row) refl

known_header : (locals document : ℕ) (rest : List ℕ) → WrittenIsRead → locals < 0x20000000 → document == 0 ≡ false → header_in document ((spelled_number locals ++ []) ++ rest) ≡ Some ((locals, document), rest)
unfolding header_in document_in
known_header locals document rest written few is =
    rw (append-nil (spelled_number locals), number_again locals rest written few, is) refl

header_by : (locals document : ℕ) (points : List Point) (rest : List ℕ) (nil : Bool) → WrittenIsRead → locals < 0x20000000 → document == 0 ≡ nil → header_in document ((spelled_number locals ++ (if nil then spelled_number (if nil then said_first points else document) else [])) ++ rest) ≡ Some ((locals, if nil then said_first points else document), rest)
header_by locals document points rest true written few is = said_header locals document (said_first points) rest written few is (said_row points)
header_by locals document points rest false written few is = known_header locals document rest written few is

header_again : (locals document : ℕ) (points : List Point) (rest : List ℕ) → WrittenIsRead → locals < 0x20000000 → header_in document (header_bytes locals document (first_document document points) ++ rest) ≡ Some ((locals, first_document document points), rest)
unfolding header_bytes first_document
header_again locals document points rest written few = header_by locals document points rest (document == 0) written few refl

body_by : (document locals first : ℕ) (points : List Point) (bytes rest : List ℕ) → header_in document bytes ≡ Some ((locals, first), rest) → records_in (length rest) (opened first) rest ≡ Some points → body_in document bytes ≡ Some (method_points locals points)
unfolding body_in
body_by document locals first points bytes rest e f = rw (e, f) refl

points_body : (document : ℕ) (bytes : List ℕ) → 0 < length bytes → points_in document bytes ≡ body_in document bytes
unfolding points_in
points_body document [] some = absurd (omega (arith, some))
points_body document (b ∷ bytes) some = refl

header_long : (locals document first : ℕ) → 0 < length (header_bytes locals document first)
unfolding header_bytes
header_long locals document first =
    let tail = if document == 0 then spelled_number first else [] in
    omega (arith, number_long locals, length-append (spelled_number locals) tail)

blob_by : (locals document : ℕ) (points : List Point) (bytes : List ℕ) (r : Result (List ℕ) ℕ) → WrittenIsRead → SignedWrittenIsRead → locals < 0x20000000 → records_of (opened (first_document document points)) points ≡ r → preceded 0 (header_bytes locals document (first_document document points)) r ≡ Ok bytes → points_in document bytes ≡ Some (method_points locals points)
blob_by locals document points bytes (Err i) written signed few is e = absurd (cc)
blob_by locals document points bytes (Ok more) written signed few is e =
    let first = first_document document points in
    let header = header_bytes locals document first in
    let same : header ++ more ≡ bytes = cc in
    let some : 0 < length (header ++ more) = omega (arith, header_long locals document first, length-append header more) in
    ap (points_in document) (sym same) ∙ points_body document (header ++ more) some ∙ body_by document locals first points (header ++ more) more (header_again locals document points more written few) (records_back points written signed (opened first) (length more) more is (omega arith))

pub blob_back : WrittenIsRead → SignedWrittenIsRead → PointsReadBack
unfolding blob_of
blob_back written signed locals document points bytes few e = blob_by locals document points bytes (records_of (opened (first_document document points)) points) written signed few refl e
