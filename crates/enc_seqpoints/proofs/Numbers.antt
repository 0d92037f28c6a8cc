-- Numbers that are written read back, whatever follows them.
use Rattle.std.proofs.Common.{◌≡◌, ℕ, ◌+◌, ◌-◌, ◌<◌, ◌≤◌, Bool, true, false, List, ◌++◌, length, drop, Option, Some, None, refl, arith}
use Rattle.std.proofs.lemmas.Bool.{lt-ltb, ltb-true, le-ltb, le-leb, leb-true, leb-false, and_parts, and_from}
use Rattle.std.proofs.lemmas.Bool.Decides.{nat_tests}
use Rattle.std.proofs.lemmas.Int.{of_z-to_z}
use Rattle.std.proofs.Math.Seq.{drop-append_seam}
use Rattle.std.specs.Prelude.{nat_lt, nat_le, option_map, option_and_then, if◌then◌else◌, ℤ}
use Rattle.std.specs.Int.{w32, cast_signed}
use Rattle.enc_base.specs.Numbers.{compressed, signed, spelled, spelled_signed, is_within, WrittenIsRead, SignedWrittenIsRead}
use Rattle.enc_seqpoints.specs.Grammar.{is_row, document_row_in, below_limit, moved, moved_in}
use Rattle.enc_base.specs.Readers.{number_in, signed_in, is_small, bits_of}
use Rattle.enc_seqpoints.specs.Spelling.{spelled_number, spelled_difference, between, is_close}

number_on : (o : Option (ℕ × ℕ)) (n : ℕ) (s rest : List ℕ) → o ≡ Some (n, length s) → n < 0x20000000 → option_and_then {T = ℕ × ℕ} {U = ℕ × List ℕ} (λ x. if nat_lt x.0 0x20000000 then Some (x.0, drop x.1 (s ++ rest)) else None) o ≡ Some (n, rest)
number_on o n s rest e few = rw (e, lt-ltb n 0x20000000 few, drop-append_seam s rest) refl

pub number_again : (n : ℕ) (rest : List ℕ) → WrittenIsRead → n < 0x20000000 → number_in (spelled_number n ++ rest) ≡ Some (n, rest)
unfolding number_in spelled_number
number_again n rest written few = number_on (compressed (spelled n ++ rest)) n (spelled n) rest (written n rest few) few

small_few : (n : ℕ) → is_small n ≡ true → n < 0x100000000
small_few n small = ltb-true n 0x100000000 (and_parts (is_within 0x10000000 n) (nat_lt n 0x100000000) small).1

signed_on : (o : Option (ℤ × ℕ)) (n : ℕ) (s rest : List ℕ) → o ≡ Some (cast_signed w32 n, length s) → is_small n ≡ true → option_and_then {T = ℤ × ℕ} {U = ℕ × List ℕ} (λ x. if is_small (bits_of x.0) then Some (bits_of x.0, drop x.1 (s ++ rest)) else None) o ≡ Some (n, rest)
signed_on o n s rest e small = rw (e, of_z-to_z w32 n (small_few n small), small, drop-append_seam s rest) refl

pub signed_again : (n : ℕ) (rest : List ℕ) → SignedWrittenIsRead → is_small n ≡ true → signed_in (spelled_difference n ++ rest) ≡ Some (n, rest)
unfolding signed_in spelled_difference
signed_again n rest written small = signed_on (signed (spelled_signed n ++ rest)) n (spelled_signed n) rest (written n rest (small_few n small) (and_parts (is_within 0x10000000 n) (nat_lt n 0x100000000) small).0) small

-- a document row
row_on : (o : Option (ℕ × List ℕ)) (n : ℕ) (rest : List ℕ) → o ≡ Some (n, rest) → is_row n ≡ true → option_and_then {T = ℕ × List ℕ} {U = ℕ × List ℕ} (λ p. option_map (λ y. (y, p.1)) (if is_row p.0 then Some p.0 else None)) o ≡ Some (n, rest)
row_on o n rest e row = rw (e, row) refl

pub row_again : (n : ℕ) (rest : List ℕ) → WrittenIsRead → is_row n ≡ true → document_row_in (spelled_number n ++ rest) ≡ Some (n, rest)
unfolding document_row_in
row_again n rest written row = row_on (number_in (spelled_number n ++ rest)) n rest (number_again n rest written (ltb-true n 0x20000000 (and_parts (nat_lt 0 n) (nat_lt n 0x20000000) row).1)) row

-- a difference leads where it came from
pub below_is : (n : ℕ) → n < 0x20000000 → below_limit n ≡ Some n
unfolding below_limit
below_is n few = rw (lt-ltb n 0x20000000 few) refl

pub up_by : (from to : ℕ) → from ≤ to → to < 0x20000000 → moved from (to - from) ≡ Some to
unfolding moved
up_by from to le few =
    let low : to - from < 0x80000000 = omega (arith, le, few) in
    let e : from + (to - from) ≡ to = omega (arith, le) in
    rw (lt-ltb (to - from) 0x80000000 low, e) (below_is to few)

down_by : (from to : ℕ) → to < from → from ≤ to + 0x10000000 → to < 0x20000000 → moved from (0x100000000 - (from - to)) ≡ Some to
unfolding moved
down_by from to lt near few =
    let up : 0x80000000 ≤ 0x100000000 - (from - to) = omega (arith, lt, near) in
    let past : 0x100000000 ≤ from + (0x100000000 - (from - to)) = omega (arith, lt, near) in
    let e : from + (0x100000000 - (from - to)) - 0x100000000 ≡ to = omega (arith, lt, near) in
    rw (le-ltb (0x100000000 - (from - to)) 0x80000000 up, le-ltb (from + (0x100000000 - (from - to))) 0x100000000 past, e) (below_is to few)

close_parts : (from to : ℕ) → is_close from to ≡ true → (from ≤ to + 0x10000000) × (to < from + 0x10000000)
close_parts from to close =
    let h = and_parts (nat_le from (to + 0x10000000)) (nat_lt to (from + 0x10000000)) close in
    (leb-true from (to + 0x10000000) h.0, ltb-true to (from + 0x10000000) h.1)

-- columns are near each other
pub close_from : (from to : ℕ) → from < 0x10000000 → to < 0x10000000 → is_close from to ≡ true
close_from from to p q = and_from (nat_le from (to + 0x10000000)) (nat_lt to (from + 0x10000000)) (le-leb from (to + 0x10000000) (omega (arith, p))) (lt-ltb to (from + 0x10000000) (omega (arith, q)))

moved_by : (from to : ℕ) (le : Bool) → nat_le from to ≡ le → to < 0x20000000 → from ≤ to + 0x10000000 → moved from (if le then to - from else 0x100000000 - (from - to)) ≡ Some to
moved_by from to true is few near = up_by from to (leb-true from to is) few
moved_by from to false is few near = down_by from to (leb-false from to is) near few

pub moved_between : (from to : ℕ) → to < 0x20000000 → is_close from to ≡ true → moved from (between from to) ≡ Some to
unfolding between
moved_between from to few close = moved_by from to (nat_le from to) refl few (close_parts from to close).0

small_low : (n : ℕ) → n < 0x10000000 → is_small n ≡ true
small_low n lt = grind (arith, nat_tests, lt)

small_high : (n : ℕ) → 0xF0000000 ≤ n → n < 0x100000000 → is_small n ≡ true
small_high n le lt = grind (arith, nat_tests, le, lt)

small_by : (from to : ℕ) (le : Bool) → nat_le from to ≡ le → from ≤ to + 0x10000000 → to < from + 0x10000000 → is_small (if le then to - from else 0x100000000 - (from - to)) ≡ true
small_by from to true is near far = small_low (to - from) (omega (arith, near, far))
small_by from to false is near far = let lt : to < from = leb-false from to is in small_high (0x100000000 - (from - to)) (omega (arith, near, lt)) (omega (arith, lt))

pub between_small : (from to : ℕ) → is_close from to ≡ true → is_small (between from to) ≡ true
unfolding between
between_small from to close = let h = close_parts from to close in small_by from to (nat_le from to) refl h.0 h.1

pub moved_again : (from to : ℕ) (rest : List ℕ) → SignedWrittenIsRead → to < 0x20000000 → is_close from to ≡ true → moved_in from (spelled_difference (between from to) ++ rest) ≡ Some (to, rest)
unfolding moved_in
moved_again from to rest written few close = rw (signed_again (between from to) rest written (between_small from to close), moved_between from to few close) refl
