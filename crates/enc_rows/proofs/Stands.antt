-- Where a part stands in a list, and the number that is read there.
use Rattle.std.proofs.Common.{◌≡◌, ℕ, zero, suc, ◌+◌, ◌/◌, ◌%◌, ◌^◌, ◌<◌, ◌≤◌, inl, inr, true, List, [], ◌∷◌, ◌++◌, length, drop, refl, sym, ap, ◌∙◌, arith, append_assoc, length-append, le-leb}
use Rattle.std.specs.Prelude.{Some, nat_le, flat_map, slice_get}
use Rattle.std.specs.Int.{Width, byte_len, w16, w32, w64, to_le_bytes, from_le_bytes}
use Rattle.std.proofs.lemmas.Bool.{cases_lt}
use Rattle.std.proofs.lemmas.Nat.{from_le_bytes-to_le_bytes_2, from_le_bytes-to_le_bytes_4, from_le_bytes-to_le_bytes_8}
use Rattle.std.proofs.lemmas.List.{append-nil, drop_at}
use Rattle.enc_base.specs.Numbers.{little_endian_at}
use Rattle.enc_rows.specs.Sums.{below, sum_below}
use Rattle.enc_rows.proofs.Below.{sum_none, sum_more}
use Rattle.enc_rows.proofs.Pieces.{pieces_none, pieces_more}

-- the part stands in the whole at this place
pub record StandsAt (part whole : List ℕ) (at : ℕ) : Type 0 where
  pub before : List ℕ
  pub after : List ℕ
  pub split : whole ≡ before ++ (part ++ after)
  pub place : length before ≡ at

pub at_front : (a b : List ℕ) → StandsAt a (a ++ b) 0
at_front a b = record { before = []; after = b; split = refl; place = refl }

pub at_back : (a b : List ℕ) → StandsAt b (a ++ b) (length a)
at_back a b = record { before = a; after = []; split = ap (λ xs. a ++ xs) (sym (append-nil b)); place = refl }

pub moved : (a b : List ℕ) (p q : ℕ) → StandsAt a b p → p ≡ q → StandsAt a b q
moved a b p q s e = record { before = s.before; after = s.after; split = s.split; place = s.place ∙ e }

nested : (x y a v w : List ℕ) → x ++ ((y ++ (a ++ v)) ++ w) ≡ (x ++ y) ++ (a ++ (v ++ w))
nested x y a v w =
    ap (λ xs. x ++ xs) (append_assoc y (a ++ v) w ∙ ap (λ xs. y ++ xs) (append_assoc a v w)) ∙ sym (append_assoc x y (a ++ (v ++ w)))

-- a part of a part
pub within : (a b c : List ℕ) (p q : ℕ) → StandsAt a b p → StandsAt b c q → StandsAt a c (q + p)
within a b c p q inner outer = record {
  before = outer.before ++ inner.before;
  after = inner.after ++ outer.after;
  split = outer.split ∙ ap (λ xs. outer.before ++ (xs ++ outer.after)) inner.split ∙ nested outer.before inner.before a inner.after outer.after;
  place = omega (arith, length-append outer.before inner.before, outer.place, inner.place);
}

-- with more behind, and with more before
pub more_behind : (a b c : List ℕ) (p : ℕ) → StandsAt a b p → StandsAt a (b ++ c) p
more_behind a b c p s = moved a (b ++ c) (0 + p) p (within a b (b ++ c) p 0 s (at_front b c)) (omega arith)

pub more_before : (a b c : List ℕ) (p : ℕ) → StandsAt a b p → StandsAt a (c ++ b) (length c + p)
more_before a b c p s = within a b (c ++ b) p (length c) s (at_back c b)

-- each piece stands behind those before it
pub piece_stands : (f : ℕ → List ℕ) (n k : ℕ) → k < n → StandsAt (f k) (flat_map f (below n)) (length (flat_map f (below k)))
piece_stands f zero k lt = absurd (omega arith)
piece_stands f (suc n) k lt =
    let e : suc n ≡ n + 1 = omega arith in
    rw (e, pieces_more f n) (elim (cases_lt k n) [
      | inl h ↦ more_behind (f k) (flat_map f (below n)) (f n) _ (piece_stands f n k h)
      | inr h ↦
          let same : k ≡ n = omega arith in
          rw same (at_back (flat_map f (below n)) (f n))
    ])

-- and all together are as long as the sum of their lengths
pub pieces_length : (f : ℕ → List ℕ) (len : ℕ → ℕ) (n : ℕ) → ((k : ℕ) → k < n → length (f k) ≡ len k) → length (flat_map f (below n)) ≡ sum_below len n
pieces_length f len zero each = ap (λ (xs : List ℕ). length xs) (pieces_none f []) ∙ sym (sum_none len)
pieces_length f len (suc n) each =
    let e : suc n ≡ n + 1 = omega arith in
    rw (e, pieces_more f n) (length-append (flat_map f (below n)) (f n) ∙ omega (arith, sum_more len n, pieces_length f len n (λ k lt. each k (omega arith)), each n (omega arith)))

-- a number in its bytes, whatever follows them, is read where they stand
number_there : (w : Width) (n : ℕ) (stream : List ℕ) (at : ℕ) → StandsAt (to_le_bytes w n) stream at → length (to_le_bytes w n) ≡ byte_len w → ((after : List ℕ) → from_le_bytes w (to_le_bytes w n ++ after) ≡ n) → little_endian_at w stream at ≡ Some n
number_there w n stream at s len back =
    let size : at + byte_len w ≤ length stream = rw s.split (omega (arith, length-append s.before (to_le_bytes w n ++ s.after), length-append (to_le_bytes w n) s.after, s.place)) in
    let rest : drop at stream ≡ to_le_bytes w n ++ s.after = ap (λ xs. drop at xs) s.split ∙ drop_at s.before (to_le_bytes w n ++ s.after) at s.place in
    let test : nat_le (at + byte_len w) (length stream) ≡ true = le-leb _ _ size in
    rw test (ap (λ xs. Some (from_le_bytes w xs)) rest ∙ ap (λ (k : ℕ). Some k) (back s.after))

pub two_there : (n : ℕ) (stream : List ℕ) (at : ℕ) → n < 2 ^ 16 → StandsAt (to_le_bytes w16 n) stream at → little_endian_at w16 stream at ≡ Some n
two_there n stream at fits s = number_there w16 n stream at s refl (λ after. from_le_bytes-to_le_bytes_2 n fits)

pub four_there : (n : ℕ) (stream : List ℕ) (at : ℕ) → n < 2 ^ 32 → StandsAt (to_le_bytes w32 n) stream at → little_endian_at w32 stream at ≡ Some n
four_there n stream at fits s = number_there w32 n stream at s refl (λ after. from_le_bytes-to_le_bytes_4 n fits)

pub eight_there : (n : ℕ) (stream : List ℕ) (at : ℕ) → n < 2 ^ 64 → StandsAt (to_le_bytes w64 n) stream at → little_endian_at w64 stream at ≡ Some n
eight_there n stream at fits s = number_there w64 n stream at s refl (λ after. from_le_bytes-to_le_bytes_8 n fits)

item_there : (p : List ℕ) (x : ℕ) (q : List ℕ) → slice_get (p ++ x ∷ q) (length p) ≡ Some x
item_there [] x q = refl
item_there (y ∷ p) x q = item_there p x q

-- a byte, with another behind it
pub one_there : (n : ℕ) (stream : List ℕ) (at : ℕ) → n < 2 ^ 8 → StandsAt (to_le_bytes w16 n) stream at → slice_get stream at ≡ Some n
one_there n stream at fits s =
    let low : n % 256 ≡ n = omega arith in
    rw (s.split, ← s.place) (item_there s.before (n % 256) (n / 256 % 256 ∷ s.after) ∙ ap (λ (k : ℕ). Some k) low)
