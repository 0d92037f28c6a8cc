-- The code of a body that is read in bytes is bytes.
use Rattle.std.proofs.Common.{◌≡◌, ℕ, ◌+◌, ◌/◌, ◌%◌, Bool, true, false, cond, List, [], length, take, drop, Option, Some, None, refl, ap}
use Rattle.std.specs.Prelude.{option_map, option_and_then, nat_le, ◌==◌, ◌&&◌, if◌then◌else◌}
use Rattle.std.specs.Int.{w8, w16, w32}
use Rattle.enc_base.specs.Numbers.{little_endian_at, padded, has_flag}
use Rattle.enc_base.specs.Token.{token_of, nil}
use Rattle.enc_base.proofs.SmallNumbers.{EachIsByte, each_drop, each_take}
use Rattle.enc_opcodes.specs.Instruction.{range_at}
use Rattle.enc_opcodes.specs.Body.{Code, nil_or, tiny_at, sections_behind, fat_at, body_at}

-- what holds of each value behind holds of the result
behind : {A B : Type 0} (o : Option A) (f : A → Option B) (P : B → Type 0) (y : B) → ((x : A) → o ≡ Some x → f x ≡ Some y → P y) → option_and_then f o ≡ Some y → P y
behind None f P y each e = absurd cc
behind (Some x) f P y each e = each x refl e

range_bytes : (bytes : List ℕ) (at n : ℕ) (r : List ℕ) → EachIsByte bytes → range_at bytes at n ≡ Some r → EachIsByte r
unfolding range_at
range_bytes bytes at n r all h = by_test (nat_le (at + n) (length bytes)) h
  where
    by_test : (t : Bool) → cond t (Some (take n (drop at bytes))) None ≡ Some r → EachIsByte r
    by_test true h = let is : take n (drop at bytes) ≡ r = cc in rw (← is) (each_take (drop at bytes) n (each_drop bytes at all))
    by_test false h = absurd cc

tiny_bytes : (o : Option (List ℕ)) (c : Code) → ((r : List ℕ) → o ≡ Some r → EachIsByte r) → option_map (λ (code : List ℕ). record { max = 8; init = false; locals = nil; code = code; sections = [] }) o ≡ Some c → EachIsByte c.code
tiny_bytes None c all h = absurd cc
tiny_bytes (Some r) c all h =
    let is : record { max = 8; init = false; locals = nil; code = r; sections = [] } ≡ c = cc in
    let code : r ≡ c.code = ap (λ (x : Code). x.code) is in
    rw (← code) (all r refl)

fat_bytes : (b : Bool) (d c : Code) → EachIsByte d.code → (if b then Some d else None) ≡ Some c → EachIsByte c.code
fat_bytes true d c all h = let is : d ≡ c = cc in rw (← is) all
fat_bytes false d c all h = absurd cc

at_fat : (bytes : List ℕ) (at : ℕ) (c : Code) → EachIsByte bytes → fat_at bytes at ≡ Some c → EachIsByte c.code
unfolding fat_at
at_fat bytes at c all h =
    behind (little_endian_at w16 bytes at) _ (λ (x : Code). EachIsByte x.code) c (λ flags e. behind (little_endian_at w16 bytes (at + 2)) _ (λ (x : Code). EachIsByte x.code) c (λ max f. behind (little_endian_at w32 bytes (at + 4)) _ (λ (x : Code). EachIsByte x.code) c (λ size g. behind (little_endian_at w32 bytes (at + 8)) _ (λ (x : Code). EachIsByte x.code) c (λ locals i. behind (range_at bytes (at + 12) size) _ (λ (x : Code). EachIsByte x.code) c (λ code j. behind (sections_behind bytes (at + 12 + padded size) (has_flag 8 flags)) _ (λ (x : Code). EachIsByte x.code) c (λ sections k. fat_bytes (flags / 0x1000 == 3) (record { max = max; init = has_flag 0x10 flags; locals = nil_or (token_of locals); code = code; sections = sections }) c (range_bytes bytes (at + 12) size code all j))))))) h

at_tiny : (bytes : List ℕ) (at size : ℕ) (c : Code) → EachIsByte bytes → tiny_at bytes at size ≡ Some c → EachIsByte c.code
at_tiny bytes at size c all h = tiny_bytes (range_at bytes (at + 1) size) c (λ r e. range_bytes bytes (at + 1) size r all e) h

by_form : (bytes : List ℕ) (at size : ℕ) (b d : Bool) (c : Code) → EachIsByte bytes → (if b then tiny_at bytes at size else if d then fat_at bytes at else None) ≡ Some c → EachIsByte c.code
by_form bytes at size true d c all h = at_tiny bytes at size c all h
by_form bytes at size false true c all h = at_fat bytes at c all h
by_form bytes at size false false c all h = absurd cc

pub body_bytes : (bytes : List ℕ) (at place : ℕ) (c : Code) → EachIsByte bytes → body_at bytes at place ≡ Some c → EachIsByte c.code
unfolding body_at
body_bytes bytes at place c all h =
    behind (little_endian_at w8 bytes at) _ (λ (x : Code). EachIsByte x.code) c (λ first e. by_form bytes at (first / 4) (first % 4 == 2) (first % 4 == 3 && place % 4 == 0) c all) h
