-- Where the texts of a `#Strings` end, and which offsets have a text.
use Rattle.std.proofs.Common.{◌≡◌, ℕ, zero, suc, ◌+◌, ◌-◌, ◌<◌, ◌≤◌, Bool, true, false, cond, List, [], ◌∷◌, ◌++◌, length, take, get_or, Option, Some, None, option_map, refl, sym, subst, arith, nat_lt}
use Rattle.std.specs.Prelude.{◌==◌, ◌&&◌, ◌||◌, is_some, if◌then◌else◌}
use Rattle.std.proofs.lemmas.Bool.Decides.{nat_tests}
use Rattle.std.proofs.lemmas.List.{take_more, take_all, take_min, length-take, length-take-le}
use Rattle.std.proofs.Math.Seq.{drop-nil}
use Rattle.enc_meta.specs.Root.{before_zero}
use Rattle.enc_meta.specs.Heaps.{filled, counted_strings, to_last_zero, text_ends, text_entry, text_at}

-- another byte at the end moves nothing, and at a zero at the end all stand
last_other : (xs : List ℕ) (b : ℕ) → 0 < b → to_last_zero (xs ++ b ∷ []) ≡ to_last_zero xs
last_other [] b h = grind (arith, nat_tests)
last_other (x ∷ rest) b h = rw (last_other rest b h) refl

last_zero : (xs : List ℕ) → to_last_zero (xs ++ 0 ∷ []) ≡ length xs + 1
last_zero [] = refl
last_zero (x ∷ rest) = let e = last_zero rest in grind (arith, nat_tests)

pub last_less : (xs : List ℕ) (n : ℕ) → 0 < n → n ≤ length xs → 0 < get_or xs (n - 1) 0 → to_last_zero (take (n - 1) xs) ≡ to_last_zero (take n xs)
last_less xs n some within more =
    let m : n ≡ (n - 1) + 1 = omega arith in
    let e = take_more xs (n - 1) 0 (omega arith) in
    let P : ℕ → Type 0 = λ k. to_last_zero (take (n - 1) xs) ≡ to_last_zero (take k xs) in
    subst P (sym m) (rw e (sym (last_other (take (n - 1) xs) (get_or xs (n - 1) 0) more)))

pub last_there : (xs : List ℕ) (n : ℕ) → 0 < n → n ≤ length xs → get_or xs (n - 1) 0 ≡ 0 → to_last_zero (take n xs) ≡ n
last_there xs n some within nil =
    let m : n ≡ (n - 1) + 1 = omega arith in
    let e = take_more xs (n - 1) 0 (omega arith) in
    let l = length-take-le (n - 1) xs (omega arith) in
    let there = last_zero (take (n - 1) xs) in
    let P : ℕ → Type 0 = λ k. to_last_zero (take k xs) ≡ k in
    subst P (sym m) (rw (e, nil) (omega arith))

-- all bytes but the zeros at the end are no more than all, and a zero stands behind them
filled_few : (xs : List ℕ) → filled xs ≤ length xs
filled_few [] = omega arith
filled_few (b ∷ rest) = let e = filled_few rest in grind (arith, nat_tests)

zero_next : (b : ℕ) (rest : List ℕ) (tail : Bool) → (filled rest == 0 && b == 0) ≡ tail → get_or rest (filled rest) 0 ≡ 0 → get_or (b ∷ rest) (if tail then 0 else suc (filled rest)) 0 ≡ 0
zero_next b rest true is h = grind (arith, nat_tests)
zero_next b rest false is h = h

zero_behind : (xs : List ℕ) → get_or xs (filled xs) 0 ≡ 0
zero_behind [] = refl
zero_behind (b ∷ rest) = zero_next b rest (filled rest == 0 && b == 0) refl (zero_behind rest)

-- where zeros stand at the end, the first of them is the last byte that counts
pub ends_filled : (heap : List ℕ) → filled heap < length heap → text_ends heap ≡ record { counted = filled heap + 1; last = filled heap + 1 }
unfolding text_ends counted_strings
ends_filled heap less =
    let l = length-take-le (filled heap + 1) heap (omega arith) in
    let e : filled heap + 1 - 1 ≡ filled heap = omega arith in
    let there = last_there heap (filled heap + 1) (omega arith) (omega arith) (rw e (zero_behind heap)) in
    rw (l, there) refl

-- else all bytes count
pub ends_open : (heap : List ℕ) → length heap ≤ filled heap → text_ends heap ≡ record { counted = length heap; last = to_last_zero heap }
unfolding text_ends counted_strings
ends_open heap more = rw (take_all (filled heap + 1) heap (omega arith)) refl

-- the bytes that count are the first so many
pub counted_few : (heap : List ℕ) → (text_ends heap).counted ≤ length heap
unfolding text_ends counted_strings
counted_few heap = rw (length-take (filled heap + 1) heap) (omega arith)

pub counted_front : (heap : List ℕ) → take (text_ends heap).counted heap ≡ counted_strings heap
unfolding text_ends counted_strings
counted_front heap = rw (length-take (filled heap + 1) heap) (take_min (filled heap + 1) heap)

pub counted_last : (heap : List ℕ) → (text_ends heap).last ≡ to_last_zero (counted_strings heap)
unfolding text_ends
counted_last heap = refl

-- a text begins at an offset exactly where the offset is less than where the last zero ends
some_or : (zero : Bool) (b : ℕ) (o : Option (List ℕ)) → is_some (cond zero (Some []) (option_map (λ t. b ∷ t) o)) ≡ (zero || is_some o)
some_or true b o = refl
some_or false b None = refl
some_or false b (Some t) = refl

pub entry_there : (heap : List ℕ) (offset : ℕ) → is_some (text_entry heap offset) ≡ nat_lt offset (to_last_zero heap)
unfolding text_entry
entry_there [] offset = rw (drop-nil offset) (grind (arith, nat_tests))
entry_there (b ∷ rest) zero =
    let e = entry_there rest zero in
    rw (some_or (b == 0) b (before_zero rest), e) (grind (arith, nat_tests))
entry_there (b ∷ rest) (suc n) = let e = entry_there rest n in rw e (grind (arith, nat_tests))

pub text_there : (heap : List ℕ) (offset : ℕ) → is_some (text_at heap offset) ≡ (offset == 0 || is_some (text_entry heap offset))
unfolding text_at
text_there heap offset = at_zero (offset == 0) (text_entry heap offset)
  where
    at_zero : (nil : Bool) (o : Option (List ℕ)) → is_some (if nil then Some [] else o) ≡ (nil || is_some o)
    at_zero true o = refl
    at_zero false o = refl
