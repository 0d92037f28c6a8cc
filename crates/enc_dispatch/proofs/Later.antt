-- Parts, rows and methods behind those that are there.
use Rattle.std.proofs.Common.{◌≡◌, ℕ, zero, suc, ◌+◌, ◌-◌, ◌<◌, ◌≤◌, Bool, true, false, List, [], ◌∷◌, ◌++◌, length, filter, Option, Some, None, option_map, slice_get, refl, sym, ap, subst, ◌∙◌, arith}
use Rattle.std.specs.Prelude.{nat_lt, if◌then◌else◌}
use Rattle.std.proofs.lemmas.Bool.Decides.{nat_tests}
use Rattle.enc_base.specs.Order.{or_else}
use Rattle.enc_plain.specs.Module.{Module}
use Rattle.enc_plain.specs.Sound.{row_count}
use Rattle.enc_base.specs.Tables as tables
use Rattle.enc_dispatch.specs.declared.method_part.MethodPart.{MethodPart}
use Rattle.enc_dispatch.specs.declared.wanted.Wanted.{Wanted}
use Rattle.enc_dispatch.specs.Buckets.{is_slot}
use Rattle.enc_dispatch.specs.Growth.{EachLater}
use Rattle.enc_dispatch.specs.Own.{wanted_slot, row_part, own_among}
use Rattle.enc_dispatch.specs.Parts.{EachPart}
use Rattle.enc_dispatch.specs.Walked.{slot_at}
use Rattle.enc_dispatch.proofs.Kept.{AllThere, row_bounds}

-- places of two lists behind one another
pub get_first : {A : Type 0} (xs ys : List A) (k : ℕ) → k < length xs → slice_get (xs ++ ys) k ≡ slice_get xs k
get_first [] ys k low = absurd (omega (arith, low))
get_first (x ∷ xs) ys zero low = refl
get_first (x ∷ xs) ys (suc k) low = get_first xs ys k (omega (arith, low))

pub get_later : {A : Type 0} (xs ys : List A) (k : ℕ) → length xs ≤ k → slice_get (xs ++ ys) k ≡ slice_get ys (k - length xs)
get_later [] ys k low = let e : k - 0 ≡ k = omega arith in rw e refl
get_later (x ∷ xs) ys zero low = absurd (omega (arith, low))
get_later (x ∷ xs) ys (suc k) low = let e : suc k - suc (length xs) ≡ k - length xs = omega arith in rw e (get_later xs ys k (omega (arith, low)))

pub slot_first : (first more : List MethodPart) (row : ℕ) → row ≤ length first → slot_at (first ++ more) row ≡ slot_at first row
slot_first first more zero low = refl
slot_first first more (suc i) low = ap (option_map (λ (p : MethodPart). p.slot)) (get_first first more i (omega (arith, low)))

pub slot_later : (first more : List MethodPart) (row : ℕ) → length first < row → slot_at (first ++ more) row ≡ slot_at more (row - length first)
slot_later first more zero low = absurd (omega (arith, low))
slot_later first more (suc i) low =
    let e : suc i - length first ≡ suc (i - length first) = omega (arith, low) in
    rw e (ap (option_map (λ (p : MethodPart). p.slot)) (get_later first more i (omega (arith, low))))

pub each_append : {A : Type 0} (is : ℕ → A → Type 0) (xs ys : List A) (n : ℕ) → length xs ≡ n → EachPart is xs → EachLater is n ys → EachPart is (xs ++ ys)
each_append is xs ys n size first later k p e = by_place (nat_lt k (length xs)) refl
  where
    by_place : (b : Bool) → nat_lt k (length xs) ≡ b → is k p
    by_place true t = let low : k < length xs = grind (arith, nat_tests) in first k p (sym (get_first xs ys k low) ∙ e)
    by_place false t =
        let low : length xs ≤ k = grind (arith, nat_tests) in
        let same : n + (k - length xs) ≡ k = omega (arith, low, size) in
        subst (λ j. is j p) same (later (k - length xs) p (sym (get_later xs ys k low) ∙ e))

-- rows that pass a test
pub filter_both : (f : ℕ → Bool) (xs ys : List ℕ) → filter f (xs ++ ys) ≡ filter f xs ++ filter f ys
filter_both f [] ys = refl
filter_both f (x ∷ xs) ys = by_test (f x) (filter_both f xs ys)
  where
    by_test : (b : Bool) → filter f (xs ++ ys) ≡ filter f xs ++ filter f ys → (if b then x ∷ filter f (xs ++ ys) else filter f (xs ++ ys)) ≡ (if b then x ∷ filter f xs else filter f xs) ++ filter f ys
    by_test true step = ap (λ zs. x ∷ zs) step
    by_test false step = step

pub none_later : (m : Module) (xs : List ℕ) → AllThere m xs → filter (λ (row : ℕ). nat_lt (row_count m tables.method_def) row) xs ≡ []
none_later m [] there = refl
none_later m (x ∷ xs) there =
    let b = row_bounds m x there.0 in
    let test : nat_lt (row_count m 0x06) x ≡ false = grind (arith, nat_tests, b.1) in
    rw test (none_later m xs there.1)

pub all_later : (m : Module) (xs : List ℕ) → AllThere m xs → filter (λ (row : ℕ). nat_lt 0 row) xs ≡ xs
all_later m [] there = refl
all_later m (x ∷ xs) there =
    let b = row_bounds m x there.0 in
    let test : nat_lt 0 x ≡ true = grind (arith, nat_tests, b.0) in
    rw test (ap (λ ys. x ∷ ys) (all_later m xs there.1))

pub new_later : (count : ℕ) (xs : List ℕ) → ((i row : ℕ) → slice_get xs i ≡ Some row → count < row) → filter (λ (row : ℕ). nat_lt count row) xs ≡ xs
new_later count [] new = refl
new_later count (x ∷ xs) new =
    let low = new 0 x refl in
    let test : nat_lt count x ≡ true = grind (arith, nat_tests, low) in
    rw test (ap (λ ys. x ∷ ys) (new_later count xs (λ i row e. new (suc i) row e)))

-- the first wanted method of two lists
first_both : (f : ℕ → Bool) (xs ys : List ℕ) → slice_get (filter f (xs ++ ys)) 0 ≡ or_else (slice_get (filter f xs) 0) (slice_get (filter f ys) 0)
first_both f [] ys = refl
first_both f (x ∷ xs) ys = by_test (f x) (first_both f xs ys)
  where
    by_test : (b : Bool) → slice_get (filter f (xs ++ ys)) 0 ≡ or_else (slice_get (filter f xs) 0) (slice_get (filter f ys) 0)
        → slice_get (if b then x ∷ filter f (xs ++ ys) else filter f (xs ++ ys)) 0 ≡ or_else (slice_get (if b then x ∷ filter f xs else filter f xs) 0) (slice_get (filter f ys) 0)
    by_test true step = refl
    by_test false step = step

mapped_both : {A B : Type 0} (f : A → B) (a b : Option A) → option_map f (or_else a b) ≡ or_else (option_map f a) (option_map f b)
mapped_both f None b = refl
mapped_both f (Some x) b = refl

pub among_both : (m : Module) (methods : List MethodPart) (wanted : Wanted) (s : ℕ) (xs ys : List ℕ) → own_among m methods wanted s (xs ++ ys) ≡ or_else (own_among m methods wanted s xs) (own_among m methods wanted s ys)
unfolding own_among
among_both m methods wanted s xs ys =
    let test = λ (row : ℕ). is_slot s (wanted_slot m methods wanted row) in
    ap (option_map (row_part m)) (first_both test xs ys) ∙ mapped_both (row_part m) (slice_get (filter test xs) 0) (slice_get (filter test ys) 0)
