-- The rows of EncMap and EncLog, one by one.
use Rattle.std.proofs.Common.{◌≡◌, ℕ, zero, suc, ◌+◌, ◌-◌, ◌<◌, ◌≤◌, Bool, true, false, List, [], ◌∷◌, ◌++◌, length, map, take, get_or, refl, sym, ap, ◌∙◌, arith, append_assoc}
use Rattle.std.specs.Prelude.{◌^◌, ◌||◌, ◌==◌, nat_lt, filter}
use Rattle.std.proofs.lemmas.List.{append-nil, length-append, length-map, map-append}
use Rattle.std.proofs.lemmas.List.Folds.{list_any-append}
use Rattle.enc_schema.specs.Schema.{columns_in}
use Rattle.enc_base.specs.Tables.{enc_log, enc_map}
use Rattle.enc_delta.specs.Rules.{counted, counts, stands_in}
use Rattle.enc_delta.specs.declared.log_entry.LogEntry.{LogEntry}
use Rattle.enc_list_delta.specs.Holds.{entry_numbers}

-- EncMap has one column, and EncLog two
pub map_columns : nat_lt 0 (length (columns_in enc_map)) ≡ true
unfolding columns_in
map_columns = refl

pub map_width : length (columns_in enc_map) ≡ 1
unfolding columns_in
map_width = refl

pub log_columns : nat_lt 0 (length (columns_in enc_log)) ≡ true
unfolding columns_in
log_columns = refl

pub log_width : length (columns_in enc_log) ≡ 2
unfolding columns_in
log_width = refl

-- what stands in a list of which the second part stands behind the first
pub stands_in_both : (xs ys all : List ℕ) (n : ℕ) → all ≡ xs ++ ys → stands_in all n ≡ (stands_in xs n || stands_in ys n)
stands_in_both xs ys all n is = ap (λ ns. stands_in ns n) is ∙ list_any-append (λ m. m == n) xs ys

-- one item more of a list
pub take_more : {A : Type 0} (xs : List A) (k : ℕ) (d : A) → k < length xs → take (k + 1) xs ≡ take k xs ++ get_or xs k d ∷ []
take_more [] k d low = absurd (omega (arith, low))
take_more (x ∷ xs) zero d low = refl
take_more (x ∷ xs) (suc k) d low = let e : suc k + 1 ≡ suc (k + 1) = omega arith in rw e (ap (λ ys. x ∷ ys) (take_more xs k d (omega (arith, low))))

-- no more of its items pass a test
pub filter_few : {A : Type 0} (p : A → Bool) (xs : List A) → length (filter p xs) ≤ length xs
filter_few p [] = omega arith
filter_few p (x ∷ xs) = by (p x) refl (filter_few p xs)
  where
    by : (b : Bool) → p x ≡ b → length (filter p xs) ≤ length xs → length (filter p (x ∷ xs)) ≤ length (x ∷ xs)
    by true is more = rw is (omega (arith, more))
    by false is more = rw is (omega (arith, more))

-- one token more in EncMap
abbrev pub mapped : List ℕ → List (List ℕ)
mapped numbers = map (λ (n : ℕ). n ∷ []) numbers

pub token_mapped : (numbers : List ℕ) (k d : ℕ) (old so_far new : List (List ℕ)) → k < length numbers → so_far ≡ old ++ mapped (take k numbers) → new ≡ so_far ++ (get_or numbers k d ∷ []) ∷ []
    → new ≡ old ++ mapped (take (k + 1) numbers)
token_mapped numbers k d old so_far new low before is =
    is
    ∙ ap (λ rows. rows ++ (get_or numbers k d ∷ []) ∷ []) before
    ∙ append_assoc old (mapped (take k numbers)) ((get_or numbers k d ∷ []) ∷ [])
    ∙ ap (λ rows. old ++ rows) (sym (ap mapped (take_more numbers k d low) ∙ map-append (λ (n : ℕ). n ∷ []) (take k numbers) (get_or numbers k d ∷ [])))

take_few : {A : Type 0} (xs : List A) (k : ℕ) → k ≤ length xs → length (take k xs) ≡ k
take_few [] zero low = refl
take_few [] (suc k) low = absurd (omega (arith, low))
take_few (x ∷ xs) zero low = refl
take_few (x ∷ xs) (suc k) low = ap suc (take_few xs k (omega (arith, low)))

pub map_has_room : (numbers : List ℕ) (k : ℕ) (old so_far : List (List ℕ)) → k < length numbers → so_far ≡ old ++ mapped (take k numbers) → length old + length numbers < 2 ^ 24
    → length so_far < 2 ^ 24 - 1
map_has_room numbers k old so_far low is few =
    let many = ap length is ∙ length-append old (mapped (take k numbers)) ∙ ap (λ n. length old + n) (length-map (take k numbers) (λ (n : ℕ). n ∷ []) ∙ take_few numbers k (omega (arith, low))) in
    omega (arith, low, many, few)

-- the entries that count of one list behind another
counted_both : (xs ys : List LogEntry) → counted (xs ++ ys) ≡ counted xs ++ counted ys
unfolding counted
counted_both [] ys = refl
counted_both (x ∷ xs) ys = by (counts x) refl (counted_both xs ys)
  where
    by : (b : Bool) → counts x ≡ b → filter counts (xs ++ ys) ≡ filter counts xs ++ filter counts ys → filter counts ((x ∷ xs) ++ ys) ≡ filter counts (x ∷ xs) ++ filter counts ys
    by true is more = rw is (ap (λ es. x ∷ es) more)
    by false is more = rw is more

counted_more : (log : List LogEntry) (k : ℕ) (e : LogEntry) → k < length log → e ≡ get_or log k e → counted (take (k + 1) log) ≡ counted (take k log) ++ counted (e ∷ [])
counted_more log k e low is = ap counted (take_more log k e low) ∙ counted_both (take k log) (get_or log k e ∷ []) ∙ ap (λ (x : LogEntry). counted (take k log) ++ counted (x ∷ [])) (sym is)

counted_front : (log : List LogEntry) (k : ℕ) → length (counted (take k log)) ≤ length (counted log)
unfolding counted
counted_front [] zero = omega arith
counted_front [] (suc k) = omega arith
counted_front (x ∷ log) zero = omega arith
counted_front (x ∷ log) (suc k) = by (counts x) refl (counted_front log k)
  where
    by : (b : Bool) → counts x ≡ b → length (filter counts (take k log)) ≤ length (filter counts log) → length (filter counts (take (suc k) (x ∷ log))) ≤ length (filter counts (x ∷ log))
    by true is more = rw is (omega (arith, more))
    by false is more = rw is more

-- one entry more in EncLog
pub no_entry_logged : (rows : List (List ℕ)) → rows ≡ rows ++ map entry_numbers (counted [])
unfolding counted
no_entry_logged rows = sym (append-nil rows)

logged_length : (old new : List (List ℕ)) (xs : List LogEntry) → new ≡ old ++ map entry_numbers xs → length new ≡ length old + length xs
logged_length old new xs is = ap length is ∙ length-append old (map entry_numbers xs) ∙ ap (λ n. length old + n) (length-map xs entry_numbers)

pub behind_logged : (old so_far new : List (List ℕ)) (xs ys : List LogEntry) → so_far ≡ old ++ map entry_numbers xs → new ≡ so_far ++ map entry_numbers ys → new ≡ old ++ map entry_numbers (xs ++ ys)
behind_logged old so_far new xs ys before after =
    after
    ∙ ap (λ rows. rows ++ map entry_numbers ys) before
    ∙ append_assoc old (map entry_numbers xs) (map entry_numbers ys)
    ∙ ap (λ rows. old ++ rows) (sym (map-append entry_numbers xs ys))

pub entry_logged : (log : List LogEntry) (k : ℕ) (e : LogEntry) (old so_far new : List (List ℕ)) → k < length log → e ≡ get_or log k e → so_far ≡ old ++ map entry_numbers (counted (take k log))
    → new ≡ so_far ++ map entry_numbers (counted (e ∷ [])) → new ≡ old ++ map entry_numbers (counted (take (k + 1) log))
entry_logged log k e old so_far new low is before after =
    behind_logged old so_far new (counted (take k log)) (counted (e ∷ [])) before after ∙ ap (λ es. old ++ map entry_numbers es) (sym (counted_more log k e low is))

pub log_has_room : (log : List LogEntry) (k : ℕ) (e : LogEntry) (old so_far : List (List ℕ)) → k < length log → e ≡ get_or log k e → so_far ≡ old ++ map entry_numbers (counted (take k log))
    → length old + length (counted log) < 2 ^ 24 → length so_far + length (counted (e ∷ [])) < 2 ^ 24
log_has_room log k e old so_far low at is few =
    let many = logged_length old so_far (counted (take k log)) is in
    let more = ap length (counted_more log k e low at) ∙ length-append (counted (take k log)) (counted (e ∷ [])) in
    let most = counted_front log (k + 1) in
    omega (arith, many, more, most, few)

-- the log of the second behind that of the first
pub second_has_room : (old new : List (List ℕ)) (xs ys : List LogEntry) → new ≡ old ++ map entry_numbers xs → length old + length xs + length ys < 2 ^ 24 → length new + length ys < 2 ^ 24
second_has_room old new xs ys is few = let many = logged_length old new xs is in omega (arith, many, few)
