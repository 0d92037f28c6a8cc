-- The children of all owners in a list, and their order.
use Rattle.std.proofs.Common.{◌≡◌, ℕ, zero, suc, ◌+◌, ◌-◌, ◌<◌, ◌≤◌, true, false, List, [], ◌∷◌, ◌++◌, length, take, drop, get_or, Some, refl, sym, ap, ◌∙◌, arith, append_assoc}
use Rattle.std.specs.Prelude.{◌^◌, ◌&&◌, ◌==◌, ◌≢◌, flat_map, slice_get}
use Rattle.std.proofs.lemmas.Bool.Decides.{nat_tests}
use Rattle.std.proofs.lemmas.List.{append-nil, length-take-le}
use Rattle.enc_rows.specs.Written.{rows_at, count_at}
use Rattle.enc_base.specs.Token.{nth_row}
use Rattle.enc_plain.specs.Module.{Module, Row, rows_in, kids_at, kids_of}
use Rattle.enc_plain.specs.Sound.{row_count, all_kids, IsSound}
use Rattle.enc_plain.proofs.Owned.{all_kids_few}
use Rattle.enc_schema.specs.Children.{is_child_table, owner_table, ptr_of}
use Rattle.enc_schema.specs.Schema.{columns_in}
use Rattle.enc_schema.proofs.ChildTables.{by_child}
use Rattle.enc_rewriter.specs.Numbers.{kids_before, in_order_from, rows_of_one}
use Rattle.enc_rewriter.proofs.RunStarts.{some_there, kids_of_row}

pub none_listed : (m : Module) (child : ℕ) → [] ≡ kids_before m child 0
unfolding kids_before
none_listed m child = refl

one_more : {A : Type 0} (f : A → List ℕ) (xs : List A) (n : ℕ) (x : A) → slice_get xs n ≡ Some x → flat_map f (take (suc n) xs) ≡ flat_map f (take n xs) ++ f x
one_more f [] n x e = absurd cc
one_more f (y ∷ ys) zero x e =
    let is : y ≡ x = cc in
    rw is (append-nil (f x))
one_more f (y ∷ ys) (suc n) x e = ap (λ zs. f y ++ zs) (one_more f ys n x e) ∙ sym (append_assoc (f y) (flat_map f (take n ys)) (f x))

pub more_listed : (m : Module) (child n : ℕ) (old rows new : List ℕ) → is_child_table child ≡ true → n < row_count m (owner_table child) → old ≡ kids_before m child n
    → rows ≡ kids_of m (nth_row (owner_table child) n) child → new ≡ old ++ rows → new ≡ kids_before m child (n + 1)
unfolding kids_before
more_listed m child n old rows new there low before is after =
    let x = some_there (rows_in m (owner_table child)) n low in
    let s : n + 1 ≡ suc n = omega arith in
    let kids : rows ≡ kids_at x.0 child = is ∙ kids_of_row m child n x.0 there x.1 in
    after ∙ ap (λ xs. xs ++ rows) before ∙ ap (λ xs. flat_map (λ (r : Row). kids_at r child) (take n (rows_in m (owner_table child))) ++ xs) kids
    ∙ sym (ap (λ k. flat_map (λ (r : Row). kids_at r child) (take k (rows_in m (owner_table child)))) s ∙ one_more (λ (r : Row). kids_at r child) (rows_in m (owner_table child)) n x.0 x.1)

take_whole : {A : Type 0} (xs : List A) (n : ℕ) → length xs ≤ n → take n xs ≡ xs
take_whole [] zero le = refl
take_whole [] (suc n) le = refl
take_whole (x ∷ xs) zero le = absurd (omega (arith, le))
take_whole (x ∷ xs) (suc n) le = ap (λ ys. x ∷ ys) (take_whole xs n (omega (arith, le)))

pub all_listed : (m : Module) (child n : ℕ) → row_count m (owner_table child) ≤ n → kids_before m child n ≡ all_kids m child
unfolding kids_before
all_listed m child n all = ap (flat_map (λ (r : Row). kids_at r child)) (take_whole (rows_in m (owner_table child)) n all)

pub few_listed : (m : Module) (child : ℕ) (kids : List ℕ) → IsSound m → is_child_table child ≡ true → kids ≡ all_kids m child → length kids < 2 ^ 24
few_listed m child kids sound there is =
    let few = all_kids_few m child sound.owners.owned there in
    let small = sound.counts.few child in
    let long : length kids ≡ length (all_kids m child) = ap length is in
    omega (arith, few, small, long)

pub order_begins : (kids : List ℕ) → in_order_from (0 + 1) (drop 0 kids) ≡ in_order_from 1 kids
order_begins kids = refl

order_step : (kids : List ℕ) (i k d : ℕ) → i < length kids → in_order_from k (drop i kids) ≡ (get_or kids i d == k && in_order_from (k + 1) (drop (i + 1) kids))
order_step [] i k d low = absurd (omega (arith, low))
order_step (x ∷ xs) zero k d low = refl
order_step (x ∷ xs) (suc i) k d low = let e : suc i + 1 ≡ suc (i + 1) = omega arith in rw e (order_step xs i k d (omega (arith, low)))

pub order_goes_on : (kids : List ℕ) (i d : ℕ) → i < length kids → get_or kids i d ≡ i + 1 → in_order_from (i + 1) (drop i kids) ≡ in_order_from 1 kids
    → in_order_from (i + 1 + 1) (drop (i + 1) kids) ≡ in_order_from 1 kids
order_goes_on kids i d low is so_far =
    let same : (get_or kids i d == i + 1) ≡ true = grind (arith, nat_tests, is) in
    sym (order_step kids i (i + 1) d low ∙ ap (λ b. b && in_order_from (i + 1 + 1) (drop (i + 1) kids)) same) ∙ so_far

pub order_breaks : (kids : List ℕ) (i d : ℕ) → i < length kids → get_or kids i d ≢ i + 1 → in_order_from (i + 1) (drop i kids) ≡ in_order_from 1 kids → false ≡ in_order_from 1 kids
order_breaks kids i d low other so_far =
    let differs : (get_or kids i d == i + 1) ≡ false = grind (arith, nat_tests, other) in
    sym (order_step kids i (i + 1) d low ∙ ap (λ b. b && in_order_from (i + 1 + 1) (drop (i + 1) kids)) differs) ∙ so_far

none_dropped : (kids : List ℕ) (i k : ℕ) → length kids ≤ i → in_order_from k (drop i kids) ≡ true
none_dropped [] zero k past = refl
none_dropped [] (suc i) k past = refl
none_dropped (x ∷ xs) zero k past = absurd (omega (arith, past))
none_dropped (x ∷ xs) (suc i) k past = none_dropped xs i k (omega (arith, past))

pub order_ends : (kids : List ℕ) (i : ℕ) → length kids ≤ i → in_order_from (i + 1) (drop i kids) ≡ in_order_from 1 kids → true ≡ in_order_from 1 kids
order_ends kids i past so_far = sym (none_dropped kids i (i + 1) past) ∙ so_far

pub none_of_one : (kids : List ℕ) (rows : List (List ℕ)) → rows ≡ [] → rows ≡ rows_of_one (take 0 kids)
unfolding rows_of_one
none_of_one kids rows none = none

pub more_of_one : (kids : List ℕ) (i d : ℕ) (old new : List (List ℕ)) → i < length kids → old ≡ rows_of_one (take i kids) → new ≡ old ++ (get_or kids i d ∷ []) ∷ []
    → new ≡ rows_of_one (take (i + 1) kids)
unfolding rows_of_one
more_of_one [] i d old new low before after = absurd (omega (arith, low))
more_of_one (x ∷ xs) zero d old new low before after = after ∙ ap (λ r. r ++ (x ∷ []) ∷ []) before
more_of_one (x ∷ xs) (suc i) d old new low before after =
    let e : suc i + 1 ≡ suc (i + 1) = omega arith in
    rw e (after ∙ ap (λ r. r ++ (get_or xs i d ∷ []) ∷ []) before
    ∙ ap (λ r. (x ∷ []) ∷ r) (more_of_one xs i d (rows_of_one (take i xs)) (rows_of_one (take i xs) ++ (get_or xs i d ∷ []) ∷ []) (omega (arith, low)) refl refl))

pub all_of_one : (kids : List ℕ) (n : ℕ) → length kids ≤ n → rows_of_one (take n kids) ≡ rows_of_one kids
all_of_one kids n past = ap rows_of_one (take_whole kids n past)

-- a Ptr table has one column
pub ptr_columns : (child : ℕ) → is_child_table child ≡ true → length (columns_in (ptr_of child)) ≡ 1
unfolding columns_in
ptr_columns child there = by_child (λ k. length (columns_in (ptr_of k)) ≡ 1) refl refl refl refl refl child there

pub length_of_one : (kids : List ℕ) → length (rows_of_one kids) ≡ length kids
unfolding rows_of_one
length_of_one [] = refl
length_of_one (k ∷ kids) = ap suc (length_of_one kids)

pub ptr_few : (child : ℕ) (rows : List (List (List ℕ))) (kids : List ℕ) (i : ℕ) → i < length kids → length kids < 2 ^ 24
    → rows_at rows (ptr_of child) ≡ rows_of_one (take i kids) → count_at rows (ptr_of child) < 2 ^ 24 - 1
unfolding rows_of_one
ptr_few child rows kids i low few is =
    let long : count_at rows (ptr_of child) ≡ length (take i kids) = ap (λ (r : List (List ℕ)). length r) is ∙ length_of_one (take i kids) in
    let part : length (take i kids) ≡ i = length-take-le i kids (omega (arith, low)) in
    omega (arith, long, part, low, few)

pub ruleset listed_cases = (none_listed, more_listed, all_listed)

pub ruleset order_steps = (order_begins, order_goes_on, order_breaks, order_ends)

pub ruleset kids_listed_steps = (none_of_one, more_of_one, all_of_one, ptr_columns)
