-- Walks of one step: of each type the first row of NestedClass that has it tells the type around it.
use Rattle.std.proofs.Common.{◌≡◌, ℕ, zero, suc, ◌+◌, ◌-◌, ◌<◌, ◌≤◌, Bool, true, false, List, [], ◌∷◌, ◌++◌, length, map, Option, Some, None, refl, sym, ap}
use Rattle.std.proofs.Common.{subst, ◌∙◌, arith, slice_set, take, drop, inl, inr}
use Rattle.std.specs.Prelude.{◌≢◌, ◌==◌, is_none, slice_get, option_and_then, if◌then◌else◌}
use Rattle.std.proofs.lemmas.Bool.{eq-eqb, ne_eqb, cases_eq}
use Rattle.std.specs.Prelude.{◌⊎◌}
use Rattle.std.proofs.lemmas.List.{length-set, append-nil}
use Rattle.enc_base.specs.Order.{first_below, or_else}
use Rattle.enc_base.specs.Token.{nth_row, is_token, nil}
use Rattle.enc_base.specs.declared.token.Token.{Token}
use Rattle.enc_base.proofs.First.{first_none, first_suc}
use Rattle.enc_plain.specs.Module.{Module, cells_of}
use Rattle.enc_plain.specs.Rows.{token_at}
use Rattle.enc_plain.specs.Sound.{row_count}
use Rattle.enc_rows.specs.Sums.{below}
use Rattle.enc_rows.proofs.Listed.{get_below, length_below}
use Rattle.enc_base.specs.Tables.{type_def, nested_class}
use Rattle.enc_row_order.specs.Depth.{enclosing, enclosing_at, depth_around, depth_by}
use Rattle.enc_row_order.specs.Walks.{type_walked, AreWalks, AreFirst, ended, one_step, has_ended, is_free, noted}
use Rattle.enc_row_order.specs.declared.depth.Walk.{Walk}
use Rattle.enc_row_order.proofs.Rowed.{more_mapped}

pub none_ended : [] ≡ map (λ (n : ℕ). ended) (below 0)
unfolding below
none_ended = refl

pub more_ended : (n : ℕ) → map (λ (k : ℕ). ended) (below n) ++ ended ∷ [] ≡ map (λ (k : ℕ). ended) (below (n + 1))
more_ended n = more_mapped (λ (k : ℕ). ended) n

-- before the first row nothing is noted
pub first_begins : (m : Module) (walks : List Walk) → walks ≡ map (λ (n : ℕ). ended) (below (row_count m type_def)) → AreFirst m 0 walks
first_begins m walks is = record {
  count = ap length is ∙ length_below (λ (n : ℕ). ended) (row_count m type_def);
  each = λ i low. ap (λ xs. slice_get xs i) is ∙ get_below (λ (n : ℕ). ended) (row_count m type_def) i low
      ∙ ap (λ o. Some (one_step o)) (sym (first_none (enclosing_at m (i + 1))));
}

get_other : (xs : List Walk) (i j : ℕ) (y : Walk) → i ≢ j → slice_get (slice_set xs i y) j ≡ slice_get xs j
get_other [] i j y d = refl
get_other (x ∷ xs) zero zero y d = absurd (d refl)
get_other (x ∷ xs) zero (suc j) y d = refl
get_other (x ∷ xs) (suc i) zero y d = refl
get_other (x ∷ xs) (suc i) (suc j) y d = get_other xs i j y (λ e. d (ap suc e))

get_set : (xs : List Walk) (i : ℕ) (y : Walk) → i < length xs → slice_get (slice_set xs i y) i ≡ Some y
get_set [] i y low = absurd (omega (arith, low))
get_set (x ∷ xs) zero y low = refl
get_set (x ∷ xs) (suc i) y low = get_set xs i y (omega (arith, low))

-- what a row of NestedClass says of a type
abbrev pub said : Token → ℕ → ℕ → Option ℕ
said nested enclosing type = if is_token nested (record { table = type_def; row = type }) then Some enclosing else None

-- a nested class is nil, or one of the types
abbrev pub IsType : ℕ → Token → Type 0
IsType count t = (t ≡ nil) ⊎ ((t.table ≡ type_def) × (0 < t.row) × (t.row ≤ count))

free_step : (before : Option ℕ) → has_ended (Some (one_step before)) ≡ is_none before
free_step None = refl
free_step (Some x) = refl

still : (o : Option ℕ) → or_else o None ≡ o
still None = refl
still (Some x) = refl

other_row : (row type : ℕ) → row ≢ type → said (record { table = type_def; row = row }) 0 type ≡ None
other_row row type d = rw (ne_eqb row type d) refl

module _ (walks : List Walk) (enclosing : ℕ) where
  -- where no type is named, nothing is noted
  nil_noted : (row : ℕ) → row ≡ 0 → noted row enclosing walks ≡ walks
  unfolding noted is_free
  nil_noted row e = rw e refl

  long : (nested : ℕ) → length (noted nested enclosing walks) ≡ length walks
  unfolding noted
  long nested = by (is_free walks nested)
    where
      by : (b : Bool) → length (if b then slice_set walks (nested - 1) (record { around = Some enclosing; depth = 1 }) else walks) ≡ length walks
      by true = length-set walks (nested - 1) (record { around = Some enclosing; depth = 1 })
      by false = refl

  noted_other : (nested i : ℕ) → 0 < nested → nested ≢ i + 1 → slice_get (noted nested enclosing walks) i ≡ slice_get walks i
  unfolding noted
  noted_other nested i some d = by (is_free walks nested)
    where
      by : (b : Bool) → slice_get (if b then slice_set walks (nested - 1) (record { around = Some enclosing; depth = 1 }) else walks) i ≡ slice_get walks i
      by true = get_other walks (nested - 1) i (record { around = Some enclosing; depth = 1 }) (λ e. d (omega (arith, e, some)))
      by false = refl

  noted_here : (i : ℕ) (before : Option ℕ) → i < length walks → slice_get walks i ≡ Some (one_step before)
      → slice_get (noted (suc i) enclosing walks) i ≡ Some (one_step (or_else before (Some enclosing)))
  unfolding noted is_free
  noted_here i before low at = by before at
    where
      b : suc i - 1 ≡ i
      b = omega arith

      by : (o : Option ℕ) → slice_get walks i ≡ Some (one_step o)
          → slice_get (if has_ended (slice_get walks i) then slice_set walks (suc i - 1) (record { around = Some enclosing; depth = 1 }) else walks) i
          ≡ Some (one_step (or_else o (Some enclosing)))
      by None at = rw (at, b) (get_set walks i (record { around = Some enclosing; depth = 1 }) low)
      by (Some x) at = rw at at

pub nil_says : (t : Token) (enclosing type : ℕ) → t ≡ nil → said t enclosing type ≡ None
nil_says t enclosing type e = rw e refl

pub row_says : (t : Token) (enclosing type : ℕ) (b : Bool) → t.table ≡ type_def → (t.row == type) ≡ b
    → said t enclosing type ≡ (if b then Some enclosing else None)
row_says t enclosing type b e f = rw (e, f) refl

-- one row more
noted_says : (m : Module) (k i enclosing : ℕ) (t : Token) (walks : List Walk) → AreFirst m k walks → IsType (row_count m type_def) t → i < row_count m type_def
    → slice_get (noted t.row enclosing walks) i ≡ Some (one_step (or_else (first_below (enclosing_at m (i + 1)) k) (said t enclosing (i + 1))))
noted_says m k i enclosing t walks are (inl empty) low =
    ap (λ xs. slice_get xs i) (nil_noted walks enclosing t.row (ap (λ (u : Token). u.row) empty)) ∙ are.each i low
    ∙ ap (λ o. Some (one_step o)) (sym (still (first_below (enclosing_at m (i + 1)) k))
    ∙ ap (or_else (first_below (enclosing_at m (i + 1)) k)) (sym (nil_says t enclosing (i + 1) empty)))
noted_says m k i enclosing t walks are (inr row) low = elim (cases_eq t.row (i + 1)) [
  | inl same ↦
      let e : t.row ≡ suc i = omega (arith, same) in
      let long : i < length walks = omega (arith, low, are.count) in
      ap (λ n. slice_get (noted n enclosing walks) i) e ∙ noted_here walks enclosing i (first_below (enclosing_at m (i + 1)) k) long (are.each i low)
      ∙ ap (λ o. Some (one_step (or_else (first_below (enclosing_at m (i + 1)) k) o)))
      (sym (row_says t enclosing (i + 1) true row.0 (eq-eqb t.row (i + 1) same)))
  | inr other ↦
      noted_other walks enclosing t.row i row.1 other ∙ are.each i low
      ∙ ap (λ o. Some (one_step o)) (sym (still (first_below (enclosing_at m (i + 1)) k))
      ∙ ap (or_else (first_below (enclosing_at m (i + 1)) k)) (sym (row_says t enclosing (i + 1) false row.0 (ne_eqb t.row (i + 1) other))))
]

pub first_goes_on : (m : Module) (k : ℕ) (walks : List Walk) → AreFirst m k walks
    → IsType (row_count m type_def) (token_at (cells_of m) (nth_row nested_class k) 0)
    → AreFirst m (k + 1) (noted (token_at (cells_of m) (nth_row nested_class k) 0).row (token_at (cells_of m) (nth_row nested_class k) 1).row walks)
unfolding enclosing_at
first_goes_on m k walks are good =
    let t = token_at (cells_of m) (nth_row nested_class k) 0 in
    let u = token_at (cells_of m) (nth_row nested_class k) 1 in
    record {
      count = long walks u.row t.row ∙ are.count;
      each = λ i low.
          let e : k + 1 ≡ suc k = omega arith in
          noted_says m k i u.row t walks are good low
          ∙ ap (λ o. Some (one_step o)) (sym (ap (first_below (enclosing_at m (i + 1))) e ∙ first_suc (enclosing_at m (i + 1)) k));
    }

-- with all rows seen, the walks are of one step
walk_of : (m : Module) (o : Option ℕ) → one_step o ≡ record { around = option_and_then (type_walked m 0) o; depth = depth_around o (depth_by m 0) }
unfolding type_walked depth_by
walk_of m None = refl
walk_of m (Some type) = refl

walk_is : (m : Module) (type : ℕ) → one_step (enclosing m type) ≡ record { around = type_walked m 1 type; depth = depth_by m 1 type }
unfolding type_walked depth_by
walk_is m type = walk_of m (enclosing m type)

pub first_ends : (m : Module) (walks : List Walk) → AreFirst m (row_count m nested_class) walks → AreWalks m 1 walks
unfolding enclosing
first_ends m walks are = record { count = are.count; each = λ i low. are.each i low ∙ ap Some (walk_is m (i + 1)) }

drop_all : (xs : List Walk) (n : ℕ) → length xs ≤ n → drop n xs ≡ []
drop_all [] zero past = refl
drop_all [] (suc n) past = refl
drop_all (x ∷ xs) zero past = absurd (omega (arith, past))
drop_all (x ∷ xs) (suc n) past = drop_all xs n (omega (arith, past))

take_whole : (xs : List Walk) (n : ℕ) → length xs ≤ n → take n xs ≡ xs
take_whole [] zero past = refl
take_whole [] (suc n) past = refl
take_whole (x ∷ xs) zero past = absurd (omega (arith, past))
take_whole (x ∷ xs) (suc n) past = ap (λ ys. x ∷ ys) (take_whole xs n (omega (arith, past)))

-- what is noted in place is all that a vector has then
pub written_back : (len : ℕ) (new now old : List Walk) (nested enclosing : ℕ) → new ≡ noted nested enclosing now → now ≡ old → length now ≡ len
    → take len (new ++ drop (length new) old) ≡ noted nested enclosing old
written_back len new now old nested enclosing is same count =
    let all : length new ≡ len = ap length is ∙ long now enclosing nested ∙ count in
    let past : length old ≤ length new = omega (arith, all, count, ap length same) in
    ap (λ xs. take len (new ++ xs)) (drop_all old (length new) past) ∙ ap (take len) (append-nil new) ∙ take_whole new len (omega (arith, all))
    ∙ is ∙ ap (noted nested enclosing) same

pub first_notes : (m : Module) (k : ℕ) (walks : List Walk) (t u : Token) → AreFirst m k walks → t ≡ token_at (cells_of m) (nth_row nested_class k) 0
    → u ≡ token_at (cells_of m) (nth_row nested_class k) 1 → IsType (row_count m type_def) t → AreFirst m (k + 1) (noted t.row u.row walks)
first_notes m k walks t u are nested enclosing good =
    subst (λ (v : Token). AreFirst m (k + 1) (noted v.row u.row walks)) (sym nested)
    (subst (λ (v : Token). AreFirst m (k + 1) (noted (token_at (cells_of m) (nth_row nested_class k) 0).row v.row walks)) (sym enclosing)
    (first_goes_on m k walks are (subst (IsType (row_count m type_def)) nested good)))
