-- All depths by walks whose steps double.
use Rattle.std.proofs.Common.{◌≡◌, ℕ, zero, suc, ◌+◌, ◌-◌, ◌*◌, ◌<◌, ◌≤◌, ◌^◌, Bool, true, false, List, [], ◌∷◌, length, map, Option, Some, None, refl, sym, ap}
use Rattle.std.proofs.Common.{subst, ◌∙◌, arith, inl, inr}
use Rattle.std.specs.Prelude.{◌⊎◌, min, slice_get, option_map, option_and_then, nat_lt, unwrap_or}
use Rattle.std.specs.List.{list_all}
use Rattle.std.proofs.lemmas.Bool.{and_from, ne_eqb, cases_lt}
use Rattle.std.proofs.lemmas.Bool.Decides.{nat_tests}
use Rattle.std.proofs.lemmas.Option.{slice_get_within, slice_get_past}
use Rattle.enc_base.specs.Order.{first_below, or_else}
use Rattle.enc_base.specs.Token.{nth_row}
use Rattle.enc_base.specs.declared.token.Token.{Token}
use Rattle.enc_base.proofs.First.{first_none, first_suc}
use Rattle.enc_plain.specs.Cell.{Cell, number, text, blob, guid, refer, body, field, cell_kind, references}
use Rattle.enc_plain.specs.Module.{Module, cells_of, cell_of}
use Rattle.enc_plain.specs.Rows.{token_at}
use Rattle.enc_plain.specs.Sound.{IsSound, row_count}
use Rattle.enc_plain.proofs.CellsOf.{token_there}
use Rattle.enc_rows.specs.Sums.{below}
use Rattle.enc_rows.proofs.Listed.{get_below, length_below}
use Rattle.enc_base.specs.Tables.{type_def, nested_class}
use Rattle.enc_row_order.specs.Depth.{enclosing, enclosing_at, depth_by, depth}
use Rattle.enc_row_order.specs.Orders.{standing_rows}
use Rattle.enc_row_order.specs.Walks.{type_walked, AreWalks, ended, walk_from, going_on, doubled, is_short}
use Rattle.enc_row_order.specs.declared.depth.Walk.{Walk}
use Rattle.enc_row_order.proofs.FirstWalks.{IsType, said, nil_says, row_says}
use Rattle.enc_row_order.proofs.References.{row_here, nested_kind, nested_type}
use Rattle.enc_row_order.proofs.Walked.{reached_more, depth_from, depth_more, depth_few, depth_bound}

-- what is no type has none around it
refer_in : (c : Cell) → Some (cell_kind c) ≡ Some references → (t : Token) × (c ≡ refer t)
refer_in (number n) h = absurd cc
refer_in (text bytes) h = absurd cc
refer_in (blob bytes) h = absurd cc
refer_in (guid bytes) h = absurd cc
refer_in (refer t) h = (t, refl)
refer_in (body there) h = absurd cc
refer_in (field there) h = absurd cc

refer_there : (o : Option Cell) → option_map cell_kind o ≡ Some references → (t : Token) × (o ≡ Some (refer t))
refer_there None h = absurd cc
refer_there (Some c) h = let is = refer_in c h in (is.0, ap Some is.1)

says_none : (count type enclosing : ℕ) (t : Token) → (type ≡ 0) ⊎ (count < type) → IsType count t → said t enclosing type ≡ None
says_none count type enclosing t out (inl empty) = nil_says t enclosing type empty
says_none count type enclosing t (inl none) (inr row) = row_says t enclosing type false row.0 (ne_eqb t.row type (λ e. omega (arith, e, none, row.1)))
says_none count type enclosing t (inr past) (inr row) = row_says t enclosing type false row.0 (ne_eqb t.row type (λ e. omega (arith, e, past, row.2)))

no_row_says : (m : Module) (type k : ℕ) → IsSound m → (type ≡ 0) ⊎ (row_count m type_def < type) → k < row_count m nested_class → enclosing_at m type k ≡ None
unfolding enclosing_at
no_row_says m type k sound out low =
    let u = nth_row nested_class k in
    let cell = refer_there (cell_of m u 0) (sound.kinds.kinds u 0 references (row_here m nested_class k low) nested_kind) in
    let good : IsType (row_count m type_def) (token_at (cells_of m) u 0) =
    subst (IsType (row_count m type_def)) (token_there m u 0 cell.0 cell.1) (nested_type m k cell.0 sound low cell.1) in
    says_none (row_count m type_def) type (token_at (cells_of m) u 1).row (token_at (cells_of m) u 0) out good

none_says : {A : Type 0} (rule : ℕ → Option A) (n : ℕ) → ((k : ℕ) → k < n → rule k ≡ None) → first_below rule n ≡ None
none_says rule zero none = first_none rule
none_says {A} rule (suc n) none =
    first_suc rule n ∙ ap (λ o. or_else o (rule n)) (none_says rule n (λ k low. none k (omega (arith, low)))) ∙ none n (omega arith)

pub none_around : (m : Module) (type : ℕ) → IsSound m → (type ≡ 0) ⊎ (row_count m type_def < type) → enclosing m type ≡ None
unfolding enclosing
none_around m type sound out = none_says (enclosing_at m type) (row_count m nested_class) (λ k low. no_row_says m type k sound out low)

walk_at : Module → ℕ → ℕ → Walk
walk_at m steps type = record { around = type_walked m steps type; depth = depth_by m steps type }

ended_at : (m : Module) (steps type : ℕ) → 0 < steps → enclosing m type ≡ None → ended ≡ walk_at m steps type
unfolding walk_at type_walked depth_by
ended_at m zero type some none = absurd (omega (arith, some))
ended_at m (suc n) type some none = rw none refl

-- the walk from any number
from_row : (m : Module) (steps : ℕ) (walks : List Walk) (i : ℕ) → IsSound m → 0 < steps → AreWalks m steps walks
    → unwrap_or (slice_get walks i) ended ≡ walk_at m steps (suc i)
unfolding walk_at
from_row m steps walks i sound some are = elim (cases_lt i (row_count m type_def)) [
  | inl low ↦
      let e : i + 1 ≡ suc i = omega arith in
      ap (λ o. unwrap_or o ended) (are.each i low) ∙ ap (walk_at m steps) e
  | inr past ↦
      let none : slice_get walks i ≡ None = slice_get_past walks i (omega (arith, past, are.count)) in
      ap (λ o. unwrap_or o ended) none ∙ ended_at m steps (suc i) some (none_around m (suc i) sound (inr (omega (arith, past))))
]

walk_is : (m : Module) (steps : ℕ) (walks : List Walk) (type : ℕ) → IsSound m → 0 < steps → AreWalks m steps walks → walk_from walks type ≡ walk_at m steps type
unfolding walk_from
walk_is m steps walks zero sound some are = ended_at m steps 0 some (none_around m 0 sound (inl refl))
walk_is m steps walks (suc i) sound some are = from_row m steps walks i sound some are

going_is : (m : Module) (steps : ℕ) (walks : List Walk) (o : Option ℕ) (before : ℕ) → IsSound m → 0 < steps → AreWalks m steps walks
    → going_on walks (record { around = o; depth = before }) o ≡ record { around = option_and_then (type_walked m steps) o; depth = before + depth_from m steps o }
unfolding walk_at
going_is m steps walks None before sound some are = let e : before + 0 ≡ before = omega arith in rw e refl
going_is m steps walks (Some type) before sound some are =
    ap (λ (w : Walk). let v : Walk = record { around = w.around; depth = before + w.depth } in v) (walk_is m steps walks type sound some are)

doubled_is : (m : Module) (steps : ℕ) (walks : List Walk) (type : ℕ) → IsSound m → 0 < steps → AreWalks m steps walks
    → doubled walks (record { around = type_walked m steps type; depth = depth_by m steps type })
    ≡ record { around = type_walked m (steps + steps) type; depth = depth_by m (steps + steps) type }
unfolding doubled
doubled_is m steps walks type sound some are =
    going_is m steps walks (type_walked m steps type) (depth_by m steps type) sound some are
    ∙ rw (reached_more m steps steps type, depth_more m steps steps type) refl

long_map : {A B : Type 0} (f : A → B) (xs : List A) → length (map f xs) ≡ length xs
long_map f [] = refl
long_map f (x ∷ xs) = ap suc (long_map f xs)

get_mapped : {A B : Type 0} (f : A → B) (xs : List A) (i : ℕ) (x : A) → slice_get xs i ≡ Some x → slice_get (map f xs) i ≡ Some (f x)
get_mapped f [] i x e = absurd cc
get_mapped {A} {B} f (y ∷ ys) zero x e = let is : y ≡ x = cc in ap (λ z. Some (f z)) is
get_mapped f (y ∷ ys) (suc i) x e = get_mapped f ys i x e

pub walks_double : (m : Module) (steps : ℕ) (walks twice : List Walk) → IsSound m → 0 < steps → AreWalks m steps walks → twice ≡ map (doubled walks) walks
    → AreWalks m (steps * 2) twice
walks_double m steps walks twice sound some are is =
    let e : steps + steps ≡ steps * 2 = omega arith in
    subst (AreWalks m (steps * 2)) (sym is) (subst (λ n. AreWalks m n (map (doubled walks) walks)) e (record {
      count = long_map (doubled walks) walks ∙ are.count;
      each = λ i low. get_mapped (doubled walks) walks i _ (are.each i low) ∙ ap Some (doubled_is m steps walks (i + 1) sound some are);
    }))

all_from : {A : Type 0} (p : A → Bool) (xs : List A) → ((i : ℕ) (x : A) → slice_get xs i ≡ Some x → p x ≡ true) → list_all p xs ≡ true
all_from p [] each = refl
all_from p (x ∷ xs) each = and_from (p x) (list_all p xs) (each 0 x refl) (all_from p xs (λ i y e. each (suc i) y e))

-- depths are no more than the steps
pub walks_short : (m : Module) (steps : ℕ) (walks : List Walk) → steps < 2 ^ 31 → AreWalks m steps walks → list_all is_short walks ≡ true
walks_short m steps walks few are = all_from is_short walks each
  where
    short : (n : ℕ) → n ≤ steps → nat_lt n (2 ^ 31) ≡ true
    short n low = grind (arith, nat_tests)

    each : (i : ℕ) (w : Walk) → slice_get walks i ≡ Some w → is_short w ≡ true
    each i w e =
        let low : i < length walks = slice_get_within walks i w e in
        let at = are.each i (omega (arith, low, are.count)) in
        let same : w ≡ record { around = type_walked m steps (i + 1); depth = depth_by m steps (i + 1) } = cc in
        ap is_short same ∙ short (depth_by m steps (i + 1)) (depth_few m steps (i + 1))

same_lists : {A : Type 0} (xs ys : List A) → length xs ≡ length ys → ((i : ℕ) → i < length xs → slice_get xs i ≡ slice_get ys i) → xs ≡ ys
same_lists [] [] long each = refl
same_lists [] (y ∷ ys) long each = absurd (omega (arith, long))
same_lists (x ∷ xs) [] long each = absurd (omega (arith, long))
same_lists {A} (x ∷ xs) (y ∷ ys) long each =
    let at = each 0 (omega arith) in
    let first : x ≡ y = cc in
    let rest : xs ≡ ys = same_lists xs ys (omega (arith, long)) (λ i low. each (suc i) (omega (arith, low))) in
    rw (first, rest) refl

-- with as many steps as there are types, they have met all
pub walks_end : (m : Module) (steps most : ℕ) (walks : List Walk) (depths : List ℕ) → AreWalks m steps walks → most ≡ row_count m type_def → most ≤ steps
    → depths ≡ map (λ (w : Walk). min w.depth most) walks → depths ≡ map (depth m) (standing_rows m type_def)
unfolding depth standing_rows
walks_end m steps most walks depths are count enough is =
    is ∙ same_lists (map (λ (w : Walk). min w.depth most) walks) (map (λ type. depth_by m (row_count m type_def) type) all_types) long each
  where
    all_types : List ℕ
    all_types = map (λ n. n + 1) (below (row_count m type_def))

    counted : length (map (λ (w : Walk). min w.depth most) walks) ≡ row_count m type_def
    counted = long_map (λ (w : Walk). min w.depth most) walks ∙ are.count

    long : length (map (λ (w : Walk). min w.depth most) walks) ≡ length (map (λ type. depth_by m (row_count m type_def) type) all_types)
    long = counted ∙ sym (long_map (λ type. depth_by m (row_count m type_def) type) all_types ∙ length_below (λ n. n + 1) (row_count m type_def))

    bound : (type : ℕ) → min (depth_by m steps type) most ≡ depth_by m (row_count m type_def) type
    bound type =
        let e : steps ≡ most + (steps - most) = omega (arith, enough) in
        ap (λ n. min (depth_by m n type) most) e ∙ sym (depth_bound m most (steps - most) type) ∙ ap (λ n. depth_by m n type) count

    each : (i : ℕ) → i < length (map (λ (w : Walk). min w.depth most) walks)
        → slice_get (map (λ (w : Walk). min w.depth most) walks) i ≡ slice_get (map (λ type. depth_by m (row_count m type_def) type) all_types) i
    each i less =
        let low : i < row_count m type_def = omega (arith, less, counted) in
        get_mapped (λ (w : Walk). min w.depth most) walks i _ (are.each i low) ∙ ap Some (bound (i + 1))
        ∙ sym (get_mapped (λ type. depth_by m (row_count m type_def) type) all_types i (i + 1) (get_below (λ n. n + 1) (row_count m type_def) i low))
