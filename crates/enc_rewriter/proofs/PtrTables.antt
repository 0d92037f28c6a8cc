-- The five Ptr tables, one behind the other.
use Rattle.std.proofs.Common.{◌≡◌, ℕ, zero, suc, ◌+◌, ◌<◌, ◌≤◌, Bool, true, false, List, [], ◌∷◌, length, refl, sym, ap, ◌∙◌, arith, subst, inl, inr}
use Rattle.std.specs.Prelude.{not, ◌||◌, ◌==◌, ◌≢◌, nat_lt, if◌then◌else◌}
use Rattle.std.proofs.lemmas.Bool.{cases_eq, cases_lt}
use Rattle.std.proofs.lemmas.Option.{slice_get_past}
use Rattle.enc_rewriter.proofs.RowsPushed.{no_row}
use Rattle.std.proofs.lemmas.Bool.Decides.{nat_tests}
use Rattle.enc_meta.specs.Heaps.{Counted}
use Rattle.enc_plain.specs.Module.{Module, Row}
use Rattle.enc_plain.specs.Sound.{row_count, is_part, IsSound}
use Rattle.enc_rows.specs.Written.{rows_at}
use Rattle.enc_schema.specs.Children.{is_child_table, ptr_of}
use Rattle.enc_base.specs.Tables as tables
use Rattle.enc_schema.proofs.ChildTables.{by_child}
use Rattle.enc_rewriter.specs.Numbers.{nth_child, child_order, is_ptr_table, ptr_rows, KeepOthers, PtrsPushed, RowsSay, TableSays, TablesSay, HoldRows}
use Rattle.enc_rewriter.specs.Placed.{Placed}

by_n : (P : ℕ → Type 0) → P 0 → P 1 → P 2 → P 3 → P 4 → (n : ℕ) → n < 5 → P n
by_n P a b c d e zero low = a
by_n P a b c d e (suc zero) low = b
by_n P a b c d e (suc (suc zero)) low = c
by_n P a b c d e (suc (suc (suc zero))) low = d
by_n P a b c d e (suc (suc (suc (suc zero)))) low = e
by_n P a b c d e (suc (suc (suc (suc (suc n))))) low = absurd (omega (arith, low))

child_is : (n : ℕ) → n < 5 → is_child_table (nth_child n) ≡ true
child_is n low = by_n (λ k. is_child_table (nth_child k) ≡ true) refl refl refl refl refl n low

order_is : (n : ℕ) → n < 5 → child_order (nth_child n) ≡ n
order_is n low = by_n (λ k. child_order (nth_child k) ≡ k) refl refl refl refl refl n low

order_low : (child : ℕ) → is_child_table child ≡ true → nat_lt (child_order child) 5 ≡ true
order_low child there = by_child (λ k. nat_lt (child_order k) 5 ≡ true) refl refl refl refl refl child there

of_order : (child : ℕ) → is_child_table child ≡ true → nth_child (child_order child) ≡ child
of_order child there = by_child (λ k. nth_child (child_order k) ≡ k) refl refl refl refl refl child there

-- the place of a Ptr table among the five
abbrev ptr_order : ℕ → ℕ
ptr_order t = if t == tables.field_ptr then 0 else if t == tables.method_ptr then 1 else if t == tables.param_ptr then 2 else if t == tables.event_ptr then 3 else 4

ptr_order_is : (child : ℕ) → is_child_table child ≡ true → ptr_order (ptr_of child) ≡ child_order child
ptr_order_is child there = by_child (λ k. ptr_order (ptr_of k) ≡ child_order k) refl refl refl refl refl child there

ptr_is : (child : ℕ) → is_child_table child ≡ true → is_ptr_table (ptr_of child) ≡ true
ptr_is child there = by_child (λ k. is_ptr_table (ptr_of k) ≡ true) refl refl refl refl refl child there

no_less : (n : ℕ) → nat_lt n n ≡ false
no_less n = grind (arith, nat_tests)

pub ptr_none : (m : Module) (n : ℕ) (first old : List (List (List ℕ))) → n < 5 → PtrsPushed m n first old → rows_at old (ptr_of (nth_child n)) ≡ []
ptr_none m n first old low so_far =
    so_far.ptrs (nth_child n) (child_is n low)
    ∙ ap (λ k. if nat_lt k n then ptr_rows m (nth_child n) else []) (order_is n low)
    ∙ ap (λ b. if b then ptr_rows m (nth_child n) else []) (no_less n)

less_next : (n : ℕ) → nat_lt n (n + 1) ≡ true
less_next n = grind (arith, nat_tests)

less_same : (k n : ℕ) → k ≢ n → nat_lt k (n + 1) ≡ nat_lt k n
less_same k n other =
    elim (cases_lt k n) [
      | inl low ↦ let a : nat_lt k (n + 1) ≡ true = grind (arith, nat_tests) in let b : nat_lt k n ≡ true = grind (arith, nat_tests) in a ∙ sym b
      | inr high ↦ let a : nat_lt k (n + 1) ≡ false = above k n high other in let b : nat_lt k n ≡ false = grind (arith, nat_tests) in a ∙ sym b
    ]
  where
    above : (k n : ℕ) → n ≤ k → k ≢ n → nat_lt k (n + 1) ≡ false
    above k n high other = grind (arith, nat_tests, other)

not_both : (b : Bool) → b ≡ true → b ≡ false → ⊥
not_both true e f = absurd cc
not_both false e f = absurd cc

pub one_ptr : (m : Module) (n : ℕ) (first old new : List (List (List ℕ))) → n < 5 → PtrsPushed m n first old → rows_at new (ptr_of (nth_child n)) ≡ ptr_rows m (nth_child n)
    → KeepOthers (ptr_of (nth_child n)) old new → PtrsPushed m (n + 1) first new
one_ptr m n first old new low so_far rows others = record {
  ptrs = λ child there. elim (cases_eq (child_order child) n) [
    | inl e ↦
        let is : nth_child n ≡ child = ap nth_child (sym e) ∙ of_order child there in
        ap (λ k. rows_at new (ptr_of k)) (sym is) ∙ rows ∙ ap (ptr_rows m) is
        ∙ sym (ap (λ k. if nat_lt k (n + 1) then ptr_rows m child else []) e ∙ ap (λ b. if b then ptr_rows m child else []) (less_next n))
    | inr other ↦
        let apart : ptr_of child ≢ ptr_of (nth_child n) =
        λ same. other (sym (ptr_order_is child there) ∙ ap ptr_order same ∙ ptr_order_is (nth_child n) (child_is n low) ∙ order_is n low) in
        others (ptr_of child) apart ∙ so_far.ptrs child there ∙ sym (ap (λ b. if b then ptr_rows m child else []) (less_same (child_order child) n other))
  ];
  others = λ k is. others k (λ e. not_both (is_ptr_table k) (ap is_ptr_table e ∙ ptr_is (nth_child n) (child_is n low)) is) ∙ so_far.others k is;
}

no_length : {A : Type 0} (xs : List A) → length xs ≡ 0 → xs ≡ []
no_length [] e = refl
no_length (x ∷ xs) e = absurd (omega (arith, e))

not_part : (child : ℕ) → is_child_table child ≡ true → is_part (ptr_of child) ≡ false
not_part child there = by_child (λ k. is_part (ptr_of k) ≡ false) refl refl refl refl refl child there

low_ptr : (child : ℕ) → is_child_table child ≡ true → nat_lt (ptr_of child) 64 ≡ true
low_ptr child there = by_child (λ k. nat_lt (ptr_of k) 64 ≡ true) refl refl refl refl refl child there

lt_of : (a b : ℕ) → nat_lt a b ≡ true → a < b
lt_of a b e = grind (arith, nat_tests)

no_rows : (m : Module) (h : Counted) (p : Placed) (t : ℕ) (rows : List (List (List ℕ))) → IsSound m → is_part t ≡ false → t < 64 → TablesSay m h p 64 rows → rows_at rows t ≡ []
no_rows m h p t rows sound other low all =
    no_length (rows_at rows t) ((all.below t low).count ∙ ap (λ (r : List Row). length r) (sound.counts.absent t other))

none_less : (k : ℕ) → nat_lt k 0 ≡ false
none_less k = grind (arith, nat_tests)

-- at first they have none
pub no_ptrs : (m : Module) (h : Counted) (p : Placed) (rows : List (List (List ℕ))) → IsSound m → TablesSay m h p 64 rows → PtrsPushed m 0 rows rows
no_ptrs m h p rows sound all = record {
  ptrs = λ child there. no_rows m h p (ptr_of child) rows sound (not_part child there) (lt_of _ _ (low_ptr child there)) all ∙ sym (ap (λ b. if b then ptr_rows m child else []) (none_less (child_order child)));
  others = λ k is. refl;
}

parts_only : (a b c d e f g : Bool) → not (a || (b || (c || (d || (e || (f || (g || false))))))) ≡ true → (a || (b || (c || (d || (e || false))))) ≡ false
parts_only true b c d e f g is = absurd cc
parts_only false true c d e f g is = absurd cc
parts_only false false true d e f g is = absurd cc
parts_only false false false true e f g is = absurd cc
parts_only false false false false true f g is = absurd cc
parts_only false false false false false f g is = refl

no_ptr_table : (t : ℕ) → is_part t ≡ true → is_ptr_table t ≡ false
no_ptr_table t part = parts_only (tables.field_ptr == t) (tables.method_ptr == t) (tables.param_ptr == t) (tables.event_ptr == t) (tables.property_ptr == t) (tables.enc_log == t) (tables.enc_map == t) part

past_tables : (m : Module) (t : ℕ) → IsSound m → 64 ≤ t → row_count m t ≡ 0
past_tables m t sound past = rw (slice_get_past m.tables t (omega (arith, past, sound.owners.tables.all))) refl

says_part : (m : Module) (h : Counted) (p : Placed) (t : ℕ) (rows : List (List (List ℕ))) → IsSound m → TablesSay m h p 64 rows → TableSays m h p t (rows_at rows t)
says_part m h p t rows sound all =
    elim (cases_lt t 64) [
      | inl low ↦ all.below t low
      | inr past ↦ subst (λ k. RowsSay m h p t k (rows_at rows t)) (sym (past_tables m t sound past)) (no_row m h p t (rows_at rows t) (all.behind t past))
    ]

-- at the end all rows are the module's
pub all_held : (m : Module) (h : Counted) (p : Placed) (old new : List (List (List ℕ))) → IsSound m → TablesSay m h p 64 old → PtrsPushed m 5 old new → HoldRows m h p new
all_held m h p old new sound all pushed = record {
  parts = λ t part. subst (λ xs. TableSays m h p t xs) (sym (pushed.others t (no_ptr_table t part))) (says_part m h p t old sound all);
  ptrs = λ child there. pushed.ptrs child there ∙ ap (λ b. if b then ptr_rows m child else []) (order_low child there);
  log = pushed.others tables.enc_log refl ∙ no_rows m h p tables.enc_log old sound refl (omega arith) all;
  map = pushed.others tables.enc_map refl ∙ no_rows m h p tables.enc_map old sound refl (omega arith) all;
}
