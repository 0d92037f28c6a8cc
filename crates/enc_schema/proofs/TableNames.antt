-- Facts of every table and column, computed over the data.
use Rattle.std.proofs.Common.{◌≡◌, ℕ, zero, suc, ◌+◌, ◌<◌, ◌≤◌, ◌||◌, inl, inr, ◌^◌, Bool, true, false, ◌&&◌, List, [], ◌∷◌, length, map, get_or, refl, sym, ◌∙◌, ap, arith, lit≤}
use Rattle.std.specs.Prelude.{slice_get, is_some, nat_lt, nat_le, IfSome}
use Rattle.std.specs.List.{list_all, range_with_len}
use Rattle.std.proofs.lemmas.List.FromFn.{get_or-map-range_with_len}
use Rattle.std.proofs.lemmas.Bool.{cases_lt}
use Rattle.std.proofs.lemmas.Option.{slice_get_past}
use Rattle.std.proofs.lemmas.Bool.Decides.{nat_tests}
use Rattle.enc_schema.specs.declared.column.Column.{Column}
use Rattle.enc_schema.specs.declared.column.Coding.{Coding}
use Rattle.enc_schema.specs.declared.column.Coding.TheVariants.{TypeDefOrRef, HasConstant, HasCustomAttribute, HasFieldMarshal, HasDeclSecurity, MemberRefParent, HasSemantics, MethodDefOrRef, MemberForwarded, Implementation, CustomAttributeType, ResolutionScope, TypeOrMethodDef, HasCustomDebugInformation}
use Rattle.enc_schema.specs.Schema.{list_at, schema, columns_in, column_in}
use Rattle.enc_base.specs.Tables.{table_count, document, custom_debug_information}
use Rattle.enc_schema.specs.Names.{names, names_in, table_name_in, column_name_in}
use Rattle.enc_schema.specs.Coding.{tables_of, tag_bits}
use Rattle.enc_schema.specs.Laws.{is_table, names_tables}

pub tags_fit : (kind : Coding) → length (tables_of kind) ≤ 2 ^ tag_bits kind
unfolding tables_of tag_bits
tags_fit TypeDefOrRef = lit≤ tt
tags_fit HasConstant = lit≤ tt
tags_fit HasCustomAttribute = lit≤ tt
tags_fit HasFieldMarshal = lit≤ tt
tags_fit HasDeclSecurity = lit≤ tt
tags_fit MemberRefParent = lit≤ tt
tags_fit HasSemantics = lit≤ tt
tags_fit MethodDefOrRef = lit≤ tt
tags_fit MemberForwarded = lit≤ tt
tags_fit Implementation = lit≤ tt
tags_fit CustomAttributeType = lit≤ tt
tags_fit ResolutionScope = lit≤ tt
tags_fit TypeOrMethodDef = lit≤ tt
tags_fit HasCustomDebugInformation = lit≤ tt

first_true : (a b : Bool) → (a && b) ≡ true → a ≡ true
first_true true b h = refl
first_true false b h = h

rest_true : (a b : Bool) → (a && b) ≡ true → b ≡ true
rest_true true b h = h
rest_true false b h = absurd (cc)

-- what holds of all holds at each place
all_at : {X : Type 0} (p : X → Bool) (xs : List X) (i : ℕ) → list_all p xs ≡ true → IfSome (slice_get xs i) (λ x. p x ≡ true)
all_at p [] i h = tt
all_at p (x ∷ xs) zero h = first_true (p x) (list_all p xs) h
all_at p (x ∷ xs) (suc i) h = all_at p xs i (rest_true (p x) (list_all p xs) h)

all_in : {X : Type 0} (p : X → Bool) (lists : List (List X)) (t : ℕ) → list_all (λ (l : List X). list_all p l) lists ≡ true → list_all p (list_at lists t) ≡ true
all_in p [] t h = refl
all_in p (x ∷ xs) zero h = first_true (list_all p x) _ h
all_in p (x ∷ xs) (suc t) h = all_in p xs t (rest_true (list_all p x) _ h)

le_nine : (n : ℕ) → nat_le n 9 ≡ true → n ≤ 9
le_nine n h = grind (arith, nat_tests)

few_at : (lists : List (List Column)) (t : ℕ) → list_all (λ (l : List Column). nat_le (length l) 9) lists ≡ true → length (list_at lists t) ≤ 9
few_at [] t h = omega arith
few_at (x ∷ xs) zero h = le_nine (length x) (first_true (nat_le (length x) 9) _ h)
few_at (x ∷ xs) (suc t) h = few_at xs t (rest_true (nat_le (length x) 9) _ h)

pub columns_few : (t : ℕ) → length (columns_in t) ≤ 9
unfolding columns_in
columns_few t = few_at schema t refl

all_name : list_all (λ (l : List Column). list_all names_tables l) schema ≡ true
unfolding columns_in tables_of
all_name = refl

table_names : (t : ℕ) → list_all names_tables (columns_in t) ≡ true
unfolding columns_in
table_names t = all_in names_tables schema t all_name

pub columns_name : (t i : ℕ) → IfSome (column_in t i) (λ (c : Column). names_tables c ≡ true)
columns_name t i = all_at names_tables (columns_in t) i (table_names t)

-- how many names a table has, by its columns
abbrev with_own : ℕ → ℕ
with_own zero = 0
with_own (suc n) = suc (suc n)

length_at : {X : Type 0} (lists : List (List X)) (t : ℕ) → length (list_at lists t) ≡ get_or (map (λ (l : List X). length l) lists) t 0
length_at [] t = refl
length_at (x ∷ xs) zero = refl
length_at (x ∷ xs) (suc t) = length_at xs t

own_at : {X : Type 0} (lists : List (List X)) (t : ℕ) → with_own (length (list_at lists t)) ≡ get_or (map (λ (l : List X). with_own (length l)) lists) t 0
own_at [] t = refl
own_at (x ∷ xs) zero = refl
own_at (x ∷ xs) (suc t) = own_at xs t

as_many : map (λ (l : List (List ℕ)). length l) names ≡ map (λ (l : List Column). with_own (length l)) schema
as_many = refl

named : (t : ℕ) → length (names_in t) ≡ with_own (length (columns_in t))
unfolding names_in columns_in
named t = length_at names t ∙ ap (λ (l : List ℕ). get_or l t 0) as_many ∙ sym (own_at schema t)

none_below : (i : ℕ) → nat_lt i 0 ≡ false
none_below i = grind (arith, nat_tests)

zero_below : (n : ℕ) → nat_lt 0 (suc n) ≡ true
zero_below n = grind (arith, nat_tests)

suc_below : (i n : ℕ) → nat_lt (suc i) (suc n) ≡ nat_lt i n
suc_below i n = grind (arith, nat_tests)

there : {X : Type 0} (xs : List X) (i : ℕ) → is_some (slice_get xs i) ≡ nat_lt i (length xs)
there [] i = sym (none_below i)
there (x ∷ xs) zero = sym (zero_below (length xs))
there (x ∷ xs) (suc i) = there xs i ∙ sym (suc_below i (length xs))

own_there : (n : ℕ) → nat_lt 0 (with_own n) ≡ nat_lt 0 n
own_there zero = refl
own_there (suc n) = zero_below (suc n) ∙ sym (zero_below n)

next_there : (n i : ℕ) → nat_lt (i + 1) (with_own n) ≡ nat_lt i n
next_there zero i = none_below (i + 1) ∙ sym (none_below i)
next_there (suc n) i = let e : i + 1 ≡ suc i = omega arith in rw e (suc_below i (suc n))

pub table_named : (t : ℕ) → is_some (table_name_in t) ≡ is_table t
table_named t = there (names_in t) 0 ∙ ap (λ n. nat_lt 0 n) (named t) ∙ own_there (length (columns_in t))

pub column_named : (t i : ℕ) → is_some (column_name_in t i) ≡ is_some (column_in t i)
column_named t i =
    there (names_in t) (i + 1) ∙ ap (λ n. nat_lt (i + 1) n) (named t) ∙ next_there (length (columns_in t)) i ∙ sym (there (columns_in t) i)

-- which tables are there
abbrev there_at : ℕ → Bool
there_at t = nat_lt t table_count || (nat_le document t && nat_le t custom_debug_information)

some_at : {X : Type 0} (lists : List (List X)) (t : ℕ) → nat_lt 0 (length (list_at lists t)) ≡ get_or (map (λ (l : List X). nat_lt 0 (length l)) lists) t false
some_at [] t = refl
some_at (x ∷ xs) zero = refl
some_at (x ∷ xs) (suc t) = some_at xs t

all_there : map (λ (l : List Column). nat_lt 0 (length l)) schema ≡ map there_at (range_with_len 0 56)
all_there = refl

none_past : (t : ℕ) → 56 ≤ t → there_at t ≡ false
none_past t h = grind (arith, nat_tests)

past_end : (t : ℕ) → 56 ≤ t → is_table t ≡ false
unfolding columns_in
past_end t h = rw (slice_get_past schema t h) refl

before_end : (t : ℕ) → t < 56 → is_table t ≡ there_at t
unfolding columns_in
before_end t h =
    some_at schema t ∙ ap (λ (l : List Bool). get_or l t false) all_there ∙ get_or-map-range_with_len there_at 0 56 t t false h (omega arith)

pub which_tables : (t : ℕ) → is_table t ≡ there_at t
which_tables t =
    elim (cases_lt t 56) [
      | inl h ↦ before_end t h
      | inr h ↦ past_end t h ∙ sym (none_past t h)
    ]
