-- The number that stands for a token in a coded column.
use Rattle.std.proofs.Common.{◌≡◌, ◌≢◌, ℕ, zero, suc, ◌+◌, ◌*◌, ◌/◌, ◌%◌, ◌^◌, ◌<◌, ◌≤◌, Bool, true, false, List, [], ◌∷◌, length, get_or, Option, Some, None}
use Rattle.std.proofs.Common.{option_map, refl, sym, ◌∙◌, ap, arith}
use Rattle.std.specs.Prelude.{◌&&◌, ◌||◌, ◌==◌, not, position, option_and_then, slice_get, nat_le, unwrap_or, if◌then◌else◌}
use Rattle.std.specs.List.{list_any}
use Rattle.std.proofs.lemmas.Bool.{and_parts, ne_eqb, eq-eqb, eqb-true}
use Rattle.std.proofs.lemmas.Bool.Decides.{nat_tests}
use Rattle.std.proofs.lemmas.Nat.{pow_pos}
use Rattle.enc_base.specs.declared.token.Token.{Token}
use Rattle.enc_base.specs.Token.{nil}
use Rattle.enc_plain.specs.Sound.{is_tables}
use Rattle.enc_plain.proofs.Owned.{position_cons}
use Rattle.enc_schema.specs.declared.column.Coding.{Coding}
use Rattle.enc_schema.specs.declared.column.Coding.TheVariants as coding
use Rattle.enc_schema.specs.Coding.{tables_of, tag_bits, table_with, decoded, named}
use Rattle.enc_schema.proofs.Codes.{decoded_at, decoded_zero}
use Rattle.enc_row_order.specs.Orders.{is_some_table, tag_of, coded_value}

-- no table stands twice
abbrev no_twice : List (Option ℕ) → Bool
no_twice [] = true
no_twice (None ∷ rest) = no_twice rest
no_twice (Some t ∷ rest) = not (list_any (is_some_table t) rest) && no_twice rest

each_once : (kind : Coding) → no_twice (tables_of kind) ≡ true
unfolding tables_of
each_once coding.TypeDefOrRef = refl
each_once coding.HasConstant = refl
each_once coding.HasCustomAttribute = refl
each_once coding.HasFieldMarshal = refl
each_once coding.HasDeclSecurity = refl
each_once coding.MemberRefParent = refl
each_once coding.HasSemantics = refl
each_once coding.MethodDefOrRef = refl
each_once coding.MemberForwarded = refl
each_once coding.Implementation = refl
each_once coding.CustomAttributeType = refl
each_once coding.ResolutionScope = refl
each_once coding.TypeOrMethodDef = refl
each_once coding.HasCustomDebugInformation = refl

itself : (t : ℕ) → (t == t) ≡ true
itself t = eq-eqb t t refl

-- what stands further on is listed
listed : (xs : List (Option ℕ)) (i t : ℕ) → option_and_then (λ (o : Option ℕ). o) (slice_get xs i) ≡ Some t → list_any (is_some_table t) xs ≡ true
listed [] i t at = absurd cc
listed (x ∷ xs) zero t at = let is : x ≡ Some t = at in rw is (rw (itself t) refl)
listed (x ∷ xs) (suc i) t at = by (is_some_table t x) (listed xs i t at)
  where
    by : (b : Bool) → list_any (is_some_table t) xs ≡ true → (b || list_any (is_some_table t) xs) ≡ true
    by true h = refl
    by false h = h

not_true : (b : Bool) → not b ≡ true → b ≡ true → ⊥
not_true true h k = cc
not_true false h k = cc

-- so its place is its first one
position_is : (xs : List (Option ℕ)) (i t : ℕ) → no_twice xs ≡ true → option_and_then (λ (o : Option ℕ). o) (slice_get xs i) ≡ Some t
    → position (is_some_table t) xs ≡ Some i
position_is [] i t once at = absurd cc
position_is (x ∷ xs) zero t once at =
    let is : x ≡ Some t = at in
    position_cons (is_some_table t) x xs ∙ rw is (rw (itself t) refl)
position_is (None ∷ xs) (suc i) t once at = position_cons (is_some_table t) None xs ∙ ap (option_map suc) (position_is xs i t once at)
position_is (Some u ∷ xs) (suc i) t once at =
    let both = and_parts (not (list_any (is_some_table u) xs)) (no_twice xs) once in
    let other : (u == t) ≡ false =
    ne_eqb u t (λ e. not_true (list_any (is_some_table u) xs) both.0 (listed xs i u (at ∙ ap (λ k. Some k) (sym e)))) in
    position_cons (is_some_table t) (Some u) xs ∙ rw other (ap (option_map suc) (position_is xs i t both.1 at))

tag_is : (kind : Coding) (tag t : ℕ) → table_with kind tag ≡ Some t → tag_of kind t ≡ tag
unfolding table_with tag_of
tag_is kind tag t at = ap (λ o. unwrap_or o 0) (position_is (tables_of kind) tag t (each_once kind) at)

parts : (kind : Coding) (t : Token) (v : ℕ) → 0 < t.row → decoded kind v ≡ Some t
    → (v / 2 ^ tag_bits kind ≡ t.row) × (table_with kind (v % 2 ^ tag_bits kind) ≡ Some t.table)
unfolding decoded
parts kind t v some is = by (v / 2 ^ tag_bits kind == 0) (table_with kind (v % 2 ^ tag_bits kind)) is
  where
    by : (b : Bool) (o : Option ℕ) → (if b then Some nil else option_map (λ (k : ℕ). record { table = k; row = v / 2 ^ tag_bits kind }) o) ≡ Some t
        → (v / 2 ^ tag_bits kind ≡ t.row) × (o ≡ Some t.table)
    by true o is = let e : nil ≡ t = cc in absurd (omega (arith, some, ap (λ (u : Token). u.row) e))
    by false None is = absurd cc
    by false (Some k) is =
        let e : record { table = k; row = v / 2 ^ tag_bits kind } ≡ t = cc in
        (ap (λ (u : Token). u.row) e, ap (λ (u : Token). Some u.table) e)

divided : (v b : ℕ) → v ≡ v / 2 ^ b * 2 ^ b + v % 2 ^ b
divided v b = omega (arith, pow_pos b)

-- what decodes to a row is its row above its table's tag
pub code_some : (kind : Coding) (t : Token) (v : ℕ) → t.row ≢ 0 → decoded kind v ≡ Some (named t) → v ≡ coded_value kind t
unfolding coded_value
code_some kind t v some is =
    let row : 0 < t.row = omega (arith, some) in
    let test : (t.row == 0) ≡ false = ne_eqb t.row 0 some in
    let p = parts kind t v row (is ∙ rw test refl) in
    divided v (tag_bits kind) ∙ rw (p.0, test) (ap (λ k. t.row * 2 ^ tag_bits kind + k) (sym (tag_is kind (v % 2 ^ tag_bits kind) t.table p.1)))

-- and no row is 0
pub code_none : (kind : Coding) (t : Token) (v : ℕ) → t.row ≡ 0 → v ≡ 0 → v ≡ coded_value kind t
unfolding coded_value
code_none kind t v none is = is ∙ rw (none) refl

few_tables : (k : Coding) → nat_le (length (tables_of k)) (2 ^ tag_bits k) ≡ true
unfolding tables_of tag_bits
few_tables coding.TypeDefOrRef = refl
few_tables coding.HasConstant = refl
few_tables coding.HasCustomAttribute = refl
few_tables coding.HasFieldMarshal = refl
few_tables coding.HasDeclSecurity = refl
few_tables coding.MemberRefParent = refl
few_tables coding.HasSemantics = refl
few_tables coding.MethodDefOrRef = refl
few_tables coding.MemberForwarded = refl
few_tables coding.Implementation = refl
few_tables coding.CustomAttributeType = refl
few_tables coding.ResolutionScope = refl
few_tables coding.TypeOrMethodDef = refl
few_tables coding.HasCustomDebugInformation = refl

tag_test : (table : ℕ) (o : Option ℕ) (b : Bool) → is_tables table o ≡ b → b ≡ true → o ≡ Some table
tag_test table (Some t) b e is = ap Some (eqb-true t table (e ∙ is))
tag_test table None b e is = absurd cc

by_tag : (table : ℕ) (o : Option ℕ) (rest : List (Option ℕ)) (b : Bool) → is_tables table o ≡ b
    → (list_any (is_tables table) rest ≡ true → (tag : ℕ) × (tag < length rest) × (get_or rest tag None ≡ Some table))
    → (b || list_any (is_tables table) rest) ≡ true → (tag : ℕ) × (tag < length (o ∷ rest)) × (get_or (o ∷ rest) tag None ≡ Some table)
by_tag table o rest true is later e = (0, omega arith, tag_test table o true is refl)
by_tag table o rest false is later e = let r = later e in (suc r.0, omega (arith, r.1), r.2)

tag_there : (table : ℕ) (tables : List (Option ℕ)) → list_any (is_tables table) tables ≡ true
    → (tag : ℕ) × (tag < length tables) × (get_or tables tag None ≡ Some table)
tag_there table [] e = absurd cc
tag_there table (o ∷ rest) e = by_tag table o rest (is_tables table o) refl (λ f. tag_there table rest f) e

le_of : (a b : ℕ) → nat_le a b ≡ true → a ≤ b
le_of a b e = grind (arith, nat_tests)

-- a number stands for each token that has no row or is of a table of the coding
pub code_there : (kind : Coding) (t : Token) → ((t.row == 0) || list_any (is_tables t.table) (tables_of kind)) ≡ true
    → ((v : ℕ) → decoded kind v ≢ Some (named t)) → ⊥
code_there kind t there none = by (t.row == 0) refl there
  where
    by : (b : Bool) → (t.row == 0) ≡ b → (b || list_any (is_tables t.table) (tables_of kind)) ≡ true → ⊥
    by true e h = none 0 (decoded_zero kind ∙ rw e refl)
    by false e h =
        let some : 0 < t.row = grind (arith, nat_tests) in
        let tag = tag_there t.table (tables_of kind) h in
        let few = le_of _ _ (few_tables kind) in
        none (t.row * 2 ^ tag_bits kind + tag.0)
        (decoded_at kind (2 ^ tag_bits kind) tag.0 t.row t.table refl (omega (arith, tag.1, few)) some tag.2 ∙ rw e refl)

pub same_number : (a b : ℕ) → Some a ≡ Some b → a ≡ b
same_number a b e = cc
