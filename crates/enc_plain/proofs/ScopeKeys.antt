-- Keys of scopes by doubling: one level more; alike tokens have one key at each level, and end in one scope.
use Rattle.std.proofs.Common.{◌≡◌, ℕ, zero, suc, ◌+◌, ◌-◌, Bool, true, false, refl, sym, ap, ◌∙◌, inl, inr, ◌⊎◌, arith}
use Rattle.std.specs.Prelude.{◌&&◌, ◌||◌, ◌==◌, is_some, bytes_eq, if◌then◌else◌}
use Rattle.std.proofs.lemmas.Bool.Decides.{nat_tests}
use Rattle.std.proofs.lemmas.Slice.Eq.{bytes_eq-Decides}
use Rattle.enc_base.specs.Token.{is_token}
use Rattle.enc_base.specs.declared.token.Token.{Token}
use Rattle.enc_sigs.specs.declared.mix.Mix.{Mix}
use Rattle.enc_sigs.proofs.Shared.{both_left, both_right, token_is}
use Rattle.enc_plain.specs.Rows.{Rows, number_at, bytes_at, token_at}
use Rattle.enc_plain.specs.Alike.{are_rows, same_number, same_bytes, type_refs_alike, assembly_refs_alike, module_refs_alike, refs_alike}
use Rattle.enc_plain.specs.Keys.{names_key, version_key, assembly_ref_key, module_ref_key, reference_key, single_key, scope_of, near, scopes_joined, scope_onward, outer, inner, end_key, scope_ended, ref_key, inner_key}
use Rattle.enc_plain.specs.declared.near.Near.{Near}
use Rattle.enc_plain.proofs.Scopes.{refs_same}

pub near_more : (rows : Rows) (k : ℕ) (t : Token) (a : Near) → a ≡ near rows k t → scopes_joined a (near rows k a.end) ≡ near rows (k + 1) t
unfolding near
near_more rows k t a e = let more : k + 1 ≡ suc k = omega arith in rw (more, e) refl

pub ruleset near_steps = (near_more)

one_of : (p s q r : Bool) → (p || s || q || r) ≡ true → (p ≡ true) ⊎ ((s ≡ true) ⊎ ((q ≡ true) ⊎ (r ≡ true)))
one_of true s q r h = inl refl
one_of false true q r h = inr (inl refl)
one_of false false true r h = inr (inr (inl refl))
one_of false false false r h = inr (inr (inr h))

-- rows of a table
record AreOfTable (rows : Rows) (table : ℕ) (a b : Token) : Type 0 where
  pub first : a.table ≡ table
  pub second : b.table ≡ table
  pub left : is_some (rows a) ≡ true
  pub right : is_some (rows b) ≡ true

of_table : (rows : Rows) (table : ℕ) (a b : Token) → are_rows rows table a b ≡ true → AreOfTable rows table a b
unfolding are_rows
of_table rows table a b h = record { first = grind (arith, nat_tests); second = grind (arith, nat_tests); left = grind (arith, nat_tests); right = grind (arith, nat_tests) }

bytes_are : (rows : Rows) (a b : Token) (i : ℕ) → same_bytes rows a b i ≡ true → bytes_at rows a i ≡ bytes_at rows b i
bytes_are rows a b i h = (bytes_eq-Decides (bytes_at rows a i) (bytes_at rows b i)).0 h

numbers_are : (rows : Rows) (a b : Token) (i : ℕ) → same_number rows a b i ≡ true → number_at rows a i ≡ number_at rows b i
numbers_are rows a b i h = grind (arith, nat_tests)

own_there : (rows : Rows) (t : Token) → is_some (rows t) ≡ true → single_key rows t ≡ reference_key rows t
unfolding single_key
own_there rows t h = rw h refl

row_type_ref : (rows : Rows) (t : Token) → t.table ≡ 0x01 → reference_key rows t ≡ names_key rows t
unfolding reference_key
row_type_ref rows t e = rw e refl

row_assembly_ref : (rows : Rows) (t : Token) → t.table ≡ 0x23 → reference_key rows t ≡ assembly_ref_key rows t
unfolding reference_key
row_assembly_ref rows t e = rw e refl

row_module_ref : (rows : Rows) (t : Token) → t.table ≡ 0x1A → reference_key rows t ≡ module_ref_key rows t
unfolding reference_key
row_module_ref rows t e = rw e refl

names_one : (rows : Rows) (a b : Token) → bytes_at rows a 1 ≡ bytes_at rows b 1 → bytes_at rows a 2 ≡ bytes_at rows b 2 → names_key rows a ≡ names_key rows b
unfolding names_key
names_one rows a b e f = rw (e, f) refl

versions_one : (rows : Rows) (a b : Token) → number_at rows a 0 ≡ number_at rows b 0 → number_at rows a 1 ≡ number_at rows b 1 → number_at rows a 2 ≡ number_at rows b 2 → number_at rows a 3 ≡ number_at rows b 3 → number_at rows a 4 ≡ number_at rows b 4 → version_key rows a ≡ version_key rows b
unfolding version_key
versions_one rows a b e f g h i = rw (e, f, g, h, i) refl

columns_one : (rows : Rows) (a b : Token) → version_key rows a ≡ version_key rows b → bytes_at rows a 5 ≡ bytes_at rows b 5 → bytes_at rows a 6 ≡ bytes_at rows b 6 → bytes_at rows a 7 ≡ bytes_at rows b 7 → bytes_at rows a 8 ≡ bytes_at rows b 8 → assembly_ref_key rows a ≡ assembly_ref_key rows b
unfolding assembly_ref_key
columns_one rows a b e f g h i = rw (e, f, g, h, i) refl

-- TypeRefs that are alike
record AreTypes (rows : Rows) (scopes : Token → Token → Bool) (a b : Token) : Type 0 where
  pub own : single_key rows a ≡ single_key rows b
  pub first : a.table ≡ 0x01
  pub second : b.table ≡ 0x01
  pub scope : scopes (token_at rows a 0) (token_at rows b 0) ≡ true

types_are : (rows : Rows) (scopes : Token → Token → Bool) (a b : Token) → type_refs_alike rows scopes a b ≡ true → AreTypes rows scopes a b
unfolding type_refs_alike
types_are rows scopes a b h =
    let three = both_left (are_rows rows 0x01 a b && same_bytes rows a b 1 && same_bytes rows a b 2) (scopes (token_at rows a 0) (token_at rows b 0)) h in
    let two = both_left (are_rows rows 0x01 a b && same_bytes rows a b 1) (same_bytes rows a b 2) three in
    let t = of_table rows 0x01 a b (both_left (are_rows rows 0x01 a b) (same_bytes rows a b 1) two) in
    let name = bytes_are rows a b 1 (both_right (are_rows rows 0x01 a b) (same_bytes rows a b 1) two) in
    let space = bytes_are rows a b 2 (both_right (are_rows rows 0x01 a b && same_bytes rows a b 1) (same_bytes rows a b 2) three) in
    record {
      own = own_there rows a t.left ∙ row_type_ref rows a t.first ∙ names_one rows a b name space ∙ sym (row_type_ref rows b t.second) ∙ sym (own_there rows b t.right);
      first = t.first;
      second = t.second;
      scope = both_right (are_rows rows 0x01 a b && same_bytes rows a b 1 && same_bytes rows a b 2) (scopes (token_at rows a 0) (token_at rows b 0)) h;
    }

-- references without a scope that are alike
record AreEnds (rows : Rows) (a b : Token) : Type 0 where
  pub own : single_key rows a ≡ single_key rows b
  pub first : (a.table == 0x01) ≡ false
  pub second : (b.table == 0x01) ≡ false

assemblies_are : (rows : Rows) (a b : Token) → assembly_refs_alike rows a b ≡ true → AreEnds rows a b
unfolding assembly_refs_alike
assemblies_are rows a b h =
    let h7 = both_left _ (same_bytes rows a b 8) h in
    let h6 = both_left _ (same_bytes rows a b 7) h7 in
    let h5 = both_left _ (same_bytes rows a b 6) h6 in
    let h4 = both_left _ (same_bytes rows a b 5) h5 in
    let h3 = both_left _ (same_number rows a b 4) h4 in
    let h2 = both_left _ (same_number rows a b 3) h3 in
    let h1 = both_left _ (same_number rows a b 2) h2 in
    let h0 = both_left _ (same_number rows a b 1) h1 in
    let t = of_table rows 0x23 a b (both_left (are_rows rows 0x23 a b) (same_number rows a b 0) h0) in
    let version = versions_one rows a b
    (numbers_are rows a b 0 (both_right (are_rows rows 0x23 a b) (same_number rows a b 0) h0))
    (numbers_are rows a b 1 (both_right _ (same_number rows a b 1) h1))
    (numbers_are rows a b 2 (both_right _ (same_number rows a b 2) h2))
    (numbers_are rows a b 3 (both_right _ (same_number rows a b 3) h3))
    (numbers_are rows a b 4 (both_right _ (same_number rows a b 4) h4)) in
    let columns = columns_one rows a b version
    (bytes_are rows a b 5 (both_right _ (same_bytes rows a b 5) h5))
    (bytes_are rows a b 6 (both_right _ (same_bytes rows a b 6) h6))
    (bytes_are rows a b 7 (both_right _ (same_bytes rows a b 7) h7))
    (bytes_are rows a b 8 (both_right _ (same_bytes rows a b 8) h)) in
    record {
      own = own_there rows a t.left ∙ row_assembly_ref rows a t.first ∙ columns ∙ sym (row_assembly_ref rows b t.second) ∙ sym (own_there rows b t.right);
      first = ap (λ n. n == 0x01) t.first;
      second = ap (λ n. n == 0x01) t.second;
    }

names_of_modules : (rows : Rows) (a b : Token) → bytes_at rows a 0 ≡ bytes_at rows b 0 → module_ref_key rows a ≡ module_ref_key rows b
unfolding module_ref_key
names_of_modules rows a b e = rw e refl

modules_are : (rows : Rows) (a b : Token) → module_refs_alike rows a b ≡ true → AreEnds rows a b
unfolding module_refs_alike
modules_are rows a b h =
    let t = of_table rows 0x1A a b (both_left (are_rows rows 0x1A a b) (same_bytes rows a b 0) h) in
    let name = bytes_are rows a b 0 (both_right (are_rows rows 0x1A a b) (same_bytes rows a b 0) h) in
    record {
      own = own_there rows a t.left ∙ row_module_ref rows a t.first ∙ names_of_modules rows a b name ∙ sym (row_module_ref rows b t.second) ∙ sym (own_there rows b t.right);
      first = ap (λ n. n == 0x01) t.first;
      second = ap (λ n. n == 0x01) t.second;
    }

-- tokens that are alike by so many scopes, or references without a scope that are
abbrev AreNearby : Rows → ℕ → Token → Token → Type 0
AreNearby rows d a b = (refs_alike rows d a b ≡ true) ⊎ AreEnds rows a b

itself : (t : Token) → is_token t t ≡ true
itself t = grind (arith, nat_tests)

still : (rows : Rows) (d : ℕ) (t u : Token) → t ≡ u → refs_alike rows d t u ≡ true
still rows d t u e = sym (refs_same rows d t u (ap (is_token t) (sym e) ∙ itself t))

own_one : (rows : Rows) (d : ℕ) (a b : Token) → AreNearby rows d a b → single_key rows a ≡ single_key rows b
unfolding refs_alike
own_one rows d a b (inr ends) = ends.own
own_one rows zero a b (inl h) = ap (single_key rows) (token_is a b h)
own_one rows (suc d) a b (inl h) = elim (one_of (is_token a b) (type_refs_alike rows (refs_alike rows d) a b) (assembly_refs_alike rows a b) (module_refs_alike rows a b) h) [
  | inl same ↦ ap (single_key rows) (token_is a b same)
  | inr (inl types) ↦ (types_are rows (refs_alike rows d) a b types).own
  | inr (inr (inl assemblies)) ↦ (assemblies_are rows a b assemblies).own
  | inr (inr (inr modules)) ↦ (modules_are rows a b modules).own
]

scope_ends : (rows : Rows) (a : Token) → (a.table == 0x01) ≡ false → scope_of rows a ≡ a
unfolding scope_of
scope_ends rows a e = rw e refl

scope_type : (rows : Rows) (a : Token) → a.table ≡ 0x01 → scope_of rows a ≡ token_at rows a 0
unfolding scope_of
scope_type rows a e = rw e refl

ends_stay : (rows : Rows) (d : ℕ) (a b : Token) → AreEnds rows a b → AreNearby rows d (scope_of rows a) (scope_of rows b)
ends_stay rows d a b e = inr (rw (scope_ends rows a e.first, scope_ends rows b e.second) e)

-- their scopes are alike by one less
scopes_one : (rows : Rows) (d : ℕ) (a b : Token) → AreNearby rows d a b → AreNearby rows (d - 1) (scope_of rows a) (scope_of rows b)
unfolding refs_alike
scopes_one rows d a b (inr ends) = ends_stay rows (d - 1) a b ends
scopes_one rows zero a b (inl h) = inl (still rows (zero - 1) (scope_of rows a) (scope_of rows b) (ap (scope_of rows) (token_is a b h)))
scopes_one rows (suc d) a b (inl h) =
    let less : suc d - 1 ≡ d = omega arith in
    rw less (elim (one_of (is_token a b) (type_refs_alike rows (refs_alike rows d) a b) (assembly_refs_alike rows a b) (module_refs_alike rows a b) h) [
      | inl same ↦ inl (still rows d (scope_of rows a) (scope_of rows b) (ap (scope_of rows) (token_is a b same)))
      | inr (inl types) ↦ let t = types_are rows (refs_alike rows d) a b types in inl (rw (scope_type rows a t.first, scope_type rows b t.second) t.scope)
      | inr (inr (inl assemblies)) ↦ ends_stay rows d a b (assemblies_are rows a b assemblies)
      | inr (inr (inr modules)) ↦ ends_stay rows d a b (modules_are rows a b modules)
    ])

-- how many scopes a level has
abbrev many : ℕ → ℕ
many zero = 1
many (suc k) = many k + many k

-- keys are equal, and what is behind them is alike by so many
record AreNears (rows : Rows) (d : ℕ) (x y : Near) : Type 0 where
  pub mix : x.mix ≡ y.mix
  pub end : AreNearby rows d x.end y.end

joined_one : (rows : Rows) (d e : ℕ) (x y u v : Near) → AreNears rows d x y → AreNears rows e u v → AreNears rows e (scopes_joined x u) (scopes_joined y v)
joined_one rows d e x y u v first second = record { mix = rw (first.mix, second.mix) refl; end = second.end }

near_one : (rows : Rows) (k d : ℕ) (a b : Token) → AreNearby rows d a b → AreNears rows (d - many k) (near rows k a) (near rows k b)
unfolding near
near_one rows zero d a b h = record { mix = own_one rows d a b h; end = scopes_one rows d a b h }
near_one rows (suc k) d a b h =
    let first = near_one rows k d a b h in
    let second = near_one rows k (d - many k) (near rows k a).end (near rows k b).end first.end in
    let less : d - many k - many k ≡ d - (many k + many k) = omega arith in
    rw (sym less) (joined_one rows (d - many k) (d - many k - many k) (near rows k a) (near rows k b) (near rows k (near rows k a).end) (near rows k (near rows k b).end) first second)

onward_one : (rows : Rows) (k d : ℕ) (x y : Near) → AreNears rows d x y → AreNears rows (d - many k) (scope_onward rows x k) (scope_onward rows y k)
onward_one rows k d x y h = joined_one rows d (d - many k) x y (near rows k x.end) (near rows k y.end) h (near_one rows k d x.end y.end h.end)

-- where no depth is left, both end in one token, or in alike references without a scope
ends_one : (rows : Rows) (a b : Token) → AreNearby rows 0 a b → end_key rows a ≡ end_key rows b
unfolding refs_alike end_key
ends_one rows a b (inl h) = ap (end_key rows) (token_is a b h)
ends_one rows a b (inr e) = rw (e.first, e.second) e.own

ended_one : (rows : Rows) (x y : Near) → AreNears rows 0 x y → scope_ended rows x ≡ scope_ended rows y
ended_one rows x y h = rw (h.mix, ends_one rows x.end y.end h.end) refl

outer_one : (rows : Rows) (a b : Token) → refs_alike rows 100 a b ≡ true → scope_ended rows (outer rows a) ≡ scope_ended rows (outer rows b)
unfolding outer
outer_one rows a b h =
    let x = near_one rows 6 100 a b (inl h) in
    let y = onward_one rows 5 36 (near rows 6 a) (near rows 6 b) x in
    ended_one rows (scope_onward rows (scope_onward rows (near rows 6 a) 5) 2) (scope_onward rows (scope_onward rows (near rows 6 b) 5) 2) (onward_one rows 2 4 (scope_onward rows (near rows 6 a) 5) (scope_onward rows (near rows 6 b) 5) y)

inner_one : (rows : Rows) (a b : Token) → refs_alike rows 99 a b ≡ true → scope_ended rows (inner rows a) ≡ scope_ended rows (inner rows b)
unfolding inner
inner_one rows a b h =
    let x = near_one rows 6 99 a b (inl h) in
    let y = onward_one rows 5 35 (near rows 6 a) (near rows 6 b) x in
    let z = onward_one rows 1 3 (scope_onward rows (near rows 6 a) 5) (scope_onward rows (near rows 6 b) 5) y in
    ended_one rows (inner rows a) (inner rows b) (onward_one rows 0 1 (scope_onward rows (scope_onward rows (near rows 6 a) 5) 1) (scope_onward rows (scope_onward rows (near rows 6 b) 5) 1) z)

-- alike references are of one table
one_table : (rows : Rows) (d : ℕ) (a b : Token) → refs_alike rows d a b ≡ true → a.table ≡ b.table
unfolding refs_alike type_refs_alike assembly_refs_alike module_refs_alike are_rows
one_table rows zero a b h = ap (λ (t : Token). t.table) (token_is a b h)
one_table rows (suc d) a b h = elim (one_of (is_token a b) (type_refs_alike rows (refs_alike rows d) a b) (assembly_refs_alike rows a b) (module_refs_alike rows a b) h) [
  | inl same ↦ ap (λ (t : Token). t.table) (token_is a b same)
  | inr (inl types) ↦ let t = types_are rows (refs_alike rows d) a b types in t.first ∙ sym t.second
  | inr (inr (inl assemblies)) ↦ grind (arith, nat_tests)
  | inr (inr (inr modules)) ↦ grind (arith, nat_tests)
]

by_tests : (rows : Rows) (a b : Token) (t : Bool) (x y : Mix) → (a.table == 0x01) ≡ t → a.table ≡ b.table → x ≡ y → single_key rows a ≡ single_key rows b → (if a.table == 0x01 then x else single_key rows a) ≡ (if b.table == 0x01 then y else single_key rows b)
by_tests rows a b true x y is one keys own = let other : (b.table == 0x01) ≡ true = ap (λ n. n == 0x01) (sym one) ∙ is in rw (is, other) keys
by_tests rows a b false x y is one keys own = let other : (b.table == 0x01) ≡ false = ap (λ n. n == 0x01) (sym one) ∙ is in rw (is, other) own

-- alike references have one key
pub refs_one : (rows : Rows) (a b : Token) → refs_alike rows 100 a b ≡ true → ref_key rows a ≡ ref_key rows b
unfolding ref_key
refs_one rows a b h = by_tests rows a b (a.table == 0x01) (scope_ended rows (outer rows a)) (scope_ended rows (outer rows b)) refl (one_table rows 100 a b h) (outer_one rows a b h) (own_one rows 100 a b (inl h))

-- and inside TypeSpecs
pub inners_one : (rows : Rows) (a b : Token) → refs_alike rows 99 a b ≡ true → inner_key rows a ≡ inner_key rows b
unfolding inner_key
inners_one rows a b h = by_tests rows a b (a.table == 0x01) (scope_ended rows (inner rows a)) (scope_ended rows (inner rows b)) refl (one_table rows 99 a b h) (inner_one rows a b h) (own_one rows 99 a b (inl h))
