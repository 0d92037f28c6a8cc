-- The plain PDB of a base and its deltas knows only methods that the module has.
use Rattle.std.proofs.Common.{◌≡◌, ℕ, zero, suc, ◌<◌, ◌≤◌, Bool, true, false, List, [], ◌∷◌, length, get_or, map, Option, Some, None, Result, Ok, Err, refl, ap, ◌∙◌, inl, inr, arith}
use Rattle.std.specs.Prelude.{◌==◌, ◌&&◌, ◌||◌, nat_le, option_map, slice_get, position, if◌then◌else◌}
use Rattle.std.specs.List.{list_any}
use Rattle.std.proofs.lemmas.Bool.{cases_lt, or_cases, and_parts, eqb-true}
use Rattle.std.proofs.lemmas.Bool.Decides.{nat_tests}
use Rattle.std.proofs.lemmas.List.Quantifiers.{position-Some}
use Rattle.std.proofs.lemmas.Option.{slice_get-get_or, slice_get_within}
use Rattle.enc_base.specs.Token.{is_token, nth_row}
use Rattle.enc_base.specs.declared.refusal.Place.{Place}
use Rattle.enc_base.specs.declared.refusal.Place.TheVariants as place
use Rattle.enc_base.specs.declared.refusal.Refusal.{Refusal}
use Rattle.enc_base.specs.declared.token.Token.{Token}
use Rattle.enc_rows.specs.Layout.{rows_of}
use Rattle.enc_rows.specs.Source.{Source}
use Rattle.enc_base.specs.Tables as tables
use Rattle.enc_plain.specs.Cell.{Cell}
use Rattle.enc_plain.specs.Chain.{Chain}
use Rattle.enc_plain.specs.Debug.{MethodDebug, PlainPdb, unknown, debug_of}
use Rattle.enc_plain.specs.Module.{Row, rows_in, row_at, row_of}
use Rattle.enc_plain.specs.Sound.{HasTables, row_count}
use Rattle.enc_plain.specs.SoundDebug.{is_method_of, KnowsWithin}
use Rattle.enc_plain.proofs.Owned.{position_cons}
use Rattle.enc_image.specs.Base.{chain_of_base}
use Rattle.enc_delta.specs.Delta.{listed, place_in}
use Rattle.enc_delta.specs.Judged.{first_meta}
use Rattle.enc_agg.specs.Extend.{extended, chain_with}
use Rattle.enc_agg.specs.Follows.{Lands}
use Rattle.enc_agg.proofs.Children.{rows_grow}
use Rattle.enc_agg.proofs.Fitting.{fits}
use Rattle.enc_agg.proofs.Histories.{with_tables}
use Rattle.enc_agg.proofs.SoundDeltas.{delta_bytes, bytes_follow}
use Rattle.enc_agg.proofs.Viewing.{listed_cells}
use Rattle.enc_ppdb.specs.Pdb.{points_of, pdb_source_of}
use Rattle.enc_ppdb.specs.Fault.{refused_at, unless_fault, first_row_fault, fits_methods, judged_pdb, pdb_of, named_tokens, pdb_delta_of}
use Rattle.enc_ppdb.specs.Misplaced.{size_for, is_stray, lesser_of, misplaced_if, is_misplaced, misplaced_row, least_below, debug_token, first_misplaced}
use Rattle.enc_ppdb.specs.PdbChain.{DebugDelta, row_of_method, delta_row, row_in_file, points_at, documents_at, debug_at, has_changed, pdb_begun, pdb_changed, pdb_with}
use Rattle.enc_ppdb.specs.Points.{names_method, row_for}
use Rattle.enc_checker.specs.Check.{new_code, own_methods, code_size, code_sizes, Accepted, accepted, unless, refused_row, placed_pdb, with_pdb, unless_broken, judged}
use Rattle.enc_checker.specs.Within.{method_count, debug_of_accepted, BaseKnowsWithin, DeltaKnowsWithin}

-- what is accepted breaks no rule, and its PDB's rows go with its methods
record IsPlaced (c : Chain) (a : Accepted) : Type 0 where
  rules : first_meta c a.delta ≡ None
  placed : (p : Source) → a.pdb ≡ Some p → first_misplaced p (code_sizes a.delta) ≡ None

gives : Accepted → Result Accepted Refusal
gives a = Ok a

same_accepted : (x a : Accepted) → gives x ≡ Ok a → x ≡ a
unfolding gives
same_accepted x a h = cc

of_one : (d p : Source) (c : Chain) → first_meta c d ≡ None → first_misplaced p (code_sizes d) ≡ None → (q : Source) → Some p ≡ Some q → first_misplaced q (code_sizes d) ≡ None
of_one d p c rules e q f = let same : p ≡ q = cc in rw (← same) e

by_row : (c : Chain) (d p : Source) (o : Option Token) (a : Accepted) → first_meta c d ≡ None → first_misplaced p (code_sizes d) ≡ o → unless (option_map refused_row o) (accepted d (Some p)) ≡ Ok a → IsPlaced c a
unfolding gives
by_row c d p None a rules e h = rw (← same_accepted (accepted d (Some p)) a h) (record { rules = rules; placed = λ q f. of_one d p c rules e q f })
by_row c d p (Some t) a rules e h = absurd cc

by_read : (c : Chain) (d : Source) (r : Result Source Refusal) (a : Accepted) → first_meta c d ≡ None → placed_pdb d r ≡ Ok a → IsPlaced c a
by_read c d (Ok p) a rules h = by_row c d p (first_misplaced p (code_sizes d)) a rules refl h
by_read c d (Err e) a rules h = absurd cc

by_pdb : (c : Chain) (d : Source) (bytes : Option (List ℕ)) (a : Accepted) → first_meta c d ≡ None → with_pdb d bytes ≡ Ok a → IsPlaced c a
unfolding with_pdb gives
by_pdb c d None a rules h = rw (← same_accepted (accepted d None) a h) (record { rules = rules; placed = λ q f. absurd cc })
by_pdb c d (Some bytes) a rules h = by_read c d (pdb_delta_of bytes) a rules h

by_rules : (c : Chain) (d : Source) (r : Option Refusal) (bytes : Option (List ℕ)) (a : Accepted) → first_meta c d ≡ r → unless_broken r d bytes ≡ Ok a → IsPlaced c a
by_rules c d None bytes a e h = by_pdb c d bytes a e h
by_rules c d (Some f) bytes a e h = absurd cc

is_placed : (c : Chain) (d : Result Source Refusal) (bytes : Option (List ℕ)) (a : Accepted) → judged c d bytes ≡ Ok a → IsPlaced c a
is_placed c (Ok d) bytes a h = by_rules c d (first_meta c d) bytes a refl h
is_placed c (Err e) bytes a h = absurd cc

-- where a rule answers nothing below n, it answers nothing at a place below it
some_never : (b : Bool) (n m : ℕ) → (if b then Some n else Some m) ≡ None → ⊥
some_never true n m h = absurd cc
some_never false n m h = absurd cc

neither : (a b : Option ℕ) → lesser_of a b ≡ None → (a ≡ None) × (b ≡ None)
neither None b h = (refl, h)
neither (Some n) None h = absurd cc
neither (Some n) (Some m) h = absurd (some_never (nat_le n m) n m h)

silent_at : (rule : ℕ → Option ℕ) (n k : ℕ) → least_below rule n ≡ None → k < n → rule k ≡ None
unfolding least_below
silent_at rule zero k h lt = absurd (omega (arith, lt))
silent_at rule (suc n) k h lt =
    let both = neither (least_below rule n) (rule n) h in
    elim (cases_lt k n) [
      | inl less ↦ silent_at rule n k both.0 less
      | inr past ↦ let e : n ≡ k = omega (arith, lt, past) in rw e at both.1
    ]

none_mapped : {A B : Type 0} (f : A → B) (o : Option A) → option_map f o ≡ None → o ≡ None
none_mapped f None h = refl
none_mapped f (Some x) h = absurd cc

kept : (b : Bool) (t : Token) → misplaced_if b t ≡ None → b ≡ false
kept true t h = absurd cc
kept false t h = refl

second_false : (a b : Bool) → (a || b) ≡ false → b ≡ false
second_false true b h = absurd cc
second_false false b h = h

has_size : (p : Source) (row : Token) (o : Option ℕ) → is_stray o (points_of p row) ≡ false → (n : ℕ) × (o ≡ Some n)
has_size p row None h = absurd cc
has_size p row (Some n) h = (n, refl)

-- a token of a PDB that goes with a delta's methods has the size of one
sized_token : (p : Source) (methods : List (Token × ℕ)) (k : ℕ) (t : Token) → first_misplaced p methods ≡ None → slice_get (named_tokens p) k ≡ Some t → (n : ℕ) × (size_for methods t ≡ Some n)
unfolding first_misplaced misplaced_row is_misplaced
sized_token p methods k t none there =
    let all = none_mapped debug_token (least_below (misplaced_row p methods) (length (named_tokens p))) none in
    let row : misplaced_row p methods k ≡ None = silent_at (misplaced_row p methods) (length (named_tokens p)) k all (slice_get_within (named_tokens p) k t there) in
    let one : misplaced_if (is_misplaced p methods k t) t ≡ None = rw there at row in
    has_size p (nth_row tables.method_debug_information k) (size_for methods t) (second_false _ _ (kept (is_misplaced p methods k t) t one))

-- one of the tokens has the row
abbrev HasRow : List Token → ℕ → Type 0
HasRow ts row = (k : ℕ) × (position (λ (x : Token). x.row == row) ts ≡ Some k)

no_name : (m t : Token) → (m.row == t.row) ≡ false → names_method m t ≡ false
no_name m t e = let f : (t.row == m.row) ≡ false = grind (arith, nat_tests, e) in rw f (by (m.table == tables.method_def))
  where
    by : (b : Bool) → (b && false) ≡ false
    by true = refl
    by false = refl

by_name : (m t : Token) (n size : ℕ) (rest : List (Token × ℕ)) (ts : List Token) (b : Bool) → (m.row == t.row) ≡ b → size_for ((m, n) ∷ rest) t ≡ Some size → (size_for rest t ≡ Some size → HasRow ts t.row) → HasRow (m ∷ ts) t.row
unfolding size_for
by_name m t n size rest ts true e h more = (0, position_cons (λ (x : Token). x.row == t.row) m ts ∙ rw e refl)
by_name m t n size rest ts false e h more =
    let w = more (rw (no_name m t e) at h) in
    (suc w.0, position_cons (λ (x : Token). x.row == t.row) m ts ∙ rw (e, w.1) refl)

size_listed : (f : Token → ℕ) (ts : List Token) (t : Token) (size : ℕ) → size_for (map (λ (m : Token). (m, f m)) ts) t ≡ Some size → HasRow ts t.row
unfolding size_for
size_listed f [] t size h = absurd cc
size_listed f (m ∷ ts) t size h = by_name m t (f m) size (map (λ (x : Token). (x, f x)) ts) ts (m.row == t.row) refl h (λ e. size_listed f ts t size e)

-- so the token's row is that of one of the delta's methods
named_place : (p d : Source) (k : ℕ) (t : Token) → first_misplaced p (code_sizes d) ≡ None → slice_get (named_tokens p) k ≡ Some t → (j : ℕ) × (place_in (listed d) (record { table = tables.method_def; row = t.row }) ≡ Some j)
unfolding code_sizes place_in
named_place p d k t none there =
    let size = sized_token p (code_sizes d) k t none there in
    let w = size_listed (λ (m : Token). code_size (new_code d m)) (own_methods d) t size.0 size.1 in
    (suc w.0, ap (option_map suc) w.1)

-- a row with cells is one of the rows
row_here : (rows : List Row) (row : ℕ) (o : Option Row) (cells : List Cell) → row_at rows row ≡ o → option_map (λ (r : Row). r.cells) o ≡ Some cells → (1 ≤ row) × (row ≤ length rows)
row_here rows row None cells e h = absurd cc
row_here rows zero (Some r) cells e h = absurd cc
row_here rows (suc i) (Some r) cells e h = (omega arith, omega (arith, slice_get_within rows i r e))

listed_here : (c : Chain) (d : Source) (u : Token) (k : ℕ) → HasTables c.plain → Lands c d → place_in (listed d) u ≡ Some k → (1 ≤ u.row) × (u.row ≤ row_count (extended c d).plain u.table)
unfolding row_of
listed_here c d u k has lands there = row_here (rows_in (extended c d).plain u.table) u.row (row_at (rows_in (extended c d).plain u.table) u.row) _ refl (listed_cells c d u k (fits c d has lands) there)

method_by : (methods : ℕ) (method : Token) → (method.table == tables.method_def) ≡ true → 1 ≤ method.row → method.row ≤ methods → is_method_of methods method ≡ true
unfolding is_method_of
method_by methods method table low high =
    let a : nat_le 1 method.row ≡ true = grind (arith, nat_tests) in
    let b : nat_le method.row methods ≡ true = grind (arith, nat_tests) in
    rw (table, a, b) refl

both_ways : (b : Bool) → b ≡ true → b ≡ false → ⊥
both_ways true h g = absurd cc
both_ways false h g = absurd cc

-- a method that a token of the delta's PDB names is one of the module
named_method : (c : Chain) (p d : Source) (method : Token) (o : Option ℕ) → HasTables c.plain → Lands c d → first_misplaced p (code_sizes d) ≡ None → position (names_method method) (named_tokens p) ≡ o → is_method_of (row_count (extended c d).plain tables.method_def) method ≡ false → o ≡ None
named_method c p d method None has lands none e out = refl
named_method c p d method (Some k) has lands none e out =
    let first = position-Some (names_method method) (named_tokens p) k method e in
    let t = get_or (named_tokens p) k method in
    let there : slice_get (named_tokens p) k ≡ Some t = slice_get-get_or (named_tokens p) k method first.0 in
    let parts = and_parts (method.table == tables.method_def) (t.row == method.row) first.1 in
    let same : t.row ≡ method.row = eqb-true t.row method.row parts.1 in
    let place = named_place p d k t none there in
    let rows = listed_here c d (record { table = tables.method_def; row = t.row }) place.0 has lands place.1 in
    let is = method_by (row_count (extended c d).plain tables.method_def) method parts.0 (omega (arith, rows.0, same)) (omega (arith, rows.1, same)) in
    absurd (both_ways (is_method_of (row_count (extended c d).plain tables.method_def) method) is out)

no_row : (c : Chain) (p d : Source) (method : Token) → HasTables c.plain → Lands c d → first_misplaced p (code_sizes d) ≡ None → is_method_of (row_count (extended c d).plain tables.method_def) method ≡ false → row_for p method ≡ None
unfolding row_for
no_row c p d method has lands none out = ap (option_map (nth_row tables.method_debug_information)) (named_method c p d method (position (names_method method) (named_tokens p)) has lands none refl out)

no_delta_row : (c : Chain) (d : Source) (o : Option Source) (method : Token) → HasTables c.plain → Lands c d → ((p : Source) → o ≡ Some p → first_misplaced p (code_sizes d) ≡ None) → is_method_of (row_count (extended c d).plain tables.method_def) method ≡ false → delta_row o method ≡ None
no_delta_row c d None method has lands placed out = refl
no_delta_row c d (Some p) method has lands placed out = ap (row_in_file p) (no_row c p d method has lands (placed p refl) out)

-- what isn't known before and has no row isn't known after
unknown_still : (changed : List Token) (method : Token) (before : MethodDebug) → before ≡ unknown → has_changed changed method before ≡ unknown
unknown_still changed method before e = by (list_any (is_token method) changed)
  where
    by : (b : Bool) → (if b then unknown else before) ≡ unknown
    by true = refl
    by false = e

changed_unknown : (before : PlainPdb) (d : DebugDelta) (method : Token) → delta_row d.pdb method ≡ None → before method ≡ unknown → pdb_changed before d method ≡ unknown
unfolding pdb_changed
changed_unknown before d method none e = rw none (unknown_still d.changed method (before method) e)

-- fewer methods are methods of more
fewer : (m n : ℕ) (t : Token) → m ≤ n → is_method_of n t ≡ false → is_method_of m t ≡ false
unfolding is_method_of
fewer m n t le out = by (is_method_of m t) refl
  where
    by : (b : Bool) → is_method_of m t ≡ b → b ≡ false
    by false e = refl
    by true e =
        let a = and_parts (t.table == tables.method_def) (nat_le 1 t.row && nat_le t.row m) e in
        let b = and_parts (nat_le 1 t.row) (nat_le t.row m) a.1 in
        let low : 1 ≤ t.row = grind (arith, nat_tests, b.0) in
        let high : t.row ≤ m = grind (arith, nat_tests, b.1) in
        absurd (both_ways _ (method_by n t a.0 low (omega (arith, high, le))) out)

pub delta_knows_within : DeltaKnowsWithin
unfolding chain_with pdb_with
delta_knows_within base deltas d bytes a was so debug debugs within =
    let c = chain_with base deltas in
    let is = is_placed c d bytes a so in
    let has = with_tables base deltas in
    let lands = (bytes_follow c a.delta (delta_bytes was.metadata was.il a.delta was.bytes was.code was.read) is.rules).lands in
    record {
      each = λ token out. changed_unknown (pdb_with debug debugs) (debug_of_accepted a) token (no_delta_row c a.delta a.pdb token has lands is.placed out)
          (within.each token (fewer (row_count c.plain tables.method_def) (row_count (extended c a.delta).plain tables.method_def) token (rows_grow c a.delta has lands tables.method_def) out));
    }

-- a PDB that is read for so many methods has rows of no others
same_source : (s p : Source) → unless_fault s None ≡ Ok p → s ≡ p
same_source s p h = cc

by_fit : (methods : ℕ) (s p : Source) (b : Bool) (o : Option Place) → fits_methods methods s ≡ b → (if b then unless_fault s o else Err (refused_at place.Pdb)) ≡ Ok p → fits_methods methods p ≡ true
by_fit methods s p true None e h = rw (← same_source s p h) e
by_fit methods s p true (Some x) e h = absurd cc
by_fit methods s p false o e h = absurd cc

read_fits : (methods : ℕ) (o : Option Source) (p : Source) → judged_pdb (fits_methods methods) o ≡ Ok p → fits_methods methods p ≡ true
read_fits methods None p h = absurd cc
read_fits methods (Some s) p h = by_fit methods s p (fits_methods methods s) (first_row_fault s) refl h

as_many : (methods rows row : ℕ) → (rows == 0 || rows == methods) ≡ true → 1 ≤ row → row ≤ rows → row ≤ methods
as_many methods rows row h low high = elim (or_cases (rows == 0) (rows == methods) h) [
  | inl none ↦ let e : rows ≡ 0 = eqb-true rows 0 none in absurd (omega (arith, low, high, e))
  | inr all ↦ let e : rows ≡ methods = eqb-true rows methods all in omega (arith, high, e)
]

abbrev row_if : Token → Bool → Option Token
row_if method b = if b then Some (record { table = tables.method_debug_information; row = method.row }) else None

no_base_row : (methods : ℕ) (p : Source) (method : Token) → fits_methods methods p ≡ true → is_method_of methods method ≡ false → row_of_method p method ≡ None
unfolding row_of_method fits_methods
no_base_row methods p method fit out = by (method.table == tables.method_def && (nat_le 1 method.row && nat_le method.row (rows_of p.layout tables.method_debug_information))) refl
  where
    by : (b : Bool) → (method.table == tables.method_def && (nat_le 1 method.row && nat_le method.row (rows_of p.layout tables.method_debug_information))) ≡ b → row_if method b ≡ None
    by false e = refl
    by true e =
        let a = and_parts (method.table == tables.method_def) (nat_le 1 method.row && nat_le method.row (rows_of p.layout tables.method_debug_information)) e in
        let b = and_parts (nat_le 1 method.row) (nat_le method.row (rows_of p.layout tables.method_debug_information)) a.1 in
        let low : 1 ≤ method.row = grind (arith, nat_tests, b.0) in
        let high : method.row ≤ rows_of p.layout tables.method_debug_information = grind (arith, nat_tests, b.1) in
        absurd (both_ways _ (method_by methods method a.0 low (as_many methods (rows_of p.layout tables.method_debug_information) method.row fit low high)) out)

begun_unknown : (p : Source) (method : Token) → row_of_method p method ≡ None → pdb_begun (Some p) method ≡ unknown
unfolding pdb_begun debug_at points_at documents_at debug_of
begun_unknown p method none = rw none refl

nothing_begun : (method : Token) → pdb_begun None method ≡ unknown
unfolding pdb_begun debug_at points_at documents_at debug_of
nothing_begun method = refl

base_within : (base : Source) (bytes : List ℕ) (p : Source) → pdb_of bytes (length (rows_in (chain_of_base base).plain tables.method_def)) ≡ Ok p → KnowsWithin (pdb_begun (Some p)) (method_count (chain_of_base base))
unfolding pdb_of
base_within base bytes p read =
    let methods = method_count (chain_of_base base) in
    let fit = read_fits methods (pdb_source_of bytes) p read in
    record { each = λ method out. begun_unknown p method (no_base_row methods p method fit out) }

pub base_knows_within : BaseKnowsWithin
base_knows_within = (base_within, λ methods. record { each = λ method out. nothing_begun method })
