-- The PDB of the delta that stands for two goes with that delta, and makes of what is known before them what both make.
use Rattle.std.proofs.Common.{◌≡◌, ℕ, zero, suc, ◌+◌, ◌*◌, ◌<◌, ◌≤◌, Bool, true, false, List, [], ◌∷◌, length, map, take, Option, Some, None, refl, sym, ap, ◌∙◌, subst, inl, inr, arith}
use Rattle.std.specs.Prelude.{◌||◌, ◌==◌, is_some, nat_le, option_and_then, option_map, position, if◌then◌else◌, slice_get}
use Rattle.std.specs.List.{list_any, range_with_len}
use Rattle.std.proofs.lemmas.Bool.{eqb-true, or_cases, or_left, or_right}
use Rattle.std.proofs.lemmas.Bool.Decides.{nat_tests}
use Rattle.std.proofs.lemmas.List.{length-map}
use Rattle.std.proofs.lemmas.Option.{slice_get-map, slice_get_within}
use Rattle.enc_base.specs.Token.{is_token, nth_row, number_of}
use Rattle.enc_base.specs.declared.token.Token.{Token}
use Rattle.enc_rows.specs.Source.{Source}
use Rattle.enc_rows.specs.Sums.{below}
use Rattle.enc_rows.proofs.Listed.{get_below}
use Rattle.enc_base.specs.Tables as tables
use Rattle.enc_plain.proofs.Applied.{same_is}
use Rattle.enc_plain.specs.Chain.{rows_before}
use Rattle.enc_plain.specs.Debug.{MethodDebug, unknown}
use Rattle.enc_delta.specs.Delta.{listed}
use Rattle.enc_delta.specs.Rules.{stands_in}
use Rattle.enc_delta.proofs.ListsSets.{Rises}
use Rattle.enc_agg.specs.Seen.{History}
use Rattle.enc_ppdb.specs.Fault.{named_tokens}
use Rattle.enc_ppdb.specs.Misplaced.{debug_token, first_misplaced, is_behind, is_misplaced, is_stray, least_below, misplaced_if, misplaced_row, size_for}
use Rattle.enc_ppdb.specs.Pdb.{points_of}
use Rattle.enc_ppdb.specs.PdbChain.{DebugDelta, PdbHistory, debug_at, debug_or, delta_row, documents_at, has_changed, is_named_by, pdb_changed, pdb_with, row_in_file}
use Rattle.enc_ppdb.specs.Points.{names_method, row_for}
use Rattle.enc_ppdb.specs.Written.{IsNilOverSeveral, document_told}
use Rattle.enc_ppdb.proofs.Positions.{position_any}
use Rattle.enc_pdb_writer.proofs.Lists.{first_passes, one_of_some, some_by_one}
use Rattle.enc_checker.specs.Check.{code_size, code_sizes, new_bodies, new_code, own_methods}
use Rattle.enc_merged_delta.specs.Merged.{SaysMerged, is_in_either, is_in_map}
use Rattle.enc_merged_delta.proofs.Among.{lists}
use Rattle.enc_merged_delta.proofs.BodiesSaid.{at_place}
use Rattle.enc_chain.specs.Goes.{GoesWith}
use Rattle.enc_merge.specs.Merges.{methods_listed}
use Rattle.enc_merge.specs.Writing.{AreLast, Both, IsPdbOfBoth, chain_of_both, changes_debug, methods_changed}
use Rattle.enc_merge.proofs.CodeOfBoth.{code_lasts, code_of_first, code_of_second}
use Rattle.enc_merge.proofs.MethodsOfBoth.{both, filtered_twice, method_of_either, methods_after, row_of_def, rows_from, rows_rise}
use Rattle.enc_merge.proofs.PointsWithin.{HasNew, filtered, has_new, is_named, known_is, lie_below, named_same, new_by_code, no_new, none_below, of_own_table, still_listed, stray_by}
use Rattle.enc_merge.proofs.SomeWeigh.{method_there}

abbrev row_of : Token → ℕ
row_of t = t.row

-- a method of which the PDB has a row
pub record IsChanged (x : Both) (p : PdbHistory) (m : Token) : Type 0 where
  pub table : m.table ≡ tables.method_def
  pub either : is_in_either x.first x.second m ≡ true
  pub changes : changes_debug x p m ≡ true

table_of_row : (table : ℕ) (ns : List ℕ) (m : Token) → lists (map (nth_row table) ns) m ≡ true → m.table ≡ table
table_of_row table [] m there = absurd cc
table_of_row table (n ∷ ns) m there = elim (or_cases (is_token (nth_row table n) m) (lists (map (nth_row table) ns) m) there) [
  | inl here ↦ ap (λ (t : Token). t.table) (sym (same_is (nth_row table n) m here))
  | inr behind ↦ table_of_row table ns m behind
]

changed_at : (x : Both) (p : PdbHistory) (k : ℕ) (m : Token) → slice_get (methods_changed x p) k ≡ Some m → IsChanged x p m
unfolding methods_listed
changed_at x p k m at =
    let a = filtered (changes_debug x p) (methods_listed x.chain x.first x.second) m (at_place (methods_changed x p) k m at) in
    let b = filtered (is_in_either x.first x.second) (map (nth_row tables.method_def) (below (methods_after x))) m a.0 in
    record { table = table_of_row tables.method_def (below (methods_after x)) m b.0; either = b.1; changes = a.1 }

-- and each such method stands at a place
pub record StandsAt (ts : List Token) (m : Token) : Type 0 where
  pub place : ℕ
  pub here : slice_get ts place ≡ Some m

place_of : (ts : List Token) (m : Token) → lists ts m ≡ true → StandsAt ts m
place_of ts m there =
    let r = one_of_some (λ (t : Token). is_token t m) ts there in
    record { place = r.0; here = r.1.here ∙ ap (λ (t : Token). Some t) (same_is r.1.element m r.1.passes) }

row_listed : (x : Both) (k : ℕ) → k < methods_after x → lists (map (nth_row tables.method_def) (below (methods_after x))) (nth_row tables.method_def k) ≡ true
row_listed x k lt = at_place (map (nth_row tables.method_def) (below (methods_after x))) k (nth_row tables.method_def k) (get_below (nth_row tables.method_def) (methods_after x) k lt)

stands_at : (h : History) (x : Both) (p : PdbHistory) (m : Token) → AreLast h x → IsChanged x p m → StandsAt (methods_changed x p) m
unfolding methods_listed
stands_at h x p m are is =
    let row = method_of_either h x m are is.either in
    let r = row_of_def m is.table row.low in
    let high : m.row ≤ methods_after x = subst (λ (t : ℕ). m.row ≤ rows_before (chain_of_both x) t) is.table row.high in
    let there : lists (map (nth_row tables.method_def) (below (methods_after x))) m ≡ true = subst (λ (t : Token). lists (map (nth_row tables.method_def) (below (methods_after x))) t ≡ true) r.1.1 (row_listed x r.0 (omega (arith, r.1.0, high))) in
    place_of (methods_changed x p) m
    (still_listed (changes_debug x p) (methods_listed x.chain x.first x.second) m (still_listed (is_in_either x.first x.second) (map (nth_row tables.method_def) (below (methods_after x))) m there is.either) is.changes)

-- the rows of the methods rise
def_numbers : (p : Token → Bool) (s n t : ℕ) → stands_in (map row_of (rows_from p s n)) t ≡ true → stands_in (map number_of (rows_from p s n)) (tables.method_def * 0x1000000 + t) ≡ true
def_numbers p s zero t there = absurd cc
def_numbers p s (suc n) t there = by (p (nth_row tables.method_def s)) there (def_numbers p (s + 1) n t)
  where
    by : (b : Bool) → stands_in (map row_of (if b then nth_row tables.method_def s ∷ rows_from p (s + 1) n else rows_from p (s + 1) n)) t ≡ true
        → (stands_in (map row_of (rows_from p (s + 1) n)) t ≡ true → stands_in (map number_of (rows_from p (s + 1) n)) (tables.method_def * 0x1000000 + t) ≡ true)
        → stands_in (map number_of (if b then nth_row tables.method_def s ∷ rows_from p (s + 1) n else rows_from p (s + 1) n)) (tables.method_def * 0x1000000 + t) ≡ true
    by false there later = later there
    by true there later = elim (or_cases (s + 1 == t) (stands_in (map row_of (rows_from p (s + 1) n)) t) there) [
      | inl here ↦
          let same : s + 1 ≡ t = eqb-true (s + 1) t here in
          let e : (number_of (nth_row tables.method_def s) == tables.method_def * 0x1000000 + t) ≡ true = grind (arith, nat_tests, same) in
          or_left (number_of (nth_row tables.method_def s) == tables.method_def * 0x1000000 + t) (stands_in (map number_of (rows_from p (s + 1) n)) (tables.method_def * 0x1000000 + t)) e
      | inr behind ↦ or_right (number_of (nth_row tables.method_def s) == tables.method_def * 0x1000000 + t) (stands_in (map number_of (rows_from p (s + 1) n)) (tables.method_def * 0x1000000 + t)) (later behind)
    ]

rows_up : (p : Token → Bool) (s n : ℕ) → Rises (map number_of (rows_from p s n)) → Rises (map row_of (rows_from p s n))
rows_up p s zero up = tt
rows_up p s (suc n) up = by (p (nth_row tables.method_def s)) up (rows_up p (s + 1) n)
  where
    by : (b : Bool) → Rises (map number_of (if b then nth_row tables.method_def s ∷ rows_from p (s + 1) n else rows_from p (s + 1) n)) → (Rises (map number_of (rows_from p (s + 1) n)) → Rises (map row_of (rows_from p (s + 1) n)))
        → Rises (map row_of (if b then nth_row tables.method_def s ∷ rows_from p (s + 1) n else rows_from p (s + 1) n))
    by false up later = later up
    by true up later = ((λ t there. omega (arith, up.0 (tables.method_def * 0x1000000 + t) (def_numbers p (s + 1) n t there))), later up.1)

changed_rise : (x : Both) (p : PdbHistory) → Rises (map row_of (methods_changed x p))
unfolding methods_listed below
changed_rise x p =
    let a = is_in_either x.first x.second in
    let q = changes_debug x p in
    subst (λ (ts : List Token). Rises (map row_of ts)) (sym (filtered_twice a q (map (nth_row tables.method_def) (range_with_len 0 (methods_after x)))))
    (rows_up (both a q) 0 (methods_after x) (rows_rise (both a q) 0 (methods_after x)))

-- so no token stands behind its place
number_at : (ns : List ℕ) (k r : ℕ) → slice_get ns k ≡ Some r → stands_in ns r ≡ true
number_at [] k r at = absurd cc
number_at (n ∷ ns) zero r at = let same : n ≡ r = cc in or_left (n == r) (stands_in ns r) (grind (arith, nat_tests, same))
number_at (n ∷ ns) (suc k) r at = or_right (n == r) (stands_in ns r) (number_at ns k r at)

none_behind : (ns : List ℕ) (k r : ℕ) → Rises ns → slice_get ns k ≡ Some r → list_any (λ (n : ℕ). nat_le r n) (take k ns) ≡ false
none_behind [] zero r up at = refl
none_behind [] (suc k) r up at = refl
none_behind (n ∷ ns) zero r up at = refl
none_behind (n ∷ ns) (suc k) r up at =
    let low = up.0 r (number_at ns k r at) in
    let first : nat_le r n ≡ false = grind (arith, nat_tests, low) in
    rw (first, none_behind ns k r up.1 at) refl

behind_by_rows : (ts : List Token) (k r : ℕ) → list_any (λ (t : Token). nat_le r t.row) (take k ts) ≡ list_any (λ (n : ℕ). nat_le r n) (take k (map row_of ts))
behind_by_rows [] zero r = refl
behind_by_rows [] (suc k) r = refl
behind_by_rows (t ∷ ts) zero r = refl
behind_by_rows (t ∷ ts) (suc k) r = ap (λ b. nat_le r t.row || b) (behind_by_rows ts k r)

-- the size of a method's code among those of a delta's methods
size_at : (ts : List Token) (size_of : Token → ℕ) (t m : Token) → names_method m t ≡ true → lists ts m ≡ true → size_for (map (λ (u : Token). (u, size_of u)) ts) t ≡ Some (size_of m)
unfolding size_for
size_at [] size_of t m names there = absurd cc
size_at (u ∷ ts) size_of t m names there = by (names_method u t) refl (λ later. size_at ts size_of t m names later)
  where
    by : (b : Bool) → names_method u t ≡ b → (lists ts m ≡ true → size_for (map (λ (v : Token). (v, size_of v)) ts) t ≡ Some (size_of m))
        → (if b then Some (size_of u) else size_for (map (λ (v : Token). (v, size_of v)) ts) t) ≡ Some (size_of m)
    by true is later = ap (λ (v : Token). Some (size_of v)) (named_same m u t names is)
    by false is later = elim (or_cases (is_token u m) (lists ts m) there) [
      | inl here ↦ let same : names_method u t ≡ true = ap (λ (v : Token). names_method v t) (same_is u m here) ∙ names in absurd (cc)
      | inr behind ↦ later behind
    ]

-- where no place below n answers, none is least
none_least : (rule : ℕ → Option ℕ) (n : ℕ) → ((k : ℕ) → k < n → rule k ≡ None) → least_below rule n ≡ None
unfolding least_below
none_least rule zero none = refl
none_least rule (suc n) none = rw (none_least rule n (λ k lt. none k (omega (arith, lt))), none n (omega arith)) refl

not_misplaced : (s : Source) (sizes : List (Token × ℕ)) (k : ℕ) (o : Option Token) → ((t : Token) → o ≡ Some t → is_misplaced s sizes k t ≡ false) → option_and_then (λ (token : Token). misplaced_if (is_misplaced s sizes k token) token) o ≡ None
not_misplaced s sizes k None none = refl
not_misplaced s sizes k (Some t) none = ap (λ b. misplaced_if b t) (none t refl)

no_test : (a b : Bool) → a ≡ false → b ≡ false → (a || b) ≡ false
no_test true b x y = absurd cc
no_test false b x y = y

-- one of four tests
first_of_four : (a b c d : Bool) → a ≡ true → (a || b || c || d) ≡ true
first_of_four true b c d is = refl
first_of_four false b c d is = absurd cc

second_of_four : (a b c d : Bool) → b ≡ true → (a || b || c || d) ≡ true
second_of_four true b c d is = refl
second_of_four false true c d is = refl
second_of_four false false c d is = absurd cc

third_of_four : (a b c d : Bool) → c ≡ true → (a || b || c || d) ≡ true
third_of_four true b c d is = refl
third_of_four false true c d is = refl
third_of_four false false true d is = refl
third_of_four false false false d is = absurd cc

fourth_of_four : (a b c d : Bool) → d ≡ true → (a || b || c || d) ≡ true
fourth_of_four true b c d is = refl
fourth_of_four false true c d is = refl
fourth_of_four false false true d is = refl
fourth_of_four false false false d is = is

-- a method of which neither delta says anything
record IsUntouched (first second : DebugDelta) (m : Token) : Type 0 where
  row_second : delta_row second.pdb m ≡ None
  none_second : list_any (is_token m) second.changed ≡ false
  row_first : delta_row first.pdb m ≡ None
  none_first : list_any (is_token m) first.changed ≡ false

-- a method by the row of a token
names_by : (m t : Token) → m.table ≡ tables.method_def → t.row ≡ m.row → names_method m t ≡ true
names_by m t table row =
    let a : (m.table == tables.method_def) ≡ true = grind (arith, nat_tests, table) in
    let b : (t.row == m.row) ≡ true = grind (arith, nat_tests, row) in
    rw (a, b) refl

module _ (h : History) (p : PdbHistory) (x : Both) (bytes : List ℕ) (first second : DebugDelta) (older : List DebugDelta) (s : Source) (are : AreLast h x) (deltas : p.deltas ≡ second ∷ first ∷ older)
    (goes_second : GoesWith x.second second) (goes_first : GoesWith x.first first) (said : IsPdbOfBoth x p bytes) (says : SaysMerged x.chain x.first x.second s) where
  -- what is known after both, by what each says
  known_after : (m : Token) → pdb_with p.base p.deltas m ≡ debug_or (delta_row second.pdb m) (has_changed second.changed m (debug_or (delta_row first.pdb m) (has_changed first.changed m (pdb_with p.base older m))))
  unfolding pdb_with pdb_changed
  known_after m = ap (λ (ds : List DebugDelta). pdb_with p.base ds m) deltas

  listed_too : (m : Token) → is_in_either x.first x.second m ≡ true → is_in_map s m ≡ true
  listed_too m either = says.tokens m ∙ either

  -- its points are in the code that the merged delta has
  in_second : (m : Token) (d : MethodDebug) → m.table ≡ tables.method_def → is_in_either x.first x.second m ≡ true → is_in_map x.second m ≡ true → lie_below (code_size (new_code x.second m)) d ≡ true → lie_below (code_size (new_code s m)) d ≡ true
  in_second m d table either there low =
      subst (λ n. lie_below n d ≡ true) (sym (code_of_second h x s m are says table (listed_too m either) there).size) low

  in_first : (m : Token) (d : MethodDebug) → m.table ≡ tables.method_def → is_in_either x.first x.second m ≡ true → list_any (is_token m) second.changed ≡ false → is_in_map x.first m ≡ true → lie_below (code_size (new_code x.first m)) d ≡ true
      → lie_below (code_size (new_code s m)) d ≡ true
  in_first m d table either unchanged there low = by (is_in_map x.second m) refl
    where
      none : is_some (new_code x.second m) ≡ false
      none = no_new x.second m table (ap (list_any (is_token m)) (sym goes_second.changed) ∙ unchanged)

      no_first : is_in_map x.second m ≡ true → (o : Option _) → new_code x.first m ≡ o → code_size o ≡ 0
      no_first there_too None is = refl
      no_first there_too (Some k) is = let e : true ≡ false = sym (code_lasts h x m are table there there_too (ap is_some is)) ∙ none in absurd (cc)

      by : (b : Bool) → is_in_map x.second m ≡ b → lie_below (code_size (new_code s m)) d ≡ true
      by false is = subst (λ n. lie_below n d ≡ true) (sym (code_of_first h x s m are says table (listed_too m either) is there).size) low
      by true is = none_below d (code_size (new_code s m)) (subst (λ n. lie_below n d ≡ true) (no_first is (new_code x.first m) refl) low)

  nothing_new : (m : Token) → m.table ≡ tables.method_def → delta_row second.pdb m ≡ None → list_any (is_token m) second.changed ≡ false → delta_row first.pdb m ≡ None → list_any (is_token m) first.changed ≡ false → changes_debug x p m ≡ false
  unfolding changes_debug is_named_by
  nothing_new m table row_second none_second row_first none_first =
      let a = no_new x.second m table (ap (list_any (is_token m)) (sym goes_second.changed) ∙ none_second) in
      let b = no_new x.first m table (ap (list_any (is_token m)) (sym goes_first.changed) ∙ none_first) in
      rw (a, b, deltas, row_second, row_first) refl

  points_in_code : (m : Token) → IsChanged x p m → lie_below (code_size (new_code s m)) (pdb_with p.base p.deltas m) ≡ true
  points_in_code m is = ap (lie_below (code_size (new_code s m))) (known_after m)
      ∙ by (delta_row second.pdb m) refl (list_any (is_token m) second.changed) refl (delta_row first.pdb m) refl (list_any (is_token m) first.changed) refl
    where
      by : (a : Option (Source × Token)) → delta_row second.pdb m ≡ a → (b : Bool) → list_any (is_token m) second.changed ≡ b → (c : Option (Source × Token)) → delta_row first.pdb m ≡ c → (d : Bool) → list_any (is_token m) first.changed ≡ d
          → lie_below (code_size (new_code s m)) (debug_or a (if b then unknown else debug_or c (if d then unknown else pdb_with p.base older m))) ≡ true
      by (Some place) row b new c named d newer = let n = is_named x.second second m place goes_second row in in_second m (debug_at (Some place)) is.table is.either n.there n.below
      by None row true new c named d newer = refl
      by None row false new (Some place) named d newer = let n = is_named x.first first m place goes_first named in in_first m (debug_at (Some place)) is.table is.either new n.there n.below
      by None row false new None named true newer = refl
      by None row false new None named false newer = let e : true ≡ false = sym is.changes ∙ nothing_new m is.table row new named newer in absurd (cc)

  -- the k-th row is that of the k-th method
  rows_many : length (map row_of (methods_changed x p)) ≡ length (methods_changed x p)
  rows_many = length-map (methods_changed x p) row_of

  row_says : (k : ℕ) (m : Token) → slice_get (methods_changed x p) k ≡ Some m → debug_at (Some (said.source, nth_row tables.method_debug_information k)) ≡ pdb_with p.base p.deltas m
  row_says k m at =
      said.says k (omega (arith, rows_many, slice_get_within (methods_changed x p) k m at)) ∙ ap (pdb_with p.base p.deltas) (method_there (methods_changed x p) k m at)

  method_of_token : (k : ℕ) (t : Token) → slice_get (named_tokens said.source) k ≡ Some t → (m : Token) × ((slice_get (methods_changed x p) k ≡ Some m) × (t.row ≡ m.row))
  method_of_token k t at =
      let row : option_map row_of (slice_get (methods_changed x p) k) ≡ Some t.row =
      sym (slice_get-map row_of (methods_changed x p) k) ∙ ap (λ (ns : List ℕ). slice_get ns k) (sym said.named) ∙ slice_get-map row_of (named_tokens said.source) k ∙ ap (option_map row_of) at in
      by (slice_get (methods_changed x p) k) refl row
    where
      by : (o : Option Token) → slice_get (methods_changed x p) k ≡ o → option_map row_of o ≡ Some t.row → (m : Token) × ((slice_get (methods_changed x p) k ≡ Some m) × (t.row ≡ m.row))
      by None is row = absurd cc
      by (Some m) is row = let same : m.row ≡ t.row = cc in (m, (is, sym same))

  token_of_method : (k : ℕ) (m : Token) → slice_get (methods_changed x p) k ≡ Some m → (t : Token) × ((slice_get (named_tokens said.source) k ≡ Some t) × (t.row ≡ m.row))
  token_of_method k m at =
      let row : option_map row_of (slice_get (named_tokens said.source) k) ≡ Some m.row =
      sym (slice_get-map row_of (named_tokens said.source) k) ∙ ap (λ (ns : List ℕ). slice_get ns k) said.named ∙ slice_get-map row_of (methods_changed x p) k ∙ ap (option_map row_of) at in
      by (slice_get (named_tokens said.source) k) refl row
    where
      by : (o : Option Token) → slice_get (named_tokens said.source) k ≡ o → option_map row_of o ≡ Some m.row → (t : Token) × ((slice_get (named_tokens said.source) k ≡ Some t) × (t.row ≡ m.row))
      by None is row = absurd cc
      by (Some t) is row = let same : t.row ≡ m.row = cc in (t, (is, same))

  -- it goes with the delta
  in_place : (k : ℕ) (t : Token) → slice_get (named_tokens said.source) k ≡ Some t → is_misplaced said.source (code_sizes s) k t ≡ false
  unfolding is_misplaced code_sizes
  in_place k t at =
      let r = method_of_token k t at in
      let m = r.0 in
      let is = changed_at x p k m r.1.0 in
      let row = nth_row tables.method_debug_information k in
      let named : slice_get (map row_of (methods_changed x p)) k ≡ Some t.row =
      ap (λ (ns : List ℕ). slice_get ns k) (sym said.named) ∙ slice_get-map row_of (named_tokens said.source) k ∙ ap (option_map row_of) at in
      let behind : is_behind (take k (named_tokens said.source)) t ≡ false =
      behind_by_rows (named_tokens said.source) k t.row ∙ ap (λ (ns : List ℕ). list_any (λ (n : ℕ). nat_le t.row n) (take k ns)) said.named ∙ none_behind (map row_of (methods_changed x p)) k t.row (changed_rise x p) named in
      let own : lists (own_methods s) m ≡ true = of_own_table tables.method_def (listed s) m (listed_too m is.either) is.table in
      let size = size_at (own_methods s) (λ (u : Token). code_size (new_code s u)) t m (names_by m t is.table r.1.1) own in
      let low : lie_below (code_size (new_code s m)) (debug_at (Some (said.source, row))) ≡ true = ap (lie_below (code_size (new_code s m))) (row_says k m r.1.0) ∙ points_in_code m is in
      let stray = stray_by (documents_at (Some (said.source, row))) (code_size (new_code s m)) (points_of said.source row) (ap (lie_below (code_size (new_code s m))) (sym (known_is said.source row)) ∙ low) in
      no_test _ _ behind (ap (λ (o : Option ℕ). is_stray o (points_of said.source row)) size ∙ stray)

  pub none_misplaced : first_misplaced said.source (code_sizes s) ≡ None
  unfolding first_misplaced misplaced_row
  none_misplaced =
      ap (option_map debug_token) (none_least _ (length (named_tokens said.source)) (λ k lt.
      not_misplaced said.source (code_sizes s) k (slice_get (named_tokens said.source) k) (λ t at. in_place k t at)))

  -- a method whose points have several documents has Document nil
  pub several_nil : (k : ℕ) (t : Token) → slice_get (named_tokens said.source) k ≡ Some t → IsNilOverSeveral (debug_at (Some (said.source, nth_row tables.method_debug_information k))).points (document_told said.source k)
  several_nil k t at =
      let r = method_of_token k t at in
      let lt : k < length (map row_of (methods_changed x p)) = omega (arith, rows_many, slice_get_within (methods_changed x p) k r.0 r.1.0) in
      subst (λ (d : MethodDebug). IsNilOverSeveral d.points (document_told said.source k)) (sym (said.says k lt)) (said.several k lt)

  -- where neither says anything of a method, the merged delta doesn't either
  changes_by_row_of_second : (m : Token) (place : Source × Token) → delta_row second.pdb m ≡ Some place → changes_debug x p m ≡ true
  unfolding changes_debug is_named_by
  changes_by_row_of_second m place row =
      let named : is_named_by (slice_get p.deltas 0) m ≡ true = ap (λ (ds : List DebugDelta). is_named_by (slice_get ds 0) m) deltas ∙ ap is_some row in
      third_of_four (is_some (new_code x.second m)) (is_some (new_code x.first m)) (is_named_by (slice_get p.deltas 0) m) (is_named_by (slice_get p.deltas 1) m) named

  changes_by_row_of_first : (m : Token) (place : Source × Token) → delta_row first.pdb m ≡ Some place → changes_debug x p m ≡ true
  unfolding changes_debug is_named_by
  changes_by_row_of_first m place row =
      let named : is_named_by (slice_get p.deltas 1) m ≡ true = ap (λ (ds : List DebugDelta). is_named_by (slice_get ds 1) m) deltas ∙ ap is_some row in
      fourth_of_four (is_some (new_code x.second m)) (is_some (new_code x.first m)) (is_named_by (slice_get p.deltas 0) m) (is_named_by (slice_get p.deltas 1) m) named

  changes_by_code_of_second : (m : Token) → is_some (new_code x.second m) ≡ true → changes_debug x p m ≡ true
  unfolding changes_debug
  changes_by_code_of_second m some = first_of_four (is_some (new_code x.second m)) (is_some (new_code x.first m)) (is_named_by (slice_get p.deltas 0) m) (is_named_by (slice_get p.deltas 1) m) some

  changes_by_code_of_first : (m : Token) → is_some (new_code x.first m) ≡ true → changes_debug x p m ≡ true
  unfolding changes_debug
  changes_by_code_of_first m some = second_of_four (is_some (new_code x.second m)) (is_some (new_code x.first m)) (is_named_by (slice_get p.deltas 0) m) (is_named_by (slice_get p.deltas 1) m) some

  has_row : (m : Token) → position (names_method m) (named_tokens said.source) ≡ None → IsChanged x p m → ⊥
  has_row m none is =
      let at = stands_at h x p m are is in
      let r = token_of_method at.place m at.here in
      let some = some_by_one (names_method m) (named_tokens said.source) at.place r.0 r.1.0 (names_by m r.0 is.table r.1.1) in
      let e : true ≡ false = sym some ∙ sym (position_any (names_method m) (named_tokens said.source)) ∙ ap is_some none in
      absurd (cc)

  by_second : (m : Token) → is_in_map x.second m ≡ true → is_in_either x.first x.second m ≡ true
  by_second m there = or_right (is_in_map x.first m) (is_in_map x.second m) there

  by_first : (m : Token) → is_in_map x.first m ≡ true → is_in_either x.first x.second m ≡ true
  by_first m there = or_left (is_in_map x.first m) (is_in_map x.second m) there

  untouched : (m : Token) → position (names_method m) (named_tokens said.source) ≡ None → IsUntouched first second m
  untouched m none = record {
    row_second = row_of_second (delta_row second.pdb m) refl;
    none_second = new_of_second (list_any (is_token m) second.changed) refl;
    row_first = row_of_first (delta_row first.pdb m) refl;
    none_first = new_of_first (list_any (is_token m) first.changed) refl;
  }
    where
      row_of_second : (o : Option (Source × Token)) → delta_row second.pdb m ≡ o → o ≡ None
      row_of_second None is = refl
      row_of_second (Some place) is =
          let n = is_named x.second second m place goes_second is in
          absurd (has_row m none (record { table = n.table; either = by_second m n.there; changes = changes_by_row_of_second m place is }))

      row_of_first : (o : Option (Source × Token)) → delta_row first.pdb m ≡ o → o ≡ None
      row_of_first None is = refl
      row_of_first (Some place) is =
          let n = is_named x.first first m place goes_first is in
          absurd (has_row m none (record { table = n.table; either = by_first m n.there; changes = changes_by_row_of_first m place is }))

      new_of_second : (b : Bool) → list_any (is_token m) second.changed ≡ b → b ≡ false
      new_of_second false is = refl
      new_of_second true is =
          let n = has_new x.second m (ap (list_any (is_token m)) (sym goes_second.changed) ∙ is) in
          absurd (has_row m none (record { table = n.table; either = by_second m n.there; changes = changes_by_code_of_second m n.some }))

      new_of_first : (b : Bool) → list_any (is_token m) first.changed ≡ b → b ≡ false
      new_of_first false is = refl
      new_of_first true is =
          let n = has_new x.first m (ap (list_any (is_token m)) (sym goes_first.changed) ∙ is) in
          absurd (has_row m none (record { table = n.table; either = by_first m n.there; changes = changes_by_code_of_first m n.some }))

  still_old : (m : Token) → IsUntouched first second m → list_any (is_token m) (new_bodies s) ≡ false
  still_old m is = by (list_any (is_token m) (new_bodies s)) refl
    where
      in_newest : HasNew s m → (a b : Bool) → is_in_map x.first m ≡ a → is_in_map x.second m ≡ b → (a || b) ≡ true → ⊥
      in_newest n a true there_first there either =
          let some = new_by_code x.second m n.table (sym (code_of_second h x s m are says n.table n.there there).some ∙ n.some) in
          let e : true ≡ false = sym some ∙ ap (list_any (is_token m)) (sym goes_second.changed) ∙ is.none_second in
          absurd (cc)
      in_newest n true false there_first there either =
          let some = new_by_code x.first m n.table (sym (code_of_first h x s m are says n.table n.there there there_first).some ∙ n.some) in
          let e : true ≡ false = sym some ∙ ap (list_any (is_token m)) (sym goes_first.changed) ∙ is.none_first in
          absurd (cc)
      in_newest n false false there_first there either = absurd cc

      by : (b : Bool) → list_any (is_token m) (new_bodies s) ≡ b → b ≡ false
      by false new = refl
      by true new =
          let n = has_new s m new in
          absurd (in_newest n (is_in_map x.first m) (is_in_map x.second m) refl refl (sym (says.tokens m) ∙ n.there))

  -- what is known with the merged delta is what is known with both
  pub same_debug : (m : Token) → pdb_changed (pdb_with p.base older) (record { pdb = Some said.source; changed = new_bodies s }) m ≡ pdb_with p.base p.deltas m
  unfolding pdb_changed row_for
  same_debug m = by (position (names_method m) (named_tokens said.source)) refl
    where
      by : (o : Option ℕ) → position (names_method m) (named_tokens said.source) ≡ o
          → debug_or (row_in_file said.source (option_map (nth_row tables.method_debug_information) o)) (has_changed (new_bodies s) m (pdb_with p.base older m)) ≡ pdb_with p.base p.deltas m
      by (Some k) is =
          let at = first_passes (names_method m) (named_tokens said.source) k is in
          let r = method_of_token k at.element at.here in
          let changed = changed_at x p k r.0 r.1.0 in
          let same : r.0 ≡ m = named_same m r.0 at.element at.passes (names_by r.0 at.element changed.table r.1.1) in
          row_says k r.0 r.1.0 ∙ ap (pdb_with p.base p.deltas) same
      by None is =
          let none = untouched m is in
          let old = still_old m none in
          let kept : pdb_with p.base p.deltas m ≡ pdb_with p.base older m = known_after m ∙ rw (none.row_second, none.none_second, none.row_first, none.none_first) refl in
          ap (λ (b : Bool). if b then unknown else pdb_with p.base older m) old ∙ sym kept
