-- What a PDB that goes with a delta says of the delta's methods: points in their code.
use Rattle.std.proofs.Common.{◌≡◌, ℕ, zero, suc, ◌<◌, Bool, true, false, List, [], ◌∷◌, length, map, Option, Some, None, refl, sym, ap, ◌∙◌, subst, inl, inr, arith}
use Rattle.std.specs.Prelude.{◌||◌, ◌==◌, filter, is_some, nat_le, nat_lt, option_map, position, unwrap_or, if◌then◌else◌, slice_get}
use Rattle.std.specs.List.{list_all, list_any}
use Rattle.std.proofs.lemmas.Bool.{and_from, and_parts, cases_lt, eqb-true, or_cases, or_left, or_right}
use Rattle.std.proofs.lemmas.Bool.Decides.{nat_tests}
use Rattle.std.proofs.lemmas.Option.{slice_get_within}
use Rattle.enc_base.specs.Token.{is_token, nth_row}
use Rattle.enc_base.specs.declared.token.Token.{Token}
use Rattle.enc_rows.specs.Source.{Source}
use Rattle.enc_base.specs.Tables as tables
use Rattle.enc_seqpoints.specs.Grammar.{MethodPoints, method_points}
use Rattle.enc_seqpoints.specs.declared.point.Point.{Point}
use Rattle.enc_plain.proofs.Applied.{same_is}
use Rattle.enc_plain.specs.Debug.{Document, MethodDebug, PlainPoint, debug_of, plain_point}
use Rattle.enc_delta.specs.Delta.{listed, of_table}
use Rattle.enc_ppdb.specs.Fault.{named_tokens}
use Rattle.enc_ppdb.specs.Misplaced.{debug_token, first_misplaced, is_misplaced, is_stray, least_below, lesser_of, misplaced_if, misplaced_row, size_for}
use Rattle.enc_ppdb.specs.Pdb.{points_of}
use Rattle.enc_ppdb.specs.PdbChain.{DebugDelta, debug_at, delta_row, documents_at, points_at, row_in_file}
use Rattle.enc_ppdb.specs.Points.{names_method, row_for}
use Rattle.enc_pdb_writer.proofs.Lists.{PassesAt, first_passes}
use Rattle.enc_checker.specs.Check.{code_size, code_sizes, new_bodies, new_code, own_methods}
use Rattle.enc_merged_delta.specs.Merged.{is_in_map}
use Rattle.enc_merged_delta.proofs.Among.{lists, self}
use Rattle.enc_chain.specs.Goes.{GoesWith, PdbGoes}
use Rattle.enc_merge.proofs.CodeOfBoth.{no_code}

-- each point is below a size
abbrev pub lie_below : ℕ → MethodDebug → Bool
lie_below size d = list_all (λ (p : PlainPoint). nat_lt p.offset size) d.points

-- no point below nothing
pub none_below : (d : MethodDebug) (size : ℕ) → lie_below 0 d ≡ true → lie_below size d ≡ true
none_below d size low = by d.points low
  where
    by : (points : List PlainPoint) → list_all (λ (p : PlainPoint). nat_lt p.offset 0) points ≡ true → list_all (λ (p : PlainPoint). nat_lt p.offset size) points ≡ true
    by [] low = refl
    by (p ∷ points) low = absurd (no_offset p.offset (and_parts (nat_lt p.offset 0) (list_all (λ (q : PlainPoint). nat_lt q.offset 0) points) low).0)
      where
        no_offset : (n : ℕ) → nat_lt n 0 ≡ true → ⊥
        no_offset n low = grind (arith, nat_tests, low)

-- points of a file in code, and the same points in plain form
one_below : (p : Point) (size : ℕ) → nat_le size p.offset ≡ false → nat_lt p.offset size ≡ true
one_below p size low = grind (arith, nat_tests, low)

not_past : (p : Point) (size : ℕ) → nat_lt p.offset size ≡ true → nat_le size p.offset ≡ false
not_past p size low = grind (arith, nat_tests, low)

neither_side : (a b : Bool) → (a || b) ≡ false → (a ≡ false) × (b ≡ false)
neither_side true b h = absurd cc
neither_side false b h = (refl, h)

points_below : (documents : ℕ → Option Document) (size : ℕ) (points : List Point) → list_any (λ (p : Point). nat_le size p.offset) points ≡ false
    → list_all (λ (p : PlainPoint). nat_lt p.offset size) (map (plain_point documents) points) ≡ true
points_below documents size [] none = refl
points_below documents size (p ∷ points) none =
    let both = neither_side (nat_le size p.offset) (list_any (λ (q : Point). nat_le size q.offset) points) none in
    and_from (nat_lt p.offset size) _ (one_below p size both.0) (points_below documents size points both.1)

pub none_past : (documents : ℕ → Option Document) (size : ℕ) (points : List Point) → list_all (λ (p : PlainPoint). nat_lt p.offset size) (map (plain_point documents) points) ≡ true
    → list_any (λ (p : Point). nat_le size p.offset) points ≡ false
none_past documents size [] low = refl
none_past documents size (p ∷ points) low =
    let both = and_parts (nat_lt p.offset size) (list_all (λ (q : PlainPoint). nat_lt q.offset size) (map (plain_point documents) points)) low in
    rw (not_past p size both.0, none_past documents size points both.1) refl

-- what is known by a row
pub known_is : (s : Source) (row : Token) → debug_at (Some (s, row)) ≡ debug_of (documents_at (Some (s, row))) (unwrap_or (points_of s row) (method_points 0 []))
unfolding debug_at points_at
known_is s row = refl

below_by : (documents : ℕ → Option Document) (size : ℕ) (o : Option MethodPoints) → is_stray (Some size) o ≡ false → lie_below size (debug_of documents (unwrap_or o (method_points 0 []))) ≡ true
unfolding debug_of
below_by documents size None good = refl
below_by documents size (Some m) good = points_below documents size m.points good

pub stray_by : (documents : ℕ → Option Document) (size : ℕ) (o : Option MethodPoints) → lie_below size (debug_of documents (unwrap_or o (method_points 0 []))) ≡ true → is_stray (Some size) o ≡ false
unfolding debug_of
stray_by documents size None low = refl
stray_by documents size (Some m) low = none_past documents size m.points low

-- where none is misplaced, no row is
some_never : (b : Bool) (n m : ℕ) → (if b then Some n else Some m) ≡ None → ⊥
some_never true n m h = absurd cc
some_never false n m h = absurd cc

neither : (a b : Option ℕ) → lesser_of a b ≡ None → (a ≡ None) × (b ≡ None)
neither None b h = (refl, h)
neither (Some n) None h = absurd cc
neither (Some n) (Some m) h = absurd (some_never (nat_le n m) n m h)

silent_at : (rule : ℕ → Option ℕ) (n k : ℕ) → least_below rule n ≡ None → k < n → rule k ≡ None
unfolding least_below
silent_at rule zero k h lt = absurd (omega (arith, lt))
silent_at rule (suc n) k h lt =
    let both = neither (least_below rule n) (rule n) h in
    elim (cases_lt k n) [
      | inl less ↦ silent_at rule n k both.0 less
      | inr past ↦ let e : n ≡ k = omega (arith, lt, past) in rw e at both.1
    ]

none_mapped : {A B : Type 0} (f : A → B) (o : Option A) → option_map f o ≡ None → o ≡ None
none_mapped f None h = refl
none_mapped f (Some x) h = absurd cc

kept : (b : Bool) (t : Token) → misplaced_if b t ≡ None → b ≡ false
kept true t h = absurd cc
kept false t h = refl

not_stray : (p : Source) (sizes : List (Token × ℕ)) (k : ℕ) (t : Token) → first_misplaced p sizes ≡ None → slice_get (named_tokens p) k ≡ Some t
    → is_stray (size_for sizes t) (points_of p (nth_row tables.method_debug_information k)) ≡ false
unfolding first_misplaced misplaced_row is_misplaced
not_stray p sizes k t none there =
    let all = none_mapped debug_token (least_below (misplaced_row p sizes) (length (named_tokens p))) none in
    let row : misplaced_row p sizes k ≡ None = silent_at (misplaced_row p sizes) (length (named_tokens p)) k all (slice_get_within (named_tokens p) k t there) in
    let one : misplaced_if (is_misplaced p sizes k t) t ≡ None = rw there at row in
    (neither_side _ _ (kept (is_misplaced p sizes k t) t one)).1

-- the size of a method's code stands among those of a delta's methods
record IsSized (ts : List Token) (size_of : Token → ℕ) (t : Token) (size : ℕ) : Type 0 where
  method : Token
  there : lists ts method ≡ true
  names : names_method method t ≡ true
  is : size ≡ size_of method

sized_later : (u : Token) (ts : List Token) (size_of : Token → ℕ) (t : Token) (size : ℕ) → IsSized ts size_of t size → IsSized (u ∷ ts) size_of t size
sized_later u ts size_of t size is = record { method = is.method; there = or_right (is_token u is.method) (lists ts is.method) is.there; names = is.names; is = is.is }

sized_by : (ts : List Token) (size_of : Token → ℕ) (t : Token) (size : ℕ) → size_for (map (λ (u : Token). (u, size_of u)) ts) t ≡ Some size → IsSized ts size_of t size
unfolding size_for
sized_by [] size_of t size is = absurd cc
sized_by (u ∷ ts) size_of t size is = by (names_method u t) refl is (λ later. sized_later u ts size_of t size (sized_by ts size_of t size later))
  where
    by : (b : Bool) → names_method u t ≡ b → (if b then Some (size_of u) else size_for (map (λ (v : Token). (v, size_of v)) ts) t) ≡ Some size
        → (size_for (map (λ (v : Token). (v, size_of v)) ts) t ≡ Some size → IsSized (u ∷ ts) size_of t size) → IsSized (u ∷ ts) size_of t size
    by true names is later = record { method = u; there = or_left (is_token u u) (lists ts u) (self u); names = names; is = let e : size_of u ≡ size = cc in sym e }
    by false names is later = later is

-- tokens of methods that one token names are one
pub named_same : (m u t : Token) → names_method m t ≡ true → names_method u t ≡ true → u ≡ m
named_same m u t a b =
    let p = and_parts (m.table == tables.method_def) (t.row == m.row) a in
    let q = and_parts (u.table == tables.method_def) (t.row == u.row) b in
    let table : u.table ≡ m.table = eqb-true u.table tables.method_def q.0 ∙ sym (eqb-true m.table tables.method_def p.0) in
    let row : u.row ≡ m.row = sym (eqb-true t.row u.row q.1) ∙ eqb-true t.row m.row p.1 in
    let whole : record { table = u.table; row = u.row } ≡ record { table = m.table; row = m.row } = rw (table, row) refl in
    whole

-- what stands among those of a list that pass
pub filtered : (q : Token → Bool) (ts : List Token) (u : Token) → lists (filter q ts) u ≡ true → (lists ts u ≡ true) × (q u ≡ true)
filtered q [] u there = absurd cc
filtered q (t ∷ ts) u there = by (q t) refl there (λ later. filtered q ts u later)
  where
    by : (b : Bool) → q t ≡ b → lists (if b then t ∷ filter q ts else filter q ts) u ≡ true → (lists (filter q ts) u ≡ true → (lists ts u ≡ true) × (q u ≡ true)) → (lists (t ∷ ts) u ≡ true) × (q u ≡ true)
    by false is there later = let r = later there in (or_right (is_token t u) (lists ts u) r.0, r.1)
    by true is there later = elim (or_cases (is_token t u) (lists (filter q ts) u) there) [
      | inl here ↦ let same : t ≡ u = same_is t u here in (or_left (is_token t u) (lists ts u) here, ap q (sym same) ∙ is)
      | inr behind ↦ let r = later behind in (or_right (is_token t u) (lists ts u) r.0, r.1)
    ]

pub still_listed : (q : Token → Bool) (ts : List Token) (u : Token) → lists ts u ≡ true → q u ≡ true → lists (filter q ts) u ≡ true
still_listed q [] u there passes = absurd cc
still_listed q (t ∷ ts) u there passes = by (q t) refl (λ later. still_listed q ts u later passes)
  where
    by : (b : Bool) → q t ≡ b → (lists ts u ≡ true → lists (filter q ts) u ≡ true) → lists (if b then t ∷ filter q ts else filter q ts) u ≡ true
    by true is later = elim (or_cases (is_token t u) (lists ts u) there) [
      | inl here ↦ or_left (is_token t u) (lists (filter q ts) u) here
      | inr behind ↦ or_right (is_token t u) (lists (filter q ts) u) (later behind)
    ]
    by false is later = elim (or_cases (is_token t u) (lists ts u) there) [
      | inl here ↦ let same : t ≡ u = same_is t u here in let e : q t ≡ true = ap q same ∙ passes in absurd (cc)
      | inr behind ↦ later behind
    ]

in_table : (table : ℕ) (ts : List Token) (u : Token) → lists (of_table table ts) u ≡ true → (lists ts u ≡ true) × (u.table ≡ table)
in_table table ts u there = let r = filtered (λ (t : Token). t.table == table) ts u there in (r.0, eqb-true u.table table r.1)

pub of_own_table : (table : ℕ) (ts : List Token) (u : Token) → lists ts u ≡ true → u.table ≡ table → lists (of_table table ts) u ≡ true
of_own_table table ts u there is = still_listed (λ (t : Token). t.table == table) ts u there (grind (arith, nat_tests, is))

-- the test of a token both ways
same_flips : (t u : Token) → is_token t u ≡ is_token u t
same_flips t u = by (is_token t u) (is_token u t) refl refl
  where
    by : (a b : Bool) → is_token t u ≡ a → is_token u t ≡ b → a ≡ b
    by true true x y = refl
    by false false x y = refl
    by true false x y = let e : is_token u t ≡ true = ap (is_token u) (same_is t u x) ∙ self u in absurd (cc)
    by false true x y = let e : is_token t u ≡ true = ap (is_token t) (same_is u t y) ∙ self t in absurd (cc)

any_is : (ts : List Token) (u : Token) → list_any (is_token u) ts ≡ lists ts u
any_is [] u = refl
any_is (t ∷ ts) u = rw (same_flips u t, any_is ts u) refl

-- a row of a PDB that goes with a delta: its method is one of the delta's, and its points are in the method's code there
pub record IsNamed (d : Source) (m : Token) (known : MethodDebug) : Type 0 where
  pub table : m.table ≡ tables.method_def
  pub there : is_in_map d m ≡ true
  pub below : lie_below (code_size (new_code d m)) known ≡ true

named_by : (d p : Source) (m : Token) (k : ℕ) (o : Option ℕ) → first_misplaced p (code_sizes d) ≡ None → PassesAt (names_method m) (named_tokens p) k → (t : Token) → slice_get (named_tokens p) k ≡ Some t → names_method m t ≡ true
    → size_for (code_sizes d) t ≡ o → is_stray o (points_of p (nth_row tables.method_debug_information k)) ≡ false → IsNamed d m (debug_at (Some (p, nth_row tables.method_debug_information k)))
unfolding code_sizes
named_by d p m k None none at t there names sized stray = absurd cc
named_by d p m k (Some size) none at t there names sized stray =
    let row = nth_row tables.method_debug_information k in
    let is = sized_by (own_methods d) (λ (u : Token). code_size (new_code d u)) t size sized in
    let same : is.method ≡ m = named_same m is.method t names is.names in
    let own = in_table tables.method_def (listed d) m (ap (lists (own_methods d)) (sym same) ∙ is.there) in
    let big : size ≡ code_size (new_code d m) = is.is ∙ ap (λ (u : Token). code_size (new_code d u)) same in
    record {
      table = own.1;
      there = own.0;
      below = ap (lie_below (code_size (new_code d m))) (known_is p row) ∙ subst (λ n. lie_below n (debug_of (documents_at (Some (p, row))) (unwrap_or (points_of p row) (method_points 0 []))) ≡ true) big
          (below_by (documents_at (Some (p, row))) size (points_of p row) stray);
    }

row_known : (d p : Source) (m : Token) (o : Option ℕ) (place : Source × Token) → first_misplaced p (code_sizes d) ≡ None → position (names_method m) (named_tokens p) ≡ o
    → row_in_file p (option_map (nth_row tables.method_debug_information) o) ≡ Some place → IsNamed d m (debug_at (Some place))
row_known d p m None place none is at = absurd cc
row_known d p m (Some k) place none is at =
    let passes = first_passes (names_method m) (named_tokens p) k is in
    let t = passes.element in
    let here : (p, nth_row tables.method_debug_information k) ≡ place = cc in
    subst (λ (q : Source × Token). IsNamed d m (debug_at (Some q))) here
    (named_by d p m k (size_for (code_sizes d) t) none passes t passes.here passes.passes refl (not_stray p (code_sizes d) k t none passes.here))

pub is_named : (d : Source) (x : DebugDelta) (m : Token) (place : Source × Token) → GoesWith d x → delta_row x.pdb m ≡ Some place → IsNamed d m (debug_at (Some place))
unfolding row_for
is_named d x m place goes at = by x.pdb goes.pdb at
  where
    by : (o : Option Source) → PdbGoes d o → delta_row o m ≡ Some place → IsNamed d m (debug_at (Some place))
    by None goes at = absurd cc
    by (Some p) goes at = row_known d p m (position (names_method m) (named_tokens p)) place goes refl at

-- the methods with new bodies
abbrev has_code : Source → Token → Bool
has_code d t = is_some (new_code d t)

pub record HasNew (d : Source) (m : Token) : Type 0 where
  pub table : m.table ≡ tables.method_def
  pub there : is_in_map d m ≡ true
  pub some : is_some (new_code d m) ≡ true

pub has_new : (d : Source) (m : Token) → list_any (is_token m) (new_bodies d) ≡ true → HasNew d m
unfolding new_bodies
has_new d m there =
    let r = filtered (has_code d) (own_methods d) m (sym (any_is (filter (has_code d) (own_methods d)) m) ∙ there) in
    let own = in_table tables.method_def (listed d) m r.0 in
    record { table = own.1; there = own.0; some = r.1 }

-- a method with code in a delta is listed there, and has a new body
pub listed_by_code : (d : Source) (m : Token) → is_some (new_code d m) ≡ true → is_in_map d m ≡ true
listed_by_code d m some = by (is_in_map d m) refl
  where
    by : (b : Bool) → is_in_map d m ≡ b → b ≡ true
    by true is = refl
    by false is = absurd (let e : true ≡ false = sym some ∙ no_code d m is in cc)

pub new_by_code : (d : Source) (m : Token) → m.table ≡ tables.method_def → is_some (new_code d m) ≡ true → list_any (is_token m) (new_bodies d) ≡ true
unfolding new_bodies
new_by_code d m table some =
    any_is (filter (has_code d) (own_methods d)) m ∙ still_listed (has_code d) (own_methods d) m (of_own_table tables.method_def (listed d) m (listed_by_code d m some) table) some

pub no_new : (d : Source) (m : Token) → m.table ≡ tables.method_def → list_any (is_token m) (new_bodies d) ≡ false → is_some (new_code d m) ≡ false
no_new d m table none = by (is_some (new_code d m)) refl
  where
    by : (b : Bool) → is_some (new_code d m) ≡ b → b ≡ false
    by false is = refl
    by true is = absurd (let e : true ≡ false = sym (new_by_code d m table is) ∙ none in cc)
