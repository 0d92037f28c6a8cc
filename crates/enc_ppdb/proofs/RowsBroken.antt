-- Which row of a delta's PDB doesn't go with its metadata, by the ends of rows and of points.
use Rattle.std.proofs.Common.{◌≡◌, ℕ, suc, ◌+◌, ◌<◌, ◌≤◌, Bool, true, false, List, [], ◌∷◌, ◌++◌, length, take, get_or, Option, Some, None, refl, ap, sym, ◌∙◌, arith}
use Rattle.std.specs.Prelude.{◌||◌, nat_lt, slice_get, option_map, option_and_then, if◌then◌else◌}
use Rattle.std.proofs.lemmas.Bool.Decides.{nat_tests}
use Rattle.std.proofs.lemmas.Option.{slice_get-get_or}
use Rattle.enc_base.specs.Order.{first_below}
use Rattle.enc_base.specs.Token.{nth_row}
use Rattle.enc_base.specs.declared.token.Token.{Token}
use Rattle.enc_base.specs.declared.refusal.Place.TheVariants as place
use Rattle.enc_base.proofs.First.{first_found, first_more}
use Rattle.enc_rows.specs.Layout.{rows_of}
use Rattle.enc_rows.specs.Source.{Source}
use Rattle.enc_rows.proofs.Listed.{get_below, length_below}
use Rattle.enc_base.specs.Tables as tables
use Rattle.enc_seqpoints.specs.declared.point.Point.{Point}
use Rattle.enc_seqpoints.specs.Grammar.{MethodPoints}
use Rattle.enc_ppdb.specs.Pdb.{points_of}
use Rattle.enc_ppdb.specs.Fault.{named_tokens, is_method, method_fault, methods_fault, unless_good, refused_at}
use Rattle.enc_ppdb.specs.Misplaced.{size_for, is_stray, is_behind, is_misplaced, misplaced_if, misplaced_row, lesser_of, least_below}
use Rattle.enc_ppdb.specs.Seen.{end_by, points_end, row_end, row_ends, good_end, is_past_end}
use Rattle.enc_ppdb.proofs.PointsEnd.{any_before_end}
use Rattle.enc_ppdb.proofs.TokensNamed.{map_none, map_more}

before_none : (n : ℕ) → false ≡ nat_lt n 0
before_none n = grind (arith, nat_tests)

stray_is : (size : Option ℕ) (points : Option MethodPoints) → is_stray size points ≡ is_past_end size (points_end points)
stray_is None points = refl
stray_is (Some n) None = before_none n
stray_is (Some n) (Some m) = any_before_end (λ (p : Point). p.offset) n m.points

-- the k-th row's end
end_at : (s : Source) (rows k end : ℕ) → k < rows → slice_get (row_ends s rows) k ≡ Some end → end ≡ points_end (points_of s (nth_row tables.method_debug_information k))
unfolding row_ends row_end
end_at s rows k end lt is = let e = sym is ∙ get_below (row_end s) rows k lt in cc

or_first : (a b : Bool) → a ≡ true → (a || b) ≡ true
or_first a b e = rw e refl

or_second : (a b : Bool) → b ≡ true → (a || b) ≡ true
or_second true b e = refl
or_second false b e = e

or_none : (a b : Bool) → a ≡ false → b ≡ false → (a || b) ≡ false
or_none a b e f = rw (e, f) refl

row_by : (s : Source) (methods : List (Token × ℕ)) (k : ℕ) (token : Token) (b : Bool) → slice_get (named_tokens s) k ≡ Some token → is_misplaced s methods k token ≡ b → misplaced_row s methods k ≡ misplaced_if b token
unfolding misplaced_row
row_by s methods k token b is e =
    ap (option_and_then (λ (t : Token). misplaced_if (is_misplaced s methods k t) t)) is ∙ ap (λ t. misplaced_if t token) e

behind_by : (s : Source) (k row bound : ℕ) (token : Token) → bound ≡ end_by (λ (t : Token). t.row) (take k (named_tokens s)) → is_behind (take k (named_tokens s)) token ≡ nat_lt token.row bound
behind_by s k row bound token e = rw e (any_before_end (λ (t : Token). t.row) token.row (take k (named_tokens s)))

-- it isn't past those before it
pub row_behind : (s : Source) (methods : List (Token × ℕ)) (k bound : ℕ) (token : Token) → slice_get (named_tokens s) k ≡ Some token → bound ≡ end_by (λ (t : Token). t.row) (take k (named_tokens s)) → token.row < bound → misplaced_row s methods k ≡ Some token.row
unfolding is_misplaced
row_behind s methods k bound token is e lt =
    let late : nat_lt token.row bound ≡ true = grind (arith, nat_tests) in
    row_by s methods k token true is (or_first (is_behind (take k (named_tokens s)) token) (is_stray (size_for methods token) (points_of s (nth_row tables.method_debug_information k))) (behind_by s k 0 bound token e ∙ late))

-- its method isn't one of the delta's, or a point is past its code
pub row_stray : (s : Source) (methods : List (Token × ℕ)) (rows k end : ℕ) (token : Token) → slice_get (named_tokens s) k ≡ Some token → k < rows → slice_get (row_ends s rows) k ≡ Some end → is_past_end (size_for methods token) end ≡ true → misplaced_row s methods k ≡ Some token.row
unfolding is_misplaced
row_stray s methods rows k end token is lt at past =
    let e = end_at s rows k end lt at in
    row_by s methods k token true is (or_second (is_behind (take k (named_tokens s)) token) (is_stray (size_for methods token) (points_of s (nth_row tables.method_debug_information k))) (stray_is (size_for methods token) (points_of s (nth_row tables.method_debug_information k)) ∙ sym (ap (is_past_end (size_for methods token)) e) ∙ past))

-- it goes with the delta's methods
pub row_placed : (s : Source) (methods : List (Token × ℕ)) (rows k end bound : ℕ) (token : Token) → slice_get (named_tokens s) k ≡ Some token → k < rows → slice_get (row_ends s rows) k ≡ Some end → bound ≡ end_by (λ (t : Token). t.row) (take k (named_tokens s)) → bound ≤ token.row → is_past_end (size_for methods token) end ≡ false → misplaced_row s methods k ≡ None
unfolding is_misplaced
row_placed s methods rows k end bound token is lt at bounded le past =
    let e = end_at s rows k end lt at in
    let early : nat_lt token.row bound ≡ false = grind (arith, nat_tests) in
    row_by s methods k token false is (or_none (is_behind (take k (named_tokens s)) token) (is_stray (size_for methods token) (points_of s (nth_row tables.method_debug_information k))) (behind_by s k 0 bound token bounded ∙ early) (stray_is (size_for methods token) (points_of s (nth_row tables.method_debug_information k)) ∙ sym (ap (is_past_end (size_for methods token)) e) ∙ past))

pub least_none : (rule : ℕ → Option ℕ) → least_below rule 0 ≡ None
unfolding least_below
least_none rule = refl

least_suc : (rule : ℕ → Option ℕ) (n : ℕ) → least_below rule (suc n) ≡ lesser_of (least_below rule n) (rule n)
unfolding least_below
least_suc rule n = refl

-- of one place more
pub least_more : (rule : ℕ → Option ℕ) (n : ℕ) → least_below rule (n + 1) ≡ lesser_of (least_below rule n) (rule n)
least_more rule n = let e : n + 1 ≡ suc n = omega arith in rw e (least_suc rule n)

-- ends of rows
pub ends_none : (s : Source) → row_ends s 0 ≡ []
unfolding row_ends
ends_none s = map_none (row_end s)

pub ends_more : (s : Source) (n : ℕ) → row_ends s (n + 1) ≡ row_ends s n ++ row_end s n ∷ []
unfolding row_ends
ends_more s n = map_more (row_end s) n

pub ends_step : (s : Source) (n e : ℕ) (ends after : List ℕ) → ends ≡ row_ends s n → e ≡ row_end s n → after ≡ ends ++ e ∷ [] → after ≡ row_ends s (n + 1)
ends_step s n e ends after before is grown = grown ∙ ap (λ l. l ++ e ∷ []) before ∙ ap (λ x. row_ends s n ++ x ∷ []) is ∙ sym (ends_more s n)

pub ends_length : (s : Source) (n : ℕ) → length (row_ends s n) ≡ n
unfolding row_ends
ends_length s n = length_below (row_end s) n

pub all_good : (s : Source) → first_below (method_fault s) (rows_of s.layout tables.method_debug_information) ≡ None → methods_fault s ≡ None
unfolding methods_fault
all_good s none = none

pub least_step : (rule : ℕ → Option ℕ) (n : ℕ) (least row after : Option ℕ) → least ≡ least_below rule n → row ≡ rule n → after ≡ lesser_of least row → after ≡ least_below rule (n + 1)
least_step rule n least row after before is grown = grown ∙ ap (λ o. lesser_of o row) before ∙ ap (lesser_of (least_below rule n)) is ∙ sym (least_more rule n)

good_by : (b : Bool) (end e : ℕ) (row : Token) → (if b then Some end else None) ≡ Some e → (unless_good b row ≡ None) × (e ≡ end)
good_by true end e row is = (refl, cc)
good_by false end e row is = absurd (cc)

bad_by : (b : Bool) (end : ℕ) (row : Token) → (if b then Some end else None) ≡ None → unless_good b row ≡ Some (place.Row row)
bad_by true end row is = absurd (cc)
bad_by false end row is = refl

-- a row with an end is good, and one without is the first that isn't
pub end_good : (s : Source) (n e : ℕ) → Some e ≡ good_end s n → (method_fault s n ≡ None) × (e ≡ row_end s n)
unfolding good_end method_fault
end_good s n e is = good_by (is_method s (nth_row tables.method_debug_information n)) (row_end s n) e (nth_row tables.method_debug_information n) (sym is)

pub end_bad : (s : Source) (n : ℕ) → None ≡ good_end s n → method_fault s n ≡ Some (place.Row (nth_row tables.method_debug_information n))
unfolding good_end method_fault
end_bad s n is = bad_by (is_method s (nth_row tables.method_debug_information n)) (row_end s n) (nth_row tables.method_debug_information n) (sym is)

pub first_bad : (s : Source) (n : ℕ) → first_below (method_fault s) n ≡ None → n < rows_of s.layout tables.method_debug_information → None ≡ good_end s n → option_map refused_at (methods_fault s) ≡ Some (refused_at (place.Row (nth_row tables.method_debug_information n)))
unfolding methods_fault
first_bad s n none lt bad = ap (option_map refused_at) (sym (first_found (method_fault s) (rows_of s.layout tables.method_debug_information) n (Some (place.Row (nth_row tables.method_debug_information n))) lt none (sym (end_bad s n bad)) refl))

pub first_good : (s : Source) (n e : ℕ) → first_below (method_fault s) n ≡ None → Some e ≡ good_end s n → first_below (method_fault s) (n + 1) ≡ None
first_good s n e none good = first_more (method_fault s) n none ∙ (end_good s n e good).0

-- a token and an end as they are kept
pub token_at : (s : Source) (named : List Token) (k : ℕ) (token : Token) → named ≡ named_tokens s → slice_get named k ≡ Some token → slice_get (named_tokens s) k ≡ Some token
token_at s named k token kept is = sym (ap (λ l. slice_get l k) kept) ∙ is

pub read_at : (s : Source) (rows k end : ℕ) (ends : List ℕ) → k < rows → ends ≡ row_ends s rows → end ≡ get_or ends k end → slice_get (row_ends s rows) k ≡ Some end
read_at s rows k end ends lt kept is =
    let long : k < length ends = let e = ap length kept ∙ ends_length s rows in omega (arith, e) in
    sym (ap (λ l. slice_get l k) kept) ∙ slice_get-get_or ends k end long ∙ ap Some (sym is)
