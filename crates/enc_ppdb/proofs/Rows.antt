-- A method's row in a delta's PDB is one of the table's, and so it has points.
use Rattle.std.proofs.Common.{◌≡◌, ℕ, ◌<◌, ◌^◌, Bool, List, true, false, Option, Some, None, length, map, refl, ap, ◌∙◌, sym, arith}
use Rattle.std.proofs.lemmas.Bool.{eqb-true}
use Rattle.std.specs.Prelude.{◌==◌, is_some, position, option_map, option_and_then, Result, Ok, Err, IfOk}
use Rattle.enc_base.specs.Token.{nth_row, is_token}
use Rattle.enc_base.specs.declared.token.Token.{Token}
use Rattle.enc_base.proofs.First.{silent}
use Rattle.enc_rows.specs.Layout.{rows_of}
use Rattle.enc_rows.specs.Source.{Source}
use Rattle.enc_rows.specs.Sums.{below}
use Rattle.std.proofs.lemmas.Bool.Decides.{nat_tests}
use Rattle.enc_base.specs.Tables as tables
use Rattle.enc_seqpoints.specs.Grammar.{MethodPoints}
use Rattle.enc_ppdb.specs.Pdb.{points_of}
use Rattle.enc_ppdb.specs.Fault.{map_token_at, named_tokens, fits_map, all_there, is_method, unless_good, method_fault, methods_fault}
use Rattle.enc_ppdb.specs.Points.{names_method, row_for, delta_points, IsGoodDelta}
use Rattle.enc_ppdb.proofs.Positions.{position_within, position_none, position_same}

there_some : (count : ℕ) (o : Option MethodPoints) → all_there count o ≡ true → is_some o ≡ true
there_some count None e = absurd (cc)
there_some count (Some m) e = refl

pub is_good_row : (t : Bool) (row : Token) → unless_good t row ≡ None → t ≡ true
is_good_row true row e = refl
is_good_row false row e = absurd (cc)

-- each row has points
points_there : (s : Source) (n : ℕ) → methods_fault s ≡ None → n < rows_of s.layout tables.method_debug_information → is_some (points_of s (nth_row tables.method_debug_information n)) ≡ true
unfolding methods_fault method_fault is_method
points_there s n none lt =
    let row = nth_row tables.method_debug_information n in
    let good = is_good_row (is_method s row) row (silent (method_fault s) (rows_of s.layout tables.method_debug_information) n none lt) in
    there_some (rows_of s.layout tables.document) (points_of s row) good

-- as many tokens as rows
pub as_many : (s : Source) → fits_map s ≡ true → length (named_tokens s) ≡ rows_of s.layout tables.method_debug_information
unfolding fits_map
as_many s fits = eqb-true (length (named_tokens s)) (rows_of s.layout tables.method_debug_information) fits

points_by : (s : Source) (o : Option ℕ) → methods_fault s ≡ None → ((k : ℕ) → o ≡ Some k → k < rows_of s.layout tables.method_debug_information) → is_some (option_and_then (points_of s) (option_map (nth_row tables.method_debug_information) o)) ≡ is_some (option_map (nth_row tables.method_debug_information) o)
points_by s None none within = refl
points_by s (Some k) none within = points_there s k none (within k refl)

-- a method has points exactly where it has a row
pub points_where_row : (s : Source) (method : Token) → IsGoodDelta s → is_some (delta_points s method) ≡ is_some (row_for s method)
unfolding delta_points row_for
points_where_row s method good =
    points_by s (position (names_method method) (named_tokens s)) good.rows (λ k e. let lt = position_within (names_method method) (named_tokens s) k e in omega (arith, lt, as_many s good.fits))

by_row : (s : Source) (method row : Token) → IsGoodDelta s → Some row ≡ row_for s method → is_some (points_of s row) ≡ is_some (row_for s method)
unfolding delta_points
by_row s method row good is = ap (λ o. is_some (option_and_then (points_of s) o)) is ∙ points_where_row s method good

-- what is read of the row is there
pub read_there : {E : Type 0} (r : Result (Option MethodPoints) E) (s : Source) (method row : Token) → IsGoodDelta s → Some row ≡ row_for s method → IfOk r (λ o. o ≡ points_of s row) → IfOk r (λ o. is_some o ≡ is_some (row_for s method))
read_there (Ok o) s method row good is e = ap is_some e ∙ by_row s method row good is
read_there (Err f) s method row good is e = e

names_other : (method token : Token) → (method.table ≡ tables.method_def → ⊥) → names_method method token ≡ false
names_other method token h = let e : (method.table == tables.method_def) ≡ false = grind (arith, nat_tests) in rw e refl

-- only methods have rows
pub row_other : (s : Source) (method : Token) → (method.table ≡ tables.method_def → ⊥) → None ≡ row_for s method
unfolding row_for
row_other s method h = sym (ap (option_map (nth_row tables.method_debug_information)) (position_none (names_method method) (named_tokens s) (λ t. names_other method t h)))

same_test : (method token : Token) → method.table ≡ tables.method_def → (token.table == tables.method_debug_information) ≡ true → names_method method token ≡ is_token (record { table = tables.method_debug_information; row = method.row }) token
same_test method token is named =
    let e : (method.table == tables.method_def) ≡ true = grind (arith, nat_tests) in
    let table = eqb-true token.table tables.method_debug_information named in
    let f : (tables.method_debug_information == token.table) ≡ true = grind (arith, nat_tests) in
    let g : (token.row == method.row) ≡ (method.row == token.row) = grind (arith, nat_tests) in
    rw (e, f) g

-- and theirs is found by the token
row_by : (s : Source) (method : Token) (o : Option ℕ) → method.table ≡ tables.method_def → o ≡ position (is_token (record { table = tables.method_debug_information; row = method.row })) (named_tokens s) → option_map (nth_row tables.method_debug_information) o ≡ row_for s method
unfolding row_for named_tokens
row_by s method o is e =
    ap (option_map (nth_row tables.method_debug_information)) (e ∙ sym (position_same (names_method method) (is_token (record { table = tables.method_debug_information; row = method.row })) (λ (t : Token). t.table == tables.method_debug_information) (map (map_token_at s) (below (rows_of s.layout tables.enc_map))) (λ t named. same_test method t is named)))

-- the same by the tokens that are kept
pub row_missing : (s : Source) (method : Token) (named : List Token) → method.table ≡ tables.method_def → named ≡ named_tokens s → None ≡ position (is_token (record { table = tables.method_debug_information; row = method.row })) named → None ≡ row_for s method
row_missing s method named is kept none = row_by s method None is (none ∙ ap (position (is_token (record { table = tables.method_debug_information; row = method.row }))) kept)

pub row_found : (s : Source) (method : Token) (named : List Token) (k : ℕ) → method.table ≡ tables.method_def → named ≡ named_tokens s → Some k ≡ position (is_token (record { table = tables.method_debug_information; row = method.row })) named → Some (nth_row tables.method_debug_information k) ≡ row_for s method
row_found s method named k is kept some = row_by s method (Some k) is (some ∙ ap (position (is_token (record { table = tables.method_debug_information; row = method.row }))) kept)

pub few_rows : (named : List Token) (p : Token → Bool) (k : ℕ) → length named < 2 ^ 24 → Some k ≡ position p named → k < 2 ^ 24
few_rows named p k few some = let lt = position_within p named k (sym some) in omega (arith, lt)
