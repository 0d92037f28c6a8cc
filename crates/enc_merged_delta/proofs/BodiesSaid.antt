-- The bodies and signatures of the merged delta break no rule.
use Rattle.std.proofs.Common.{◌≡◌, ℕ, zero, suc, ◌+◌, ◌-◌, ◌≤◌, Bool, true, false, List, [], ◌∷◌, length, Option, Some, None, refl, sym, ap, ◌∙◌, inl, inr, arith, subst}
use Rattle.std.specs.Prelude.{◌||◌, ◌&&◌, ◌==◌, ◌%◌, not, nat_le, option_map, option_and_then, slice_get, if◌then◌else◌}
use Rattle.std.proofs.lemmas.Bool.{and_parts, or_left, or_right}
use Rattle.std.proofs.lemmas.Bool.Decides.{nat_tests}
use Rattle.enc_base.specs.Order.{first_below}
use Rattle.enc_base.proofs.First.{silent}
use Rattle.enc_base.specs.Token.{is_token, nil, nth_row}
use Rattle.enc_base.specs.declared.refusal.Place.{Place}
use Rattle.enc_base.specs.declared.refusal.Place.TheVariants as place
use Rattle.enc_base.specs.declared.token.Token.{Token}
use Rattle.enc_meta.specs.Regions.{Region}
use Rattle.enc_opcodes.specs.Body.{Code, Body, body_of, locals_are_good, begins_locals}
use Rattle.enc_opcodes.specs.Sound.{body_is_sound}
use Rattle.enc_rows.specs.Layout.{rows_of}
use Rattle.enc_rows.specs.Source.{Source, raw_in}
use Rattle.enc_schema.specs.Schema.{columns_in, column_in}
use Rattle.enc_schema.specs.declared.column.Column.TheVariants.{Num16, Num32}
use Rattle.enc_plain.specs.Bodies.{code_loaded, body_loaded, code_is_good, body_is_good}
use Rattle.enc_plain.specs.Cell.{number, body, numbers, bodies}
use Rattle.enc_plain.specs.Chain.{Chain, rows_before}
use Rattle.enc_plain.specs.Module.{Module, cells_of, cell_of}
use Rattle.enc_plain.specs.Reading.{cell_read, cell_with}
use Rattle.enc_plain.specs.Rows.{number_at, bytes_at}
use Rattle.enc_plain.specs.Signatures.{signature_column, is_signature}
use Rattle.enc_plain.specs.Sound.{HasTables, row_count, locals_are_sound, method_is_sound}
use Rattle.enc_plain.proofs.CellsOf.{number_there}
use Rattle.enc_delta.specs.Delta.{listed, of_table, place_in}
use Rattle.enc_delta.specs.Rows.{cell_after, own_row, rows_after}
use Rattle.enc_delta.specs.Rules.{broken, rows_with, users_after, reading_after, body_stands, broken_body_at, broken_body, has_body, lost_body_at, lost_body}
use Rattle.enc_delta.specs.Changes.{of_nth, own_code, are_locals, locals_begin, bad_locals_in, bad_locals, bad_signature_at, bad_signature_in, bad_signature}
use Rattle.enc_delta.proofs.Unbroken.{unbroken}
use Rattle.enc_agg.specs.Extend.{extended}
use Rattle.enc_agg.specs.Follows.{Follows}
use Rattle.enc_agg.proofs.Fitting.{fits}
use Rattle.enc_agg.proofs.SoundBodies.{listed_good}
use Rattle.enc_agg.proofs.Tokens.{PlaceRow, place_row}
use Rattle.enc_agg.proofs.Viewing.{body_listed, kept_cell}
use Rattle.enc_merged_delta.specs.Laws.{KeepsMerged}
use Rattle.enc_merged_delta.specs.Merged.{MayMerge, SaysMerged, after_both, is_in_map}
use Rattle.enc_merged_delta.proofs.Among.{lists, self}
use Rattle.enc_merged_delta.proofs.Counts.{tables_after}
use Rattle.enc_merged_delta.proofs.Silent.{all_silent}
use Rattle.enc_merged_delta.proofs.BothModules.{sound_both, row_of_both, NthToken, nth_token}
use Rattle.enc_merged_delta.proofs.SameRows.{all_rows_are, all_counts_are}

-- a token at a place of a list is among it
pub at_place : (ts : List Token) (k : ℕ) (u : Token) → slice_get ts k ≡ Some u → lists ts u ≡ true
at_place [] k u h = absurd cc
at_place (t ∷ ts) zero u h = let same : t ≡ u = cc in or_left (is_token t u) (lists ts u) (ap (is_token t) (sym same) ∙ self t)
at_place (t ∷ ts) (suc k) u h = or_right (is_token t u) (lists ts u) (at_place ts k u h)

-- a rule on rows that is silent of each listed token
pub silent_rows : (s : Source) (rule : Token → Option Place) → ((u : Token) → is_in_map s u ≡ true → rule u ≡ None) → first_below (of_nth rule s) (length (listed s)) ≡ None
silent_rows s rule each = all_silent (of_nth rule s) (length (listed s)) (λ k low. at k (slice_get (listed s) k) refl)
  where
    at : (k : ℕ) (o : Option Token) → slice_get (listed s) k ≡ o → option_and_then rule o ≡ None
    at k None is = refl
    at k (Some u) is = each u (at_place (listed s) k u is)

-- E21: the signatures of the module after both are good, by its own rows
pub keeps_signatures : KeepsMerged bad_signature
unfolding bad_signature bad_signature_in bad_signature_at
keeps_signatures c a b s may says = silent_rows s (bad_signature_in c s) (λ u there. at_column u (signature_column u.table) there refl)
  where
    at_column : (u : Token) (o : Option ℕ) → is_in_map s u ≡ true → signature_column u.table ≡ o → option_and_then (bad_signature_at c s u) o ≡ None
    at_column u None there is = refl
    at_column u (Some i) there is =
        let m = (after_both c a b).plain in
        let good = (sound_both c a b may).signatures.each u i (row_of_both c a b s u may says there) is in
        ap (λ count. broken (not (is_signature count u.table (bytes_at (rows_after c s) u i))) (place.Cell u i)) (all_counts_are c a b s may says)
        ∙ ap (λ rows. broken (not (is_signature (row_count m) u.table (bytes_at rows u i))) (place.Cell u i)) (all_rows_are c a b s may says)
        ∙ ap (λ x. broken (not x) (place.Cell u i)) good

column_zero : column_in 0x06 0 ≡ Some Num32
unfolding columns_in
column_zero = refl

column_one : column_in 0x06 1 ≡ Some Num16
unfolding columns_in
column_one = refl

-- what the row of a method says of its body
pub body_read : (c : Chain) (s : Source) (row : Token) → row.table ≡ 0x06 → cell_after c s row 0 ≡ Some (body (body_loaded s.loaded (users_after c s) (raw_in s row 0)))
unfolding cell_after cell_with reading_after columns_in
body_read c s row is = rw is refl

pub body_said : (c : Chain) (a b s : Source) (u : Token) → SaysMerged c a b s → is_in_map s u ≡ true → u.table ≡ 0x06
    → cell_of (after_both c a b).plain u 0 ≡ Some (body (body_loaded s.loaded (users_after c s) (raw_in s (own_row s u) 0)))
unfolding columns_in
body_said c a b s u says there is = sym ((says.rows u there).cells 0 bodies (rw is refl)) ∙ body_read c s (own_row s u) is

-- the body of a method in the module after both is sound
body_sound : (c : Chain) (a b s : Source) (u : Token) (x : Body) → MayMerge c a b → SaysMerged c a b s → is_in_map s u ≡ true → u.table ≡ 0x06
    → body_loaded s.loaded (users_after c s) (raw_in s (own_row s u) 0) ≡ Some x → method_is_sound (after_both c a b).plain u x ≡ true
body_sound c a b s u x may says there is has =
    (sound_both c a b may).cells.each u 0 Num32 (body (Some x)) (row_of_both c a b s u may says there) (subst (λ t. column_in t 0 ≡ Some Num32) (sym is) column_zero)
    (body_said c a b s u says there is ∙ ap (λ (o : Option Body). Some (body o)) has)

-- and so are the low bits of its flags
flags_read : (c : Chain) (s : Source) (row : Token) → row.table ≡ 0x06 → cell_after c s row 1 ≡ Some (number (raw_in s row 1))
unfolding cell_after cell_with cell_read columns_in
flags_read c s row is = rw is refl

flags_said : (c : Chain) (a b s : Source) (u : Token) → SaysMerged c a b s → is_in_map s u ≡ true → u.table ≡ 0x06 → raw_in s (own_row s u) 1 ≡ number_at (cells_of (after_both c a b).plain) u 1
unfolding columns_in
flags_said c a b s u says there is =
    number_there (after_both c a b).plain u 1 (raw_in s (own_row s u) 1) (sym ((says.rows u there).cells 1 numbers (rw is refl)) ∙ flags_read c s (own_row s u) is)

il_flags : (m : Module) (u : Token) (x : Body) → method_is_sound m u x ≡ true → (number_at (cells_of m) u 1 % 4 == 0) ≡ true
unfolding method_is_sound
il_flags m u x h =
    let two = (and_parts (number_at (cells_of m) u 1 % 4 == 0 && body_is_sound (row_count m) x) (locals_are_sound m x.locals) h).0 in
    (and_parts (number_at (cells_of m) u 1 % 4 == 0) (body_is_sound (row_count m) x) two).0

-- a good body is there
good_code : (count : ℕ → ℕ) (users : ℕ → Option (List ℕ)) (o : Option Code) → code_is_good count users o ≡ true → (k : Code) × (o ≡ Some k)
good_code count users None h = absurd cc
good_code count users (Some k) h = (k, refl)

loaded_is : (regions : List Region) (users : ℕ → Option (List ℕ)) (rva : ℕ) (k : Code) → code_loaded regions rva ≡ Some k → body_loaded regions users rva ≡ Some (body_of users k)
unfolding body_loaded
loaded_is regions users rva k h = ap (λ (o : Option Code). option_map (body_of users) o) h

good_at : (count : ℕ → ℕ) (users : ℕ → Option (List ℕ)) (regions : List Region) (rva flags : ℕ) → (flags % 4 == 0) ≡ true → code_is_good count users (code_loaded regions rva) ≡ true
    → body_is_good count users regions rva flags ≡ true
unfolding body_is_good
good_at count users regions zero flags il good = refl
good_at count users regions (suc n) flags il good = rw (il, good) refl

none_at : (count : ℕ → ℕ) (users : ℕ → Option (List ℕ)) (regions : List Region) (rva flags : ℕ) → rva ≡ 0 → body_is_good count users regions rva flags ≡ true
unfolding body_is_good
none_at count users regions rva flags is = rw is refl

is_method : (u : Token) → u.table ≡ 0x06 → (u.table == 0x06) ≡ true
is_method u is = grind (arith, nat_tests, is)

-- E16
body_good : (c : Chain) (a b s : Source) (u : Token) → MayMerge c a b → SaysMerged c a b s → is_in_map s u ≡ true → u.table ≡ 0x06
    → body_is_good (rows_with c (listed s)) (users_after c s) s.loaded (raw_in s (own_row s u) 0) (raw_in s (own_row s u) 1) ≡ true
body_good c a b s u may says there is = elim ((says.rows u there).body (is_method u is)) [
  | inl none ↦ none_at (rows_with c (listed s)) (users_after c s) s.loaded (raw_in s (own_row s u) 0) (raw_in s (own_row s u) 1) none
  | inr good ↦
      let m = (after_both c a b).plain in
      let rva = raw_in s (own_row s u) 0 in
      let k = good_code (rows_before (after_both c a b)) (users_after c s) (code_loaded s.loaded rva) good in
      let sound = body_sound c a b s u (body_of (users_after c s) k.0) may says there is (loaded_is s.loaded (users_after c s) rva k.0 k.1) in
      let il : (raw_in s (own_row s u) 1 % 4 == 0) ≡ true = ap (λ n. n % 4 == 0) (flags_said c a b s u says there is) ∙ il_flags m u (body_of (users_after c s) k.0) sound in
      ap (λ count. body_is_good count (users_after c s) s.loaded rva (raw_in s (own_row s u) 1)) (all_counts_are c a b s may says)
      ∙ good_at (row_count m) (users_after c s) s.loaded rva (raw_in s (own_row s u) 1) il good
]

stands_here : (c : Chain) (a b s : Source) (n : ℕ) (u : Token) → MayMerge c a b → SaysMerged c a b s → NthToken s 0x06 n u → body_stands c s n ≡ true
unfolding body_stands
stands_here c a b s n u may says at =
    ap (λ (row : Token). body_is_good (rows_with c (listed s)) (users_after c s) s.loaded (raw_in s row 0) (raw_in s row 1)) (sym at.row) ∙ body_good c a b s u may says at.there at.own

pub keeps_bodies : KeepsMerged broken_body
unfolding broken_body broken_body_at
keeps_bodies c a b s may says = all_silent (broken_body_at c s) (rows_of s.layout 0x06) (λ n few. at n (slice_get (of_table 0x06 (listed s)) n) refl)
  where
    at : (n : ℕ) (o : Option Token) → slice_get (of_table 0x06 (listed s)) n ≡ o → option_and_then (λ (t : Token). broken (not (body_stands c s n)) (place.Row t)) o ≡ None
    at n None h = refl
    at n (Some u) h = ap (λ x. broken (not x) (place.Row u)) (stands_here c a b s n u may says (nth_token c a b s 0x06 n u says h))

-- E23: the local signature of a sound body is one of locals
sound_locals : (m : Module) (u : Token) (x : Body) → method_is_sound m u x ≡ true → are_locals (cells_of m) x.locals ≡ true
unfolding method_is_sound body_is_sound locals_are_good
sound_locals m u x h =
    let two = and_parts (number_at (cells_of m) u 1 % 4 == 0 && body_is_sound (row_count m) x) (locals_are_sound m x.locals) h in
    let one = and_parts (number_at (cells_of m) u 1 % 4 == 0) (body_is_sound (row_count m) x) two.0 in
    let good = (and_parts _ (x.locals.row == 0 || x.locals.table == 0x11 && nat_le x.locals.row (row_count m 0x11)) one.1).1 in
    by (x.locals.row == 0) (x.locals.table == 0x11) good two.1
  where
    by : (z t : Bool) → (z || t && nat_le x.locals.row (row_count m 0x11)) ≡ true → (if z then is_token x.locals nil else begins_locals (bytes_at (cells_of m) x.locals 0)) ≡ true
        → (z || t && begins_locals (bytes_at (cells_of m) x.locals 0)) ≡ true
    by true t good locals = refl
    by false true good locals = locals
    by false false good locals = absurd cc

own_locals : (users : ℕ → Option (List ℕ)) (k : Code) → (body_of users k).locals ≡ k.locals
unfolding body_of
own_locals users k = refl

locals_by : (c : Chain) (a b s : Source) (u : Token) (o : Option Code) → MayMerge c a b → SaysMerged c a b s → is_in_map s u ≡ true → u.table ≡ 0x06 → own_code s u ≡ o → locals_begin (rows_after c s) o ≡ true
locals_by c a b s u None may says there is code = refl
locals_by c a b s u (Some k) may says there is code =
    let m = (after_both c a b).plain in
    let x = body_of (users_after c s) k in
    let sound = body_sound c a b s u x may says there is (loaded_is s.loaded (users_after c s) (raw_in s (own_row s u) 0) k code) in
    ap (λ rows. are_locals rows k.locals) (all_rows_are c a b s may says) ∙ ap (are_locals (cells_of m)) (sym (own_locals (users_after c s) k)) ∙ sound_locals m u x sound

by_test : (p q : Bool) (t : Place) → (p ≡ true → q ≡ true) → broken (p && not q) t ≡ None
by_test false q t h = refl
by_test true q t h = rw (h refl) refl

pub keeps_locals : KeepsMerged bad_locals
unfolding bad_locals bad_locals_in
keeps_locals c a b s may says = silent_rows s (bad_locals_in c s) (λ u there.
    by_test (u.table == 0x06) (locals_begin (rows_after c s) (own_code s u)) (place.Row u) (λ is.
    let table : u.table ≡ 0x06 = grind (arith, nat_tests, is) in
    locals_by c a b s u (own_code s u) may says there table refl))

-- a good body has its cell
body_there : (count : ℕ → ℕ) (users : ℕ → Option (List ℕ)) (regions : List Region) (rva flags : ℕ) → (rva == 0) ≡ false → body_is_good count users regions rva flags ≡ true
    → has_body (Some (body (body_loaded regions users rva))) ≡ true
unfolding body_is_good
body_there count users regions zero flags some good = absurd cc
body_there count users regions (suc n) flags some good =
    let code = (and_parts (flags % 4 == 0) (code_is_good count users (code_loaded regions (suc n))) good).1 in
    let k = good_code count users (code_loaded regions (suc n)) code in
    ap (λ (o : Option Body). has_body (Some (body o))) (loaded_is regions users (suc n) k.0 k.1)

not_lost : (p q : Bool) (t : Place) → (q ≡ true → p ≡ false) → broken (p && q) t ≡ None
not_lost false q t h = refl
not_lost true false t h = refl
not_lost true true t h = let e : true ≡ false = h refl in absurd cc

kept_place : (p q : Bool) (t : Place) → broken (p && q) t ≡ None → q ≡ true → p ≡ false
kept_place false q t h e = refl
kept_place true false t h e = absurd cc
kept_place true true t h e = absurd cc

-- the place of a method that had a body
place_kept : (c : Chain) (s : Source) (u : Token) (k : ℕ) → lost_body c s ≡ None → PlaceRow s u k → u.table ≡ 0x06 → has_body (cell_of c.plain u 0) ≡ true
    → (raw_in s (record { table = 0x06; row = k }) 0 == 0) ≡ false
unfolding lost_body lost_body_at
place_kept c s u k none at is had =
    let e : k - 1 + 1 ≡ k = omega (arith, at.low) in
    let high : k ≤ rows_of s.layout 0x06 = rw is at at.high in
    let token : slice_get (of_table 0x06 (listed s)) (k - 1) ≡ Some u = ap (λ t. slice_get (of_table t (listed s)) (k - 1)) (sym is) ∙ at.token in
    let row = silent (lost_body_at c s) (rows_of s.layout 0x06) (k - 1) none (omega (arith, at.low, high)) in
    let kept = kept_place (raw_in s (record { table = 0x06; row = k - 1 + 1 }) 0 == 0) (has_body (cell_of c.plain u 0)) (place.Row u) (rw token at row) had in
    rw e at kept

-- E17: a method that has a body has one after a delta that breaks no rule
pub body_lasts : (c : Chain) (s : Source) (u : Token) → HasTables c.plain → Follows c s → u.table ≡ 0x06 → has_body (cell_of c.plain u 0) ≡ true → has_body (cell_of (extended c s).plain u 0) ≡ true
body_lasts c s u has f is had = by (place_in (listed s) u) refl
  where
    by : (o : Option ℕ) → place_in (listed s) u ≡ o → has_body (cell_of (extended c s).plain u 0) ≡ true
    by None e = ap has_body (kept_cell c s u 0 (fits c s has f.lands) e) ∙ had
    by (Some k) e =
        let all = unbroken c s f.rules in
        let at = place_row c s u k f.lands e in
        let rva = raw_in s (record { table = u.table; row = k }) 0 in
        let some : (rva == 0) ≡ false = ap (λ t. raw_in s (record { table = t; row = k }) 0 == 0) is ∙ place_kept c s u k all.lost_body at is had in
        ap has_body (body_listed c s u k rva (fits c s has f.lands) e is refl)
        ∙ body_there (rows_with c (listed s)) (users_after c s) s.loaded rva (raw_in s (record { table = u.table; row = k }) 1) some (listed_good c s u k all.broken_body at is)

has_place : (regions : List Region) (users : ℕ → Option (List ℕ)) (rva : ℕ) → has_body (Some (body (body_loaded regions users rva))) ≡ true → (rva == 0) ≡ false
unfolding body_loaded code_loaded
has_place regions users zero h = absurd cc
has_place regions users (suc n) h = grind (arith, nat_tests)

keeps_body : (c : Chain) (a b s : Source) (n : ℕ) (u : Token) → MayMerge c a b → SaysMerged c a b s → NthToken s 0x06 n u → has_body (cell_of c.plain u 0) ≡ true → (raw_in s (nth_row 0x06 n) 0 == 0) ≡ false
keeps_body c a b s n u may says at had =
    let first = body_lasts c a u may.sound.owners.tables may.first at.own had in
    let second = body_lasts (extended c a) b u (tables_after c a b may) may.second at.own first in
    ap (λ (row : Token). raw_in s row 0 == 0) (sym at.row)
    ∙ has_place s.loaded (users_after c s) (raw_in s (own_row s u) 0) (ap has_body (sym (body_said c a b s u says at.there at.own)) ∙ second)

pub keeps_all_bodies : KeepsMerged lost_body
unfolding lost_body lost_body_at
keeps_all_bodies c a b s may says = all_silent (lost_body_at c s) (rows_of s.layout 0x06) (λ n few. at n (slice_get (of_table 0x06 (listed s)) n) refl)
  where
    at : (n : ℕ) (o : Option Token) → slice_get (of_table 0x06 (listed s)) n ≡ o
        → option_and_then (λ (t : Token). broken (raw_in s (nth_row 0x06 n) 0 == 0 && has_body (cell_of c.plain t 0)) (place.Row t)) o ≡ None
    at n None h = refl
    at n (Some u) h = not_lost (raw_in s (nth_row 0x06 n) 0 == 0) (has_body (cell_of c.plain u 0)) (place.Row u) (keeps_body c a b s n u may says (nth_token c a b s 0x06 n u says h))
