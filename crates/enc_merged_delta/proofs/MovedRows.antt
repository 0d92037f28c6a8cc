-- Where a delta's row for a token goes: each moved number says the cell that the token has after both deltas.
use Rattle.std.proofs.Common.{◌≡◌, ◌⊎◌, ℕ, zero, suc, ◌%◌, ◌^◌, ◌<◌, ◌≤◌, Bool, true, false, List, [], ◌∷◌, Option, Some, None, refl, sym, ap, ◌∙◌, subst, inl, inr, arith}
use Rattle.std.specs.Prelude.{◌==◌, is_some, option_map, unwrap_or}
use Rattle.std.specs.List.{list_all}
use Rattle.std.proofs.lemmas.Bool.{and_parts, and_from}
use Rattle.std.proofs.lemmas.Bool.Decides.{nat_tests}
use Rattle.enc_base.proofs.SmallNumbers.{EachIsByte}
use Rattle.enc_base.specs.declared.token.Token.{Token}
use Rattle.enc_meta.specs.Joined.{joined_user}
use Rattle.enc_schema.specs.Schema.{column_in, columns_in}
use Rattle.enc_schema.specs.declared.column.Column.{Column}
use Rattle.enc_schema.specs.declared.column.Column.TheVariants.{Num32}
use Rattle.enc_opcodes.specs.Body.{Body, Code, KeepsTexts, body_of, is_good, text_is_there, texts_are_there}
use Rattle.enc_opcodes.specs.Instruction.{Argument, nothing, number, target, targets, token, text, raw, Instruction, instructions_of}
use Rattle.enc_opcodes.proofs.Bodies.{body_told_alike}
use Rattle.enc_rows.specs.Source.{Source, raw_in}
use Rattle.enc_plain.specs.Bodies.{body_is_good, body_loaded, code_is_good, code_loaded}
use Rattle.enc_plain.specs.Cell as cells
use Rattle.enc_plain.specs.Cell.{Cell, Kind, cell_count, is_body, is_field, kind_in, kind_of}
use Rattle.enc_plain.specs.Chain.{Chain, rows_before}
use Rattle.enc_plain.specs.Fits.{Fits}
use Rattle.enc_plain.specs.Module.{cell_of}
use Rattle.enc_plain.specs.Reading.{cell_read, cell_with}
use Rattle.enc_plain.specs.Sound.{number_fits}
use Rattle.enc_plain.proofs.Columns.{in_cells}
use Rattle.enc_image.proofs.SoundCells.{raw_fits}
use Rattle.enc_rewriter.proofs.CodeKept.{body_kept}
use Rattle.enc_delta.specs.Delta.{listed, loaded_code, place_in}
use Rattle.enc_delta.specs.Rows.{cell_after, own_row}
use Rattle.enc_delta.specs.Rules.{reading_after, rows_with, users_after}
use Rattle.enc_delta.proofs.Unbroken.{unbroken}
use Rattle.enc_agg.specs.Extend.{changes_of, extended}
use Rattle.enc_agg.specs.Follows.{Follows}
use Rattle.enc_agg.proofs.SoundBodies.{listed_good}
use Rattle.enc_agg.proofs.Tokens.{place_row}
use Rattle.enc_agg.proofs.Viewing.{body_listed, field_listed, listed_cell}
use Rattle.enc_merged_delta.specs.Merged.{after_both}
use Rattle.enc_merged_delta.specs.Held.{NumberHeld, heaps_with_merged, il_merged, in_column, number_moved, place_moved, reading_merged}
use Rattle.enc_merged_delta.proofs.MovedNumbers.{Carried, cell_carried, cell_there, in_column_fits}

-- what makes a row of a delta that follows a chain one of the merged delta
pub record Moves (k : Chain) (s : Source) (c : Chain) (a b : Source) (shift : ℕ) (u : Token) : Type 0 where
  pub follows : Follows k s
  pub fits : Fits k.plain (changes_of k s)
  pub stream : EachIsByte s.stream
  pub carried : Carried (reading_after k s) (reading_merged c a b) (after_both c a b).heaps
  pub users : KeepsTexts (users_after k s) (joined_user (heaps_with_merged c a b))
  pub count : (t : ℕ) → rows_with k (listed s) t ≤ rows_before (after_both c a b) t
  pub code : (n : ℕ) (v : Code) → code_loaded s.loaded n ≡ Some v → code_loaded (loaded_code (il_merged a b)) (place_moved shift n) ≡ Some v
  pub small : (n : ℕ) (v : Code) → code_loaded s.loaded n ≡ Some v → place_moved shift n < 2 ^ 32
  pub cell : (i : ℕ) → cell_of (extended k s).plain u i ≡ cell_of (after_both c a b).plain u i

some_of : {A : Type 0} (o : Option A) → is_some o ≡ true → (a : A) × (o ≡ Some a)
some_of None e = absurd cc
some_of (Some a) e = (a, refl)

field_of : (table i : ℕ) → is_field table i ≡ true → (table ≡ 0x1D) × (i ≡ 0)
field_of table i e = (grind (arith, nat_tests, e), grind (arith, nat_tests, e))

body_place : (table i : ℕ) → is_body table i ≡ true → (table ≡ 0x06) × (i ≡ 0)
body_place table i e = (grind (arith, nat_tests, e), grind (arith, nat_tests, e))

-- a cell that is no body
in_field : (k : Chain) (s : Source) (c : Chain) (a b : Source) (shift p : ℕ) (u : Token) (i : ℕ) (column : Column) (n : ℕ) → Moves k s c a b shift u
    → place_in (listed s) u ≡ Some p → is_body u.table i ≡ false → is_field u.table i ≡ true
    → cell_with (reading_merged c a b) u i column n ≡ cell_of (after_both c a b).plain u i
unfolding cell_with
in_field k s c a b shift p u i column n moves place none is =
    let at = field_of u.table i is in
    let there : cell_of (extended k s).plain u i ≡ Some (cells.field []) = ap (cell_of (extended k s).plain u) at.1 ∙ field_listed k s u p moves.fits place at.0 in
    rw (none, is) (sym there ∙ moves.cell i)

kind_by : (table i : ℕ) (column : Column) (kind : Kind) → column_in table i ≡ Some column → is_body table i ≡ false → is_field table i ≡ false → kind_in table i ≡ Some kind → kind_of column ≡ Some kind
kind_by table i column kind there none not_field h = rw (none, not_field, there) at h

in_heaps : (k : Chain) (s : Source) (c : Chain) (a b : Source) (shift p : ℕ) (u : Token) (i : ℕ) (column : Column) (kind : Kind) → Moves k s c a b shift u
    → place_in (listed s) u ≡ Some p → column_in u.table i ≡ Some column → is_body u.table i ≡ false → is_field u.table i ≡ false → kind_in u.table i ≡ Some kind
    → cell_with (reading_merged c a b) u i column (in_column (after_both c a b).heaps column (raw_in s (record { table = u.table; row = p }) i)) ≡ cell_of (after_both c a b).plain u i
unfolding cell_with cell_after
in_heaps k s c a b shift p u i column kind moves place there none not_field h =
    let n : ℕ = raw_in s (record { table = u.table; row = p }) i in
    let some : is_some (kind_of column) ≡ true = ap is_some (kind_by u.table i column kind there none not_field h) in
    let made = some_of (cell_read (reading_after k s) column n) (cell_there k s u p i column moves.follows.lands (place_row k s u p moves.follows.lands place) there some) in
    let is : cell_of (extended k s).plain u i ≡ Some made.0 = listed_cell k s u p i made.0 moves.fits place (in_cells u.table i column there some) (rw (there, none, not_field) made.1) in
    rw (none, not_field) (cell_carried (reading_after k s) (reading_merged c a b) (after_both c a b).heaps column n made.0 moves.carried made.1 ∙ sym is ∙ moves.cell i)

plain_held : (k : Chain) (s : Source) (c : Chain) (a b : Source) (shift p : ℕ) (u : Token) (i : ℕ) (column : Column) → Moves k s c a b shift u
    → place_in (listed s) u ≡ Some p → column_in u.table i ≡ Some column → is_body u.table i ≡ false
    → NumberHeld c a b u i column (number_moved (after_both c a b).heaps shift u.table i column (raw_in s (record { table = u.table; row = p }) i))
unfolding number_moved
plain_held k s c a b shift p u i column moves place there none =
    let n : ℕ = raw_in s (record { table = u.table; row = p }) i in
    let moved : number_moved (after_both c a b).heaps shift u.table i column n ≡ in_column (after_both c a b).heaps column n = rw none refl in
    let says : (kind : Kind) → kind_in u.table i ≡ Some kind → cell_with (reading_merged c a b) u i column (in_column (after_both c a b).heaps column n) ≡ cell_of (after_both c a b).plain u i =
    λ kind h. by (is_field u.table i) refl kind h in
    subst (λ x. NumberHeld c a b u i column x) (sym moved)
    (record {
      says = says;
      body = λ is. absurd (let no : true ≡ false = sym is ∙ none in cc);
      fit = in_column_fits (after_both c a b).heaps column n (raw_fits s (record { table = u.table; row = p }) i column moves.stream there);
    })
  where
    by : (t : Bool) → is_field u.table i ≡ t → (kind : Kind) → kind_in u.table i ≡ Some kind
        → cell_with (reading_merged c a b) u i column (in_column (after_both c a b).heaps column (raw_in s (record { table = u.table; row = p }) i)) ≡ cell_of (after_both c a b).plain u i
    by true f kind h = in_field k s c a b shift p u i column (in_column (after_both c a b).heaps column (raw_in s (record { table = u.table; row = p }) i)) moves place none f
    by false f kind h = in_heaps k s c a b shift p u i column kind moves place there none f h

-- a method's body
text_more : (f g : ℕ → Option (List ℕ)) (x : Argument ℕ) → KeepsTexts f g → text_is_there f x ≡ true → text_is_there g x ≡ true
text_more f g nothing keeps h = refl
text_more f g (number n) keeps h = refl
text_more f g (target t) keeps h = refl
text_more f g (targets ts) keeps h = refl
text_more f g (token t) keeps h = refl
text_more f g (text o) keeps h = let made = some_of (f o) h in ap is_some (keeps o made.0 made.1)
text_more f g (raw bytes) keeps h = refl

all_texts : (f g : ℕ → Option (List ℕ)) (xs : List (ℕ × Instruction ℕ)) → KeepsTexts f g → list_all (λ (x : ℕ × Instruction ℕ). text_is_there f x.1.arg) xs ≡ true
    → list_all (λ (x : ℕ × Instruction ℕ). text_is_there g x.1.arg) xs ≡ true
all_texts f g [] keeps h = refl
all_texts f g (x ∷ xs) keeps h =
    let parts = and_parts (text_is_there f x.1.arg) (list_all (λ (x : ℕ × Instruction ℕ). text_is_there f x.1.arg) xs) h in
    and_from _ _ (text_more f g x.1.arg keeps parts.0) (all_texts f g xs keeps parts.1)

texts_more : (f g : ℕ → Option (List ℕ)) (code : List ℕ) → KeepsTexts f g → texts_are_there f code ≡ true → texts_are_there g code ≡ true
unfolding texts_are_there
texts_more f g code keeps h = all_texts f g (instructions_of code) keeps h

-- the code at a place that isn't 0
good_code : (count : ℕ → ℕ) (texts : ℕ → Option (List ℕ)) (k : Chain) (s : Source) (n flags : ℕ) → body_is_good count texts s.loaded (suc n) flags ≡ true
    → (v : Code) × ((code_loaded s.loaded (suc n) ≡ Some v) × ((texts_are_there texts v.code ≡ true) × (is_good count v ≡ true)))
unfolding body_is_good
good_code count texts k s n flags h =
    let parts = and_parts (flags % 4 == 0) (code_is_good count texts (code_loaded s.loaded (suc n))) h in
    by (code_loaded s.loaded (suc n)) parts.1
  where
    by : (o : Option Code) → code_is_good count texts o ≡ true → (v : Code) × ((o ≡ Some v) × ((texts_are_there texts v.code ≡ true) × (is_good count v ≡ true)))
    by None g = absurd cc
    by (Some v) g = let both = and_parts (is_good count v) (texts_are_there texts v.code) g in (v, (refl, (both.1, both.0)))

-- a body at its moved place
record BodyMoved (k : Chain) (s : Source) (c : Chain) (a b : Source) (shift n : ℕ) : Type 0 where
  same : body_loaded (loaded_code (il_merged a b)) (joined_user (heaps_with_merged c a b)) (place_moved shift n) ≡ body_loaded s.loaded (users_after k s) n
  stands : (place_moved shift n ≡ 0)
      ⊎ (code_is_good (rows_before (after_both c a b)) (joined_user (heaps_with_merged c a b)) (code_loaded (loaded_code (il_merged a b)) (place_moved shift n)) ≡ true)
  small : place_moved shift n < 2 ^ 32

body_moves : (k : Chain) (s : Source) (c : Chain) (a b : Source) (shift n flags : ℕ) (u : Token) → Moves k s c a b shift u
    → body_is_good (rows_before (after_both c a b)) (users_after k s) s.loaded n flags ≡ true → BodyMoved k s c a b shift n
unfolding body_loaded code_loaded
body_moves k s c a b shift zero flags u moves good = record { same = refl; stands = inl refl; small = grind (arith, nat_tests) }
body_moves k s c a b shift (suc n) flags u moves good =
    let g = good_code (rows_before (after_both c a b)) (users_after k s) k s n flags good in
    let v = g.0 in
    let old = users_after k s in
    let new = joined_user (heaps_with_merged c a b) in
    let moved = moves.code (suc n) v g.1.0 in
    record {
      same = ap (option_map (body_of new)) moved ∙ ap (λ (x : Body). Some x) (sym (body_told_alike old new v g.1.1.0 moves.users)) ∙ sym (ap (option_map (body_of old)) g.1.0);
      stands = inr (ap (code_is_good (rows_before (after_both c a b)) new) moved ∙ and_from _ _ g.1.1.1 (texts_more old new v.code moves.users g.1.1.0));
      small = moves.small (suc n) v g.1.0;
    }

wide_place : (table i : ℕ) (column : Column) → column_in table i ≡ Some column → table ≡ 0x06 → i ≡ 0 → column ≡ Num32
unfolding columns_in
wide_place table i column there t z = let e : column_in 0x06 0 ≡ Some column = rw (t, z) at there in sym (let same : Num32 ≡ column = cc in same)

place_fits : (column : Column) (n : ℕ) → column ≡ Num32 → n < 2 ^ 32 → number_fits column n ≡ true
place_fits column n is low = let fits : number_fits Num32 n ≡ true = grind (arith, nat_tests, low) in ap (λ (q : Column). number_fits q n) is ∙ fits

body_held : (k : Chain) (s : Source) (c : Chain) (a b : Source) (shift p : ℕ) (u : Token) (i : ℕ) (column : Column) → Moves k s c a b shift u
    → place_in (listed s) u ≡ Some p → column_in u.table i ≡ Some column → is_body u.table i ≡ true
    → NumberHeld c a b u i column (number_moved (after_both c a b).heaps shift u.table i column (raw_in s (record { table = u.table; row = p }) i))
unfolding number_moved cell_with
body_held k s c a b shift p u i column moves place there is =
    let own : Token = record { table = u.table; row = p } in
    let n : ℕ = raw_in s own i in
    let at = body_place u.table i is in
    let raw : raw_in s own 0 ≡ n = ap (raw_in s own) (sym at.1) in
    let judged = listed_good k s u p (unbroken k s moves.follows.rules).broken_body (place_row k s u p moves.follows.lands place) at.0 in
    let good : body_is_good (rows_with k (listed s)) (users_after k s) s.loaded n (raw_in s own 1) ≡ true = subst (λ m. body_is_good (rows_with k (listed s)) (users_after k s) s.loaded m (raw_in s own 1) ≡ true) raw judged in
    let grown = body_kept (rows_with k (listed s)) (rows_before (after_both c a b)) (users_after k s) s.loaded n (raw_in s own 1) (record { each = λ t h. moves.count t }) good in
    let m = body_moves k s c a b shift n (raw_in s own 1) u moves grown in
    let moved : number_moved (after_both c a b).heaps shift u.table i column n ≡ place_moved shift n = rw is refl in
    let cell : cell_of (extended k s).plain u i ≡ Some (cells.body (body_loaded s.loaded (users_after k s) n)) = ap (cell_of (extended k s).plain u) at.1 ∙ body_listed k s u p n moves.fits place at.0 raw in
    subst (λ x. NumberHeld c a b u i column x) (sym moved)
    (record {
      says = λ kind h. rw is (ap (λ (o : Option Body). Some (cells.body o)) m.same ∙ sym cell ∙ moves.cell i);
      body = λ h. m.stands;
      fit = place_fits column (place_moved shift n) (wide_place u.table i column there at.0 at.1) m.small;
    })

pub held_at : (k : Chain) (s : Source) (c : Chain) (a b : Source) (shift p : ℕ) (u : Token) (i : ℕ) (column : Column) → Moves k s c a b shift u
    → place_in (listed s) u ≡ Some p → column_in u.table i ≡ Some column
    → NumberHeld c a b u i column (number_moved (after_both c a b).heaps shift u.table i column (raw_in s (own_row s u) i))
held_at k s c a b shift p u i column moves place there =
    let own : record { table = u.table; row = p } ≡ own_row s u = ap (λ (o : Option ℕ). own_by o) (sym place) in
    subst (λ (t : Token). NumberHeld c a b u i column (number_moved (after_both c a b).heaps shift u.table i column (raw_in s t i))) own (by (is_body u.table i) refl)
  where
    own_by : Option ℕ → Token
    own_by o = record { table = u.table; row = unwrap_or o 0 }

    by : (t : Bool) → is_body u.table i ≡ t → NumberHeld c a b u i column (number_moved (after_both c a b).heaps shift u.table i column (raw_in s (record { table = u.table; row = p }) i))
    by true e = body_held k s c a b shift p u i column moves place there e
    by false e = plain_held k s c a b shift p u i column moves place there e
