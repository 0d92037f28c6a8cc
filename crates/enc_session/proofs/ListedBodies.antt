-- The bodies of the methods that an accepted delta lists.
use Rattle.std.proofs.Common.{◌≡◌, ℕ, zero, suc, ◌+◌, ◌-◌, ◌≤◌, Bool, true, false, List, length, Option, Some, None, refl, sym, ap, ◌∙◌, arith}
use Rattle.std.specs.Prelude.{◌&&◌, ◌==◌, ◌%◌, is_some, option_map, slice_get}
use Rattle.std.proofs.lemmas.Bool.{eqb-true}
use Rattle.std.proofs.lemmas.Option.{slice_get_within}
use Rattle.enc_base.proofs.First.{silent}
use Rattle.enc_base.specs.declared.refusal.Place.{Place}
use Rattle.enc_base.specs.declared.token.Token.{Token}
use Rattle.enc_meta.specs.Regions.{Region}
use Rattle.enc_opcodes.specs.Body.{Code, body_of, texts_are_there}
use Rattle.enc_rows.specs.Layout.{rows_of}
use Rattle.enc_rows.specs.Source.{Source, raw_in}
use Rattle.enc_plain.specs.Bodies.{code_loaded, body_loaded, body_is_good}
use Rattle.enc_plain.specs.Cell.{Cell, body, bodies, number, text, blob, guid, refer, field, cell_kind}
use Rattle.enc_plain.specs.Chain.{Chain}
use Rattle.enc_plain.specs.Fits.{Fits}
use Rattle.enc_plain.specs.Module.{Row, rows_in, row_at, row_of, cell_of}
use Rattle.enc_delta.specs.Delta.{listed, of_table, place_in}
use Rattle.enc_delta.specs.Rules.{broken, users_after, rows_with, has_body, broken_body, lost_body_at, lost_body}
use Rattle.enc_delta.proofs.Placing.{place_none}
use Rattle.enc_agg.specs.Extend.{changes_of, extended}
use Rattle.enc_agg.proofs.SoundBodies.{listed_good}
use Rattle.enc_agg.proofs.Tokens.{PlaceRow, place_token}
use Rattle.enc_agg.proofs.Viewing.{listed_cells, body_listed, texts_listed}
use Rattle.enc_agg.specs.Follows.{Follows}
use Rattle.enc_checker.specs.Check.{new_code, own_methods, new_bodies}
use Rattle.enc_session.proofs.Brought.{stands, both_ways, kept_one, one_kept}

-- a token that is one of a list has a place in it
placed_by : (ts : List Token) (u : Token) (o : Option ℕ) → place_in ts u ≡ o → stands u ts ≡ true → (k : ℕ) × (place_in ts u ≡ Some k)
placed_by ts u None e there = absurd (both_ways (stands u ts) there (place_none ts u e))
placed_by ts u (Some k) e there = (k, e)

-- a method that has a new body: where the delta lists it, and its body there
pub record IsNew (d : Source) (u : Token) : Type 0 where
  pub table : u.table ≡ 0x06
  pub place : (k : ℕ) × (place_in (listed d) u ≡ Some k)
  pub code : (x : Code) × (new_code d u ≡ Some x)

some_of : {A : Type 0} (o : Option A) → is_some o ≡ true → (x : A) × (o ≡ Some x)
some_of None h = absurd cc
some_of (Some x) h = (x, refl)

pub is_new : (d : Source) (u : Token) → stands u (new_bodies d) ≡ true → IsNew d u
unfolding new_bodies
is_new d u h =
    let a = kept_one (λ (t : Token). is_some (new_code d t)) u (own_methods d) h in
    let b = kept_one (λ (t : Token). t.table == 0x06) u (listed d) a.1 in
    record { table = eqb-true u.table 0x06 b.0; place = placed_by (listed d) u (place_in (listed d) u) refl b.1; code = some_of (new_code d u) a.0 }

-- a method stands among the methods
among_methods : (d : Source) (u : Token) (k : ℕ) → u.table ≡ 0x06 → slice_get (of_table u.table (listed d)) (k - 1) ≡ Some u
    → slice_get (of_table 0x06 (listed d)) (k - 1) ≡ Some u
among_methods d u k is there = ap (λ t. slice_get (of_table t (listed d)) (k - 1)) (sym is) ∙ there

-- a method that is listed and has no new body has none there
pub none_new : (d : Source) (u : Token) (k : ℕ) (o : Option Code) → new_code d u ≡ o → stands u (new_bodies d) ≡ false → u.table ≡ 0x06
    → place_in (listed d) u ≡ Some k → o ≡ None
unfolding new_bodies
none_new d u k None e h is place = refl
none_new d u k (Some x) e h is place =
    let own : slice_get (of_table 0x06 (listed d)) (k - 1) ≡ Some u = among_methods d u k is (place_token (listed d) u k place).1 in
    let there = one_kept (λ (t : Token). is_some (new_code d t)) u (own_methods d) (k - 1) own (ap is_some e) in
    absurd (both_ways (stands u (new_bodies d)) there h)

-- the cell of a method that is listed is the body that the delta has there
pub cell_new : (c : Chain) (d : Source) (u : Token) (k : ℕ) (o : Option Code) → Fits c.plain (changes_of c d) → place_in (listed d) u ≡ Some k → u.table ≡ 0x06
    → new_code d u ≡ o → cell_of (extended c d).plain u 0 ≡ Some (body (option_map (body_of (users_after c d)) o))
unfolding body_loaded
cell_new c d u k o fit place is code =
    let there : code_loaded d.loaded (raw_in d (record { table = u.table; row = k }) 0) ≡ o = rw place at code in
    body_listed c d u k (raw_in d (record { table = u.table; row = k }) 0) fit place is refl ∙ rw there refl

-- and the user texts that it names are there
pub texts_new : (c : Chain) (d : Source) (u : Token) (k : ℕ) (x : Code) → Follows c d → place_in (listed d) u ≡ Some k → u.table ≡ 0x06 → new_code d u ≡ Some x
    → texts_are_there (users_after c d) x.code ≡ true
texts_new c d u k x follows place is code =
    let there : code_loaded d.loaded (raw_in d (record { table = u.table; row = k }) 0) ≡ Some x = rw place at code in
    texts_listed c d u k (raw_in d (record { table = u.table; row = k }) 0) x follows place is refl there

-- it is one of the module's
row_here : (rows : List Row) (row : ℕ) (o : Option Row) (cells : List Cell) → row_at rows row ≡ o → option_map (λ (r : Row). r.cells) o ≡ Some cells
    → row ≤ length rows
row_here rows row None cells e h = absurd cc
row_here rows zero (Some r) cells e h = omega arith
row_here rows (suc i) (Some r) cells e h = omega (arith, slice_get_within rows i r e)

pub row_listed : (c : Chain) (d : Source) (u : Token) (k : ℕ) → Fits c.plain (changes_of c d) → place_in (listed d) u ≡ Some k
    → u.row ≤ length (rows_in (extended c d).plain u.table)
unfolding row_of
row_listed c d u k fit place =
    let rows = rows_in (extended c d).plain u.table in
    row_here rows u.row (row_at rows u.row) _ refl (listed_cells c d u k fit place)

-- a place for a body has one, where it is good
both_false : (a : Bool) → (a && false) ≡ true → ⊥
both_false true h = absurd cc
both_false false h = absurd cc

no_place : (count : ℕ → ℕ) (texts : ℕ → Option (List ℕ)) (regions : List Region) (n flags : ℕ) → body_is_good count texts regions n flags ≡ true
    → code_loaded regions n ≡ None → n ≡ 0
unfolding body_is_good
no_place count texts regions zero flags good none = refl
no_place count texts regions (suc n) flags good none = absurd (both_false (flags % 4 == 0) (rw none at good))

-- where the rules on bodies are kept, a method without a body in the delta that lists it had none before
kept_body : (b : Bool) (p : Place) (n : ℕ) → n ≡ 0 → broken (n == 0 && b) p ≡ None → b ≡ false
kept_body true p n e h = let f : broken (0 == 0 && true) p ≡ None = rw e at h in absurd cc
kept_body false p n e h = refl

pub had_none : (c : Chain) (d : Source) (u : Token) (k : ℕ) → broken_body c d ≡ None → lost_body c d ≡ None → PlaceRow d u k → place_in (listed d) u ≡ Some k
    → u.table ≡ 0x06 → new_code d u ≡ None → has_body (cell_of c.plain u 0) ≡ false
unfolding lost_body lost_body_at
had_none c d u k goods lost at place is code =
    let e : k - 1 + 1 ≡ k = omega (arith, at.low) in
    let high : k ≤ rows_of d.layout 0x06 = rw is at at.high in
    let token : slice_get (of_table 0x06 (listed d)) (k - 1) ≡ Some u = among_methods d u k is at.token in
    let none : code_loaded d.loaded (raw_in d (record { table = u.table; row = k }) 0) ≡ None = rw place at code in
    let good = listed_good c d u k goods at is in
    let zero_there : raw_in d (record { table = u.table; row = k }) 0 ≡ 0 = no_place (rows_with c (listed d)) (users_after c d) d.loaded _ _ good none in
    let raw : raw_in d (record { table = 0x06; row = k - 1 + 1 }) 0 ≡ 0 = rw e (rw is at zero_there) in
    let row = silent (lost_body_at c d) (rows_of d.layout 0x06) (k - 1) lost (omega (arith, at.low, high)) in
    kept_body (has_body (cell_of c.plain u 0)) _ _ raw (rw token at row)

-- a method's cell without a body says that there is none
pub bare_cell : (o : Option Cell) → has_body o ≡ false → option_map cell_kind o ≡ Some bodies → o ≡ Some (body None)
bare_cell None h kind = absurd cc
bare_cell (Some (body None)) h kind = refl
bare_cell (Some (body (Some b))) h kind = absurd cc
bare_cell (Some (number n)) h kind = absurd cc
bare_cell (Some (text x)) h kind = absurd cc
bare_cell (Some (blob x)) h kind = absurd cc
bare_cell (Some (guid x)) h kind = absurd cc
bare_cell (Some (refer t)) h kind = absurd cc
bare_cell (Some (field x)) h kind = absurd cc
