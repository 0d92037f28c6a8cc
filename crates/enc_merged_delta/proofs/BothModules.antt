-- The module after both deltas is sound, and where the tokens of the merged delta stand in it.
use Rattle.std.proofs.Common.{◌≡◌, ℕ, zero, suc, ◌+◌, ◌-◌, Bool, true, false, List, [], ◌∷◌, map, Option, Some, None, refl, sym, ap, ◌∙◌, inl, inr, arith, subst}
use Rattle.std.specs.Prelude.{◌==◌, option_map, slice_get, position, if◌then◌else◌, unwrap_or}
use Rattle.std.proofs.lemmas.Bool.{cases_Bool, or_left, or_right}
use Rattle.std.proofs.lemmas.Bool.Decides.{nat_tests}
use Rattle.enc_base.specs.Token.{is_token, nth_row, number_of}
use Rattle.enc_base.specs.declared.token.Token.{Token}
use Rattle.enc_plain.specs.Chain.{Chain}
use Rattle.enc_plain.specs.Module.{has_row}
use Rattle.enc_plain.specs.Sound.{IsSound}
use Rattle.enc_plain.proofs.Applied.{same_is}
use Rattle.enc_plain.proofs.KindsOf.{row_there}
use Rattle.enc_plain.proofs.Owned.{position_cons}
use Rattle.enc_rows.specs.Source.{Source}
use Rattle.enc_delta.specs.Delta.{listed, of_table, place_in}
use Rattle.enc_delta.specs.Rows.{own_row}
use Rattle.enc_delta.proofs.ListsSets.{Rises, rises}
use Rattle.enc_delta.proofs.Placing.{place_none}
use Rattle.enc_agg.specs.Extend.{extended}
use Rattle.enc_agg.proofs.SoundDeltas.{delta_keeps_sound}
use Rattle.enc_agg.proofs.Tokens.{place_token}
use Rattle.enc_merged_delta.specs.Merged.{MayMerge, SaysMerged, after_both, is_in_map}
use Rattle.enc_merged_delta.proofs.Among.{lists, number_there, self}
use Rattle.enc_merged_delta.proofs.Counts.{held_by_both}

pub sound_first : (c : Chain) (a b : Source) → MayMerge c a b → IsSound (extended c a).plain
sound_first c a b may = delta_keeps_sound c a may.first_read may.first.rules may.sound

pub sound_both : (c : Chain) (a b : Source) → MayMerge c a b → IsSound (after_both c a b).plain
sound_both c a b may = delta_keeps_sound (extended c a) b may.second_read may.second.rules (sound_first c a b may)

-- a token of the merged delta names a row of that module
pub row_of_both : (c : Chain) (a b s : Source) (u : Token) → MayMerge c a b → SaysMerged c a b s → is_in_map s u ≡ true → has_row (after_both c a b).plain u ≡ true
row_of_both c a b s u may says there =
    let held = held_by_both c a b s u may says there in
    row_there (after_both c a b).plain u held.low held.high

-- one of a table's tokens is among all
pub in_table : (table : ℕ) (ts : List Token) (n : ℕ) (u : Token) → slice_get (of_table table ts) n ≡ Some u → (u.table ≡ table) × (lists ts u ≡ true)
in_table table [] n u h = absurd cc
in_table table (t ∷ ts) n u h = by (t.table == table) refl n h (λ k e. in_table table ts k u e)
  where
    here : (t.table == table) ≡ true → t ≡ u → (u.table ≡ table) × (lists (t ∷ ts) u ≡ true)
    here own same =
        let first : t.table ≡ table = grind (arith, nat_tests, own) in
        (ap (λ (v : Token). v.table) (sym same) ∙ first, or_left (is_token t u) (lists ts u) (ap (is_token t) (sym same) ∙ self t))

    behind : (u.table ≡ table) × (lists ts u ≡ true) → (u.table ≡ table) × (lists (t ∷ ts) u ≡ true)
    behind rest = (rest.0, or_right (is_token t u) (lists ts u) rest.1)

    by : (own : Bool) → (t.table == table) ≡ own → (k : ℕ) → slice_get (if own then t ∷ of_table table ts else of_table table ts) k ≡ Some u
        → ((j : ℕ) → slice_get (of_table table ts) j ≡ Some u → (u.table ≡ table) × (lists ts u ≡ true)) → (u.table ≡ table) × (lists (t ∷ ts) u ≡ true)
    by true own zero e rest = let same : t ≡ u = cc in here own same
    by true own (suc k) e rest = behind (rest k e)
    by false own k e rest = behind (rest k e)

-- tokens that rise have different numbers
apart : (t u : Token) (ts : List Token) → Rises (map number_of (t ∷ ts)) → lists ts u ≡ true → t.table ≡ u.table → (t.row == u.row) ≡ false
apart t u ts up there table = elim (cases_Bool (t.row == u.row)) [
  | inr other ↦ other
  | inl same ↦
      let one : is_token t u ≡ true = grind (arith, nat_tests, same, table) in
      let e : number_of t ≡ number_of u = ap number_of (same_is t u one) in
      absurd (omega (arith, e, up.0 (number_of u) (number_there ts u there)))
]

position_at : (table : ℕ) (ts : List Token) (n : ℕ) (u : Token) → Rises (map number_of ts) → slice_get (of_table table ts) n ≡ Some u → position (λ (t : Token). t.row == u.row) (of_table table ts) ≡ Some n
position_at table [] n u up h = absurd cc
position_at table (t ∷ ts) n u up h = by (t.table == table) refl n h (λ k e. position_at table ts k u up.1 e)
  where
    self_row : (k : ℕ) → (k == k) ≡ true
    self_row k = grind (arith, nat_tests)

    by : (own : Bool) → (t.table == table) ≡ own → (k : ℕ) → slice_get (if own then t ∷ of_table table ts else of_table table ts) k ≡ Some u
        → ((j : ℕ) → slice_get (of_table table ts) j ≡ Some u → position (λ (v : Token). v.row == u.row) (of_table table ts) ≡ Some j)
        → position (λ (v : Token). v.row == u.row) (if own then t ∷ of_table table ts else of_table table ts) ≡ Some k
    by true own zero e rest =
        let same : t ≡ u = cc in
        position_cons (λ (v : Token). v.row == u.row) t (of_table table ts) ∙ rw (same, self_row u.row) refl
    by true own (suc k) e rest =
        let in_ = in_table table ts k u e in
        let first : t.table ≡ table = grind (arith, nat_tests, own) in
        position_cons (λ (v : Token). v.row == u.row) t (of_table table ts)
        ∙ rw (apart t u ts up in_.1 (first ∙ sym in_.0), rest k e) refl
    by false own k e rest = rest k e

-- the n-th token of a table goes with the table's n-th row
pub record NthToken (s : Source) (table n : ℕ) (u : Token) : Type 0 where
  pub own : u.table ≡ table
  pub there : is_in_map s u ≡ true
  pub place : place_in (listed s) u ≡ Some (n + 1)
  pub row : own_row s u ≡ nth_row table n

pub nth_token : (c : Chain) (a b s : Source) (table n : ℕ) (u : Token) → SaysMerged c a b s → slice_get (of_table table (listed s)) n ≡ Some u → NthToken s table n u
unfolding place_in
nth_token c a b s table n u says h =
    let in_ = in_table table (listed s) n u h in
    let own : slice_get (of_table u.table (listed s)) n ≡ Some u = subst (λ k. slice_get (of_table k (listed s)) n ≡ Some u) (sym in_.0) h in
    let one : suc n ≡ n + 1 = omega arith in
    let place : place_in (listed s) u ≡ Some (n + 1) = ap (λ (o : Option ℕ). option_map suc o) (position_at u.table (listed s) n u (rises (map number_of (listed s)) says.rises) own) ∙ ap (λ k. Some k) one in
    record {
      own = in_.0;
      there = in_.1;
      place = place;
      row = ap (λ (o : Option ℕ). record { table = u.table; row = unwrap_or o 0 }) place ∙ ap (λ t. record { table = t; row = n + 1 }) in_.0;
    }

-- a token has a place just where it is listed
pub placed : (s : Source) (u : Token) (k : ℕ) → place_in (listed s) u ≡ Some k → is_in_map s u ≡ true
placed s u k h = (in_table u.table (listed s) (k - 1) u (place_token (listed s) u k h).1).1

pub unplaced : (s : Source) (u : Token) → place_in (listed s) u ≡ None → is_in_map s u ≡ false
unplaced s u h = place_none (listed s) u h

pub no_place : (s : Source) (u : Token) → is_in_map s u ≡ false → place_in (listed s) u ≡ None
no_place s u h = by (place_in (listed s) u) refl
  where
    by : (o : Option ℕ) → place_in (listed s) u ≡ o → place_in (listed s) u ≡ None
    by None e = e
    by (Some k) e = let f : false ≡ true = sym h ∙ placed s u k e in absurd cc
