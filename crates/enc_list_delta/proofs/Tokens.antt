-- The tokens that a list writes: those of each table, and EncMap.
use Rattle.std.proofs.Common.{◌≡◌, ℕ, suc, ◌+◌, ◌*◌, ◌≤◌, true, false, List, [], ◌∷◌, Some, None, refl, sym, ap, ◌∙◌, inl, inr, arith}
use Rattle.std.specs.Prelude.{nat_lt, slice_get, ◌==◌, not}
use Rattle.std.specs.List.{list_any, list_all}
use Rattle.std.proofs.lemmas.Bool.{lt-ltb, both_ways, cases_lt, and_parts, eqb-true, false_from_ne_true}
use Rattle.enc_base.specs.Token.{nth_row, is_token}
use Rattle.enc_base.specs.declared.token.Token.{Token}
use Rattle.enc_plain.specs.Chain.{Chain}
use Rattle.enc_rows.specs.Source.{Source}
use Rattle.enc_delta.specs.Delta.{is_module, listed, of_table, place_in}
use Rattle.enc_delta.specs.Rules.{may_change}
use Rattle.enc_edit_list.specs.declared.edit.Edit.{Edit}
use Rattle.enc_edit_list.specs.declared.edit.EditList.{EditList}
use Rattle.enc_rules.specs.Listed.{count_after}
use Rattle.enc_memory_module.proofs.Unbroken.{BreakNothing}
use Rattle.enc_list_delta.specs.Delta.{is_edited, tokens_written, map_written}
use Rattle.enc_list_delta.specs.Holds.{MayFollow, SaysDelta}
use Rattle.enc_list_delta.proofs.TokensUnbroken.{nothing_breaks, counts_fit}
use Rattle.enc_list_delta.proofs.TokensAbout.{StandsAfter, stands_after, Stands, stands}
use Rattle.enc_list_delta.proofs.TokensWritten.{one_of, passing_table, all_passing, none_passing, passing_any, Rise, passing_rise, rise_to, place_rising, no_place}
use Rattle.enc_list_delta.proofs.TokensByTable.{OfTables, of_one, of_none, all_rise, all_pass, all_kept}

-- the tokens of a table are of the table
pub written_table : (c : Chain) (edits : List Edit) → OfTables (tokens_written c edits)
unfolding tokens_written
written_table c edits table = passing_table (is_edited c.plain edits) table (count_after c edits table)

-- what stands among them: a row of the table that an edit is about
pub record IsWritten (c : Chain) (edits : List Edit) (table : ℕ) (u : Token) : Type 0 where
  pub own : u.table ≡ table
  pub about : is_edited c.plain edits u ≡ true

pub all_about : (c : Chain) (edits : List Edit) (table : ℕ) → list_all (is_edited c.plain edits) (tokens_written c edits table) ≡ true
unfolding tokens_written
all_about c edits table = all_passing (is_edited c.plain edits) (is_edited c.plain edits) table (count_after c edits table) (λ k low h. h)

pub is_written : (c : Chain) (edits : List Edit) (table n : ℕ) (u : Token) → slice_get (tokens_written c edits table) n ≡ Some u → IsWritten c edits table u
is_written c edits table n u h = record {
  own = eqb-true u.table table (one_of (λ (t : Token). t.table == table) (tokens_written c edits table) n u (written_table c edits table) h);
  about = one_of (is_edited c.plain edits) (tokens_written c edits table) n u (all_about c edits table) h;
}

-- each row that an edit is about stands there
pub any_written : (c : Chain) (l : EditList) (u : Token) → BreakNothing c l → is_edited c.plain l.edits u ≡ true → list_any (λ t. is_token t u) (tokens_written c l.edits u.table) ≡ true
unfolding tokens_written
any_written c l u none h =
    let w = stands_after c l u none h in
    passing_any (is_edited c.plain l.edits) u (count_after c l.edits u.table) h w.low w.high

pub written_at : (c : Chain) (l : EditList) (u : Token) → BreakNothing c l → is_edited c.plain l.edits u ≡ true → Stands (tokens_written c l.edits u.table) u
written_at c l u none h = stands (tokens_written c l.edits u.table) u (any_written c l u none h)

-- a table of which no edit is about a row has none
pub none_written : (c : Chain) (edits : List Edit) (table : ℕ) → ((u : Token) → u.table ≡ table → is_edited c.plain edits u ≡ false) → tokens_written c edits table ≡ []
unfolding tokens_written
none_written c edits table none = none_passing (is_edited c.plain edits) table (count_after c edits table) (λ k low. none (nth_row table k) refl)

-- so a table has none that edits can't be about
pub closed_empty : (c : Chain) (l : EditList) (table : ℕ) → BreakNothing c l → ((u : Token) → u.table ≡ table → StandsAfter c l u → ⊥) → tokens_written c l.edits table ≡ []
closed_empty c l table none shut = none_written c l.edits table (λ u is. false_from_ne_true (is_edited c.plain l.edits u) (λ h. shut u is (stands_after c l u none h)))

-- none: Module, EncLog and EncMap, a table past those of metadata, one that may not change
pub module_empty : (c : Chain) (l : EditList) → BreakNothing c l → tokens_written c l.edits 0 ≡ []
module_empty c l none = closed_empty c l 0 none (λ u is w. both_ways (u.table == 0) w.module_ (rw is refl))

pub log_empty : (c : Chain) (l : EditList) → BreakNothing c l → tokens_written c l.edits 0x1E ≡ []
log_empty c l none = closed_empty c l 0x1E none (λ u is w. both_ways (u.table == 0x1E) w.log (rw is refl))

pub map_empty : (c : Chain) (l : EditList) → BreakNothing c l → tokens_written c l.edits 0x1F ≡ []
map_empty c l none = closed_empty c l 0x1F none (λ u is w. both_ways (u.table == 0x1F) w.map_ (rw is refl))

pub past_empty : (c : Chain) (l : EditList) (table : ℕ) → BreakNothing c l → 0x2D ≤ table → tokens_written c l.edits table ≡ []
past_empty c l table none past = closed_empty c l table none (λ u is w. let small = w.small in omega (arith, is, small, past))

pub unchanging_empty : (c : Chain) (l : EditList) (table : ℕ) → BreakNothing c l → may_change table ≡ false → tokens_written c l.edits table ≡ []
unchanging_empty c l table none shut = closed_empty c l table none (λ u is w. both_ways (may_change u.table) (rw is shut) w.may)

-- EncMap has the tokens of each table
pub map_of_table : (c : Chain) (l : EditList) (table : ℕ) → BreakNothing c l → of_table table (map_written c l.edits) ≡ tokens_written c l.edits table
unfolding map_written
map_of_table c l table none = elim (cases_lt table 64) [
  | inl low ↦ of_one (tokens_written c l.edits) table 64 (written_table c l.edits) low
  | inr past ↦ of_none (tokens_written c l.edits) table 64 (written_table c l.edits) past ∙ sym (past_empty c l table none (omega (arith, past)))
]

-- and rises
written_rise : (c : Chain) (l : EditList) → MayFollow c l → (table : ℕ) → Rise (table * 0x1000000) (tokens_written c l.edits table) ((table + 1) * 0x1000000)
unfolding tokens_written
written_rise c l may table =
    let few = counts_fit c l may table in
    rise_to (table * 0x1000000) (table * 0x1000000 + count_after c l.edits table + 1) ((table + 1) * 0x1000000) _ (omega (arith, few)) (passing_rise (is_edited c.plain l.edits) table (count_after c l.edits table))

pub map_rise : (c : Chain) (l : EditList) → MayFollow c l → Rise 0 (map_written c l.edits) (64 * 0x1000000)
unfolding map_written
map_rise c l may = all_rise (tokens_written c l.edits) 64 (written_rise c l may)

-- none of its tokens is the Module's
not_module : (t : Token) → (t.table == 0) ≡ false → not (is_module t) ≡ true
not_module t h = rw h refl

pub map_no_module : (c : Chain) (l : EditList) → BreakNothing c l → list_all (λ t. not (is_module t)) (map_written c l.edits) ≡ true
unfolding map_written tokens_written
map_no_module c l none = all_pass (λ t. not (is_module t)) (tokens_written c l.edits) 64 (λ table. all_passing (is_edited c.plain l.edits) (λ t. not (is_module t)) table (count_after c l.edits table) (λ k low h. not_module (nth_row table k) (stands_after c l (nth_row table k) none h).module_))

-- each has a table of metadata, and a row of three bytes
pub map_tables_fit : (c : Chain) (l : EditList) → BreakNothing c l → list_all (λ (t : Token). nat_lt t.table 0x2D) (map_written c l.edits) ≡ true
unfolding map_written tokens_written
map_tables_fit c l none = all_pass (λ (t : Token). nat_lt t.table 0x2D) (tokens_written c l.edits) 64 (λ table. all_passing (is_edited c.plain l.edits) (λ (t : Token). nat_lt t.table 0x2D) table (count_after c l.edits table) (λ k low h. lt-ltb table 0x2D (stands_after c l (nth_row table k) none h).small))

pub map_rows_fit : (c : Chain) (l : EditList) → MayFollow c l → list_all (λ (t : Token). nat_lt t.row 0x1000000) (map_written c l.edits) ≡ true
unfolding map_written tokens_written
map_rows_fit c l may = all_pass (λ (t : Token). nat_lt t.row 0x1000000) (tokens_written c l.edits) 64 (λ table. let few = counts_fit c l may table in all_passing (is_edited c.plain l.edits) (λ (t : Token). nat_lt t.row 0x1000000) table (count_after c l.edits table) (λ k low h. lt-ltb (k + 1) 0x1000000 (omega (arith, low, few))))

-- so the tokens that count are all of EncMap
pub listed_is : (c : Chain) (l : EditList) (s : Source) → MayFollow c l → SaysDelta c l s → listed s ≡ map_written c l.edits
unfolding listed
listed_is c l s may says = rw says.map_ (all_kept (λ t. not (is_module t)) (map_written c l.edits) (map_no_module c l (nothing_breaks c l may)))

-- those of each table
pub listed_of_table : (c : Chain) (l : EditList) (s : Source) → MayFollow c l → SaysDelta c l s → (table : ℕ) → of_table table (listed s) ≡ tokens_written c l.edits table
listed_of_table c l s may says table = ap (of_table table) (listed_is c l s may says) ∙ map_of_table c l table (nothing_breaks c l may)

-- the place of a token is its place among its table's, from 1
pub place_written : (c : Chain) (l : EditList) (s : Source) → MayFollow c l → SaysDelta c l s → (table n : ℕ) (u : Token) → slice_get (tokens_written c l.edits table) n ≡ Some u → place_in (listed s) u ≡ Some (n + 1)
unfolding place_in
place_written c l s may says table n u h =
    let own = (is_written c l.edits table n u h).own in
    let one : suc n ≡ n + 1 = omega arith in
    rw (own, listed_of_table c l s may says table, place_rising _ _ table (tokens_written c l.edits table) n u (written_rise c l may table) (written_table c l.edits table) h, one) refl

-- and a row that no edit is about has none
row_any : (ts : List Token) (u : Token) → list_all (λ (t : Token). t.table == u.table) ts ≡ true → list_any (λ (t : Token). t.row == u.row) ts ≡ list_any (λ t. is_token t u) ts
row_any [] u all = refl
row_any (t ∷ ts) u all =
    let two = and_parts (t.table == u.table) (list_all (λ (v : Token). v.table == u.table) ts) all in
    rw (two.0, row_any ts u two.1) refl

none_listed : (c : Chain) (l : EditList) (u : Token) → is_edited c.plain l.edits u ≡ false → list_any (λ t. is_token t u) (tokens_written c l.edits u.table) ≡ false
none_listed c l u none = false_from_ne_true (list_any (λ t. is_token t u) (tokens_written c l.edits u.table)) (λ h. let w = stands (tokens_written c l.edits u.table) u h in both_ways (is_edited c.plain l.edits u) none (is_written c l.edits u.table w.at u w.there).about)

pub place_none : (c : Chain) (l : EditList) (s : Source) → MayFollow c l → SaysDelta c l s → (u : Token) → is_edited c.plain l.edits u ≡ false → place_in (listed s) u ≡ None
unfolding place_in
place_none c l s may says u none =
    let any : list_any (λ (t : Token). t.row == u.row) (tokens_written c l.edits u.table) ≡ false = row_any (tokens_written c l.edits u.table) u (written_table c l.edits u.table) ∙ none_listed c l u none in
    rw (listed_of_table c l s may says u.table, no_place (λ (t : Token). t.row == u.row) (tokens_written c l.edits u.table) any) refl
