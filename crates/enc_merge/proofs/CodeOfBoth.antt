-- The code of a method in the delta that stands for two: that of the newest of the two that lists it.
use Rattle.std.proofs.Common.{◌≡◌, ℕ, true, false, List, Option, Some, None, refl, sym, ap, ◌∙◌}
use Rattle.std.specs.Prelude.{is_some, option_and_then, option_map, unwrap_or}
use Rattle.enc_base.specs.declared.token.Token.{Token}
use Rattle.enc_opcodes.specs.Body.{Code, body_of}
use Rattle.enc_rows.specs.Layout.{raw_cell}
use Rattle.enc_rows.specs.Source.{Source, raw_in}
use Rattle.enc_schema.specs.Schema.{column_in}
use Rattle.enc_base.specs.Tables as tables
use Rattle.enc_schema.specs.declared.column.Column.{Column}
use Rattle.enc_plain.specs.Bodies.{body_loaded, code_loaded}
use Rattle.enc_plain.specs.Cell.{Cell, body}
use Rattle.enc_plain.specs.Chain.{Chain}
use Rattle.enc_plain.specs.Module.{cell_of}
use Rattle.enc_plain.specs.Sound.{HasTables}
use Rattle.enc_delta.specs.Delta.{listed, place_in}
use Rattle.enc_delta.specs.Rows.{own_row}
use Rattle.enc_delta.specs.Rules.{has_body, users_after}
use Rattle.enc_agg.specs.Extend.{extended}
use Rattle.enc_agg.specs.Follows.{Follows}
use Rattle.enc_agg.specs.Seen.{History}
use Rattle.enc_agg.proofs.Fitting.{fits, has_tables}
use Rattle.enc_agg.proofs.Viewing.{body_listed, kept_cell}
use Rattle.enc_checker.specs.Check.{code_size, new_code}
use Rattle.enc_merged_delta.specs.Merged.{SaysMerged, is_in_map}
use Rattle.enc_merged_delta.proofs.BodiesSaid.{body_lasts, body_said}
use Rattle.enc_merge.specs.Writing.{AreLast, Both, chain_of_both}
use Rattle.enc_merge.proofs.NewestRows.{place_any}

-- the size of the code of the body that a cell has, 0 where it has none
abbrev cell_size : Option Cell → ℕ
cell_size (Some (body (Some b))) = b.size
cell_size _ = 0

-- a cell has the body that a delta gives a method
record HasCode (o : Option Cell) (d : Source) (u : Token) : Type 0 where
  size : cell_size o ≡ code_size (new_code d u)
  some : has_body o ≡ is_some (new_code d u)

size_loaded : (users : ℕ → Option (List ℕ)) (k : Option Code) → cell_size (Some (body (option_map (body_of users) k))) ≡ code_size k
unfolding body_of
size_loaded users None = refl
size_loaded users (Some k) = refl

some_loaded : (users : ℕ → Option (List ℕ)) (k : Option Code) → has_body (Some (body (option_map (body_of users) k))) ≡ is_some k
some_loaded users None = refl
some_loaded users (Some k) = refl

code_by : (o : Option Cell) (d : Source) (u : Token) (users : ℕ → Option (List ℕ)) → o ≡ Some (body (body_loaded d.loaded users (raw_in d (own_row d u) 0))) → HasCode o d u
unfolding body_loaded
code_by o d u users is = record { size = ap cell_size is ∙ size_loaded users (new_code d u); some = ap has_body is ∙ some_loaded users (new_code d u) }

-- a token that is listed has a place
abbrev IsPlaced : Source → Token → Type 0
IsPlaced d u = (k : ℕ) × (place_in (listed d) u ≡ Some k)

placed_by : (d : Source) (u : Token) (o : Option ℕ) → place_in (listed d) u ≡ o → is_some o ≡ true → IsPlaced d u
placed_by d u None is some = absurd cc
placed_by d u (Some k) is some = (k, is)

placed : (d : Source) (u : Token) → is_in_map d u ≡ true → IsPlaced d u
placed d u there = placed_by d u (place_in (listed d) u) refl (place_any d u ∙ there)

not_placed : (d : Source) (u : Token) → is_in_map d u ≡ false → place_in (listed d) u ≡ None
not_placed d u none = by (place_in (listed d) u) (place_any d u ∙ none)
  where
    by : (o : Option ℕ) → is_some o ≡ false → o ≡ None
    by None h = refl
    by (Some k) h = absurd cc

-- the cell of a method that a delta lists has its body
code_after : (c : Chain) (d : Source) (u : Token) → HasTables c.plain → Follows c d → u.table ≡ tables.method_def → is_in_map d u ≡ true → HasCode (cell_of (extended c d).plain u 0) d u
code_after c d u has f is there =
    let at = placed d u there in
    let row : own_row d u ≡ record { table = u.table; row = at.0 } = ap (λ (o : Option ℕ). record { table = u.table; row = unwrap_or o 0 }) at.1 in
    code_by (cell_of (extended c d).plain u 0) d u (users_after c d) (body_listed c d u at.0 (raw_in d (own_row d u) 0) (fits c d has f.lands) at.1 is (ap (λ (t : Token). raw_in d t 0) (sym row)))

-- two deltas give a method the same code, by its size
pub record SameCode (s d : Source) (u : Token) : Type 0 where
  pub size : code_size (new_code s u) ≡ code_size (new_code d u)
  pub some : is_some (new_code s u) ≡ is_some (new_code d u)

same_code : (o : Option Cell) (s d : Source) (u : Token) → HasCode o s u → HasCode o d u → SameCode s d u
same_code o s d u a b = record { size = sym a.size ∙ b.size; some = sym a.some ∙ b.some }

module _ (h : History) (x : Both) (s : Source) (u : Token) (are : AreLast h x) (says : SaysMerged x.chain x.first x.second s) (is : u.table ≡ tables.method_def) where
  tables_first : HasTables (extended x.chain x.first).plain
  tables_first = has_tables x.chain x.first are.sound.owners.tables

  code_of_merged : is_in_map s u ≡ true → HasCode (cell_of (chain_of_both x).plain u 0) s u
  code_of_merged there = code_by (cell_of (chain_of_both x).plain u 0) s u (users_after x.chain s) (body_said x.chain x.first x.second s u says there is)

  pub code_of_second : is_in_map s u ≡ true → is_in_map x.second u ≡ true → SameCode s x.second u
  code_of_second there listed =
      same_code (cell_of (chain_of_both x).plain u 0) s x.second u (code_of_merged there) (code_after (extended x.chain x.first) x.second u tables_first are.second is listed)

  pub code_of_first : is_in_map s u ≡ true → is_in_map x.second u ≡ false → is_in_map x.first u ≡ true → SameCode s x.first u
  code_of_first there none listed =
      let first = code_after x.chain x.first u are.sound.owners.tables are.first is listed in
      let kept : cell_of (chain_of_both x).plain u 0 ≡ cell_of (extended x.chain x.first).plain u 0 = kept_cell (extended x.chain x.first) x.second u 0 (fits (extended x.chain x.first) x.second tables_first are.second.lands) (not_placed x.second u none) in
      same_code (cell_of (chain_of_both x).plain u 0) s x.first u (code_of_merged there) (record { size = ap cell_size kept ∙ first.size; some = ap has_body kept ∙ first.some })

-- a method to which the first gives a body has one in the second, where that lists it
pub code_lasts : (h : History) (x : Both) (u : Token) → AreLast h x → u.table ≡ tables.method_def → is_in_map x.first u ≡ true → is_in_map x.second u ≡ true → is_some (new_code x.first u) ≡ true → is_some (new_code x.second u) ≡ true
code_lasts h x u are is first second some =
    let tables_first = has_tables x.chain x.first are.sound.owners.tables in
    let had : has_body (cell_of (extended x.chain x.first).plain u 0) ≡ true = (code_after x.chain x.first u are.sound.owners.tables are.first is first).some ∙ some in
    sym (code_after (extended x.chain x.first) x.second u tables_first are.second is second).some ∙ body_lasts (extended x.chain x.first) x.second u tables_first are.second is had

-- a delta gives no body to a method that it doesn't list
abbrev nothing : Option ℕ
nothing = None

no_then : (o : Option Column) → option_and_then (λ (column : Column). nothing) o ≡ nothing
no_then None = refl
no_then (Some column) = refl

pub no_code : (d : Source) (u : Token) → is_in_map d u ≡ false → is_some (new_code d u) ≡ false
unfolding code_loaded raw_cell
no_code d u none =
    let row : own_row d u ≡ record { table = u.table; row = 0 } = ap (λ (o : Option ℕ). record { table = u.table; row = unwrap_or o 0 }) (not_placed d u none) in
    ap (λ (t : Token). is_some (code_loaded d.loaded (raw_in d t 0))) row ∙ ap (λ (o : Option ℕ). is_some (code_loaded d.loaded (unwrap_or o 0))) (no_then (column_in u.table 0))
