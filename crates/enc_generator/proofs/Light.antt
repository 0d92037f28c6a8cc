-- Modules of rows with little in them, before and after edits.
use Rattle.std.proofs.Common.{◌≡◌, ℕ, zero, suc, ◌+◌, ◌*◌, ◌≤◌, List, [], ◌∷◌, ◌++◌, length, Option, Some, None, refl, ap, arith}
use Rattle.std.specs.Prelude.{slice_get, sum_by, unwrap_or, option_map}
use Rattle.std.proofs.lemmas.List.Sums.{sum_by-cons}
use Rattle.enc_base.specs.declared.token.Token.{Token}
use Rattle.enc_meta.specs.Built.{user_bytes}
use Rattle.enc_schema.specs.Schema.{list_at}
use Rattle.enc_base.specs.Tables.{method_def}
use Rattle.enc_opcodes.specs.Body.{Body}
use Rattle.enc_opcodes.specs.Sound.{instruction_size}
use Rattle.enc_plain.specs.Apply.{Change, Attached, change_at, put_row, put_at, change_row, put, apply, with_child, attach, attach_all}
use Rattle.enc_plain.specs.Cell.{Cell, number, text, blob, guid, refer, body, field}
use Rattle.enc_plain.specs.Module.{Module, Row, rows_in, row_at, row_of, cells_of}
use Rattle.enc_edit_list.specs.declared.edit.Edit.{Edit}
use Rattle.enc_edit_list.specs.Sizes.{length_of_code, placed}
use Rattle.enc_rules.specs.Edited.{body_stated, cells_stated, cells_with, cells_edited, changes_behind, attached_in, edited}
use Rattle.enc_rewriter.specs.Values.{texts_named}
use Rattle.enc_generator.specs.Generated.{named_row, body_loading, adds_method}
use Rattle.enc_generator.proofs.Acts.{Act, plain_row, method, code, edit_of_act, edits_of_acts}
use Rattle.enc_generator.proofs.Sums.{AllHave, all_at, all_changed, sum_changed}

-- what a body takes in code and in `#US`, and what a cell takes wherever it has its bytes
abbrev pub body_load : Option Body → ℕ
body_load None = 0
body_load (Some b) = 32 + b.size + 24 * length b.handlers + sum_by (λ (v : List ℕ). length (user_bytes v)) (texts_named b.code)

abbrev pub cell_load : Cell → ℕ
cell_load (number n) = 0
cell_load (text v) = length v + 1
cell_load (blob v) = length v + 4
cell_load (guid v) = 16
cell_load (refer t) = 0
cell_load (body there) = body_load there
cell_load (field there) = 8 + length there

abbrev pub cells_load : List Cell → ℕ
cells_load cells = sum_by cell_load cells

abbrev pub first_load : List Cell → ℕ
first_load [] = 0
first_load (c ∷ cells) = cell_load c

abbrev pub rest_load : List Cell → ℕ
rest_load [] = 0
rest_load (c ∷ cells) = cells_load cells

-- a row in which the first cell takes little, and so do the others
pub record IsLight (cells : List Cell) : Type 0 where
  pub first : first_load cells ≤ 64
  pub rest : rest_load cells ≤ 64

pub light_load : (cells : List Cell) → IsLight cells → cells_load cells ≤ 128
light_load [] light = omega arith
light_load (c ∷ cells) light = let n = sum_by-cons cell_load c cells in let a = light.first in let b = light.rest in omega (arith, n, a, b)

pub light_none : IsLight []
light_none = record { first = omega arith; rest = omega arith }

abbrev pub IsLightRow : Row → Type 0
IsLightRow r = IsLight r.cells

abbrev pub AreLightRows : List Row → Type 0
AreLightRows rows = AllHave IsLightRow rows

-- a module of light rows, at most so many, and without resources
pub record IsLittle (n : ℕ) (m : Module) : Type 0 where
  pub rows : AllHave AreLightRows m.tables
  pub few : sum_by (λ (rows : List Row). length rows) m.tables ≤ n
  pub bare : m.resources ≡ []

pub more_few : (k n : ℕ) (m : Module) → k ≤ n → IsLittle k m → IsLittle n m
more_few k n m h little = let few = little.few in record { rows = little.rows; few = omega (arith, h, few); bare = little.bare }

-- the cells of a row of such a module
light_by : (rows : List Row) (o : Option Row) (n : ℕ) → AreLightRows rows → slice_get rows n ≡ o → IsLight (unwrap_or (option_map (λ (r : Row). r.cells) o) [])
light_by rows None n light there = light_none
light_by rows (Some r) n light there = all_at IsLightRow rows n r light there

light_rows : (tables : List (List Row)) (t : ℕ) → AllHave AreLightRows tables → AreLightRows (list_at tables t)
light_rows [] t light = tt
light_rows (rows ∷ tables) zero light = light.0
light_rows (rows ∷ tables) (suc t) light = light_rows tables t light.1

pub cells_light : (m : Module) (u : Token) → AllHave AreLightRows m.tables → IsLight (unwrap_or (cells_of m u) [])
unfolding row_of
cells_light m u light = by u.row
  where
    by : (r : ℕ) → IsLight (unwrap_or (option_map (λ (r : Row). r.cells) (row_at (rows_in m u.table) r)) [])
    by zero = light_none
    by (suc n) = light_by (rows_in m u.table) (slice_get (rows_in m u.table) n) n (light_rows m.tables u.table light) refl

-- a row put in place
put_light : (table : ℕ) (rows : List Row) (n : ℕ) (cells : List Cell) → IsLight cells → AreLightRows rows → AreLightRows (put_row table rows n cells)
put_light table [] zero cells light all = (light, tt)
put_light table [] (suc n) cells light all = tt
put_light table (r ∷ rows) zero cells light all = (light, all.1)
put_light table (r ∷ rows) (suc n) cells light all = (all.0, put_light table rows n cells light all.1)

put_few : (table : ℕ) (rows : List Row) (n : ℕ) (cells : List Cell) → length (put_row table rows n cells) ≤ length rows + 1
put_few table [] zero cells = omega arith
put_few table [] (suc n) cells = omega arith
put_few table (r ∷ rows) zero cells = omega arith
put_few table (r ∷ rows) (suc n) cells = let rest = put_few table rows n cells in omega (arith, rest)

at_light : (table : ℕ) (rows : List Row) (row : ℕ) (cells : List Cell) → IsLight cells → AreLightRows rows → AreLightRows (put_at table rows row cells)
unfolding put_at
at_light table rows zero cells light all = all
at_light table rows (suc n) cells light all = put_light table rows n cells light all

at_few : (table : ℕ) (rows : List Row) (row : ℕ) (cells : List Cell) → length (put_at table rows row cells) ≤ length rows + 1
unfolding put_at
at_few table rows zero cells = omega arith
at_few table rows (suc n) cells = put_few table rows n cells

put_little : (n : ℕ) (m : Module) (c : Change) → IsLittle n m → IsLight c.cells → IsLittle (n + 1) (put m c)
unfolding put
put_little n m c little light =
    let more = sum_changed (λ (rows : List Row). length rows) (λ rows. put_at c.token.table rows c.token.row c.cells) 1 m.tables c.token.table (λ rows. at_few c.token.table rows c.token.row c.cells) in
    let few = little.few in
    record {
      rows = all_changed AreLightRows (λ rows. put_at c.token.table rows c.token.row c.cells) m.tables c.token.table (λ rows all. at_light c.token.table rows c.token.row c.cells light all) little.rows;
      few = omega (arith, more, few);
      bare = little.bare;
    }

apply_little : (n : ℕ) (m : Module) (cs : List Change) → IsLittle n m → AllHave (λ (c : Change). IsLight c.cells) cs → IsLittle (n + length cs) (apply m cs)
unfolding apply
apply_little n m [] little light = more_few n (n + 0) m (omega arith) little
apply_little n m (c ∷ cs) little light =
    let rest = apply_little (n + 1) (put m c) cs (put_little n m c little light.0) light.1 in
    more_few (n + 1 + length cs) (n + suc (length cs)) (apply (put m c) cs) (omega arith) rest

-- children take nothing
child_light : (child : Token) (rows : List Row) (row : ℕ) → AreLightRows rows → AreLightRows (change_row rows row (with_child child))
unfolding change_row
child_light child rows zero all = all
child_light child rows (suc n) all = all_changed IsLightRow (with_child child) rows n (λ r light. light) all

changed_many : {A : Type 0} (xs : List A) (n : ℕ) (f : A → A) → length (change_at xs n f) ≡ length xs
changed_many [] n f = refl
changed_many (x ∷ xs) zero f = refl
changed_many (x ∷ xs) (suc n) f = ap suc (changed_many xs n f)

child_few : (child : Token) (rows : List Row) (row : ℕ) → length (change_row rows row (with_child child)) ≤ length rows + 0
unfolding change_row
child_few child rows zero = omega arith
child_few child rows (suc n) = let same = changed_many rows n (with_child child) in omega (arith, same)

attach_little : (n : ℕ) (m : Module) (a : Attached) → IsLittle n m → IsLittle n (attach m a)
unfolding attach
attach_little n m a little =
    let more = sum_changed (λ (rows : List Row). length rows) (λ rows. change_row rows a.owner.row (with_child a.child)) 0 m.tables a.owner.table (λ rows. child_few a.child rows a.owner.row) in
    let few = little.few in
    record {
      rows = all_changed AreLightRows (λ rows. change_row rows a.owner.row (with_child a.child)) m.tables a.owner.table (λ rows all. child_light a.child rows a.owner.row all) little.rows;
      few = omega (arith, more, few);
      bare = little.bare;
    }

attached_little : (n : ℕ) (m : Module) (pairs : List Attached) → IsLittle n m → IsLittle n (attach_all m pairs)
unfolding attach_all
attached_little n m [] little = little
attached_little n m (a ∷ pairs) little = attached_little n (attach m a) pairs (attach_little n m a little)

-- an act that gives its row little
abbrev pub IsLittleAct : Act → Type 0
IsLittleAct (plain_row table cells) = IsLight (cells_stated table cells None)
IsLittleAct (method name n) = length name ≤ 48
IsLittleAct (code r n) = Unit {0}

loading_load : (n : ℕ) → body_load (Some (body_stated (body_loading n))) ≡ 38
unfolding body_stated texts_named placed length_of_code instruction_size
loading_load n = refl

pub method_light : (m : Module) (name : List ℕ) (n : ℕ) → length name ≤ 48 → IsLight (cells_edited m (adds_method name n))
unfolding cells_stated
method_light m name n short = let own = loading_load n in record { first = omega (arith, own); rest = omega (arith, short) }

code_light : (n : ℕ) (cells : List Cell) → IsLight cells → IsLight (cells_with (body_stated (body_loading n)) cells)
code_light n [] light = light_none
code_light n (c ∷ cells) light = let own = loading_load n in let rest = light.rest in record { first = omega (arith, own); rest = rest }

act_light : (m : Module) (a : Act) → AllHave AreLightRows m.tables → IsLittleAct a → IsLight (cells_edited m (edit_of_act a))
act_light m (plain_row table cells) light little = little
act_light m (method name n) light little = method_light m name n little
act_light m (code r n) light little = code_light n (unwrap_or (cells_of m (named_row method_def r)) []) (cells_light m (named_row method_def r) light)

changes_light : (m : Module) (before : List Edit) (acts : List Act) → AllHave AreLightRows m.tables → AllHave IsLittleAct acts → AllHave (λ (c : Change). IsLight c.cells) (changes_behind m before (edits_of_acts acts))
unfolding changes_behind
changes_light m before [] light little = tt
changes_light m before (a ∷ acts) light little = (act_light m a light little.0, changes_light m (before ++ edit_of_act a ∷ []) acts light little.1)

changes_many : (m : Module) (before : List Edit) (acts : List Act) → length (changes_behind m before (edits_of_acts acts)) ≡ length acts
unfolding changes_behind
changes_many m before [] = refl
changes_many m before (a ∷ acts) = ap suc (changes_many m (before ++ edit_of_act a ∷ []) acts)

-- a module of few light rows has few more after acts that bring little
pub edited_little : (n : ℕ) (m : Module) (acts : List Act) → IsLittle n m → AllHave IsLittleAct acts → IsLittle (n + length acts) (edited m (edits_of_acts acts))
unfolding edited
edited_little n m acts little brings =
    let many = changes_many m [] acts in
    let all = apply_little n m (changes_behind m [] (edits_of_acts acts)) little (changes_light m [] acts little.rows brings) in
    attached_little (n + length acts) (apply m (changes_behind m [] (edits_of_acts acts))) (attached_in m (edits_of_acts acts))
    (more_few (n + length (changes_behind m [] (edits_of_acts acts))) (n + length acts) (apply m (changes_behind m [] (edits_of_acts acts))) (omega (arith, many)) all)
