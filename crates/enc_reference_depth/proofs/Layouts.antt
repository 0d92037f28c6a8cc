-- New fields and methods keep their places.
use Rattle.std.proofs.Common.{◌≡◌, ℕ, Bool, true, false, List, Some, refl, sym, ◌∙◌}
use Rattle.std.specs.Prelude.{◌&&◌, ◌||◌, ◌==◌, ◌/◌, ◌%◌, not, bytes_eq, codes}
use Rattle.std.proofs.lemmas.Bool.{eqb-true}
use Rattle.enc_base.specs.Numbers.{has_flag}
use Rattle.enc_base.specs.declared.token.Token.{Token}
use Rattle.enc_schema.specs.Schema.{columns_in}
use Rattle.enc_plain.specs.Apply.{Attached}
use Rattle.enc_plain.specs.Cell.{numbers, texts, references, kind_in}
use Rattle.enc_plain.specs.Chain.{Chain}
use Rattle.enc_plain.specs.Module.{Module, cells_of, has_row}
use Rattle.enc_plain.specs.Rows.{Rows, number_at, bytes_at, token_at}
use Rattle.enc_plain.specs.ValueType.{is_value_type}
use Rattle.enc_plain.specs.Alike.{refs_alike}
use Rattle.enc_delta.specs.Changes.{has_no_slot, is_out_of_layout, may_differ}
use Rattle.enc_delta.specs.Rules.{is_insert}
use Rattle.enc_reference_depth.specs.Kept.{Lasts, LayoutsLast, SlotsLast}
use Rattle.enc_reference_depth.proofs.References.{BothRows, TypesAlike, RefsAre, same, types, assemblies, modules, refs_parts}
use Rattle.enc_reference_depth.proofs.Signatures.{TokensAre, references, specs, tokens_parts}
use Rattle.enc_reference_depth.proofs.Sound.{Names, reference_names}
use Rattle.enc_reference_depth.proofs.RowsKept.{number_kept, text_kept, reference_kept, named_row}

-- the columns that tell of layouts and slots
flags_kinds : (kind_in 0x02 0 ≡ Some numbers) × (kind_in 0x04 0 ≡ Some numbers) × (kind_in 0x06 2 ≡ Some numbers)
unfolding columns_in
flags_kinds = (refl, refl, refl)

base_kind : kind_in 0x02 3 ≡ Some references
unfolding columns_in
base_kind = refl

type_kinds : (kind_in 0x01 1 ≡ Some texts) × (kind_in 0x01 2 ≡ Some texts)
unfolding columns_in
type_kinds = (refl, refl)

-- what is told of a base type by its table and its names
abbrev tells_value : ℕ → List ℕ → List ℕ → Bool
tells_value table space name = table == 0x01 && bytes_eq space (codes "System") && (bytes_eq name (codes "ValueType") || bytes_eq name (codes "Enum"))

tells_same : (t u : ℕ) (space spaces name names : List ℕ) → t ≡ u → space ≡ spaces → name ≡ names → tells_value t space name ≡ tells_value u spaces names
tells_same t u space spaces name names e f g = rw (e, f, g) refl

value_by : (rows : Rows) (t b : Token) → token_at rows t 3 ≡ b → is_value_type rows t ≡ tells_value b.table (bytes_at rows b 2) (bytes_at rows b 1)
unfolding is_value_type
value_by rows t b e = rw e refl

no_value : (table : ℕ) (space name : List ℕ) → (table == 0x01) ≡ false → tells_value table space name ≡ false
no_value table space name e = rw e refl

module _ (m n : Module) (lasts : Lasts m n) where
  flags_of : (t : Token) (table i : ℕ) → t.table ≡ table → has_row m t ≡ true → may_differ table i ≡ false → kind_in table i ≡ Some numbers
      → number_at (cells_of n) t i ≡ number_at (cells_of m) t i
  flags_of t table i e there may kind = sym (number_kept m n t i lasts.keeps there (rw e may) (rw e kind))

  text_of : (t : Token) (i : ℕ) → t.table ≡ 0x01 → has_row m t ≡ true → may_differ 0x01 i ≡ false → kind_in 0x01 i ≡ Some texts
      → bytes_at (cells_of n) t i ≡ bytes_at (cells_of m) t i
  text_of t i e there may kind = sym (text_kept m n t i lasts.keeps there (rw e may) (rw e kind))

  abbrev Told : Token → Token → Type 0
  Told a b = tells_value b.table (bytes_at (cells_of n) b 2) (bytes_at (cells_of n) b 1)
      ≡ tells_value a.table (bytes_at (cells_of m) a 2) (bytes_at (cells_of m) a 1)

  -- an equal base type, and a TypeRef with equal names
  told_equal : (a b : Token) (is : Bool) → (a.table == 0x01) ≡ is → Names m a → a ≡ b → Told a b
  told_equal a b true e names same_token =
      let table = eqb-true a.table 0x01 e in
      let there = named_row m 0x01 a names table refl in
      rw (← same_token)
      (rw (text_of a 2 table there refl type_kinds.1, text_of a 1 table there refl type_kinds.0) refl)
  told_equal a b false e names same_token =
      rw (← same_token)
      (no_value a.table (bytes_at (cells_of n) a 2) (bytes_at (cells_of n) a 1) e
      ∙ sym (no_value a.table (bytes_at (cells_of m) a 2) (bytes_at (cells_of m) a 1) e))

  told_types : (a b : Token) (scopes : Token → Token → Bool) → Names m a → TypesAlike (cells_of n) scopes a b → Told a b
  told_types a b scopes names h =
      let there = named_row m 0x01 a names h.both.first refl in
      let space = sym h.space ∙ text_of a 2 h.both.first there refl type_kinds.1 in
      let name = sym h.name ∙ text_of a 1 h.both.first there refl type_kinds.0 in
      tells_same b.table a.table (bytes_at (cells_of n) b 2) (bytes_at (cells_of m) a 2) (bytes_at (cells_of n) b 1) (bytes_at (cells_of m) a 1)
      (h.both.second ∙ sym h.both.first) space name

  told_others : (a b : Token) (table : ℕ) → BothRows (cells_of n) table a b → (table == 0x01) ≡ false → Told a b
  told_others a b table h other =
      no_value b.table (bytes_at (cells_of n) b 2) (bytes_at (cells_of n) b 1) (rw h.second other)
      ∙ sym (no_value a.table (bytes_at (cells_of m) a 2) (bytes_at (cells_of m) a 1) (rw h.first other))

  told_case : (a b : Token) (scopes : Token → Token → Bool) → Names m a → RefsAre (cells_of n) scopes a b → Told a b
  told_case a b scopes names (same e) = told_equal a b (a.table == 0x01) refl names e
  told_case a b scopes names (types h) = told_types a b scopes names h
  told_case a b scopes names (assemblies h) = told_others a b 0x23 h.both refl
  told_case a b scopes names (modules h) = told_others a b 0x1A h.both refl

  told_by : (a b : Token) → Names m a → TokensAre (cells_of n) a b → Told a b
  told_by a b names (references h) = told_case a b (refs_alike (cells_of n) 99) names (refs_parts (cells_of n) 99 a b h)
  told_by a b names (specs h) = told_others a b 0x1B h.both refl

  -- a value type stays one, and no other type becomes one
  values_same : (t : Token) → t.table ≡ 0x02 → has_row m t ≡ true → is_value_type (cells_of n) t ≡ is_value_type (cells_of m) t
  values_same t e there =
      let a = token_at (cells_of m) t 3 in
      let b = token_at (cells_of n) t 3 in
      let kind : kind_in t.table 3 ≡ Some references = rw e base_kind in
      let may : may_differ t.table 3 ≡ false = rw e refl in
      value_by (cells_of n) t b refl
      ∙ told_by a b (reference_names m t 3 lasts.before there kind) (tokens_parts (cells_of n) a b (reference_kept m n t 3 lasts.keeps there may kind))
      ∙ sym (value_by (cells_of m) t a refl)

  layouts_by : (c : Chain) (a : Attached) (x y : Bool) → (a.child.table == 0x04) ≡ x → (a.owner.table == 0x02) ≡ y → has_row m a.child ≡ true
      → has_row m a.owner ≡ true
      → (x && y && not (is_insert c a.owner) && not (has_flag 0x10 (number_at (cells_of n) a.child 0))
      && (not (number_at (cells_of n) a.owner 0 / 8 % 4 == 0) || is_value_type (cells_of n) a.owner))
      ≡ (x && y && not (is_insert c a.owner) && not (has_flag 0x10 (number_at (cells_of m) a.child 0))
      && (not (number_at (cells_of m) a.owner 0 / 8 % 4 == 0) || is_value_type (cells_of m) a.owner))
  layouts_by c a true true e f there too =
      let t = eqb-true a.child.table 0x04 e in
      let u = eqb-true a.owner.table 0x02 f in
      rw (flags_of a.child 0x04 0 t there refl flags_kinds.1, flags_of a.owner 0x02 0 u too refl flags_kinds.0, values_same a.owner u too) refl
  layouts_by c a true false e f there too = refl
  layouts_by c a false y e f there too = refl

  slots_by : (c : Chain) (a : Attached) (x y : Bool) → (a.child.table == 0x06) ≡ x → (a.owner.table == 0x02) ≡ y → has_row m a.child ≡ true
      → has_row m a.owner ≡ true
      → (x && y && not (is_insert c a.owner) && has_flag 0x40 (number_at (cells_of n) a.child 2)
      && (has_flag 0x20 (number_at (cells_of n) a.owner 0) || has_flag 0x400 (number_at (cells_of n) a.child 2)))
      ≡ (x && y && not (is_insert c a.owner) && has_flag 0x40 (number_at (cells_of m) a.child 2)
      && (has_flag 0x20 (number_at (cells_of m) a.owner 0) || has_flag 0x400 (number_at (cells_of m) a.child 2)))
  slots_by c a true true e f there too =
      let t = eqb-true a.child.table 0x06 e in
      let u = eqb-true a.owner.table 0x02 f in
      rw (flags_of a.child 0x06 2 t there refl flags_kinds.2, flags_of a.owner 0x02 0 u too refl flags_kinds.0) refl
  slots_by c a true false e f there too = refl
  slots_by c a false y e f there too = refl

pub layouts_last : LayoutsLast
unfolding is_out_of_layout
layouts_last m n lasts c a there too = layouts_by m n lasts c a (a.child.table == 0x04) (a.owner.table == 0x02) refl refl there too

pub slots_last : SlotsLast
unfolding has_no_slot
slots_last m n lasts c a there too = slots_by m n lasts c a (a.child.table == 0x06) (a.owner.table == 0x02) refl refl there too
