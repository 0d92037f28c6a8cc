-- The Mvid of a chain's module and its last EncId have numbers in the joined `#GUID`.
use Rattle.std.proofs.Common.{◌≡◌, ℕ, zero, suc, ◌+◌, ◌*◌, ◌<◌, ◌≤◌, Bool, true, false, List, [], ◌∷◌, ◌++◌, length, map, Option, Some, None, refl, sym, ap, ◌∙◌, inl, inr, arith}
use Rattle.std.specs.Prelude.{◌&&◌, ◌==◌, nat_le, not, filter, option_map, option_and_then, unwrap_or, slice_get, if◌then◌else◌}
use Rattle.std.specs.List.{list_all}
use Rattle.std.proofs.lemmas.Bool.{cases_lt}
use Rattle.std.proofs.lemmas.Bool.Decides.{nat_tests}
use Rattle.enc_base.specs.Order.{or_else}
use Rattle.enc_base.specs.Token.{nth_row}
use Rattle.enc_base.specs.declared.token.Token.{Token}
use Rattle.enc_meta.specs.Heaps.{Counted, sixteen_at, guid_at, nil_guid}
use Rattle.enc_meta.specs.declared.heaps.HeapLengths.{HeapLengths}
use Rattle.enc_meta.specs.Joined.{joined_lengths, joined_guid, guid_entries}
use Rattle.enc_meta.proofs.Alone.{guid_alone}
use Rattle.enc_plain.specs.Apply.{Change, put_at, change_at, put, apply}
use Rattle.enc_plain.specs.Cell.{Cell, number, guid, cell_count}
use Rattle.enc_plain.specs.Chain.{Chain, guid_in, mvid_of, id_of}
use Rattle.enc_plain.specs.Module.{Module, Row, rows_in, row_at, row_of, cells_of, cell_of}
use Rattle.enc_plain.specs.Reading.{cell_read, cell_with}
use Rattle.enc_plain.proofs.AttachedTo.{cells_attached}
use Rattle.enc_schema.specs.Schema.{columns_in, list_at}
use Rattle.enc_rows.specs.Layout.{rows_of}
use Rattle.enc_rows.specs.Source.{Source, raw_in}
use Rattle.enc_rows.specs.Sums.{below}
use Rattle.enc_rows.proofs.Listed.{get_below, get_past}
use Rattle.enc_image.specs.Base.{chain_of_base, module_in, row_in, cell_in}
use Rattle.enc_delta.specs.Delta.{is_module, listed, map_in}
use Rattle.enc_delta.specs.Rules.{module_token, own_guid, heaps_after}
use Rattle.enc_delta.specs.Rows.{cells_after, own_row}
use Rattle.enc_delta.specs.Pairs.{attached_of}
use Rattle.enc_delta.proofs.OneHeapMore.{guid_behind}
use Rattle.enc_agg.specs.Extend.{changes_of, extended, chain_with}
use Rattle.enc_agg.proofs.Numbers.{guid_last}
use Rattle.enc_memory_module.proofs.CellCases.{cell_of_cells}
use Rattle.enc_writer.specs.Stands.{NamesGuids}

-- a change of another row leaves the Module's
first_stays : (table : ℕ) (rows : List Row) (row : ℕ) (cells : List Cell) → (row == 1) ≡ false → row_at (put_at table rows row cells) 1 ≡ row_at rows 1
unfolding put_at
first_stays table rows zero cells other = refl
first_stays table rows (suc zero) cells other = absurd cc
first_stays table [] (suc (suc n)) cells other = refl
first_stays table (r ∷ rows) (suc (suc n)) cells other = refl

tables_stay : (tables : List (List Row)) (table row : ℕ) (cells : List Cell) → (table == 0 && row == 1) ≡ false
    → row_at (list_at (change_at tables table (λ rows. put_at table rows row cells)) 0) 1 ≡ row_at (list_at tables 0) 1
tables_stay [] table row cells other = refl
tables_stay (rows ∷ tables) zero row cells other = first_stays 0 rows row cells other
tables_stay (rows ∷ tables) (suc t) row cells other = refl

put_stays : (m : Module) (c : Change) → is_module c.token ≡ false → cells_of (put m c) module_token ≡ cells_of m module_token
unfolding put row_of
put_stays m c other = ap (option_map (λ (r : Row). r.cells)) (tables_stay m.tables c.token.table c.token.row c.cells other)

abbrev others : List Change → Bool
others changes = list_all (λ (c : Change). not (is_module c.token)) changes

head_other : (b rest : Bool) → (not b && rest) ≡ true → (b ≡ false) × (rest ≡ true)
head_other true rest h = absurd cc
head_other false rest h = (refl, h)

apply_stays : (m : Module) (changes : List Change) → others changes ≡ true → cells_of (apply m changes) module_token ≡ cells_of m module_token
unfolding apply
apply_stays m [] h = refl
apply_stays m (c ∷ changes) h =
    let p = head_other (is_module c.token) (others changes) h in
    apply_stays (put m c) changes p.1 ∙ put_stays m c p.0

-- no change of a delta is one of the Module row
not_module : (f : Token → Change) (tokens : List Token) → ((t : Token) → (f t).token ≡ t) → others (map f (filter (λ t. not (is_module t)) tokens)) ≡ true
not_module f [] own = refl
not_module f (t ∷ tokens) own = by (is_module t) refl (not_module f tokens own)
  where
    by : (b : Bool) → is_module t ≡ b → others (map f (filter (λ t. not (is_module t)) tokens)) ≡ true
        → others (map f (if not b then t ∷ filter (λ t. not (is_module t)) tokens else filter (λ t. not (is_module t)) tokens)) ≡ true
    by true is more = more
    by false is more = let e : is_module (f t).token ≡ false = ap is_module (own t) ∙ is in rw e more

changes_other : (c : Chain) (s : Source) → others (changes_of c s) ≡ true
unfolding changes_of listed
changes_other c s = not_module (λ (t : Token). record { token = t; cells = cells_after c s (own_row s t) }) (map_in s) (λ t. refl)

cells_stay : (c : Chain) (s : Source) → cells_of (extended c s).plain module_token ≡ cells_of c.plain module_token
unfolding extended
cells_stay c s = cells_attached (attached_of s) (apply c.plain (changes_of c s)) module_token ∙ apply_stays c.plain (changes_of c s) (changes_other c s)

mvid_stays : (c : Chain) (s : Source) → mvid_of (extended c s) ≡ mvid_of c
mvid_stays c s =
    ap guid_in (cell_of_cells (extended c s).plain module_token 2)
    ∙ ap (λ (o : Option (List Cell)). guid_in (option_and_then (λ (xs : List Cell). slice_get xs 2) o)) (cells_stay c s)
    ∙ ap guid_in (sym (cell_of_cells c.plain module_token 2))

-- a number stays with more heaps
abbrev IsNamed : List Counted → List ℕ → Type 0
IsNamed heaps g = (k : ℕ) × (joined_guid heaps k ≡ Some g)

pub named_further : (heaps : List Counted) (h : Counted) (g : List ℕ) (k : ℕ) → joined_guid heaps k ≡ Some g → joined_guid (heaps ++ h ∷ []) k ≡ Some g
named_further heaps h g k named = guid_behind heaps h k ∙ rw named refl

-- what is read at a number, or nil
named_or_nil : (heaps : List Counted) (k : ℕ) → IsNamed heaps (unwrap_or (joined_guid heaps k) nil_guid)
unfolding nil_guid
named_or_nil heaps k = by (joined_guid heaps k) refl
  where
    by : (o : Option (List ℕ)) → joined_guid heaps k ≡ o → IsNamed heaps (unwrap_or o nil_guid)
    by (Some g) is = (k, is)
    by None is = (0, refl)

-- the Mvid of a base
cell_named : (heaps : List Counted) (o : Option (List ℕ)) (k : ℕ) → joined_guid heaps k ≡ o → IsNamed heaps (guid_in (Some (unwrap_or (option_map guid o) (number 0))))
unfolding nil_guid
cell_named heaps (Some g) k is = (k, is)
cell_named heaps None k is = (0, refl)

module_cell : (s : Source) → cell_in s (nth_row 0 0) 2 ≡ option_map guid (guid_at s.heaps.guids (raw_in s (nth_row 0 0) 2))
unfolding cell_in cell_with cell_read columns_in
module_cell s = refl

module_rows : (s : Source) → rows_in (module_in s) 0 ≡ map (row_in s 0) (below (rows_of s.layout 0))
unfolding module_in below
module_rows s = refl

base_cell : (s : Source) → 0 < rows_of s.layout 0 → cell_of (module_in s) module_token 2 ≡ Some (unwrap_or (cell_in s (nth_row 0 0) 2) (number 0))
unfolding cell_of row_of columns_in
base_cell s some =
    rw (module_rows s, get_below (row_in s 0) (rows_of s.layout 0) 0 some)
    (get_below (λ (k : ℕ). unwrap_or (cell_in s (nth_row 0 0) k) (number 0)) (cell_count 0) 2 (omega arith))

no_base_cell : (s : Source) → rows_of s.layout 0 ≤ 0 → cell_of (module_in s) module_token 2 ≡ None
unfolding cell_of row_of
no_base_cell s none = rw (module_rows s, get_past (row_in s 0) (rows_of s.layout 0) 0 none) refl

base_named : (s : Source) → IsNamed (s.heaps ∷ []) (guid_in (cell_of (module_in s) module_token 2))
unfolding nil_guid
base_named s = elim (cases_lt 0 (rows_of s.layout 0)) [
  | inl some ↦
      let k = raw_in s (nth_row 0 0) 2 in
      rw (base_cell s some, module_cell s) (cell_named (s.heaps ∷ []) (guid_at s.heaps.guids k) k (guid_alone s.heaps k))
  | inr none ↦ rw (no_base_cell s none) (0, refl)
]

-- the last EncId of a chain with a delta
last_id : (ids : List (List ℕ)) (id : List ℕ) → unwrap_or (slice_get (ids ++ id ∷ []) (length ids)) nil_guid ≡ id
last_id [] id = refl
last_id (x ∷ ids) id = last_id ids id

id_more : (ids : List (List ℕ)) (id : List ℕ) → length (ids ++ id ∷ []) ≡ suc (length ids)
id_more [] id = refl
id_more (x ∷ ids) id = ap suc (id_more ids id)

last_is : (c : Chain) (s : Source) → id_of (extended c s) (length (extended c s).ids) ≡ own_guid c s 3
unfolding extended
last_is c s = rw (id_more c.ids (own_guid c s 3)) (last_id c.ids (own_guid c s 3))

heaps_are : (c : Chain) (s : Source) → (extended c s).heaps ≡ c.heaps ++ s.heaps ∷ []
unfolding extended
heaps_are c s = refl

last_named : (c : Chain) (s : Source) → IsNamed (extended c s).heaps (own_guid c s 3)
unfolding extended own_guid
last_named c s = named_or_nil (heaps_after c s) (raw_in s module_token 3)

base_names : (s : Source) → NamesGuids (chain_of_base s)
unfolding chain_of_base nil_guid
base_names s = record { mvid = base_named s; last = (0, refl) }

more_names : (c : Chain) (s : Source) → NamesGuids c → NamesGuids (extended c s)
more_names c s names = record {
  mvid = rw (mvid_stays c s, heaps_are c s) (names.mvid.0, named_further c.heaps s.heaps (mvid_of c) names.mvid.0 names.mvid.1);
  last = rw (last_is c s) (last_named c s);
}

-- so it is for each chain of a base and deltas
pub chain_names : (base : Source) (deltas : List Source) → NamesGuids (chain_with base deltas)
unfolding chain_with
chain_names base [] = base_names base
chain_names base (d ∷ older) = more_names (chain_with base older) d (chain_names base older)

-- a number that names a GUID is one of the entries
none_behind : (o : Option (List ℕ)) (p : Option (List ℕ)) → or_else o p ≡ None → o ≡ None
none_behind None p h = refl
none_behind (Some g) p h = absurd cc

no_heap : Counted
no_heap = record { strings = []; users = []; blobs = []; guids = [] }

past_entries : (heaps : List Counted) (n : ℕ) → guid_entries heaps ≤ n → joined_guid heaps (suc n) ≡ None
unfolding joined_lengths sixteen_at no_heap
past_entries heaps n high =
    let past : nat_le (16 * n + 16) 0 ≡ false = grind (arith, nat_tests) in
    let nothing : guid_at [] (suc n) ≡ None = rw past refl in none_behind (joined_guid heaps (suc n)) (guid_at [] (suc n)) (sym (guid_behind heaps no_heap (suc n)) ∙ guid_last n heaps no_heap high ∙ nothing)

pub within_entries : (heaps : List Counted) (k : ℕ) (g : List ℕ) → joined_guid heaps k ≡ Some g → k ≤ guid_entries heaps
within_entries heaps zero g is = omega arith
within_entries heaps (suc n) g is = elim (cases_lt n (guid_entries heaps)) [
  | inl low ↦ omega (arith, low)
  | inr high ↦ let bad : None ≡ Some g = sym (past_entries heaps n high) ∙ is in absurd cc
]

-- what no number below the entries names, the last one does
pub entries_logged : (heaps : List Counted) (lengths : HeapLengths) → lengths ≡ joined_lengths heaps → lengths.guids ≡ guid_entries heaps
unfolding joined_lengths
entries_logged heaps lengths is = ap (λ (h : HeapLengths). h.guids) is

pub last_named_by : (heaps : List Counted) (n : ℕ) (g : List ℕ) → n ≡ guid_entries heaps → ((m : ℕ) → m < n → joined_guid heaps m ≡ Some g → ⊥) → (k : ℕ) × (joined_guid heaps k ≡ Some g) → joined_guid heaps n ≡ Some g
last_named_by heaps n g is none named = elim (cases_lt named.0 n) [
  | inl low ↦ absurd (none named.0 low named.1)
  | inr high ↦
      let within = within_entries heaps named.0 g named.1 in
      let same : named.0 ≡ n = omega (arith, high, within, is) in
      ap (joined_guid heaps) (sym same) ∙ named.1
]
