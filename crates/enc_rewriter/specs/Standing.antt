-- A body that stands in the code of an image that is written (ECMA-335 II.25.4).
use Rattle.std.specs.Prelude.{◌≡◌, ℕ, ◌+◌, ◌*◌, ◌^◌, ◌<◌, ◌≤◌, min, Bool, true, ◌||◌, List, length, Option, Some, ◌==◌, if◌then◌else◌, slice_index}
use Rattle.std.specs.List.{list_all}
use Rattle.std.specs.BTreeMap.{BTreeMap, get}
use Rattle.std.specs.BTreeSet.{BTreeSet}
use Rattle.std.specs.Ordering.{nat_cmp}
use Rattle.enc_base.specs.Passed.{AllPass}
use Rattle.enc_base.specs.Token.{nth_row}
use Rattle.enc_meta.specs.Built.{Built, is_kept}
use Rattle.enc_opcodes.specs.declared.code.Clause.{Clause}
use Rattle.enc_opcodes.specs.Body.{Body, Code, body_of, nil_or}
use Rattle.enc_opcodes.specs.Clause.{clauses_of}
use Rattle.enc_opcodes.specs.Instruction.{end_of}
use Rattle.enc_opcodes.specs.Sound.{body_is_sound}
use Rattle.enc_plain.specs.Bodies.{body_loaded, code_loaded, code_is_good}
use Rattle.enc_plain.specs.Cell.{body, field}
use Rattle.enc_plain.specs.Module.{Module, cell_of}
use Rattle.enc_plain.specs.Sound.{IsSound, row_count}
use Rattle.enc_base.specs.Tables as tables
use Rattle.enc_rows.specs.Sums.{sum_below}
use Rattle.enc_rewriter.specs.Placed.{loaded_with, IsBodyPlaced, IsFieldPlaced}
use Rattle.enc_rewriter.specs.Values.{KeepValues, no_starts, texts_named, users_of_body}
use Rattle.enc_rewriter.specs.Weight.{row_weight, body_weight, bodies_weight, field_weight, fields_weight, most_weight}

-- this body is at the RVA, and good there, whatever stands behind the code
pub record StandsAt (count : ℕ → ℕ) (users : ℕ → Option (List ℕ)) (code : List ℕ) (rva : ℕ) (b : Body) : Type 0 where
  pub some : 0 < rva
  pub meant : (behind : List ℕ) → body_loaded (loaded_with code behind) users rva ≡ Some b
  pub good : (behind : List ℕ) → code_is_good count users (code_loaded (loaded_with code behind) rva) ≡ true

-- a clause is of a kind that is known: of a class, a filter, a finally or a fault (II.25.4.6)
abbrev pub is_known : ℕ → Bool
is_known kind = kind == 0 || kind == 1 || kind == 2 || kind == 4

-- a clause of another kind catches a class, as one of kind 0
abbrev pub known_as : Clause → Clause
known_as c = record {
  kind = if is_known c.kind then c.kind else 0;
  tries = c.tries;
  handler = c.handler;
  extra = c.extra;
}

-- bytes of such a weight: a body's sections take a few more than their clauses weigh, four for each 699050 clauses
abbrev pub Weighs : ℕ → ℕ → Type 0
Weighs weight size = 4194300 * size ≤ 4194301 * weight

abbrev pub weight_of : Body → ℕ
weight_of b = 32 + b.size + 24 * length b.handlers

-- the weight of the bodies of the methods before one
unfoldable pub bodies_before : Module → ℕ → ℕ
bodies_before m n = sum_below (λ k. body_weight (cell_of m (nth_row tables.method_def k) 0)) n

-- the weight of the rows of the tables before one
unfoldable pub row_weights_before : Module → ℕ → ℕ
row_weights_before m n = sum_below (λ t. row_count m t * row_weight t) n

-- what is known of places: the weight of the body there, or the limit where it isn't less
abbrev pub AreWeighed : (ℕ → Option Body) → BTreeMap ℕ ℕ → Type 0
AreWeighed places known = (place weight : ℕ) → get nat_cmp known place ≡ Some weight
    → weight ≡ min most_weight (body_weight (Some (body (places place))))

-- what is known of places: the user texts of the body there are kept
abbrev pub are_kept_at : (ℕ → Option Body) → Built → ℕ → Bool
are_kept_at places h place = list_all (is_kept h.users) (users_of_body (places place))

abbrev pub AreGathered : (ℕ → Option Body) → Built → BTreeSet ℕ → Type 0
AreGathered places h seen = AllPass (are_kept_at places h) seen

-- the bodies of so many methods are placed
abbrev pub AreBodiesPlaced : Module → (ℕ → Option (List ℕ)) → List ℕ → List ℕ → ℕ → Type 0
AreBodiesPlaced m users code rvas n = (k : ℕ) → k < n → IsBodyPlaced m users code k (slice_index rvas k)

-- the bytes of a row of FieldRVA stand at the RVA
abbrev pub IsFieldCellPlaced : Module → List ℕ → ℕ → ℕ → Type 0
IsFieldCellPlaced m code n rva =
    (there : List ℕ) → cell_of m (nth_row tables.field_rva n) 0 ≡ Some (field there) → IsFieldPlaced code there rva

-- those of so many rows do
abbrev pub AreFieldsPlaced : Module → List ℕ → List ℕ → ℕ → Type 0
AreFieldsPlaced m code rvas n = (k : ℕ) → k < n → IsFieldCellPlaced m code k (slice_index rvas k)

-- the weight of the bytes of the rows before one
unfoldable pub fields_before : Module → ℕ → ℕ
fields_before m n = sum_below (λ k. field_weight (cell_of m (nth_row tables.field_rva k) 0)) n

-- what is known of places: all methods with the body of a known place have it at its RVA
abbrev pub AreKnown : Module → (ℕ → Option (List ℕ)) → (ℕ → Option Body) → List ℕ → BTreeMap ℕ ℕ → Type 0
AreKnown m users places code known =
    (place rva n : ℕ) → get nat_cmp known place ≡ Some rva → n < row_count m tables.method_def
    → cell_of m (nth_row tables.method_def n) 0 ≡ Some (body (places place)) → IsBodyPlaced m users code n rva

-- whole code may be copied into heaps: they stand behind no others, and keep its user texts
pub record MayBeCopied (texts : ℕ → Option (List ℕ)) (h : Built) (c : Code) : Type 0 where
  pub few : length c.code < 2 ^ 32
  pub starts : h.starts ≡ no_starts
  pub whole : end_of c.code 0 ≡ length c.code
  pub kept : list_all (is_kept h.users) (texts_named (body_of texts c).code) ≡ true

-- a body may be written behind so many bytes: it is sound, heaps behind no others keep its user texts, and it has room
pub record MayBeWritten (m : Module) (texts : ℕ → Option (List ℕ)) (h : Built) (c : Code) (size : ℕ) : Type 0 where
  pub sound : body_is_sound (row_count m) (body_of texts c) ≡ true
  pub nil : nil_or c.locals ≡ c.locals
  pub rows : c.locals.row < 2 ^ 24
  pub starts : h.starts ≡ no_starts
  pub kept : list_all (is_kept h.users) (texts_named (body_of texts c).code) ≡ true
  pub few : length c.code < 2 ^ 32
  pub near : size < 2 ^ 31 + 4096
  pub room : size + length c.code + 28 * length (clauses_of c.sections) + 32 < 2 ^ 32

-- the bodies of a sound module may be written: the heaps keep its values, and its bodies are within the limit
pub record MayPlaceBodies (m : Module) (h : Built) : Type 0 where
  pub sound : IsSound m
  pub kept : KeepValues m h
  pub light : bodies_weight m < 2 ^ 31

-- and so may its code: its bodies and the initial bytes of its fields are within the limit together
pub record MayPlaceCode (m : Module) (h : Built) : Type 0 where
  pub sound : IsSound m
  pub kept : KeepValues m h
  pub weight : bodies_weight m + fields_weight m < 2 ^ 31

-- a method of the module comes next, behind code of so many bytes, of the weight of the bodies before its own
pub record ComesNext (m : Module) (h : Built) (n size : ℕ) : Type 0 where
  pub all : MayPlaceBodies m h
  pub row : n < row_count m tables.method_def
  pub weighs : Weighs (bodies_before m n) size

-- the bodies of the methods before one stand in the code: it has their weight, and those of known places are placed
pub record BodiesStand (m : Module) (users : ℕ → Option (List ℕ)) (places : ℕ → Option Body) (n : ℕ) (code : List ℕ)
    (rvas : BTreeMap ℕ ℕ) : Type 0 where
  pub weighs : Weighs (bodies_before m n) (length code)
  pub known : AreKnown m users places code rvas
