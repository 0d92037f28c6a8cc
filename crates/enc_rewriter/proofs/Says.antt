-- What the numbers of columns say.
use Rattle.std.proofs.Common.{◌≡◌, ℕ, zero, suc, ◌<◌, Bool, true, false, List, [], ◌∷◌, length, Some, refl, sym, ap, ◌∙◌, arith}
use Rattle.std.specs.Prelude.{◌&&◌, option_map, slice_get}
use Rattle.std.specs.List.{list_all}
use Rattle.enc_base.specs.declared.token.Token.{Token}
use Rattle.enc_meta.specs.Built.{Built, is_kept, is_guid_kept}
use Rattle.enc_meta.specs.Heaps.{Counted, text_at, blob_at, guid_at}
use Rattle.enc_plain.specs.Cell.{Cell, number, text, blob, guid, numbers, texts, blobs, guids, kind_of, kind_in, is_body, is_field}
use Rattle.enc_plain.specs.Module.{Module, has_row, cell_of}
use Rattle.enc_plain.specs.Reading.{cell_read}
use Rattle.enc_plain.proofs.Columns.{number_for}
use Rattle.enc_schema.specs.Schema.{columns_in, column_in}
use Rattle.enc_schema.specs.declared.column.Column.{Column}
use Rattle.enc_schema.specs.declared.column.Column.TheVariants.{Num32, Text, Blob, Guid}
use Rattle.enc_rewriter.specs.Numbers.{reading_by}
use Rattle.enc_rewriter.specs.Values.{KeepValues, is_kept_by, values_at, values_if}
use Rattle.enc_rewriter.specs.declared.pass.Pass.{Pass}
use Rattle.enc_rewriter.specs.declared.pass.Pass.TheVariants as pass
use Rattle.enc_rewriter.proofs.RefersTo.{other_kind}

text_other : Text ≡ Num32 → ⊥
text_other e = absurd cc

blob_other : Blob ≡ Num32 → ⊥
blob_other e = absurd cc

guid_other : Guid ≡ Num32 → ⊥
guid_other e = absurd cc

pub text_kind : (t i : ℕ) → column_in t i ≡ Some Text → kind_in t i ≡ Some texts
text_kind t i e = other_kind t i Text e text_other

pub blob_kind : (t i : ℕ) → column_in t i ≡ Some Blob → kind_in t i ≡ Some blobs
blob_kind t i e = other_kind t i Blob e blob_other

pub guid_kind : (t i : ℕ) → column_in t i ≡ Some Guid → kind_in t i ≡ Some guids
guid_kind t i e = other_kind t i Guid e guid_other

pub number_kind : (t i : ℕ) (c : Column) → column_in t i ≡ Some c → kind_of c ≡ Some numbers → is_body t i ≡ false → is_field t i ≡ false → kind_in t i ≡ Some numbers
number_kind t i c e k b f = rw (b, f, e) k

within : {A : Type 0} (xs : List A) (i : ℕ) (x : A) → slice_get xs i ≡ Some x → i < length xs
within [] i x h = absurd cc
within (y ∷ ys) zero x h = omega arith
within (y ∷ ys) (suc i) x h = omega (arith, within ys i x h)

there : (t i : ℕ) (c : Column) → column_in t i ≡ Some c → i < length (columns_in t)
there t i c e = within (columns_in t) i c e

single : (p : List ℕ → Bool) (v : List ℕ) → list_all p (v ∷ []) ≡ true → p v ≡ true
single p v e = by (p v) e
  where
    by : (b : Bool) → (b && true) ≡ true → b ≡ true
    by true e = refl
    by false e = absurd cc

kept_value : (p : Pass) (m : Module) (h : Built) (u : Token) (i : ℕ) (c : Column) (cell : Cell) (v : List ℕ) → KeepValues m h → has_row m u ≡ true → column_in u.table i ≡ Some c
    → cell_of m u i ≡ Some cell → values_if p (Some cell) ≡ v ∷ [] → is_kept_by p h v ≡ true
unfolding values_at
kept_value p m h u i c cell v kept row e is one =
    single (is_kept_by p h) v (ap (list_all (is_kept_by p h)) (sym (ap (values_if p) is ∙ one)) ∙ kept.each p u i row (there u.table i c e))

pub text_is_kept : (m : Module) (h : Built) (u : Token) (i : ℕ) (v : List ℕ) → KeepValues m h → has_row m u ≡ true → column_in u.table i ≡ Some Text
    → cell_of m u i ≡ Some (text v) → is_kept h.texts v ≡ true
text_is_kept m h u i v kept row e is = kept_value pass.Texts m h u i Text (text v) v kept row e is refl

pub blob_is_kept : (m : Module) (h : Built) (u : Token) (i : ℕ) (v : List ℕ) → KeepValues m h → has_row m u ≡ true → column_in u.table i ≡ Some Blob
    → cell_of m u i ≡ Some (blob v) → is_kept h.blobs v ≡ true
blob_is_kept m h u i v kept row e is = kept_value pass.Blobs m h u i Blob (blob v) v kept row e is refl

pub guid_is_kept : (m : Module) (h : Built) (u : Token) (i : ℕ) (v : List ℕ) → KeepValues m h → has_row m u ≡ true → column_in u.table i ≡ Some Guid
    → cell_of m u i ≡ Some (guid v) → is_guid_kept h.guids v ≡ true
guid_is_kept m h u i v kept row e is = kept_value pass.Guids m h u i Guid (guid v) v kept row e is refl

pub text_says : (m : Module) (h : Counted) (v : List ℕ) (x : ℕ) → text_at h.strings x ≡ Some v → cell_read (reading_by m h) Text x ≡ Some (text v)
unfolding cell_read
text_says m h v x e = ap (option_map text) e

pub blob_says : (m : Module) (h : Counted) (v : List ℕ) (x : ℕ) → blob_at h.blobs x ≡ Some v → cell_read (reading_by m h) Blob x ≡ Some (blob v)
unfolding cell_read
blob_says m h v x e = ap (option_map blob) e

pub guid_says : (m : Module) (h : Counted) (v : List ℕ) (x : ℕ) → guid_at h.guids x ≡ Some v → cell_read (reading_by m h) Guid x ≡ Some (guid v)
unfolding cell_read
guid_says m h v x e = ap (option_map guid) e

pub number_says : (m : Module) (h : Counted) (c : Column) (x : ℕ) → kind_of c ≡ Some numbers → cell_read (reading_by m h) c x ≡ Some (number x)
number_says m h c x k = number_for (reading_by m h) c x k

pub ruleset text_steps = (text_kind, text_is_kept, text_says)

pub ruleset blob_steps = (blob_kind, blob_is_kept, blob_says)

pub ruleset guid_steps = (guid_kind, guid_is_kept, guid_says)
