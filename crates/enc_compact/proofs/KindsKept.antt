-- Each cell of a module whose rows go to other places is of its column's kind.
use Rattle.std.proofs.Common.{◌≡◌, ℕ, true, List, length, Option, Some, None, refl, ap, ◌∙◌}
use Rattle.std.specs.Prelude.{option_map}
use Rattle.enc_base.specs.declared.token.Token.{Token}
use Rattle.enc_plain.specs.Cell.{Cell, number, text, blob, guid, refer, body, field, Kind, blobs, kind_in, cell_count, cell_kind}
use Rattle.enc_plain.specs.Module.{Module, Row, has_row, cell_of}
use Rattle.enc_plain.specs.Sound.{HasTables, HasKinds}
use Rattle.enc_row_order.specs.Orders.{Orders, moved_by}
use Rattle.enc_compact.specs.Moved.{AreOrders, cell_moved, row_moved, module_with}
use Rattle.enc_compact.proofs.CountsKept.{each_row}
use Rattle.enc_compact.proofs.Rows.{was_row, cells_many, moved_cell}

row_cells : (f : Token → Token) (t : ℕ) (r q : Row) → q ≡ row_moved f t r → length r.cells ≡ cell_count t → length q.cells ≡ cell_count t
unfolding row_moved
row_cells f t r q e many = ap (λ (x : Row). length x.cells) e ∙ cells_many f t 0 r.cells ∙ many

-- a cell keeps its kind
pub kind_stays : (f : Token → Token) (t i : ℕ) (c : Cell) → cell_kind (cell_moved f t i c) ≡ cell_kind c
kind_stays f t i (number n) = refl
kind_stays f t i (text b) = refl
kind_stays f t i (blob b) = refl
kind_stays f t i (guid b) = refl
kind_stays f t i (refer u) = refl
kind_stays f t i (body b) = refl
kind_stays f t i (field b) = refl

kind_by : (f : Token → Token) (t i : ℕ) (o : Option Cell) → option_map cell_kind (option_map (cell_moved f t i) o) ≡ option_map cell_kind o
kind_by f t i None = refl
kind_by f t i (Some c) = ap (λ (k : Kind). Some k) (kind_stays f t i c)

kind_at : (m : Module) (orders : Orders) (t : Token) (i : ℕ) (k : Kind) → HasTables m → AreOrders m orders → HasKinds m → has_row m t ≡ true
    → kind_in (moved_by orders t).table i ≡ Some k → option_map cell_kind (cell_of (module_with orders m) (moved_by orders t) i) ≡ Some k
unfolding moved_by
kind_at m orders t i k has are kinds there kind =
    ap (option_map cell_kind) (moved_cell m orders t i has are)
    ∙ kind_by (moved_by orders) t.table i (cell_of m t i)
    ∙ kinds.kinds t i k there kind

pub kinds_kept : (m : Module) (orders : Orders) → HasTables m → AreOrders m orders → HasKinds m → HasKinds (module_with orders m)
kinds_kept m orders has are kinds = record {
  lengths = λ t n q e. let w = was_row m orders t n q has are e in row_cells (moved_by orders) t w.row q w.is (kinds.lengths t w.at w.row w.get);
  kinds = λ u i k there. each_row m orders (λ u. kind_in u.table i ≡ Some k → option_map cell_kind (cell_of (module_with orders m) u i) ≡ Some k) has are
      (λ t here. kind_at m orders t i k has are kinds here) u there;
}

-- the cell in a column of blobs
blob_by : (o : Option Cell) → option_map cell_kind o ≡ Some blobs → (bytes : List ℕ) × (o ≡ Some (blob bytes))
blob_by None e = absurd cc
blob_by (Some (number n)) e = absurd cc
blob_by (Some (text b)) e = absurd cc
blob_by (Some (blob b)) e = (b, refl)
blob_by (Some (guid b)) e = absurd cc
blob_by (Some (refer u)) e = absurd cc
blob_by (Some (body b)) e = absurd cc
blob_by (Some (field b)) e = absurd cc

pub blob_at : (m : Module) (t : Token) (i : ℕ) → HasKinds m → has_row m t ≡ true → kind_in t.table i ≡ Some blobs
    → (bytes : List ℕ) × (cell_of m t i ≡ Some (blob bytes))
blob_at m t i kinds there kind = blob_by (cell_of m t i) (kinds.kinds t i blobs there kind)
