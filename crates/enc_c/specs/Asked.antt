-- What is asked of an open handle.
use Rattle.std.specs.Prelude.{◌≡◌, ℕ, ◌+◌, ◌==◌, List, length, nat_lt, Option, Some, None, Result, Ok, Err, if◌then◌else◌}
use Rattle.enc_base.specs.Token.{number_of}
use Rattle.enc_base.specs.declared.token.Token.{Token}
use Rattle.enc_base.specs.declared.refusal.StreamName.{StreamName}
use Rattle.enc_base.specs.Tables as tables
use Rattle.enc_plain.specs.Module.{has_row, rows_in}
use Rattle.enc_plain.specs.Chain.{Chain, id_of}
use Rattle.enc_plain.specs.Debug.{debug_of}
use Rattle.enc_plain.specs.declared.place.RowPlace.{RowPlace}
use Rattle.enc_agg.specs.Place.{place_of, place_in_heaps}
use Rattle.enc_agg.specs.declared.place.HeapPlace.{HeapPlace}
use Rattle.enc_ppdb.specs.KnownAt.{known_at}
use Rattle.enc_ppdb.specs.PdbChain.{points_at, documents_at}
use Rattle.enc_text.specs.RowText.{row_text_of}
use Rattle.enc_c.specs.declared.status.Status.{Status}
use Rattle.enc_c.specs.declared.status.Status.TheVariants.{Closed, Absent, Unlike, Later}
use Rattle.enc_c.specs.declared.newest_module.PlaceNumbers.{PlaceNumbers}
use Rattle.enc_c.specs.declared.points.PointNumbers.{PointNumbers}
use Rattle.enc_c.specs.Cells.{of_row}
use Rattle.enc_c.specs.Points.{points_numbers, name_told}
use Rattle.enc_c.specs.Refusals.{stream_by}
use Rattle.enc_c.specs.State.{State, chain_after, module_after, pdb_after}

-- a closed handle answers nothing
abbrev pub of_open : {S A : Type 0} → Option S → (S → Result A Status) → Result A Status
of_open None answer = Err Closed
of_open (Some s) answer = answer s

-- a token by its number
abbrev pub told_by_number : Result Token Status → Result ℕ Status
told_by_number (Ok t) = Ok (number_of t)
told_by_number (Err s) = Err s

-- how many generations there are, the base among them
abbrev pub asked_generations : State → Result ℕ Status
asked_generations s = Ok (length (chain_after s).ids + 1)

-- the EncId of a generation
abbrev pub asked_id : Chain → ℕ → Result (List ℕ) Status
asked_id c g = if nat_lt g (length c.heaps) then Ok (id_of c g) else Err Later

-- how many rows a table has
abbrev pub asked_count : State → ℕ → Result ℕ Status
asked_count s table = Ok (length (rows_in (module_after s) table))

-- where a row stands: its generation, and its position there
abbrev pub row_place : RowPlace → PlaceNumbers
row_place p = record { generation = p.generation; position = p.row }

unfoldable pub asked_place : State → Token → Result PlaceNumbers Status
asked_place s t = of_row (module_after s) t (Ok (row_place (place_of s.followed.deltas t)))

-- and where an offset of a joined heap stands
abbrev pub told_heap_place : Option HeapPlace → Result PlaceNumbers Status
told_heap_place (Some p) = Ok (record { generation = p.generation; position = p.offset })
told_heap_place None = Err Absent

abbrev pub told_heap_place_by : Chain → Option StreamName → ℕ → Result PlaceNumbers Status
told_heap_place_by c (Some heap) offset = told_heap_place (place_in_heaps c.heaps heap offset)
told_heap_place_by c None offset = Err Unlike

unfoldable pub asked_heap_place : State → ℕ → ℕ → Result PlaceNumbers Status
asked_heap_place s heap offset = told_heap_place_by (chain_after s) (stream_by heap) offset

-- the printed row
unfoldable pub asked_row : State → Token → Result (List ℕ) Status
asked_row s t =
    of_row (module_after s) t (Ok (row_text_of (module_after s) (pdb_after s) (place_of s.followed.deltas t) t))

-- why nothing is said of a token: it is no row, or no method
abbrev pub unlike_method : State → Token → Option Status
unlike_method s t = if has_row (module_after s) t then (if t.table == tables.method_def then None else Some Unlike)
    else Some Absent

abbrev pub unless_unlike : {A : Type 0} → Option Status → Result A Status → Result A Status
unless_unlike None answer = answer
unless_unlike (Some s) answer = Err s

-- the points of a method, by numbers, as the newest file that knows it says them
unfoldable pub asked_points : State → Token → Result (List PointNumbers) Status
asked_points s t =
    unless_unlike (unlike_method s t) (Ok (points_numbers (points_at (known_at s.followed.debug s.followed.debugs t))))

-- the name of the document that a number of its points means
unfoldable pub asked_document : State → Token → ℕ → Result (List ℕ) Status
asked_document s t number = unless_unlike (unlike_method s t)
    (name_told (documents_at (known_at s.followed.debug s.followed.debugs t) number))

-- the points and the documents that are told of a method are those of the plain PDB
abbrev pub PointsAreThePdbs : Type 0
PointsAreThePdbs =
    (s : State) (t : Token) → debug_of (documents_at (known_at s.followed.debug s.followed.debugs t))
    (points_at (known_at s.followed.debug s.followed.debugs t)) ≡ pdb_after s t
