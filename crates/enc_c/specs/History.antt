-- What the generations of an open handle brought.
use Rattle.std.specs.Prelude.{ℕ, ◌-◌, List, [], drop, length, map, Option, Some, None, Result, Ok, Err, slice_get, nat_lt, if◌then◌else◌}
use Rattle.enc_agg.specs.Extend.{chain_with}
use Rattle.enc_agg.specs.Place.{delta_at}
use Rattle.enc_base.specs.Token.{number_of}
use Rattle.enc_base.specs.declared.token.Token.{Token}
use Rattle.enc_delta.specs.Delta.{listed}
use Rattle.enc_delta.specs.Rules.{is_insert}
use Rattle.enc_meta.specs.Heaps.{Counted, lengths_of}
use Rattle.enc_meta.specs.declared.heaps.HeapLengths.{HeapLengths}
use Rattle.enc_plain.specs.Chain.{Chain}
use Rattle.enc_plain.specs.Module.{rows_in}
use Rattle.enc_rows.specs.Source.{Source}
use Rattle.enc_c.specs.State.{State, chain_after}
use Rattle.enc_c.specs.declared.history.EntryNumbers.{EntryNumbers}
use Rattle.enc_c.specs.declared.history.LengthNumbers.{LengthNumbers}
use Rattle.enc_c.specs.declared.status.Status.{Status}
use Rattle.enc_c.specs.declared.status.Status.TheVariants.{Later}

-- the chain of the first so many deltas, which stand the newest first
abbrev pub upto_generation : Source → List Source → ℕ → Chain
upto_generation base deltas g = chain_with base (drop (length deltas - g) deltas)

-- the one before a generation's delta
abbrev pub before_generation : Source → List Source → ℕ → Chain
before_generation base deltas g = upto_generation base deltas (g - 1)

-- a generation that there is
abbrev pub of_generation : {A : Type 0} → State → ℕ → Result A Status → Result A Status
of_generation s g answer = if nat_lt g (length (chain_after s).heaps) then answer else Err Later

-- a token of a delta's EncMap, and whether it was no row before
abbrev pub entry_by_numbers : Chain → Token → EntryNumbers
entry_by_numbers before t = record { token = number_of t; inserted = if is_insert before t then 1 else 0 }

-- those of a delta; the base has none
abbrev pub entries_told : Chain → Option Source → List EntryNumbers
entries_told before None = []
entries_told before (Some d) = map (entry_by_numbers before) (listed d)

unfoldable pub asked_entries : State → ℕ → Result (List EntryNumbers) Status
asked_entries s g =
    of_generation s g
    (Ok (entries_told (before_generation s.followed.base s.followed.deltas g) (delta_at s.followed.deltas g)))

-- the lengths of a generation's own heaps
abbrev pub lengths_told : HeapLengths → LengthNumbers
lengths_told l = record { strings = l.strings; users = l.users; blobs = l.blobs; guids = l.guids }

abbrev pub lengths_by : Option Counted → Result LengthNumbers Status
lengths_by (Some h) = Ok (lengths_told (lengths_of h))
lengths_by None = Err Later

unfoldable pub asked_lengths : State → ℕ → Result LengthNumbers Status
asked_lengths s g = lengths_by (slice_get (chain_after s).heaps g)

-- how many rows a table had after the first so many deltas
unfoldable pub asked_count_at : State → ℕ → ℕ → Result ℕ Status
asked_count_at s g table =
    of_generation s g (Ok (length (rows_in (upto_generation s.followed.base s.followed.deltas g).plain table)))
