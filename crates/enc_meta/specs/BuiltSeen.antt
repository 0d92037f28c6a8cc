-- What a heap builder's answers tell.
use Rattle.std.specs.Prelude.{◌≡◌, ℕ, Bool, true, false, Result, Ok, Err}
use Rattle.enc_base.specs.declared.refusal.StreamName.{StreamName}
use Rattle.enc_meta.specs.Heaps.{Counted}
use Rattle.enc_meta.specs.declared.builder.BuildFault.{BuildFault}
use Rattle.enc_meta.specs.declared.builder.BuildFault.TheVariants.{Memory, TooLarge}
use Rattle.enc_meta.specs.declared.builder.HeapBytes.{HeapBytes}

-- a heap of this name is refused exactly where it would pass its limit; want of memory tells nothing
abbrev pub RefusesWhere : Result ℕ BuildFault → StreamName → Bool → Type 0
RefusesWhere (Ok offset) name passes = passes ≡ false
RefusesWhere (Err (TooLarge heap)) name passes = (heap ≡ name) × (passes ≡ true)
RefusesWhere (Err Memory) name passes = Unit {0}

abbrev pub heap_bytes_seen : HeapBytes → Counted
heap_bytes_seen h = record { strings = h.strings; users = h.users; blobs = h.blobs; guids = h.guids }
