-- The distinct values of a heap while they are borrowed.
use Rattle.std.specs.Prelude.{◌≡◌, ℕ, ◌+◌, ◌%◌, ◌<◌, ◌≤◌, Bool, true, false, not, List, [], ◌∷◌, length, map, sum_by, Result, Ok, Err, ◌==◌}
use Rattle.std.specs.Borrow.{Bor}
use Rattle.std.specs.List.{list_any, list_all}
use Rattle.enc_meta.specs.Built.{Built, text_bytes, user_bytes, blob_bytes, with_value, passes}
use Rattle.enc_meta.specs.declared.builder.BuildFault.{BuildFault}
use Rattle.enc_meta.specs.declared.builder.BuildFault.TheVariants.{Memory, TooLarge}
use Rattle.enc_rewriter.specs.Values.{no_starts, heap_limit, heap_of}
use Rattle.enc_rewriter.specs.declared.pass.Pass.{Pass}
use Rattle.enc_rewriter.specs.declared.pass.Pass.TheVariants as pass

-- the values behind borrows
abbrev pub borrowed : List (Bor (List ℕ)) → List (List ℕ)
borrowed values = map (λ (v : Bor (List ℕ)). v.now) values

-- a value's bytes in the heap of a pass
abbrev pub written_in : Pass → List ℕ → List ℕ
written_in pass.Texts = text_bytes
written_in pass.Users = user_bytes
written_in pass.Blobs = blob_bytes
written_in pass.Guids = λ g. g

-- a value may be listed: a text has no zero, and units are of two bytes; GUIDs are copied
abbrev pub may_be_listed : Pass → List ℕ → Bool
may_be_listed pass.Texts v = not (list_any (λ c. c == 0) v)
may_be_listed pass.Users v = length v % 2 == 0
may_be_listed pass.Blobs v = true
may_be_listed pass.Guids v = false

-- the distinct values of a pass, in the order of their first use
pub record BorrowedList : Type 0 where
  pub pass : Pass
  pub values : List (List ℕ)

-- with one more, where it takes a place of its own
abbrev pub with_borrowed : BorrowedList → List ℕ → BorrowedList
with_borrowed l v = record { pass = l.pass; values = with_value l.values v }

-- the values with those of a list in turn
unfoldable pub with_values : List (List ℕ) → List (List ℕ) → List (List ℕ)
with_values old [] = old
with_values old (v ∷ rest) = with_values (with_value old v) rest

-- how many bytes values take in their heap
unfoldable pub bytes_of : Pass → List (List ℕ) → ℕ
bytes_of p values = sum_by (λ (v : List ℕ). length (written_in p v)) values

-- values are within the limit of their heap, each stands once, and all may be listed
pub record AreBorrowed (p : Pass) (bytes : ℕ) (values : List (List ℕ)) : Type 0 where
  pub counted : bytes ≡ bytes_of p values
  pub within : bytes + 1 ≤ heap_limit p
  pub distinct : with_values [] values ≡ values
  pub fit : list_all (may_be_listed p) values ≡ true

-- a value that isn't empty may be listed, and with it the values take so many bytes, within the limit of their heap
pub record HasRoomFor (l : BorrowedList) (v : List ℕ) (with_it : ℕ) : Type 0 where
  pub some : 0 < length v
  pub fit : may_be_listed l.pass v ≡ true
  pub bytes : with_it ≡ bytes_of l.pass l.values + length (written_in l.pass v)
  pub within : with_it < heap_limit l.pass

-- a value is refused exactly where its heap would pass the limit with it; want of memory tells nothing
abbrev pub RefusesIn : Result Unit BuildFault → BorrowedList → List ℕ → Type 0
RefusesIn (Ok _) l v = passes (written_in l.pass) (heap_limit l.pass) 0 l.values v ≡ false
RefusesIn (Err (TooLarge heap)) l v =
    (heap ≡ heap_of l.pass) × (passes (written_in l.pass) (heap_limit l.pass) 0 l.values v ≡ true)
RefusesIn (Err Memory) l v = Unit {0}

-- the heaps with these values in place of a pass's own
abbrev pub with_list : Pass → Built → List (List ℕ) → Built
with_list pass.Texts h vs = record { starts = h.starts; texts = vs; users = h.users; blobs = h.blobs; guids = h.guids }
with_list pass.Users h vs = record { starts = h.starts; texts = h.texts; users = vs; blobs = h.blobs; guids = h.guids }
with_list pass.Blobs h vs = record { starts = h.starts; texts = h.texts; users = h.users; blobs = vs; guids = h.guids }
with_list pass.Guids h vs = record { starts = h.starts; texts = h.texts; users = h.users; blobs = h.blobs; guids = vs }

-- heaps that have GUIDs alone
abbrev pub guids_alone : List (List ℕ) → Built
guids_alone guids = record { starts = no_starts; texts = []; users = []; blobs = []; guids = guids }

-- heaps with the values of three lists and the GUIDs of other heaps
abbrev pub together : BorrowedList → BorrowedList → BorrowedList → Built → Built
together t u b h = record { starts = h.starts; texts = t.values; users = u.values; blobs = b.values; guids = h.guids }

-- they stand apart: each in its own list, and the GUIDs in heaps that have nothing else
pub record AreApart (t u b : BorrowedList) (h : Built) : Type 0 where
  pub texts : t.pass ≡ pass.Texts
  pub users : u.pass ≡ pass.Users
  pub blobs : b.pass ≡ pass.Blobs
  pub guids : h ≡ guids_alone h.guids
