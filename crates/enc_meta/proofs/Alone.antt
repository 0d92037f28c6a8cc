-- The joined heaps of one generation are its own.
use Rattle.std.proofs.Common.{◌≡◌, ℕ, zero, suc, ◌+◌, ◌*◌, length, List, [], ◌∷◌, Bool, true, false, Option, None, refl, sym, ap, arith}
use Rattle.std.specs.Prelude.{nat_le, nat_lt, if◌then◌else◌, option_and_then}
use Rattle.std.proofs.lemmas.List.{drop_all}
use Rattle.std.proofs.lemmas.Bool.Decides.{nat_tests}
use Rattle.enc_meta.specs.Heaps.{Counted, sixteen_at, guid_at, text_entry, blob_entry, user_entry, units_in, text_at, blob_at, user_at}
use Rattle.enc_meta.specs.declared.heap.Heap.{Heap}
use Rattle.enc_meta.specs.declared.heap.Heap.TheVariants as heap
use Rattle.enc_meta.specs.HeapKinds.{bytes_in, heap_entry, own_at, joined_at}
use Rattle.enc_meta.specs.Root.{◌>>=◌}
use Rattle.enc_meta.specs.Joined.{first_guid, joined_guid, entry_in, joined_entry, joined_text, joined_blob, joined_user}

if_twice : (b : Bool) (x : Option (List ℕ)) → (if b then (if b then x else None) else None) ≡ (if b then x else None)
if_twice true x = refl
if_twice false x = refl

pub guid_alone : (h : Counted) (k : ℕ) → joined_guid (h ∷ []) k ≡ guid_at h.guids k
unfolding first_guid sixteen_at
guid_alone h zero = refl
guid_alone h (suc k) = if_twice (nat_le (16 * k + 16) (length h.guids)) _

pub text_here : (b : Bool) (x : List ℕ) (o : ℕ) → nat_lt o (length x) ≡ b → (if b then text_entry x o else None) ≡ text_entry x o
unfolding text_entry
text_here true x o is = refl
text_here false x o is = rw (drop_all o x (grind (arith, nat_tests, is))) refl

pub text_alone : (h : Counted) (o : ℕ) → joined_text (h ∷ []) o ≡ text_at h.strings o
unfolding joined_entry entry_in text_at
text_alone h o = rw (text_here (nat_lt o (length h.strings)) h.strings o refl) refl

none_at : (b : Bool) (f : ℕ × ℕ → Option (List ℕ)) → ((if b then None else None) >>= f) ≡ None
none_at true f = refl
none_at false f = refl

pub blob_here : (b : Bool) (x : List ℕ) (o : ℕ) → nat_lt o (length x) ≡ b → (if b then blob_entry x o else None) ≡ blob_entry x o
unfolding blob_entry
blob_here true x o is = refl
blob_here false x o is = rw (drop_all o x (grind (arith, nat_tests, is))) (sym (none_at (nat_le o (length x)) _))

pub blob_alone : (h : Counted) (o : ℕ) → joined_blob (h ∷ []) o ≡ blob_at h.blobs o
unfolding joined_entry entry_in blob_at
blob_alone h o = rw (blob_here (nat_lt o (length h.blobs)) h.blobs o refl) refl

pub user_here : (b : Bool) (x : List ℕ) (o : ℕ) → nat_lt o (length x) ≡ b → (if b then user_entry x o else None) ≡ user_entry x o
unfolding user_entry blob_entry
user_here true x o is = refl
user_here false x o is = rw (drop_all o x (grind (arith, nat_tests, is))) (sym (ap (option_and_then units_in) (none_at (nat_le o (length x)) _)))

pub user_alone : (h : Counted) (o : ℕ) → joined_user (h ∷ []) o ≡ user_at h.users o
unfolding joined_entry entry_in user_at
user_alone h o = rw (user_here (nat_lt o (length h.users)) h.users o refl) refl

-- the same of each heap
pub heap_alone : (k : Heap) (h : Counted) (o : ℕ) → joined_at k (h ∷ []) o ≡ own_at k (bytes_in k h) o
heap_alone heap.Strings h o = text_alone h o
heap_alone heap.Users h o = user_alone h o
heap_alone heap.Blobs h o = blob_alone h o

-- an entry is looked for where the heap has bytes
pub entry_here : (k : Heap) (x : List ℕ) (o : ℕ) → (if nat_lt o (length x) then heap_entry k x o else None) ≡ heap_entry k x o
entry_here heap.Strings x o = text_here (nat_lt o (length x)) x o refl
entry_here heap.Users x o = user_here (nat_lt o (length x)) x o refl
entry_here heap.Blobs x o = blob_here (nat_lt o (length x)) x o refl
