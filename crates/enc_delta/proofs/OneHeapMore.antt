-- The joined heaps with one heap more behind them, and the EncIds of a chain one by one.
use Rattle.std.proofs.Common.{◌≡◌, ℕ, zero, suc, ◌+◌, ◌-◌, ◌*◌, ◌<◌, ◌≤◌, length, map, List, [], ◌∷◌, ◌++◌, Bool, true, false, Option, Some, None, refl, ap, ◌∙◌, arith, take, get_or}
use Rattle.std.specs.Prelude.{nat_le, nat_lt, if◌then◌else◌, ◌||◌}
use Rattle.std.proofs.Common.{◌≢◌, inl, inr}
use Rattle.std.specs.Prelude.{◌==◌}
use Rattle.std.specs.List.{list_any}
use Rattle.std.proofs.lemmas.List.Folds.{list_any_kept, list_any_more}
use Rattle.std.proofs.lemmas.Option.{unwrap_or-slice_get}
use Rattle.std.proofs.lemmas.List.{take_all, drop_all}
use Rattle.std.proofs.lemmas.List.Sums.{sum_by-append}
use Rattle.std.proofs.lemmas.Bool.Decides.{nat_tests, eqb_tells}
use Rattle.enc_base.specs.Order.{or_else}
use Rattle.enc_meta.specs.Heaps.{Counted, sixteen_at, guid_at, text_entry, user_entry, blob_entry, nil_guid}
use Rattle.enc_meta.specs.declared.heap.Heap.{Heap}
use Rattle.enc_meta.specs.declared.heap.Heap.TheVariants as heap
use Rattle.enc_meta.specs.HeapKinds.{bytes_in, heap_entry, joined_at, length_in}
use Rattle.enc_meta.proofs.Alone.{entry_here}
use Rattle.enc_meta.specs.Joined.{first_guid, joined_guid, joined_length, entry_in, joined_entry, joined_text, joined_blob, joined_user}
use Rattle.enc_meta.specs.declared.heaps.HeapLengths.{HeapLengths}
use Rattle.enc_meta.specs.Joined.{joined_lengths}
use Rattle.enc_plain.specs.Chain.{Chain, id_of, mvid_of}
use Rattle.enc_plain.specs.Module.{Row, row_at, row_of, rows_in, cell_of}

-- a heap that has the sixteen answers with them
own_first : (b : Bool) (x y : Option (List ℕ)) → (if b then x else or_else y None) ≡ (if b then x else y)
own_first true x y = refl
own_first false x (Some y) = refl
own_first false x None = refl

if_twice : (b : Bool) (x : Option (List ℕ)) → (if b then (if b then x else None) else None) ≡ (if b then x else None)
if_twice true x = refl
if_twice false x = refl

pub sixteen_alone : (heap : List ℕ) (k : ℕ) → first_guid (heap ∷ []) k ≡ sixteen_at heap k
unfolding first_guid sixteen_at
sixteen_alone heap k = if_twice (nat_le (16 * k + 16) (length heap)) _

stays_first : (b : Bool) (x : List ℕ) (r y : Option (List ℕ)) → (if b then (if b then Some x else None) else or_else r y) ≡ or_else (if b then (if b then Some x else None) else r) y
stays_first true x r y = refl
stays_first false x r y = refl

first_step : (heap : List ℕ) (k : ℕ) (r y : Option (List ℕ)) → (if nat_le (16 * k + 16) (length heap) then sixteen_at heap k else or_else r y) ≡ or_else (if nat_le (16 * k + 16) (length heap) then sixteen_at heap k else r) y
unfolding sixteen_at
first_step heap k r y = stays_first (nat_le (16 * k + 16) (length heap)) _ r y

first_more : (heaps : List (List ℕ)) (heap : List ℕ) (k : ℕ) → first_guid (heaps ++ heap ∷ []) k ≡ or_else (first_guid heaps k) (sixteen_at heap k)
unfolding first_guid
first_more [] heap k = sixteen_alone heap k
first_more (h ∷ hs) heap k = rw (first_more hs heap k) (first_step h k (first_guid hs k) (sixteen_at heap k))

guids_more : (xs : List Counted) (x : Counted) → map (λ (c : Counted). c.guids) (xs ++ x ∷ []) ≡ map (λ (c : Counted). c.guids) xs ++ x.guids ∷ []
guids_more [] x = refl
guids_more (y ∷ ys) x = ap (λ r. y.guids ∷ r) (guids_more ys x)

-- entry k of the joined GUIDs is that of the heaps before, or else that of the last one
pub guid_behind : (xs : List Counted) (x : Counted) (k : ℕ) → joined_guid (xs ++ x ∷ []) k ≡ or_else (joined_guid xs k) (guid_at x.guids k)
guid_behind xs x zero = refl
guid_behind xs x (suc k) = rw (guids_more xs x) (first_more _ x.guids k)

-- the EncId of generation g + 1 is the g-th of the deltas' EncIds
pub id_more : (c : Chain) (g : ℕ) → g < length c.ids → id_of c (g + 1) ≡ get_or c.ids g nil_guid
id_more c g h = let e : g + 1 ≡ suc g = omega arith in rw e (unwrap_or-slice_get c.ids g nil_guid)

kept_further : (p : List ℕ → Bool) (ids : List (List ℕ)) (n d : ℕ) → list_any p (take n ids) ≡ true → list_any p (take (n + d) ids) ≡ true
kept_further p ids n zero h = let e : n + 0 ≡ n = omega arith in rw e h
kept_further p ids n (suc d) h = let e : n + suc d ≡ n + d + 1 = omega arith in rw e (list_any_kept p ids (n + d) (kept_further p ids n d h))

either_true : (a b : Bool) → b ≡ true → (a || b) ≡ true
either_true true b h = refl
either_true false b h = h

either_false : (a b : Bool) → a ≡ false → b ≡ false → (a || b) ≡ false
either_false false b a h = h
either_false true b a h = absurd cc

-- one that passes decides
pub any_found : (p : List ℕ → Bool) (ids : List (List ℕ)) (g : ℕ) (d : List ℕ) → g < length ids → p (get_or ids g d) ≡ true → list_any p ids ≡ true
any_found p ids g d lt h =
    let here : list_any p (take (g + 1) ids) ≡ true = list_any_more p ids g d lt ∙ either_true (list_any p (take g ids)) _ h in
    let all : list_any p (take (g + 1 + (length ids - (g + 1))) ids) ≡ true = kept_further p ids (g + 1) (length ids - (g + 1)) here in
    rw (take_all (g + 1 + (length ids - (g + 1))) ids (omega arith)) at all

pub any_more : (p : List ℕ → Bool) (ids : List (List ℕ)) (g : ℕ) (d : List ℕ) → g < length ids → list_any p (take g ids) ≡ false → p (get_or ids g d) ≡ false → list_any p (take (g + 1) ids) ≡ false
any_more p ids g d lt before here = list_any_more p ids g d lt ∙ either_false _ _ before here

pub any_all : (p : List ℕ → Bool) (ids : List (List ℕ)) (n : ℕ) → length ids ≤ n → list_any p (take n ids) ≡ false → list_any p ids ≡ false
any_all p ids n h none = rw (take_all n ids h) at none

no_row : (rows : List Row) → length rows ≡ 0 → row_at rows 1 ≡ None
no_row [] h = refl
no_row (r ∷ rows) h = absurd (omega (arith, h))

-- a module without rows of Module has no Mvid
pub mvid_none : (c : Chain) → length (rows_in c.plain 0) ≡ 0 → nil_guid ≡ mvid_of c
unfolding cell_of row_of
mvid_none c h = rw (no_row (rows_in c.plain 0) h) refl

length_first : (h : List ℕ) (hs : List (List ℕ)) → joined_length (h ∷ hs) ≡ length h + joined_length hs
length_first h hs =
    let z : 0 + length h ≡ length h = omega arith in
    sum_by-append (λ (x : List ℕ). length x) (h ∷ []) hs ∙ ap (λ n. n + joined_length hs) z

if_same : (b : Bool) (x y z : Option (List ℕ)) → (b ≡ false → y ≡ z) → (if b then x else y) ≡ (if b then x else z)
if_same true x y z h = refl
if_same false x y z h = h refl

-- an offset in the heaps before is read there
entry_before : (entry : List ℕ → ℕ → Option (List ℕ)) (heaps : List (List ℕ)) (x : List ℕ) (o : ℕ) → o < joined_length heaps → entry_in entry (heaps ++ x ∷ []) o ≡ entry_in entry heaps o
unfolding entry_in
entry_before entry [] x o lt = absurd (omega arith)
entry_before entry (h ∷ hs) x o lt = if_same (nat_lt o (length h)) _ _ _ (λ past. entry_before entry hs x (o - length h) (grind (arith, nat_tests, length_first h hs, past, lt)))

-- and one behind them in the last heap
entry_behind : (entry : List ℕ → ℕ → Option (List ℕ)) (heaps : List (List ℕ)) (x : List ℕ) (o : ℕ) → joined_length heaps ≤ o → entry_in entry (heaps ++ x ∷ []) o ≡ entry_in entry (x ∷ []) (o - joined_length heaps)
unfolding entry_in
entry_behind entry [] x o le = let e : o ≡ o - 0 = omega arith in ap (λ k. entry_in entry (x ∷ []) k) e
entry_behind entry (h ∷ hs) x o le =
    let past : nat_lt o (length h) ≡ false = grind (arith, nat_tests, length_first h hs, le) in
    let e : o - length h - joined_length hs ≡ o - joined_length (h ∷ hs) = omega (arith, length_first h hs) in
    rw past (entry_behind entry hs x (o - length h) (omega (arith, length_first h hs, le)) ∙ ap (λ k. entry_in entry (x ∷ []) k) e)

field_more : (f : Counted → List ℕ) (xs : List Counted) (x : Counted) → map f (xs ++ x ∷ []) ≡ map f xs ++ f x ∷ []
field_more f [] x = refl
field_more f (y ∷ ys) x = ap (λ r. f y ∷ r) (field_more f ys x)

above_zero : (o : ℕ) → o ≢ 0 → (o == 0) ≡ false
above_zero o h = elim (eqb_tells o 0) [ inl e ↦ absurd (h e.1) | inr e ↦ e.0 ]

-- offset 0 is empty
pub zero_entry : (entry : List ℕ → ℕ → Option (List ℕ)) (heaps : List (List ℕ)) (o : ℕ) → o ≡ 0 → Some [] ≡ joined_entry entry heaps o
unfolding joined_entry
zero_entry entry heaps o h = rw h refl

joined_before : (entry : List ℕ → ℕ → Option (List ℕ)) (f : Counted → List ℕ) (xs : List Counted) (x : Counted) (n o : ℕ) → n ≡ joined_length (map f xs) → o < n → joined_entry entry (map f (xs ++ x ∷ [])) o ≡ joined_entry entry (map f xs) o
unfolding joined_entry
joined_before entry f xs x n o is lt =
    let low : o < joined_length (map f xs) = rw is at lt in
    rw (field_more f xs x, entry_before entry (map f xs) (f x) o low) refl

joined_behind : (entry : List ℕ → ℕ → Option (List ℕ)) (f : Counted → List ℕ) (xs : List Counted) (x : Counted) (n o : ℕ) → n ≡ joined_length (map f xs) → o ≢ 0 → n ≤ o → joined_entry entry (map f (xs ++ x ∷ [])) o ≡ entry_in entry (f x ∷ []) (o - n)
unfolding joined_entry
joined_behind entry f xs x n o is some le =
    let high : joined_length (map f xs) ≤ o = rw is at le in
    rw (field_more f xs x, above_zero o some, is) (entry_behind entry (map f xs) (f x) o high)

-- an entry of a joined heap is read in the heaps before, or in the last heap
of_lengths : (k : Heap) (heaps : List Counted) (t : HeapLengths) → t ≡ joined_lengths heaps → length_in k t ≡ joined_length (map (bytes_in k) heaps)
unfolding joined_lengths
of_lengths heap.Strings heaps t is = ap (λ (u : HeapLengths). u.strings) is
of_lengths heap.Users heaps t is = ap (λ (u : HeapLengths). u.users) is
of_lengths heap.Blobs heaps t is = ap (λ (u : HeapLengths). u.blobs) is

pub heap_before : (k : Heap) (xs : List Counted) (x : Counted) (t : HeapLengths) (o : ℕ) → t ≡ joined_lengths xs → o < length_in k t → joined_at k (xs ++ x ∷ []) o ≡ joined_at k xs o
heap_before k xs x t o is lt = joined_before (heap_entry k) (bytes_in k) xs x (length_in k t) o (of_lengths k xs t is) lt

entry_alone : (k : Heap) (x : List ℕ) (o : ℕ) → entry_in (heap_entry k) (x ∷ []) o ≡ heap_entry k x o
unfolding entry_in
entry_alone k x o = entry_here k x o

pub heap_behind : (k : Heap) (xs : List Counted) (x : Counted) (t : HeapLengths) (o : ℕ) → t ≡ joined_lengths xs → o ≢ 0 → length_in k t ≤ o → joined_at k (xs ++ x ∷ []) o ≡ heap_entry k (bytes_in k x) (o - length_in k t)
heap_behind k xs x t o is some le = joined_behind (heap_entry k) (bytes_in k) xs x (length_in k t) o (of_lengths k xs t is) some le ∙ entry_alone k (bytes_in k x) (o - length_in k t)

pub text_before : (xs : List Counted) (x : Counted) (t : HeapLengths) (o : ℕ) → t ≡ joined_lengths xs → o < t.strings → joined_text (xs ++ x ∷ []) o ≡ joined_text xs o
text_before xs x t o is lt = heap_before heap.Strings xs x t o is lt

pub text_behind : (xs : List Counted) (x : Counted) (t : HeapLengths) (o : ℕ) → t ≡ joined_lengths xs → o ≢ 0 → t.strings ≤ o → joined_text (xs ++ x ∷ []) o ≡ text_entry x.strings (o - t.strings)
text_behind xs x t o is some le = heap_behind heap.Strings xs x t o is some le

entry_stays : (entry : List ℕ → ℕ → Option (List ℕ)) (heaps : List (List ℕ)) (heap : List ℕ) (o : ℕ) (x : List ℕ) → entry_in entry heaps o ≡ Some x → entry_in entry (heaps ++ heap ∷ []) o ≡ Some x
unfolding entry_in
entry_stays entry [] heap o x h = absurd cc
entry_stays entry (h ∷ hs) heap o x is = stays_if (nat_lt o (length h)) (entry h o) (entry_in entry hs (o - length h)) (entry_in entry (hs ++ heap ∷ []) (o - length h)) x (entry_stays entry hs heap (o - length h) x) is
  where
    stays_if : (b : Bool) (here rest more : Option (List ℕ)) (x : List ℕ) → (rest ≡ Some x → more ≡ Some x) → (if b then here else rest) ≡ Some x → (if b then here else more) ≡ Some x
    stays_if true here rest more x f h = h
    stays_if false here rest more x f h = f h

-- a user text that is there stays, whatever heap comes behind
pub user_stays : (xs : List Counted) (x : Counted) (o : ℕ) (units : List ℕ) → joined_user xs o ≡ Some units → joined_user (xs ++ x ∷ []) o ≡ Some units
unfolding joined_entry
user_stays xs x o units is = by_zero (o == 0) (entry_in user_entry (map (λ (c : Counted). c.users) xs) o) (entry_in user_entry (map (λ (c : Counted). c.users) (xs ++ x ∷ [])) o) (λ h. ap (λ hs. entry_in user_entry hs o) (field_more (λ (c : Counted). c.users) xs x) ∙ entry_stays user_entry (map (λ (c : Counted). c.users) xs) x.users o units h) is
  where
    by_zero : (b : Bool) (before after : Option (List ℕ)) → (before ≡ Some units → after ≡ Some units) → (if b then Some [] else before) ≡ Some units → (if b then Some [] else after) ≡ Some units
    by_zero true before after f h = h
    by_zero false before after f h = f h

-- so does a blob
pub blob_stays : (xs : List Counted) (x : Counted) (o : ℕ) (bytes : List ℕ) → joined_blob xs o ≡ Some bytes → joined_blob (xs ++ x ∷ []) o ≡ Some bytes
unfolding joined_entry
blob_stays xs x o bytes is = by_zero (o == 0) (entry_in blob_entry (map (λ (c : Counted). c.blobs) xs) o) (entry_in blob_entry (map (λ (c : Counted). c.blobs) (xs ++ x ∷ [])) o) (λ h. ap (λ hs. entry_in blob_entry hs o) (field_more (λ (c : Counted). c.blobs) xs x) ∙ entry_stays blob_entry (map (λ (c : Counted). c.blobs) xs) x.blobs o bytes h) is
  where
    by_zero : (b : Bool) (before after : Option (List ℕ)) → (before ≡ Some bytes → after ≡ Some bytes) → (if b then Some [] else before) ≡ Some bytes → (if b then Some [] else after) ≡ Some bytes
    by_zero true before after f h = h
    by_zero false before after f h = f h
