-- The values of a module's heaps, each in its own list: one more, and how long the heaps are.
use Rattle.std.proofs.Common.{◌≡◌, ℕ, ◌+◌, ◌*◌, ◌≤◌, ◌^◌, List, [], ◌∷◌, length, refl, sym, ap, subst, ◌∙◌, arith, Result, Ok, Err}
use Rattle.std.specs.Prelude.{OnOk, OnErr}
use Rattle.enc_meta.specs.Built.{Built, with_guid, AreWithinLimits, joined_end, joined_size, text_bytes, user_bytes, blob_bytes}
use Rattle.enc_meta.specs.declared.builder.BuildFault.{BuildFault}
use Rattle.enc_meta.specs.declared.builder.BuildFault.TheVariants.{Memory, TooLarge}
use Rattle.enc_meta.specs.declared.heaps.HeapLengths.{HeapLengths}
use Rattle.enc_rewriter.specs.Values.{no_starts, with_all, heap_limit, IsPast}
use Rattle.enc_rewriter.specs.Distinct.{BorrowedList, with_borrowed, bytes_of, together, guids_alone, AreApart, RefusesIn}
use Rattle.enc_rewriter.specs.declared.pass.Pass.TheVariants as pass
use Rattle.enc_rewriter.proofs.Fills.{text_past, user_past, blob_past}
use Rattle.enc_rewriter.proofs.Listing.{ends_at}

pub text_filled : (r : Result Unit BuildFault) (old new u b : BorrowedList) (h : Built) (v : List ℕ) → OnOk r (new ≡ with_borrowed old v)
    → OnOk r (together new u b h ≡ with_all pass.Texts (together old u b h) (v ∷ []))
unfolding with_all
text_filled (Ok x) old new u b h v is = ap (λ l. together l u b h) is
text_filled (Err e) old new u b h v is = tt

pub user_filled : (r : Result Unit BuildFault) (t old new b : BorrowedList) (h : Built) (v : List ℕ) → OnOk r (new ≡ with_borrowed old v)
    → OnOk r (together t new b h ≡ with_all pass.Users (together t old b h) (v ∷ []))
unfolding with_all
user_filled (Ok x) t old new b h v is = ap (λ l. together t l b h) is
user_filled (Err e) t old new b h v is = tt

pub blob_filled : (r : Result Unit BuildFault) (t u old new : BorrowedList) (h : Built) (v : List ℕ) → OnOk r (new ≡ with_borrowed old v)
    → OnOk r (together t u new h ≡ with_all pass.Blobs (together t u old h) (v ∷ []))
unfolding with_all
blob_filled (Ok x) t u old new h v is = ap (λ l. together t u l h) is
blob_filled (Err e) t u old new h v is = tt

starts_of : (t u b : BorrowedList) (h : Built) → AreApart t u b h → h.starts ≡ no_starts
starts_of t u b h apart = ap (λ (k : Built). k.starts) apart.guids

-- a value that is refused would make its heap pass its limit
pub text_refused : (r : Result Unit BuildFault) (t u b : BorrowedList) (h : Built) (v : List ℕ) → AreApart t u b h → RefusesIn r t v
    → IsPast r pass.Texts (with_all pass.Texts (together t u b h) (v ∷ []))
text_refused (Ok x) t u b h v apart refused = tt
text_refused (Err Memory) t u b h v apart refused = tt
text_refused (Err (TooLarge heap)) t u b h v apart refused =
    let e = rw (apart.texts) at refused in
    text_past (TooLarge heap) (together t u b h) v (rw (starts_of t u b h apart) e)

pub user_refused : (r : Result Unit BuildFault) (t u b : BorrowedList) (h : Built) (v : List ℕ) → AreApart t u b h → RefusesIn r u v
    → IsPast r pass.Users (with_all pass.Users (together t u b h) (v ∷ []))
user_refused (Ok x) t u b h v apart refused = tt
user_refused (Err Memory) t u b h v apart refused = tt
user_refused (Err (TooLarge heap)) t u b h v apart refused =
    let e = rw (apart.users) at refused in
    user_past (TooLarge heap) (together t u b h) v (rw (starts_of t u b h apart) e)

pub blob_refused : (r : Result Unit BuildFault) (t u b : BorrowedList) (h : Built) (v : List ℕ) → AreApart t u b h → RefusesIn r b v
    → IsPast r pass.Blobs (with_all pass.Blobs (together t u b h) (v ∷ []))
blob_refused (Ok x) t u b h v apart refused = tt
blob_refused (Err Memory) t u b h v apart refused = tt
blob_refused (Err (TooLarge heap)) t u b h v apart refused =
    let e = rw (apart.blobs) at refused in
    blob_past (TooLarge heap) (together t u b h) v (rw (starts_of t u b h apart) e)

-- one list changes, and its pass doesn't
pub same_pass : (r : Result Unit BuildFault) (old new : BorrowedList) (v : List ℕ) → OnOk r (new ≡ with_borrowed old v) → OnErr r (new ≡ old) → new.pass ≡ old.pass
same_pass (Ok x) old new v is same = ap (λ (l : BorrowedList). l.pass) is
same_pass (Err e) old new v is same = ap (λ (l : BorrowedList). l.pass) same

texts_end : (t u b : BorrowedList) (h : Built) → AreApart t u b h
    → joined_end text_bytes (together t u b h).starts.strings (together t u b h).texts ≡ bytes_of t.pass t.values + 1
texts_end t u b h apart = rw (apart.texts, starts_of t u b h apart) (ends_at pass.Texts t.values)

users_end : (t u b : BorrowedList) (h : Built) → AreApart t u b h
    → joined_end user_bytes (together t u b h).starts.users (together t u b h).users ≡ bytes_of u.pass u.values + 1
users_end t u b h apart = rw (apart.users, starts_of t u b h apart) (ends_at pass.Users u.values)

blobs_end : (t u b : BorrowedList) (h : Built) → AreApart t u b h
    → joined_end blob_bytes (together t u b h).starts.blobs (together t u b h).blobs ≡ bytes_of b.pass b.values + 1
blobs_end t u b h apart = rw (apart.blobs, starts_of t u b h apart) (ends_at pass.Blobs b.values)

pub are_within : (t u b : BorrowedList) (h : Built) → AreApart t u b h → bytes_of t.pass t.values + 1 ≤ heap_limit t.pass → bytes_of u.pass u.values + 1 ≤ heap_limit u.pass
    → bytes_of b.pass b.values + 1 ≤ heap_limit b.pass → AreWithinLimits h → AreWithinLimits (together t u b h)
are_within t u b h apart texts users blobs within = record {
  texts = omega (arith, texts_end t u b h apart, texts, ap heap_limit apart.texts);
  users = omega (arith, users_end t u b h apart, users, ap heap_limit apart.users);
  blobs = omega (arith, blobs_end t u b h apart, blobs, ap heap_limit apart.blobs);
  guids = within.guids;
}

guids_size : (gs : List (List ℕ)) → joined_size (guids_alone gs) ≡ 3 + 16 * length gs
unfolding joined_size joined_end
guids_size gs = omega arith

ends_together : (h : Built) → joined_size h ≡ joined_end text_bytes h.starts.strings h.texts + joined_end user_bytes h.starts.users h.users + joined_end blob_bytes h.starts.blobs h.blobs + 16 * (h.starts.guids + length h.guids)
unfolding joined_size
ends_together h = refl

pub size_of_all : (t u b : BorrowedList) (h : Built) → AreApart t u b h
    → joined_size h + bytes_of t.pass t.values + bytes_of u.pass u.values + bytes_of b.pass b.values ≡ joined_size (together t u b h)
size_of_all t u b h apart =
    let alone : joined_size h ≡ 3 + 16 * length h.guids = ap joined_size apart.guids ∙ guids_size h.guids in
    let none : (together t u b h).starts.guids ≡ 0 = ap (λ (s : HeapLengths). s.guids) (starts_of t u b h apart) in
    omega (arith, ends_together (together t u b h), texts_end t u b h apart, users_end t u b h apart, blobs_end t u b h apart, alone, none)

-- few enough for a number of eight bytes
pub size_few : (t u b : BorrowedList) (h : Built) → AreApart t u b h → AreWithinLimits h → joined_size h ≤ 2 ^ 30
size_few t u b h apart within =
    let alone : joined_size h ≡ 3 + 16 * length h.guids = ap joined_size apart.guids ∙ guids_size h.guids in
    let none : h.starts.guids ≡ 0 = ap (λ (s : HeapLengths). s.guids) (starts_of t u b h apart) in
    omega (arith, alone, none, within.guids)

-- one GUID more
pub guid_filled : (r : Result Unit BuildFault) (t u b : BorrowedList) (old new : Built) (g : List ℕ) → OnOk r (new ≡ with_all pass.Guids old (g ∷ []))
    → OnOk r (together t u b new ≡ with_all pass.Guids (together t u b old) (g ∷ []))
unfolding with_all
guid_filled (Ok x) t u b old new g is = ap (together t u b) is
guid_filled (Err e) t u b old new g is = tt

pub guid_refused : (r : Result Unit BuildFault) (t u b : BorrowedList) (h : Built) (g : List ℕ) → IsPast r pass.Guids (with_all pass.Guids h (g ∷ []))
    → IsPast r pass.Guids (with_all pass.Guids (together t u b h) (g ∷ []))
unfolding with_all
guid_refused (Ok x) t u b h g past = tt
guid_refused (Err Memory) t u b h g past = tt
guid_refused (Err (TooLarge heap)) t u b h g past = past

guid_alone : (h : Built) (g : List ℕ) → h ≡ guids_alone h.guids → with_all pass.Guids h (g ∷ []) ≡ guids_alone (with_all pass.Guids h (g ∷ [])).guids
unfolding with_all
guid_alone h g alone = ap (λ (k : Built). with_guid (record { starts = k.starts; texts = k.texts; users = k.users; blobs = k.blobs; guids = h.guids }) g) alone

still_alone : (r : Result Unit BuildFault) (old new : Built) (g : List ℕ) → old ≡ guids_alone old.guids → OnOk r (new ≡ with_all pass.Guids old (g ∷ [])) → OnErr r (new ≡ old)
    → new ≡ guids_alone new.guids
still_alone (Ok x) old new g alone is same = subst (λ (h : Built). h ≡ guids_alone h.guids) (sym is) (guid_alone old g alone)
still_alone (Err e) old new g alone is same = subst (λ (h : Built). h ≡ guids_alone h.guids) (sym same) alone

pub guid_apart : (r : Result Unit BuildFault) (t u b : BorrowedList) (old new : Built) (g : List ℕ) → AreApart t u b old → OnOk r (new ≡ with_all pass.Guids old (g ∷ [])) → OnErr r (new ≡ old)
    → AreApart t u b new
guid_apart r t u b old new g apart is same = record { texts = apart.texts; users = apart.users; blobs = apart.blobs; guids = still_alone r old new g apart.guids is same }
