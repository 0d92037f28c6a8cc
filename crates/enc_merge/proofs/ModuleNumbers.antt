-- The numbers of the Module row name the GUIDs of the two deltas.
use Rattle.std.proofs.Common.{◌≡◌, ℕ, zero, suc, ◌+◌, ◌*◌, ◌/◌, ◌<◌, ◌≤◌, Bool, true, false, List, [], ◌∷◌, ◌++◌, length, Option, Some, None, refl, ap, ◌∙◌, inl, inr, arith}
use Rattle.std.specs.Prelude.{◌^◌, not, max, nat_le, nat_lt, unwrap_or, slice_index, bytes_eq, if◌then◌else◌}
use Rattle.std.proofs.lemmas.Bool.{cases_Bool, or_parts, not-false}
use Rattle.std.proofs.lemmas.Bool.Decides.{nat_tests}
use Rattle.std.proofs.lemmas.Slice.Eq.{bytes_eq-Decides}
use Rattle.enc_base.specs.declared.refusal.Place.TheVariants as place
use Rattle.enc_meta.specs.Heaps.{Counted, nil_guid}
use Rattle.enc_meta.specs.Joined.{first_guid, joined_guid, guid_entries}
use Rattle.enc_meta.proofs.JoinedLengths.{most_more}
use Rattle.enc_plain.specs.Chain.{Chain, id_of, mvid_of}
use Rattle.enc_rows.specs.Source.{Source, raw_in}
use Rattle.enc_schema.specs.Columns as columns
use Rattle.enc_schema.specs.Schema.{columns_in}
use Rattle.enc_delta.specs.Rules.{heaps_after, module_token, own_guid, guids_break, heap_fault, other_module, not_next, other_base}
use Rattle.enc_delta.proofs.Unbroken.{landed}
use Rattle.enc_agg.specs.Extend.{extended}
use Rattle.enc_agg.specs.Seen.{History}
use Rattle.enc_merged_delta.specs.Held.{heaps_with_merged}
use Rattle.enc_merged_delta.proofs.HeapLengths.{guids_unbroken}
use Rattle.enc_merged_delta.proofs.MovedEntries.{both_guid, guid_stays}
use Rattle.enc_merged_delta.proofs.Silent.{unbroken_is}
use Rattle.enc_merge.specs.Writing.{AreLast, Both, IsModuleHeld}
use Rattle.enc_merge.proofs.Guids.{entry_there}

pub some_columns : nat_lt 0 (length (columns_in 0)) ≡ true
unfolding columns_in
some_columns = refl

pub five_columns : 5 ≡ length (columns_in 0)
unfolding columns_in
five_columns = refl

-- past the entries of the joined `#GUID` there are none
none_past : (heaps : List Counted) (k : ℕ) → guid_entries heaps ≤ k → joined_guid heaps (suc k) ≡ None
unfolding first_guid
none_past [] k past = refl
none_past (h ∷ heaps) k past =
    let short : nat_le (16 * k + 16) (length h.guids) ≡ false = elim (cases_Bool (nat_le (16 * k + 16) (length h.guids))) [
      | inl long ↦ let le : 16 * k + 16 ≤ length h.guids = grind (arith, nat_tests, long) in absurd (omega (arith, le, past))
      | inr less ↦ less
    ] in
    rw short (none_past heaps k (omega (arith, past)))

-- a delta has all entries of the chain before it
all_entries : (c : Chain) (s : Source) → heap_fault c s ≡ None → guid_entries (heaps_after c s) ≡ length s.heaps.guids / 16
unfolding guids_break
all_entries c s kept =
    let more : nat_lt (length s.heaps.guids / 16) (guid_entries c.heaps) ≡ false = (or_parts (nat_lt (2 ^ 29) (16 * guid_entries (heaps_after c s))) (nat_lt (length s.heaps.guids / 16) (guid_entries c.heaps)) (guids_unbroken c s kept)).1 in
    let le : guid_entries c.heaps ≤ length s.heaps.guids / 16 = grind (arith, nat_tests, more) in
    let e : guid_entries (heaps_after c s) ≡ max (guid_entries c.heaps) (length s.heaps.guids / 16) = most_more (λ (h : Counted). length h.guids / 16) c.heaps s.heaps in
    omega (arith, e, le)

-- the number of a GUID, or 0 where it can't be read
abbrev pub read_number : Source → ℕ → ℕ
read_number s i = if nat_lt (length s.heaps.guids / 16) (raw_in s module_token i) then 0 else raw_in s module_token i

read_there : (heaps : List Counted) (n : ℕ) → n ≤ guid_entries heaps → joined_guid heaps n ≡ None → ⊥
read_there heaps zero few none = cc
read_there heaps (suc k) few none =
    let e : k + 1 ≡ suc k = omega arith in
    entry_there heaps k (omega (arith, few)) (ap (joined_guid heaps) e ∙ none)

unread : (heaps : List Counted) (n : ℕ) → guid_entries heaps < n → joined_guid heaps n ≡ None
unread heaps zero past = absurd (omega (arith, past))
unread heaps (suc k) past = none_past heaps k (omega (arith, past))

-- wherever it still stands, it names the same
named : (c : Chain) (s : Source) (i : ℕ) (all : List Counted) → heap_fault c s ≡ None → ((n : ℕ) (x : List ℕ) → joined_guid (heaps_after c s) n ≡ Some x → joined_guid all n ≡ Some x)
    → unwrap_or (joined_guid all (read_number s i)) nil_guid ≡ own_guid c s i
unfolding own_guid nil_guid
named c s i all kept stays = by (nat_lt (length s.heaps.guids / 16) (raw_in s module_token i)) refl
  where
    there : (o : Option (List ℕ)) → joined_guid (heaps_after c s) (raw_in s module_token i) ≡ o → raw_in s module_token i ≤ guid_entries (heaps_after c s)
        → unwrap_or (joined_guid all (raw_in s module_token i)) nil_guid ≡ unwrap_or (joined_guid (heaps_after c s) (raw_in s module_token i)) nil_guid
    there None is few = absurd (read_there (heaps_after c s) (raw_in s module_token i) few is)
    there (Some x) is few = rw (stays (raw_in s module_token i) x is, is) refl

    by : (b : Bool) → nat_lt (length s.heaps.guids / 16) (raw_in s module_token i) ≡ b
        → unwrap_or (joined_guid all (if b then 0 else raw_in s module_token i)) nil_guid ≡ unwrap_or (joined_guid (heaps_after c s) (raw_in s module_token i)) nil_guid
    by true is =
        let past : length s.heaps.guids / 16 < raw_in s module_token i = grind (arith, nat_tests, is) in
        let e = all_entries c s kept in
        rw (unread (heaps_after c s) (raw_in s module_token i) (omega (arith, e, past))) refl
    by false is =
        let few : raw_in s module_token i ≤ length s.heaps.guids / 16 = grind (arith, nat_tests, is) in
        let e = all_entries c s kept in
        there (joined_guid (heaps_after c s) (raw_in s module_token i)) refl (omega (arith, e, few))

of_first : (c : Chain) (a b : Source) (i : ℕ) → heap_fault c a ≡ None → unwrap_or (joined_guid (heaps_with_merged c a b) (read_number a i)) nil_guid ≡ own_guid c a i
of_first c a b i kept = named c a i (heaps_with_merged c a b) kept (λ n x e. both_guid c a b n x (guid_stays (c.heaps ++ a.heaps ∷ []) b.heaps n x e))

of_second : (c : Chain) (a b : Source) (i : ℕ) → heap_fault (extended c a) b ≡ None
    → unwrap_or (joined_guid (heaps_with_merged c a b) (read_number b i)) nil_guid ≡ own_guid (extended c a) b i
unfolding extended
of_second c a b i kept = named (extended c a) b i (heaps_with_merged c a b) kept (λ n x e. both_guid c a b n x e)

-- what the rules of the first say of its Module row
same_bytes : (x y : List ℕ) → not (bytes_eq x y) ≡ false → x ≡ y
same_bytes x y h = (bytes_eq-Decides x y).0 (not-false (bytes_eq x y) h)

same_mvid : (c : Chain) (s : Source) → other_module c s ≡ None → own_guid c s columns.module_mvid ≡ mvid_of c
unfolding other_module
same_mvid c s h = same_bytes (own_guid c s columns.module_mvid) (mvid_of c) (unbroken_is _ (place.Row module_token) h)

same_base : (c : Chain) (s : Source) → other_base c s ≡ None → own_guid c s columns.module_enc_base_id ≡ id_of c (length c.ids)
unfolding other_base
same_base c s h = same_bytes (own_guid c s columns.module_enc_base_id) (id_of c (length c.ids)) (unbroken_is _ (place.Row module_token) h)

next_is : (c : Chain) (s : Source) → not_next c s ≡ None → raw_in s module_token columns.module_generation ≡ length c.ids + 1
unfolding not_next
next_is c s h = let e = not-false _ (unbroken_is _ (place.Row module_token) h) in grind (arith, nat_tests, e)

-- so they are those of the merged delta
pub module_held : (h : History) (x : Both) (generation mvid enc_id base : ℕ) → AreLast h x → generation ≡ raw_in x.first module_token columns.module_generation
    → mvid ≡ read_number x.first columns.module_mvid → enc_id ≡ read_number x.second columns.module_enc_id → base ≡ read_number x.first columns.module_enc_base_id
    → IsModuleHeld x (slice_index (generation ∷ 0 ∷ mvid ∷ enc_id ∷ base ∷ []))
module_held h x generation mvid enc_id base are g m e b =
    let all = heaps_with_merged x.chain x.first x.second in
    let name : ℕ → List ℕ = λ n. unwrap_or (joined_guid all n) nil_guid in
    let first = landed x.chain x.first are.first.lands.early in
    let second = landed (extended x.chain x.first) x.second are.second.lands.early in
    record {
      generation = g ∙ next_is x.chain x.first first.generation;
      mvid = ap name m ∙ of_first x.chain x.first x.second columns.module_mvid first.heaps ∙ same_mvid x.chain x.first first.mvid;
      enc_id = ap name e ∙ of_second x.chain x.first x.second columns.module_enc_id second.heaps;
      base = ap name b ∙ of_first x.chain x.first x.second columns.module_enc_base_id first.heaps ∙ same_base x.chain x.first first.base;
    }
