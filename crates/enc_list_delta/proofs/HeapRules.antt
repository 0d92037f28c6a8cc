-- The joined heaps with those of a list are within their limits.
use Rattle.std.proofs.Common.{◌≡◌, ℕ, suc, ◌+◌, Bool, true, false, List, [], ◌∷◌, ◌++◌, length, map, refl, sym, ap, ◌∙◌, arith, append_assoc}
use Rattle.std.specs.Prelude.{◌^◌, ◌*◌, ◌/◌, ◌-◌, ◌||◌, ◌==◌, nat_lt, max, sum_by, flat_map, replicate, slice_index, bytes_eq}
use Rattle.std.specs.List.{list_all}
use Rattle.std.proofs.lemmas.Bool.{and_parts}
use Rattle.std.proofs.lemmas.Bool.Decides.{nat_tests}
use Rattle.std.proofs.lemmas.List.{length-append, length-replicate}
use Rattle.std.proofs.lemmas.List.Sums.{sum_by-cons}
use Rattle.enc_meta.specs.Built.{Built, none_from, with_text, with_user, with_blob, is_guid_kept, with_entry, text_bytes, user_bytes, blob_bytes, heap_bytes, guid_bytes, joined_end, heaps_built}
use Rattle.enc_meta.specs.Heaps.{Counted, nil_guid}
use Rattle.enc_meta.specs.Joined.{joined_length, joined_lengths, guid_entries, most}
use Rattle.enc_meta.specs.declared.heaps.HeapLengths.{HeapLengths}
use Rattle.enc_plain.specs.Chain.{Chain}
use Rattle.enc_plain.specs.Rows.{Rows}
use Rattle.enc_rows.specs.Source.{Source}
use Rattle.enc_delta.specs.Rules.{heaps_after, last_byte, strings_break, users_break, blobs_break, guids_break, heap_fault}
use Rattle.enc_edit_list.specs.declared.edit.Edit.{Edit}
use Rattle.enc_edit_list.specs.declared.edit.EditList.{EditList}
use Rattle.enc_rules.specs.Listed.{rows_listed}
use Rattle.enc_rules.specs.Rules.{passes_limits, heaps_are_full, with_texts, with_users, with_blobs, texts_of_edit, users_of_edit, blobs_of_edit, heaps_after_edit, with_edits, heaps_with}
use Rattle.enc_list_delta.specs.Holds.{MayFollow, heaps_written, SaysDelta}
use Rattle.enc_list_delta.specs.Laws.{KeepsTo}
use Rattle.enc_list_delta.proofs.ModuleRules.{heaps_are, is_free}
use Rattle.enc_list_delta.proofs.TokensUnbroken.{other_rules, heaps_have_room}

-- texts, user texts and blobs leave where heaps begin, and their GUIDs
pub record SameEnds (h k : Built) : Type 0 where
  pub starts : k.starts ≡ h.starts
  pub guids : k.guids ≡ h.guids

further : (h k j : Built) → SameEnds h k → SameEnds k j → SameEnds h j
further h k j a b = record { starts = b.starts ∙ a.starts; guids = b.guids ∙ a.guids }

texts_keep : (h : Built) (values : List (List ℕ)) → SameEnds h (with_texts h values)
unfolding with_texts
texts_keep h [] = record { starts = refl; guids = refl }
texts_keep h (v ∷ values) = let w = texts_keep (with_text h v) values in record { starts = w.starts; guids = w.guids }

users_keep : (h : Built) (values : List (List ℕ)) → SameEnds h (with_users h values)
unfolding with_users
users_keep h [] = record { starts = refl; guids = refl }
users_keep h (v ∷ values) = let w = users_keep (with_user h v) values in record { starts = w.starts; guids = w.guids }

blobs_keep : (h : Built) (values : List (List ℕ)) → SameEnds h (with_blobs h values)
unfolding with_blobs
blobs_keep h [] = record { starts = refl; guids = refl }
blobs_keep h (v ∷ values) = let w = blobs_keep (with_blob h v) values in record { starts = w.starts; guids = w.guids }

edit_keeps : (rows : Rows) (h : Built) (e : Edit) → SameEnds h (heaps_after_edit rows h e)
unfolding heaps_after_edit
edit_keeps rows h e =
    let a = texts_keep h (texts_of_edit rows e) in
    let b = users_keep (with_texts h (texts_of_edit rows e)) (users_of_edit e) in
    let d = blobs_keep (with_users (with_texts h (texts_of_edit rows e)) (users_of_edit e)) (blobs_of_edit rows e) in
    record { starts = d.starts ∙ b.starts ∙ a.starts; guids = d.guids ∙ b.guids ∙ a.guids }

edits_keep : (rows : Rows) (h : Built) (edits : List Edit) → SameEnds h (with_edits rows h edits)
unfolding with_edits
edits_keep rows h [] = record { starts = refl; guids = refl }
edits_keep rows h (e ∷ edits) = let a = edit_keeps rows h e in let b = edits_keep rows (heaps_after_edit rows h e) edits in record { starts = b.starts ∙ a.starts; guids = b.guids ∙ a.guids }

-- where the heaps of the delta begin
pub starts_are : (c : Chain) (l : EditList) → (heaps_written c l).starts ≡ joined_lengths c.heaps
unfolding heaps_written
starts_are c l = (edits_keep (rows_listed c l.edits) (none_from (joined_lengths c.heaps)) l.edits).starts

-- its only GUID is the list's EncId
left_false : (a b : Bool) → (a || b) ≡ false → a ≡ false
left_false true b h = absurd (cc)
left_false false b h = refl

right_false : (a b : Bool) → (a || b) ≡ false → b ≡ false
right_false true b h = absurd (cc)
right_false false b h = h

one_entry : (g : List ℕ) → bytes_eq g nil_guid ≡ false → with_entry [] g ≡ g ∷ []
unfolding with_entry is_guid_kept
one_entry g h = rw h refl

pub guids_are : (c : Chain) (l : EditList) → MayFollow c l → (heaps_written c l).guids ≡ l.enc_id ∷ []
unfolding heaps_written
guids_are c l may =
    let none = (edits_keep (rows_listed c l.edits) (none_from (joined_lengths c.heaps)) l.edits).guids in
    ap (λ (gs : List (List ℕ)). with_entry gs l.enc_id) none ∙ one_entry l.enc_id (left_false _ _ (is_free c l may))

-- the joined length with one heap more
joined_more : (heaps : List (List ℕ)) (h : List ℕ) → joined_length (heaps ++ h ∷ []) ≡ joined_length heaps + length h
joined_more [] h = refl
joined_more (x ∷ heaps) h =
    let more = joined_more heaps h in
    let a = sum_by-cons (λ (g : List ℕ). length g) x (heaps ++ h ∷ []) in
    let b = sum_by-cons (λ (g : List ℕ). length g) x heaps in
    omega (arith, more, a, b)

mapped_more : {A B : Type 0} (f : A → B) (xs : List A) (x : A) → map f (xs ++ x ∷ []) ≡ map f xs ++ f x ∷ []
mapped_more f [] x = refl
mapped_more f (y ∷ xs) x = ap (λ ys. f y ∷ ys) (mapped_more f xs x)

flat_length : (encode : List ℕ → List ℕ) (values : List (List ℕ)) → length (flat_map encode values) ≡ sum_by (λ (v : List ℕ). length (encode v)) values
flat_length encode [] = refl
flat_length encode (v ∷ values) =
    let e = length-append (encode v) (flat_map encode values) in
    let more = flat_length encode values in
    let sum = sum_by-cons (λ (w : List ℕ). length (encode w)) v values in
    omega (arith, e, more, sum)

heap_length : (encode : List ℕ → List ℕ) (values : List (List ℕ)) → length (heap_bytes encode values) ≡ 1 + sum_by (λ (v : List ℕ). length (encode v)) values
unfolding heap_bytes
heap_length encode values = let e = flat_length encode values in omega (arith, e)

ends_at : (encode : List ℕ → List ℕ) (heaps : List (List ℕ)) (start : ℕ) (values : List (List ℕ)) → joined_length heaps ≡ start → joined_length (heaps ++ heap_bytes encode values ∷ []) ≡ joined_end encode start values
unfolding joined_end
ends_at encode heaps start values is = let a = joined_more heaps (heap_bytes encode values) in let b = heap_length encode values in omega (arith, a, b, is)

-- the last byte of texts is a zero
last_of : (xs : List ℕ) → slice_index (xs ++ 0 ∷ []) (length (xs ++ 0 ∷ []) - 1) ≡ 0
last_of [] = refl
last_of (x ∷ xs) =
    let e = length-append xs (0 ∷ []) in
    let long : length (x ∷ xs ++ 0 ∷ []) - 1 ≡ suc (length (xs ++ 0 ∷ []) - 1) = omega (arith, e) in
    rw long (last_of xs)

zero_last : (texts : List (List ℕ)) → (xs : List ℕ) × (0 ∷ flat_map text_bytes texts ≡ xs ++ 0 ∷ [])
zero_last [] = ([], refl)
zero_last (t ∷ rest) =
    let w = zero_last rest in
    let a : (t ++ 0 ∷ []) ++ flat_map text_bytes rest ≡ t ++ (0 ∷ flat_map text_bytes rest) = append_assoc t (0 ∷ []) (flat_map text_bytes rest) in
    let b : t ++ (w.0 ++ 0 ∷ []) ≡ (t ++ w.0) ++ 0 ∷ [] = sym (append_assoc t w.0 (0 ∷ [])) in
    (0 ∷ t ++ w.0, ap (λ ys. 0 ∷ ys) (a ∙ ap (λ ys. t ++ ys) w.1 ∙ b))

texts_end : (texts : List (List ℕ)) → last_byte (heap_bytes text_bytes texts) ≡ 0
unfolding heap_bytes
texts_end texts = let w = zero_last texts in ap last_byte w.1 ∙ last_of w.0

-- no joined heap passes its limit
not_past : (limit n m : ℕ) → n ≡ m → nat_lt limit m ≡ false → nat_lt limit n ≡ false
not_past limit n m is h = rw is h

record Rooms (c : Chain) (l : EditList) : Type 0 where
  strings : nat_lt (2 ^ 29) (joined_end text_bytes (joined_lengths c.heaps).strings (heaps_written c l).texts) ≡ false
  users : nat_lt (2 ^ 24) (joined_end user_bytes (joined_lengths c.heaps).users (heaps_written c l).users) ≡ false
  blobs : nat_lt (2 ^ 29) (joined_end blob_bytes (joined_lengths c.heaps).blobs (heaps_written c l).blobs) ≡ false

rooms : (c : Chain) (l : EditList) → MayFollow c l → Rooms c l
unfolding passes_limits heaps_written
rooms c l may =
    let h = heaps_with c l.edits l.edits in
    let starts = (edits_keep (rows_listed c l.edits) (none_from (joined_lengths c.heaps)) l.edits).starts in
    let all = heaps_have_room c l may in
    let two = left_false _ _ all in
    record {
      strings = ap (λ (n : HeapLengths). nat_lt (2 ^ 29) (joined_end text_bytes n.strings h.texts)) (sym starts) ∙ left_false _ _ two;
      users = ap (λ (n : HeapLengths). nat_lt (2 ^ 24) (joined_end user_bytes n.users h.users)) (sym starts) ∙ right_false _ _ two;
      blobs = ap (λ (n : HeapLengths). nat_lt (2 ^ 29) (joined_end blob_bytes n.blobs h.blobs)) (sym starts) ∙ right_false _ _ all;
    }

strings_keep : (c : Chain) (l : EditList) (s : Source) → MayFollow c l → SaysDelta c l s → strings_break c s ≡ false
unfolding strings_break joined_lengths heaps_built
strings_keep c l s may says =
    let h = heaps_written c l in
    let e : joined_length (map (λ (g : Counted). g.strings) (heaps_after c s)) ≡ joined_end text_bytes (joined_lengths c.heaps).strings h.texts =
    ap (λ (hs : List Counted). joined_length (map (λ (g : Counted). g.strings) hs)) (heaps_are c l s says)
    ∙ ap joined_length (mapped_more (λ (g : Counted). g.strings) c.heaps (heaps_built h))
    ∙ ends_at text_bytes (map (λ (g : Counted). g.strings) c.heaps) (joined_lengths c.heaps).strings h.texts refl in
    let zero : last_byte s.heaps.strings ≡ 0 = ap (λ (g : Counted). last_byte g.strings) says.heaps ∙ texts_end h.texts in
    rw (e, (rooms c l may).strings, zero) refl

users_keep_room : (c : Chain) (l : EditList) (s : Source) → MayFollow c l → SaysDelta c l s → users_break c s ≡ false
unfolding users_break joined_lengths heaps_built
users_keep_room c l s may says =
    let h = heaps_written c l in
    let e : joined_length (map (λ (g : Counted). g.users) (heaps_after c s)) ≡ joined_end user_bytes (joined_lengths c.heaps).users h.users =
    ap (λ (hs : List Counted). joined_length (map (λ (g : Counted). g.users) hs)) (heaps_are c l s says)
    ∙ ap joined_length (mapped_more (λ (g : Counted). g.users) c.heaps (heaps_built h))
    ∙ ends_at user_bytes (map (λ (g : Counted). g.users) c.heaps) (joined_lengths c.heaps).users h.users refl in
    rw (e, (rooms c l may).users) refl

blobs_keep_room : (c : Chain) (l : EditList) (s : Source) → MayFollow c l → SaysDelta c l s → blobs_break c s ≡ false
unfolding blobs_break joined_lengths heaps_built
blobs_keep_room c l s may says =
    let h = heaps_written c l in
    let e : joined_length (map (λ (g : Counted). g.blobs) (heaps_after c s)) ≡ joined_end blob_bytes (joined_lengths c.heaps).blobs h.blobs =
    ap (λ (hs : List Counted). joined_length (map (λ (g : Counted). g.blobs) hs)) (heaps_are c l s says)
    ∙ ap joined_length (mapped_more (λ (g : Counted). g.blobs) c.heaps (heaps_built h))
    ∙ ends_at blob_bytes (map (λ (g : Counted). g.blobs) c.heaps) (joined_lengths c.heaps).blobs h.blobs refl in
    rw (e, (rooms c l may).blobs) refl

-- `#GUID` has one entry more
most_more : (ns : List ℕ) (n : ℕ) → most (ns ++ n ∷ []) ≡ max (most ns) n
most_more [] n = omega arith
most_more (m ∷ ns) n = let more = most_more ns n in omega (arith, more)

guids_long : (start : ℕ) (g : List ℕ) → length g ≡ 16 → length (guid_bytes start (g ∷ [])) / 16 ≡ start + 1
unfolding guid_bytes
guids_long start g long =
    let a = length-append (replicate (16 * start) 0) (g ++ []) in
    let b = length-append g [] in
    let r = length-replicate {A = ℕ} (16 * start) 0 in
    omega (arith, a, b, r, long)

id_long : (c : Chain) (l : EditList) (s : Source) → MayFollow c l → SaysDelta c l s → length l.enc_id ≡ 16
id_long c l s may says =
    let all : list_all (λ (v : List ℕ). length v == 16) (l.enc_id ∷ []) ≡ true = ap (list_all (λ (v : List ℕ). length v == 16)) (sym (guids_are c l may)) ∙ says.good.guids in
    let one : (length l.enc_id == 16) ≡ true = (and_parts (length l.enc_id == 16) true all).0 in
    grind (arith, nat_tests, one)

entries_are : (c : Chain) (l : EditList) (s : Source) → MayFollow c l → SaysDelta c l s → length s.heaps.guids / 16 ≡ guid_entries c.heaps + 1
unfolding joined_lengths heaps_built
entries_are c l s may says =
    let h = heaps_written c l in
    let start : h.starts.guids ≡ guid_entries c.heaps = ap (λ (n : HeapLengths). n.guids) (starts_are c l) in
    ap (λ (g : Counted). length g.guids / 16) says.heaps
    ∙ ap (λ (gs : List (List ℕ)). length (guid_bytes h.starts.guids gs) / 16) (guids_are c l may)
    ∙ ap (λ n. length (guid_bytes n (l.enc_id ∷ [])) / 16) start
    ∙ guids_long (guid_entries c.heaps) l.enc_id (id_long c l s may says)

guid_room : (c : Chain) (l : EditList) → MayFollow c l → nat_lt (2 ^ 29) (16 * (guid_entries c.heaps + 1)) ≡ false
unfolding heaps_are_full joined_lengths
guid_room c l may = right_false _ _ (other_rules c l may).heaps

guids_keep : (c : Chain) (l : EditList) (s : Source) → MayFollow c l → SaysDelta c l s → guids_break c s ≡ false
unfolding guids_break
guids_keep c l s may says =
    let own = entries_are c l s may says in
    let all : guid_entries (heaps_after c s) ≡ guid_entries c.heaps + 1 =
    ap most (mapped_more (λ (h : Counted). length h.guids / 16) c.heaps s.heaps) ∙ most_more (map (λ (h : Counted). length h.guids / 16) c.heaps) (length s.heaps.guids / 16) ∙ omega (arith, own) in
    let fewer : nat_lt (guid_entries c.heaps + 1) (guid_entries c.heaps) ≡ false = grind (arith, nat_tests) in
    rw (all, own, guid_room c l may, fewer) refl

pub keeps_heaps : KeepsTo heap_fault
unfolding heap_fault
keeps_heaps c l s may says = rw (strings_keep c l s may says, users_keep_room c l s may says, blobs_keep_room c l s may says, guids_keep c l s may says) refl
