-- No list of a case breaks a rule behind those before it, and its delta's heaps stay little.
use Rattle.std.proofs.Common.{◌≡◌, ℕ, zero, suc, ◌+◌, ◌*◌, ◌<◌, ◌≤◌, ◌^◌, false, List, [], ◌∷◌, length, map, take, Option, Some, None, replicate, refl, sym, ap, ◌∙◌, arith, subst}
use Rattle.std.specs.Prelude.{slice_get, ◌==◌, bytes_eq}
use Rattle.std.specs.List.{list_any}
use Rattle.std.proofs.lemmas.Bool.Decides.{nat_tests}
use Rattle.std.proofs.lemmas.Option.{slice_get_within}
use Rattle.enc_base.specs.Order.{first_below}
use Rattle.enc_meta.specs.Built.{none_from, with_entry, with_guid}
use Rattle.enc_meta.specs.Heaps.{nil_guid}
use Rattle.enc_meta.specs.Joined.{joined_lengths}
use Rattle.enc_meta.specs.declared.heaps.HeapLengths.{HeapLengths}
use Rattle.enc_plain.specs.Chain.{Chain}
use Rattle.enc_plain.specs.Module.{Module}
use Rattle.enc_edit_list.specs.declared.edit.EditList.{EditList}
use Rattle.enc_rules.specs.First.{edit_rules, first_at, first_edit}
use Rattle.enc_rules.specs.Rules.{id_is_taken, heaps_are_full, there_are_too_many, heap_passes, heaps_with}
use Rattle.enc_memory_module.specs.Applied.{rules_of_rows, MayApply}
use Rattle.enc_generator.specs.Generated.{generated_base, generated_lists, edited_by}
use Rattle.enc_generator.specs.Laws.{AreLittle, IsDrawnChain, BaseIsLittle, GeneratedObeys, GeneratedStaysLittle, GeneratedIsLight}
use Rattle.enc_generator.proofs.Cases.{generated_follow}
use Rattle.enc_generator.proofs.Sums.{AllHave, front_most, not_past}
use Rattle.enc_generator.proofs.Light.{AreLightRows}
use Rattle.enc_generator.proofs.Weighed.{module_weighs}
use Rattle.enc_generator.proofs.LittleCases.{IsDrawn, AreDrawn, case_drawn, case_many, drawn_at, base_little, case_little}
use Rattle.enc_generator.proofs.Brought.{Grows, front_grows, all_grow, within_limits}
use Rattle.enc_generator.proofs.JoinedMore.{strings_more, users_more, blobs_more, guids_more}
use Rattle.enc_generator.proofs.RulesAlike.{obeyed_there, not_too_many}
use Rattle.enc_generator.proofs.CasesLight.{rewrite_none}

pub base_weighs : BaseIsLittle
base_weighs = let weight = module_weighs 1005 generated_base base_little in omega (arith, weight)

-- E4: the first byte of an EncId is the number of its list
no_nil : (n : ℕ) → 1 ≤ n → bytes_eq (n ∷ replicate 15 1) nil_guid ≡ false
unfolding nil_guid
no_nil n some = let e : (n == 0) ≡ false = grind (arith, nat_tests, some) in rw e refl

other_id : (m n : ℕ) → m < n → bytes_eq (m ∷ replicate 15 1) (n ∷ replicate 15 1) ≡ false
other_id m n low = let e : (m == n) ≡ false = grind (arith, nat_tests, low) in rw e refl

other_ids : (number j n : ℕ) (lists : List EditList) → AreDrawn number lists → number + j ≤ n → list_any (λ id. bytes_eq id (n ∷ replicate 15 1)) (map (λ (l : EditList). l.enc_id) (take j lists)) ≡ false
other_ids number zero n lists drawn low = refl
other_ids number (suc j) n [] drawn low = refl
other_ids number (suc j) n (l ∷ lists) drawn low = rw (drawn.0.id, other_id number n (omega (arith, low)), other_ids (number + 1) j n lists drawn.1 (omega (arith, low))) refl

id_is_free : (c : Chain) (l : EditList) (j : ℕ) (lists : List EditList) → AreDrawn 1 lists → IsDrawn (1 + j) l → c.ids ≡ map (λ (l : EditList). l.enc_id) (take j lists) → id_is_taken c l ≡ false
unfolding id_is_taken
id_is_free c l j lists drawn own ids = rw (own.id, ids, no_nil (1 + j) (omega arith), other_ids 1 j (1 + j) lists drawn (omega arith)) refl

-- E5: what is little has room for what edits bring
none_full : (c : Chain) (l : EditList) → AreLittle 64 (joined_lengths c.heaps) → heaps_are_full c l ≡ false
unfolding heaps_are_full
none_full c l little =
    let strings = little.strings in
    let users = little.users in
    let blobs = little.blobs in
    let guids = little.guids in
    let texts_room = within_limits (none_from (joined_lengths c.heaps)) (omega (arith, strings)) (omega (arith, users)) (omega (arith, blobs)) in
    let guids_room = not_past (2 ^ 29) (16 * ((joined_lengths c.heaps).guids + 1)) (omega (arith, guids)) in
    rw (texts_room, guids_room) refl

none_passes : (c : Chain) (l : EditList) (number k : ℕ) → AreLittle 64 (joined_lengths c.heaps) → AllHave AreLightRows c.plain.tables → IsDrawn number l → heap_passes c l k ≡ false
unfolding heap_passes
none_passes c l number k little light own =
    let g = front_grows c (none_from (joined_lengths c.heaps)) (k + 1) own.acts light own.short own.few in
    let starts = g.starts in
    let load = g.load in
    let s = ap (λ (h : HeapLengths). h.strings) starts in
    let u = ap (λ (h : HeapLengths). h.users) starts in
    let b = ap (λ (h : HeapLengths). h.blobs) starts in
    let strings = little.strings in
    let users = little.users in
    let blobs = little.blobs in
    rw own.edits (within_limits _ (omega (arith, load, s, strings)) (omega (arith, load, u, users)) (omega (arith, load, b, blobs)))

-- no rule is broken where none of each kind is
all_silent : {A : Type 0} (rule : ℕ → Option A) (n : ℕ) → ((k : ℕ) → k < n → rule k ≡ None) → first_below rule n ≡ None
unfolding first_below
all_silent rule zero each = refl
all_silent rule (suc n) each = rw (all_silent rule n (λ k low. each k (omega (arith, low))), each n (omega arith)) refl

none_first : (c : Chain) (l : EditList) → id_is_taken c l ≡ false → heaps_are_full c l ≡ false → there_are_too_many c l ≡ false → ((k : ℕ) → heap_passes c l k ≡ false) → ((k : ℕ) → k < length l.edits → first_at rules_of_rows c l k ≡ None) → first_edit c l ≡ None
unfolding first_edit
none_first c l id full many heaps rows = rw (id, full, many) (all_silent (first_at edit_rules c l) (length l.edits) (λ k low. rw (heaps k) (rows k low)))

-- as many EncIds as lists
ids_many : (lists : List EditList) → length (map (λ (l : EditList). l.enc_id) lists) ≡ length lists
ids_many [] = refl
ids_many (l ∷ lists) = ap suc (ids_many lists)

still_little : (m n : ℕ) (h : HeapLengths) → m ≤ n → AreLittle m h → AreLittle n h
still_little m n h few little =
    let strings = little.strings in
    let users = little.users in
    let blobs = little.blobs in
    let guids = little.guids in
    record { strings = omega (arith, few, strings); users = omega (arith, few, users); blobs = omega (arith, few, blobs); guids = omega (arith, few, guids) }

low_enough : (start count j : ℕ) (l : EditList) → count ≤ 64 → slice_get (generated_lists start count) j ≡ Some l → j < 64
low_enough start count j l few there =
    let low = slice_get_within (generated_lists start count) j l there in
    let many = case_many start count in
    omega (arith, few, low, many)

own_drawn : (start count j : ℕ) (l : EditList) → count ≤ 64 → slice_get (generated_lists start count) j ≡ Some l → IsDrawn (1 + j) l
own_drawn start count j l few there = drawn_at 1 (generated_lists start count) j l (case_drawn start count few) there

light_chain : (start count j : ℕ) (c : Chain) → count ≤ 64 → IsDrawnChain (take j (generated_lists start count)) c → AllHave AreLightRows c.plain.tables
light_chain start count j c few drawn = subst (λ (m : Module). AllHave AreLightRows m.tables) (sym drawn.plain) (case_little start count j few).rows

pub generated_obeys : GeneratedObeys
generated_obeys start count j l c few there drawn =
    let own = own_drawn start count j l few there in
    let light = light_chain start count j c few drawn in
    let low = low_enough start count j l few there in
    let before = front_most j (generated_lists start count) in
    let little = still_little (length (take j (generated_lists start count))) 64 (joined_lengths c.heaps) (omega (arith, low, before)) drawn.heaps in
    let may : MayApply c.plain l = subst (λ (m : Module). MayApply m l) (sym drawn.plain) (generated_follow start count j l few there).1 in
    let ids : length c.ids ≡ length (take j (generated_lists start count)) = ap (λ (xs : List (List ℕ)). length xs) drawn.ids ∙ ids_many (take j (generated_lists start count)) in
    none_first c l
    (id_is_free c l j (generated_lists start count) (case_drawn start count few) own drawn.ids)
    (none_full c l little)
    (not_too_many c l may.few (omega (arith, ids, before, low)))
    (λ k. none_passes c l (1 + j) k little light own)
    (λ k within. obeyed_there c l k may.rules within)

-- the heaps of its delta
one_grows : (c : Chain) (l : EditList) (number : ℕ) → AllHave AreLightRows c.plain.tables → IsDrawn number l → Grows 6000 (none_from (joined_lengths c.heaps)) (heaps_with c l.edits l.edits)
one_grows c l number light own = subst (λ es. Grows 6000 (none_from (joined_lengths c.heaps)) (heaps_with c es es)) (sym own.edits) (all_grow c (none_from (joined_lengths c.heaps)) own.acts light own.short own.few)

id_long : (number : ℕ) (l : EditList) → IsDrawn number l → length l.enc_id ≡ 16
id_long number l own = ap (λ (id : List ℕ). length id) own.id

pub generated_stays_little : GeneratedStaysLittle
generated_stays_little start count j l c few there drawn =
    let own = own_drawn start count j l few there in
    let light = light_chain start count j c few drawn in
    let before = front_most j (generated_lists start count) in
    let little = still_little (length (take j (generated_lists start count))) j (joined_lengths c.heaps) before drawn.heaps in
    let g = one_grows c l (1 + j) light own in
    let load = g.load in
    let built = with_guid (heaps_with c l.edits l.edits) l.enc_id in
    let a = little.strings in
    let b = little.users in
    let d = little.blobs in
    let e = little.guids in
    let s = strings_more c.heaps built in
    let u = users_more c.heaps built in
    let v = blobs_more c.heaps built in
    let w = guids_more c.heaps built l.enc_id (ap (λ (h : HeapLengths). h.guids) g.starts) (ap (λ gs. with_entry gs l.enc_id) g.guids) (id_long (1 + j) l own) in
    record { strings = omega (arith, load, a, s); users = omega (arith, load, b, u); blobs = omega (arith, load, d, v); guids = omega (arith, e, w) }

pub generated_is_light : GeneratedIsLight
generated_is_light start count j p few nothing = rewrite_none 2285 (edited_by generated_base (take j (generated_lists start count))) p (omega arith) (case_little start count j few) nothing
