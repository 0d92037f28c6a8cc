-- What the edits of a list of a case bring to the heaps of its delta.
use Rattle.std.proofs.Common.{◌≡◌, ℕ, zero, suc, ◌+◌, ◌-◌, ◌*◌, ◌≤◌, ◌^◌, Bool, true, false, List, [], ◌∷◌, length, take, Option, Some, None, refl, ap, ◌∙◌, arith, if◌then◌else◌}
use Rattle.std.specs.Prelude.{slice_get, unwrap_or, option_map, option_and_then, nat_lt}
use Rattle.std.proofs.lemmas.List.Sums.{sum_by-cons}
use Rattle.enc_base.specs.Order.{or_else}
use Rattle.enc_base.specs.declared.token.Token.{Token}
use Rattle.enc_meta.specs.Built.{Built, with_text, with_user, with_blob, text_bytes, user_bytes, blob_bytes, joined_end}
use Rattle.enc_plain.specs.Cell.{Cell, text, blob}
use Rattle.enc_plain.specs.Chain.{Chain, rows_before}
use Rattle.enc_plain.specs.Module.{cells_of}
use Rattle.enc_plain.specs.Rows.{Rows, bytes_of_cell, bytes_at}
use Rattle.enc_edit_list.specs.declared.edit.Edit.{Edit}
use Rattle.enc_edit_list.specs.Added.{adds_to, adding}
use Rattle.enc_rules.specs.Listed.{cells_added, edit_of, rows_listed}
use Rattle.enc_rules.specs.Rules.{texts_of_edit, users_of_edit, blobs_of_edit, with_texts, with_users, with_blobs, heaps_after_edit, with_edits, passes_limits}
use Rattle.enc_rewriter.specs.declared.pass.Pass.TheVariants as pass
use Rattle.enc_generator.specs.Generated.{named_row}
use Rattle.enc_generator.proofs.Acts.{Act, plain_row, method, code, edit_of_act, edits_of_acts}
use Rattle.enc_generator.proofs.Sums.{AllHave, brought, all_at, all_passing, all_front, front_few, not_past}
use Rattle.enc_generator.proofs.Light.{cell_load, cells_load, IsLight, light_load, light_none, AreLightRows, cells_light, method_light}
use Rattle.enc_generator.proofs.Weighed.{cost, costs, heaps_load, one_more, text_cost, blob_cost}
use Rattle.enc_generator.proofs.LittleCases.{IsShortAct}

-- each row has little, as far as it is there
abbrev pub AreLight : Rows → Type 0
AreLight rows = (u : Token) → IsLight (unwrap_or (rows u) [])

cell_bytes : (o : Option Cell) → length (bytes_of_cell o) ≤ brought cell_load o
cell_bytes None = omega arith
cell_bytes (Some (text v)) = omega arith
cell_bytes (Some (blob v)) = omega arith
cell_bytes (Some c) = omega arith

cell_within : (cells : List Cell) (i : ℕ) → brought cell_load (slice_get cells i) ≤ cells_load cells
cell_within [] i = omega arith
cell_within (c ∷ cells) zero = let n = sum_by-cons cell_load c cells in omega (arith, n)
cell_within (c ∷ cells) (suc i) = let n = sum_by-cons cell_load c cells in let rest = cell_within cells i in omega (arith, n, rest)

bytes_few : (rows : Rows) (u : Token) (i : ℕ) → AreLight rows → length (bytes_at rows u i) ≤ 128
unfolding bytes_at
bytes_few rows u i light = by (rows u) (light u)
  where
    by : (o : Option (List Cell)) → IsLight (unwrap_or o []) → length (bytes_of_cell (option_and_then (λ (cells : List Cell). slice_get cells i) o)) ≤ 128
    by None own = omega arith
    by (Some cells) own = let a = cell_bytes (slice_get cells i) in let b = cell_within cells i in let d = light_load cells own in omega (arith, a, b, d)

-- heaps with more values behind the same ones: what they take more at most, and the same GUIDs
pub record Grows (n : ℕ) (h k : Built) : Type 0 where
  pub starts : k.starts ≡ h.starts
  pub guids : k.guids ≡ h.guids
  pub load : heaps_load k ≤ heaps_load h + n

pub grows_none : (h : Built) → Grows 0 h h
grows_none h = record { starts = refl; guids = refl; load = omega arith }

pub grows_both : (a b n : ℕ) (h k l : Built) → a + b ≤ n → Grows a h k → Grows b k l → Grows n h l
grows_both a b n h k l few first second =
    let x = first.load in
    let y = second.load in
    record { starts = second.starts ∙ first.starts; guids = second.guids ∙ first.guids; load = omega (arith, x, y, few) }

texts_grow : (h : Built) (vs : List (List ℕ)) → Grows (costs pass.Texts vs) h (with_texts h vs)
unfolding with_texts
texts_grow h [] = grows_none h
texts_grow h (v ∷ vs) =
    let n = sum_by-cons (cost pass.Texts) v vs in
    grows_both (cost pass.Texts v) (costs pass.Texts vs) (costs pass.Texts (v ∷ vs)) h (with_text h v) (with_texts (with_text h v) vs) (omega (arith, n))
    (record { starts = refl; guids = refl; load = one_more pass.Texts h v }) (texts_grow (with_text h v) vs)

users_grow : (h : Built) (vs : List (List ℕ)) → Grows (costs pass.Users vs) h (with_users h vs)
unfolding with_users
users_grow h [] = grows_none h
users_grow h (v ∷ vs) =
    let n = sum_by-cons (cost pass.Users) v vs in
    grows_both (cost pass.Users v) (costs pass.Users vs) (costs pass.Users (v ∷ vs)) h (with_user h v) (with_users (with_user h v) vs) (omega (arith, n))
    (record { starts = refl; guids = refl; load = one_more pass.Users h v }) (users_grow (with_user h v) vs)

blobs_grow : (h : Built) (vs : List (List ℕ)) → Grows (costs pass.Blobs vs) h (with_blobs h vs)
unfolding with_blobs
blobs_grow h [] = grows_none h
blobs_grow h (v ∷ vs) =
    let n = sum_by-cons (cost pass.Blobs) v vs in
    grows_both (cost pass.Blobs v) (costs pass.Blobs vs) (costs pass.Blobs (v ∷ vs)) h (with_blob h v) (with_blobs (with_blob h v) vs) (omega (arith, n))
    (record { starts = refl; guids = refl; load = one_more pass.Blobs h v }) (blobs_grow (with_blob h v) vs)

-- what an edit brings
edit_grows : (rows : Rows) (h : Built) (e : Edit) (n : ℕ) → costs pass.Texts (texts_of_edit rows e) + costs pass.Users (users_of_edit e) + costs pass.Blobs (blobs_of_edit rows e) ≤ n → Grows n h (heaps_after_edit rows h e)
unfolding heaps_after_edit
edit_grows rows h e n few =
    let texts = with_texts h (texts_of_edit rows e) in
    let users = with_users texts (users_of_edit e) in
    let one = texts_grow h (texts_of_edit rows e) in
    let two = users_grow texts (users_of_edit e) in
    let three = blobs_grow users (blobs_of_edit rows e) in
    grows_both (costs pass.Texts (texts_of_edit rows e)) (costs pass.Users (users_of_edit e) + costs pass.Blobs (blobs_of_edit rows e)) n h texts (with_blobs users (blobs_of_edit rows e)) (omega (arith, few)) one
    (grows_both (costs pass.Users (users_of_edit e)) (costs pass.Blobs (blobs_of_edit rows e)) (costs pass.Users (users_of_edit e) + costs pass.Blobs (blobs_of_edit rows e)) texts users (with_blobs users (blobs_of_edit rows e)) (omega arith) two three)

act_brings : (rows : Rows) (a : Act) → AreLight rows → IsShortAct a → costs pass.Texts (texts_of_edit rows (edit_of_act a)) + costs pass.Users (users_of_edit (edit_of_act a)) + costs pass.Blobs (blobs_of_edit rows (edit_of_act a)) ≤ 300
act_brings rows (plain_row table cells) light short = absurd short
act_brings rows (method name n) light short = let own = text_cost name in omega (arith, own, short)
act_brings rows (code r n) light short =
    let name = bytes_at rows (named_row 6 r) 3 in
    let signature = bytes_at rows (named_row 6 r) 4 in
    let a = text_cost name in
    let b = blob_cost signature in
    let x = bytes_few rows (named_row 6 r) 3 light in
    let y = bytes_few rows (named_row 6 r) 4 light in
    omega (arith, a, b, x, y)

edits_grow : (rows : Rows) (h : Built) (acts : List Act) → AreLight rows → AllHave IsShortAct acts → Grows (300 * length acts) h (with_edits rows h (edits_of_acts acts))
unfolding with_edits
edits_grow rows h [] light short = grows_none h
edits_grow rows h (a ∷ acts) light short =
    grows_both 300 (300 * length acts) (300 * suc (length acts)) h (heaps_after_edit rows h (edit_of_act a)) (with_edits rows (heaps_after_edit rows h (edit_of_act a)) (edits_of_acts acts)) (omega arith)
    (edit_grows rows h (edit_of_act a) 300 (act_brings rows a light short.0)) (edits_grow rows (heaps_after_edit rows h (edit_of_act a)) acts light short.1)

-- the rows by which a list is judged
added_light : (c : Chain) (a : Act) → IsShortAct a → IsLight (cells_added (edit_of_act a))
added_light c (plain_row table cells) short = absurd short
added_light c (method name n) short = method_light c.plain name n short
added_light c (code r n) short = light_none

all_added : (c : Chain) (acts : List Act) → AllHave IsShortAct acts → AllHave (λ (e : Edit). IsLight (cells_added e)) (edits_of_acts acts)
all_added c [] short = tt
all_added c (a ∷ acts) short = (added_light c a short.0, all_added c acts short.1)

found_has : (P : Edit → Type 0) (c : Chain) (edits : List Edit) (u : Token) (e : Edit) → AllHave P edits → edit_of c edits u ≡ Some e → P e
unfolding edit_of adding
found_has P c edits u e all h = by (nat_lt (rows_before c u.table) u.row) h
  where
    by : (b : Bool) → (if b then slice_get (adding edits u.table) (u.row - rows_before c u.table - 1) else None) ≡ Some e → P e
    by true g = all_at P (adding edits u.table) (u.row - rows_before c u.table - 1) e (all_passing P (adds_to u.table) edits all) g
    by false g = absurd cc

listed_by : (old : Option (List Cell)) (o : Option Edit) → IsLight (unwrap_or old []) → ((e : Edit) → o ≡ Some e → IsLight (cells_added e)) → IsLight (unwrap_or (or_else (option_map cells_added o) old) [])
listed_by old None light added = light
listed_by old (Some e) light added = added e refl

listed_light : (c : Chain) (acts : List Act) → AllHave AreLightRows c.plain.tables → AllHave IsShortAct acts → AreLight (rows_listed c (edits_of_acts acts))
unfolding rows_listed
listed_light c acts light short u =
    listed_by (cells_of c.plain u) (edit_of c (edits_of_acts acts) u) (cells_light c.plain u light) (λ e h. found_has (λ (e : Edit). IsLight (cells_added e)) c (edits_of_acts acts) u e (all_added c acts short) h)

-- the heaps with the edits up to a place
front_acts : (n : ℕ) (acts : List Act) → take n (edits_of_acts acts) ≡ edits_of_acts (take n acts)
front_acts zero acts = refl
front_acts (suc n) [] = refl
front_acts (suc n) (a ∷ acts) = ap (λ es. edit_of_act a ∷ es) (front_acts n acts)

pub front_grows : (c : Chain) (h : Built) (n : ℕ) (acts : List Act) → AllHave AreLightRows c.plain.tables → AllHave IsShortAct acts → length acts ≤ 20 → Grows 6000 h (with_edits (rows_listed c (edits_of_acts acts)) h (take n (edits_of_acts acts)))
front_grows c h n acts light short few =
    let front = front_few n acts in
    rw (front_acts n acts)
    (grows_both (300 * length (take n acts)) 0 6000 h (with_edits (rows_listed c (edits_of_acts acts)) h (edits_of_acts (take n acts))) (with_edits (rows_listed c (edits_of_acts acts)) h (edits_of_acts (take n acts))) (omega (arith, front, few))
    (edits_grow (rows_listed c (edits_of_acts acts)) h (take n acts) (listed_light c acts light short) (all_front IsShortAct n acts short)) (grows_none _))

pub all_grow : (c : Chain) (h : Built) (acts : List Act) → AllHave AreLightRows c.plain.tables → AllHave IsShortAct acts → length acts ≤ 20 → Grows 6000 h (with_edits (rows_listed c (edits_of_acts acts)) h (edits_of_acts acts))
all_grow c h acts light short few =
    grows_both (300 * length acts) 0 6000 h (with_edits (rows_listed c (edits_of_acts acts)) h (edits_of_acts acts)) (with_edits (rows_listed c (edits_of_acts acts)) h (edits_of_acts acts)) (omega (arith, few))
    (edits_grow (rows_listed c (edits_of_acts acts)) h acts (listed_light c acts light short) short) (grows_none _)

-- heaps that take little pass no limit
pub within_limits : (h : Built) → h.starts.strings + 1 + heaps_load h ≤ 2 ^ 24 → h.starts.users + 1 + heaps_load h ≤ 2 ^ 24 → h.starts.blobs + 1 + heaps_load h ≤ 2 ^ 24 → passes_limits h ≡ false
unfolding passes_limits joined_end
within_limits h strings users blobs =
    let a = not_past (2 ^ 29) (joined_end text_bytes h.starts.strings h.texts) (omega (arith, strings)) in
    let b = not_past (2 ^ 24) (joined_end user_bytes h.starts.users h.users) (omega (arith, users)) in
    let d = not_past (2 ^ 29) (joined_end blob_bytes h.starts.blobs h.blobs) (omega (arith, blobs)) in
    rw (a, b, d) refl
