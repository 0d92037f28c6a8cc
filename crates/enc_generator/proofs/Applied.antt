-- A list of acts that obey may be applied, and the module after it has their methods too.
use Rattle.std.proofs.Common.{◌≡◌, ℕ, zero, suc, ◌+◌, ◌-◌, ◌<◌, ◌≤◌, ◌^◌, Bool, true, false, List, [], ◌∷◌, ◌++◌, length, Option, Some, None, refl, sym, ap, ◌∙◌, arith, length-append}
use Rattle.std.specs.Prelude.{slice_get, nat_lt, filter, flat_map}
use Rattle.std.specs.List.{list_any}
use Rattle.std.proofs.lemmas.Bool.{false≢true}
use Rattle.std.proofs.lemmas.Bool.Decides.{nat_tests}
use Rattle.std.proofs.lemmas.Option.{slice_get_within}
use Rattle.enc_base.specs.Order.{first_below}
use Rattle.enc_base.specs.Token.{nth_row}
use Rattle.enc_base.specs.declared.token.Token.{Token}
use Rattle.enc_meta.specs.Built.{Built, joined_end}
use Rattle.enc_schema.specs.Schema.{columns_in, column_in}
use Rattle.enc_schema.specs.declared.column.Column.TheVariants.{Num32}
use Rattle.enc_base.specs.Tables.{method_def}
use Rattle.enc_opcodes.specs.Body.{Body}
use Rattle.enc_plain.specs.Cell.{body}
use Rattle.enc_plain.specs.Chain.{Chain}
use Rattle.enc_plain.specs.Module.{Module, Row, rows_in, cell_of}
use Rattle.enc_plain.specs.Sound.{row_count, IsSound}
use Rattle.enc_plain.proofs.KindsOf.{row_there as has_row_there}
use Rattle.enc_edit_list.specs.declared.body.BodyValue.{BodyValue}
use Rattle.enc_edit_list.specs.declared.edit.EditList.{EditList}
use Rattle.enc_edit_list.specs.Added.{rows_added}
use Rattle.enc_edit_list.specs.Form.{edit_fits, list_fits}
use Rattle.enc_edit_list.specs.Sizes.{placed}
use Rattle.enc_rules.specs.Edited.{body_stated, edited}
use Rattle.enc_rules.specs.First.{first_at}
use Rattle.enc_rules.specs.Listed.{count_after, body_given}
use Rattle.enc_rules.specs.Rules.{there_are_too_many, has_owner}
use Rattle.enc_rows.specs.Sums.{below}
use Rattle.enc_rewriter.proofs.Gathered.{starts_after}
use Rattle.enc_rewriter.specs.Values.{texts_named, users_of_body, with_one, with_all, all_values, no_heaps, heaps_for, passes_limit}
use Rattle.enc_rewriter.specs.declared.pass.Pass.TheVariants as pass
use Rattle.enc_memory_module.specs.Applied.{alone, rules_of_rows, MayApply}
use Rattle.enc_memory_module.specs.Encoded.{body_of_row, users_of_row}
use Rattle.enc_memory_module.specs.Plain.{body_in_cell}
use Rattle.enc_memory_module.proofs.Agreed.{numbers_agree, bytes_agree}
use Rattle.enc_memory_module.proofs.CellCases.{CellCase, stated, given, old, cell_case}
use Rattle.enc_memory_module.proofs.Changed.{counts_after}
use Rattle.enc_memory_module.proofs.HeldBodies.{method_cell, said_of_row}
use Rattle.enc_memory_module.proofs.KeptSound.{sound_after}
use Rattle.enc_memory_module.proofs.MethodTexts.{method_texts}
use Rattle.enc_memory_module.proofs.NoneBroken.{unbroken, nothing_breaks}
use Rattle.enc_memory_module.proofs.Rest.{each_of}
use Rattle.enc_memory_module.proofs.Unbroken.{BreakNothing}
use Rattle.enc_generator.specs.Generated.{named_row, body_loading}
use Rattle.enc_generator.proofs.Acts.{Act, plain_row, method, code, edit_of_act, edits_of_acts, new_names, IsGoodAct}
use Rattle.enc_generator.proofs.ActsAdded.{all_many, act_there, added_few, filter_few, none_pass, method_fits, code_fits_form, names_added}
use Rattle.enc_generator.proofs.Ready.{HasMethods, listed_name, listed_il}
use Rattle.enc_generator.proofs.Obeys.{IsPlainRow, Obeys, knows_of, listed_as, never_twice, owner_there, table_allowed, token_there, body_stands, in_layout, has_slot, twinless, signature_stands, locals_stand, points_stand, at_name}

-- no body of a method has a user text
abbrev pub HasNoUsers : Module → Type 0
HasNoUsers m = (u : Token) (b : Body) → u.table ≡ method_def → cell_of m u 0 ≡ Some (body (Some b)) → texts_named b.code ≡ []

-- a sound module with methods of these names, and without user texts
pub record Stands (m : Module) (names : List (List ℕ)) : Type 0 where
  pub sound : IsSound m
  pub methods : HasMethods m names
  pub plain : HasNoUsers m

-- no act breaks a rule on rows
obeyed : (c : Chain) (l : EditList) (names : List (List ℕ)) (acts : List Act) (k : ℕ) (a : Act) → Obeys c names acts → slice_get acts k ≡ Some a → first_at rules_of_rows c (listed_as l acts) k ≡ None
obeyed c l names acts k a obeys there =
    rw (
      never_twice c l names acts k a obeys there,
      owner_there c l names acts k a obeys there,
      table_allowed c l names acts k a obeys there,
      token_there c l names acts k a obeys there,
      body_stands c l names acts k a obeys there,
      in_layout c l names acts k a obeys there,
      has_slot c l names acts k a obeys there,
      twinless c l names acts k a obeys there,
      signature_stands c l names acts k a obeys there,
      locals_stand c l acts k a there,
      points_stand c l acts k a there,
    ) refl

all_silent : {A : Type 0} (rule : ℕ → Option A) (n : ℕ) → ((k : ℕ) → k < n → rule k ≡ None) → first_below rule n ≡ None
unfolding first_below
all_silent rule zero each = refl
all_silent rule (suc n) each = rw (all_silent rule n (λ k low. each k (omega (arith, low))), each n (omega arith)) refl

act_at : (acts : List Act) (k : ℕ) → k < length acts → (a : Act) × (slice_get acts k ≡ Some a)
act_at [] k low = absurd (omega arith)
act_at (a ∷ acts) zero low = (a, refl)
act_at (a ∷ acts) (suc k) low = act_at acts k (omega (arith, low))

all_obeyed : (c : Chain) (l : EditList) (names : List (List ℕ)) (acts : List Act) → Obeys c names acts → first_below (first_at rules_of_rows c (listed_as l acts)) (length (edits_of_acts acts)) ≡ None
all_obeyed c l names acts obeys = all_silent (first_at rules_of_rows c (listed_as l acts)) (length (edits_of_acts acts)) (λ k low.
    let all = all_many acts in
    let a = act_at acts k (omega (arith, low, all)) in
    obeyed c l names acts k a.0 obeys a.1)

-- E24
not_more : (a b : ℕ) → b ≤ a → nat_lt a b ≡ false
not_more a b h = grind (arith, nat_tests, h)

all_below : (p : ℕ → Bool) → ((t : ℕ) → p t ≡ false) → list_any p (below 64) ≡ false
all_below p each = none_pass p (below 64) (λ i t h. each t)

few_enough : (m : Module) (l : EditList) (acts : List Act) → length acts ≤ 2 ^ 20 → ((t : ℕ) → row_count m t ≤ 2 ^ 20) → there_are_too_many (alone m) (listed_as l acts) ≡ false
unfolding there_are_too_many count_after
few_enough m l acts short few =
    let all = all_many acts in
    let owners = filter_few has_owner (edits_of_acts acts) in
    let rows = all_below (λ table. nat_lt 0xFFFFFF (row_count m table + rows_added (edits_of_acts acts) table)) (λ t.
    let more = added_few (edits_of_acts acts) t in
    let there = few t in
    not_more 0xFFFFFF (row_count m t + rows_added (edits_of_acts acts) t) (omega (arith, more, there, all, short))) in
    let entries = not_more 0xFFFFFE (length (edits_of_acts acts) + length (filter has_owner (edits_of_acts acts))) (omega (arith, all, owners, short)) in
    rw (rows, entries) refl

-- the form
act_fits : (c : Chain) (names : List (List ℕ)) (acts : List Act) (a : Act) → IsGoodAct (IsPlainRow (count_after c (edits_of_acts acts))) (length names) a → edit_fits (edit_of_act a) ≡ true
act_fits c names acts (plain_row table cells) good = good.form
act_fits c names acts (method name n) good = method_fits name n good.0 good.1
act_fits c names acts (code r n) good = code_fits_form r n good.2

pub acts_fit : (c : Chain) (l : EditList) (names : List (List ℕ)) (acts : List Act) → Obeys c names acts → list_fits (listed_as l acts) ≡ true
unfolding list_fits
acts_fit c l names acts obeys = each_of edit_fits (edits_of_acts acts) (λ k e h. let w = act_there acts k e h in rw (← w.2) (act_fits c names acts w.0 (obeys.good k w.0 w.1)))

pub breaks_nothing : (m : Module) (l : EditList) (names : List (List ℕ)) (acts : List Act) → Obeys (alone m) names acts → BreakNothing (alone m) (listed_as l acts)
breaks_nothing m l names acts obeys = nothing_breaks (alone m) (listed_as l acts) (λ k low.
    let all = all_many acts in
    let a = act_at acts k (omega (arith, low, all)) in
    unbroken rules_of_rows (alone m) (listed_as l acts) k (obeyed (alone m) l names acts k a.0 obeys a.1))

-- a module without user texts has room for them
texts_leave : (h : Built) (vs : List (List ℕ)) → (with_all pass.Texts h vs).users ≡ h.users
unfolding with_all
texts_leave h [] = refl
texts_leave h (v ∷ vs) = texts_leave (with_one pass.Texts h v) vs

blobs_leave : (h : Built) (vs : List (List ℕ)) → (with_all pass.Blobs h vs).users ≡ h.users
unfolding with_all
blobs_leave h [] = refl
blobs_leave h (v ∷ vs) = blobs_leave (with_one pass.Blobs h v) vs

guids_leave : (h : Built) (vs : List (List ℕ)) → (with_all pass.Guids h vs).users ≡ h.users
unfolding with_all
guids_leave h [] = refl
guids_leave h (v ∷ vs) = guids_leave (with_one pass.Guids h v) vs

nothing_more : (h : Built) (vs : List (List ℕ)) → vs ≡ [] → (with_all pass.Users h vs).users ≡ h.users
unfolding with_all
nothing_more h vs none = rw none refl

none_begin : no_heaps.users ≡ []
unfolding no_heaps
none_begin = refl

none_start : no_heaps.starts.users ≡ 0
unfolding no_heaps
none_start = refl

no_users : (m : Module) → all_values pass.Users m ≡ [] → (heaps_for m).users ≡ []
unfolding heaps_for
no_users m none = guids_leave _ _ ∙ blobs_leave _ _ ∙ nothing_more (with_all pass.Texts no_heaps (all_values pass.Texts m)) (all_values pass.Users m) none ∙ texts_leave no_heaps (all_values pass.Texts m) ∙ none_begin

no_start : (m : Module) → (heaps_for m).starts.users ≡ 0
unfolding heaps_for
no_start m = ap (λ s. s.users) (starts_after pass.Guids _ _ ∙ starts_after pass.Blobs _ _ ∙ starts_after pass.Users _ _ ∙ starts_after pass.Texts no_heaps (all_values pass.Texts m)) ∙ none_start

room : (m : Module) → all_values pass.Users m ≡ [] → passes_limit pass.Users m ≡ false
unfolding passes_limit joined_end
room m none = rw (no_users m none, no_start m) refl

nothing_of : (f : Row → List (List ℕ)) (rows : List Row) → ((n : ℕ) (r : Row) → slice_get rows n ≡ Some r → f r ≡ []) → flat_map f rows ≡ []
nothing_of f [] each = refl
nothing_of f (r ∷ rows) each = rw (each 0 r refl, nothing_of f rows (λ n x h. each (suc n) x h)) refl

row_said : (m : Module) (n : ℕ) (r : Row) → slice_get (rows_in m method_def) n ≡ Some r → body_in_cell (cell_of m (nth_row method_def n) 0) ≡ body_of_row r
row_said m n r there =
    let e : n + 1 - 1 ≡ n = omega arith in
    said_of_row m (nth_row method_def n) r refl (omega arith) (rw e there)

none_of_row : (m : Module) → IsSound m → HasNoUsers m → (n : ℕ) (r : Row) → slice_get (rows_in m method_def) n ≡ Some r → (o : Option Body) → body_of_row r ≡ o → users_of_body o ≡ []
none_of_row m sound plain n r there None is = refl
none_of_row m sound plain n r there (Some b) is =
    let low = slice_get_within (rows_in m method_def) n r there in
    let here = has_row_there m (nth_row method_def n) (omega arith) (omega (arith, low)) in
    plain (nth_row method_def n) b refl (method_cell m (nth_row method_def n) sound here refl ∙ ap (λ o. Some (body o)) (row_said m n r there ∙ is))

pub room_for_users : (m : Module) → IsSound m → HasNoUsers m → passes_limit pass.Users m ≡ false
room_for_users m sound plain = room m (method_texts m sound ∙ nothing_of users_of_row (rows_in m method_def) (λ n r there. none_of_row m sound plain n r there (body_of_row r) refl))

-- the bodies after acts have no user text
loading_plain : (n : ℕ) → texts_named (body_stated (body_loading n)).code ≡ []
unfolding texts_named body_stated placed
loading_plain n = refl

given_plain : (a : Act) (b : BodyValue) → body_given (edit_of_act a) ≡ Some b → texts_named (body_stated b).code ≡ []
given_plain (plain_row table cells) b is = absurd cc
given_plain (method name n) b is = let e : body_loading n ≡ b = cc in rw (← e) (loading_plain n)
given_plain (code r n) b is = let e : body_loading n ≡ b = cc in rw (← e) (loading_plain n)

first_column : (t : ℕ) → t ≡ method_def → column_in t 0 ≡ Some Num32
unfolding columns_in
first_column t is = rw is refl

plain_by : (m : Module) (l : EditList) (acts : List Act) (u : Token) (b : Body) → HasNoUsers m → u.table ≡ method_def → CellCase (alone m) (listed_as l acts) u 0 Num32 (body (Some b)) → texts_named b.code ≡ []
plain_by m l acts u b plain is (stated v e fits unbroken nobody nofield own) = absurd (false≢true (sym (rw is at nobody)))
plain_by m l acts u b plain is (given None e t z w) = absurd cc
plain_by m l acts u b plain is (given (Some v) e t z w) =
    let same : b ≡ body_stated v = cc in
    let a = act_there acts w.at w.edit w.there in
    rw same (given_plain a.0 v (ap body_given a.2 ∙ w.given))
plain_by m l acts u b plain is (old has there) = plain u b is there

sound_then : (m : Module) (l : EditList) (names : List (List ℕ)) (acts : List Act) → Stands m names → Obeys (alone m) names acts → ((t : ℕ) → row_count m t ≤ 2 ^ 20) → IsSound (edited m (edits_of_acts acts))
sound_then m l names acts stands obeys few = sound_after (alone m) (listed_as l acts) (acts_fit (alone m) l names acts obeys) (few_enough m l acts obeys.short few) (breaks_nothing m l names acts obeys) stands.sound

pub counts_then : (m : Module) (l : EditList) (names : List (List ℕ)) (acts : List Act) (t : ℕ) → Stands m names → Obeys (alone m) names acts → row_count (edited m (edits_of_acts acts)) t ≡ row_count m t + rows_added (edits_of_acts acts) t
counts_then m l names acts t stands obeys = counts_after (alone m) (listed_as l acts) t stands.sound.owners.tables (breaks_nothing m l names acts obeys)

-- the module after acts stands with their methods too
pub stands_after : (m : Module) (l : EditList) (names : List (List ℕ)) (acts : List Act) → Stands m names → Obeys (alone m) names acts → ((t : ℕ) → row_count m t ≤ 2 ^ 20) → Stands (edited m (edits_of_acts acts)) (names ++ new_names acts)
stands_after m l names acts stands obeys few =
    let none = breaks_nothing m l names acts obeys in
    let tables = stands.sound.owners.tables in
    let knows = knows_of (alone m) names acts obeys in
    record {
      sound = sound_then m l names acts stands obeys few;
      methods = record {
        count =
            let sum = counts_then m l names acts method_def stands obeys in
            let old = stands.methods.count in
            let new = names_added acts knows.others in
            let both = length-append names (new_names acts) in
            omega (arith, sum, old, new, both);
        named = λ r name h. bytes_agree (alone m) (listed_as l acts) (named_row method_def (r + 1)) 3 tables none refl ∙ listed_name (alone m) names acts r name knows h;
        il = λ r low.
            let x = at_name (names ++ new_names acts) r low in
            numbers_agree (alone m) (listed_as l acts) (named_row method_def (r + 1)) 1 tables none refl ∙ listed_il (alone m) names acts r x.0 knows x.1;
      };
      plain = λ u b is there. plain_by m l acts u b stands.plain is (cell_case (alone m) (listed_as l acts) u 0 Num32 (body (Some b)) tables (acts_fit (alone m) l names acts obeys) none (first_column u.table is) refl there);
    }

-- the list may be applied
pub may_apply : (m : Module) (l : EditList) (names : List (List ℕ)) (acts : List Act) → Stands m names → Obeys (alone m) names acts → ((t : ℕ) → row_count m t ≤ 2 ^ 20) → MayApply m (listed_as l acts)
may_apply m l names acts stands obeys few =
    let after = stands_after m l names acts stands obeys few in
    record {
      few = few_enough m l acts obeys.short few;
      rules = all_obeyed (alone m) l names acts obeys;
      texts = room_for_users (edited m (edits_of_acts acts)) after.sound after.plain;
    }
