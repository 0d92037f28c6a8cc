-- EncMap and the entries of EncLog with code 0 have the same tokens: the rows that edits are about.
use Rattle.std.proofs.Common.{◌≡◌, ℕ, Bool, true, false, List, [], ◌∷◌, ◌++◌, None, refl, sym, ap, ◌∙◌, inl, inr, arith, append_assoc}
use Rattle.std.specs.Prelude.{◌||◌, ◌&&◌, ◌==◌, not, map, filter}
use Rattle.std.specs.List.{list_any, list_all}
use Rattle.std.proofs.lemmas.Bool.{and_right, cases_Bool, or_cases, or_left, or_right}
use Rattle.std.proofs.lemmas.Bool.Decides.{nat_tests}
use Rattle.std.proofs.lemmas.List.{map-append}
use Rattle.std.proofs.lemmas.List.Elements.{filter-append}
use Rattle.std.proofs.lemmas.List.Folds.{list_any-append}
use Rattle.enc_base.specs.Token.{number_of, is_token}
use Rattle.enc_base.specs.declared.token.Token.{Token}
use Rattle.enc_plain.specs.Apply.{Attached}
use Rattle.enc_plain.specs.Chain.{Chain}
use Rattle.enc_plain.proofs.Applied.{same_is}
use Rattle.enc_delta.specs.declared.log_entry.LogEntry.{LogEntry}
use Rattle.enc_delta.specs.Delta.{is_module}
use Rattle.enc_delta.specs.Judged.{unmatched_token}
use Rattle.enc_delta.specs.Rules.{stands_in, in_one, counts, changed, set_fault}
use Rattle.enc_edit_list.specs.declared.edit.Edit.{Edit}
use Rattle.enc_edit_list.specs.declared.edit.EditList.{EditList}
use Rattle.enc_rules.specs.Edited.{row_edited, rows_behind, attached_by}
use Rattle.enc_memory_module.proofs.Unbroken.{BreakNothing}
use Rattle.enc_list_delta.specs.Delta.{is_edited, tokens_written, map_written, add_code, add_entry, entries_for, adds_reference, entries_if, entries_behind, log_written}
use Rattle.enc_list_delta.specs.Laws.{KeepsTo}
use Rattle.enc_list_delta.proofs.TokensUnbroken.{nothing_breaks}
use Rattle.enc_list_delta.proofs.TokensAbout.{self, stands}
use Rattle.enc_list_delta.proofs.TokensByTable.{all_pass}
use Rattle.enc_list_delta.proofs.TokensWritten.{one_of}
use Rattle.enc_list_delta.proofs.Tokens.{all_about, any_written, map_of_table, listed_is}
use Rattle.enc_list_delta.proofs.LogRulesEdits.{own_entry, is_logged}

-- whether a token stands among some
abbrev pub lists : List Token → Token → Bool
lists ts u = list_any (λ t. is_token t u) ts

abbrev is_change : LogEntry → Bool
is_change e = counts e && e.operation == 0

changed_both : (xs ys : List LogEntry) → changed (xs ++ ys) ≡ changed xs ++ changed ys
unfolding changed
changed_both xs ys = ap (map (λ (e : LogEntry). e.token)) (filter-append is_change xs ys) ∙ map-append (λ (e : LogEntry). e.token) (filter is_change xs) (filter is_change ys)

-- an entry that gives an owner a child has another code
code_not_zero : (table : ℕ) → (add_code table == 0) ≡ false
code_not_zero table = by (table == 0x06) (table == 0x04) (table == 0x08) (table == 0x17) refl refl refl refl
  where
    by : (a b d e : Bool) → (table == 0x06) ≡ a → (table == 0x04) ≡ b → (table == 0x08) ≡ d → (table == 0x17) ≡ e → (add_code table == 0) ≡ false
    by true b d e p q r s = rw p refl
    by false true d e p q r s = rw (p, q) refl
    by false false true e p q r s = rw (p, q, r) refl
    by false false false true p q r s = rw (p, q, r, s) refl
    by false false false false p q r s = rw (p, q, r, s) refl

none_changed : (pairs : List Attached) → changed (map add_entry pairs) ≡ []
unfolding changed
none_changed [] = refl
none_changed (a ∷ pairs) =
    let other : is_change (add_entry a) ≡ false = and_right (counts (add_entry a)) (add_code a.child.table == 0) (code_not_zero a.child.table) in
    rw other (none_changed pairs)

own_changed : (row : Token) → is_module row ≡ false → changed (own_entry row ∷ []) ≡ row ∷ []
unfolding changed
own_changed row h = rw h refl

-- of an edit's entries one has code 0, that of its row
edit_changed : (e : Edit) (row : Token) → is_module row ≡ false → changed (entries_for e row) ≡ row ∷ []
unfolding entries_for
edit_changed e row h =
    changed_both (map add_entry (attached_by e row)) (own_entry row ∷ [])
    ∙ ap (λ ts. ts ++ changed (own_entry row ∷ [])) (none_changed (attached_by e row))
    ∙ own_changed row h

none_yet : changed [] ≡ []
unfolding changed
none_yet = refl

lists_both : (xs ys : List Token) (u : Token) → lists (xs ++ ys) u ≡ (lists xs u || lists ys u)
lists_both xs ys u = list_any-append (λ t. is_token t u) xs ys

either_first : (a b d e : Bool) → (b || d) ≡ e → ((a || b) || d) ≡ (a || e)
either_first true b d e h = refl
either_first false b d e h = h

either_second : (a b d e : Bool) → (b || d) ≡ e → (b || (a || d)) ≡ (a || e)
either_second true true d e h = refl
either_second true false d e h = refl
either_second false b d e h = h

-- what some entries change, with those of an edit before them or not
with_edit : (e : Edit) (row u : Token) (rest : List LogEntry) → is_module row ≡ false → lists (changed (entries_for e row ++ rest)) u ≡ (is_token row u || lists (changed rest) u)
with_edit e row u rest h = ap (λ ts. lists ts u) (changed_both (entries_for e row) rest ∙ ap (λ ts. ts ++ changed rest) (edit_changed e row h))

logged_by : (e : Edit) (row u : Token) (b : Bool) (xs ys : List LogEntry) (all : Bool) → is_module row ≡ false → (lists (changed xs) u || lists (changed ys) u) ≡ all → (lists (changed (entries_if b (entries_for e row) ++ xs)) u || lists (changed (entries_if (not b) (entries_for e row) ++ ys)) u) ≡ (is_token row u || all)
logged_by e row u true xs ys all h g = rw (with_edit e row u xs h) (either_first (is_token row u) (lists (changed xs) u) (lists (changed ys) u) all g)
logged_by e row u false xs ys all h g = rw (with_edit e row u ys h) (either_second (is_token row u) (lists (changed xs) u) (lists (changed ys) u) all g)

logged_rows : (c : Chain) (l : EditList) (before rest : List Edit) (u : Token) → BreakNothing c l → l.edits ≡ before ++ rest → (lists (changed (entries_behind adds_reference c.plain before rest)) u || lists (changed (entries_behind (λ e. not (adds_reference e)) c.plain before rest)) u) ≡ lists (rows_behind c.plain before rest) u
unfolding entries_behind rows_behind
logged_rows c l before [] u none is = rw none_yet refl
logged_rows c l before (e ∷ rest) u none is =
    logged_by e (row_edited c.plain before e) u (adds_reference e) _ _ _ (is_logged c l before rest e none is).row
    (logged_rows c l (before ++ e ∷ []) rest u none (is ∙ sym (append_assoc before (e ∷ []) rest)))

-- the rows that edits are about are those that the log changes
pub log_lists : (c : Chain) (l : EditList) (u : Token) → BreakNothing c l → lists (changed (log_written c.plain l.edits)) u ≡ is_edited c.plain l.edits u
unfolding log_written is_edited
log_lists c l u none =
    ap (λ ts. lists ts u) (changed_both (entries_behind adds_reference c.plain [] l.edits) _)
    ∙ lists_both (changed (entries_behind adds_reference c.plain [] l.edits)) _ u
    ∙ logged_rows c l [] l.edits u none refl

-- and those that the map lists
any_kept : (p q : Token → Bool) (ts : List Token) → list_any q (filter p ts) ≡ true → list_any q ts ≡ true
any_kept p q [] h = h
any_kept p q (t ∷ ts) h = elim (cases_Bool (p t)) [
  | inl kept ↦ elim (or_cases (q t) (list_any q (filter p ts)) (rw kept at h)) [
    | inl here ↦ or_left (q t) (list_any q ts) here
    | inr behind ↦ or_right (q t) (list_any q ts) (any_kept p q ts behind)
  ]
  | inr left ↦ or_right (q t) (list_any q ts) (any_kept p q ts (rw left at h))
]

pub map_lists : (c : Chain) (l : EditList) (u : Token) → BreakNothing c l → is_edited c.plain l.edits u ≡ true → lists (map_written c l.edits) u ≡ true
map_lists c l u none h =
    any_kept (λ (t : Token). t.table == u.table) (λ t. is_token t u) (map_written c l.edits)
    (rw (map_of_table c l u.table none) (any_written c l u none h))

map_about : (c : Chain) (l : EditList) → list_all (is_edited c.plain l.edits) (map_written c l.edits) ≡ true
unfolding map_written
map_about c l = all_pass (is_edited c.plain l.edits) (tokens_written c l.edits) 64 (all_about c l.edits)

pub map_only : (c : Chain) (l : EditList) (u : Token) → lists (map_written c l.edits) u ≡ true → is_edited c.plain l.edits u ≡ true
map_only c l u h = let w = stands (map_written c l.edits) u h in one_of (is_edited c.plain l.edits) (map_written c l.edits) w.at u (map_about c l) w.there

-- the numbers of tokens that stand among others stand among theirs
number_there : (ts : List Token) (u : Token) → lists ts u ≡ true → stands_in (map number_of ts) (number_of u) ≡ true
number_there [] u h = absurd cc
number_there (t ∷ ts) u h = elim (or_cases (is_token t u) (lists ts u) h) [
  | inl here ↦ let same : t ≡ u = same_is t u here in or_left (number_of t == number_of u) _ (rw same (grind (arith, nat_tests)))
  | inr behind ↦ or_right (number_of t == number_of u) _ (number_there ts u behind)
]

numbers_there : (xs ys : List Token) → ((u : Token) → lists xs u ≡ true → lists ys u ≡ true) → (n : ℕ) → stands_in (map number_of xs) n ≡ true → stands_in (map number_of ys) n ≡ true
numbers_there [] ys to n h = absurd cc
numbers_there (x ∷ xs) ys to n h = elim (or_cases (number_of x == n) (stands_in (map number_of xs) n) h) [
  | inl here ↦ let is : number_of x ≡ n = grind (arith, nat_tests, here) in rw (← is) (number_there ys x (to x (or_left (is_token x x) (lists xs x) (self x))))
  | inr behind ↦ numbers_there xs ys (λ u g. to u (or_right (is_token x u) (lists xs u) g)) n behind
]

-- of two lists of the same numbers none stands in one alone
none_apart : (ns ms zs : List ℕ) → ((n : ℕ) → stands_in zs n ≡ true → in_one ns ms n ≡ false) → filter (in_one ns ms) zs ≡ []
none_apart ns ms [] none = refl
none_apart ns ms (z ∷ zs) none =
    let here : in_one ns ms z ≡ false = none z (or_left (z == z) (stands_in zs z) (grind (arith, nat_tests))) in
    rw here (none_apart ns ms zs (λ n h. none n (or_right (z == n) (stands_in zs n) h)))

pub same_sets : (ns ms : List ℕ) → ((n : ℕ) → stands_in ns n ≡ true → stands_in ms n ≡ true) → ((n : ℕ) → stands_in ms n ≡ true → stands_in ns n ≡ true) → set_fault ns ms ≡ None
unfolding set_fault
same_sets ns ms to back = rw (none_apart ns ms (ns ++ ms) in_both) refl
  where
    in_both : (n : ℕ) → stands_in (ns ++ ms) n ≡ true → in_one ns ms n ≡ false
    in_both n h = elim (or_cases (stands_in ns n) (stands_in ms n) (sym (list_any-append (λ m. m == n) ns ms) ∙ h)) [
      | inl a ↦ rw (a, to n a) refl
      | inr b ↦ rw (b, back n b) refl
    ]

-- E9
pub keeps_sets : KeepsTo unmatched_token
unfolding unmatched_token
keeps_sets c l s may says =
    let none = nothing_breaks c l may in
    let m = map_written c l.edits in
    let g = changed (log_written c.plain l.edits) in
    rw (listed_is c l s may says, says.log) (same_sets (map number_of m) (map number_of g)
    (numbers_there m g (λ u h. log_lists c l u none ∙ map_only c l u h))
    (numbers_there g m (λ u h. map_lists c l u none (sym (log_lists c l u none) ∙ h))))
