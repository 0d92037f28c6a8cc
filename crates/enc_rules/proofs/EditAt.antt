-- The first edit that breaks a rule, as a loop over the edits finds it.
use Rattle.std.proofs.Common.{◌≡◌, ℕ, zero, suc, ◌+◌, ◌<◌, Bool, true, false, List, [], ◌∷◌, ◌++◌, length, take, Some, None, refl, sym, ap, ◌∙◌, arith, append_assoc, eq-eqb}
use Rattle.std.specs.Prelude.{slice_get, get_or, option_map, if◌then◌else◌}
use Rattle.std.proofs.lemmas.List.{append-nil}
use Rattle.std.proofs.lemmas.Option.{slice_get-get_or}
use Rattle.enc_base.specs.Token.{nil}
use Rattle.enc_base.specs.declared.token.Token.{Token}
use Rattle.enc_base.proofs.First.{first_none, first_found, first_more}
use Rattle.enc_schema.specs.Schema.{columns_in}
use Rattle.enc_plain.specs.Cell.{blobs, kind_in}
use Rattle.enc_plain.specs.Chain.{Chain}
use Rattle.enc_plain.specs.Module.{Module}
use Rattle.enc_edit_list.specs.declared.edit.Edit.{Edit}
use Rattle.enc_edit_list.specs.declared.edit.Edit.TheVariants.{Add, Body as Replace}
use Rattle.enc_edit_list.specs.declared.edit.EditList.{EditList}
use Rattle.enc_rules.specs.Edited.{row_edited, rows_behind, rows_edited}
use Rattle.enc_rules.specs.First.{first_such}
use Rattle.enc_rules.specs.Rules.{at_edit}
use Rattle.enc_rules.specs.Told.{is_about}

-- no place below 0 passes a test
pub such_none : (test : ℕ → Bool) → first_such test 0 ≡ None
such_none test = first_none (λ k. if test k then Some k else None)

-- nor one below the next, where this one fails it
pub such_more : (test : ℕ → Bool) (k : ℕ) → first_such test k ≡ None → test k ≡ false → first_such test (k + 1) ≡ None
such_more test k none fails = first_more (λ k. if test k then Some k else None) k none ∙ rw fails refl

-- the place that passes it, where none before does
pub such_found : (test : ℕ → Bool) (n k : ℕ) → k < n → first_such test k ≡ None → test k ≡ true → Some k ≡ first_such test n
such_found test n k low none passes = first_found (λ k. if test k then Some k else None) n k (Some k) low none (sym (rw passes refl)) refl

-- the edits have as many rows
pub as_many_rows : (m : Module) (before edits : List Edit) → length (rows_behind m before edits) ≡ length edits
unfolding rows_behind
as_many_rows m before [] = refl
as_many_rows m before (e ∷ rest) = ap suc (as_many_rows m (before ++ e ∷ []) rest)

pub row_there : (c : Chain) (l : EditList) (rows : List Token) (edits : List Edit) → rows ≡ rows_edited c.plain l.edits → edits ≡ l.edits → length rows ≡ length edits
row_there c l rows edits is are = ap length is ∙ as_many_rows c.plain [] l.edits ∙ ap length (sym are)

-- each edit with its row
pub nth_row_behind : (m : Module) (before edits : List Edit) (k : ℕ) → slice_get (rows_behind m before edits) k ≡ option_map (row_edited m (before ++ take k edits)) (slice_get edits k)
unfolding rows_behind
nth_row_behind m before [] zero = refl
nth_row_behind m before [] (suc k) = refl
nth_row_behind m before (e ∷ rest) zero = ap (λ (b : List Edit). Some (row_edited m b e)) (sym (append-nil before))
nth_row_behind m before (e ∷ rest) (suc k) = nth_row_behind m (before ++ e ∷ []) rest k ∙ ap (λ (b : List Edit). option_map (row_edited m b) (slice_get rest k)) (append_assoc before (e ∷ []) (take k rest))

-- what a rule says of the edit at a place and of its row
pub edit_judged : (rule : Edit → Token → Bool) (c : Chain) (l : EditList) (k : ℕ) (e : Edit) (t : Token) → slice_get l.edits k ≡ Some e → slice_get (rows_edited c.plain l.edits) k ≡ Some t → at_edit rule c l k ≡ rule e t
edit_judged rule c l k e t there row = rw (there, row) refl

-- the row of an added one is of its table
about : (m : Module) (before : List Edit) (e : Edit) → is_about e (row_edited m before e) ≡ true
about m before (Add table owner cells code points) = eq-eqb table table refl
about m before (Replace method code points) = refl

-- the same, as a loop has edits and rows
pub edit_there : (l : EditList) (edits : List Edit) (k : ℕ) (e : Edit) → edits ≡ l.edits → k < length edits → e ≡ get_or edits k e → slice_get l.edits k ≡ Some e
edit_there l edits k e are low there = ap (λ (xs : List Edit). slice_get xs k) (sym are) ∙ slice_get-get_or edits k e low ∙ ap (λ (x : Edit). Some x) (sym there)

pub row_low : (c : Chain) (l : EditList) (edits : List Edit) (rows : List Token) (k : ℕ) → edits ≡ l.edits → rows ≡ rows_edited c.plain l.edits → k < length edits → k < length rows
row_low c l edits rows k are is low = let e = row_there c l rows edits is are in omega arith

nth_there : (c : Chain) (l : EditList) (edits : List Edit) (rows : List Token) (k : ℕ) (d : Token) → edits ≡ l.edits → rows ≡ rows_edited c.plain l.edits → k < length edits → slice_get (rows_edited c.plain l.edits) k ≡ Some (get_or rows k d)
nth_there c l edits rows k d are is low = ap (λ (xs : List Token). slice_get xs k) (sym is) ∙ slice_get-get_or rows k d (row_low c l edits rows k are is low)

pub about_its_table : (c : Chain) (l : EditList) (edits : List Edit) (rows : List Token) (k : ℕ) (e : Edit) (d : Token) → edits ≡ l.edits → rows ≡ rows_edited c.plain l.edits → k < length edits → e ≡ get_or edits k e → is_about e (get_or rows k d) ≡ true
about_its_table c l edits rows k e d are is low there =
    let row = nth_there c l edits rows k d are is low in
    let here = nth_row_behind c.plain [] l.edits k ∙ ap (option_map (row_edited c.plain (take k l.edits))) (edit_there l edits k e are low there) in
    let same : get_or rows k d ≡ row_edited c.plain (take k l.edits) e = cc in
    rw same (about c.plain (take k l.edits) e)

pub judged_at : (rule : Edit → Token → Bool) (c : Chain) (l : EditList) (edits : List Edit) (rows : List Token) (k : ℕ) (e : Edit) (d : Token) → edits ≡ l.edits → rows ≡ rows_edited c.plain l.edits → k < length edits → e ≡ get_or edits k e → at_edit rule c l k ≡ rule e (get_or rows k d)
judged_at rule c l edits rows k e d are is low there = edit_judged rule c l k e (get_or rows k d) (edit_there l edits k e are low there) (nth_there c l edits rows k d are is low)

-- a rule that asks nothing of the row
pub judged_alone : (rule : Edit → Bool) (c : Chain) (l : EditList) (edits : List Edit) (k : ℕ) (e : Edit) → edits ≡ l.edits → k < length edits → e ≡ get_or edits k e → at_edit (λ e t. rule e) c l k ≡ rule e
judged_alone rule c l edits k e are low there = judged_at (λ e t. rule e) c l edits (rows_edited c.plain l.edits) k e nil are refl low there

-- a column of StandAloneSig's is one of blobs
pub alone_kind : (t : ℕ) → t ≡ 0x11 → kind_in t 0 ≡ Some blobs
unfolding columns_in
alone_kind t e = rw e refl
