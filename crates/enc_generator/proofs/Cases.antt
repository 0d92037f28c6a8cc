-- The base of a case is made of acts that may be applied, and so is each of its lists.
use Rattle.std.proofs.Common.{◌≡◌, ℕ, zero, suc, ◌+◌, ◌≤◌, ◌^◌, true, List, [], ◌∷◌, ◌++◌, length, take, Some, refl, sym, ap, ◌∙◌, arith, inl, subst, length-append, codes}
use Rattle.std.specs.Prelude.{slice_get}
use Rattle.enc_base.specs.declared.token.Token.{Token}
use Rattle.enc_base.specs.Tables.{type_def, method_def}
use Rattle.enc_opcodes.specs.Body.{Body}
use Rattle.enc_plain.specs.Cell.{body}
use Rattle.enc_plain.specs.Module.{Module, cell_of, row_of}
use Rattle.enc_plain.specs.Sound.{row_count}
use Rattle.enc_edit_list.specs.declared.edit.Edit.{Edit}
use Rattle.enc_edit_list.specs.declared.edit.EditList.{EditList}
use Rattle.enc_edit_list.specs.Added.{rows_added}
use Rattle.enc_edit_list.specs.Form.{list_fits}
use Rattle.enc_rules.specs.Edited.{edited}
use Rattle.enc_memory_module.proofs.Begun.{sound_begun}
use Rattle.enc_memory_module.specs.Applied.{alone, MayApply}
use Rattle.enc_memory_module.specs.Begun.{begun}
use Rattle.enc_generator.specs.Generated.{base_edits, base_mvid, generated_base, turns_from, state_after, methods_added, list_of_turns, lists_from, generated_lists, edited_by}
use Rattle.enc_generator.proofs.NamesApart.{base_named}
use Rattle.enc_generator.proofs.Acts.{Act, edits_of_acts, new_names, same_edits}
use Rattle.enc_generator.proofs.ActsAdded.{all_many, added_few}
use Rattle.enc_generator.proofs.Applied.{Stands, acts_fit, counts_then, stands_after, may_apply}
use Rattle.enc_generator.proofs.BaseActs.{base_acts, same_base_edits, base_names, base_names_many, base_many, types_base, base_obeys, begun_few}
use Rattle.enc_generator.proofs.ListActs.{IsBefore, acts_drawn, old_after, drawn_obey, drawn_few, drawn_many}
use Rattle.enc_generator.proofs.Obeys.{listed_as}

-- a list with other edits
with_edits : (P : EditList → Type 0) (l : EditList) (acts : List Act) → l.edits ≡ edits_of_acts acts → P (listed_as l acts) → P l
with_edits P l acts is h = subst (λ es. P (record { enc_id = l.enc_id; edits = es; documents = l.documents })) (sym is) h

-- the module that the base begins with
abbrev begin : Module
begin = begun (codes "g.dll") base_mvid

no_method_yet : (name mvid : List ℕ) (t : Token) (b : Body) → t.table ≡ method_def → cell_of (begun name mvid) t 0 ≡ Some (body (Some b)) → ⊥
unfolding cell_of row_of
no_method_yet name mvid t b is h = by t.row (rw is at h)
  where
    by : (r : ℕ) → cell_of (begun name mvid) (record { table = method_def; row = r }) 0 ≡ Some (body (Some b)) → ⊥
    by zero h = cc
    by (suc r) h = cc

begin_stands : Stands begin []
begin_stands = record {
  sound = sound_begun (codes "g.dll") base_mvid refl refl;
  methods = record { count = refl; named = λ r x h. absurd cc; il = λ r low. absurd (omega (arith, low)) };
  plain = λ t b is h. absurd (no_method_yet (codes "g.dll") base_mvid t b is h);
}

few_begin : (t : ℕ) → row_count begin t ≤ 2 ^ 20
few_begin t = let n = begun_few (codes "g.dll") base_mvid t in omega (arith, n)

-- the base's list may be applied
pub base_may : (m : Module) (l : EditList) → m ≡ begin → l.edits ≡ base_edits → MayApply m l
base_may m l from is = rw from (with_edits (MayApply begin) l base_acts (is ∙ same_base_edits) (may_apply begin l [] base_acts begin_stands (base_obeys (codes "g.dll") base_mvid) few_begin))

pub base_fits : (l : EditList) → l.edits ≡ base_edits → list_fits l ≡ true
base_fits l is = with_edits (λ k. list_fits k ≡ true) l base_acts (is ∙ same_base_edits) (acts_fit (alone begin) l [] base_acts (base_obeys (codes "g.dll") base_mvid))

-- and makes the base
pub base_made : (m made : Module) (edits : List Edit) → m ≡ begin → edits ≡ base_edits → made ≡ edited m edits → made ≡ generated_base
unfolding generated_base
base_made m made edits from is makes = makes ∙ ap (λ n. edited n edits) from ∙ ap (edited begin) is

-- some list, of which only the edits count
no_list : EditList
no_list = record { enc_id = []; edits = []; documents = [] }

base_is : generated_base ≡ edited begin (edits_of_acts base_acts)
unfolding generated_base
base_is = ap (edited begin) same_base_edits

base_stands : Stands generated_base (new_names base_acts)
base_stands = rw base_is (stands_after begin no_list [] base_acts begin_stands (base_obeys (codes "g.dll") base_mvid) few_begin)

base_counts : (t : ℕ) → row_count generated_base t ≡ row_count begin t + rows_added (edits_of_acts base_acts) t
base_counts t = rw base_is (counts_then begin no_list [] base_acts t begin_stands (base_obeys (codes "g.dll") base_mvid))

base_before : (count : ℕ) → count ≤ 64 → IsBefore generated_base (new_names base_acts) 1 count
base_before count few = record {
  few = λ t.
      let n = base_counts t in
      let begins = begun_few (codes "g.dll") base_mvid t in
      let adds = added_few (edits_of_acts base_acts) t in
      let all = all_many base_acts in
      let many = base_many in
      omega (arith, n, begins, adds, all, many, few);
  types = let n = base_counts type_def in let two = types_base in omega (arith, n, two);
  some = let n = base_names_many in omega (arith, n);
  old = rw base_names (λ i y h. inl (base_named 1000 i y h));
  apart = (base_obeys (codes "g.dll") base_mvid).apart;
  low = omega (arith, few);
}

-- a list is of the form and may be applied to the module before it
abbrev pub MayFollow : Module → EditList → Type 0
MayFollow m l = (list_fits l ≡ true) × MayApply m l

few_before : (m : Module) (names : List (List ℕ)) (list left : ℕ) → IsBefore m names list left → (t : ℕ) → row_count m t ≤ 2 ^ 20
few_before m names list left before t = let n = before.few t in omega (arith, n)

drawn_follows : (m : Module) (names : List (List ℕ)) (list left methods x : ℕ) → Stands m names → IsBefore m names list left → methods ≡ length names → MayFollow m (list_of_turns list (turns_from methods 20 x))
drawn_follows m names list left methods x stands before many =
    let l = list_of_turns list (turns_from methods 20 x) in
    let acts = acts_drawn list methods x in
    let is = same_edits list [] (turns_from methods 20 x) in
    let obeys = drawn_obey m names list left methods x stands.methods before many in
    (with_edits (λ k. list_fits k ≡ true) l acts is (acts_fit (alone m) l names acts obeys), with_edits (MayApply m) l acts is (may_apply m l names acts stands obeys (few_before m names list left before)))

next_stands : (m : Module) (names : List (List ℕ)) (list left methods x : ℕ) → Stands m names → IsBefore m names list left → methods ≡ length names → Stands (edited m (list_of_turns list (turns_from methods 20 x)).edits) (names ++ new_names (acts_drawn list methods x))
next_stands m names list left methods x stands before many =
    rw (same_edits list [] (turns_from methods 20 x)) (stands_after m no_list names (acts_drawn list methods x) stands (drawn_obey m names list left methods x stands.methods before many) (few_before m names list left before))

next_counts : (m : Module) (names : List (List ℕ)) (list left methods x t : ℕ) → Stands m names → IsBefore m names list left → methods ≡ length names → row_count (edited m (list_of_turns list (turns_from methods 20 x)).edits) t ≡ row_count m t + rows_added (edits_of_acts (acts_drawn list methods x)) t
next_counts m names list left methods x t stands before many =
    rw (same_edits list [] (turns_from methods 20 x)) (counts_then m no_list names (acts_drawn list methods x) t stands (drawn_obey m names list left methods x stands.methods before many))

next_before : (m : Module) (names : List (List ℕ)) (list left methods x : ℕ) → Stands m names → IsBefore m names list (suc left) → methods ≡ length names → IsBefore (edited m (list_of_turns list (turns_from methods 20 x)).edits) (names ++ new_names (acts_drawn list methods x)) (list + 1) left
next_before m names list left methods x stands before many =
    record {
      few = λ t.
          let n = next_counts m names list (suc left) methods x t stands before many in
          let adds = drawn_few list methods x t in
          let there = before.few t in
          omega (arith, n, adds, there);
      types = let n = next_counts m names list (suc left) methods x type_def stands before many in let two = before.types in omega (arith, n, two);
      some = let n = length-append names (new_names (acts_drawn list methods x)) in let one = before.some in omega (arith, n, one);
      old = old_after names list methods x before.old;
      apart = (drawn_obey m names list (suc left) methods x stands.methods before many).apart;
      low = let n = before.low in omega (arith, n);
    }

all_follow : (left list methods x : ℕ) (m : Module) (names : List (List ℕ)) (j : ℕ) (l : EditList) → Stands m names → IsBefore m names list left → methods ≡ length names → slice_get (lists_from list left methods x) j ≡ Some l
    → MayFollow (edited_by m (take j (lists_from list left methods x))) l
unfolding lists_from edited_by
all_follow zero list methods x m names j l stands before many h = absurd cc
all_follow (suc left) list methods x m names zero l stands before many h =
    let is : list_of_turns list (turns_from methods 20 x) ≡ l = cc in
    subst (MayFollow m) is (drawn_follows m names list (suc left) methods x stands before many)
all_follow (suc left) list methods x m names (suc j) l stands before many h =
    all_follow left (list + 1) (methods + methods_added (turns_from methods 20 x)) (state_after 20 x) (edited m (list_of_turns list (turns_from methods 20 x)).edits) (names ++ new_names (acts_drawn list methods x)) j l
    (next_stands m names list (suc left) methods x stands before many) (next_before m names list left methods x stands before many) (drawn_many names list methods x many) h

-- each list of a case follows those before it
pub generated_follow : (start count j : ℕ) (l : EditList) → count ≤ 64 → slice_get (generated_lists start count) j ≡ Some l → MayFollow (edited_by generated_base (take j (generated_lists start count))) l
generated_follow start count j l few h = all_follow count 1 1000 start generated_base (new_names base_acts) j l base_stands (base_before count few) (sym base_names_many) h

-- one list more
pub edited_more : (m : Module) (lists : List EditList) (k : ℕ) (l : EditList) → slice_get lists k ≡ Some l → edited_by m (take (k + 1) lists) ≡ edited (edited_by m (take k lists)) l.edits
unfolding edited_by
edited_more m [] k l h = absurd cc
edited_more m (x ∷ lists) zero l h = let is : x ≡ l = cc in ap (λ (y : EditList). edited m y.edits) is
edited_more m (x ∷ lists) (suc k) l h = let e : suc k + 1 ≡ suc (k + 1) = omega arith in rw e (edited_more (edited m x.edits) lists k l h)

pub edited_none : (m : Module) (lists : List EditList) → edited_by m (take 0 lists) ≡ m
unfolding edited_by
edited_none m lists = refl
