-- The edits with points, in the order of the list and by the rows of their methods.
use Rattle.std.proofs.Common.{◌≡◌, ℕ, suc, ◌+◌, ◌<◌, ◌≤◌, List, [], ◌∷◌, ◌++◌, length, drop, get_or, refl, sym, ap, ◌∙◌, arith, append_assoc, append-nil}
use Rattle.std.proofs.Math.ListN.{drop_of_length-le}
use Rattle.std.proofs.Math.Seq.{drop-cons}
use Rattle.enc_base.specs.declared.token.Token.{Token}
use Rattle.enc_edit_list.specs.declared.edit.Edit.{Edit}
use Rattle.enc_pdb_writer.specs.declared.edits.MethodEdit.{MethodEdit}
use Rattle.enc_pdb_writer.specs.Listed.{placed_edit, placed_from}

-- the first of the rest, and those behind it
placed_next : (methods : List Token) (edits : List Edit) (i : ℕ) (t : Token) (e : Edit) → length methods ≡ length edits → i < length edits
    → placed_from i (drop i methods) (drop i edits) ≡ placed_edit i (get_or methods i t) (get_or edits i e) ++ placed_from (i + 1) (drop (i + 1) methods) (drop (i + 1) edits)
unfolding placed_from
placed_next methods edits i t e same low =
    let n : suc i ≡ i + 1 = omega arith in
    let a : drop i methods ≡ get_or methods i t ∷ drop (i + 1) methods = drop-cons methods i t (omega (arith, same, low)) ∙ ap (λ (k : ℕ). get_or methods i t ∷ drop k methods) n in
    let b : drop i edits ≡ get_or edits i e ∷ drop (i + 1) edits = drop-cons edits i e low ∙ ap (λ (k : ℕ). get_or edits i e ∷ drop k edits) n in
    rw (a, b) refl

pub placed_more : (methods : List Token) (edits : List Edit) (i : ℕ) (t : Token) (e : Edit) (before after whole : List MethodEdit) → length methods ≡ length edits → i < length edits
    → before ++ placed_from i (drop i methods) (drop i edits) ≡ whole → after ≡ before ++ placed_edit i (get_or methods i t) (get_or edits i e) → after ++ placed_from (i + 1) (drop (i + 1) methods) (drop (i + 1) edits) ≡ whole
placed_more methods edits i t e before after whole same low is next =
    let rest = placed_from (i + 1) (drop (i + 1) methods) (drop (i + 1) edits) in
    let here = placed_edit i (get_or methods i t) (get_or edits i e) in
    ap (λ (xs : List MethodEdit). xs ++ rest) next ∙ append_assoc before here rest ∙ ap (λ (xs : List MethodEdit). before ++ xs) (sym (placed_next methods edits i t e same low)) ∙ is

none_left : (n : ℕ) (methods : List Token) → placed_from n methods [] ≡ []
unfolding placed_from
none_left n [] = refl
none_left n (t ∷ methods) = refl

-- at the end
pub placed_all : (methods : List Token) (edits : List Edit) (i : ℕ) (before whole : List MethodEdit) → length edits ≤ i → before ++ placed_from i (drop i methods) (drop i edits) ≡ whole → before ≡ whole
placed_all methods edits i before whole past is =
    let none : placed_from i (drop i methods) (drop i edits) ≡ [] = rw (drop_of_length-le edits past) (none_left i (drop i methods)) in
    sym (append-nil before) ∙ ap (λ (xs : List MethodEdit). before ++ xs) (sym none) ∙ is
