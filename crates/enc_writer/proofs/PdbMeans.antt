-- With the PDB of a delta that says an edit list a plain PDB is the one with all edits made directly.
use Rattle.std.proofs.Common.{◌≡◌, ℕ, Bool, true, false, List, Option, Some, None, refl, sym, ap, subst, ◌∙◌}
use Rattle.std.specs.Prelude.{◌&&◌, is_some, slice_get}
use Rattle.std.specs.List.{list_any}
use Rattle.std.proofs.lemmas.Bool.{and_parts, and_from}
use Rattle.enc_base.specs.Token.{is_token}
use Rattle.enc_base.specs.declared.token.Token.{Token}
use Rattle.enc_plain.specs.Chain.{Chain}
use Rattle.enc_plain.proofs.Applied.{same_is}
use Rattle.enc_rows.specs.Source.{Source}
use Rattle.enc_delta.proofs.MembersBeside.{any_filter}
use Rattle.enc_edit_list.specs.declared.edit.Edit.{Edit}
use Rattle.enc_edit_list.specs.declared.edit.EditList.{EditList}
use Rattle.enc_rules.specs.Edited.{rows_edited}
use Rattle.enc_rules.specs.Listed.{body_given}
use Rattle.enc_rules.specs.Rules.{gives_body}
use Rattle.enc_pdb_writer.specs.Stated.{edit_giving}
use Rattle.enc_pdb_writer.proofs.Edited.{pdbs_are_edited}
use Rattle.enc_pdb_writer.proofs.Givings.{gives_at}
use Rattle.enc_pdb_writer.proofs.Lists.{PassesAt, some_by_one, one_of_some}
use Rattle.enc_pdb_writer.proofs.Told.{GivenAt, given_at}
use Rattle.enc_checker.specs.Check.{new_code, new_bodies, own_methods}
use Rattle.enc_list_delta.specs.Holds.{MayFollow, SaysDelta}
use Rattle.enc_list_delta.proofs.Tokens.{is_written, listed_of_table}
use Rattle.enc_list_delta.proofs.TokensAbout.{IsEdit, about_edit, self}
use Rattle.enc_writer.specs.PdbFollows.{PdbsOfListsMean}
use Rattle.enc_writer.proofs.PdbCode.{code_of_edit, is_there}
use Rattle.enc_writer.proofs.PdbFollows.{has_method}
use Rattle.enc_writer.proofs.PdbPoints.{body_gives, gives_method, points_can_be_written}

-- a test is another where each follows from the other
one_test : (a b : Bool) → (a ≡ true → b ≡ true) → (b ≡ true → a ≡ true) → a ≡ b
one_test true b there back = sym (there refl)
one_test false false there back = refl
one_test false true there back = back refl

some_edit : (o : Option Edit) → is_some o ≡ true → (e : Edit) × (o ≡ Some e)
some_edit None some = absurd cc
some_edit (Some e) some = (e, refl)

-- a method of the delta that has code there
abbrev has_code : Source → Token → Token → Bool
has_code s method t = is_some (new_code s t) && is_token method t

-- the delta has code of a method that an edit is about where that edit gives it a body
code_as_given : (c : Chain) (l : EditList) (s : Source) (k : ℕ) (e : Edit) (u : Token) → MayFollow c l → SaysDelta c l s → slice_get l.edits k ≡ Some e → slice_get (rows_edited c.plain l.edits) k ≡ Some u → u.table ≡ 6
    → is_some (new_code s u) ≡ gives_body e
code_as_given c l s k e u may says there row table = is_there (body_given e) (new_code s u) (code_of_edit c l s k e u may says there row table) ∙ sym (body_gives e (body_given e) refl)

-- so a method has a new body in the delta where an edit gives it one
new_by_edit : (c : Chain) (l : EditList) (s : Source) (method : Token) (e : Edit) → MayFollow c l → SaysDelta c l s → GivenAt (rows_edited c.plain l.edits) l.edits method e → list_any (has_code s method) (own_methods s) ≡ true
new_by_edit c l s method e may says g =
    let row : slice_get (rows_edited c.plain l.edits) g.place ≡ Some method = g.named ∙ ap (λ (u : Token). Some u) (same_is g.token method g.same) in
    let table = gives_method c l g.place e method may g.here row g.gives in
    let own = has_method c l s g.place method may says row table in
    let there = code_as_given c l s g.place e method may says g.here row table ∙ g.gives in
    some_by_one (has_code s method) (own_methods s) own.0 method own.1 (and_from (is_some (new_code s method)) (is_token method method) there (self method))

-- and nowhere else
given_by_code : (c : Chain) (l : EditList) (s : Source) (u : Token) → MayFollow c l → SaysDelta c l s → IsEdit c.plain l.edits u → u.table ≡ 6 → is_some (new_code s u) ≡ true → is_some (edit_giving (rows_edited c.plain l.edits) l.edits u) ≡ true
given_by_code c l s u may says w table some =
    let gives = sym (code_as_given c l s w.at w.edit u may says w.there w.row table) ∙ some in
    ap is_some (gives_at (rows_edited c.plain l.edits) l.edits w.at w.edit u (points_can_be_written c l may).1 w.there w.row gives)

given_by_new : (c : Chain) (l : EditList) (s : Source) (method : Token) (n : ℕ) → MayFollow c l → SaysDelta c l s → PassesAt (has_code s method) (own_methods s) n → is_some (edit_giving (rows_edited c.plain l.edits) l.edits method) ≡ true
given_by_new c l s method n may says p =
    let u = p.element in
    let two = and_parts (is_some (new_code s u)) (is_token method u) p.passes in
    let w = is_written c l.edits 6 n u (subst (λ (ts : List Token). slice_get ts n ≡ Some u) (listed_of_table c l s may says 6) p.here) in
    ap (λ (t : Token). is_some (edit_giving (rows_edited c.plain l.edits) l.edits t)) (same_is method u two.1)
    ∙ given_by_code c l s u may says (about_edit c.plain l.edits u w.about) w.own two.0

new_is_given : (c : Chain) (l : EditList) (s : Source) (method : Token) → MayFollow c l → SaysDelta c l s → list_any (is_token method) (new_bodies s) ≡ is_some (edit_giving (rows_edited c.plain l.edits) l.edits method)
unfolding new_bodies
new_is_given c l s method may says =
    any_filter (λ t. is_some (new_code s t)) (is_token method) (own_methods s)
    ∙ one_test (list_any (has_code s method) (own_methods s)) (is_some (edit_giving (rows_edited c.plain l.edits) l.edits method))
    (λ new. let w = one_of_some (has_code s method) (own_methods s) new in given_by_new c l s method w.0 may says w.1)
    (λ some. let w = some_edit (edit_giving (rows_edited c.plain l.edits) l.edits method) some in new_by_edit c l s method w.0 may says (given_at (rows_edited c.plain l.edits) l.edits method w.0 w.1))

pub pdbs_mean : PdbsOfListsMean
pdbs_mean c l s bytes may says points before method =
    pdbs_are_edited l (rows_edited c.plain l.edits) (new_bodies s) bytes points before method (new_is_given c l s method may says)
