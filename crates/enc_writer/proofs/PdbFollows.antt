-- The PDB of a delta that says an edit list has no row out of place by the code of the delta.
use Rattle.std.proofs.Common.{◌≡◌, ℕ, Bool, true, false, List, [], ◌∷◌, map, Some, refl, sym, ap, subst, ◌∙◌}
use Rattle.std.specs.Prelude.{◌||◌, slice_get, if◌then◌else◌}
use Rattle.std.specs.List.{list_any}
use Rattle.enc_base.specs.declared.token.Token.{Token}
use Rattle.enc_plain.specs.Chain.{Chain}
use Rattle.enc_plain.proofs.Applied.{same_is}
use Rattle.enc_rows.specs.Source.{Source}
use Rattle.enc_edit_list.specs.declared.edit.EditList.{EditList}
use Rattle.enc_rules.specs.Edited.{rows_edited}
use Rattle.enc_rules.specs.Listed.{body_given}
use Rattle.enc_ppdb.specs.Misplaced.{size_for}
use Rattle.enc_ppdb.specs.Points.{names_method}
use Rattle.enc_pdb_writer.specs.Laws.{AreSizes}
use Rattle.enc_pdb_writer.specs.Written.{method_named}
use Rattle.enc_pdb_writer.proofs.Lists.{some_by_one}
use Rattle.enc_pdb_writer.proofs.Misplaced.{none_is_misplaced}
use Rattle.enc_pdb_writer.proofs.Told.{given_at, named_is, names_itself}
use Rattle.enc_checker.specs.Check.{new_code, code_size, code_sizes, own_methods}
use Rattle.enc_list_delta.specs.Holds.{MayFollow, SaysDelta}
use Rattle.enc_list_delta.proofs.Tokens.{listed_of_table}
use Rattle.enc_list_delta.proofs.TokensAbout.{edit_about}
use Rattle.enc_writer.specs.PdbFollows.{PdbsFollow}
use Rattle.enc_writer.proofs.PdbCode.{edited_method, code_of_edit, size_is}

-- the size that stands with the method that a token names
size_with : (f : Token → ℕ) (ts : List Token) (t : Token) → list_any (λ v. names_method v t) ts ≡ true → size_for (map (λ v. (v, f v)) ts) t ≡ Some (f (method_named t))
unfolding size_for
size_with f [] t any = absurd cc
size_with f (v ∷ ts) t any = by (names_method v t) refl any (size_with f ts t)
  where
    by : (b : Bool) → names_method v t ≡ b → (b || list_any (λ v. names_method v t) ts) ≡ true → (list_any (λ v. names_method v t) ts ≡ true → size_for (map (λ v. (v, f v)) ts) t ≡ Some (f (method_named t)))
        → (if b then Some (f v) else size_for (map (λ v. (v, f v)) ts) t) ≡ Some (f (method_named t))
    by true is h later = ap (λ (x : Token). Some (f x)) (sym (named_is v t is))
    by false is h later = later h

-- the delta has the method that a token names, where an edit gives it its body
pub has_method : (c : Chain) (l : EditList) (s : Source) (k : ℕ) (u : Token) → MayFollow c l → SaysDelta c l s → slice_get (rows_edited c.plain l.edits) k ≡ Some u → u.table ≡ 6 → (n : ℕ) × (slice_get (own_methods s) n ≡ Some u)
has_method c l s k u may says row table =
    let is = edited_method c l s u may says (edit_about c.plain l.edits k u row) table in
    (is.0, subst (λ (ts : List Token). slice_get ts is.0 ≡ Some u) (sym (listed_of_table c l s may says 6)) is.1.there)

-- the sizes of the delta's methods are those of the code that edits give
are_sizes : (c : Chain) (l : EditList) (s : Source) → MayFollow c l → SaysDelta c l s → AreSizes (code_sizes s) (rows_edited c.plain l.edits) l.edits
unfolding code_sizes
are_sizes c l s may says t e gives =
    let g = given_at (rows_edited c.plain l.edits) l.edits (method_named t) e gives in
    let row : slice_get (rows_edited c.plain l.edits) g.place ≡ Some (method_named t) = g.named ∙ ap (λ (u : Token). Some u) (same_is g.token (method_named t) g.same) in
    let own = has_method c l s g.place (method_named t) may says row refl in
    size_with (λ (u : Token). code_size (new_code s u)) (own_methods s) t (some_by_one (λ v. names_method v t) (own_methods s) own.0 (method_named t) own.1 (names_itself t))
    ∙ ap (λ n. Some n) (size_is (body_given e) (new_code s (method_named t)) (code_of_edit c l s g.place e (method_named t) may says g.here row refl))

pub pdbs_follow : PdbsFollow
pdbs_follow c l s bytes may says points within = none_is_misplaced l (rows_edited c.plain l.edits) bytes points (code_sizes s) (are_sizes c l s may says) within
