-- Which edit gives a method its body, and what a PDB tells of it.
use Rattle.std.proofs.Common.{◌≡◌, ℕ, suc, Bool, true, false, List, [], ◌∷◌, Some, refl, sym, ap, ◌∙◌, arith}
use Rattle.std.specs.Prelude.{◌&&◌, ◌==◌, slice_get, if◌then◌else◌}
use Rattle.std.proofs.lemmas.Bool.{and_parts, eqb-true}
use Rattle.std.proofs.lemmas.Bool.Decides.{nat_tests}
use Rattle.enc_base.specs.Token.{is_token}
use Rattle.enc_base.specs.declared.token.Token.{Token}
use Rattle.enc_base.specs.Tables as tables
use Rattle.enc_edit_list.specs.declared.edit.Edit.{Edit}
use Rattle.enc_rules.specs.Rules.{gives_body}
use Rattle.enc_ppdb.specs.Points.{names_method}
use Rattle.enc_pdb_writer.specs.Stated.{edit_giving}
use Rattle.enc_pdb_writer.specs.Written.{method_named}

token_parts : (table row : ℕ) (method : Token) → method.table ≡ table → row ≡ method.row → record { table = table; row = row } ≡ method
token_parts table row method a b = rw (← a, b) refl

-- the method that a token names is the one whose token it is
pub named_is : (method t : Token) → names_method method t ≡ true → method_named t ≡ method
named_is method t names =
    let a = and_parts (method.table == tables.method_def) (t.row == method.row) names in
    token_parts tables.method_def t.row method (eqb-true method.table tables.method_def a.0) (eqb-true t.row method.row a.1)

pub names_itself : (t : Token) → names_method (method_named t) t ≡ true
names_itself t = let e : (t.row == t.row) ≡ true = grind (arith, nat_tests) in rw e refl

-- the edit that gives a method its body, and its place
pub record GivenAt (methods : List Token) (edits : List Edit) (method : Token) (e : Edit) : Type 0 where
  pub place : ℕ
  pub token : Token
  pub here : slice_get edits place ≡ Some e
  pub named : slice_get methods place ≡ Some token
  pub gives : gives_body e ≡ true
  pub same : is_token token method ≡ true

given_later : (u : Token) (methods : List Token) (d : Edit) (edits : List Edit) (method : Token) (e : Edit) → GivenAt methods edits method e → GivenAt (u ∷ methods) (d ∷ edits) method e
given_later u methods d edits method e is = record { place = suc (is.place); token = is.token; here = is.here; named = is.named; gives = is.gives; same = is.same }

given_by : (t : Token) (methods : List Token) (d : Edit) (edits : List Edit) (method : Token) (e : Edit) (b : Bool) → (gives_body d && is_token t method) ≡ b → (edit_giving methods edits method ≡ Some e → GivenAt methods edits method e)
    → (if b then Some d else edit_giving methods edits method) ≡ Some e → GivenAt (t ∷ methods) (d ∷ edits) method e
given_by t methods d edits method e true test later is =
    let parts = and_parts (gives_body d) (is_token t method) test in
    let same : d ≡ e = cc in
    record { place = 0; token = t; here = ap (λ (x : Edit). Some x) same; named = refl; gives = ap gives_body (sym same) ∙ parts.0; same = parts.1 }
given_by t methods d edits method e false test later is = given_later t methods d edits method e (later is)

pub given_at : (methods : List Token) (edits : List Edit) (method : Token) (e : Edit) → edit_giving methods edits method ≡ Some e → GivenAt methods edits method e
unfolding edit_giving
given_at [] edits method e is = absurd cc
given_at (t ∷ methods) [] method e is = absurd cc
given_at (t ∷ methods) (d ∷ edits) method e is = given_by t methods d edits method e (gives_body d && is_token t method) refl (λ later. given_at methods edits method e later) is
