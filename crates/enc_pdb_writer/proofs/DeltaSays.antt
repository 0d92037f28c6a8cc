-- The PDB of a delta that was written says its edit list.
use Rattle.std.proofs.Common.{◌≡◌, ℕ, zero, suc, ◌<◌, Bool, true, false, List, [], ◌∷◌, length, map, take, Option, Some, None, refl, sym, ap, subst, ◌∙◌, arith}
use Rattle.std.specs.Prelude.{◌==◌, filter, nat_le, option_map, if◌then◌else◌, slice_get}
use Rattle.std.specs.List.{list_any, list_all}
use Rattle.std.specs.List.Sorted.{IsStrictlyIncreasing}
use Rattle.std.proofs.lemmas.Bool.{and_parts}
use Rattle.std.proofs.lemmas.Bool.Decides.{nat_tests}
use Rattle.std.proofs.lemmas.List.{length-map}
use Rattle.std.proofs.lemmas.List.Kept.{AllPairs-from_increasing}
use Rattle.std.proofs.lemmas.Option.{slice_get-map, slice_get_within, get_or_from_slice_get}
use Rattle.enc_base.specs.declared.token.Token.{Token}
use Rattle.enc_plain.proofs.Applied.{same_is}
use Rattle.enc_plain.specs.Debug.{Document, PlainPoint, MethodDebug, plain_point, debug_of}
use Rattle.enc_rows.specs.Layout.{rows_of}
use Rattle.enc_rows.specs.Source.{Source}
use Rattle.enc_rows.specs.Sums.{below}
use Rattle.enc_base.specs.Tables as tables
use Rattle.enc_seqpoints.specs.declared.point.Point.{Point}
use Rattle.enc_seqpoints.specs.Grammar.{MethodPoints}
use Rattle.enc_edit_list.specs.declared.edit.DocumentValue.{DocumentValue}
use Rattle.enc_edit_list.specs.declared.edit.Edit.{Edit}
use Rattle.enc_edit_list.specs.declared.edit.EditList.{EditList}
use Rattle.enc_edit_list.specs.Form.{edit_fits, list_fits}
use Rattle.enc_rules.specs.Listed.{body_given, points_given}
use Rattle.enc_rules.specs.Rules.{has_points}
use Rattle.enc_ppdb.specs.Fault.{map_token_at, named_tokens}
use Rattle.enc_ppdb.specs.Misplaced.{debug_token, is_behind}
use Rattle.enc_ppdb.specs.Points.{names_method}
use Rattle.enc_ppdb.specs.Written.{nth_method, IsNilOverSeveral, document_told}
use Rattle.enc_pdb_writer.specs.declared.edits.MethodEdit.{MethodEdit}
use Rattle.enc_pdb_writer.specs.Listed.{row_placed, said_by, documents_used, numbered_document, pdb_listed, list_pdb, AreByRows}
use Rattle.enc_pdb_writer.specs.Methods.{SaysMethods}
use Rattle.enc_pdb_writer.specs.Stated.{document_stated, document_numbered, locals_row, debug_stated, edit_giving, AreMethods}
use Rattle.enc_pdb_writer.specs.Written.{gives_points, method_named, SaysEdits}
use Rattle.enc_pdb_writer.proofs.Lists.{one_of_all, one_of_some, some_by_one, none_by_each}
use Rattle.enc_pdb_writer.proofs.Told.{named_is, given_at}
use Rattle.enc_pdb_writer.proofs.Givings.{gives_at}
use Rattle.enc_pdb_writer.proofs.RowsRise.{gives_by_points}
use Rattle.enc_pdb_writer.proofs.PlacedEdits.{has_place, is_placed}
use Rattle.enc_pdb_writer.proofs.Weighed.{nth_placed}

-- the token that names an edit's method
abbrev token_for : MethodEdit → Token
token_for m = debug_token m.row

-- a token stands where its method does
token_at : (placed : List MethodEdit) (k : ℕ) (m : MethodEdit) → slice_get placed k ≡ Some m → slice_get (map token_for placed) k ≡ Some (token_for m)
token_at placed k m at = slice_get-map token_for placed k ∙ ap (option_map token_for) at

pub record TokenOf (placed : List MethodEdit) (k : ℕ) (t : Token) : Type 0 where
  pub method : MethodEdit
  pub here : slice_get placed k ≡ Some method
  pub same : token_for method ≡ t

token_by : (placed : List MethodEdit) (k : ℕ) (t : Token) (o : Option MethodEdit) → slice_get placed k ≡ o → option_map token_for o ≡ Some t → TokenOf placed k t
token_by placed k t None at is = absurd cc
token_by placed k t (Some m) at is = record { method = m; here = at; same = let e : token_for m ≡ t = cc in e }

token_of : (placed : List MethodEdit) (k : ℕ) (t : Token) → slice_get (map token_for placed) k ≡ Some t → TokenOf placed k t
token_of placed k t at = token_by placed k t (slice_get placed k) refl (sym (slice_get-map token_for placed k) ∙ at)

-- the rows rise
rows_apart : (placed : List MethodEdit) (i k : ℕ) (m n : MethodEdit) → IsStrictlyIncreasing (map row_placed placed) → i < k → slice_get placed i ≡ Some m → slice_get placed k ≡ Some n → m.row < n.row
rows_apart placed i k m n up lt a b =
    let x = slice_get-map row_placed placed i ∙ ap (option_map row_placed) a in
    let y = slice_get-map row_placed placed k ∙ ap (option_map row_placed) b in
    let low = AllPairs-from_increasing (map row_placed placed) up i k 0 lt (slice_get_within (map row_placed placed) k n.row y) in
    omega (arith, low, get_or_from_slice_get (map row_placed placed) i m.row 0 x, get_or_from_slice_get (map row_placed placed) k n.row 0 y)

taken : {X : Type 0} (xs : List X) (k i : ℕ) (x : X) → slice_get (take k xs) i ≡ Some x → (i < k) × (slice_get xs i ≡ Some x)
taken [] zero i x at = absurd cc
taken [] (suc k) i x at = absurd cc
taken (y ∷ ys) zero i x at = absurd cc
taken (y ∷ ys) (suc k) zero x at = (omega arith, at)
taken (y ∷ ys) (suc k) (suc i) x at = let r = taken ys k i x at in (omega (arith, r.0), r.1)

not_behind : (u t : Token) (m n : MethodEdit) → token_for m ≡ u → token_for n ≡ t → m.row < n.row → nat_le t.row u.row ≡ false
not_behind u t m n a b low = rw (← a, ← b) (grind (arith, nat_tests, low))

pub rises : (placed : List MethodEdit) (k : ℕ) (t : Token) → IsStrictlyIncreasing (map row_placed placed) → slice_get (map token_for placed) k ≡ Some t → is_behind (take k (map token_for placed)) t ≡ false
rises placed k t up at =
    let later = token_of placed k t at in
    none_by_each (λ (u : Token). nat_le t.row u.row) (take k (map token_for placed)) (λ i u a.
    let r = taken (map token_for placed) k i u a in
    let before = token_of placed i u r.1 in
    not_behind u t (before.method) (later.method) (before.same) (later.same) (rows_apart placed i k (before.method) (later.method) up r.0 (before.here) (later.here)))

-- what an edit with points gives its method
record GivesPlaced (l : EditList) (methods : List Token) (m : MethodEdit) : Type 0 where
  edit : Edit
  here : slice_get l.edits m.place ≡ Some edit
  points : has_points edit ≡ true
  gives : edit_giving methods l.edits (method_named (token_for m)) ≡ Some edit

token_is : (t : Token) (row : ℕ) → t.table ≡ tables.method_def → row ≡ t.row → t ≡ record { table = tables.method_def; row = row }
token_is t row table same =
    let whole : record { table = t.table; row = t.row } ≡ record { table = tables.method_def; row = row } = rw (table, same) refl in
    whole

gives_placed : (l : EditList) (methods : List Token) (placed : List MethodEdit) (k : ℕ) (m : MethodEdit) → list_all edit_fits l.edits ≡ true → AreMethods methods l.edits → AreByRows methods l.edits placed → slice_get placed k ≡ Some m → GivesPlaced l methods m
gives_placed l methods placed k m form are by at =
    let place = has_place methods l.edits placed k m by at in
    let e = place.edit in
    let row = are.each m.place e (place.token) (place.here) (place.named) (place.points) in
    let body = gives_by_points e (one_of_all edit_fits l.edits m.place e form (place.here)) (place.points) in
    record {
      edit = e;
      here = place.here;
      points = place.points;
      gives = ap (edit_giving methods l.edits) (sym (token_is (place.token) m.row row.0 (place.row))) ∙ gives_at methods l.edits m.place e (place.token) are (place.here) (place.named) body;
    }

-- a method is named exactly where its edit has points
some_points : (o : Option Edit) (e : Edit) → o ≡ Some e → has_points e ≡ true → gives_points o ≡ true
some_points o e is points = ap gives_points is ∙ points

points_of_some : (o : Option Edit) → gives_points o ≡ true → (e : Edit) × (o ≡ Some e) × (has_points e ≡ true)
points_of_some None is = absurd cc
points_of_some (Some e) is = (e, refl, is)

named_then : (l : EditList) (methods : List Token) (placed : List MethodEdit) (method : Token) → list_all edit_fits l.edits ≡ true → AreMethods methods l.edits → AreByRows methods l.edits placed → list_any (names_method method) (map token_for placed) ≡ true
    → gives_points (edit_giving methods l.edits method) ≡ true
named_then l methods placed method form are by some =
    let r = one_of_some (names_method method) (map token_for placed) some in
    let t = token_of placed r.0 (r.1.element) (r.1.here) in
    let g = gives_placed l methods placed r.0 (t.method) form are by (t.here) in
    let same = ap method_named (t.same) ∙ named_is method (r.1.element) (r.1.passes) in
    some_points (edit_giving methods l.edits method) (g.edit) (ap (edit_giving methods l.edits) (sym same) ∙ g.gives) (g.points)

names_by : (method : Token) (row : ℕ) → method.table ≡ tables.method_def → row ≡ method.row → names_method method (debug_token row) ≡ true
names_by method row table same =
    let a : (method.table == tables.method_def) ≡ true = grind (arith, nat_tests, table) in
    let b : (row == method.row) ≡ true = grind (arith, nat_tests, same) in
    rw (a, b) refl

points_then : (l : EditList) (methods : List Token) (placed : List MethodEdit) (method : Token) → AreMethods methods l.edits → AreByRows methods l.edits placed → gives_points (edit_giving methods l.edits method) ≡ true
    → list_any (names_method method) (map token_for placed) ≡ true
points_then l methods placed method are by some =
    let r = points_of_some (edit_giving methods l.edits method) some in
    let g = given_at methods l.edits method r.0 r.1 in
    let token : g.token ≡ method = same_is (g.token) method (g.same) in
    let p = is_placed methods l.edits placed (g.place) r.0 (g.token) by (g.here) (g.named) r.2 in
    let place = has_place methods l.edits placed (p.index) (p.method) by (p.here) in
    let row = are.each (g.place) r.0 (g.token) (g.here) (g.named) r.2 in
    let both : Some (place.token) ≡ Some (g.token) = sym (place.named) ∙ ap (slice_get methods) (p.same) ∙ g.named in
    let tokens : place.token ≡ g.token = cc in
    let same : p.method.row ≡ method.row = place.row ∙ ap (λ (t : Token). t.row) tokens ∙ ap (λ (t : Token). t.row) token in
    let table : method.table ≡ tables.method_def = ap (λ (t : Token). t.table) (sym token) ∙ row.0 in
    some_by_one (names_method method) (map token_for placed) (p.index) (token_for (p.method)) (token_at placed (p.index) (p.method) (p.here)) (names_by method (p.method.row) table same)

-- two tests that are true together
both_ways : (a b : Bool) → (a ≡ true → b ≡ true) → (b ≡ true → a ≡ true) → a ≡ b
both_ways true b to from = sym (to refl)
both_ways false true to from = from refl
both_ways false false to from = refl

-- documents by their numbers
numbered_same : (documents : List DocumentValue) (n : ℕ) → numbered_document (map document_stated documents) n ≡ document_numbered documents n
numbered_same documents zero = refl
numbered_same documents (suc n) = slice_get-map document_stated documents n

points_same : (documents : List DocumentValue) (points : List Point) → map (plain_point (numbered_document (map document_stated documents))) points ≡ map (plain_point (document_numbered documents)) points
points_same documents [] = refl
points_same documents (p ∷ points) =
    let first : plain_point (numbered_document (map document_stated documents)) p ≡ plain_point (document_numbered documents) p = ap (λ (o : Option Document). record { offset = p.offset; document = o; lines = p.lines }) (numbered_same documents p.document) in
    rw (first, points_same documents points) refl

stated_is : (documents : List DocumentValue) (e : Edit) → has_points e ≡ true → debug_of (numbered_document (map document_stated documents)) (said_by (Some e)) ≡ debug_stated documents e
unfolding debug_of debug_stated
stated_is documents e some = rw some (ap (λ (points : List PlainPoint). record { locals = locals_row (body_given e); points = points }) (points_same documents (points_given e)))

used_by : (placed : List MethodEdit) (documents : List DocumentValue) (k : ℕ) (m : MethodEdit) → slice_get placed k ≡ Some m → documents_used placed documents ≡ documents
used_by [] documents k m at = absurd cc
used_by (n ∷ placed) documents k m at = refl

nth_is : (l : EditList) (placed : List MethodEdit) (k : ℕ) (m : MethodEdit) (e : Edit) → slice_get placed k ≡ Some m → slice_get l.edits m.place ≡ Some e → has_points e ≡ true → nth_method (list_pdb l placed) k ≡ debug_stated l.documents e
unfolding pdb_listed
nth_is l placed k m e at here some =
    ap (λ (x : MethodPoints). debug_of (numbered_document (map document_stated (documents_used placed l.documents))) x) (nth_placed l.edits placed k m at ∙ ap said_by here)
    ∙ ap (λ (ds : List DocumentValue). debug_of (numbered_document (map document_stated ds)) (said_by (Some e))) (used_by placed l.documents k m at)
    ∙ stated_is l.documents e some

row_says : (l : EditList) (methods : List Token) (placed : List MethodEdit) (k : ℕ) (t : Token) (e : Edit) → list_all edit_fits l.edits ≡ true → AreMethods methods l.edits → AreByRows methods l.edits placed → slice_get (map token_for placed) k ≡ Some t
    → edit_giving methods l.edits (method_named t) ≡ Some e → (k < length placed) × (nth_method (list_pdb l placed) k ≡ debug_stated l.documents e)
row_says l methods placed k t e form are by at given =
    let r = token_of placed k t at in
    let g = gives_placed l methods placed k (r.method) form are by (r.here) in
    let both : Some (g.edit) ≡ Some e = sym (g.gives) ∙ ap (λ (u : Token). edit_giving methods l.edits (method_named u)) (r.same) ∙ given in
    let same : g.edit ≡ e = cc in
    (slice_get_within placed k (r.method) (r.here), nth_is l placed k (r.method) (g.edit) (r.here) (g.here) (g.points) ∙ ap (debug_stated l.documents) same)

-- the tokens that EncMap names are those of the methods of the edits
abbrev is_debug : Token → Bool
is_debug t = t.table == tables.method_debug_information

debug_is : (t : Token) (row : ℕ) → is_debug t ≡ true → t.row ≡ row → t ≡ debug_token row
debug_is t row table same =
    let e : t.table ≡ tables.method_debug_information = grind (arith, nat_tests, table) in
    let whole : record { table = t.table; row = t.row } ≡ debug_token row = rw (e, same) refl in
    whole

tokens_by_rows : (ts : List Token) (placed : List MethodEdit) → list_all is_debug ts ≡ true → map (λ (t : Token). t.row) ts ≡ map row_placed placed → ts ≡ map token_for placed
tokens_by_rows [] [] all same = refl
tokens_by_rows [] (m ∷ placed) all same = absurd cc
tokens_by_rows (t ∷ ts) [] all same = absurd cc
tokens_by_rows (t ∷ ts) (m ∷ placed) all same =
    let parts = and_parts (is_debug t) (list_all is_debug ts) all in
    let row : t.row ≡ m.row = cc in
    let rest : map (λ (u : Token). u.row) ts ≡ map row_placed placed = cc in
    rw (debug_is t m.row parts.0 row, tokens_by_rows ts placed parts.1 rest) refl

kept_by : (t : Token) (ts : List Token) (b : Bool) → is_debug t ≡ b → list_all is_debug ts ≡ true → list_all is_debug (if b then t ∷ ts else ts) ≡ true
kept_by t ts true is all = rw (is, all) refl
kept_by t ts false is all = all

all_kept : (ts : List Token) → list_all is_debug (filter is_debug ts) ≡ true
all_kept [] = refl
all_kept (t ∷ ts) = kept_by t (filter is_debug ts) (is_debug t) refl (all_kept ts)

all_debug : (s : Source) → list_all is_debug (named_tokens s) ≡ true
unfolding named_tokens
all_debug s = all_kept (map (map_token_at s) (below (rows_of s.layout tables.enc_map)))

-- what says the methods says the list
pub list_said : (l : EditList) (methods : List Token) (placed : List MethodEdit) (bytes : List ℕ) → list_fits l ≡ true → AreMethods methods l.edits → AreByRows methods l.edits placed → SaysMethods (list_pdb l placed) (map row_placed placed) bytes
    → SaysEdits l methods bytes
unfolding list_fits
list_said l methods placed bytes form are by said =
    let s = said.source in
    let tokens = tokens_by_rows (named_tokens s) placed (all_debug s) said.named in
    let many : length (map row_placed placed) ≡ length placed = length-map placed row_placed in
    record {
      source = s;
      read = said.read;
      rises = λ k t at. ap (λ (ts : List Token). is_behind (take k ts) t) tokens ∙ rises placed k t by.rises (sym (ap (λ (ts : List Token). slice_get ts k) tokens) ∙ at);
      named = λ method. ap (list_any (names_method method)) tokens
          ∙ both_ways (list_any (names_method method) (map token_for placed)) (gives_points (edit_giving methods l.edits method)) (named_then l methods placed method form are by) (points_then l methods placed method are by);
      says = λ k t e at given.
          let r = row_says l methods placed k t e form are by (sym (ap (λ (ts : List Token). slice_get ts k) tokens) ∙ at) given in
          said.says k (omega (arith, many, r.0)) ∙ r.1;
      several = λ k t e at given.
          let r = row_says l methods placed k t e form are by (sym (ap (λ (ts : List Token). slice_get ts k) tokens) ∙ at) given in
          subst (λ (d : MethodDebug). IsNilOverSeveral d.points (document_told s k)) r.1 (said.several k (omega (arith, many, r.0)));
    }
