-- The rows of the PDB of a delta that says an edit list go with the delta's methods.
use Rattle.std.proofs.Common.{◌≡◌, ℕ, zero, suc, ◌<◌, true, false, List, [], ◌∷◌, length, map, Option, Some, None, refl, sym, ap, ◌∙◌, arith}
use Rattle.std.specs.Prelude.{option_map, option_and_then, unwrap_or, nat_le, nat_lt, slice_get}
use Rattle.std.specs.List.{list_any, list_all}
use Rattle.std.proofs.lemmas.Bool.{and_parts}
use Rattle.std.proofs.lemmas.Bool.Decides.{nat_tests}
use Rattle.enc_base.specs.Token.{nth_row}
use Rattle.enc_base.specs.declared.token.Token.{Token}
use Rattle.enc_rows.specs.Source.{Source}
use Rattle.enc_base.specs.Tables as tables
use Rattle.enc_seqpoints.specs.declared.point.Point.{Point}
use Rattle.enc_seqpoints.specs.Grammar.{MethodPoints, method_points}
use Rattle.enc_plain.specs.Debug.{Document, PlainPoint, MethodDebug, plain_point, debug_of}
use Rattle.enc_edit_list.specs.declared.body.BodyValue.{BodyValue}
use Rattle.enc_edit_list.specs.declared.edit.DocumentValue.{DocumentValue}
use Rattle.enc_edit_list.specs.declared.edit.Edit.{Edit}
use Rattle.enc_edit_list.specs.declared.edit.EditList.{EditList}
use Rattle.enc_edit_list.specs.Sizes.{length_of_code}
use Rattle.enc_rules.specs.Listed.{body_given, points_given}
use Rattle.enc_rules.specs.Rules.{has_points}
use Rattle.enc_ppdb.specs.Fault.{named_tokens}
use Rattle.enc_ppdb.specs.Misplaced.{is_stray, is_misplaced, misplaced_if, misplaced_row, least_below, debug_token, first_misplaced}
use Rattle.enc_ppdb.specs.Pdb.{points_of}
use Rattle.enc_ppdb.specs.PdbChain.{documents_at, points_at, debug_at}
use Rattle.enc_ppdb.specs.Points.{names_method}
use Rattle.enc_pdb_writer.specs.Laws.{size_given, AreSizes, NoneIsMisplaced}
use Rattle.enc_pdb_writer.specs.Stated.{document_numbered, debug_stated, edit_giving, stands_within, points_lie_within}
use Rattle.enc_pdb_writer.specs.Written.{SaysEdits, gives_points, method_named}
use Rattle.enc_pdb_writer.proofs.Lists.{one_of_all, some_by_one}
use Rattle.enc_pdb_writer.proofs.Told.{names_itself, given_at}

-- where no place below n answers, none is least
none_least : (rule : ℕ → Option ℕ) (n : ℕ) → ((k : ℕ) → k < n → rule k ≡ None) → least_below rule n ≡ None
unfolding least_below
none_least rule zero none = refl
none_least rule (suc n) none = rw (none_least rule n (λ k lt. none k (omega (arith, lt))), none n (omega arith)) refl

-- points of equal offsets
not_past : (b : BodyValue) (p : Point) (offset : ℕ) → offset ≡ p.offset → nat_lt p.offset (length_of_code b.code) ≡ true → nat_le (length_of_code b.code) offset ≡ false
not_past b p offset same low = grind (arith, nat_tests, same, low)

one_within : (o : Option BodyValue) (p : Point) (offset : ℕ) → offset ≡ p.offset → stands_within o p ≡ true → nat_le (size_given o) offset ≡ false
one_within None p offset same low = absurd cc
one_within (Some b) p offset same low = not_past b p offset same low

heads_same : (f g : ℕ → Option Document) (p q : Point) (ps qs : List Point) → map (plain_point f) (p ∷ ps) ≡ map (plain_point g) (q ∷ qs) → (p.offset ≡ q.offset) × (map (plain_point f) ps ≡ map (plain_point g) qs)
heads_same f g p q ps qs e =
    let first : plain_point f p ≡ plain_point g q = cc in
    let rest : map (plain_point f) ps ≡ map (plain_point g) qs = cc in
    (ap (λ (x : PlainPoint). x.offset) first, rest)

none_past : (f g : ℕ → Option Document) (o : Option BodyValue) (ps qs : List Point) → map (plain_point f) ps ≡ map (plain_point g) qs → list_all (stands_within o) qs ≡ true
    → list_any (λ (p : Point). nat_le (size_given o) p.offset) ps ≡ false
none_past f g o [] qs same low = refl
none_past f g o (p ∷ ps) [] same low = absurd cc
none_past f g o (p ∷ ps) (q ∷ qs) same low =
    let heads = heads_same f g p q ps qs same in
    let parts = and_parts (stands_within o q) (list_all (stands_within o) qs) low in
    rw (one_within o q p.offset heads.0 parts.0, none_past f g o ps qs heads.1 parts.1) refl

points_stated : (documents : List DocumentValue) (e : Edit) → has_points e ≡ true → (debug_stated documents e).points ≡ map (plain_point (document_numbered documents)) (points_given e)
unfolding debug_stated
points_stated documents e some = rw some refl

-- a row whose points are those of an edit has none past its code
not_stray : (documents : List DocumentValue) (e : Edit) (f : ℕ → Option Document) (o : Option MethodPoints) → has_points e ≡ true → points_lie_within e ≡ true → debug_of f (unwrap_or o (method_points 0 [])) ≡ debug_stated documents e
    → is_stray (Some (size_given (body_given e))) o ≡ false
unfolding debug_of
not_stray documents e f None some low is = refl
not_stray documents e f (Some m) some low is =
    none_past f (document_numbered documents) (body_given e) m.points (points_given e) (ap (λ (d : MethodDebug). d.points) is ∙ points_stated documents e some) low

known_is : (s : Source) (row : Token) → debug_at (Some (s, row)) ≡ debug_of (documents_at (Some (s, row))) (unwrap_or (points_of s row) (method_points 0 []))
unfolding debug_at points_at
known_is s row = refl

-- the edit that gives the method its points
given_points : (o : Option Edit) → gives_points o ≡ true → (e : Edit) × (o ≡ Some e) × (has_points e ≡ true)
given_points None some = absurd cc
given_points (Some e) some = (e, refl, some)

goes_with : (l : EditList) (methods : List Token) (bytes : List ℕ) (says : SaysEdits l methods bytes) (sizes : List (Token × ℕ)) (k : ℕ) (t : Token) → AreSizes sizes methods l.edits → list_all points_lie_within l.edits ≡ true
    → slice_get (named_tokens says.source) k ≡ Some t → is_misplaced says.source sizes k t ≡ false
unfolding is_misplaced
goes_with l methods bytes says sizes k t are within at =
    let row = nth_row tables.method_debug_information k in
    let some = sym (says.named (method_named t)) ∙ some_by_one (names_method (method_named t)) (named_tokens says.source) k t at (names_itself t) in
    let r = given_points (edit_giving methods l.edits (method_named t)) some in
    let e = r.0 in
    let place = given_at methods l.edits (method_named t) e r.1 in
    let low = one_of_all points_lie_within l.edits (place.place) e within (place.here) in
    let known = sym (known_is says.source row) ∙ says.says k t e at r.1 in
    rw (says.rises k t at) (ap (λ (o : Option ℕ). is_stray o (points_of says.source row)) (are t e r.1) ∙ not_stray l.documents e (documents_at (Some (says.source, row))) (points_of says.source row) r.2 low known)

row_by : (s : Source) (sizes : List (Token × ℕ)) (k : ℕ) (o : Option Token) → ((t : Token) → o ≡ Some t → is_misplaced s sizes k t ≡ false) → option_and_then (λ (token : Token). misplaced_if (is_misplaced s sizes k token) token) o ≡ None
row_by s sizes k None none = refl
row_by s sizes k (Some t) none = ap (λ b. misplaced_if b t) (none t refl)

pub none_is_misplaced : NoneIsMisplaced
unfolding first_misplaced misplaced_row
none_is_misplaced l methods bytes says sizes are within =
    ap (option_map debug_token) (none_least _ (length (named_tokens says.source)) (λ k lt.
    row_by says.source sizes k (slice_get (named_tokens says.source) k) (λ t at. goes_with l methods bytes says sizes k t are within at)))
