-- The points that edits say, by the rows of their methods.
use Rattle.std.proofs.Common.{◌≡◌, ℕ, zero, suc, true, List, [], Option, Some, None, refl, sym, ap, ◌∙◌, Result, Ok, Err, arith}
use Rattle.std.specs.Prelude.{◌^◌, ◌==◌, is_ok, option_map, option_and_then, unwrap_or, nat_lt, slice_get}
use Rattle.std.proofs.lemmas.Bool.{and_parts}
use Rattle.std.proofs.lemmas.Bool.Decides.{nat_tests}
use Rattle.std.proofs.lemmas.Option.{slice_get-map}
use Rattle.enc_base.specs.declared.token.Token.{Token}
use Rattle.enc_base.specs.Tables as tables
use Rattle.enc_seqpoints.specs.declared.point.Point.{Point}
use Rattle.enc_seqpoints.specs.declared.point.WriteFault.{WriteFault}
use Rattle.enc_seqpoints.specs.declared.point.WriteFault.TheVariants.{NotWritable, Memory}
use Rattle.enc_seqpoints.specs.Grammar.{opened, method_points}
use Rattle.enc_seqpoints.specs.Reads.{Writes}
use Rattle.enc_seqpoints.specs.Spelling.{preceded, records_of, first_document, header_bytes, blob_of}
use Rattle.enc_edit_list.specs.declared.edit.Edit.{Edit}
use Rattle.enc_rules.specs.Listed.{body_given, points_given}
use Rattle.enc_pdb_writer.specs.Listed.{said_by, said_at, can_be_said, can_be_spelled_at, edit_of_row, row_said, points_said_of}
use Rattle.enc_pdb_writer.specs.Stated.{locals_row}
use Rattle.enc_pdb_writer.specs.declared.edits.MethodEdit.{MethodEdit}
use Rattle.enc_pdb_writer.proofs.Lists.{one_of_all}

ok_preceded : (n : ℕ) (front : List ℕ) (r : Result (List ℕ) ℕ) → is_ok (preceded n front r) ≡ is_ok r
ok_preceded n front (Ok bytes) = refl
ok_preceded n front (Err i) = refl

-- points can be spelled with any local signature row
pub locals_spelled : (a b document : ℕ) (points : List Point) → is_ok (blob_of a document points) ≡ is_ok (blob_of b document points)
unfolding blob_of
locals_spelled a b document points =
    let first = first_document document points in
    ok_preceded 0 (header_bytes a document first) (records_of (opened first) points)
    ∙ sym (ok_preceded 0 (header_bytes b document first) (records_of (opened first) points))

-- what can be spelled isn't refused
refused_none : (i : ℕ) (r : Result (List ℕ) ℕ) → r ≡ Err i → is_ok r ≡ true → ⊥
refused_none i (Ok bytes) is good = absurd cc
refused_none i (Err j) is good = absurd cc

pub not_refused : (f : WriteFault) (i : ℕ) (r : Result (List ℕ) ℕ) → f ≡ NotWritable i → Writes (Err f) r → is_ok r ≡ true → ⊥
not_refused Memory i r is writes good = absurd cc
not_refused (NotWritable j) i r is writes good = refused_none j r writes good

pub spelled_by : (e : Edit) (locals : ℕ) (points : List Point) → points ≡ points_given e → can_be_said (Some e) ≡ true → is_ok (blob_of locals 0 points) ≡ true
spelled_by e locals points are can =
    ap (λ (ps : List Point). is_ok (blob_of locals 0 ps)) are ∙ locals_spelled locals 0 0 (points_given e)
    ∙ (and_parts (nat_lt (locals_row (body_given e)) (2 ^ 29)) (is_ok (blob_of 0 0 (points_given e))) can).1

-- what is said of a row is what its edit says
row_by : (edits : List Edit) (o : Option MethodEdit) → unwrap_or (option_map (λ (m : MethodEdit). said_by (slice_get edits m.place)) o) (method_points 0 []) ≡ said_by (option_and_then (λ (m : MethodEdit). slice_get edits m.place) o)
row_by edits None = refl
row_by edits (Some m) = refl

pub row_is : (edits : List Edit) (placed : List MethodEdit) (row : ℕ) → row_said (said_at edits placed) row ≡ said_by (edit_of_row edits placed row)
unfolding said_at
row_is edits placed zero = refl
row_is edits placed (suc n) =
    ap (λ o. unwrap_or o (method_points 0 [])) (slice_get-map (λ (m : MethodEdit). said_by (slice_get edits m.place)) placed n)
    ∙ row_by edits (slice_get placed n)

-- the edit of a row can be spelled
can_by : (edits : List Edit) (placed : List MethodEdit) (n : ℕ) (e : Edit) (o : Option MethodEdit) → slice_get placed n ≡ o → can_be_spelled_at edits placed ≡ true → option_and_then (λ (m : MethodEdit). slice_get edits m.place) o ≡ Some e → can_be_said (Some e) ≡ true
unfolding can_be_spelled_at
can_by edits placed n e None at all is = absurd cc
can_by edits placed n e (Some m) at all is = ap can_be_said (sym is) ∙ one_of_all (λ (m : MethodEdit). can_be_said (slice_get edits m.place)) placed n m all at

pub row_can : (edits : List Edit) (placed : List MethodEdit) (row : ℕ) (e : Edit) → can_be_spelled_at edits placed ≡ true → edit_of_row edits placed row ≡ Some e → can_be_said (Some e) ≡ true
row_can edits placed zero e all is = absurd cc
row_can edits placed (suc n) e all is = can_by edits placed n e (slice_get placed n) refl all is

-- what is said of a method is what the edit of its row says
pub method_is : (edits : List Edit) (placed : List MethodEdit) (method : Token) (o : Option Edit) → method.table ≡ tables.method_def → edit_of_row edits placed method.row ≡ o → points_said_of (said_at edits placed) method ≡ said_by o
unfolding points_said_of
method_is edits placed method o is at =
    let e : (method.table == tables.method_def) ≡ true = grind (arith, nat_tests, is) in
    rw e (row_is edits placed method.row ∙ ap said_by at)
