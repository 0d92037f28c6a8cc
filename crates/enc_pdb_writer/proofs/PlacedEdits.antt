-- Each edit with points has its place by the row of its method, and what stands there is one.
use Rattle.std.proofs.Common.{◌≡◌, ℕ, zero, suc, ◌+◌, ◌*◌, Bool, true, false, List, [], ◌∷◌, ◌++◌, length, get_or, Option, Some, refl, sym, ap, subst, ◌∙◌, arith}
use Rattle.std.specs.Prelude.{◌==◌, sum_by, slice_get, if◌then◌else◌}
use Rattle.std.specs.List.{All, list_any}
use Rattle.std.proofs.lemmas.Bool.{eqb-true, or_right}
use Rattle.std.proofs.lemmas.Bool.Decides.{nat_tests}
use Rattle.std.proofs.lemmas.List.Sorted.{All-permutation, list_any-IsPermutation, sum_by-IsPermutation}
use Rattle.std.proofs.lemmas.List.Sums.{sum_by-cons}
use Rattle.std.proofs.lemmas.Option.{slice_get-get_or, slice_get_within, get_or_from_slice_get}
use Rattle.enc_base.specs.declared.token.Token.{Token}
use Rattle.enc_edit_list.specs.declared.edit.Edit.{Edit}
use Rattle.enc_rules.specs.Listed.{points_given}
use Rattle.enc_rules.specs.Rules.{has_points, room_of_points}
use Rattle.enc_pdb_writer.specs.declared.edits.MethodEdit.{MethodEdit}
use Rattle.enc_pdb_writer.specs.Listed.{placed_edit, placed_from, said_by, AreByRows}
use Rattle.enc_pdb_writer.proofs.Lists.{PassesAt, one_of_some}

-- an edit with points stands at the place, and its method has the row
pub record HasPlace (methods : List Token) (edits : List Edit) (m : MethodEdit) : Type 0 where
  pub edit : Edit
  pub token : Token
  pub here : slice_get edits m.place ≡ Some edit
  pub named : slice_get methods m.place ≡ Some token
  pub points : has_points edit ≡ true
  pub row : m.row ≡ token.row

-- the same counted from a place on
record IsFrom (methods : List Token) (edits : List Edit) (n : ℕ) (m : MethodEdit) : Type 0 where
  index : ℕ
  edit : Edit
  token : Token
  place : m.place ≡ n + index
  here : slice_get edits index ≡ Some edit
  named : slice_get methods index ≡ Some token
  points : has_points edit ≡ true
  row : m.row ≡ token.row

from_later : (t : Token) (methods : List Token) (e : Edit) (edits : List Edit) (n : ℕ) (m : MethodEdit) → IsFrom methods edits (n + 1) m → IsFrom (t ∷ methods) (e ∷ edits) n m
from_later t methods e edits n m is = record { index = suc (is.index); edit = is.edit; token = is.token; place = omega (arith, is.place); here = is.here; named = is.named; points = is.points; row = is.row }

from_first : (t : Token) (methods : List Token) (e : Edit) (edits : List Edit) (n k : ℕ) (m : MethodEdit) (rest : List MethodEdit) (b : Bool) → has_points e ≡ b → ((i : ℕ) → slice_get rest i ≡ Some m → IsFrom methods edits (n + 1) m)
    → slice_get ((if b then record { row = t.row; place = n } ∷ [] else []) ++ rest) k ≡ Some m → IsFrom (t ∷ methods) (e ∷ edits) n m
from_first t methods e edits n k m rest false is later at = from_later t methods e edits n m (later k at)
from_first t methods e edits n (suc k) m rest true is later at = from_later t methods e edits n m (later k at)
from_first t methods e edits n zero m rest true is later at =
    let same : record { row = t.row; place = n } ≡ m = cc in
    subst (λ (x : MethodEdit). IsFrom (t ∷ methods) (e ∷ edits) n x) same (record { index = 0; edit = e; token = t; place = omega arith; here = refl; named = refl; points = is; row = refl })

each_from : (n : ℕ) (methods : List Token) (edits : List Edit) (k : ℕ) (m : MethodEdit) → slice_get (placed_from n methods edits) k ≡ Some m → IsFrom methods edits n m
unfolding placed_from placed_edit
each_from n [] edits k m at = absurd cc
each_from n (t ∷ methods) [] k m at = absurd cc
each_from n (t ∷ methods) (e ∷ edits) k m at =
    from_first t methods e edits n k m (placed_from (n + 1) methods edits) (has_points e) refl (λ i a. each_from (n + 1) methods edits i m a) at

from_place : (methods : List Token) (edits : List Edit) (m : MethodEdit) → IsFrom methods edits 0 m → HasPlace methods edits m
from_place methods edits m is =
    let at : is.index ≡ m.place = omega (arith, is.place) in
    record {
      edit = is.edit;
      token = is.token;
      here = ap (slice_get edits) (sym at) ∙ is.here;
      named = ap (slice_get methods) (sym at) ∙ is.named;
      points = is.points;
      row = is.row;
    }

all_places : (methods : List Token) (edits : List Edit) → All (HasPlace methods edits) (placed_from 0 methods edits)
all_places methods edits k d lt = from_place methods edits _ (each_from 0 methods edits k (get_or (placed_from 0 methods edits) k d) (slice_get-get_or (placed_from 0 methods edits) k d lt))

pub has_place : (methods : List Token) (edits : List Edit) (placed : List MethodEdit) (k : ℕ) (m : MethodEdit) → AreByRows methods edits placed → slice_get placed k ≡ Some m → HasPlace methods edits m
has_place methods edits placed k m are at =
    subst (HasPlace methods edits) (get_or_from_slice_get placed k m m at)
    (All-permutation (HasPlace methods edits) (placed_from 0 methods edits) placed are.same (all_places methods edits) k m (slice_get_within placed k m at))

-- each edit with points is there
abbrev is_at : ℕ → MethodEdit → Bool
is_at k m = m.place == k

first_at : (t : Token) (n k : ℕ) (rest : List MethodEdit) → k ≡ n → list_any (is_at k) (record { row = t.row; place = n } ∷ rest) ≡ true
first_at t n k rest is = let e : (n == k) ≡ true = grind (arith, nat_tests, is) in rw e refl

later_at : (t : Token) (n k : ℕ) (rest : List MethodEdit) (b : Bool) → list_any (is_at k) rest ≡ true → list_any (is_at k) ((if b then record { row = t.row; place = n } ∷ [] else []) ++ rest) ≡ true
later_at t n k rest true is = or_right (n == k) (list_any (is_at k) rest) is
later_at t n k rest false is = is

any_from : (n : ℕ) (methods : List Token) (edits : List Edit) (i k : ℕ) (e : Edit) (t : Token) → slice_get edits i ≡ Some e → slice_get methods i ≡ Some t → has_points e ≡ true → k ≡ n + i → list_any (is_at k) (placed_from n methods edits) ≡ true
unfolding placed_from placed_edit
any_from n [] edits i k e t a b some is = absurd cc
any_from n (u ∷ methods) [] i k e t a b some is = absurd cc
any_from n (u ∷ methods) (d ∷ edits) zero k e t a b some is =
    let same : d ≡ e = cc in
    let here : has_points d ≡ true = ap has_points same ∙ some in
    rw here (first_at u n k (placed_from (n + 1) methods edits) (omega (arith, is)))
any_from n (u ∷ methods) (d ∷ edits) (suc i) k e t a b some is =
    later_at u n k (placed_from (n + 1) methods edits) (has_points d) (any_from (n + 1) methods edits i k e t a b some (omega (arith, is)))

pub record IsPlaced (placed : List MethodEdit) (place : ℕ) : Type 0 where
  pub index : ℕ
  pub method : MethodEdit
  pub here : slice_get placed index ≡ Some method
  pub same : method.place ≡ place

placed_by : (placed : List MethodEdit) (k : ℕ) → (i : ℕ) × PassesAt (is_at k) placed i → IsPlaced placed k
placed_by placed k r = record { index = r.0; method = r.1.element; here = r.1.here; same = eqb-true (r.1.element.place) k (r.1.passes) }

pub is_placed : (methods : List Token) (edits : List Edit) (placed : List MethodEdit) (k : ℕ) (e : Edit) (t : Token) → AreByRows methods edits placed → slice_get edits k ≡ Some e → slice_get methods k ≡ Some t → has_points e ≡ true → IsPlaced placed k
is_placed methods edits placed k e t are a b some =
    placed_by placed k (one_of_some (is_at k) placed (sym (list_any-IsPermutation (is_at k) (placed_from 0 methods edits) placed are.same) ∙ any_from 0 methods edits k k e t a b some (omega arith)))

-- the weight of what is placed is that of the edits
abbrev pub weight_placed : List Edit → MethodEdit → ℕ
weight_placed edits m = 64 + 32 * length (said_by (slice_get edits m.place)).points

room_is : (all : List Edit) (n : ℕ) (e : Edit) → slice_get all n ≡ Some e → 64 + 32 * length (said_by (slice_get all n)).points ≡ 64 + 32 * length (points_given e)
room_is all n e at = ap (λ (o : Option Edit). 64 + 32 * length (said_by o).points) at

room_by : (all : List Edit) (t : Token) (n : ℕ) (e : Edit) (rest : List MethodEdit) (more : ℕ) (b : Bool) → slice_get all n ≡ Some e → sum_by (weight_placed all) rest ≡ more
    → sum_by (weight_placed all) ((if b then record { row = t.row; place = n } ∷ [] else []) ++ rest) ≡ (if b then 64 + 32 * length (points_given e) else 0) + more
room_by all t n e rest more true at later = sum_by-cons (weight_placed all) (record { row = t.row; place = n }) rest ∙ omega (arith, room_is all n e at, later)
room_by all t n e rest more false at later = omega (arith, later)

rooms_from : (all : List Edit) (n : ℕ) (methods : List Token) (edits : List Edit) → length methods ≡ length edits → ((k : ℕ) (e : Edit) → slice_get edits k ≡ Some e → slice_get all (n + k) ≡ Some e)
    → sum_by (weight_placed all) (placed_from n methods edits) ≡ sum_by room_of_points edits
unfolding placed_from placed_edit
rooms_from all n [] [] same each = refl
rooms_from all n [] (e ∷ edits) same each = absurd (omega (arith, same))
rooms_from all n (t ∷ methods) [] same each = absurd (omega (arith, same))
rooms_from all n (t ∷ methods) (e ∷ edits) same each =
    let later = rooms_from all (n + 1) methods edits (omega (arith, same)) (λ k d a. let i : n + 1 + k ≡ n + suc k = omega arith in ap (slice_get all) i ∙ each (suc k) d a) in
    let zero_more : n ≡ n + 0 = omega arith in
    room_by all t n e (placed_from (n + 1) methods edits) (sum_by room_of_points edits) (has_points e) (ap (slice_get all) zero_more ∙ each 0 e refl) later
    ∙ sym (sum_by-cons room_of_points e edits)

pub placed_weight : (methods : List Token) (edits : List Edit) (placed : List MethodEdit) → length methods ≡ length edits → AreByRows methods edits placed → sum_by (weight_placed edits) placed ≡ sum_by room_of_points edits
placed_weight methods edits placed same are =
    sum_by-IsPermutation (weight_placed edits) (placed_from 0 methods edits) placed are.same
    ∙ rooms_from edits 0 methods edits same (λ k e a. let i : 0 + k ≡ k = omega arith in ap (slice_get edits) i ∙ a)
