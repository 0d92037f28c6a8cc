-- The places of the edits that add rows: none, one more, and what stands there.
use Rattle.std.proofs.Common.{◌≡◌, ℕ, zero, suc, ◌+◌, ◌<◌, Bool, true, false, List, [], ◌∷◌, ◌++◌, Option, Some, None, refl, sym, ap, ◌∙◌, arith}
use Rattle.std.specs.Prelude.{◌==◌, ◌≢◌, length, replicate, take, filter, get_or, set, slice_get, option_and_then, option_map, if◌then◌else◌}
use Rattle.std.proofs.lemmas.List.{append-nil, get_or-set_other, length-set}
use Rattle.std.proofs.lemmas.Grind.{get_or-set_at}
use Rattle.std.proofs.lemmas.Bool.{eqb-true, false≢true}
use Rattle.std.proofs.lemmas.Bool.Decides.{nat_tests}
use Rattle.enc_edit_list.specs.Added.{adds_to, adding, rows_added, places_from, ArePlaces, rank_of, ranks_behind, ranks_of, KnowsAdded}
use Rattle.enc_base.specs.declared.token.Token.{Token}
use Rattle.enc_seqpoints.specs.declared.point.Point.{Point}
use Rattle.enc_edit_list.specs.declared.body.BodyValue.{BodyValue}
use Rattle.enc_edit_list.specs.declared.edit.Cell.{Cell as CellValue}
use Rattle.enc_edit_list.specs.declared.edit.Edit.{Edit}
use Rattle.enc_edit_list.specs.declared.edit.Edit.TheVariants.{Add, Body}

-- one more behind the others
by_test : (t : Bool) (at : ℕ) (xs ys : List ℕ) → (if t then at ∷ (xs ++ ys) else (xs ++ ys)) ≡ (if t then at ∷ xs else xs) ++ ys
by_test true at xs ys = refl
by_test false at xs ys = refl

pub places_behind : (at : ℕ) (edits : List Edit) (e : Edit) (t : ℕ) → places_from at (edits ++ e ∷ []) t ≡ places_from at edits t ++ (if adds_to t e then (at + length edits) ∷ [] else [])
unfolding places_from
places_behind at [] e t = let z : at + 0 ≡ at = omega arith in rw z refl
places_behind at (x ∷ rest) e t =
    let n : at + 1 + length rest ≡ at + suc (length rest) = omega arith in
    let step = places_behind (at + 1) rest e t in
    rw (step, n) (by_test (adds_to t x) at (places_from (at + 1) rest t) (if adds_to t e then (at + suc (length rest)) ∷ [] else []))

-- as many places as edits
count_by_test : (t : Bool) (e : Edit) (at : ℕ) (xs : List ℕ) (es : List Edit) → length xs ≡ length es → length (if t then at ∷ xs else xs) ≡ length (if t then e ∷ es else es)
count_by_test true e at xs es h = ap suc h
count_by_test false e at xs es h = h

pub same_length : (at : ℕ) (edits : List Edit) (t : ℕ) → length (places_from at edits t) ≡ length (filter (adds_to t) edits)
unfolding places_from
same_length at [] t = refl
same_length at (e ∷ rest) t = count_by_test (adds_to t e) e at (places_from (at + 1) rest t) (filter (adds_to t) rest) (same_length (at + 1) rest t)

-- none
rep_none : (n t : ℕ) → get_or (replicate {A = List ℕ} n []) t [] ≡ []
rep_none zero t = refl
rep_none (suc n) zero = refl
rep_none (suc n) (suc t) = rep_none n t

pub none_placed : (p : List (List ℕ)) → p ≡ replicate 256 [] → ArePlaces p []
unfolding places_from
none_placed p e = record { tables = rw e refl; each = λ t low. rw e (rep_none 256 t) }

-- one more
no_more : (p : List (List ℕ)) (before : List Edit) (e : Edit) (t : ℕ) → adds_to t e ≡ false → get_or p t [] ≡ places_from 0 before t → get_or p t [] ≡ places_from 0 (before ++ e ∷ []) t
no_more p before e t none is = is ∙ sym (append-nil (places_from 0 before t)) ∙ sym (places_behind 0 before e t ∙ ap (λ (b : Bool). places_from 0 before t ++ (if b then (0 + length before) ∷ [] else [])) none)

pub placed_body : (p : List (List ℕ)) (before : List Edit) (e : Edit) → ((t : ℕ) → adds_to t e ≡ false) → ArePlaces p before → ArePlaces p (before ++ e ∷ [])
placed_body p before e none is = record { tables = is.tables; each = λ t low. no_more p before e t (none t) (is.each t low) }

differ : (a b : ℕ) → (a == b) ≡ false → b ≢ a
differ a b other e = false≢true (sym other ∙ ap (λ n. a == n) e ∙ same a)
  where
    same : (a : ℕ) → (a == a) ≡ true
    same a = grind (arith, nat_tests)

one_more : (p : List (List ℕ)) (before : List Edit) (e : Edit) (table t at : ℕ) (b : Bool) → (table == t) ≡ b → adds_to t e ≡ b → length before ≡ at → table < length p → ((u : ℕ) → u < 256 → get_or p u [] ≡ places_from 0 before u) → t < 256 → get_or (set p table (get_or p table [] ++ at ∷ [])) t [] ≡ places_from 0 (before ++ e ∷ []) t
one_more p before e table t at false test adds size low each few =
    get_or-set_other p table t (get_or p table [] ++ at ∷ []) [] (differ table t test) ∙ no_more p before e t adds (each t few)
one_more p before e table t at true test adds size low each few =
    let same = eqb-true table t test in
    let there : get_or (set p table (get_or p table [] ++ at ∷ [])) t [] ≡ get_or p table [] ++ at ∷ [] = get_or-set_at p table t (get_or p table [] ++ at ∷ []) [] (sym same) low in
    let here : get_or p table [] ++ at ∷ [] ≡ places_from 0 before t ++ at ∷ [] = ap (λ xs. xs ++ at ∷ []) (ap (λ n. get_or p n []) same ∙ each t few) in
    let place : 0 + length before ≡ at = omega arith in
    there ∙ here ∙ sym (places_behind 0 before e t ∙ ap (λ (b : Bool). places_from 0 before t ++ (if b then (0 + length before) ∷ [] else [])) adds ∙ ap (λ n. places_from 0 before t ++ n ∷ []) place)

pub placed_add : (p : List (List ℕ)) (before : List Edit) (e : Edit) (table at : ℕ) → ((t : ℕ) → adds_to t e ≡ (table == t)) → length before ≡ at → table < 256 → ArePlaces p before → ArePlaces (set p table (get_or p table [] ++ at ∷ [])) (before ++ e ∷ [])
placed_add p before e table at adds size few is = record {
  tables = length-set p table (get_or p table [] ++ at ∷ []) ∙ is.tables;
  each = λ t low. one_more p before e table t at (table == t) refl (adds t) size (rw (is.tables) few) is.each low;
}

pub placed_row : (p q : List (List ℕ)) (before : List Edit) (table at : ℕ) (owner : Token) (cells : List CellValue) (code : Option BodyValue) (points : List Point) → q ≡ set p table (get_or p table [] ++ at ∷ []) → table < 256 → length before ≡ at → ArePlaces p before → ArePlaces q (before ++ Add table owner cells code points ∷ [])
placed_row p q before table at owner cells code points e few size is = rw e (placed_add p before (Add table owner cells code points) table at (λ t. refl) size few is)

-- what stands at the places
past : (before : List Edit) (e : Edit) (rest : List Edit) → before ++ e ∷ rest ≡ (before ++ e ∷ []) ++ rest
past [] e rest = refl
past (x ∷ before) e rest = ap (λ es. x ∷ es) (past before e rest)

at_end : (before : List Edit) (e : Edit) (rest : List Edit) → slice_get (before ++ e ∷ rest) (length before) ≡ Some e
at_end [] e rest = refl
at_end (x ∷ before) e rest = at_end before e rest

longer : (before : List Edit) (e : Edit) → length (before ++ e ∷ []) ≡ length before + 1
longer [] e = refl
longer (x ∷ before) e = let n = longer before e in omega arith

found_by : (xs : List Edit) (b : Bool) (at : ℕ) (e : Edit) (ps : List ℕ) (es : List Edit) → slice_get xs at ≡ Some e → ((r : ℕ) → option_and_then (slice_get xs) (slice_get ps r) ≡ slice_get es r) → (r : ℕ) → option_and_then (slice_get xs) (slice_get (if b then at ∷ ps else ps) r) ≡ slice_get (if b then e ∷ es else es) r
found_by xs false at e ps es here step r = step r
found_by xs true at e ps es here step zero = here
found_by xs true at e ps es here step (suc r) = step r

found : (xs before rest : List Edit) (t : ℕ) → xs ≡ before ++ rest → (r : ℕ) → option_and_then (slice_get xs) (slice_get (places_from (length before) rest t) r) ≡ slice_get (filter (adds_to t) rest) r
unfolding places_from
found xs before [] t e r = refl
found xs before (x ∷ rest) t e r =
    let here : slice_get xs (length before) ≡ Some x = rw e (at_end before x rest) in
    let next = found xs (before ++ x ∷ []) rest t (e ∙ past before x rest) in
    let size = longer before x in
    found_by xs (adds_to t x) (length before) x (places_from (length before + 1) rest t) (filter (adds_to t) rest) here (rw size at next) r

pub found_all : (edits : List Edit) (t r : ℕ) → option_and_then (slice_get edits) (slice_get (places_from 0 edits t) r) ≡ slice_get (adding edits t) r
unfolding adding
found_all edits t r = found edits [] edits t refl r

-- for a look-up
pub is_edit : (p : List (List ℕ)) (edits : List Edit) (t r at : ℕ) → ArePlaces p edits → t < 256 → slice_get (get_or p t []) r ≡ Some at → slice_get (adding edits t) r ≡ slice_get edits at
is_edit p edits t r at is low e =
    let there = is.each t low in
    sym (found_all edits t r) ∙ ap (option_and_then (slice_get edits)) (ap (λ ps. slice_get ps r) (sym there) ∙ e)

pub no_edit : (p : List (List ℕ)) (edits : List Edit) (t r : ℕ) → ArePlaces p edits → t < 256 → slice_get (get_or p t []) r ≡ None → slice_get (adding edits t) r ≡ None
no_edit p edits t r is low e =
    let there = is.each t low in
    sym (found_all edits t r) ∙ ap (option_and_then (slice_get edits)) (ap (λ ps. slice_get ps r) (sym there) ∙ e)

pub as_many : (p : List (List ℕ)) (edits : List Edit) (t : ℕ) → ArePlaces p edits → t < 256 → length (get_or p t []) ≡ rows_added edits t
unfolding rows_added adding
as_many p edits t is low = ap length (is.each t low) ∙ same_length 0 edits t

pub more_placed : (p : List (List ℕ)) (edits : List Edit) (at : ℕ) (e : Edit) → take (at + 1) edits ≡ take at edits ++ e ∷ [] → ArePlaces p (take at edits ++ e ∷ []) → ArePlaces p (take (at + 1) edits)
more_placed p edits at e same is = rw same is

-- ranks: one more, and the one at a place
assoc : (xs : List Edit) (e : Edit) (ys : List Edit) → (xs ++ e ∷ []) ++ ys ≡ xs ++ e ∷ ys
assoc xs e ys = sym (past xs e ys)

pub ranks_more : (before edits : List Edit) (e : Edit) → ranks_behind before (edits ++ e ∷ []) ≡ ranks_behind before edits ++ rank_of (before ++ edits) e ∷ []
unfolding ranks_behind
ranks_more before [] e = ap (λ es. rank_of es e ∷ []) (sym (append-nil before))
ranks_more before (x ∷ edits) e = ap (λ rs. rank_of before x ∷ rs) (ranks_more (before ++ x ∷ []) edits e ∙ ap (λ es. ranks_behind (before ++ x ∷ []) edits ++ rank_of es e ∷ []) (assoc before x edits))

pub ranks_next : (ranks : List ℕ) (edits : List Edit) (at : ℕ) (e : Edit) → ranks ≡ ranks_of (take at edits) → take (at + 1) edits ≡ take at edits ++ e ∷ [] → ranks ++ rank_of (take at edits) e ∷ [] ≡ ranks_of (take (at + 1) edits)
ranks_next ranks edits at e is same = rw (is, same) (sym (ranks_more [] (take at edits) e))

rank_at : (before edits : List Edit) (k : ℕ) → slice_get (ranks_behind before edits) k ≡ option_map (rank_of (before ++ take k edits)) (slice_get edits k)
unfolding ranks_behind
rank_at before [] k = refl
rank_at before (e ∷ edits) zero = ap (λ es. Some (rank_of es e)) (sym (append-nil before))
rank_at before (e ∷ edits) (suc k) = rank_at (before ++ e ∷ []) edits k ∙ ap (λ es. option_map (rank_of es) (slice_get edits k)) (assoc before e (take k edits))

pub rank_is : (edits : List Edit) (k : ℕ) → slice_get (ranks_of edits) k ≡ option_map (rank_of (take k edits)) (slice_get edits k)
rank_is edits k = rank_at [] edits k

-- both: none, one more, and the rank at a place
pub known_none : (p : List (List ℕ)) → p ≡ replicate 256 [] → KnowsAdded p [] []
unfolding ranks_behind
known_none p e = record { placed = none_placed p e; ranked = refl }

pub known_more : (p q : List (List ℕ)) (ranks : List ℕ) (edits : List Edit) (at r : ℕ) (e : Edit) → KnowsAdded p ranks (take at edits) → take (at + 1) edits ≡ take at edits ++ e ∷ [] → r ≡ rank_of (take at edits) e → ArePlaces q (take at edits ++ e ∷ []) → KnowsAdded q (ranks ++ r ∷ []) (take (at + 1) edits)
known_more p q ranks edits at r e known same rank placed = record {
  placed = more_placed q edits at e same placed;
  ranked = ap (λ n. ranks ++ n ∷ []) rank ∙ ranks_next ranks edits at e known.ranked same;
}

pub rank_known : (p : List (List ℕ)) (ranks : List ℕ) (edits : List Edit) (k : ℕ) → KnowsAdded p ranks edits → slice_get ranks k ≡ option_map (rank_of (take k edits)) (slice_get edits k)
rank_known p ranks edits k known = ap (λ rs. slice_get rs k) known.ranked ∙ rank_is edits k

pub rank_told : (p : List (List ℕ)) (ranks : List ℕ) (edits : List Edit) (k : ℕ) (o : Option ℕ) → KnowsAdded p ranks edits → o ≡ slice_get ranks k → o ≡ option_map (rank_of (take k edits)) (slice_get edits k)
rank_told p ranks edits k o known e = e ∙ rank_known p ranks edits k known
