-- What the tokens and the Add entries of a delta bring, one by one.
use Rattle.std.proofs.Common.{◌≡◌, ℕ, zero, suc, ◌+◌, ◌<◌, ◌≤◌, Bool, true, false, List, [], ◌∷◌, ◌++◌, length, take, drop, get_or, map, Option, Some, None, refl, sym, ap, ◌∙◌, append_assoc, append-nil, ◌⊎◌, inl, inr, cond, arith}
use Rattle.std.specs.Prelude.{IsTrue, ◌==◌, ◌&&◌, ◌||◌, if◌then◌else◌, position, count_by, option_map, unwrap_or, slice_get}
use Rattle.std.specs.List.{list_any, position_from}
use Rattle.std.proofs.lemmas.Iterator.Adapters.{position_from-zero}
use Rattle.std.proofs.lemmas.Bool.{cases_lt, cases_eq, and_parts}
use Rattle.std.proofs.lemmas.Bool.Decides.{nat_tests}
use Rattle.std.proofs.lemmas.List.{length-append, length-map, take_all, take_more, take-append-drop, get_or-map}
use Rattle.std.proofs.lemmas.Option.{slice_get-map, slice_get-get_or}
use Rattle.std.proofs.lemmas.List.Folds.{list_any_more}
use Rattle.enc_base.specs.declared.token.Token.{Token}
use Rattle.enc_base.specs.Token.{is_token}
use Rattle.enc_key_map.specs.declared.key.Key.{Key}
use Rattle.enc_key_map.specs.Key.{is_key}
use Rattle.enc_key_map.specs.Index.{either}
use Rattle.enc_rows.specs.Source.{Source}
use Rattle.enc_schema.specs.Children.{is_child_table, owner_table}
use Rattle.enc_plain.specs.Chain.{Chain, rows_before}
use Rattle.enc_plain.specs.Module.{kids_of}
use Rattle.enc_plain.specs.Apply.{Attached, gained}
use Rattle.enc_plain.specs.Sound.{HasOwners}
use Rattle.enc_plain.specs.declared.place.RowPlace.{RowPlace}
use Rattle.enc_plain.proofs.Owned.{count_cons, few_kids}
use Rattle.enc_delta.specs.declared.pairs.Pair.{Pair}
use Rattle.enc_delta.specs.Delta.{listed, place_in, of_table}
use Rattle.enc_delta.specs.Members.{pair_seen}
use Rattle.enc_delta.specs.Pairs.{attached_of}
use Rattle.enc_delta.specs.Rules.{rows_with}
use Rattle.enc_agg.specs.Extend.{extended}
use Rattle.enc_agg.specs.Follows.{Lands, Follows}
use Rattle.enc_agg.specs.Directory.{row_key, kids_key, IsHeld, AreOwned, AreHeld}
use Rattle.enc_agg.proofs.Pairs.{OwnedBy, AllOwned}
use Rattle.enc_agg.proofs.Children.{attaches_row, pairs_owned, owned_at, kids_after, owner_new, once_at, rows_after, owned_after}
use Rattle.enc_agg.proofs.Histories.{after_few}
use Rattle.enc_generation_map.proofs.Keeping.{get_front, get_behind}

two : (b : Bool) → (b ≡ true) ⊎ (b ≡ false)
two true = inl refl
two false = inr refl

and_true : (b : Bool) → (b && true) ≡ b
and_true true = refl
and_true false = refl

-- rows have one key if they are one
pub same_row : (t u : Token) → is_key (row_key t) (row_key u) ≡ is_token t u
same_row t u = and_true (t.table == u.table && t.row == u.row)

equal : (a b : ℕ) → (a == b) ≡ true → a ≡ b
equal a b h = grind (arith, nat_tests)

token_is : (t u : Token) → is_token t u ≡ true → t ≡ u
token_is t u h =
    let parts = and_parts (t.table == u.table) (t.row == u.row) h in
    rw (equal t.table u.table parts.0, equal t.row u.row parts.1) refl

-- the places of the tokens so far
abbrev pub place_at : ℕ → Option ℕ → Option RowPlace
place_at generation o = option_map (λ (k : ℕ). record { generation = generation; row = k }) o

abbrev pub placed : ℕ → List Token → List Token → Token → Option RowPlace
placed generation all tokens u = if list_any (λ t. is_token t u) tokens then place_at generation (place_in all u) else None

place_step : (b d : Bool) (p : RowPlace) (o : Option RowPlace) → (b ≡ true → Some p ≡ o) → either (if b then Some p else None) (if d then o else None) ≡ (if d || b then o else None)
place_step true true p o h = h refl
place_step true false p o h = h refl
place_step false true p o h = refl
place_step false false p o h = refl

pub place_more : (generation : ℕ) (all : List Token) (k row : ℕ) (d t u : Token) (old new : Option RowPlace) → k < length all → t ≡ get_or all k d → Some row ≡ place_in all t → new ≡ either (if is_key (row_key t) (row_key u) then Some (record { generation = generation; row = row }) else None) old → old ≡ placed generation all (take k all) u → new ≡ placed generation all (take (k + 1) all) u
place_more generation all k row d t u old new low at there put was =
    let step : list_any (λ x. is_token x u) (take (k + 1) all) ≡ (list_any (λ x. is_token x u) (take k all) || is_token t u) = list_any_more (λ x. is_token x u) all k d low ∙ ap (λ x. list_any (λ y. is_token y u) (take k all) || is_token x u) (sym at) in
    put ∙ rw (was, step, same_row t u) (place_step (is_token t u) (list_any (λ x. is_token x u) (take k all)) _ _ (λ same. ap (place_at generation) (there ∙ ap (place_in all) (token_is t u same))))

-- one that isn't among them has no place
abbrev pub row_from : ℕ → Token → List Token → Option ℕ
row_from n u tokens = position_from (λ (x : Token). x.row == u.row) n (of_table u.table tokens)

position_is : (u : Token) (tokens : List Token) → position (λ (x : Token). x.row == u.row) (of_table u.table tokens) ≡ row_from 0 u tokens
position_is u tokens = position_from-zero (λ (x : Token). x.row == u.row) (of_table u.table tokens)

none_step : (x u : Token) (xs : List Token) (n : ℕ) (a b rest : Bool) → (x.table == u.table) ≡ a → (x.row == u.row) ≡ b → (rest ≡ false → (m : ℕ) → row_from m u xs ≡ None) → ((a && b) || rest) ≡ false → row_from n u (x ∷ xs) ≡ None
none_step x u xs n true true rest e f more h = absurd cc
none_step x u xs n true false rest e f more h = rw (e, f) (more h (n + 1))
none_step x u xs n false b rest e f more h = rw e (more h n)

none_position : (u : Token) (tokens : List Token) → list_any (λ x. is_token x u) tokens ≡ false → (n : ℕ) → row_from n u tokens ≡ None
none_position u [] h n = refl
none_position u (x ∷ xs) h n = none_step x u xs n (x.table == u.table) (x.row == u.row) (list_any (λ y. is_token y u) xs) refl refl (none_position u xs) h

pub all_placed : (generation : ℕ) (all : List Token) (k : ℕ) (u : Token) (o : Option RowPlace) → length all ≤ k → o ≡ placed generation all (take k all) u → o ≡ place_at generation (place_in all u)
unfolding place_in
all_placed generation all k u o past is = is ∙ rw (take_all k all past) (by_any (list_any (λ x. is_token x u) all) refl)
  where
    by_any : (b : Bool) → list_any (λ x. is_token x u) all ≡ b → (if b then place_at generation (place_in all u) else None) ≡ place_at generation (place_in all u)
    by_any true e = refl
    by_any false e = sym (ap (λ (o : Option ℕ). place_at generation (option_map suc o)) (position_is u all ∙ none_position u all e 0))

-- a token of the list has a place
suc_none : (o : Option ℕ) → option_map suc o ≡ None → o ≡ None
suc_none None h = refl
suc_none (Some n) h = absurd cc

some_step : (x u : Token) (xs : List Token) (n : ℕ) (a b rest : Bool) → (x.table == u.table) ≡ a → (x.row == u.row) ≡ b → (rest ≡ true → (m : ℕ) → row_from m u xs ≡ None → ⊥) → ((a && b) || rest) ≡ true → row_from n u (x ∷ xs) ≡ None → ⊥
some_step x u xs n true true rest e f more h none = let z = rw (e, f) at none in absurd cc
some_step x u xs n true false rest e f more h none = more h (n + 1) (rw (e, f) at none)
some_step x u xs n false b rest e f more h none = more h n (rw e at none)

some_position : (u : Token) (tokens : List Token) → list_any (λ x. is_token x u) tokens ≡ true → (n : ℕ) → row_from n u tokens ≡ None → ⊥
some_position u [] h n none = absurd cc
some_position u (x ∷ xs) h n none = some_step x u xs n (x.table == u.table) (x.row == u.row) (list_any (λ y. is_token y u) xs) refl refl (some_position u xs) h none

any_at : (d u : Token) (tokens : List Token) (k : ℕ) → k < length tokens → u ≡ get_or tokens k d → list_any (λ x. is_token x u) tokens ≡ true
any_at d u [] k low at = absurd (omega arith)
any_at d u (x ∷ xs) zero low at =
    let table : (u.table == u.table) ≡ true = grind (arith, nat_tests) in
    let row : (u.row == u.row) ≡ true = grind (arith, nat_tests) in
    let same : x ≡ u = sym at in
    rw (same, table, row) refl
any_at d u (x ∷ xs) (suc k) low at = or_true (is_token x u) _ (any_at d u xs k (omega arith) at)
  where
    or_true : (b rest : Bool) → rest ≡ true → (b || rest) ≡ true
    or_true true rest h = refl
    or_true false rest h = h

pub is_placed : (tokens : List Token) (k : ℕ) (d t : Token) → k < length tokens → t ≡ get_or tokens k d → place_in tokens t ≡ None → ⊥
unfolding place_in
is_placed tokens k d t low at none = some_position t tokens (any_at d t tokens k low at) 0 (sym (position_is t tokens) ∙ suc_none _ none)

-- children that are held, with one more
pub held_more : (xs : List ℕ) (first x : ℕ) (count : Option ℕ) (kid : ℕ → Option ℕ) → IsHeld xs first count kid → IsHeld (xs ++ x ∷ []) first (Some (length xs + 1)) (λ i. either (if length xs == i then Some x else None) (kid i))
held_more xs first x count kid h = record {
  low = omega (arith, h.low, length-append xs (x ∷ []));
  many = sym (length-append xs (x ∷ []));
  old = λ i low. let differs : (length xs == i) ≡ false = grind (arith, nat_tests, h.low) in rw differs (h.old i low);
  new = λ i le low. elim (cases_lt i (length xs)) [
    | inl before ↦ let differs : (length xs == i) ≡ false = grind (arith, nat_tests) in rw differs (h.new i le before ∙ sym (get_front xs (x ∷ []) i before))
    | inr behind ↦
        let e : i ≡ length xs = omega (arith, low, behind, length-append xs (x ∷ [])) in
        let same : (length xs == length xs) ≡ true = grind (arith, nat_tests) in
        rw (e, same) (sym (get_behind xs (x ∷ [])))
  ];
}

held_as : (xs ys : List ℕ) (first : ℕ) (c d : Option ℕ) (kid more : ℕ → Option ℕ) → xs ≡ ys → c ≡ d → ((i : ℕ) → more i ≡ kid i) → IsHeld xs first c kid → IsHeld ys first d more
held_as xs ys first c d kid more e f same h = rw (← e, ← f) (record {
  low = h.low;
  many = h.many;
  old = λ i low. same i ∙ h.old i low;
  new = λ i le low. same i ∙ h.new i le low;
})

part_step : (b : Bool) (x : Attached) (xs ys : List Attached) (vs : List ℕ) → map (λ (a : Attached). a.child.row) ys ≡ map (λ (a : Attached). a.child.row) xs ++ vs → map (λ (a : Attached). a.child.row) (cond b (x ∷ ys) ys) ≡ map (λ (a : Attached). a.child.row) (cond b (x ∷ xs) xs) ++ vs
part_step true x xs ys vs h = ap (λ ns. x.child.row ∷ ns) h
part_step false x xs ys vs h = h

gained_part : (xs ys : List Attached) (u : Token) (t : ℕ) → gained (xs ++ ys) u t ≡ gained xs u t ++ gained ys u t
gained_part [] ys u t = refl
gained_part (a ∷ xs) ys u t = part_step (is_token a.owner u && a.child.table == t) a _ _ _ (gained_part xs ys u t)

only : (b : Bool) (a : Attached) → map (λ (x : Attached). x.child.row) (cond b (a ∷ []) []) ≡ (if b then a.child.row ∷ [] else [])
only true a = refl
only false a = refl

gained_snoc : (pairs : List Attached) (a : Attached) (u : Token) (t : ℕ) → gained (pairs ++ a ∷ []) u t ≡ gained pairs u t ++ (if is_token a.owner u && a.child.table == t then a.child.row ∷ [] else [])
gained_snoc pairs a u t = gained_part pairs (a ∷ []) u t ∙ ap (λ xs. gained pairs u t ++ xs) (only (is_token a.owner u && a.child.table == t) a)

false_and : (a b c : Bool) → (a ≡ true → b ≡ true → ⊥) → (a && b && c) ≡ false
false_and true true c h = absurd (h refl refl)
false_and true false c h = refl
false_and false b c h = refl

not_true : (b : Bool) → b ≡ false → b ≡ true → ⊥
not_true b f t = absurd cc

same_number : (n : ℕ) → (n == n) ≡ true
same_number n = grind (arith, nat_tests)

-- the key of a child of another row or table is another
other_key : (a : Attached) (u : Token) (t n i : ℕ) → a.owner.table ≡ owner_table a.child.table → u.table ≡ owner_table t → (is_token a.owner u && a.child.table == t) ≡ false → is_key (kids_key a.child.table a.owner n) (kids_key t u i) ≡ false
other_key a u t n i own mine differs = false_and (a.child.table == t) (a.owner.row == u.row) (n == i) (λ table row.
    let e : a.child.table ≡ t = equal a.child.table t table in
    let tables : a.owner.table ≡ u.table = own ∙ ap owner_table e ∙ sym mine in
    let same : (a.owner.table == u.table) ≡ true = rw tables (same_number u.table) in
    not_true _ differs (rw (same, row, table) refl))

-- an Add entry put in: what each row has
pub held_step : (c : Chain) (pairs : List Attached) (a : Attached) (others : ℕ) (count kid now_count now_kid : Key → Option ℕ) → a.owner.table ≡ owner_table a.child.table → IsTrue (is_child_table a.child.table) → others ≡ unwrap_or (count (kids_key a.child.table a.owner 0)) (length (kids_of c.plain a.owner a.child.table)) → ((q : Key) → now_count q ≡ either (if is_key (kids_key a.child.table a.owner 0) q then Some (others + 1) else None) (count q)) → ((q : Key) → now_kid q ≡ either (if is_key (kids_key a.child.table a.owner others) q then Some a.child.row else None) (kid q)) → ((u : Token) (t : ℕ) → IsTrue (is_child_table t) → u.table ≡ owner_table t → IsHeld (kids_of c.plain u t ++ gained pairs u t) (length (kids_of c.plain u t)) (count (kids_key t u 0)) (λ i. kid (kids_key t u i))) → (u : Token) (t : ℕ) → IsTrue (is_child_table t) → u.table ≡ owner_table t → IsHeld (kids_of c.plain u t ++ gained (pairs ++ a ∷ []) u t) (length (kids_of c.plain u t)) (now_count (kids_key t u 0)) (λ i. now_kid (kids_key t u i))
held_step c pairs a others count kid now_count now_kid own child so_far counts kids held u t there mine =
    elim (two (is_token a.owner u && a.child.table == t)) [
      | inr differs ↦
          let gains : kids_of c.plain u t ++ gained pairs u t ≡ kids_of c.plain u t ++ gained (pairs ++ a ∷ []) u t = ap (λ xs. kids_of c.plain u t ++ xs) (sym (gained_snoc pairs a u t ∙ rw differs (append-nil (gained pairs u t)))) in
          held_as _ _ _ _ _ (λ i. kid (kids_key t u i)) (λ i. now_kid (kids_key t u i)) gains (sym (counts (kids_key t u 0) ∙ rw (other_key a u t 0 0 own mine differs) refl)) (λ i. kids (kids_key t u i) ∙ rw (other_key a u t others i own mine differs) refl) (held u t there mine)
      | inl same ↦
          let parts = and_parts (is_token a.owner u) (a.child.table == t) same in
          let e : a.owner ≡ u = token_is a.owner u parts.0 in
          let f : a.child.table ≡ t = equal a.child.table t parts.1 in
          held_here u t e f (held u t there mine)
    ]
  where
    held_here : (u : Token) (t : ℕ) → a.owner ≡ u → a.child.table ≡ t → IsHeld (kids_of c.plain u t ++ gained pairs u t) (length (kids_of c.plain u t)) (count (kids_key t u 0)) (λ i. kid (kids_key t u i)) → IsHeld (kids_of c.plain u t ++ gained (pairs ++ a ∷ []) u t) (length (kids_of c.plain u t)) (now_count (kids_key t u 0)) (λ i. now_kid (kids_key t u i))
    held_here u t e f h =
        let o = a.owner in
        let k = a.child.table in
        let was : IsHeld (kids_of c.plain o k ++ gained pairs o k) (length (kids_of c.plain o k)) (count (kids_key k o 0)) (λ i. kid (kids_key k o i)) = rw (e, f) h in
        let many : others ≡ length (kids_of c.plain o k ++ gained pairs o k) = so_far ∙ was.many in
        let table = same_number k in
        let row = same_number o.row in
        let own_pair : (is_token o o && k == k) ≡ true = rw (same_number o.table, row, table) refl in
        let gains : (kids_of c.plain o k ++ gained pairs o k) ++ a.child.row ∷ [] ≡ kids_of c.plain o k ++ gained (pairs ++ a ∷ []) o k = append_assoc (kids_of c.plain o k) (gained pairs o k) (a.child.row ∷ []) ∙ ap (λ xs. kids_of c.plain o k ++ xs) (sym (gained_snoc pairs a o k ∙ rw own_pair refl)) in
        let counted : Some (length (kids_of c.plain o k ++ gained pairs o k) + 1) ≡ now_count (kids_key k o 0) = sym (counts (kids_key k o 0) ∙ rw (table, row, ← many) refl) in
        let given : (i : ℕ) → now_kid (kids_key k o i) ≡ either (if length (kids_of c.plain o k ++ gained pairs o k) == i then Some a.child.row else None) (kid (kids_key k o i)) = λ i. kids (kids_key k o i) ∙ rw (table, row, ← many) refl in
        rw (← e, ← f) (held_as _ _ _ _ _ _ (λ i. now_kid (kids_key k o i)) gains counted given (held_more (kids_of c.plain o k ++ gained pairs o k) (length (kids_of c.plain o k)) a.child.row (count (kids_key k o 0)) (λ i. kid (kids_key k o i)) was))

-- the owner by the last pair with a child
abbrev pub last_owner : List Attached → Token → Option Token
last_owner [] u = None
last_owner (a ∷ pairs) u = either (last_owner pairs u) (if is_token a.child u then Some a.owner else None)

either_three : (a b o : Option Token) → either (either a b) o ≡ either a (either b o)
either_three (Some v) b o = refl
either_three None b o = refl

either_none : (o : Option Token) → either o None ≡ o
either_none (Some v) = refl
either_none None = refl

pub owner_snoc : (pairs : List Attached) (a : Attached) (u : Token) (old new : Option Token) → new ≡ either (if is_key (row_key a.child) (row_key u) then Some a.owner else None) old → old ≡ last_owner pairs u → new ≡ last_owner (pairs ++ a ∷ []) u
owner_snoc pairs a u old new put was = put ∙ rw (was, same_row a.child u) (sym (snoc pairs))
  where
    snoc : (pairs : List Attached) → last_owner (pairs ++ a ∷ []) u ≡ either (if is_token a.child u then Some a.owner else None) (last_owner pairs u)
    snoc [] = sym (either_none (if is_token a.child u then Some a.owner else None))
    snoc (p ∷ pairs) = ap (λ o. either o (if is_token p.child u then Some p.owner else None)) (snoc pairs) ∙ either_three (if is_token a.child u then Some a.owner else None) (last_owner pairs u) _

no_owner : (count before : ℕ → ℕ) (pairs : List Attached) (u : Token) → AllOwned count before pairs → u.row ≤ before u.table → last_owner pairs u ≡ None
no_owner count before [] u all low = refl
no_owner count before (a ∷ pairs) u all low = rw (no_owner count before pairs u all.1 low, differs) refl
  where
    differs : is_token a.child u ≡ false
    differs = elim (two (is_token a.child u)) [
      | inr no_one ↦ no_one
      | inl same ↦ let e = token_is a.child u same in let past = rw e at all.0.new in absurd (omega arith)
    ]

-- a pair with the child is one of them, and the last one tells
pub record HasPair (pairs : List Attached) (u : Token) : Type 0 where
  pub at : ℕ
  pub pair : Attached
  pub get : slice_get pairs at ≡ Some pair
  pub child : pair.child ≡ u
  pub last : last_owner pairs u ≡ Some pair.owner

abbrev pub one_if : Bool → ℕ
one_if b = cond b 1 0

none_more : (x : Attached) (u : Token) (xs : List Attached) (b : Bool) → is_token x.child u ≡ b → last_owner xs u ≡ None → one_if b ≡ 0 → last_owner (x ∷ xs) u ≡ None
none_more x u xs true e none h = absurd cc
none_more x u xs false e none h = rw (none, e) refl

none_last : (pairs : List Attached) (u : Token) → count_by (attaches_row u.table u.row) pairs ≡ 0 → last_owner pairs u ≡ None
none_last [] u h = refl
none_last (x ∷ xs) u h =
    let parts = count_cons (attaches_row u.table u.row) x xs in
    let rest : count_by (attaches_row u.table u.row) xs ≡ 0 = omega (arith, parts, h) in
    let here : one_if (is_token x.child u) ≡ 0 = omega (arith, parts, h) in
    none_more x u xs (is_token x.child u) refl (none_last xs u rest) here

pair_here : (p : Attached) (u : Token) (pairs : List Attached) (b : Bool) → is_token p.child u ≡ b → last_owner pairs u ≡ None → one_if b ≡ 1 → HasPair (p ∷ pairs) u
pair_here p u pairs true same none h = record { at = 0; pair = p; get = refl; child = token_is p.child u same; last = rw (none, same) refl }
pair_here p u pairs false same none h = absurd cc

pair_there : (p : Attached) (u : Token) (pairs : List Attached) → HasPair pairs u → HasPair (p ∷ pairs) u
pair_there p u pairs w = record { at = suc w.at; pair = w.pair; get = w.get; child = w.child; last = rw w.last refl }

one_pair : (pairs : List Attached) (u : Token) → count_by (attaches_row u.table u.row) pairs ≡ 1 → HasPair pairs u
one_pair [] u h = absurd cc
one_pair (p ∷ pairs) u h =
    let parts = count_cons (attaches_row u.table u.row) p pairs in
    elim (cases_eq (count_by (attaches_row u.table u.row) pairs) 1) [
      | inl one ↦ pair_there p u pairs (one_pair pairs u one)
      | inr other ↦
          let few : one_if (is_token p.child u) ≤ 1 = at_most (is_token p.child u) in
          let none : count_by (attaches_row u.table u.row) pairs ≡ 0 = omega (arith, parts, h, other) in
          let here : one_if (is_token p.child u) ≡ 1 = omega (arith, parts, h, none) in
          pair_here p u pairs (is_token p.child u) refl (none_last pairs u none) here
    ]
  where
    at_most : (b : Bool) → one_if b ≤ 1
    at_most true = omega arith
    at_most false = omega arith

-- what is known of all pairs
pub owners_known : (c : Chain) (s : Source) (owner : Token → Option Token) → HasOwners c.plain → Lands c s → ((u : Token) → owner u ≡ last_owner (attached_of s) u) → AreOwned c (extended c s) owner
owners_known c s owner sound lands is = record {
  old = λ u there low. is u ∙ no_owner (rows_with c (listed s)) (rows_before c) (attached_of s) u (pairs_owned c s lands) low;
  new = λ u there past high.
      let once = once_at c s u.table u.row lands there past (rw (rows_after c s sound.tables lands u.table) at high) in
      let w = one_pair (attached_of s) u once in
      let found = owner_new c s sound.tables lands sound.runs sound.owned w.at w.pair w.get in
      is u ∙ w.last ∙ sym (rw w.child at found);
}

pub kids_known : (c : Chain) (s : Source) (count kid : Key → Option ℕ) → HasOwners c.plain → Lands c s → ((u : Token) (t : ℕ) → IsTrue (is_child_table t) → u.table ≡ owner_table t → IsHeld (kids_of c.plain u t ++ gained (attached_of s) u t) (length (kids_of c.plain u t)) (count (kids_key t u 0)) (λ i. kid (kids_key t u i))) → AreHeld c (extended c s) count kid
kids_known c s count kid sound lands held u t there owners = rw (kids_after c s sound.tables lands sound.runs u t there) (held u t there owners)

-- a pair by its place
pub pair_at : (pairs : List Pair) (s : Source) (k : ℕ) (d : Pair) → map pair_seen pairs ≡ attached_of s → k < length pairs → slice_get (attached_of s) k ≡ Some (pair_seen (get_or pairs k d))
pair_at pairs s k d is low = rw (← is, slice_get-map pair_seen pairs k, slice_get-get_or pairs k d low) refl

pub pair_owned : (c : Chain) (s : Source) (pairs : List Pair) (k : ℕ) (d : Pair) → Lands c s → map pair_seen pairs ≡ attached_of s → k < length pairs → OwnedBy (rows_with c (listed s)) (rows_before c) (pair_seen (get_or pairs k d))
pair_owned c s pairs k d lands is low = owned_at (rows_with c (listed s)) (rows_before c) (attached_of s) k (pair_seen (get_or pairs k d)) (pairs_owned c s lands) (pair_at pairs s k d is low)

pub take_pair : (pairs : List Pair) (k : ℕ) (d : Pair) → k < length pairs → take (k + 1) (map pair_seen pairs) ≡ take k (map pair_seen pairs) ++ pair_seen (get_or pairs k d) ∷ []
take_pair pairs k d low =
    take_more (map pair_seen pairs) k (pair_seen d) (omega (arith, low, length-map pairs pair_seen)) ∙ ap (λ x. take k (map pair_seen pairs) ++ x ∷ []) (get_or-map pair_seen pairs k d (pair_seen d) low)

-- the children so far are few
pub others_few : (c : Chain) (s : Source) (k : ℕ) (u : Token) (t : ℕ) → HasOwners c.plain → Follows c s → is_child_table t ≡ true → length (kids_of c.plain u t ++ gained (take k (attached_of s)) u t) < 0x1000000
others_few c s k u t sound follows there =
    let lands = follows.lands in
    let all : length (gained (attached_of s) u t) ≡ length (gained (take k (attached_of s)) u t) + length (gained (drop k (attached_of s)) u t) = ap (λ xs. length (gained xs u t)) (sym (take-append-drop k (attached_of s))) ∙ ap (λ (xs : List ℕ). length xs) (gained_part (take k (attached_of s)) (drop k (attached_of s)) u t) ∙ length-append (gained (take k (attached_of s)) u t) (gained (drop k (attached_of s)) u t) in
    let whole = ap (λ (xs : List ℕ). length xs) (kids_after c s sound.tables lands sound.runs u t there) ∙ length-append (kids_of c.plain u t) (gained (attached_of s) u t) in
    let part = length-append (kids_of c.plain u t) (gained (take k (attached_of s)) u t) in
    let few = few_kids (extended c s).plain u t (owned_after c s sound.tables lands sound.runs sound.owned) there in
    let rows = after_few c s t sound.tables follows in
    omega (arith, all, whole, part, few, rows)

-- so many others come before a child
pub others_known : (c : Chain) (s : Source) (pairs : List Pair) (k : ℕ) (d : Pair) (others : ℕ) (counts kid : Key → Option ℕ) → HasOwners c.plain → Follows c s → map pair_seen pairs ≡ attached_of s → k < length pairs → ((u : Token) (t : ℕ) → IsTrue (is_child_table t) → u.table ≡ owner_table t → IsHeld (kids_of c.plain u t ++ gained (take k (map pair_seen pairs)) u t) (length (kids_of c.plain u t)) (counts (kids_key t u 0)) (λ i. kid (kids_key t u i))) → others ≡ unwrap_or (counts (kids_key (get_or pairs k d).child.table (get_or pairs k d).owner 0)) (length (kids_of c.plain (get_or pairs k d).owner (get_or pairs k d).child.table)) → others < 0x1000000
others_known c s pairs k d others counts kid sound follows is low held so_far =
    let p = get_or pairs k d in
    let own = pair_owned c s pairs k d follows.lands is low in
    let many = so_far ∙ (held p.owner p.child.table own.child own.table).many in
    let few = others_few c s k p.owner p.child.table sound follows own.child in
    omega (arith, rw is at many, few)

-- each token of the list has a place
pub not_placed : (tokens all : List Token) (k : ℕ) (d : Token) (o : Option ℕ) → tokens ≡ all → k < length tokens → o ≡ place_in all (get_or tokens k d) → o ≡ None → ⊥
not_placed tokens all k d o is low told none = is_placed tokens k d (get_or tokens k d) low refl (ap (λ xs. place_in xs (get_or tokens k d)) is ∙ sym told ∙ none)

-- owners and children that are known by other means too
pub owned_alone : (before after : Chain) (owner other : Token → Option Token) → ((u : Token) → other u ≡ owner u) → AreOwned before after owner
    → AreOwned before after other
owned_alone before after owner other same owned = record {
  old = λ u there low. same u ∙ owned.old u there low;
  new = λ u there past high. same u ∙ owned.new u there past high;
}

pub held_alone : (before after : Chain) (count kid other_count other_kid : Key → Option ℕ) → ((q : Key) → other_count q ≡ count q)
    → ((q : Key) → other_kid q ≡ kid q) → AreHeld before after count kid → AreHeld before after other_count other_kid
held_alone before after count kid other_count other_kid counts kids held u t there owners =
    let h = held u t there owners in
    record {
      low = h.low;
      many = ap (λ o. unwrap_or o (length (kids_of before.plain u t))) (counts (kids_key t u 0)) ∙ h.many;
      old = λ i low. kids (kids_key t u i) ∙ h.old i low;
      new = λ i le low. kids (kids_key t u i) ∙ h.new i le low;
    }
