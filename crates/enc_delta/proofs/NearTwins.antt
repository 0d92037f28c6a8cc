-- Twins have one key, so they stand beside one another among members in the order of their keys.
use Rattle.std.proofs.Common.{◌≡◌, ℕ, zero, suc, ◌+◌, ◌-◌, ◌<◌, ◌≤◌, Bool, true, false, List, [], ◌∷◌, ◌++◌, length, take, get_or, map, Option, refl, sym, ap, subst, ◌∙◌, inl, inr, arith}
use Rattle.std.specs.Prelude.{◌==◌, ◌&&◌, ◌||◌, not, filter, nat_lt, if◌then◌else◌}
use Rattle.std.specs.List.{list_any}
use Rattle.std.specs.List.Sorted.{IsNonDecreasingBy}
use Rattle.std.proofs.lemmas.Bool.{cases_eq, cases_lt, and_from}
use Rattle.std.proofs.lemmas.Bool.Decides.{nat_tests}
use Rattle.std.proofs.lemmas.List.{map-append, append-nil}
use Rattle.std.proofs.lemmas.List.Elements.{filter_more}
use Rattle.std.proofs.lemmas.List.Folds.{list_any-append, list_any_at}
use Rattle.enc_base.specs.Token.{number_of}
use Rattle.enc_base.specs.declared.token.Token.{Token}
use Rattle.enc_schema.specs.Children.{is_child_table}
use Rattle.enc_plain.specs.Module.{Module, kids_of}
use Rattle.enc_plain.specs.Apply.{gained}
use Rattle.enc_plain.proofs.Columns.{both_left, both_right}
use Rattle.enc_delta.specs.declared.pairs.Pair.{Pair}
use Rattle.enc_delta.specs.declared.shared.Keyed.{Keyed}
use Rattle.enc_delta.specs.Rules.{least, lesser, at_token, stands_in}
use Rattle.enc_delta.specs.Twins.{Asked, members, is_twin, has_twin, twin_fault}
use Rattle.enc_delta.specs.Members.{pair_seen, is_beside, is_twin_row, is_twin_beside, AlikeHaveOneKey, owner_key, name_key, twin_key, keyed_by_name, keyed_by_signature, no_keyed, keyed_at, has_neighbour, near_told, is_other, AreKeyed, is_twin_of, has_twin_among, is_new_twin, keyed_number, AreSame, AreOld, AreChildren, ArePairs, IsTwinBehind, IsTwinBefore}
use Rattle.enc_delta.proofs.ListsChanged.{all_at}
use Rattle.enc_delta.proofs.ListsChildren.{two, equal, equal_is}
use Rattle.enc_delta.proofs.ListsSets.{least_is, least_unique}
use Rattle.enc_delta.proofs.MembersBeside.{no_pair, any_filter, any_map, any_same, any_gained, owner_same, table_same, beside_itself}
use Rattle.enc_delta.proofs.TwinsTold.{twin_counts, twin_name, twin_alike, child_is, absorbed, swap_or, filtered, least_more}

-- tests of lists by their places
pub where_one : {A : Type 0} (f : A → Bool) (xs : List A) (d : A) → list_any f xs ≡ true → (i : ℕ) × (i < length xs) × (f (get_or xs i d) ≡ true)
where_one f [] d h = absurd cc
where_one f (x ∷ xs) d h = elim (two (f x)) [
  | inl is ↦ (0, omega arith, is)
  | inr fails ↦ let w = where_one f xs d (rw fails at h) in (suc w.0, omega (arith, w.1), w.2)
]

pub iff_is : (a b : Bool) → (a ≡ true → b ≡ true) → (b ≡ true → a ≡ true) → a ≡ b
iff_is true true f g = refl
iff_is true false f g = sym (f refl)
iff_is false true f g = g refl
iff_is false false f g = refl

any_none : {A : Type 0} (f : A → Bool) (xs : List A) (d : A) → ((i : ℕ) → i < length xs → f (get_or xs i d) ≡ false) → list_any f xs ≡ false
any_none f [] d h = refl
any_none f (x ∷ xs) d h = rw (h 0 (omega arith)) (any_none f xs d (λ i l. h (suc i) (omega arith)))

none_at : {A : Type 0} (f : A → Bool) (xs : List A) (i : ℕ) (d : A) → list_any f xs ≡ false → i < length xs → f (get_or xs i d) ≡ false
none_at f xs i d h l = elim (two (f (get_or xs i d))) [ inl is ↦ let e : false ≡ true = sym h ∙ list_any_at f xs i d l is in absurd cc | inr fails ↦ fails ]

no_true : {A : Type 0} (b : Bool) → b ≡ true → b ≡ false → A
no_true b h e = let f : false ≡ true = sym e ∙ h in absurd cc

three_of : (a b c : Bool) → not (a && b && c) ≡ false → (a ≡ true) × (b ≡ true) × (c ≡ true)
three_of true true true h = (refl, refl, refl)
three_of true true false h = absurd cc
three_of true false c h = absurd cc
three_of false b c h = absurd cc

-- what is known of a member that is one of these
pub keyed_known : (q : Asked) (key : Pair → ℕ) (entries : List Keyed) (i : ℕ) → AreKeyed q key entries → i < length entries → (q.counts (keyed_at entries i).pair.child ≡ true) × (((keyed_at entries i).key == key (keyed_at entries i).pair) ≡ true) × ((not (keyed_at entries i).is_new || nat_lt (keyed_at entries i).pair.child.row 0x1000000) ≡ true)
keyed_known q key entries i are l = three_of (q.counts (keyed_at entries i).pair.child) ((keyed_at entries i).key == key (keyed_at entries i).pair) (not (keyed_at entries i).is_new || nat_lt (keyed_at entries i).pair.child.row 0x1000000) (none_at (is_other q key) entries i no_keyed are l)

pub keyed_counts : (q : Asked) (key : Pair → ℕ) (entries : List Keyed) (i : ℕ) → AreKeyed q key entries → i < length entries → q.counts (keyed_at entries i).pair.child ≡ true
keyed_counts q key entries i are l = (keyed_known q key entries i are l).0

row_by : (new : Bool) (r : ℕ) → (not new || nat_lt r 0x1000000) ≡ true → new ≡ true → r < 0x1000000
row_by true r h e = grind (arith, nat_tests)
row_by false r h e = absurd cc

pub keyed_row : (q : Asked) (key : Pair → ℕ) (entries : List Keyed) (i : ℕ) → AreKeyed q key entries → i < length entries → is_new_twin q entries (keyed_at entries i) ≡ true → (keyed_at entries i).pair.child.row < 0x1000000
keyed_row q key entries i are l new = row_by (keyed_at entries i).is_new (keyed_at entries i).pair.child.row (keyed_known q key entries i are l).2 (both_left (keyed_at entries i).is_new (has_twin_among q entries (keyed_at entries i)) new)

-- what is known of twins
beside_of : (q : Asked) (a k : Pair) → is_twin_beside q a k ≡ true → is_beside a k ≡ true
beside_of q a k h = both_left (is_beside a k) (is_twin_row q a k.child.row) h

twin_of : (q : Asked) (a k : Pair) → is_twin_beside q a k ≡ true → is_twin q a.child (record { table = a.child.table; row = k.child.row }) ≡ true
twin_of q a k h = both_right (is_beside a k) (is_twin_row q a k.child.row) h

name_of : (q : Asked) (a k : Pair) → is_twin_beside q a k ≡ true → q.name k.child ≡ q.name a.child
name_of q a k h = ap q.name (child_is a k (beside_of q a k h)) ∙ sym (twin_name q a.child (record { table = a.child.table; row = k.child.row }) (twin_of q a k h))

pub counts_of : (q : Asked) (a k : Pair) → is_twin_beside q a k ≡ true → q.counts k.child ≡ true
counts_of q a k h = ap q.counts (child_is a k (beside_of q a k h)) ∙ twin_counts q a.child (record { table = a.child.table; row = k.child.row }) (twin_of q a k h)

alike_of : (q : Asked) (a k : Pair) → is_twin_beside q a k ≡ true → q.alike a.child k.child ≡ true
alike_of q a k h = ap (q.alike a.child) (child_is a k (beside_of q a k h)) ∙ twin_alike q a.child (record { table = a.child.table; row = k.child.row }) (twin_of q a k h)

not_itself : (q : Asked) (a : Pair) → is_twin_beside q a a ≡ false
not_itself q a = rw (beside_itself a, equal_is a.child.row a.child.row refl) refl

owners : (q : Asked) (a k : Pair) → is_twin_beside q a k ≡ true → owner_key k ≡ owner_key a
unfolding owner_key
owners q a k h = rw (owner_same a k (beside_of q a k h), table_same a k (beside_of q a k h)) refl

pub names_one : (q : Asked) (a k : Pair) → is_twin_beside q a k ≡ true → name_key q k ≡ name_key q a
unfolding name_key
names_one q a k h = rw (name_of q a k h, owners q a k h) refl

twins_one : (q : Asked) (keys : Token → ℕ) (a k : Pair) → AlikeHaveOneKey q keys → q.counts a.child ≡ true → is_twin_beside q a k ≡ true → twin_key q keys k ≡ twin_key q keys a
unfolding twin_key
twins_one q keys a k one counts h =
    let key : keys a.child ≡ keys k.child = one a.child k.child counts (counts_of q a k h) (sym (table_same a k (beside_of q a k h))) (alike_of q a k h) in
    rw (name_of q a k h, owners q a k h, ← key) refl

-- those of one key stand beside one another
or_true : (x : Bool) → (x || true) ≡ true
or_true true = refl
or_true false = refl

near_low : (entries : List Keyed) (i j : ℕ) → IsNonDecreasingBy (λ (e : Keyed). e.key) entries → i < j → j < length entries → (keyed_at entries i).key ≡ (keyed_at entries j).key → has_neighbour entries i ≡ true
unfolding has_neighbour
near_low entries i j sorted l m e =
    let up = sorted i (i + 1) no_keyed (omega arith) (omega arith) in
    let down = sorted (i + 1) j no_keyed (omega arith) m in
    let test : nat_lt (i + 1) (length entries) ≡ true = grind (arith, nat_tests) in
    let same : ((keyed_at entries (i + 1)).key == (keyed_at entries i).key) ≡ true = equal_is _ _ (omega arith) in
    rw (test, same) (or_true _)

near_high : (entries : List Keyed) (i j : ℕ) → IsNonDecreasingBy (λ (e : Keyed). e.key) entries → i < j → j < length entries → (keyed_at entries i).key ≡ (keyed_at entries j).key → has_neighbour entries j ≡ true
unfolding has_neighbour
near_high entries i j sorted l m e =
    let up = sorted i (j - 1) no_keyed (omega arith) (omega arith) in
    let down = sorted (j - 1) j no_keyed (omega arith) m in
    let test : nat_lt 0 j ≡ true = grind (arith, nat_tests) in
    let same : ((keyed_at entries (j - 1)).key == (keyed_at entries j).key) ≡ true = equal_is _ _ (omega arith) in
    rw (test, same) refl

near_both : (q : Asked) (entries : List Keyed) (i j : ℕ) → AreKeyed q (name_key q) entries → IsNonDecreasingBy (λ (e : Keyed). e.key) entries → i < length entries → j < length entries → is_twin_of q (keyed_at entries i) (keyed_at entries j) ≡ true → (has_neighbour entries i ≡ true) × (has_neighbour entries j ≡ true)
near_both q entries i j are sorted l m twin =
    let first = equal _ _ (keyed_known q (name_key q) entries i are l).1 in
    let second = equal _ _ (keyed_known q (name_key q) entries j are m).1 in
    let e : (keyed_at entries i).key ≡ (keyed_at entries j).key = first ∙ sym (second ∙ names_one q (keyed_at entries i).pair (keyed_at entries j).pair twin) in
    elim (cases_lt i j) [
      | inl below ↦ (near_low entries i j sorted below m e, near_high entries i j sorted below m e)
      | inr above ↦ elim (cases_eq i j) [
        | inl same ↦
            let itself = subst (λ k. is_twin_of q (keyed_at entries i) (keyed_at entries k) ≡ true) (sym same) twin in
            no_true (is_twin_of q (keyed_at entries i) (keyed_at entries i)) itself (not_itself q (keyed_at entries i).pair)
        | inr other ↦
            let behind : j < i = elim (cases_lt j i) [ inl b ↦ b | inr b ↦ let same : i ≡ j = omega arith in absurd (other same) ] in
            (near_high entries j i sorted behind l (sym e), near_low entries j i sorted behind l (sym e))
      ]
    ]

-- the members that are told by their signatures too
last_of : (q : Asked) (keys : Token → ℕ) (f : Keyed → Bool) (e : Keyed) (near : Bool) → list_any f (if near then keyed_by_signature q keys e ∷ [] else []) ≡ true → (near ≡ true) × (f (keyed_by_signature q keys e) ≡ true)
last_of q keys f e true h = elim (two (f (keyed_by_signature q keys e))) [ inl is ↦ (refl, is) | inr fails ↦ absurd (let g = rw fails at h in cc) ]
last_of q keys f e false h = absurd cc

right_true : (a b : Bool) → (a || b) ≡ true → a ≡ false → b ≡ true
right_true true b h e = absurd cc
right_true false b h e = h

told_where : (q : Asked) (keys : Token → ℕ) (entries : List Keyed) (f : Keyed → Bool) (n : ℕ) → list_any f (near_told q keys entries n) ≡ true → (i : ℕ) × (i < n) × (has_neighbour entries i ≡ true) × (f (keyed_by_signature q keys (keyed_at entries i)) ≡ true)
unfolding near_told
told_where q keys entries f zero h = absurd cc
told_where q keys entries f (suc n) h =
    let split = sym (list_any-append f (near_told q keys entries n) (if has_neighbour entries n then keyed_by_signature q keys (keyed_at entries n) ∷ [] else [])) ∙ h in
    elim (two (list_any f (near_told q keys entries n))) [
      | inl is ↦ let w = told_where q keys entries f n is in (w.0, omega (arith, w.1), w.2, w.3)
      | inr fails ↦ let w = last_of q keys f (keyed_at entries n) (has_neighbour entries n) (right_true _ _ split fails) in (n, omega arith, w.0, w.1)
    ]

left_true : (a b : Bool) → a ≡ true → (a || b) ≡ true
left_true a b e = rw e refl

told_at : (q : Asked) (keys : Token → ℕ) (entries : List Keyed) (f : Keyed → Bool) (n i : ℕ) → i < n → has_neighbour entries i ≡ true → f (keyed_by_signature q keys (keyed_at entries i)) ≡ true → list_any f (near_told q keys entries n) ≡ true
unfolding near_told
told_at q keys entries f zero i l near is = absurd (omega arith)
told_at q keys entries f (suc n) i l near is = list_any-append f (near_told q keys entries n) _ ∙ elim (cases_eq i n) [
  | inl e ↦
      let here : has_neighbour entries n ≡ true = subst (λ k. has_neighbour entries k ≡ true) e near in
      let passes : f (keyed_by_signature q keys (keyed_at entries n)) ≡ true = subst (λ k. f (keyed_by_signature q keys (keyed_at entries k)) ≡ true) e is in
      rw (here, passes) (or_true _)
  | inr e ↦
      let below : i < n = elim (cases_lt i n) [ inl b ↦ b | inr b ↦ let same : i ≡ n = omega arith in absurd (e same) ] in
      left_true _ _ (told_at q keys entries f n i below near is)
]

pub told_keyed : (q : Asked) (keys : Token → ℕ) (entries : List Keyed) (n : ℕ) → n ≤ length entries → AreKeyed q (name_key q) entries → AreKeyed q (twin_key q keys) (near_told q keys entries n)
told_keyed q keys entries n few are = elim (two (list_any (is_other q (twin_key q keys)) (near_told q keys entries n))) [
  | inl is ↦
      let w = told_where q keys entries (is_other q (twin_key q keys)) n is in
      let known = keyed_known q (name_key q) entries w.0 are (omega (arith, w.1)) in
      no_true (is_other q (twin_key q keys) (keyed_by_signature q keys (keyed_at entries w.0))) w.3 (rw (known.0, equal_is (twin_key q keys (keyed_at entries w.0).pair) (twin_key q keys (keyed_at entries w.0).pair) refl, known.2) refl)
  | inr fails ↦ fails
]

-- those that have twins keep them
abbrev twinned : Asked → (Bool → Pair → Bool) → List Keyed → Keyed → Bool
twinned q g entries e = g e.is_new e.pair && has_twin_among q entries e

stage : (q : Asked) (keys : Token → ℕ) (entries : List Keyed) (g : Bool → Pair → Bool) → AreKeyed q (name_key q) entries → IsNonDecreasingBy (λ (e : Keyed). e.key) entries → list_any (twinned q g (near_told q keys entries (length entries))) (near_told q keys entries (length entries)) ≡ list_any (twinned q g entries) entries
stage q keys entries g are sorted = iff_is _ _ forth back
  where
    n : ℕ
    n = length entries

    forth : list_any (twinned q g (near_told q keys entries n)) (near_told q keys entries n) ≡ true → list_any (twinned q g entries) entries ≡ true
    forth h =
        let w = told_where q keys entries (twinned q g (near_told q keys entries n)) n h in
        let e = keyed_at entries w.0 in
        let v = told_where q keys entries (is_twin_of q (keyed_by_signature q keys e)) n (both_right (g e.is_new e.pair) (has_twin_among q (near_told q keys entries n) (keyed_by_signature q keys e)) w.3) in
        let twin = list_any_at (is_twin_of q e) entries v.0 no_keyed v.1 v.3 in
        list_any_at (twinned q g entries) entries w.0 no_keyed w.1 (and_from _ _ (both_left (g e.is_new e.pair) (has_twin_among q (near_told q keys entries n) (keyed_by_signature q keys e)) w.3) twin)

    back : list_any (twinned q g entries) entries ≡ true → list_any (twinned q g (near_told q keys entries n)) (near_told q keys entries n) ≡ true
    back h =
        let w = where_one (twinned q g entries) entries no_keyed h in
        let e = keyed_at entries w.0 in
        let v = where_one (is_twin_of q e) entries no_keyed (both_right (g e.is_new e.pair) (has_twin_among q entries e) w.2) in
        let near = near_both q entries w.0 v.0 are sorted w.1 v.1 v.2 in
        let twin = told_at q keys entries (is_twin_of q (keyed_by_signature q keys e)) n v.0 v.1 near.1 v.2 in
        told_at q keys entries (twinned q g (near_told q keys entries n)) n w.0 w.1 near.0 (and_from _ _ (both_left (g e.is_new e.pair) (has_twin_among q entries e) w.2) twin)

reordered : (q : Asked) (before after : List Keyed) (g : Bool → Pair → Bool) → AreSame before after → list_any (twinned q g after) after ≡ list_any (twinned q g before) before
reordered q before after g same = same (twinned q g after) ∙ any_same (twinned q g after) (twinned q g before) before (λ e. ap (λ b. g e.is_new e.pair && b) (same (is_twin_of q e)))

-- the members as they are gathered
abbrev pub gathered : Asked → List Pair → List Pair → List Keyed
gathered q pairs old = map (keyed_by_name q true) (filter (λ (k : Pair). q.counts k.child) pairs) ++ map (keyed_by_name q false) (filter (λ (k : Pair). q.counts k.child) old)

pub any_named : (q : Asked) (new : Bool) (f : Keyed → Bool) (xs : List Pair) → list_any f (map (keyed_by_name q new) (filter (λ (k : Pair). q.counts k.child) xs)) ≡ list_any (λ (k : Pair). q.counts k.child && f (keyed_by_name q new k)) xs
any_named q new f xs = any_map (keyed_by_name q new) f (filter (λ (k : Pair). q.counts k.child) xs) ∙ any_filter (λ (k : Pair). q.counts k.child) (λ k. f (keyed_by_name q new k)) xs

any_gathered : (q : Asked) (f : Keyed → Bool) (pairs old : List Pair) → list_any f (gathered q pairs old) ≡ (list_any (λ (k : Pair). q.counts k.child && f (keyed_by_name q true k)) pairs || list_any (λ (k : Pair). q.counts k.child && f (keyed_by_name q false k)) old)
any_gathered q f pairs old = list_any-append f (map (keyed_by_name q true) (filter (λ (k : Pair). q.counts k.child) pairs)) (map (keyed_by_name q false) (filter (λ (k : Pair). q.counts k.child) old)) ∙ rw (any_named q true f pairs, any_named q false f old) refl

twins_gathered : (q : Asked) (a : Pair) (pairs old : List Pair) → list_any (λ (k : Keyed). is_twin_beside q a k.pair) (gathered q pairs old) ≡ list_any (is_twin_beside q a) (pairs ++ old)
twins_gathered q a pairs old = any_gathered q (λ (k : Keyed). is_twin_beside q a k.pair) pairs old ∙ rw (absorbed (is_twin_beside q a) (λ (k : Pair). q.counts k.child) pairs (counts_of q a), absorbed (is_twin_beside q a) (λ (k : Pair). q.counts k.child) old (counts_of q a)) (sym (list_any-append (is_twin_beside q a) pairs old))

and_no : (b : Bool) → (b && false) ≡ false
and_no true = refl
and_no false = refl

or_no : (b : Bool) → (b || false) ≡ b
or_no true = refl
or_no false = refl

never : (p : Pair → Bool) (xs : List Pair) → ((x : Pair) → p x ≡ false) → list_any p xs ≡ false
never p [] h = refl
never p (x ∷ xs) h = rw (h x) (never p xs h)

first_twins : (q : Asked) (g : Pair → Bool) (pairs old : List Pair) → list_any (twinned q (λ new k. new && g k) (gathered q pairs old)) (gathered q pairs old) ≡ list_any (λ (k : Pair). q.counts k.child && (g k && list_any (is_twin_beside q k) (pairs ++ old))) pairs
first_twins q g pairs old =
    any_gathered q (twinned q (λ new k. new && g k) (gathered q pairs old)) pairs old
    ∙ rw (never (λ (k : Pair). q.counts k.child && false) old (λ k. and_no (q.counts k.child))) (or_no _)
    ∙ any_same _ _ pairs (λ k. ap (λ b. q.counts k.child && (g k && b)) (twins_gathered q k pairs old))

-- they are keyed by their names
gathered_keyed : (q : Asked) (pairs old : List Pair) → ArePairs pairs → AreKeyed q (name_key q) (gathered q pairs old)
gathered_keyed q pairs old rows = any_gathered q (is_other q (name_key q)) pairs old ∙ rw (any_none (λ (k : Pair). q.counts k.child && is_other q (name_key q) (keyed_by_name q true k)) pairs no_pair new_known, never (λ (k : Pair). q.counts k.child && is_other q (name_key q) (keyed_by_name q false k)) old old_known) refl
  where
    right_of : (a b : Bool) → (a && b) ≡ true → b ≡ true
    right_of true b h = h
    right_of false b h = absurd cc

    counted : (c s r : Bool) → s ≡ true → r ≡ true → (c && not (c && s && r)) ≡ false
    counted true s r e f = rw (e, f) refl
    counted false s r e f = refl

    old_known : (k : Pair) → (q.counts k.child && is_other q (name_key q) (keyed_by_name q false k)) ≡ false
    old_known k = counted (q.counts k.child) (name_key q k == name_key q k) true (equal_is (name_key q k) (name_key q k) refl) refl

    new_known : (i : ℕ) → i < length pairs → (q.counts (get_or pairs i no_pair).child && is_other q (name_key q) (keyed_by_name q true (get_or pairs i no_pair))) ≡ false
    new_known i l =
        let k = get_or pairs i no_pair in
        counted (q.counts k.child) (name_key q k == name_key q k) (nat_lt k.child.row 0x1000000) (equal_is (name_key q k) (name_key q k) refl) (right_of (nat_lt k.owner.row 0x1000000) (nat_lt k.child.row 0x1000000) (all_at (λ (k : Pair). nat_lt k.owner.row 0x1000000 && nat_lt k.child.row 0x1000000) pairs i no_pair rows l))

pub same_keyed : (q : Asked) (key : Pair → ℕ) (before after : List Keyed) → AreSame before after → AreKeyed q key before → AreKeyed q key after
same_keyed q key before after same are = same (is_other q key) ∙ are

pub named_keyed : (q : Asked) (pairs old : List Pair) (entries : List Keyed) → ArePairs pairs → AreSame (gathered q pairs old) entries → AreKeyed q (name_key q) entries
named_keyed q pairs old entries rows same = same_keyed q (name_key q) (gathered q pairs old) entries same (gathered_keyed q pairs old rows)

-- the same numbers have one least
least_same : (ns ms : List ℕ) → ((n : ℕ) → stands_in ns n ≡ stands_in ms n) → least ns ≡ least ms
least_same ns ms h = least_unique (stands_in ns) (stands_in ms) (least ns) (least ms) h (least_is ns) (least_is ms)

abbrev pub in_all : Asked → List Pair → Pair → Bool
in_all q all a = q.counts a.child && list_any (is_twin_beside q a) all

aside : (a b c : Bool) → ((a && b) && c) ≡ ((a && c) && b)
aside true true c = sym (and_yes c)
  where
    and_yes : (b : Bool) → (b && true) ≡ b
    and_yes true = refl
    and_yes false = refl
aside true false c = sym (and_no c)
aside false b c = refl

within : (a b c : Bool) → (a && (c && b)) ≡ ((a && b) && c)
within true b true = sym (and_yes b)
  where
    and_yes : (b : Bool) → (b && true) ≡ b
    and_yes true = refl
    and_yes false = refl
within true b false = sym (and_no b)
within false b c = refl

twins_same : (q : Asked) (keys : Token → ℕ) (pairs old : List Pair) (entries last : List Keyed) (g : Pair → Bool) → ArePairs pairs → AreSame (gathered q pairs old) entries → IsNonDecreasingBy (λ (e : Keyed). e.key) entries → AreSame (near_told q keys entries (length entries)) last → list_any (twinned q (λ new k. new && g k) last) last ≡ list_any (λ (k : Pair). q.counts k.child && (g k && list_any (is_twin_beside q k) (pairs ++ old))) pairs
twins_same q keys pairs old entries last g rows same sorted again =
    reordered q (near_told q keys entries (length entries)) last (λ new k. new && g k) again
    ∙ stage q keys entries (λ new k. new && g k) (named_keyed q pairs old entries rows same) sorted
    ∙ reordered q (gathered q pairs old) entries (λ new k. new && g k) same
    ∙ first_twins q g pairs old

numbers_same : (q : Asked) (keys : Token → ℕ) (pairs old : List Pair) (entries last : List Keyed) (n : ℕ) → ArePairs pairs → AreSame (gathered q pairs old) entries → IsNonDecreasingBy (λ (e : Keyed). e.key) entries → AreSame (near_told q keys entries (length entries)) last → stands_in (map keyed_number (filter (is_new_twin q last) last)) n ≡ stands_in (map (λ (k : Pair). number_of k.child) (filter (in_all q (pairs ++ old)) pairs)) n
numbers_same q keys pairs old entries last n rows same sorted again =
    any_map keyed_number (λ m. m == n) (filter (is_new_twin q last) last)
    ∙ any_filter (is_new_twin q last) (λ e. keyed_number e == n) last
    ∙ any_same (λ e. is_new_twin q last e && (keyed_number e == n)) (twinned q (λ new k. new && (number_of k.child == n)) last) last (λ e. aside e.is_new (has_twin_among q last e) (keyed_number e == n))
    ∙ twins_same q keys pairs old entries last (λ k. number_of k.child == n) rows same sorted again
    ∙ any_same _ (λ (k : Pair). in_all q (pairs ++ old) k && (number_of k.child == n)) pairs (λ k. within (q.counts k.child) (list_any (is_twin_beside q k) (pairs ++ old)) (number_of k.child == n))
    ∙ sym (any_filter (in_all q (pairs ++ old)) (λ (k : Pair). number_of k.child == n) pairs)
    ∙ sym (any_map (λ (k : Pair). number_of k.child) (λ m. m == n) (filter (in_all q (pairs ++ old)) pairs))

-- a member's twins are those among its owner's
told_by : (q : Asked) (m : Module) (pairs old : List Pair) (a : Pair) → AreOld q m pairs old → is_child_table a.child.table ≡ true → list_any (λ (k : Pair). q.counts k.child && is_beside a k) pairs ≡ true → list_any (is_twin_beside q a) (pairs ++ old) ≡ list_any (is_twin_row q a) (members m (map pair_seen pairs) a.owner a.child.table)
told_by q m pairs old a are child there =
    list_any-append (is_twin_beside q a) pairs old
    ∙ ap (λ b. list_any (is_twin_beside q a) pairs || b) (are a (is_twin_row q a) child)
    ∙ rw there (swap_or (list_any (is_twin_beside q a) pairs) (list_any (is_twin_row q a) (kids_of m a.owner a.child.table)))
    ∙ ap (λ b. list_any (is_twin_row q a) (kids_of m a.owner a.child.table) || b) (sym (any_gained (is_twin_row q a) pairs a))
    ∙ sym (list_any-append (is_twin_row q a) (kids_of m a.owner a.child.table) (gained (map pair_seen pairs) a.owner a.child.table))

pub twin_is : (q : Asked) (m : Module) (pairs old : List Pair) (i : ℕ) → AreOld q m pairs old → AreChildren q pairs → i < length pairs → in_all q (pairs ++ old) (get_or pairs i no_pair) ≡ has_twin q m (map pair_seen pairs) (pair_seen (get_or pairs i no_pair))
unfolding has_twin
twin_is q m pairs old i are children l =
    let a = get_or pairs i no_pair in
    elim (two (q.counts a.child)) [
      | inl c ↦
          let child = rw c at (all_at (λ (k : Pair). not (q.counts k.child) || is_child_table k.child.table) pairs i no_pair children l) in
          let here : (q.counts a.child && is_beside a a) ≡ true = rw (c, beside_itself a) refl in
          rw c (told_by q m pairs old a are child (list_any_at (λ (k : Pair). q.counts k.child && is_beside a k) pairs i no_pair l here))
      | inr c ↦ rw c refl
    ]

-- so the least that has one is named, once each is told by these
pub twins_told : (q : Asked) (keys : Token → ℕ) (m : Module) (pairs old : List Pair) (entries last : List Keyed) (o : Option ℕ) → ArePairs pairs → ((i : ℕ) → i < length pairs → in_all q (pairs ++ old) (get_or pairs i no_pair) ≡ has_twin q m (map pair_seen pairs) (pair_seen (get_or pairs i no_pair))) → AreSame (gathered q pairs old) entries → IsNonDecreasingBy (λ (e : Keyed). e.key) entries → AreSame (near_told q keys entries (length entries)) last → o ≡ least (map keyed_number (filter (is_new_twin q last) last)) → at_token o ≡ twin_fault q m (map pair_seen pairs)
unfolding twin_fault
twins_told q keys m pairs old entries last o rows told same sorted again is =
    ap at_token (is ∙ least_same (map keyed_number (filter (is_new_twin q last) last)) (map (λ (k : Pair). number_of k.child) (filter (in_all q (pairs ++ old)) pairs)) (λ n. numbers_same q keys pairs old entries last n rows same sorted again) ∙ ap least (filtered (in_all q (pairs ++ old)) (has_twin q m (map pair_seen pairs)) pairs told))

-- one of another key is no twin, and beyond it there is none
pub no_twin_above : (q : Asked) (keys : Token → ℕ) (entries : List Keyed) (k j l : ℕ) → AlikeHaveOneKey q keys → AreKeyed q (twin_key q keys) entries → IsNonDecreasingBy (λ (e : Keyed). e.key) entries → k < j → j ≤ l → l < length entries → ((keyed_at entries j).key == (keyed_at entries k).key) ≡ false → is_twin_of q (keyed_at entries k) (keyed_at entries l) ≡ false
no_twin_above q keys entries k j l one are sorted low mid high other = elim (two (is_twin_of q (keyed_at entries k) (keyed_at entries l))) [
  | inl twin ↦
      let short : k < length entries = omega arith in
      let first = keyed_known q (twin_key q keys) entries k are short in
      let second = keyed_known q (twin_key q keys) entries l are high in
      let same : (keyed_at entries k).key ≡ (keyed_at entries l).key = equal _ _ first.1 ∙ sym (equal _ _ second.1 ∙ twins_one q keys (keyed_at entries k).pair (keyed_at entries l).pair one first.0 twin) in
      let up = sorted k j no_keyed (omega arith) (omega arith) in
      let down = sorted j l no_keyed mid high in
      no_true ((keyed_at entries j).key == (keyed_at entries k).key) (equal_is _ _ (omega arith)) other
  | inr fails ↦ fails
]

pub no_twin_below : (q : Asked) (keys : Token → ℕ) (entries : List Keyed) (k j l : ℕ) → AlikeHaveOneKey q keys → AreKeyed q (twin_key q keys) entries → IsNonDecreasingBy (λ (e : Keyed). e.key) entries → j < k → l ≤ j → k < length entries → ((keyed_at entries j).key == (keyed_at entries k).key) ≡ false → is_twin_of q (keyed_at entries k) (keyed_at entries l) ≡ false
no_twin_below q keys entries k j l one are sorted low mid high other = elim (two (is_twin_of q (keyed_at entries k) (keyed_at entries l))) [
  | inl twin ↦
      let short : l < length entries = omega arith in
      let first = keyed_known q (twin_key q keys) entries k are high in
      let second = keyed_known q (twin_key q keys) entries l are short in
      let same : (keyed_at entries k).key ≡ (keyed_at entries l).key = equal _ _ first.1 ∙ sym (equal _ _ second.1 ∙ twins_one q keys (keyed_at entries k).pair (keyed_at entries l).pair one first.0 twin) in
      let up = sorted l j no_keyed mid (omega arith) in
      let down = sorted j k no_keyed (omega arith) high in
      no_true ((keyed_at entries j).key == (keyed_at entries k).key) (equal_is _ _ (omega arith)) other
  | inr fails ↦ fails
]

-- one more that is no twin
pub behind_more : (q : Asked) (entries : List Keyed) (k j : ℕ) → ((l : ℕ) → k < l → l < j → is_twin_of q (keyed_at entries k) (keyed_at entries l) ≡ false) → is_twin_of q (keyed_at entries k) (keyed_at entries j) ≡ false → (l : ℕ) → k < l → l < j + 1 → is_twin_of q (keyed_at entries k) (keyed_at entries l) ≡ false
behind_more q entries k j before here l low high = elim (cases_eq l j) [
  | inl same ↦ subst (λ n. is_twin_of q (keyed_at entries k) (keyed_at entries n) ≡ false) (sym same) here
  | inr other ↦ let below : l < j = elim (cases_lt l j) [ inl b ↦ b | inr b ↦ let same : l ≡ j = omega arith in absurd (other same) ] in before l low below
]

pub before_more : (q : Asked) (entries : List Keyed) (k j m : ℕ) → m ≡ j + 1 → ((l : ℕ) → m ≤ l → l < k → is_twin_of q (keyed_at entries k) (keyed_at entries l) ≡ false) → is_twin_of q (keyed_at entries k) (keyed_at entries j) ≡ false → (l : ℕ) → j ≤ l → l < k → is_twin_of q (keyed_at entries k) (keyed_at entries l) ≡ false
before_more q entries k j m next before here l low high = elim (cases_eq l j) [
  | inl same ↦ subst (λ n. is_twin_of q (keyed_at entries k) (keyed_at entries n) ≡ false) (sym same) here
  | inr other ↦ let above : m ≤ l = elim (cases_lt l m) [ inl b ↦ let same : l ≡ j = omega arith in absurd (other same) | inr b ↦ b ] in before l above high
]

-- no twin before a member, and none behind it
pub no_twin : (q : Asked) (entries : List Keyed) (k : ℕ) → ((l : ℕ) → k < l → l < length entries → is_twin_of q (keyed_at entries k) (keyed_at entries l) ≡ false) → ((l : ℕ) → l < k → is_twin_of q (keyed_at entries k) (keyed_at entries l) ≡ false) → has_twin_among q entries (keyed_at entries k) ≡ false
no_twin q entries k behind before = any_none (is_twin_of q (keyed_at entries k)) entries no_keyed each
  where
    each : (l : ℕ) → l < length entries → is_twin_of q (keyed_at entries k) (keyed_at entries l) ≡ false
    each l short = elim (cases_lt l k) [
      | inl low ↦ before l low
      | inr high ↦ elim (cases_eq l k) [
        | inl same ↦ subst (λ n. is_twin_of q (keyed_at entries k) (keyed_at entries n) ≡ false) (sym same) (not_itself q (keyed_at entries k).pair)
        | inr other ↦ let above : k < l = elim (cases_lt k l) [ inl b ↦ b | inr b ↦ let same : l ≡ k = omega arith in absurd (other same) ] in behind l above short
      ]
    ]

pub a_twin : (q : Asked) (entries : List Keyed) (k j : ℕ) → j < length entries → is_twin_of q (keyed_at entries k) (keyed_at entries j) ≡ true → has_twin_among q entries (keyed_at entries k) ≡ true
a_twin q entries k j l is = list_any_at (is_twin_of q (keyed_at entries k)) entries j no_keyed l is

pub by_both : (q : Asked) (entries : List Keyed) (k : ℕ) (before : Bool) → IsTwinBehind q entries k false → IsTwinBefore q entries k before → before ≡ has_twin_among q entries (keyed_at entries k)
by_both q entries k true behind h = sym h
by_both q entries k false behind h = sym (no_twin q entries k behind h)

pub near_none : (q : Asked) (keys : Token → ℕ) (entries : List Keyed) → near_told q keys entries 0 ≡ []
unfolding near_told
near_none q keys entries = refl

pub near_more : (q : Asked) (keys : Token → ℕ) (entries : List Keyed) (n : ℕ) → has_neighbour entries n ≡ true → near_told q keys entries (n + 1) ≡ near_told q keys entries n ++ keyed_by_signature q keys (keyed_at entries n) ∷ []
unfolding near_told
near_more q keys entries n near = let e : n + 1 ≡ suc n = omega arith in rw (e, near) refl

pub near_past : (q : Asked) (keys : Token → ℕ) (entries : List Keyed) (n : ℕ) → has_neighbour entries n ≡ false → near_told q keys entries (n + 1) ≡ near_told q keys entries n
unfolding near_told
near_past q keys entries n near = let e : n + 1 ≡ suc n = omega arith in rw (e, near) (append-nil _)

-- the least so far
pub keyed_more : (test : Keyed → Bool) (entries : List Keyed) (i : ℕ) → i < length entries → test (keyed_at entries i) ≡ true → least (map keyed_number (filter test (take (i + 1) entries))) ≡ lesser (number_of (keyed_at entries i).pair.child) (least (map keyed_number (filter test (take i entries))))
keyed_more test entries i l is = rw (filter_more test entries i no_keyed l, is, map-append) (least_more (map keyed_number (filter test (take i entries))) (number_of (keyed_at entries i).pair.child))

pub keyed_past : (test : Keyed → Bool) (entries : List Keyed) (i : ℕ) → i < length entries → test (keyed_at entries i) ≡ false → least (map keyed_number (filter test (take (i + 1) entries))) ≡ least (map keyed_number (filter test (take i entries)))
keyed_past test entries i l is = rw (filter_more test entries i no_keyed l, is, append-nil) refl
