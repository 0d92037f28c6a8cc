-- The children and the owners of a module after a delta.
use Rattle.std.proofs.Common.{◌≡◌, ℕ, zero, suc, ◌+◌, ◌-◌, ◌<◌, ◌≤◌, Bool, true, false, List, [], ◌∷◌, ◌++◌, length, map, Option, Some, None, refl, sym, ap, ◌∙◌, inl, inr, cond, arith}
use Rattle.std.specs.Prelude.{◌==◌, ◌&&◌, ◌||◌, filter, count_by, slice_get, nat_le}
use Rattle.std.specs.List.{list_any}
use Rattle.std.proofs.lemmas.Bool.{cases_eq, cases_lt}
use Rattle.std.proofs.lemmas.Bool.Decides.{nat_tests}
use Rattle.enc_base.specs.declared.token.Token.{Token}
use Rattle.enc_base.specs.Token.{is_token}
use Rattle.enc_base.specs.Order.{or_else}
use Rattle.enc_schema.specs.Children.{is_child_table}
use Rattle.enc_schema.proofs.ChildTables.{by_child}
use Rattle.enc_rows.specs.Source.{Source}
use Rattle.enc_plain.specs.Module.{rows_in, kids_of, owner_of}
use Rattle.enc_plain.specs.Apply.{apply, Attached, gained}
use Rattle.enc_plain.specs.Fits.{AllAttach, HasRuns}
use Rattle.enc_plain.specs.Chain.{Chain, rows_before}
use Rattle.enc_plain.proofs.Applied.{kids_applied, runs_applied}
use Rattle.enc_plain.proofs.AttachedTo.{attached_all}
use Rattle.enc_delta.specs.declared.log_entry.LogEntry.{LogEntry}
use Rattle.enc_delta.specs.Delta.{listed, log_in}
use Rattle.enc_delta.specs.Rules.{counted, inserts, rows_with, child_table, adds, children, child_fault_in, child_fault}
use Rattle.enc_delta.proofs.ListsChildren.{hits, log_named, one_unnamed}
use Rattle.enc_agg.specs.Extend.{changes_of, extended}
use Rattle.enc_delta.specs.Pairs.{attached_of, pairs_in}
use Rattle.enc_agg.specs.Follows.{Lands}
use Rattle.enc_plain.specs.Sound.{HasTables}
use Rattle.enc_plain.specs.Sound.{all_kids, IsOwned}
use Rattle.enc_delta.proofs.Unbroken.{landed}
use Rattle.enc_agg.proofs.Counting.{apply_tables}
use Rattle.enc_agg.proofs.Fitting.{fits, put_all, count_is}
use Rattle.enc_agg.proofs.Changed.{log_names}
use Rattle.enc_agg.proofs.Pairs.{pair_children, OwnedBy, AllOwned, log_owned, all_attach}
use Rattle.enc_plain.proofs.Owned.{count_cons, kid_owner, has_owner}
use Rattle.enc_agg.proofs.Owned.{count_same, count_map, all_applied, attached_count}

rows_told : (c : Chain) (s : Source) → HasTables c.plain → Lands c s → (t : ℕ) → length (rows_in (apply c.plain (changes_of c s)) t) ≡ rows_with c (listed s) t
unfolding rows_with
rows_told c s has f t = (put_all c s has f).rows t

-- each Add entry's owner is a row after the delta, and its child is a new one
pub pairs_owned : (c : Chain) (s : Source) → Lands c s → AllOwned (rows_with c (listed s)) (rows_before c) (attached_of s)
unfolding attached_of
pairs_owned c s f = log_owned c (listed s) (log_in s) (landed c s f.early).log (log_names c s f)

-- so the children can be attached
pub pairs_fit : (c : Chain) (s : Source) → HasTables c.plain → Lands c s → AllAttach (apply c.plain (changes_of c s)) (attached_of s)
pairs_fit c s has f = all_attach (rows_with c (listed s)) (rows_before c) (attached_of s) (apply c.plain (changes_of c s)) (rows_told c s has f) (apply_tables (changes_of c s) c.plain ∙ has.all) (pairs_owned c s f)

-- the children of a row are those that it had, and behind them those that it gained
pub kids_after : (c : Chain) (s : Source) → HasTables c.plain → Lands c s → HasRuns c.plain → (u : Token) (child : ℕ) → is_child_table child ≡ true → kids_of (extended c s).plain u child ≡ kids_of c.plain u child ++ gained (attached_of s) u child
unfolding extended
kids_after c s has f runs u child there =
    let fit = fits c s has f in
    attached_all (attached_of s) (apply c.plain (changes_of c s)) (pairs_fit c s has f) (runs_applied (changes_of c s) c.plain fit runs) u child there ∙ ap (λ xs. xs ++ gained (attached_of s) u child) (kids_applied (changes_of c s) c.plain u child fit)

-- the pair's child is this row
abbrev pub attaches_row : ℕ → ℕ → Attached → Bool
attaches_row table row a = (a.child.table == table) && (a.child.row == row)

no_row : (count before : ℕ → ℕ) (a : Attached) (table row : ℕ) → OwnedBy count before a → (before table < row → row ≤ count table → ⊥) → attaches_row table row a ≡ false
no_row count before a table row h out =
    elim (cases_eq a.child.table table) [
      | inl e ↦ elim (cases_eq a.child.row row) [
        | inl d ↦ absurd (out (rw (e, d) at h.new) (rw (e, d) at h.last))
        | inr d ↦ let n : (a.child.row == row) ≡ false = grind (arith, nat_tests) in rw n (by_false (a.child.table == table))
      ]
      | inr d ↦ let n : (a.child.table == table) ≡ false = grind (arith, nat_tests) in rw n refl
    ]
  where
    by_false : (b : Bool) → (b && false) ≡ false
    by_false true = refl
    by_false false = refl

none_attached : (count before : ℕ → ℕ) (pairs : List Attached) (table row : ℕ) → AllOwned count before pairs → (before table < row → row ≤ count table → ⊥) → count_by (attaches_row table row) pairs ≡ 0
none_attached count before [] table row h out = refl
none_attached count before (a ∷ pairs) table row h out = count_cons (attaches_row table row) a pairs ∙ rw (no_row count before a table row h.0 out, none_attached count before pairs table row h.1 out) refl

turned : (a b : ℕ) → (a == b) ≡ (b == a)
turned a b = elim (cases_eq a b) [ inl e ↦ rw e refl | inr d ↦ let n : (a == b) ≡ false = grind (arith, nat_tests) in let m : (b == a) ≡ false = grind (arith, nat_tests) in n ∙ sym m ]

turned_both : (a b d e : ℕ) → ((a == b) && (d == e)) ≡ ((b == a) && (e == d))
turned_both a b d e = ap (λ x. x && (d == e)) (turned a b) ∙ ap (λ x. (b == a) && x) (turned d e)

pair_count : (s : Source) (table row : ℕ) → count_by (attaches_row table row) (attached_of s) ≡ count_by (is_token (record { table = table; row = row })) (children (counted (log_in s)))
unfolding attached_of
pair_count s table row =
    let u : Token = record { table = table; row = row } in
    count_same (attaches_row table row) (λ (a : Attached). is_token u a.child) (pairs_in (counted (log_in s))) (λ (a : Attached). turned_both a.child.table table a.child.row row) ∙ sym (count_map (is_token u) (λ (a : Attached). a.child) (pairs_in (counted (log_in s)))) ∙ ap (count_by (is_token u)) (pair_children (counted (log_in s)))

code_for : (t : ℕ) → is_child_table t ≡ true → (code : ℕ) × (1 ≤ code) × (code ≤ 5) × (child_table code ≡ t)
code_for t there = by_child (λ k. (code : ℕ) × (1 ≤ code) × (code ≤ 5) × (child_table code ≡ k)) (2, omega arith, omega arith, refl) (1, omega arith, omega arith, refl) (3, omega arith, omega arith, refl) (5, omega arith, omega arith, refl) (4, omega arith, omega arith, refl) t there

or_none : {A : Type 0} (a b : Option A) → or_else a b ≡ None → (a ≡ None) × (b ≡ None)
or_none None b h = (refl, h)
or_none (Some x) b h = absurd cc

all_named : (c : Chain) (tokens : List Token) (log : List LogEntry) → child_fault c tokens log ≡ None → (t : ℕ) → is_child_table t ≡ true → child_fault_in c tokens log t ≡ None
unfolding child_fault
all_named c tokens log h t there =
    let a = or_none (child_fault_in c tokens log 0x04) _ h in
    let b = or_none (child_fault_in c tokens log 0x06) _ a.1 in
    let d = or_none (child_fault_in c tokens log 0x08) _ b.1 in
    let e = or_none (child_fault_in c tokens log 0x14) _ d.1 in
    by_child (λ k. child_fault_in c tokens log k ≡ None) a.0 b.0 d.0 e.0 e.1 t there

some_none : {A : Type 0} (x : A) (o : Option A) → Some x ≡ o → o ≡ None → ⊥
some_none x o e h = let f = e ∙ h in absurd cc

-- a child table has no more inserts than Add entries
enough : (c : Chain) (s : Source) (code : ℕ) → Lands c s → 1 ≤ code → code ≤ 5 → is_child_table (child_table code) ≡ true → inserts c (listed s) (child_table code) ≤ adds (log_in s) code
enough c s code f l h there =
    let u = landed c s f.early in
    elim (cases_lt (adds (log_in s) code) (inserts c (listed s) (child_table code))) [
      | inl less ↦ absurd (some_none _ _ (one_unnamed c (listed s) (log_in s) code u.log l h less) (all_named c (listed s) (log_in s) u.children (child_table code) there))
      | inr le ↦ le
    ]

one_hit : (n r : ℕ) → r < n → hits 0 n r ≡ 1
one_hit n r h = grind (arith, nat_tests)

once_code : (c : Chain) (s : Source) (code r : ℕ) → Lands c s → 1 ≤ code → code ≤ 5 → is_child_table (child_table code) ≡ true → r < inserts c (listed s) (child_table code) → count_by (attaches_row (child_table code) (rows_before c (child_table code) + r + 1)) (attached_of s) ≡ 1
once_code c s code r f l h there less =
    let le = enough c s code f l h there in
    pair_count s (child_table code) (rows_before c (child_table code) + r + 1) ∙ log_named c (listed s) (log_in s) (landed c s f.early).log code r l h ∙ one_hit (adds (log_in s) code) r (omega arith)

-- a new row of a child table is the child of just one pair
pub attached_once : (c : Chain) (s : Source) (t r : ℕ) → Lands c s → is_child_table t ≡ true → r < inserts c (listed s) t → count_by (attaches_row t (rows_before c t + r + 1)) (attached_of s) ≡ 1
attached_once c s t r f there less =
    let code = code_for t there in
    rw (← code.3) (once_code c s code.0 r f code.1 code.2 (ap is_child_table code.3 ∙ there) (rw code.3 less))

pub once_at : (c : Chain) (s : Source) (t row : ℕ) → Lands c s → is_child_table t ≡ true → rows_before c t < row → row ≤ rows_before c t + inserts c (listed s) t → count_by (attaches_row t row) (attached_of s) ≡ 1
once_at c s t row f there low high =
    let e : rows_before c t + (row - rows_before c t - 1) + 1 ≡ row = omega arith in
    ap (λ n. count_by (attaches_row t n) (attached_of s)) (sym e) ∙ attached_once c s t (row - rows_before c t - 1) f there (omega arith)

never_at : (c : Chain) (s : Source) (t row : ℕ) → Lands c s → (rows_before c t < row → row ≤ rows_before c t + inserts c (listed s) t → ⊥) → count_by (attaches_row t row) (attached_of s) ≡ 0
unfolding rows_with
never_at c s t row f out = none_attached (rows_with c (listed s)) (rows_before c) (attached_of s) t row (pairs_owned c s f) out

total : (row n more x y : ℕ) → x ≡ cond (nat_le 1 row && nat_le row n) 1 0 → (row ≤ n → y ≡ 0) → (n + more < row → y ≡ 0) → (n < row → row ≤ n + more → y ≡ 1) → x + y ≡ cond (nat_le 1 row && nat_le row (n + more)) 1 0
total zero n more x y e old past new = let z = old (omega arith) in rw (e, z) refl
total (suc r) n more x y e old past new =
    elim (cases_lt n (suc r)) [
      | inr le ↦
          let z = old le in
          let a : nat_le (suc r) n ≡ true = grind (arith, nat_tests) in
          let b : nat_le (suc r) (n + more) ≡ true = grind (arith, nat_tests) in
          let d : nat_le 1 (suc r) ≡ true = grind (arith, nat_tests) in
          rw (e, z, a, b, d) refl
      | inl less ↦ elim (cases_lt (n + more) (suc r)) [
        | inl far ↦
            let z = past far in
            let a : nat_le (suc r) n ≡ false = grind (arith, nat_tests) in
            let b : nat_le (suc r) (n + more) ≡ false = grind (arith, nat_tests) in
            let d : nat_le 1 (suc r) ≡ true = grind (arith, nat_tests) in
            rw (e, z, a, b, d) refl
        | inr near ↦
            let z = new less near in
            let a : nat_le (suc r) n ≡ false = grind (arith, nat_tests) in
            let b : nat_le (suc r) (n + more) ≡ true = grind (arith, nat_tests) in
            let d : nat_le 1 (suc r) ≡ true = grind (arith, nat_tests) in
            rw (e, z, a, b, d) refl
      ]
    ]

all_after : (c : Chain) (s : Source) → HasTables c.plain → Lands c s → HasRuns c.plain → (t row : ℕ) → is_child_table t ≡ true → count_by (λ k. k == row) (all_kids (extended c s).plain t) ≡ count_by (λ k. k == row) (all_kids c.plain t) + count_by (attaches_row t row) (attached_of s)
unfolding extended
all_after c s has f runs t row there =
    let fit = fits c s has f in
    attached_count (attached_of s) (apply c.plain (changes_of c s)) (λ k. k == row) t (pairs_fit c s has f) (runs_applied (changes_of c s) c.plain fit runs) there ∙ ap (λ xs. count_by (λ k. k == row) xs + count_by (attaches_row t row) (attached_of s)) (all_applied (changes_of c s) c.plain t fit)

pub rows_after : (c : Chain) (s : Source) → HasTables c.plain → Lands c s → (t : ℕ) → length (rows_in (extended c s).plain t) ≡ rows_before c t + inserts c (listed s) t
unfolding rows_with
rows_after c s has f t = count_is c s has f t

-- no table has fewer rows after a delta
pub rows_grow : (c : Chain) (s : Source) → HasTables c.plain → Lands c s → (t : ℕ) → length (rows_in c.plain t) ≤ length (rows_in (extended c s).plain t)
rows_grow c s has f t = omega (arith, rows_after c s has f t)

once_after : (c : Chain) (s : Source) → HasTables c.plain → Lands c s → HasRuns c.plain → IsOwned c.plain → (t row : ℕ) → is_child_table t ≡ true → count_by (λ k. k == row) (all_kids (extended c s).plain t) ≡ cond (nat_le 1 row && nat_le row (length (rows_in (extended c s).plain t))) 1 0
once_after c s has f runs owned t row there =
    all_after c s has f runs t row there ∙ total row (rows_before c t) (inserts c (listed s) t) _ (count_by (attaches_row t row) (attached_of s)) (owned.once t row there) (λ le. never_at c s t row f (λ low high. omega arith)) (λ far. never_at c s t row f (λ low high. omega arith)) (λ low high. once_at c s t row f there low high) ∙ ap (λ n. cond (nat_le 1 row && nat_le row n) 1 0) (sym (rows_after c s has f t))

-- after a delta, too, each child row has just one owner
pub owned_after : (c : Chain) (s : Source) → HasTables c.plain → Lands c s → HasRuns c.plain → IsOwned c.plain → IsOwned (extended c s).plain
owned_after c s has f runs owned = record { once = once_after c s has f runs owned }

any_left : (p : ℕ → Bool) (xs ys : List ℕ) → list_any p xs ≡ true → list_any p (xs ++ ys) ≡ true
any_left p [] ys h = absurd cc
any_left p (x ∷ xs) ys h = left_step (p x) (list_any p xs) (list_any p (xs ++ ys)) h (any_left p xs ys)
  where
    left_step : (b rest more : Bool) → (b || rest) ≡ true → (rest ≡ true → more ≡ true) → (b || more) ≡ true
    left_step true rest more h f = refl
    left_step false rest more h f = f h

any_right : (p : ℕ → Bool) (xs ys : List ℕ) → list_any p ys ≡ true → list_any p (xs ++ ys) ≡ true
any_right p [] ys h = h
any_right p (x ∷ xs) ys h = or_true (p x) (list_any p (xs ++ ys)) (any_right p xs ys h)
  where
    or_true : (b rest : Bool) → rest ≡ true → (b || rest) ≡ true
    or_true true rest h = refl
    or_true false rest h = h

-- a row of before has the owner that it had
pub owner_kept : (c : Chain) (s : Source) → HasTables c.plain → Lands c s → HasRuns c.plain → IsOwned c.plain → (u : Token) → is_child_table u.table ≡ true → 1 ≤ u.row → u.row ≤ rows_before c u.table → owner_of (extended c s).plain u ≡ owner_of c.plain u
owner_kept c s has f runs owned u there low high =
    let w = has_owner c.plain u owned there low high in
    let kids : list_any (λ k. k == u.row) (kids_of (extended c s).plain w.owner u.table) ≡ true = rw (kids_after c s has f runs w.owner u.table there) (any_left (λ k. k == u.row) (kids_of c.plain w.owner u.table) (gained (attached_of s) w.owner u.table) w.has) in
    kid_owner (extended c s).plain w.owner u (owned_after c s has f runs owned) there kids ∙ sym w.is

gained_step : (b : Bool) (a : Attached) (pairs : List Attached) (p : ℕ → Bool) → list_any p (map (λ (x : Attached). x.child.row) pairs) ≡ true → list_any p (map (λ (x : Attached). x.child.row) (cond b (a ∷ pairs) pairs)) ≡ true
gained_step true a pairs p h = or_true (p a.child.row) _ h
  where
    or_true : (b rest : Bool) → rest ≡ true → (b || rest) ≡ true
    or_true true rest h = refl
    or_true false rest h = h
gained_step false a pairs p h = h

gained_has : (pairs : List Attached) (i : ℕ) (a : Attached) (u : Token) (t row : ℕ) → (is_token a.owner u && a.child.table == t) ≡ true → (a.child.row == row) ≡ true → slice_get pairs i ≡ Some a → list_any (λ k. k == row) (gained pairs u t) ≡ true
gained_has [] i a u t row mine same e = absurd cc
gained_has (b ∷ pairs) zero a u t row mine same e =
    let is : b ≡ a = cc in
    rw (is, mine, same) refl
gained_has (b ∷ pairs) (suc i) a u t row mine same e = gained_step (is_token b.owner u && b.child.table == t) b (filter (λ (x : Attached). is_token x.owner u && x.child.table == t) pairs) (λ k. k == row) (gained_has pairs i a u t row mine same e)

own_pair : (a : Attached) → (is_token a.owner a.owner && a.child.table == a.child.table) ≡ true
own_pair a =
    let e : (a.owner.table == a.owner.table) ≡ true = grind (arith, nat_tests) in
    let r : (a.owner.row == a.owner.row) ≡ true = grind (arith, nat_tests) in
    let k : (a.child.table == a.child.table) ≡ true = grind (arith, nat_tests) in
    rw (e, r, k) refl

-- a pair of a delta's log, by its place
pub owned_at : (count before : ℕ → ℕ) (pairs : List Attached) (i : ℕ) (a : Attached) → AllOwned count before pairs → slice_get pairs i ≡ Some a → OwnedBy count before a
owned_at count before [] i a h e = absurd cc
owned_at count before (b ∷ pairs) zero a h e = let is : b ≡ a = cc in rw is at h.0
owned_at count before (b ∷ pairs) (suc i) a h e = owned_at count before pairs i a h.1 e

-- a new row's owner is that of the pair whose child it is
pub owner_new : (c : Chain) (s : Source) → HasTables c.plain → Lands c s → HasRuns c.plain → IsOwned c.plain → (i : ℕ) (a : Attached) → slice_get (attached_of s) i ≡ Some a → owner_of (extended c s).plain a.child ≡ Some a.owner
owner_new c s has f runs owned i a at =
    let there = (owned_at (rows_with c (listed s)) (rows_before c) (attached_of s) i a (pairs_owned c s f) at).child in
    let row : (a.child.row == a.child.row) ≡ true = grind (arith, nat_tests) in
    let kids : list_any (λ k. k == a.child.row) (kids_of (extended c s).plain a.owner a.child.table) ≡ true = rw (kids_after c s has f runs a.owner a.child.table there) (any_right (λ k. k == a.child.row) (kids_of c.plain a.owner a.child.table) (gained (attached_of s) a.owner a.child.table) (gained_has (attached_of s) i a a.owner a.child.table a.child.row (own_pair a) row at)) in
    kid_owner (extended c s).plain a.owner a.child (owned_after c s has f runs owned) there kids

-- a child table has as many Add entries as inserts
pub adds_are : (c : Chain) (s : Source) (code : ℕ) → Lands c s → 1 ≤ code → code ≤ 5 → is_child_table (child_table code) ≡ true → adds (log_in s) code ≡ inserts c (listed s) (child_table code)
adds_are c s code f l h there =
    let t = child_table code in
    let more = inserts c (listed s) t in
    let le = enough c s code f l h there in
    elim (cases_lt more (adds (log_in s) code)) [
      | inl less ↦
          let once = pair_count s t (rows_before c t + more + 1) ∙ log_named c (listed s) (log_in s) (landed c s f.early).log code more l h ∙ one_hit (adds (log_in s) code) more less in
          let never = never_at c s t (rows_before c t + more + 1) f (λ low high. omega arith) in
          absurd (omega (arith, once, never))
      | inr same ↦ omega arith
    ]
