-- The merged delta makes the module that both deltas make.
use Rattle.std.proofs.Common.{◌≡◌, ℕ, zero, suc, ◌+◌, ◌<◌, Bool, true, false, List, [], ◌∷◌, ◌++◌, length, map, Option, Some, None, refl, sym, ap, ◌∙◌, inl, inr, arith, append_assoc}
use Rattle.std.specs.Prelude.{◌==◌, ◌&&◌, filter, option_map, slice_get, if◌then◌else◌}
use Rattle.std.proofs.lemmas.Bool.{cases_Bool}
use Rattle.std.proofs.lemmas.Bool.Decides.{nat_tests}
use Rattle.enc_base.specs.Token.{is_token, nth_row}
use Rattle.enc_base.specs.declared.token.Token.{Token}
use Rattle.enc_schema.specs.Children.{is_child_table, owner_table, run_index, runs_in}
use Rattle.enc_schema.specs.Schema.{list_at}
use Rattle.enc_plain.specs.Apply.{Attached, Change, apply, attach_all, attach, gained, put}
use Rattle.enc_plain.specs.Chain.{Chain}
use Rattle.enc_plain.specs.Fits.{HasRuns}
use Rattle.enc_plain.specs.Module.{Module, Row, rows_in, row_at, row_of, cells_of, kids_with, kids_of}
use Rattle.enc_rows.specs.Source.{Source}
use Rattle.enc_delta.specs.Pairs.{attached_of}
use Rattle.enc_agg.specs.Extend.{changes_of, extended}
use Rattle.enc_agg.proofs.Children.{kids_after}
use Rattle.enc_agg.proofs.Fitting.{has_runs, has_tables}
use Rattle.enc_agg.proofs.Judged.{judged_rows}
use Rattle.enc_merged_delta.specs.Laws.{MergedMeans}
use Rattle.enc_merged_delta.specs.Merged.{MayMerge, SaysMerged, after_both}
use Rattle.enc_merged_delta.proofs.BothModules.{sound_first, sound_both}
use Rattle.enc_merged_delta.proofs.Counts.{tables_after}
use Rattle.enc_merged_delta.proofs.LogPairs.{pairs_are}
use Rattle.enc_merged_delta.proofs.SameRows.{lands, rows_are, same_items}

-- resources and entry stay
resources_applied : (cs : List Change) (m : Module) → (apply m cs).resources ≡ m.resources
unfolding apply put
resources_applied [] m = refl
resources_applied (c ∷ cs) m = resources_applied cs (put m c)

resources_attached : (pairs : List Attached) (m : Module) → (attach_all m pairs).resources ≡ m.resources
unfolding attach_all attach
resources_attached [] m = refl
resources_attached (p ∷ pairs) m = resources_attached pairs (attach m p)

entry_applied : (cs : List Change) (m : Module) → (apply m cs).entry ≡ m.entry
unfolding apply put
entry_applied [] m = refl
entry_applied (c ∷ cs) m = entry_applied cs (put m c)

entry_attached : (pairs : List Attached) (m : Module) → (attach_all m pairs).entry ≡ m.entry
unfolding attach_all attach
entry_attached [] m = refl
entry_attached (p ∷ pairs) m = entry_attached pairs (attach m p)

resources_stay : (c : Chain) (s : Source) → (extended c s).plain.resources ≡ c.plain.resources
unfolding extended
resources_stay c s = resources_attached (attached_of s) (apply c.plain (changes_of c s)) ∙ resources_applied (changes_of c s) c.plain

entry_stays : (c : Chain) (s : Source) → (extended c s).plain.entry ≡ c.plain.entry
unfolding extended
entry_stays c s = entry_attached (attached_of s) (apply c.plain (changes_of c s)) ∙ entry_applied (changes_of c s) c.plain

-- the children that rows gain by both
gains_by : (p : Attached → Bool) (xs ys : List Attached) → map (λ (x : Attached). x.child.row) (filter p (xs ++ ys)) ≡ map (λ (x : Attached). x.child.row) (filter p xs) ++ map (λ (x : Attached). x.child.row) (filter p ys)
gains_by p [] ys = refl
gains_by p (x ∷ xs) ys = by (p x) (gains_by p xs ys)
  where
    by : (b : Bool) → map (λ (v : Attached). v.child.row) (filter p (xs ++ ys)) ≡ map (λ (v : Attached). v.child.row) (filter p xs) ++ map (λ (v : Attached). v.child.row) (filter p ys)
        → map (λ (v : Attached). v.child.row) (if b then x ∷ filter p (xs ++ ys) else filter p (xs ++ ys)) ≡ map (λ (v : Attached). v.child.row) (if b then x ∷ filter p xs else filter p xs) ++ map (λ (v : Attached). v.child.row) (filter p ys)
    by true rest = ap (λ ks. x.child.row ∷ ks) rest
    by false rest = rest

-- the children of a row are those that it has after both
pub kids_are : (c : Chain) (a b s : Source) (u : Token) (child : ℕ) → MayMerge c a b → SaysMerged c a b s → is_child_table child ≡ true → kids_of (extended c s).plain u child ≡ kids_of (after_both c a b).plain u child
kids_are c a b s u child may says there =
    let sound = may.sound.owners in
    let merged = kids_after c s sound.tables (lands c a b s may says) sound.runs u child there in
    let first = kids_after c a sound.tables may.first.lands sound.runs u child there in
    let second = kids_after (extended c a) b (tables_after c a b may) may.second.lands (sound_first c a b may).owners.runs u child there in
    let gains : gained (attached_of s) u child ≡ gained (attached_of a) u child ++ gained (attached_of b) u child =
    ap (λ pairs. gained pairs u child) (pairs_are c a b s may says) ∙ gains_by (λ (x : Attached). is_token x.owner u && x.child.table == child) (attached_of a) (attached_of b) in
    merged ∙ ap (λ ks. kids_of c.plain u child ++ ks) gains ∙ sym (append_assoc (kids_of c.plain u child) (gained (attached_of a) u child) (gained (attached_of b) u child))
    ∙ ap (λ ks. ks ++ gained (attached_of b) u child) (sym first) ∙ sym second

-- each run of a table is that of a child table
pub record RunOf (table i : ℕ) : Type 0 where
  pub child : ℕ
  pub there : is_child_table child ≡ true
  pub owner : owner_table child ≡ table
  pub place : run_index child ≡ i

run_of : (table i : ℕ) → i < length (runs_in table) → RunOf table i
run_of table i low = elim (cases_Bool (table == 0x02)) [
  | inl e ↦ let is : table ≡ 0x02 = grind (arith, nat_tests, e) in rw is (types i (rw e at low))
  | inr x ↦ elim (cases_Bool (table == 0x06)) [
    | inl e ↦ let is : table ≡ 0x06 = grind (arith, nat_tests, e) in rw is (methods i (rw (x, e) at low))
    | inr y ↦ elim (cases_Bool (table == 0x12)) [
      | inl e ↦ let is : table ≡ 0x12 = grind (arith, nat_tests, e) in rw is (events i (rw (x, y, e) at low))
      | inr z ↦ elim (cases_Bool (table == 0x15)) [
        | inl e ↦ let is : table ≡ 0x15 = grind (arith, nat_tests, e) in rw is (properties i (rw (x, y, z, e) at low))
        | inr w ↦ let none : i < 0 = rw (x, y, z, w) at low in absurd (omega (arith, none))
      ]
    ]
  ]
]
  where
    types : (k : ℕ) → k < 2 → RunOf 0x02 k
    types zero h = record { child = 0x04; there = refl; owner = refl; place = refl }
    types (suc zero) h = record { child = 0x06; there = refl; owner = refl; place = refl }
    types (suc (suc k)) h = absurd (omega (arith, h))

    methods : (k : ℕ) → k < 1 → RunOf 0x06 k
    methods zero h = record { child = 0x08; there = refl; owner = refl; place = refl }
    methods (suc k) h = absurd (omega (arith, h))

    events : (k : ℕ) → k < 1 → RunOf 0x12 k
    events zero h = record { child = 0x14; there = refl; owner = refl; place = refl }
    events (suc k) h = absurd (omega (arith, h))

    properties : (k : ℕ) → k < 1 → RunOf 0x15 k
    properties zero h = record { child = 0x17; there = refl; owner = refl; place = refl }
    properties (suc k) h = absurd (omega (arith, h))

-- the n-th row of a table
nth_is : (m : Module) (t n : ℕ) → row_of m (nth_row t n) ≡ slice_get (rows_in m t) n
unfolding row_of
nth_is m t n = let e : n + 1 ≡ suc n = omega arith in ap (row_at (rows_in m t)) e

kids_there : (m : Module) (t n i : ℕ) (r : Row) → slice_get (rows_in m t) n ≡ Some r → (run : RunOf t i) → kids_of m (nth_row t n) run.child ≡ list_at r.kids i
unfolding kids_of
kids_there m t n i r is run =
    let same : (t == owner_table run.child) ≡ true = (let e = run.owner in grind (arith, nat_tests, e)) in
    rw (run.there, same) (ap (λ (o : Option Row). kids_with o run.child) (nth_is m t n ∙ is) ∙ ap (list_at r.kids) run.place)

same_lists : (xs ys : List (List ℕ)) → length xs ≡ length ys → ((i : ℕ) → i < length xs → list_at xs i ≡ list_at ys i) → xs ≡ ys
same_lists [] [] long each = refl
same_lists [] (y ∷ ys) long each = absurd (omega (arith, long))
same_lists (x ∷ xs) [] long each = absurd (omega (arith, long))
same_lists (x ∷ xs) (y ∷ ys) long each =
    let first : x ≡ y = each 0 (omega arith) in
    let rest = same_lists xs ys (omega (arith, long)) (λ i low. each (suc i) (omega (arith, low))) in
    λ i. first i ∷ rest i

same_tables : (xs ys : List (List Row)) → length xs ≡ length ys → ((t : ℕ) → list_at xs t ≡ list_at ys t) → xs ≡ ys
same_tables [] [] long each = refl
same_tables [] (y ∷ ys) long each = absurd (omega (arith, long))
same_tables (x ∷ xs) [] long each = absurd (omega (arith, long))
same_tables (x ∷ xs) (y ∷ ys) long each =
    let first : x ≡ y = each 0 in
    let rest = same_tables xs ys (omega (arith, long)) (λ t. each (suc t)) in
    λ i. first i ∷ rest i

-- modules of which all rows have the same cells and the same children
pub record Alike (m q : Module) : Type 0 where
  pub tables : length m.tables ≡ length q.tables
  pub left : HasRuns m
  pub right : HasRuns q
  pub cells : (u : Token) → cells_of m u ≡ cells_of q u
  pub kids : (u : Token) (child : ℕ) → is_child_table child ≡ true → kids_of m u child ≡ kids_of q u child
  pub resources : m.resources ≡ q.resources
  pub entry : m.entry ≡ q.entry

same_kids : (m q : Module) → Alike m q → (t n : ℕ) (r w : Row) → slice_get (rows_in m t) n ≡ Some r → slice_get (rows_in q t) n ≡ Some w → r.kids ≡ w.kids
same_kids m q alike t n r w is other =
    let long = alike.left.each t n r is in
    same_lists r.kids w.kids (long ∙ sym (alike.right.each t n w other)) (λ i low.
    let run = run_of t i (omega (arith, long, low)) in
    sym (kids_there m t n i r is run) ∙ alike.kids (nth_row t n) run.child run.there ∙ kids_there q t n i w other run)

same_row : (m q : Module) → Alike m q → (t n : ℕ) (x y : Option Row) → slice_get (rows_in m t) n ≡ x → slice_get (rows_in q t) n ≡ y → option_map (λ (r : Row). r.cells) x ≡ option_map (λ (r : Row). r.cells) y → x ≡ y
same_row m q alike t n None None is other cells = refl
same_row m q alike t n None (Some r) is other cells = absurd cc
same_row m q alike t n (Some r) None is other cells = absurd cc
same_row m q alike t n (Some r) (Some w) is other cells =
    let own : r.cells ≡ w.cells = cc in
    let kids = same_kids m q alike t n r w is other in
    λ i. Some (record { cells = own i; kids = kids i })

same_module : (m q : Module) → Alike m q → m ≡ q
same_module m q alike =
    let row : (t n : ℕ) → slice_get (rows_in m t) n ≡ slice_get (rows_in q t) n =
    λ t n. same_row m q alike t n (slice_get (rows_in m t) n) (slice_get (rows_in q t) n) refl refl
    (ap (option_map (λ (r : Row). r.cells)) (sym (nth_is m t n)) ∙ alike.cells (nth_row t n) ∙ ap (option_map (λ (r : Row). r.cells)) (nth_is q t n)) in
    let tables = same_tables m.tables q.tables alike.tables (λ t. same_items (rows_in m t) (rows_in q t) (λ n. row t n)) in
    let resources = alike.resources in
    let entry = alike.entry in
    λ i. record { tables = tables i; resources = resources i; entry = entry i }

pub merged_means : MergedMeans
merged_means c a b s may says =
    let sound = may.sound.owners in
    let both = (sound_both c a b may).owners in
    let f = lands c a b s may says in
    same_module (extended c s).plain (after_both c a b).plain (record {
      tables = (has_tables c s sound.tables).all ∙ sym both.tables.all;
      left = has_runs c s sound.tables f sound.runs;
      right = both.runs;
      cells = λ u. sym (judged_rows c s u sound.tables f) ∙ rows_are c a b s u may says;
      kids = λ u child there. kids_are c a b s u child may says there;
      resources = resources_stay c s ∙ sym (resources_stay (extended c a) b ∙ resources_stay c a);
      entry = entry_stays c s ∙ sym (entry_stays (extended c a) b ∙ entry_stays c a);
    })
