-- No new member of the merged delta has a twin.
use Rattle.std.proofs.Common.{◌≡◌, ℕ, Bool, true, false, List, [], ◌∷◌, ◌++◌, refl, sym, ap, ◌∙◌, inl, inr, arith}
use Rattle.std.specs.Prelude.{◌&&◌, ◌==◌, not, bytes_eq}
use Rattle.std.specs.List.{list_any}
use Rattle.std.proofs.lemmas.Bool.{and_from, and_parts, or_cases, or_left, or_right}
use Rattle.std.proofs.lemmas.Bool.Decides.{nat_tests}
use Rattle.std.proofs.lemmas.List.Folds.{list_any-append}
use Rattle.enc_base.specs.declared.token.Token.{Token}
use Rattle.enc_schema.specs.Children.{is_child_table}
use Rattle.enc_rows.specs.Source.{Source}
use Rattle.enc_plain.specs.Apply.{Attached, gained}
use Rattle.enc_plain.specs.Chain.{Chain}
use Rattle.enc_plain.specs.Fits.{HasRuns}
use Rattle.enc_plain.specs.Module.{Module, cells_of, kids_of}
use Rattle.enc_plain.specs.Sound.{HasTables}
use Rattle.enc_delta.specs.Pairs.{attached_of}
use Rattle.enc_delta.specs.Rows.{rows_after}
use Rattle.enc_delta.specs.Changes.{asked_of, twin_member}
use Rattle.enc_delta.specs.Twins.{Asked, is_twin, has_twin, twin_fault}
use Rattle.enc_delta.proofs.Unbroken.{unbroken}
use Rattle.enc_agg.specs.Extend.{extended}
use Rattle.enc_agg.specs.Follows.{Follows}
use Rattle.enc_agg.proofs.Children.{kids_after}
use Rattle.enc_agg.proofs.Judged.{judged_members}
use Rattle.enc_reference_depth.proofs.Members.{twins_last, twins_are_mutual}
use Rattle.enc_merged_delta.specs.Laws.{KeepsMerged}
use Rattle.enc_merged_delta.specs.Merged.{MayMerge, SaysMerged, after_both}
use Rattle.enc_merged_delta.proofs.BothModules.{sound_first}
use Rattle.enc_merged_delta.proofs.Counts.{tables_after}
use Rattle.enc_merged_delta.proofs.KeptByBoth.{first_lasts, judged_all}
use Rattle.enc_merged_delta.proofs.MeansBoth.{kids_are}
use Rattle.enc_merged_delta.proofs.MembersSaid.{pair_of_either, child_there}
use Rattle.enc_merged_delta.proofs.PairsSplit.{Has, pair_owned, no_child, silent_children, among, gains, gained_by, kid_there}
use Rattle.enc_merged_delta.proofs.SameRows.{all_rows_are, lands}

-- what is asked of members by a module's rows
abbrev asked_in : Module → Asked
asked_in m = asked_of (cells_of m)

-- a member that counts has a twin in one of these rows
abbrev found : Asked → Token → List ℕ → Bool
found q t rows = q.counts t && list_any (λ row. is_twin q t (record { table = t.table; row = row })) rows

-- one of some numbers of which something holds
some_of : (p : ℕ → Bool) (rows : List ℕ) → list_any p rows ≡ true → (row : ℕ) × (p row ≡ true) × (among row rows ≡ true)
some_of p [] h = absurd cc
some_of p (x ∷ rows) h = elim (or_cases (p x) (list_any p rows) h) [
  | inl here ↦ (x, here, or_left (x == x) (among x rows) (grind (arith, nat_tests)))
  | inr behind ↦ let w = some_of p rows behind in (w.0, w.1, or_right (x == w.0) (among w.0 rows) w.2)
]

any_of : (p : ℕ → Bool) (rows : List ℕ) (row : ℕ) → p row ≡ true → among row rows ≡ true → list_any p rows ≡ true
any_of p [] row here h = absurd cc
any_of p (x ∷ rows) row here h = elim (or_cases (x == row) (among row rows) h) [
  | inl same ↦ let e : x ≡ row = grind (arith, nat_tests, same) in or_left (p x) (list_any p rows) (ap p e ∙ here)
  | inr behind ↦ or_right (p x) (list_any p rows) (any_of p rows row here behind)
]

-- a twin counts
twin_counts : (q : Asked) (t u : Token) → is_twin q t u ≡ true → q.counts u ≡ true
twin_counts q t u h =
    let three = and_parts (not (t.row == u.row) && q.counts u && bytes_eq (q.name t) (q.name u)) (q.alike t u) h in
    let two = and_parts (not (t.row == u.row) && q.counts u) (bytes_eq (q.name t) (q.name u)) three.0 in
    (and_parts (not (t.row == u.row)) (q.counts u) two.0).1

-- a delta that follows gives no member a twin among the children of its owner
none_after : (c : Chain) (s : Source) (x : Attached) → HasTables c.plain → HasRuns c.plain → Follows c s → Has (attached_of s) x
    → found (asked_in (extended c s).plain) x.child (kids_of (extended c s).plain x.owner x.child.table) ≡ false
unfolding twin_member twin_fault has_twin
none_after c s x has runs f h =
    let child = (pair_owned c s x f.lands h).child in
    ap (λ rows. found (asked_of rows) x.child (kids_of (extended c s).plain x.owner x.child.table)) (sym (judged_all c s has f.lands))
    ∙ ap (found (asked_of (rows_after c s)) x.child) (sym (judged_members c s x.owner x.child.table has runs f.lands child))
    ∙ no_child (has_twin (asked_of (rows_after c s)) c.plain (attached_of s)) (attached_of s) x (unbroken c s f.rules).twins h

not_both : (b : Bool) → b ≡ true → b ≡ false → ⊥
not_both b h k = let e : true ≡ false = sym h ∙ k in absurd cc

-- a child of the first and a twin of it among the children after both
record TwinOf (c : Chain) (a b : Source) (x : Attached) (row : ℕ) : Type 0 where
  pair : Has (attached_of a) x
  child : is_child_table x.child.table ≡ true
  counts : (asked_in (after_both c a b).plain).counts x.child ≡ true
  twin : is_twin (asked_in (after_both c a b).plain) x.child (record { table = x.child.table; row = row }) ≡ true

twin_back : (c : Chain) (a b : Source) (x : Attached) (row : ℕ) → TwinOf c a b x row → is_twin (asked_in (after_both c a b).plain) (record { table = x.child.table; row = row }) x.child ≡ true
twin_back c a b x row w = twins_are_mutual (cells_of (after_both c a b).plain) x.child (record { table = x.child.table; row = row }) refl w.counts w.twin

-- it wasn't there before the second, by the rule on the first
not_old : (c : Chain) (a b : Source) (x : Attached) (row : ℕ) → MayMerge c a b → TwinOf c a b x row → among row (kids_of (extended c a).plain x.owner x.child.table) ≡ true → ⊥
not_old c a b x row may w old =
    let m = (extended c a).plain in
    let u : Token = record { table = x.child.table; row = row } in
    let there = kid_there m x.owner u (sound_first c a b may).owners.owned w.child old in
    let own = child_there c a b x may w.pair in
    let twin = sym (twins_last m (after_both c a b).plain (first_lasts c a b may) x.child u own there refl w.child) ∙ w.twin in
    let back = sym (twins_last m (after_both c a b).plain (first_lasts c a b may) u x.child there own refl w.child) ∙ twin_back c a b x row w in
    let any = any_of (λ r. is_twin (asked_in m) x.child (record { table = x.child.table; row = r })) (kids_of m x.owner x.child.table) row twin old in
    not_both (found (asked_in m) x.child (kids_of m x.owner x.child.table))
    (and_from ((asked_in m).counts x.child) (list_any (λ r. is_twin (asked_in m) x.child (record { table = x.child.table; row = r })) (kids_of m x.owner x.child.table)) (twin_counts (asked_in m) u x.child back) any)
    (none_after c a x may.sound.owners.tables may.sound.owners.runs may.first w.pair)

-- nor did the second bring it, by the rule on the second
second_kids : (c : Chain) (a b : Source) (u : Token) (table : ℕ) → MayMerge c a b → is_child_table table ≡ true
    → kids_of (after_both c a b).plain u table ≡ kids_of (extended c a).plain u table ++ gained (attached_of b) u table
second_kids c a b u table may child = kids_after (extended c a) b (tables_after c a b may) may.second.lands (sound_first c a b may).owners.runs u table child

child_stays : (c : Chain) (a b : Source) (x : Attached) → MayMerge c a b → Has (attached_of a) x → is_child_table x.child.table ≡ true → among x.child.row (kids_of (after_both c a b).plain x.owner x.child.table) ≡ true
child_stays c a b x may h child =
    let table = x.child.table in
    let p = λ (k : ℕ). k == x.child.row in
    let before = kids_of c.plain x.owner table in
    let first : among x.child.row (kids_of (extended c a).plain x.owner table) ≡ true =
    ap (list_any p) (kids_after c a may.sound.owners.tables may.first.lands may.sound.owners.runs x.owner table child)
    ∙ list_any-append p before (gained (attached_of a) x.owner table)
    ∙ or_right (list_any p before) (list_any p (gained (attached_of a) x.owner table)) (gains (attached_of a) x h) in
    ap (list_any p) (second_kids c a b x.owner table may child)
    ∙ list_any-append p (kids_of (extended c a).plain x.owner table) (gained (attached_of b) x.owner table)
    ∙ or_left (list_any p (kids_of (extended c a).plain x.owner table)) (list_any p (gained (attached_of b) x.owner table)) first

not_new : (c : Chain) (a b : Source) (x : Attached) (row : ℕ) → MayMerge c a b → TwinOf c a b x row → among row (gained (attached_of b) x.owner x.child.table) ≡ true → ⊥
not_new c a b x row may w new =
    let m = (after_both c a b).plain in
    let u : Token = record { table = x.child.table; row = row } in
    let g = gained_by (attached_of b) x.owner u new in
    let none = none_after (extended c a) b g.pair (tables_after c a b may) (sound_first c a b may).owners.runs may.second g.there in
    let own : found (asked_in m) u (kids_of m x.owner u.table) ≡ false =
    ap (λ owner. found (asked_in m) u (kids_of m owner u.table)) (sym g.owner_is)
    ∙ ap (λ (t : Token). found (asked_in m) t (kids_of m g.pair.owner t.table)) (sym g.child_is) ∙ none in
    let any = any_of (λ r. is_twin (asked_in m) u (record { table = u.table; row = r })) (kids_of m x.owner u.table) x.child.row (twin_back c a b x row w) (child_stays c a b x may w.pair w.child) in
    not_both (found (asked_in m) u (kids_of m x.owner u.table))
    (and_from ((asked_in m).counts u) (list_any (λ r. is_twin (asked_in m) u (record { table = u.table; row = r })) (kids_of m x.owner u.table)) (twin_counts (asked_in m) x.child u w.twin) any) own

first_alone : (c : Chain) (a b : Source) (x : Attached) → MayMerge c a b → Has (attached_of a) x → found (asked_in (after_both c a b).plain) x.child (kids_of (after_both c a b).plain x.owner x.child.table) ≡ false
first_alone c a b x may h = by (found q x.child kids) refl
  where
    q : Asked
    q = asked_in (after_both c a b).plain

    kids : List ℕ
    kids = kids_of (after_both c a b).plain x.owner x.child.table

    child : is_child_table x.child.table ≡ true
    child = (pair_owned c a x may.first.lands h).child

    never : found q x.child kids ≡ true → ⊥
    never e =
        let both = and_parts (q.counts x.child) (list_any (λ row. is_twin q x.child (record { table = x.child.table; row = row })) kids) e in
        let s = some_of (λ row. is_twin q x.child (record { table = x.child.table; row = row })) kids both.1 in
        let w : TwinOf c a b x s.0 = record { pair = h; child = child; counts = both.0; twin = s.1 } in
        let p = λ (k : ℕ). k == s.0 in
        let split = sym (ap (list_any p) (second_kids c a b x.owner x.child.table may child)
        ∙ list_any-append p (kids_of (extended c a).plain x.owner x.child.table) (gained (attached_of b) x.owner x.child.table)) ∙ s.2 in
        elim (or_cases (list_any p (kids_of (extended c a).plain x.owner x.child.table)) (list_any p (gained (attached_of b) x.owner x.child.table)) split) [
          | inl old ↦ not_old c a b x s.0 may w old
          | inr new ↦ not_new c a b x s.0 may w new
        ]

    by : (t : Bool) → found q x.child kids ≡ t → found q x.child kids ≡ false
    by false e = e
    by true e = absurd (never e)

-- E20
merged_alone : (c : Chain) (a b s : Source) (x : Attached) → MayMerge c a b → SaysMerged c a b s → Has (attached_of s) x → has_twin (asked_of (rows_after c s)) c.plain (attached_of s) x ≡ false
unfolding has_twin
merged_alone c a b s x may says h =
    let f = lands c a b s may says in
    let child = (pair_owned c s x f h).child in
    let sound = may.sound.owners in
    ap (found (asked_of (rows_after c s)) x.child) (judged_members c s x.owner x.child.table sound.tables sound.runs f child ∙ kids_are c a b s x.owner x.child.table may says child)
    ∙ ap (λ rows. found (asked_of rows) x.child (kids_of (after_both c a b).plain x.owner x.child.table)) (all_rows_are c a b s may says)
    ∙ elim (pair_of_either c a b s x may says h) [
      | inl first ↦ first_alone c a b x may first
      | inr second ↦ none_after (extended c a) b x (tables_after c a b may) (sound_first c a b may).owners.runs may.second second
    ]

pub keeps_twins : KeepsMerged twin_member
unfolding twin_member twin_fault
keeps_twins c a b s may says = silent_children (has_twin (asked_of (rows_after c s)) c.plain (attached_of s)) (attached_of s) (λ x h. merged_alone c a b s x may says h)
