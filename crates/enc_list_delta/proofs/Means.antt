-- A delta that says what a list states makes the module with all edits made directly.
use Rattle.std.proofs.Common.{◌≡◌, ℕ, zero, suc, ◌+◌, ◌<◌, true, List, [], ◌∷◌, length, map, Option, Some, None, refl, sym, ap, ◌∙◌, arith, subst}
use Rattle.std.specs.Prelude.{nat_lt, option_map, slice_get}
use Rattle.std.proofs.lemmas.Bool.Decides.{nat_tests}
use Rattle.enc_base.specs.Token.{nth_row}
use Rattle.enc_base.specs.declared.token.Token.{Token}
use Rattle.enc_schema.specs.Children.{runs_in}
use Rattle.enc_schema.specs.Schema.{list_at}
use Rattle.enc_plain.specs.Apply.{Change, put_row, put_at, change_at, put, apply, attach_all}
use Rattle.enc_plain.specs.Cell.{Cell}
use Rattle.enc_plain.specs.Chain.{Chain}
use Rattle.enc_plain.specs.Module.{Module, Row, rows_in, row_at, row_of, cells_of}
use Rattle.enc_plain.proofs.AttachedTo.{cells_attached}
use Rattle.enc_rows.specs.Source.{Source}
use Rattle.enc_delta.specs.Delta.{listed}
use Rattle.enc_delta.specs.Pairs.{attached_of}
use Rattle.enc_agg.specs.Extend.{changes_of, extended}
use Rattle.enc_agg.specs.Follows.{Lands}
use Rattle.enc_agg.proofs.Counting.{apply_tables}
use Rattle.enc_agg.proofs.Judged.{judged_rows}
use Rattle.enc_agg.proofs.Landing.{follows_chain}
use Rattle.enc_edit_list.specs.declared.edit.EditList.{EditList}
use Rattle.enc_rules.specs.Edited.{changes_behind, attached_in, edited}
use Rattle.enc_list_delta.specs.Holds.{MayFollow, SaysDelta}
use Rattle.enc_list_delta.specs.Laws.{DeltasMean}
use Rattle.enc_list_delta.proofs.CellsRead.{rows_are}
use Rattle.enc_list_delta.proofs.Follows.{all_by_place, deltas_follow}
use Rattle.enc_list_delta.proofs.LogRulesPairs.{attached_written}
use Rattle.enc_list_delta.proofs.Placed.{placed}
use Rattle.enc_list_delta.proofs.TokensAbout.{stands_after}
use Rattle.enc_list_delta.proofs.TokensUnbroken.{counts_fit}

-- the children of a row that is there, and else those of a new one
abbrev kids_or : ℕ → Option Row → List (List ℕ)
kids_or table None = map (λ (child : ℕ). []) (runs_in table)
kids_or table (Some r) = r.kids

-- cells that are put leave all children
put_leaves : (table : ℕ) (rows : List Row) (k : ℕ) (cells : List Cell) (n : ℕ) → kids_or table (slice_get (put_row table rows k cells) n) ≡ kids_or table (slice_get rows n)
put_leaves table [] zero cells zero = refl
put_leaves table [] zero cells (suc n) = refl
put_leaves table [] (suc k) cells n = refl
put_leaves table (r ∷ rows) zero cells zero = refl
put_leaves table (r ∷ rows) zero cells (suc n) = refl
put_leaves table (r ∷ rows) (suc k) cells zero = refl
put_leaves table (r ∷ rows) (suc k) cells (suc n) = put_leaves table rows k cells n

put_at_leaves : (table : ℕ) (rows : List Row) (row : ℕ) (cells : List Cell) (n : ℕ) → kids_or table (slice_get (put_at table rows row cells) n) ≡ kids_or table (slice_get rows n)
unfolding put_at
put_at_leaves table rows zero cells n = refl
put_at_leaves table rows (suc k) cells n = put_leaves table rows k cells n

changed_leaves : (own : ℕ) (tables : List (List Row)) (at t : ℕ) (f : List Row → List Row) (n : ℕ) → (at ≡ t → (rows : List Row) → kids_or own (slice_get (f rows) n) ≡ kids_or own (slice_get rows n))
    → kids_or own (slice_get (list_at (change_at tables at f) t) n) ≡ kids_or own (slice_get (list_at tables t) n)
changed_leaves own [] at t f n each = refl
changed_leaves own (x ∷ xs) zero zero f n each = each refl x
changed_leaves own (x ∷ xs) zero (suc t) f n each = refl
changed_leaves own (x ∷ xs) (suc at) zero f n each = refl
changed_leaves own (x ∷ xs) (suc at) (suc t) f n each = changed_leaves own xs at t f n (λ e rows. each (ap suc e) rows)

put_keeps : (m : Module) (c : Change) (t n : ℕ) → kids_or t (slice_get (rows_in (put m c) t) n) ≡ kids_or t (slice_get (rows_in m t) n)
unfolding put
put_keeps m c t n =
    changed_leaves t m.tables c.token.table t (λ rows. put_at c.token.table rows c.token.row c.cells) n
    (λ e rows. subst (λ own. kids_or own (slice_get (put_at c.token.table rows c.token.row c.cells) n) ≡ kids_or own (slice_get rows n)) e (put_at_leaves c.token.table rows c.token.row c.cells n))

kids_stay : (cs : List Change) (m : Module) (t n : ℕ) → kids_or t (slice_get (rows_in (apply m cs) t) n) ≡ kids_or t (slice_get (rows_in m t) n)
unfolding apply
kids_stay [] m t n = refl
kids_stay (c ∷ cs) m t n = kids_stay cs (put m c) t n ∙ put_keeps m c t n

-- and resources and entry
resources_stay : (cs : List Change) (m : Module) → (apply m cs).resources ≡ m.resources
unfolding apply put
resources_stay [] m = refl
resources_stay (c ∷ cs) m = resources_stay cs (put m c)

entry_stays : (cs : List Change) (m : Module) → (apply m cs).entry ≡ m.entry
unfolding apply put
entry_stays [] m = refl
entry_stays (c ∷ cs) m = entry_stays cs (put m c)

-- rows with the same cells and children are the same
same_row : (table : ℕ) (x y : Option Row) → option_map (λ (r : Row). r.cells) x ≡ option_map (λ (r : Row). r.cells) y → kids_or table x ≡ kids_or table y → x ≡ y
same_row table None None cells kids = refl
same_row table None (Some r) cells kids = absurd cc
same_row table (Some r) None cells kids = absurd cc
same_row table (Some r) (Some q) cells kids =
    let own : r.cells ≡ q.cells = cc in
    λ i. Some (record { cells = own i; kids = kids i })

-- lists with the same items are the same
same_items : {A : Type 0} (xs ys : List A) → ((n : ℕ) → slice_get xs n ≡ slice_get ys n) → xs ≡ ys
same_items [] [] each = refl
same_items [] (y ∷ ys) each = let e : None ≡ Some y = each 0 in absurd cc
same_items (x ∷ xs) [] each = let e : Some x ≡ None = each 0 in absurd cc
same_items (x ∷ xs) (y ∷ ys) each =
    let first : Some x ≡ Some y = each 0 in
    let is : x ≡ y = cc in
    let rest = same_items xs ys (λ n. each (suc n)) in
    λ i. is i ∷ rest i

same_tables : (xs ys : List (List Row)) → length xs ≡ length ys → ((t : ℕ) → list_at xs t ≡ list_at ys t) → xs ≡ ys
same_tables [] [] long each = refl
same_tables [] (y ∷ ys) long each = absurd (omega (arith, long))
same_tables (x ∷ xs) [] long each = absurd (omega (arith, long))
same_tables (x ∷ xs) (y ∷ ys) long each =
    let first : x ≡ y = each 0 in
    let rest = same_tables xs ys (omega (arith, long)) (λ t. each (suc t)) in
    λ i. first i ∷ rest i

-- the cells of the n-th row
nth_cells : (m : Module) (t n : ℕ) → cells_of m (nth_row t n) ≡ option_map (λ (r : Row). r.cells) (slice_get (rows_in m t) n)
unfolding row_of
nth_cells m t n = let e : n + 1 ≡ suc n = omega arith in ap (λ k. option_map (λ (r : Row). r.cells) (row_at (rows_in m t) k)) e

-- changes after which all cells are the same make the same module
pub same_applied : (m : Module) (xs ys : List Change) → ((u : Token) → cells_of (apply m xs) u ≡ cells_of (apply m ys) u) → apply m xs ≡ apply m ys
same_applied m xs ys cells =
    let row : (t n : ℕ) → slice_get (rows_in (apply m xs) t) n ≡ slice_get (rows_in (apply m ys) t) n =
    λ t n. same_row t (slice_get (rows_in (apply m xs) t) n) (slice_get (rows_in (apply m ys) t) n)
    (sym (nth_cells (apply m xs) t n) ∙ cells (nth_row t n) ∙ nth_cells (apply m ys) t n) (kids_stay xs m t n ∙ sym (kids_stay ys m t n)) in
    let tables = same_tables (apply m xs).tables (apply m ys).tables (apply_tables xs m ∙ sym (apply_tables ys m)) (λ t. same_items (rows_in (apply m xs) t) (rows_in (apply m ys) t) (λ n. row t n)) in
    let resources = resources_stay xs m ∙ sym (resources_stay ys m) in
    let entry = entry_stays xs m ∙ sym (entry_stays ys m) in
    λ i. record { tables = tables i; resources = resources i; entry = entry i }

-- the delta lands in the module
lands : (c : Chain) (l : EditList) (s : Source) → MayFollow c l → SaysDelta c l s → Lands c s
lands c l s may says =
    let all = placed c l s may says in
    let table : (k : ℕ) (u : Token) → slice_get (listed s) k ≡ Some u → nat_lt u.table 0x100 ≡ true =
    λ k u h. let w = stands_after c l u all.none (all.listed_ k u h) in let low : u.table < 0x100 = omega (arith, w.small) in grind (arith, nat_tests, low) in
    let row : (k : ℕ) (u : Token) → slice_get (listed s) k ≡ Some u → nat_lt u.row 0x1000000 ≡ true =
    λ k u h. let w = stands_after c l u all.none (all.listed_ k u h) in let few = counts_fit c l may u.table in let low : u.row < 0x1000000 = omega (arith, w.high, few) in grind (arith, nat_tests, low) in
    (follows_chain c s (deltas_follow c l s may says) (all_by_place _ (listed s) table) (all_by_place _ (listed s) row)).lands

pub deltas_mean : DeltasMean
unfolding extended edited
deltas_mean c l s may says =
    let after = changes_of c s in
    let direct = changes_behind c.plain [] l.edits in
    let cells : (u : Token) → cells_of (apply c.plain after) u ≡ cells_of (apply c.plain direct) u =
    λ u. sym (cells_attached (attached_of s) (apply c.plain after) u)
    ∙ sym (judged_rows c s u may.sound.owners.tables (lands c l s may says))
    ∙ ap (λ rows. rows u) (rows_are c l s may (placed c l s may says) says)
    ∙ cells_attached (attached_in c.plain l.edits) (apply c.plain direct) u in
    ap (λ m. attach_all m (attached_of s)) (same_applied c.plain after direct cells)
    ∙ ap (attach_all (apply c.plain direct)) (attached_written c l s may says)
