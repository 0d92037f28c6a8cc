-- Where a log breaks no rule, the children of its Add entries can be attached: each pair has an owner that is a row after the delta, and a child that is a new one.
use Rattle.std.proofs.Common.{◌≡◌, ℕ, zero, suc, ◌+◌, ◌<◌, ◌≤◌, Bool, true, false, List, [], ◌∷◌, ◌++◌, length, Option, Some, None, refl, sym, ap, ◌∙◌, inl, inr, map, arith}
use Rattle.std.specs.Prelude.{if◌then◌else◌, nat_le, ◌==◌, ◌&&◌, find}
use Rattle.std.proofs.lemmas.Bool.Decides.{nat_tests}
use Rattle.enc_base.specs.declared.token.Token.{Token}
use Rattle.enc_schema.specs.Children.{is_child_table, owner_table}
use Rattle.enc_schema.proofs.ChildTables.{by_child}
use Rattle.enc_plain.specs.Module.{Module, rows_in, has_row}
use Rattle.enc_plain.specs.Apply.{Attached, attach, attach_all}
use Rattle.enc_plain.specs.Fits.{Attaches, AllAttach}
use Rattle.enc_plain.specs.Chain.{Chain, rows_before}
use Rattle.enc_plain.proofs.AttachedTo.{count_attached}
use Rattle.enc_delta.specs.declared.log_entry.LogEntry.{LogEntry}
use Rattle.enc_delta.specs.Rules.{counts, counted, adds, is_add, rows_with, has_parent, follows, parent_table, child_table, log_fault, children}
use Rattle.enc_delta.proofs.ListsChildren.{two, first_of, counted_first, counted_yes, counted_no, Judged, log_judged, equal, add_low, add_high}
use Rattle.enc_delta.specs.Pairs.{pairs_in}
use Rattle.enc_agg.proofs.Fitting.{attach_tables}
use Rattle.enc_agg.proofs.Changed.{Names, found_named}

-- the pair of an entry, by the next entry that counts
abbrev pub pair_of : LogEntry → Option LogEntry → List Attached
pair_of e None = []
pair_of e (Some f) = if is_add e.operation then record { owner = e.token; child = f.token } ∷ [] else []

pairs_cons : (e : LogEntry) (ys : List LogEntry) → pairs_in (e ∷ ys) ≡ pair_of e (first_of ys) ++ pairs_in ys
pairs_cons e [] = refl
pairs_cons e (f ∷ ys) = elim (two (is_add e.operation)) [ inl a ↦ rw a refl | inr a ↦ rw a refl ]

-- the pairs of one entry more
pub pairs_yes : (e : LogEntry) (es : List LogEntry) → counts e ≡ true → pairs_in (counted (e ∷ es)) ≡ pair_of e (find counts es) ++ pairs_in (counted es)
pairs_yes e es h = ap pairs_in (counted_yes e es h) ∙ pairs_cons e (counted es) ∙ ap (λ o. pair_of e o ++ pairs_in (counted es)) (counted_first es)

child_step : (b : Bool) (a : Attached) (t : Token) (pairs : List Attached) (ts : List Token) → a.child ≡ t → map (λ (p : Attached). p.child) pairs ≡ ts → map (λ (p : Attached). p.child) (if b then a ∷ pairs else pairs) ≡ (if b then t ∷ ts else ts)
child_step true a t pairs ts h e = rw (h, e) refl
child_step false a t pairs ts h e = e

-- the children of the pairs are those of the Add entries
pub pair_children : (es : List LogEntry) → map (λ (p : Attached). p.child) (pairs_in es) ≡ children es
pair_children [] = refl
pair_children (e ∷ []) = refl
pair_children (e ∷ f ∷ es) = child_step (is_add e.operation) (record { owner = e.token; child = f.token }) f.token (pairs_in (f ∷ es)) (children (f ∷ es)) refl (pair_children (f ∷ es))

-- the pair's owner is one of so many rows of its child's owners' table, and its child is one of them that isn't one of those before
pub record OwnedBy (count before : ℕ → ℕ) (a : Attached) : Type 0 where
  pub table : a.owner.table ≡ owner_table a.child.table
  pub child : is_child_table a.child.table ≡ true
  pub low : 0 < a.owner.row
  pub high : a.owner.row ≤ count a.owner.table
  pub new : before a.child.table < a.child.row
  pub last : a.child.row ≤ count a.child.table

-- and so it is of all
abbrev pub AllOwned : (ℕ → ℕ) → (ℕ → ℕ) → List Attached → Type 0
AllOwned count before [] = Unit {0}
AllOwned count before (a ∷ pairs) = OwnedBy count before a × AllOwned count before pairs

owned_append : (count before : ℕ → ℕ) (xs ys : List Attached) → AllOwned count before xs → AllOwned count before ys → AllOwned count before (xs ++ ys)
owned_append count before [] ys h k = k
owned_append count before (x ∷ xs) ys h k = (h.0, owned_append count before xs ys h.1 k)

tables_meet : (code : ℕ) → 1 ≤ code → code ≤ 5 → (parent_table code ≡ owner_table (child_table code)) × (is_child_table (child_table code) ≡ true)
tables_meet zero l h = absurd (omega arith)
tables_meet (suc zero) l h = (refl, refl)
tables_meet (suc (suc zero)) l h = (refl, refl)
tables_meet (suc (suc (suc zero))) l h = (refl, refl)
tables_meet (suc (suc (suc (suc zero)))) l h = (refl, refl)
tables_meet (suc (suc (suc (suc (suc zero))))) l h = (refl, refl)
tables_meet (suc (suc (suc (suc (suc (suc n)))))) l h = absurd (omega arith)

three : (a b d : Bool) → (a && b && d) ≡ true → (a ≡ true) × ((b ≡ true) × (d ≡ true))
three true true true h = (refl, (refl, refl))
three true true false h = absurd cc
three true false d h = absurd cc
three false b d h = absurd cc

-- what a child is: a new row of its code's child table
pub child_is : (c : Chain) (before : List LogEntry) (code : ℕ) (f : LogEntry) → follows c before code (Some f) ≡ true → (f.operation ≡ 0) × ((f.token.table ≡ child_table code) × (f.token.row ≡ rows_before c (child_table code) + adds before code + 1))
unfolding follows
child_is c before code f h =
    let t = three (f.operation == 0) (f.token.table == child_table code) (f.token.row == rows_before c (child_table code) + adds before code + 1) h in
    (equal _ _ t.0, (equal _ _ t.1.0, equal _ _ t.1.1))

parent_is : (c : Chain) (tokens : List Token) (e : LogEntry) → has_parent c tokens e ≡ true → (e.token.table ≡ parent_table e.operation) × ((0 < e.token.row) × (e.token.row ≤ rows_with c tokens e.token.table))
unfolding has_parent
parent_is c tokens e h =
    let t = three (e.token.table == parent_table e.operation) (nat_le 1 e.token.row) (nat_le e.token.row (rows_with c tokens e.token.table)) h in
    (equal _ _ t.0, (grind (arith, nat_tests, t.1.0), grind (arith, nat_tests, t.1.1)))

new_one : (c : Chain) (t u row n : ℕ) → t ≡ u → row ≡ rows_before c u + n + 1 → rows_before c t < row
new_one c t u row n e h = rw e (omega arith)

owned_one : (c : Chain) (tokens : List Token) (before : List LogEntry) (e f : LogEntry) → is_add e.operation ≡ true → has_parent c tokens e ≡ true → follows c before e.operation (Some f) ≡ true → (f.operation ≡ 0 → f.token.row ≤ rows_with c tokens f.token.table) → OwnedBy (rows_with c tokens) (rows_before c) (record { owner = e.token; child = f.token })
owned_one c tokens before e f a h g last =
    let child = child_is c before e.operation f g in
    let parent = parent_is c tokens e h in
    let meet = tables_meet e.operation (add_low e.operation a) (add_high e.operation a) in
    record {
      table = parent.0 ∙ meet.0 ∙ ap owner_table (sym child.1.0);
      child = ap is_child_table child.1.0 ∙ meet.1;
      low = parent.1.0;
      high = parent.1.1;
      new = new_one c f.token.table (child_table e.operation) f.token.row (adds before e.operation) child.1.0 child.1.1;
      last = last child.0;
    }

owned_pair : (c : Chain) (tokens : List Token) (before : List LogEntry) (e : LogEntry) (o : Option LogEntry) → (is_add e.operation ≡ true → has_parent c tokens e ≡ true) → (is_add e.operation ≡ true → follows c before e.operation o ≡ true) → ((f : LogEntry) → o ≡ Some f → f.operation ≡ 0 → f.token.row ≤ rows_with c tokens f.token.table) → AllOwned (rows_with c tokens) (rows_before c) (pair_of e o)
owned_pair c tokens before e None h g last = tt
owned_pair c tokens before e (Some f) h g last =
    elim (two (is_add e.operation)) [
      | inl a ↦ rw a (owned_one c tokens before e f a (h a) (g a) (last f refl), tt)
      | inr a ↦ rw a tt
    ]

owned_from : (c : Chain) (tokens : List Token) (before es : List LogEntry) → Judged c tokens before es → Names (rows_with c tokens) es → AllOwned (rows_with c tokens) (rows_before c) (pairs_in (counted es))
unfolding counted
owned_from c tokens before [] judged names = tt
owned_from c tokens before (e ∷ es) judged names =
    let rest = owned_from c tokens (before ++ e ∷ []) es judged.1 names.1 in
    elim (two (counts e)) [
      | inl on ↦ rw (pairs_yes e es on) (owned_append (rows_with c tokens) (rows_before c) (pair_of e (find counts es)) (pairs_in (counted es)) (owned_pair c tokens before e (find counts es) (λ add. (judged.0 on add).0) (λ add. (judged.0 on add).1) (λ f at zero. found_named (rows_with c tokens) es f names.1 at zero)) rest)
      | inr off ↦ rw (counted_no e es off) rest
    ]

-- the pairs of a log that breaks no rule
pub log_owned : (c : Chain) (tokens : List Token) (log : List LogEntry) → log_fault c tokens log ≡ None → Names (rows_with c tokens) log → AllOwned (rows_with c tokens) (rows_before c) (pairs_in (counted log))
log_owned c tokens log none names = owned_from c tokens [] log (log_judged c tokens log none) names

owners_small : (t : ℕ) → is_child_table t ≡ true → owner_table t < 0x2D
owners_small t child = by_child (λ k. owner_table k < 0x2D) (omega arith) (omega arith) (omega arith) (omega arith) (omega arith) t child

there : (m : Module) (u : Token) (n : ℕ) → length (rows_in m u.table) ≡ n → 0 < u.row → u.row ≤ n → has_row m u ≡ true
unfolding has_row
there m u n e low high = rw e (grind (arith, nat_tests))

attaches : (count before : ℕ → ℕ) (m : Module) (a : Attached) → ((t : ℕ) → length (rows_in m t) ≡ count t) → length m.tables ≡ 0x2D → OwnedBy count before a → Attaches m a
attaches count before m a same tables h =
    let small = owners_small a.child.table h.child in
    record {
      table = h.table;
      child = h.child;
      row = there m a.owner (count a.owner.table) (same a.owner.table) h.low h.high;
      tables = omega (arith, h.table, small, tables);
    }

attach_count : (m : Module) (a : Attached) (t : ℕ) → length (rows_in (attach m a) t) ≡ length (rows_in m t)
unfolding attach_all
attach_count m a t = count_attached (a ∷ []) m t

-- such pairs can be attached to a module with so many rows
pub all_attach : (count before : ℕ → ℕ) (pairs : List Attached) (m : Module) → ((t : ℕ) → length (rows_in m t) ≡ count t) → length m.tables ≡ 0x2D → AllOwned count before pairs → AllAttach m pairs
unfolding AllAttach
all_attach count before [] m same tables h = tt
all_attach count before (a ∷ pairs) m same tables h = (attaches count before m a same tables h.0, all_attach count before pairs (attach m a) (λ t. attach_count m a t ∙ same t) (attach_tables m a ∙ tables) h.1)
