-- How many rows each table has while a delta's rows are put, one token after another.
use Rattle.std.proofs.Common.{◌≡◌, ◌≢◌, ℕ, zero, suc, ◌+◌, ◌-◌, ◌<◌, ◌≤◌, Bool, true, false, List, [], ◌∷◌, ◌++◌, length, None, refl, ap, ◌∙◌, inl, inr, arith}
use Rattle.std.specs.Prelude.{◌==◌, ◌&&◌, not, cond}
use Rattle.std.proofs.lemmas.Bool.{cases_eq}
use Rattle.std.proofs.lemmas.Bool.Decides.{nat_tests}
use Rattle.std.proofs.lemmas.List.Sums.{fold-append}
use Rattle.enc_base.specs.declared.refusal.Place.{Place}
use Rattle.enc_base.specs.declared.refusal.Place.TheVariants as place
use Rattle.enc_base.specs.declared.token.Token.{Token}
use Rattle.enc_plain.specs.Module.{Module, Row, rows_in}
use Rattle.enc_plain.specs.Cell.{Cell}
use Rattle.enc_plain.specs.Apply.{Change, put_row, put_at, put, apply}
use Rattle.enc_plain.specs.Chain.{Chain, rows_before}
use Rattle.enc_plain.proofs.Applied.{table_same, table_other, put_at_is}
use Rattle.enc_plain.proofs.AttachedTo.{change_length}
use Rattle.enc_delta.specs.Rules.{broken, is_insert, inserts, insert_fault_of}

-- a row in the place of another
pub put_within : (table : ℕ) (rows : List Row) (n : ℕ) (cells : List Cell) → n < length rows → length (put_row table rows n cells) ≡ length rows
put_within table [] n cells h = absurd (omega arith)
put_within table (r ∷ rows) zero cells h = refl
put_within table (r ∷ rows) (suc n) cells h = ap suc (put_within table rows n cells (omega arith))

-- a row at the end
pub put_past : (table : ℕ) (rows : List Row) (n : ℕ) (cells : List Cell) → length rows ≡ n → length (put_row table rows n cells) ≡ length rows + 1
put_past table [] zero cells h = refl
put_past table [] (suc n) cells h = absurd cc
put_past table (r ∷ rows) zero cells h = absurd (omega (arith, h))
put_past table (r ∷ rows) (suc n) cells h = ap suc (put_past table rows n cells (omega (arith, h))) ∙ omega arith

-- no table more and none less
pub put_tables : (m : Module) (ch : Change) → length (put m ch).tables ≡ length m.tables
unfolding put
put_tables m ch = change_length m.tables ch.token.table (λ rows. put_at ch.token.table rows ch.token.row ch.cells)

-- the tables after all changes are as many as before
pub apply_tables : (chs : List Change) (m : Module) → length (apply m chs).tables ≡ length m.tables
unfolding apply
apply_tables [] m = refl
apply_tables (ch ∷ chs) m = apply_tables chs (put m ch) ∙ put_tables m ch

-- another table keeps its rows
pub rows_other : (m : Module) (ch : Change) (u : ℕ) → u ≢ ch.token.table → rows_in (put m ch) u ≡ rows_in m u
unfolding put
rows_other m ch u e = table_other m.tables ch.token.table u (λ rows. put_at ch.token.table rows ch.token.row ch.cells) e

-- its own has the row in it
pub rows_same : (m : Module) (ch : Change) → ch.token.table < length m.tables → 0 < ch.token.row → rows_in (put m ch) ch.token.table ≡ put_row ch.token.table (rows_in m ch.token.table) (ch.token.row - 1) ch.cells
unfolding put
rows_same m ch h low = table_same m.tables ch.token.table (λ rows. put_at ch.token.table rows ch.token.row ch.cells) h ∙ put_at_is ch.token.table (rows_in m ch.token.table) ch.token.row ch.cells low

-- one token more is counted or not
pub inserts_more : (c : Chain) (before : List Token) (t : Token) (u : ℕ) → inserts c (before ++ t ∷ []) u ≡ inserts c before u + cond (t.table == u && is_insert c t) 1 0
unfolding inserts
inserts_more c before t u = fold-append (λ a (x : Token). a + cond (x.table == u && is_insert c x) 1 0) 0 before (t ∷ [])

uncounted : (n : ℕ) (a b : Bool) → b ≡ false → n + cond (a && b) 1 0 ≡ n
uncounted n true b h = rw h (omega arith)
uncounted n false b h = omega arith

elsewhere : (n t u : ℕ) (b : Bool) → u ≢ t → n + cond (t == u && b) 1 0 ≡ n
elsewhere n t u b h =
    let e : (t == u) ≡ false = grind (arith, nat_tests) in
    rw e (omega arith)

counted : (n t : ℕ) (b : Bool) → b ≡ true → n + cond (t == t && b) 1 0 ≡ n + 1
counted n t b h =
    let e : (t == t) ≡ true = grind (arith, nat_tests) in
    rw (e, h) refl

-- a token that is no insert counts in no table
pub inserts_kept : (c : Chain) (before : List Token) (t : Token) (u : ℕ) → is_insert c t ≡ false → inserts c (before ++ t ∷ []) u ≡ inserts c before u
inserts_kept c before t u h = inserts_more c before t u ∙ uncounted (inserts c before u) (t.table == u) (is_insert c t) h

-- an insert counts in no other table
pub inserts_elsewhere : (c : Chain) (before : List Token) (t : Token) (u : ℕ) → u ≢ t.table → inserts c (before ++ t ∷ []) u ≡ inserts c before u
inserts_elsewhere c before t u h = inserts_more c before t u ∙ elsewhere (inserts c before u) t.table u (is_insert c t) h

-- and once in its own
pub inserts_here : (c : Chain) (before : List Token) (t : Token) → is_insert c t ≡ true → inserts c (before ++ t ∷ []) t.table ≡ inserts c before t.table + 1
inserts_here c before t h = inserts_more c before t t.table ∙ counted (inserts c before t.table) t.table (is_insert c t) h

-- what was put so far: each table's rows are those before and the inserts, and a table with an insert has room
pub record Tally (c : Chain) (m : Module) (before : List Token) : Type 0 where
  pub tables : length m.tables ≡ 0x2D
  pub rows : (t : ℕ) → length (rows_in m t) ≡ rows_before c t + inserts c before t
  pub few : (t : ℕ) → 0 < inserts c before t → rows_before c t + inserts c before t < 0x1000000

-- the token's row is one of its table or the next
pub record Near (m : Module) (t : Token) : Type 0 where
  pub low : 0 < t.row
  pub high : t.row ≤ length (rows_in m t.table) + 1

is_next : (p : Place) (a b : Bool) → broken (a && not b) p ≡ None → a ≡ true → b ≡ true
is_next p a true h k = refl
is_next p true false h k = absurd cc
is_next p false false h k = absurd cc

-- an insert is the next row
pub next_row : (c : Chain) (before : List Token) (t : Token) → insert_fault_of c before t ≡ None → is_insert c t ≡ true → t.row ≡ rows_before c t.table + inserts c before t.table + 1
unfolding insert_fault_of
next_row c before t none is =
    let e : (t.row == rows_before c t.table + inserts c before t.table + 1) ≡ true = is_next (place.Row t) (is_insert c t) _ none is in
    grind (arith, nat_tests)

-- and every other token a row from 1 to the last
pub old_row : (c : Chain) (t : Token) → is_insert c t ≡ false → (0 < t.row) × (t.row ≤ rows_before c t.table)
unfolding is_insert
old_row c t h = (grind (arith, nat_tests), grind (arith, nat_tests))

near_new : (c : Chain) (m : Module) (before : List Token) (t : Token) → Tally c m before → insert_fault_of c before t ≡ None → is_insert c t ≡ true → Near m t
near_new c m before t tally none is =
    let e = next_row c before t none is in
    let r = tally.rows t.table in
    record { low = omega (arith, e); high = omega (arith, e, r) }

near_old : (c : Chain) (m : Module) (before : List Token) (t : Token) → Tally c m before → is_insert c t ≡ false → Near m t
near_old c m before t tally is =
    let e = old_row c t is in
    let r = tally.rows t.table in
    record { low = e.0; high = omega (arith, e.1, r) }

near_by : (c : Chain) (m : Module) (before : List Token) (t : Token) → Tally c m before → insert_fault_of c before t ≡ None → (b : Bool) → is_insert c t ≡ b → Near m t
near_by c m before t tally none true is = near_new c m before t tally none is
near_by c m before t tally none false is = near_old c m before t tally is

-- a token that breaks no rule is near
pub near : (c : Chain) (m : Module) (before : List Token) (t : Token) → Tally c m before → insert_fault_of c before t ≡ None → Near m t
near c m before t tally none = near_by c m before t tally none (is_insert c t) refl

grown : (m : Module) (t : Token) (cells : List Cell) → t.table < length m.tables → 0 < t.row → length (rows_in m t.table) ≡ t.row - 1 → length (rows_in (put m (record { token = t; cells = cells })) t.table) ≡ length (rows_in m t.table) + 1
grown m t cells h low past = rw (rows_same m (record { token = t; cells = cells }) h low) (put_past t.table (rows_in m t.table) (t.row - 1) cells past)

kept : (m : Module) (t : Token) (cells : List Cell) → t.table < length m.tables → 0 < t.row → t.row - 1 < length (rows_in m t.table) → length (rows_in (put m (record { token = t; cells = cells })) t.table) ≡ length (rows_in m t.table)
kept m t cells h low within = rw (rows_same m (record { token = t; cells = cells }) h low) (put_within t.table (rows_in m t.table) (t.row - 1) cells within)

other : (m : Module) (t : Token) (cells : List Cell) (u : ℕ) → u ≢ t.table → length (rows_in (put m (record { token = t; cells = cells })) u) ≡ length (rows_in m u)
other m t cells u e = rw (rows_other m (record { token = t; cells = cells }) u e) refl

put_new : (c : Chain) (m : Module) (before : List Token) (t : Token) (cells : List Cell) → Tally c m before → insert_fault_of c before t ≡ None → t.table < 0x2D → t.row < 0x1000000 → is_insert c t ≡ true → Tally c (put m (record { token = t; cells = cells })) (before ++ t ∷ [])
put_new c m before t cells tally none there small is =
    let e = next_row c before t none is in
    let r = tally.rows t.table in
    let here = inserts_here c before t is in
    record {
      tables = put_tables m (record { token = t; cells = cells }) ∙ tally.tables;
      rows = λ u. elim (cases_eq u t.table) [
        | inl same ↦ rw (same, here) (grown m t cells (omega (arith, there, tally.tables)) (omega (arith, e)) (omega (arith, e, r)) ∙ omega (arith, r))
        | inr ne ↦ rw (inserts_elsewhere c before t u ne) (other m t cells u ne ∙ tally.rows u)
      ];
      few = λ u some. elim (cases_eq u t.table) [
        | inl same ↦ rw (same, here) (omega (arith, e, small))
        | inr ne ↦ rw (inserts_elsewhere c before t u ne) (tally.few u (rw (inserts_elsewhere c before t u ne) at some))
      ];
    }

put_old : (c : Chain) (m : Module) (before : List Token) (t : Token) (cells : List Cell) → Tally c m before → t.table < 0x2D → is_insert c t ≡ false → Tally c (put m (record { token = t; cells = cells })) (before ++ t ∷ [])
put_old c m before t cells tally there is =
    let e = old_row c t is in
    let r = tally.rows t.table in
    record {
      tables = put_tables m (record { token = t; cells = cells }) ∙ tally.tables;
      rows = λ u. elim (cases_eq u t.table) [
        | inl same ↦ rw (same, inserts_kept c before t t.table is) (kept m t cells (omega (arith, there, tally.tables)) e.0 (omega (arith, e.0, e.1, r)) ∙ r)
        | inr ne ↦ rw (inserts_kept c before t u is) (other m t cells u ne ∙ tally.rows u)
      ];
      few = λ u some. rw (inserts_kept c before t u is) (tally.few u (rw (inserts_kept c before t u is) at some));
    }

put_by : (c : Chain) (m : Module) (before : List Token) (t : Token) (cells : List Cell) → Tally c m before → insert_fault_of c before t ≡ None → t.table < 0x2D → t.row < 0x1000000 → (b : Bool) → is_insert c t ≡ b → Tally c (put m (record { token = t; cells = cells })) (before ++ t ∷ [])
put_by c m before t cells tally none there small true is = put_new c m before t cells tally none there small is
put_by c m before t cells tally none there small false is = put_old c m before t cells tally there is

-- with the token's row put, the tally is that of one token more
pub tally_put : (c : Chain) (m : Module) (before : List Token) (t : Token) (cells : List Cell) → Tally c m before → insert_fault_of c before t ≡ None → t.table < 0x2D → t.row < 0x1000000 → Tally c (put m (record { token = t; cells = cells })) (before ++ t ∷ [])
tally_put c m before t cells tally none there small = put_by c m before t cells tally none there small (is_insert c t) refl

-- with nothing put, no insert was
pub tally_none : (c : Chain) → length c.plain.tables ≡ 0x2D → Tally c c.plain []
unfolding inserts
tally_none c h = record { tables = h; rows = λ t. omega arith; few = λ t some. absurd (omega arith) }
