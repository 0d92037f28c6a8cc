-- What the rows of a chain keep after a delta that says the same of them.
use Rattle.std.proofs.Common.{◌≡◌, ℕ, zero, suc, ◌-◌, ◌<◌, ◌≤◌, Bool, true, false, cond, List, [], ◌∷◌, length, Option, Some, None, refl, sym, ◌∙◌, arith}
use Rattle.std.specs.Prelude.{◌==◌, ◌&&◌, ◌||◌, not, nat_lt, slice_get, filter, bytes_eq}
use Rattle.std.proofs.lemmas.Bool.Decides.{nat_tests}
use Rattle.std.proofs.lemmas.Option.{slice_get_within}
use Rattle.std.proofs.lemmas.Slice.Eq.{bytes_eq-Decides}
use Rattle.enc_base.specs.Order.{first_below}
use Rattle.enc_base.specs.declared.refusal.Place.{Place}
use Rattle.enc_base.specs.declared.token.Token.{Token}
use Rattle.enc_base.proofs.First.{silent}
use Rattle.enc_schema.specs.declared.column.Column.{Column}
use Rattle.enc_schema.specs.Schema.{columns_in, column_in}
use Rattle.enc_rows.specs.Source.{Source}
use Rattle.enc_plain.specs.Alike.{tokens_alike, signatures_alike}
use Rattle.enc_plain.specs.Cell.{numbers, blobs, references, kind_in}
use Rattle.enc_plain.specs.Chain.{Chain, rows_before}
use Rattle.enc_plain.specs.Fits.{Fits}
use Rattle.enc_plain.specs.Module.{rows_in, has_row, cells_of}
use Rattle.enc_plain.specs.Rows.{Rows, number_at, bytes_at, token_at}
use Rattle.enc_plain.specs.Signatures.{signature_column}
use Rattle.enc_plain.specs.Sound.{row_count}
use Rattle.enc_plain.proofs.AlikeLaws.{each_is_alike_itself}
use Rattle.enc_plain.proofs.KindsOf.{row_bounds, row_there}
use Rattle.enc_delta.specs.Delta.{listed, place_in}
use Rattle.enc_delta.specs.Rules.{broken, is_insert, rows_with}
use Rattle.enc_delta.specs.Changes.{may_differ, is_signature_column, cell_is_kept, altered_at, altered_in, of_nth, altered_cell}
use Rattle.enc_delta.specs.Rows.{rows_of_chain, rows_after}
use Rattle.enc_agg.specs.Extend.{changes_of, extended}
use Rattle.enc_agg.proofs.Tokens.{place_token}
use Rattle.enc_agg.proofs.Viewing.{other_cells}

-- a token of those that are kept is one of all
kept_at : (p : Token → Bool) (b : Bool) (t u : Token) (ts : List Token) (i : ℕ) → p t ≡ b → ((j : ℕ) → slice_get (filter p ts) j ≡ Some u → (k : ℕ) × (slice_get ts k ≡ Some u) × (k < length ts)) → slice_get (cond b (t ∷ filter p ts) (filter p ts)) i ≡ Some u → (k : ℕ) × (slice_get (t ∷ ts) k ≡ Some u) × (k < length (t ∷ ts))
kept_at p true t u ts zero is rest e = (0, e, omega arith)
kept_at p true t u ts (suc i) is rest e = let w = rest i e in (suc w.0, w.1, omega (arith, w.2))
kept_at p false t u ts i is rest e = let w = rest i e in (suc w.0, w.1, omega (arith, w.2))

among : (p : Token → Bool) (ts : List Token) (i : ℕ) (u : Token) → slice_get (filter p ts) i ≡ Some u → (k : ℕ) × (slice_get ts k ≡ Some u) × (k < length ts)
among p [] i u e = absurd cc
among p (t ∷ ts) i u e = kept_at p (p t) t u ts i refl (λ j f. among p ts j u f) e

-- a rule that is silent of all tokens is silent of each
pub silent_of : (rule : Token → Option Place) (s : Source) (u : Token) (k : ℕ) → first_below (of_nth rule s) (length (listed s)) ≡ None → place_in (listed s) u ≡ Some k → rule u ≡ None
silent_of rule s u k none place =
    let at = (place_token (listed s) u k place).1 in
    let w = among (λ (t : Token). t.table == u.table) (listed s) (k - 1) u at in
    let here : of_nth rule s w.0 ≡ None = silent (of_nth rule s) (length (listed s)) w.0 none w.2 in
    rw w.1 at here

-- a row that was there is no insert
old_is : (n row : ℕ) → 0 < row → row ≤ n → (row == 0 || nat_lt n row) ≡ false
old_is n row low high = grind (arith, nat_tests)

not_insert : (c : Chain) (u : Token) → has_row c.plain u ≡ true → is_insert c u ≡ false
unfolding is_insert
not_insert c u there = let b = row_bounds c.plain u there in old_is (rows_before c u.table) u.row b.0 b.1

held : (p : Place) (a b : Bool) → broken (not a && not b) p ≡ None → a ≡ false → b ≡ true
held p a true h e = refl
held p true false h e = absurd cc
held p false false h e = absurd cc

updated : (c : Chain) (s : Source) (u : Token) (k i : ℕ) (column : Column) → altered_cell c s ≡ None → has_row c.plain u ≡ true → place_in (listed s) u ≡ Some k → column_in u.table i ≡ Some column → may_differ u.table i ≡ false → cell_is_kept (rows_of_chain c) (rows_after c s) u i (kind_in u.table i) ≡ true
unfolding altered_cell altered_in altered_at
updated c s u k i column none there place e same =
    let row : altered_in c s u ≡ None = silent_of (altered_in c s) s u k none place in
    let cells : first_below (altered_at c s u) (length (columns_in u.table)) ≡ None = rw (not_insert c u there) at row in
    held _ (may_differ u.table i) (cell_is_kept (rows_of_chain c) (rows_after c s) u i (kind_in u.table i)) (silent (altered_at c s u) (length (columns_in u.table)) i cells (slice_get_within (columns_in u.table) i column e)) same

-- the rows by which a delta is judged are those of the module after it
pub record JudgedBy (c : Chain) (s : Source) : Type 0 where
  pub fit : Fits c.plain (changes_of c s)
  pub rows : (t : Token) → rows_after c s t ≡ cells_of (extended c s).plain t
  pub same : altered_cell c s ≡ None

same_number : (r q : Rows) (t : Token) (i : ℕ) → r t ≡ q t → number_at r t i ≡ number_at q t i
unfolding number_at
same_number r q t i e = rw e refl

pub same_bytes : (r q : Rows) (t : Token) (i : ℕ) → r t ≡ q t → bytes_at r t i ≡ bytes_at q t i
unfolding bytes_at
same_bytes r q t i e = rw e refl

pub same_token : (r q : Rows) (t : Token) (i : ℕ) → r t ≡ q t → token_at r t i ≡ token_at q t i
unfolding token_at
same_token r q t i e = rw e refl

eq_of : (a b : ℕ) → (a == b) ≡ true → a ≡ b
eq_of a b h = grind (arith, nat_tests)

-- a number stays
number_by : (c : Chain) (s : Source) (u : Token) (i : ℕ) (column : Column) (o : Option ℕ) → JudgedBy c s → has_row c.plain u ≡ true → place_in (listed s) u ≡ o → column_in u.table i ≡ Some column → kind_in u.table i ≡ Some numbers → may_differ u.table i ≡ false → number_at (cells_of c.plain) u i ≡ number_at (cells_of (extended c s).plain) u i
number_by c s u i column None j there is e kind same = sym (same_number (cells_of (extended c s).plain) (cells_of c.plain) u i (other_cells c s u j.fit is))
number_by c s u i column (Some k) j there is e kind same =
    let h = updated c s u k i column j.same there is e same in
    eq_of _ _ (rw kind at h) ∙ same_number (rows_after c s) (cells_of (extended c s).plain) u i (j.rows u)

pub number_kept : (c : Chain) (s : Source) (u : Token) (i : ℕ) (column : Column) → JudgedBy c s → has_row c.plain u ≡ true → column_in u.table i ≡ Some column → kind_in u.table i ≡ Some numbers → may_differ u.table i ≡ false → number_at (cells_of c.plain) u i ≡ number_at (cells_of (extended c s).plain) u i
number_kept c s u i column j there e kind same = number_by c s u i column (place_in (listed s) u) j there refl e kind same

-- a token is alike
token_by : (c : Chain) (s : Source) (u : Token) (i : ℕ) (column : Column) (o : Option ℕ) → JudgedBy c s → has_row c.plain u ≡ true → place_in (listed s) u ≡ o → column_in u.table i ≡ Some column → kind_in u.table i ≡ Some references → may_differ u.table i ≡ false → tokens_alike (rows_after c s) (token_at (cells_of c.plain) u i) (token_at (cells_of (extended c s).plain) u i) ≡ true
token_by c s u i column None j there is e kind same = rw (same_token (cells_of (extended c s).plain) (cells_of c.plain) u i (other_cells c s u j.fit is)) (each_is_alike_itself (rows_after c s) (token_at (cells_of c.plain) u i))
token_by c s u i column (Some k) j there is e kind same =
    let h = updated c s u k i column j.same there is e same in
    let f : tokens_alike (rows_after c s) (token_at (cells_of c.plain) u i) (token_at (rows_after c s) u i) ≡ true = rw kind at h in
    rw (same_token (rows_after c s) (cells_of (extended c s).plain) u i (j.rows u)) at f

pub token_kept : (c : Chain) (s : Source) (u : Token) (i : ℕ) (column : Column) → JudgedBy c s → has_row c.plain u ≡ true → column_in u.table i ≡ Some column → kind_in u.table i ≡ Some references → may_differ u.table i ≡ false → tokens_alike (rows_after c s) (token_at (cells_of c.plain) u i) (token_at (cells_of (extended c s).plain) u i) ≡ true
token_kept c s u i column j there e kind same = token_by c s u i column (place_in (listed s) u) j there refl e kind same

-- and so is a signature
bytes_self : (xs : List ℕ) → bytes_eq xs xs ≡ true
bytes_self xs = (bytes_eq-Decides xs xs).1 refl

alike_self : (r : Rows) (table : ℕ) (xs : List ℕ) → signatures_alike r table xs xs ≡ true
unfolding signatures_alike
alike_self r table xs = rw (bytes_self xs) refl

signature_by : (c : Chain) (s : Source) (u : Token) (i : ℕ) (column : Column) (o : Option ℕ) → JudgedBy c s → has_row c.plain u ≡ true → place_in (listed s) u ≡ o → column_in u.table i ≡ Some column → kind_in u.table i ≡ Some blobs → is_signature_column u.table i ≡ true → may_differ u.table i ≡ false → signatures_alike (rows_after c s) u.table (bytes_at (cells_of c.plain) u i) (bytes_at (cells_of (extended c s).plain) u i) ≡ true
signature_by c s u i column None j there is e kind signs same = rw (same_bytes (cells_of (extended c s).plain) (cells_of c.plain) u i (other_cells c s u j.fit is)) (alike_self (rows_after c s) u.table (bytes_at (cells_of c.plain) u i))
signature_by c s u i column (Some k) j there is e kind signs same =
    let h = updated c s u k i column j.same there is e same in
    let f : signatures_alike (rows_after c s) u.table (bytes_at (cells_of c.plain) u i) (bytes_at (rows_after c s) u i) ≡ true = rw (kind, signs) at h in
    rw (same_bytes (rows_after c s) (cells_of (extended c s).plain) u i (j.rows u)) at f

pub signature_kept : (c : Chain) (s : Source) (u : Token) (i : ℕ) (column : Column) → JudgedBy c s → has_row c.plain u ≡ true → column_in u.table i ≡ Some column → kind_in u.table i ≡ Some blobs → is_signature_column u.table i ≡ true → may_differ u.table i ≡ false → signatures_alike (rows_after c s) u.table (bytes_at (cells_of c.plain) u i) (bytes_at (cells_of (extended c s).plain) u i) ≡ true
signature_kept c s u i column j there e kind signs same = signature_by c s u i column (place_in (listed s) u) j there refl e kind signs same

-- no table has fewer rows after it
pub rows_grow : (c : Chain) (s : Source) (t : ℕ) → ((k : ℕ) → length (rows_in (extended c s).plain k) ≡ rows_with c (listed s) k) → row_count c.plain t ≤ row_count (extended c s).plain t
unfolding rows_with
rows_grow c s t counts = omega (arith, counts t)

pub row_stays : (c : Chain) (s : Source) (u : Token) → ((k : ℕ) → length (rows_in (extended c s).plain k) ≡ rows_with c (listed s) k) → has_row c.plain u ≡ true → has_row (extended c s).plain u ≡ true
row_stays c s u counts there =
    let b = row_bounds c.plain u there in
    row_there (extended c s).plain u b.0 (omega (arith, b.1, rows_grow c s u.table counts))

-- the column of a table's signature
pub signs : (table i : ℕ) → signature_column table ≡ Some i → is_signature_column table i ≡ true
signs table i h = rw h (self i)
  where
    self : (n : ℕ) → (n == n) ≡ true
    self n = grind (arith, nat_tests)
