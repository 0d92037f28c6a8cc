-- The changes of a delta that may follow a chain fit its module, and count as its inserts do.
use Rattle.std.proofs.Common.{◌≡◌, ℕ, ◌<◌, true, List, [], ◌∷◌, ◌++◌, length, Some, None, refl, sym, ap, ◌∙◌, arith, append_assoc}
use Rattle.std.specs.Prelude.{map, slice_get, nat_lt}
use Rattle.std.specs.List.{list_all}
use Rattle.std.proofs.Math.Seq.{take-append_seam}
use Rattle.std.proofs.lemmas.Bool.{and_parts}
use Rattle.std.proofs.lemmas.Bool.Decides.{nat_tests}
use Rattle.enc_base.specs.declared.token.Token.{Token}
use Rattle.enc_base.specs.Token.{number_of}
use Rattle.enc_rows.specs.Source.{Source}
use Rattle.enc_plain.specs.Cell.{Cell}
use Rattle.enc_plain.specs.Module.{Module, rows_in}
use Rattle.enc_plain.specs.Apply.{change_row, put, apply, Attached, with_child, attach, attach_all}
use Rattle.enc_plain.specs.Fits.{Fits, FitsOne, HasRuns}
use Rattle.enc_plain.specs.Chain.{Chain}
use Rattle.enc_plain.proofs.Applied.{runs_applied}
use Rattle.enc_plain.proofs.AttachedTo.{change_length, count_attached, runs_attached}
use Rattle.enc_delta.specs.Delta.{listed}
use Rattle.enc_delta.specs.Rules.{late, inserts, rows_with, insert_fault_of, insert_fault_at, insert_fault}
use Rattle.enc_agg.specs.Extend.{changes_of, extended}
use Rattle.enc_delta.specs.Rows.{own_row, cells_after}
use Rattle.enc_delta.specs.Pairs.{attached_of}
use Rattle.enc_agg.specs.Follows.{Lands}
use Rattle.enc_plain.specs.Sound.{HasTables}
use Rattle.enc_agg.proofs.Counting.{Tally, tally_none, tally_put, near, apply_tables}
use Rattle.enc_agg.proofs.InTables.{silent, listed_tables}
use Rattle.enc_agg.proofs.Rising.{changes_with, none_late, late_behind, fresh}
use Rattle.enc_delta.proofs.Unbroken.{landed}

-- each token is as the rules want it, after those before
pub record Good (c : Chain) (before ts : List Token) : Type 0 where
  pub tables : list_all (λ (t : Token). nat_lt t.table 0x2D) ts ≡ true
  pub rows : list_all (λ (t : Token). nat_lt t.row 0x1000000) ts ≡ true
  pub rising : late (map number_of ts) ≡ []
  pub inserts : (k : ℕ) → k < length (before ++ ts) → insert_fault_at c (before ++ ts) k ≡ None

seam_get : (before ts : List Token) (t : Token) → slice_get (before ++ t ∷ ts) (length before) ≡ Some t
seam_get [] ts t = refl
seam_get (b ∷ before) ts t = seam_get before ts t

seam_within : (before ts : List Token) (t : Token) → length before < length (before ++ t ∷ ts)
seam_within [] ts t = omega arith
seam_within (b ∷ before) ts t = omega (arith, seam_within before ts t)

fault_there : (c : Chain) (before ts : List Token) (t : Token) → insert_fault_at c (before ++ t ∷ ts) (length before) ≡ insert_fault_of c before t
unfolding insert_fault_at
fault_there c before ts t = rw (seam_get before ts t, take-append_seam before (t ∷ ts)) refl

-- the first token breaks no rule
pub first_good : (c : Chain) (before ts : List Token) (t : Token) → Good c before (t ∷ ts) → insert_fault_of c before t ≡ None
first_good c before ts t good = sym (fault_there c before ts t) ∙ good.inserts (length before) (seam_within before ts t)

first_table : (c : Chain) (before ts : List Token) (t : Token) → Good c before (t ∷ ts) → t.table < 0x2D
first_table c before ts t good =
    let h = (and_parts (nat_lt t.table 0x2D) _ good.tables).0 in
    grind (arith, nat_tests, h)

-- its row has a number of three bytes
pub first_row : (c : Chain) (before ts : List Token) (t : Token) → Good c before (t ∷ ts) → t.row < 0x1000000
first_row c before ts t good =
    let h = (and_parts (nat_lt t.row 0x1000000) _ good.rows).0 in
    grind (arith, nat_tests, h)

-- those behind it are good after it
pub rest_good : (c : Chain) (before ts : List Token) (t : Token) → Good c before (t ∷ ts) → Good c (before ++ (t ∷ [])) ts
rest_good c before ts t good = record {
  tables = (and_parts (nat_lt t.table 0x2D) _ good.tables).1;
  rows = (and_parts (nat_lt t.row 0x1000000) _ good.rows).1;
  rising = late_behind t ts good.rising;
  inserts = rw (append_assoc before (t ∷ []) ts) good.inserts;
}

fits_one : (c : Chain) (m : Module) (cells : Token → List Cell) (before ts : List Token) (t : Token) → Tally c m before → Good c before (t ∷ ts) → FitsOne m (record { token = t; cells = cells t }) (changes_with cells ts)
fits_one c m cells before ts t tally good =
    let at = near c m before t tally (first_good c before ts t good) in
    record {
      table = omega (arith, first_table c before ts t good, tally.tables);
      low = at.low;
      high = at.high;
      fresh = fresh cells t ts good.rising;
    }

next_tally : (c : Chain) (m : Module) (cells : Token → List Cell) (before ts : List Token) (t : Token) → Tally c m before → Good c before (t ∷ ts) → Tally c (put m (record { token = t; cells = cells t })) (before ++ (t ∷ []))
next_tally c m cells before ts t tally good = tally_put c m before t (cells t) tally (first_good c before ts t good) (first_table c before ts t good) (first_row c before ts t good)

-- the rows of good tokens fit
pub fits_from : (c : Chain) (cells : Token → List Cell) (ts before : List Token) (m : Module) → Tally c m before → Good c before ts → Fits m (changes_with cells ts)
unfolding Fits
fits_from c cells [] before m tally good = tt
fits_from c cells (t ∷ ts) before m tally good = (fits_one c m cells before ts t tally good, fits_from c cells ts (before ++ (t ∷ [])) (put m (record { token = t; cells = cells t })) (next_tally c m cells before ts t tally good) (rest_good c before ts t good))

none_behind : (before : List Token) → before ++ [] ≡ before
none_behind [] = refl
none_behind (b ∷ before) = ap (λ bs. b ∷ bs) (none_behind before)

-- and with all of them put each table's rows are told
pub tally_from : (c : Chain) (cells : Token → List Cell) (ts before : List Token) (m : Module) → Tally c m before → Good c before ts → Tally c (apply m (changes_with cells ts)) (before ++ ts)
unfolding apply
tally_from c cells [] before m tally good = rw (none_behind before) tally
tally_from c cells (t ∷ ts) before m tally good = rw (← append_assoc before (t ∷ []) ts) (tally_from c cells ts (before ++ (t ∷ [])) (put m (record { token = t; cells = cells t })) (next_tally c m cells before ts t tally good) (rest_good c before ts t good))

-- the tokens of a delta that may follow are of metadata's tables
pub in_tables : (c : Chain) (s : Source) → Lands c s → list_all (λ (t : Token). nat_lt t.table 0x2D) (listed s) ≡ true
in_tables c s f =
    let u = landed c s f.early in
    listed_tables s u.tables u.cell_tables f.tables

all_inserts : (c : Chain) (tokens : List Token) → insert_fault c tokens ≡ None → (k : ℕ) → k < length tokens → insert_fault_at c tokens k ≡ None
unfolding insert_fault
all_inserts c tokens none k lt = silent (insert_fault_at c tokens) (length tokens) k none lt

-- the tokens of a delta that may follow are good
pub good_tokens : (c : Chain) (s : Source) → Lands c s → Good c [] (listed s)
good_tokens c s f =
    let u = landed c s f.early in
    record {
      tables = in_tables c s f;
      rows = f.rows;
      rising = none_late (listed s) u.late;
      inserts = all_inserts c (listed s) u.inserts;
    }

-- the rows of a delta fit
pub fits : (c : Chain) (s : Source) → HasTables c.plain → Lands c s → Fits c.plain (changes_of c s)
unfolding changes_of
fits c s has f = fits_from c (λ t. cells_after c s (own_row s t)) (listed s) [] c.plain (tally_none c has.all) (good_tokens c s f)

-- with the rows put, each table's rows are told
pub put_all : (c : Chain) (s : Source) → HasTables c.plain → Lands c s → Tally c (apply c.plain (changes_of c s)) (listed s)
unfolding changes_of
put_all c s has f = tally_from c (λ t. cells_after c s (own_row s t)) (listed s) [] c.plain (tally_none c has.all) (good_tokens c s f)

-- attaching adds no rows
rows_kept : (c : Chain) (s : Source) (t : ℕ) → length (rows_in (extended c s).plain t) ≡ length (rows_in (apply c.plain (changes_of c s)) t)
unfolding extended
rows_kept c s t = count_attached (attached_of s) (apply c.plain (changes_of c s)) t

-- each table has its rows before and its inserts
pub count_is : (c : Chain) (s : Source) → HasTables c.plain → Lands c s → (t : ℕ) → length (rows_in (extended c s).plain t) ≡ rows_with c (listed s) t
unfolding rows_with
count_is c s has f t = rows_kept c s t ∙ (put_all c s has f).rows t

-- a table with an insert has fewer rows than a token can name
pub few : (c : Chain) (s : Source) → HasTables c.plain → Lands c s → (t : ℕ) → 0 < inserts c (listed s) t → rows_with c (listed s) t < 0x1000000
unfolding rows_with
few c s has f t some = (put_all c s has f).few t some

-- attaching keeps the tables
pub attach_tables : (m : Module) (a : Attached) → length (attach m a).tables ≡ length m.tables
unfolding attach
attach_tables m a = change_length m.tables a.owner.table (λ rows. change_row rows a.owner.row (with_child a.child))

attached_tables : (pairs : List Attached) (m : Module) → length (attach_all m pairs).tables ≡ length m.tables
unfolding attach_all
attached_tables [] m = refl
attached_tables (a ∷ pairs) m = attached_tables pairs (attach m a) ∙ attach_tables m a

-- all tables are there after the delta
pub has_tables : (c : Chain) (s : Source) → HasTables c.plain → HasTables (extended c s).plain
unfolding extended
has_tables c s has = record { all = attached_tables (attached_of s) (apply c.plain (changes_of c s)) ∙ apply_tables (changes_of c s) c.plain ∙ has.all }

-- and every row has a list of children for each run
pub has_runs : (c : Chain) (s : Source) → HasTables c.plain → Lands c s → HasRuns c.plain → HasRuns (extended c s).plain
unfolding extended
has_runs c s has f runs = runs_attached (attached_of s) (apply c.plain (changes_of c s)) (runs_applied (changes_of c s) c.plain (fits c s has f) runs)
