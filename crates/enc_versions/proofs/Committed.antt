-- New bodies, one put after the other.
use Rattle.std.proofs.Common.{◌≡◌, ℕ, zero, suc, ◌-◌, ◌<◌, ◌≤◌, Bool, true, false, List, [], ◌∷◌, ◌++◌, Option, Some, None, refl, sym, ap, ◌∙◌, arith, append-nil, max}
use Rattle.std.specs.Prelude.{◌^◌, length, get_or, set, map, ◌&&◌, nat_lt, ◌==◌, ◌≢◌, if◌then◌else◌}
use Rattle.std.specs.List.{list_all}
use Rattle.std.proofs.lemmas.Bool.Decides.{nat_tests}
use Rattle.std.proofs.lemmas.Bool.{eqb-true, false≢true, and_parts, and_from}
use Rattle.std.proofs.lemmas.List.{get_or-set_other}
use Rattle.std.proofs.lemmas.Grind.{get_or-set_at}
use Rattle.enc_base.specs.Order.{or_else}
use Rattle.enc_base.specs.declared.token.Token.{Token}
use Rattle.enc_base.specs.Tables.{method_def}
use Rattle.enc_versions.specs.Commit.{NewVersion, version_in, is_entry, is_method_token, brought_by, brought, last_row}
use Rattle.enc_versions.specs.Version.{Version, version_at, newest_of}
use Rattle.enc_versions.specs.declared.list.CodeEntry.{CodeEntry}

-- the greatest row so far
pub max_of_rest : (last row rest all now : ℕ) → max last (max row rest) ≡ all → now ≡ max last row → max now rest ≡ all
max_of_rest last row rest all now e is = grind (arith, e, is)

-- one method more that has no body
more_at : (methods : List (Option Version)) (n : ℕ) → get_or (methods ++ None ∷ []) n None ≡ get_or methods n None
more_at [] zero = refl
more_at [] (suc n) = refl
more_at (v ∷ methods) zero = refl
more_at (v ∷ methods) (suc n) = more_at methods n

more_row : (methods : List (Option Version)) (row : ℕ) → version_at (methods ++ None ∷ []) row ≡ version_at methods row
more_row methods zero = refl
more_row methods (suc n) = more_at methods n

pub none_more : (methods : List (Option Version)) (method : Token) → newest_of (methods ++ None ∷ []) method ≡ newest_of methods method
unfolding newest_of
none_more methods method = ap (λ v. if method.table == method_def then v else None) (more_row methods method.row)

-- a body in its method's place
differ : (a b : ℕ) → (a == b) ≡ false → b ≢ a
differ a b other e = false≢true (sym other ∙ ap (λ n. a == n) e ∙ same a)
  where
    same : (a : ℕ) → (a == a) ≡ true
    same a = grind (arith, nat_tests)

put_at : (methods : List (Option Version)) (v : Version) (i j : ℕ) (b : Bool) → (i == j) ≡ b → i < length methods → get_or (set methods i (Some v)) j None ≡ or_else (if b then Some v else None) (get_or methods j None)
put_at methods v i j true test low = get_or-set_at methods i j (Some v) None (sym (eqb-true i j test)) low
put_at methods v i j false test low = get_or-set_other methods i j (Some v) None (differ i j test)

same_table : (a b : ℕ) (t : Bool) → a ≡ method_def → (b == method_def) ≡ t → (a == b) ≡ t
same_table a b true is test = grind (arith, nat_tests, is, test)
same_table a b false is test = grind (arith, nat_tests, is, test)

no_row : (r : ℕ) → 0 < r → (r == 0) ≡ false
no_row r some = grind (arith, nat_tests, some)

this_row : (r j : ℕ) → 0 < r → (r == suc j) ≡ (r - 1 == j)
this_row zero j some = elim some [ ]
this_row (suc i) j some = let e : suc i - 1 ≡ i = omega arith in rw e (same_test i j (i == j) refl)
  where
    same_test : (i j : ℕ) (b : Bool) → (i == j) ≡ b → (suc i == suc j) ≡ (i == j)
    same_test i j true test = grind (arith, nat_tests, test)
    same_test i j false test = grind (arith, nat_tests, test)

put_row : (methods : List (Option Version)) (v : Version) (row r : ℕ) → 0 < row → row ≤ length methods → version_at (set methods (row - 1) (Some v)) r ≡ or_else (if row == r then Some v else None) (version_at methods r)
put_row methods v row zero some low = rw (no_row row some) refl
put_row methods v row (suc j) some low = rw (this_row row j some) (put_at methods v (row - 1) j (row - 1 == j) refl (omega (arith, some, low)))

put_by : (methods : List (Option Version)) (v : Version) (row r : ℕ) (t : Bool) → 0 < row → row ≤ length methods → (if t then version_at (set methods (row - 1) (Some v)) r else None) ≡ or_else (if t && row == r then Some v else None) (if t then version_at methods r else None)
put_by methods v row r true some low = put_row methods v row r some low
put_by methods v row r false some low = refl

is_of : (a : ℕ) (b : ℕ) → (a == method_def && nat_lt 0 b) ≡ true → (a ≡ method_def) × (0 < b)
is_of a b is = grind (arith, nat_tests, is)

pub newest_put : (methods : List (Option Version)) (new : NewVersion) (method : Token) → is_method_token new.method ≡ true → new.method.row ≤ length methods → newest_of (set methods (new.method.row - 1) (Some new.version)) method ≡ or_else (brought_by new method) (newest_of methods method)
unfolding newest_of
newest_put methods new method is low =
    let m = is_of new.method.table new.method.row is in
    rw (same_table new.method.table method.table (method.table == method_def) m.0 refl) (put_by methods new.version new.method.row method.row (method.table == method_def) m.1 low)

-- one more of those that are put
pub methods_step : (new : NewVersion) (rest all : List NewVersion) → all ≡ new ∷ rest → list_all (λ (v : NewVersion). is_method_token v.method) all ≡ true → (is_method_token new.method ≡ true) × (list_all (λ (v : NewVersion). is_method_token v.method) rest ≡ true)
methods_step new rest all is each = and_parts (is_method_token new.method) (list_all (λ (v : NewVersion). is_method_token v.method) rest) (rw is at each)

pub rows_step : (new : NewVersion) (rest all : List NewVersion) (count : ℕ) → all ≡ new ∷ rest → last_row all ≤ count → (new.method.row ≤ count) × (last_row rest ≤ count)
unfolding last_row
rows_step new rest all count is low = within new.method.row (last_row rest) count (rw is at low)
  where
    within : (a b count : ℕ) → max a b ≤ count → (a ≤ count) × (b ≤ count)
    within a b count low = (omega (arith, low), omega (arith, low))

else_assoc : (a b c : Option Version) → or_else a (or_else b c) ≡ or_else (or_else a b) c
else_assoc None b c = refl
else_assoc (Some v) b c = refl

pub newest_step : (new : NewVersion) (rest all : List NewVersion) (method : Token) (before : Option Version) → all ≡ new ∷ rest → or_else (brought rest method) (or_else (brought_by new method) before) ≡ or_else (brought all method) before
unfolding brought
newest_step new rest all method before is = rw is (else_assoc (brought rest method) (brought_by new method) before)

pub newest_end : (rest : List NewVersion) (method : Token) (now said : Option Version) → rest ≡ [] → or_else (brought rest method) now ≡ said → now ≡ said
unfolding brought
newest_end rest method now said is e = rw is at e

all_methods : (entries : List CodeEntry) → list_all is_entry entries ≡ true → list_all (λ (v : NewVersion). is_method_token v.method) (map version_in entries) ≡ true
all_methods [] is = refl
all_methods (e ∷ rest) is =
    let here = and_parts (is_entry e) (list_all is_entry rest) is in
    let method = and_parts (is_method_token e.method) (nat_lt (length e.code) (2 ^ 32)) here.0 in
    and_from (is_method_token e.method) (list_all (λ (v : NewVersion). is_method_token v.method) (map version_in rest)) method.0 (all_methods rest here.1)

pub ready_methods : (entries : List CodeEntry) (ready rest : List NewVersion) → list_all is_entry entries ≡ true → rest ≡ [] → ready ++ rest ≡ map version_in entries → list_all (λ (v : NewVersion). is_method_token v.method) ready ≡ true
ready_methods entries ready rest is none e =
    let same : ready ≡ map version_in entries = sym (append-nil ready) ∙ (rw none at e) in
    rw same (all_methods entries is)

pub none_mapped : (entries : List CodeEntry) → entries ≡ [] → map version_in entries ≡ []
none_mapped entries none = rw none refl

pub entry_more : (entries : List CodeEntry) (e : CodeEntry) → list_all is_entry entries ≡ true → is_entry e ≡ true → list_all is_entry (entries ++ e ∷ []) ≡ true
entry_more [] e each new = and_from (is_entry e) true new refl
entry_more (x ∷ rest) e each new =
    let here = and_parts (is_entry x) (list_all is_entry rest) each in
    and_from (is_entry x) (list_all is_entry (rest ++ e ∷ [])) here.0 (entry_more rest e here.1 new)
