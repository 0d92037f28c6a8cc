-- What the schema says of columns with cells: they stand before the runs, and each has one kind.
use Rattle.std.proofs.Common.{◌≡◌, ℕ, zero, suc, ◌<◌, Bool, true, false, List, [], ◌∷◌, length, Option, Some, None, refl, inl, inr, arith}
use Rattle.std.specs.Prelude.{is_some, not, ◌&&◌, option_and_then, slice_get, filter, if◌then◌else◌, ◌⊎◌, IsSome, ◌==◌, ◌||◌}
use Rattle.std.specs.List.{list_all, list_any}
use Rattle.std.proofs.lemmas.Bool.Decides.{nat_tests}
use Rattle.enc_schema.specs.declared.column.Column.{Column}
use Rattle.enc_schema.specs.declared.column.Column.TheVariants.{Num8, Num16, Num32, Text, Guid, Blob, Index, Coded, Run}
use Rattle.enc_schema.specs.declared.column.Coding.{Coding}
use Rattle.enc_schema.specs.Schema.{list_at, schema, columns_in, column_in}
use Rattle.enc_plain.specs.Cell.{Kind, number, numbers, texts, blobs, guids, references, bodies, fields, kind_of, is_body, is_field, kind_in, cell_count}
use Rattle.enc_plain.specs.Reading.{Reading, cell_read}

pub part_cases : (b : Bool) → (b ≡ true) ⊎ (b ≡ false)
part_cases true = inl refl
part_cases false = inr refl

-- behind a run stand runs alone
unfoldable pub runs_last : List Column → Bool
runs_last [] = true
runs_last (c ∷ cs) = if is_some (kind_of c) then runs_last cs else list_all (λ (d : Column). not (is_some (kind_of d))) cs

pub all_last : list_all runs_last schema ≡ true
unfolding runs_last
all_last = refl

pub both_left : (a b : Bool) → (a && b) ≡ true → a ≡ true
both_left true b h = refl
both_left false b h = h

pub both_right : (a b : Bool) → (a && b) ≡ true → b ≡ true
both_right true b h = h
both_right false b h = absurd cc

one_of : (p : ℕ → Bool) (k t : ℕ) (rest b : Bool) → (k == t) ≡ b → (b || rest) ≡ true → p k ≡ true → (rest ≡ true → p t ≡ true) → p t ≡ true
one_of p k t rest true e h here later = let is : k ≡ t = grind (arith, nat_tests) in rw (← is) here
one_of p k t rest false e h here later = later h

-- what holds of each number of a list holds of a number that is among them
pub each_of : (p : ℕ → Bool) (ks : List ℕ) (t : ℕ) → list_all p ks ≡ true → list_any (λ k. k == t) ks ≡ true → p t ≡ true
each_of p [] t all h = absurd cc
each_of p (k ∷ ks) t all h = one_of p k t (list_any (λ j. j == t) ks) (k == t) refl h (both_left _ _ all) (λ e. each_of p ks t (both_right _ _ all) e)

not_both : (a : Bool) → not a ≡ true → a ≡ true → ⊥
not_both true h k = absurd cc
not_both false h k = absurd cc

pub each : {A : Type 0} (p : List A → Bool) (xs : List (List A)) (i : ℕ) → list_all p xs ≡ true → p [] ≡ true → p (list_at xs i) ≡ true
each p [] i h e = e
each p (x ∷ xs) zero h e = both_left (p x) (list_all p xs) h
each p (x ∷ xs) (suc i) h e = each p xs i (both_right (p x) (list_all p xs) h) e

pub none_last : (cs : List Column) (i : ℕ) (c : Column) → list_all (λ (d : Column). not (is_some (kind_of d))) cs ≡ true → slice_get cs i ≡ Some c → is_some (kind_of c) ≡ true → ⊥
none_last [] i c h e k = absurd cc
none_last (x ∷ xs) zero c h e k =
    let is : x ≡ c = cc in
    let n : not (is_some (kind_of x)) ≡ true = both_left _ _ h in
    not_both _ (rw is at n) k
none_last (x ∷ xs) (suc i) c h e k = none_last xs i c (both_right _ _ h) e k

counted : (cs : List Column) (i : ℕ) (c : Column) → runs_last cs ≡ true → slice_get cs i ≡ Some c → is_some (kind_of c) ≡ true → i < length (filter (λ (d : Column). is_some (kind_of d)) cs)
unfolding runs_last
counted [] i c h e k = absurd cc
counted (x ∷ xs) zero c h e k =
    let is : x ≡ c = cc in
    rw (is, k) (omega arith)
counted (x ∷ xs) (suc i) c h e k =
    elim (part_cases (is_some (kind_of x))) [
      | inl cell ↦ rw cell (omega (arith, counted xs i c (rw cell at h) e k))
      | inr run ↦ absurd (none_last xs i c (rw run at h) e k)
    ]

-- a column with a kind is one of those with cells
pub in_cells : (table i : ℕ) (c : Column) → column_in table i ≡ Some c → is_some (kind_of c) ≡ true → i < cell_count table
unfolding columns_in runs_last
in_cells table i c e k = counted (list_at schema table) i c (each runs_last schema table all_last refl) e k

-- the kinds of the columns whose numbers are no places of bytes
abbrev pub is_plain : Kind → Bool
is_plain bodies = false
is_plain fields = false
is_plain k = true

-- a column whose number is the place of a body or of a field's bytes has no other kind
pub record HasPlainKind (table i : ℕ) (k : Kind) : Type 0 where
  pub body : is_body table i ≡ false
  pub field : is_field table i ≡ false
  pub kind : option_and_then kind_of (column_in table i) ≡ Some k

plain_from : (b f : Bool) (o : Option Kind) (k : Kind) → is_plain k ≡ true → (if b then Some bodies else if f then Some fields else o) ≡ Some k → (b ≡ false) × (f ≡ false) × (o ≡ Some k)
plain_from true f o k plain h = let e : bodies ≡ k = cc in let n = rw (← e) at plain in absurd cc
plain_from false true o k plain h = let e : fields ≡ k = cc in let n = rw (← e) at plain in absurd cc
plain_from false false o k plain h = (refl, refl, h)

-- such a kind is that of its column
pub plain_kind : (table i : ℕ) (k : Kind) → is_plain k ≡ true → kind_in table i ≡ Some k → HasPlainKind table i k
plain_kind table i k plain h =
    let p = plain_from (is_body table i) (is_field table i) (option_and_then kind_of (column_in table i)) k plain h in
    record { body = p.0; field = p.1; kind = p.2 }

-- the column of a cell of this kind
pub column_with : (o : Option Column) (k : Kind) → option_and_then kind_of o ≡ Some k → (c : Column) × (o ≡ Some c) × (kind_of c ≡ Some k)
column_with (Some c) k h = (c, refl, h)
column_with None k h = absurd cc

-- the one column with texts, the one with blobs, and the one with GUIDs
pub text_column : (c : Column) → kind_of c ≡ Some texts → c ≡ Text
text_column Text h = refl
text_column Num8 h = absurd cc
text_column Num16 h = absurd cc
text_column Num32 h = absurd cc
text_column Guid h = absurd cc
text_column Blob h = absurd cc
text_column (Index t) h = absurd cc
text_column (Coded k) h = absurd cc
text_column (Run t) h = absurd cc

pub blob_column : (c : Column) → kind_of c ≡ Some blobs → c ≡ Blob
blob_column Blob h = refl
blob_column Text h = absurd cc
blob_column Num8 h = absurd cc
blob_column Num16 h = absurd cc
blob_column Num32 h = absurd cc
blob_column Guid h = absurd cc
blob_column (Index t) h = absurd cc
blob_column (Coded k) h = absurd cc
blob_column (Run t) h = absurd cc

pub guid_column : (c : Column) → kind_of c ≡ Some guids → c ≡ Guid
guid_column Guid h = refl
guid_column Text h = absurd cc
guid_column Num8 h = absurd cc
guid_column Num16 h = absurd cc
guid_column Num32 h = absurd cc
guid_column Blob h = absurd cc
guid_column (Index t) h = absurd cc
guid_column (Coded k) h = absurd cc
guid_column (Run t) h = absurd cc

-- a number stands for itself
pub number_for : (r : Reading) (c : Column) (n : ℕ) → kind_of c ≡ Some numbers → cell_read r c n ≡ Some (number n)
unfolding cell_read
number_for r Num8 n e = refl
number_for r Num16 n e = refl
number_for r Num32 n e = refl
number_for r Text n e = absurd cc
number_for r Guid n e = absurd cc
number_for r Blob n e = absurd cc
number_for r (Index t) n e = absurd cc
number_for r (Coded k) n e = absurd cc
number_for r (Run t) n e = absurd cc

there_from : (table i : ℕ) (k : Kind) (b f : Bool) → is_body table i ≡ b → is_field table i ≡ f → (if b then Some bodies else if f then Some fields else option_and_then kind_of (column_in table i)) ≡ Some k → IsSome (column_in table i)
unfolding columns_in
there_from table i k true f b1 f1 h =
    let t : table ≡ 0x06 = grind (arith, nat_tests) in
    let z : i ≡ 0 = grind (arith, nat_tests) in
    rw (t, z) refl
there_from table i k false true b1 f1 h =
    let t : table ≡ 0x1D = grind (arith, nat_tests) in
    let z : i ≡ 0 = grind (arith, nat_tests) in
    rw (t, z) refl
there_from table i k false false b1 f1 h = let w = column_with _ _ h in rw w.1 refl

-- a column with a kind is there
pub column_there : (table i : ℕ) (k : Kind) → kind_in table i ≡ Some k → IsSome (column_in table i)
column_there table i k kind = there_from table i k (is_body table i) (is_field table i) refl refl kind

-- a column with references is an index or a coded one
pub reference_column : (c : Column) → kind_of c ≡ Some references → ((t : ℕ) × (c ≡ Index t)) ⊎ ((k : Coding) × (c ≡ Coded k))
reference_column (Index t) h = inl (t, refl)
reference_column (Coded k) h = inr (k, refl)
reference_column Num8 h = absurd cc
reference_column Num16 h = absurd cc
reference_column Num32 h = absurd cc
reference_column Text h = absurd cc
reference_column Guid h = absurd cc
reference_column Blob h = absurd cc
reference_column (Run t) h = absurd cc
