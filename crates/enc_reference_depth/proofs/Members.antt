-- Members are twins after an edit where they were before, and twins of one another.
use Rattle.std.proofs.Common.{◌≡◌, ℕ, Bool, true, false, Option, Some, refl, sym, ap, subst, ◌∙◌, arith}
use Rattle.std.specs.Prelude.{◌&&◌, ◌||◌, ◌==◌, ◌%◌, not, unwrap_or, bytes_eq}
use Rattle.std.proofs.lemmas.Bool.{eq-eqb, and_parts, and_from}
use Rattle.std.proofs.lemmas.Bool.Decides.{nat_tests}
use Rattle.std.proofs.lemmas.Slice.Eq.{bytes_eq-Decides}
use Rattle.enc_base.specs.declared.token.Token.{Token}
use Rattle.enc_schema.specs.Children.{is_child_table}
use Rattle.enc_schema.specs.Schema.{columns_in}
use Rattle.enc_schema.proofs.ChildTables.{by_child}
use Rattle.enc_plain.specs.Cell.{numbers, texts, kind_in}
use Rattle.enc_plain.specs.Module.{Module, cells_of, has_row}
use Rattle.enc_plain.specs.Rows.{Rows, number_at, bytes_at}
use Rattle.enc_plain.specs.Signatures.{signature_column}
use Rattle.enc_plain.specs.Alike.{signatures_alike}
use Rattle.enc_plain.proofs.SignatureColumns.{signature_kind}
use Rattle.enc_delta.specs.Changes.{asked_of, is_member, is_signature_column, may_differ, name_column, same_signature}
use Rattle.enc_delta.specs.Twins.{Asked, is_twin}
use Rattle.enc_delta.proofs.NearTwins.{iff_is}
use Rattle.enc_reference_depth.specs.Kept.{Lasts, TwinsLast, TwinsAreMutual}
use Rattle.enc_reference_depth.proofs.Signatures.{EachIn, signatures_back, signatures_on}
use Rattle.enc_reference_depth.proofs.Sound.{Names}
use Rattle.enc_reference_depth.proofs.RowsKept.{number_kept, text_kept, signature_kept}
use Rattle.enc_reference_depth.proofs.TokensKept.{row_names, signatures_after, signatures_before}

-- what tells whether a row is a member that counts, by its table
one_of_four : (x : Bool) → (x || false || false || false) ≡ x
one_of_four true = refl
one_of_four false = refl

one_of_three : (x : Bool) → (x || false || false) ≡ x
one_of_three true = refl
one_of_three false = refl

field_by : (k : ℕ) (x y : Bool) → k ≡ 0x04 → (k == 0x04 && x || k == 0x06 && y || k == 0x14 || k == 0x17) ≡ x
field_by k x y e = rw e (one_of_four x)

method_by : (k : ℕ) (x y : Bool) → k ≡ 0x06 → (k == 0x04 && x || k == 0x06 && y || k == 0x14 || k == 0x17) ≡ y
method_by k x y e = rw e (one_of_three y)

field_member : (rows : Rows) (t : Token) → t.table ≡ 0x04 → is_member rows t ≡ not (number_at rows t 0 % 8 == 0)
unfolding is_member
field_member rows t e = field_by t.table (not (number_at rows t 0 % 8 == 0)) (not (number_at rows t 2 % 8 == 0)) e

method_member : (rows : Rows) (t : Token) → t.table ≡ 0x06 → is_member rows t ≡ not (number_at rows t 2 % 8 == 0)
unfolding is_member
method_member rows t e = method_by t.table (not (number_at rows t 0 % 8 == 0)) (not (number_at rows t 2 % 8 == 0)) e

param_member : (rows : Rows) (t : Token) → t.table ≡ 0x08 → is_member rows t ≡ false
unfolding is_member
param_member rows t e = rw e refl

event_member : (rows : Rows) (t : Token) → t.table ≡ 0x14 → is_member rows t ≡ true
unfolding is_member
event_member rows t e = rw e refl

property_member : (rows : Rows) (t : Token) → t.table ≡ 0x17 → is_member rows t ≡ true
unfolding is_member
property_member rows t e = rw e refl

-- what is told of a row's signature
event_signature : (rows : Rows) (t u : Token) → t.table ≡ 0x14 → same_signature rows t u ≡ true
unfolding same_signature
event_signature rows t u e = rw e refl

other_signature : (rows : Rows) (t u : Token) (i : ℕ) → (t.table == 0x14) ≡ false → signature_column t.table ≡ Some i
    → same_signature rows t u ≡ signatures_alike rows t.table (bytes_at rows t i) (bytes_at rows u i)
unfolding same_signature
other_signature rows t u i other e = rw (other, e) refl

-- a column with the signature of a table
is_column : (t i : ℕ) → signature_column t ≡ Some i → is_signature_column t i ≡ true
is_column t i e = ap (λ (o : Option ℕ). unwrap_or o 0xFF == i) e ∙ eq-eqb i i refl

twin_by : (q r : Asked) (t u : Token) → q.counts u ≡ r.counts u → q.name t ≡ r.name t → q.name u ≡ r.name u → q.alike t u ≡ r.alike t u
    → is_twin q t u ≡ is_twin r t u
twin_by q r t u a b c d = rw (a, b, c, d) refl

none_counts : (a c d : Bool) → (a && false && c && d) ≡ false
none_counts true c d = refl
none_counts false c d = refl

no_twin : (q : Asked) (t u : Token) → q.counts u ≡ false → is_twin q t u ≡ false
no_twin q t u e = rw e (none_counts (not (t.row == u.row)) (bytes_eq (q.name t) (q.name u)) (q.alike t u))

module _ (m n : Module) (lasts : Lasts m n) where
  same_number : (t : Token) (i : ℕ) → has_row m t ≡ true → may_differ t.table i ≡ false → kind_in t.table i ≡ Some numbers
      → number_at (cells_of n) t i ≡ number_at (cells_of m) t i
  same_number t i there may e = sym (number_kept m n t i lasts.keeps there may e)

  same_text : (t : Token) (i : ℕ) → has_row m t ≡ true → may_differ t.table i ≡ false → kind_in t.table i ≡ Some texts
      → bytes_at (cells_of n) t i ≡ bytes_at (cells_of m) t i
  same_text t i there may e = sym (text_kept m n t i lasts.keeps there may e)

  kept_there : (t : Token) (i : ℕ) → has_row m t ≡ true → may_differ t.table i ≡ false → signature_column t.table ≡ Some i
      → signatures_alike (cells_of n) t.table (bytes_at (cells_of m) t i) (bytes_at (cells_of n) t i) ≡ true
  kept_there t i there may e = signature_kept m n t i lasts.keeps there may (signature_kind t.table i e) (is_column t.table i e)

  signatures_same : (t u : Token) (i : ℕ) → has_row m t ≡ true → has_row m u ≡ true → t.table ≡ u.table → may_differ t.table i ≡ false
      → signature_column t.table ≡ Some i → (t.table == 0x1B) ≡ false
      → signatures_alike (cells_of n) t.table (bytes_at (cells_of n) t i) (bytes_at (cells_of n) u i)
      ≡ signatures_alike (cells_of m) t.table (bytes_at (cells_of m) t i) (bytes_at (cells_of m) u i)
  signatures_same t u i there too same may e other =
      let table = t.table in
      let a = bytes_at (cells_of m) t i in
      let b = bytes_at (cells_of m) u i in
      let c = bytes_at (cells_of n) t i in
      let d = bytes_at (cells_of n) u i in
      let first = kept_there t i there may e in
      let second = subst (λ k. signatures_alike (cells_of n) k b d ≡ true) (sym same)
      (kept_there u i too (subst (λ k. may_differ k i ≡ false) same may) (sym (ap signature_column same) ∙ e)) in
      let p = row_names m t i lasts.before there e in
      let q = subst (λ k. EachIn (Names m) k b) (sym same) (row_names m u i lasts.before too (sym (ap signature_column same) ∙ e)) in
      iff_is (signatures_alike (cells_of n) table c d) (signatures_alike (cells_of m) table a b)
      (λ h. signatures_before m n lasts table a b other p q
      (signatures_on (cells_of n) table a c b first (signatures_on (cells_of n) table c d b h (signatures_back (cells_of n) table b d second))))
      (λ h. signatures_on (cells_of n) table c a d (signatures_back (cells_of n) table a c first)
      (signatures_on (cells_of n) table a b d (signatures_after m n lasts table a b other p q h) second))

  -- a table's columns that tell twins apart
  record Told (table name : ℕ) : Type 0 where
    kind : kind_in table name ≡ Some texts
    may : may_differ table name ≡ false
    at : name_column table ≡ name

  names_same : (t : Token) (table name : ℕ) → Told table name → t.table ≡ table → has_row m t ≡ true
      → bytes_at (cells_of n) t (name_column t.table) ≡ bytes_at (cells_of m) t (name_column t.table)
  names_same t table name told e there =
      let at : name_column t.table ≡ name = ap name_column e ∙ told.at in
      rw at (same_text t name there (rw e told.may) (rw e told.kind))

  twins_by : (t u : Token) (table name : ℕ) → Told table name → t.table ≡ table → u.table ≡ table → has_row m t ≡ true → has_row m u ≡ true
      → is_member (cells_of n) u ≡ is_member (cells_of m) u → same_signature (cells_of n) t u ≡ same_signature (cells_of m) t u
      → is_twin (asked_of (cells_of n)) t u ≡ is_twin (asked_of (cells_of m)) t u
  twins_by t u table name told e f there too counts alike =
      twin_by (asked_of (cells_of n)) (asked_of (cells_of m)) t u counts (names_same t table name told e there) (names_same u table name told f too) alike

  signed_by : (t u : Token) (table i : ℕ) → t.table ≡ table → u.table ≡ table → has_row m t ≡ true → has_row m u ≡ true
      → signature_column table ≡ Some i → may_differ table i ≡ false → (table == 0x14) ≡ false → (table == 0x1B) ≡ false
      → same_signature (cells_of n) t u ≡ same_signature (cells_of m) t u
  signed_by t u table i e f there too column may event spec =
      let c : signature_column t.table ≡ Some i = ap signature_column e ∙ column in
      let g : (t.table == 0x14) ≡ false = rw e event in
      other_signature (cells_of n) t u i g c
      ∙ signatures_same t u i there too (e ∙ sym f) (rw e may) c (rw e spec)
      ∙ sym (other_signature (cells_of m) t u i g c)

  abbrev Same : ℕ → Type 0
  Same table = (t u : Token) → t.table ≡ table → u.table ≡ table → has_row m t ≡ true → has_row m u ≡ true
      → is_twin (asked_of (cells_of n)) t u ≡ is_twin (asked_of (cells_of m)) t u

  field_told : Told 0x04 1
  unfolding columns_in
  field_told = record { kind = refl; may = refl; at = refl }

  method_told : Told 0x06 3
  unfolding columns_in
  method_told = record { kind = refl; may = refl; at = refl }

  event_told : Told 0x14 1
  unfolding columns_in
  event_told = record { kind = refl; may = refl; at = refl }

  property_told : Told 0x17 1
  unfolding columns_in
  property_told = record { kind = refl; may = refl; at = refl }

  flags_kind : (kind_in 0x04 0 ≡ Some numbers) × (kind_in 0x06 2 ≡ Some numbers)
  unfolding columns_in
  flags_kind = (refl, refl)

  flags_of : (t : Token) (table i : ℕ) → t.table ≡ table → has_row m t ≡ true → may_differ table i ≡ false → kind_in table i ≡ Some numbers
      → number_at (cells_of n) t i ≡ number_at (cells_of m) t i
  flags_of t table i e there may kind = same_number t i there (rw e may) (rw e kind)

  columns_told : (signature_column 0x04 ≡ Some 2) × (signature_column 0x06 ≡ Some 4) × (signature_column 0x17 ≡ Some 2)
  unfolding signature_column
  columns_told = (refl, refl, refl)

  fields_same : Same 0x04
  fields_same t u e f there too =
      twins_by t u 0x04 1 field_told e f there too
      (field_member (cells_of n) u f ∙ ap (λ k. not (k % 8 == 0)) (flags_of u 0x04 0 f too refl flags_kind.0) ∙ sym (field_member (cells_of m) u f))
      (signed_by t u 0x04 2 e f there too columns_told.0 refl refl refl)

  methods_same : Same 0x06
  methods_same t u e f there too =
      twins_by t u 0x06 3 method_told e f there too
      (method_member (cells_of n) u f ∙ ap (λ k. not (k % 8 == 0)) (flags_of u 0x06 2 f too refl flags_kind.1) ∙ sym (method_member (cells_of m) u f))
      (signed_by t u 0x06 4 e f there too columns_told.1 refl refl refl)

  params_same : Same 0x08
  params_same t u e f there too =
      no_twin (asked_of (cells_of n)) t u (param_member (cells_of n) u f) ∙ sym (no_twin (asked_of (cells_of m)) t u (param_member (cells_of m) u f))

  events_same : Same 0x14
  events_same t u e f there too =
      twins_by t u 0x14 1 event_told e f there too (event_member (cells_of n) u f ∙ sym (event_member (cells_of m) u f))
      (event_signature (cells_of n) t u e ∙ sym (event_signature (cells_of m) t u e))

  properties_same : Same 0x17
  properties_same t u e f there too =
      twins_by t u 0x17 1 property_told e f there too (property_member (cells_of n) u f ∙ sym (property_member (cells_of m) u f))
      (signed_by t u 0x17 2 e f there too columns_told.2 refl refl refl)

  pub members_same : (t u : Token) → has_row m t ≡ true → has_row m u ≡ true → t.table ≡ u.table → is_child_table t.table ≡ true
      → is_twin (asked_of (cells_of n)) t u ≡ is_twin (asked_of (cells_of m)) t u
  members_same t u there too same child =
      by_child Same fields_same methods_same params_same events_same properties_same t.table child t u refl (sym same) there too

pub twins_last : TwinsLast
twins_last m n lasts t u there too same child = members_same m n lasts t u there too same child

-- a twin of what counts has it as its twin
back_by : (rows : Rows) (t u : Token) (i : ℕ) (b : Bool) → (t.table == 0x14) ≡ b → t.table ≡ u.table
    → (b || signatures_alike rows t.table (bytes_at rows t i) (bytes_at rows u i)) ≡ true
    → (b || signatures_alike rows t.table (bytes_at rows u i) (bytes_at rows t i)) ≡ true
back_by rows t u i true e same h = refl
back_by rows t u i false e same h = signatures_back rows t.table (bytes_at rows t i) (bytes_at rows u i) h

signature_back : (rows : Rows) (t u : Token) → t.table ≡ u.table → same_signature rows t u ≡ true → same_signature rows u t ≡ true
unfolding same_signature
signature_back rows t u same h =
    subst (λ k. (k == 0x14 || signatures_alike rows k (bytes_at rows u (unwrap_or (signature_column k) 0)) (bytes_at rows t (unwrap_or (signature_column k) 0))) ≡ true)
    same (back_by rows t u (unwrap_or (signature_column t.table) 0) (t.table == 0x14) refl same h)

turned : (a b : ℕ) → not (a == b) ≡ true → not (b == a) ≡ true
turned a b h = grind (arith, nat_tests)

names_back : (rows : Rows) (t u : Token) → t.table ≡ u.table
    → bytes_eq (bytes_at rows t (name_column t.table)) (bytes_at rows u (name_column u.table)) ≡ true
    → bytes_eq (bytes_at rows u (name_column u.table)) (bytes_at rows t (name_column t.table)) ≡ true
names_back rows t u same h =
    let a = bytes_at rows t (name_column t.table) in
    let b = bytes_at rows u (name_column u.table) in
    (bytes_eq-Decides b a).1 (sym ((bytes_eq-Decides a b).0 h))

pub twins_are_mutual : TwinsAreMutual
twins_are_mutual rows t u same counts h =
    let q = asked_of rows in
    let a = and_parts (not (t.row == u.row) && q.counts u && bytes_eq (q.name t) (q.name u)) (q.alike t u) h in
    let b = and_parts (not (t.row == u.row) && q.counts u) (bytes_eq (q.name t) (q.name u)) a.0 in
    let c = and_parts (not (t.row == u.row)) (q.counts u) b.0 in
    and_from (not (u.row == t.row) && q.counts t && bytes_eq (q.name u) (q.name t)) (q.alike u t)
    (and_from (not (u.row == t.row) && q.counts t) (bytes_eq (q.name u) (q.name t))
    (and_from (not (u.row == t.row)) (q.counts t) (turned t.row u.row c.0) counts) (names_back rows t u same b.1)) (signature_back rows t u same a.1)
