-- Signatures whose tokens go with their rows are signatures of their tables' kinds.
use Rattle.std.proofs.Common.{◌≡◌, ℕ, zero, suc, ◌+◌, ◌*◌, ◌/◌, ◌%◌, ◌^◌, ◌<◌, ◌≤◌, Bool, true, false, List, [], ◌∷◌, take, Option, Some, None, refl, sym, ap, ◌∙◌, arith}
use Rattle.std.specs.Prelude.{◌==◌, ◌&&◌, not, is_some, nat_le, if◌then◌else◌}
use Rattle.std.proofs.Math.Nat.{mod-lt}
use Rattle.std.proofs.lemmas.Bool.{and_parts, and_from}
use Rattle.std.proofs.lemmas.Bool.Decides.{nat_tests}
use Rattle.enc_base.specs.declared.token.Token.{Token}
use Rattle.enc_sigs.specs.Grammar.{table_of, token_named, is_coded, is_counted, sig_in}
use Rattle.enc_sigs.specs.Spelling.{token_number, sig_bytes}
use Rattle.enc_sigs.specs.Tree.{SigTree}
use Rattle.enc_sigs.specs.declared.kind.SigKind.{SigKind}
use Rattle.enc_sigs.specs.declared.kind.SigKind.TheVariants as kind
use Rattle.enc_sigs.proofs.Named.{counted_names}
use Rattle.enc_sigs.proofs.Wider.{sig_keeps}
use Rattle.enc_opcodes.specs.Body.{begins_locals}
use Rattle.enc_plain.specs.Module.{Module, has_row, cells_of}
use Rattle.enc_plain.specs.Rows.{bytes_at}
use Rattle.enc_plain.specs.Signatures.{signature_column, member_kind, alone_kind, kind_in_table, is_signature}
use Rattle.enc_plain.specs.Sound.{row_count, HasTables, HasCounts, HasKinds, HasSignatures}
use Rattle.enc_plain.proofs.CellsOf.{blob_there}
use Rattle.enc_plain.proofs.SignatureColumns.{signature_kind}
use Rattle.enc_row_order.specs.Orders.{Orders, place_in_order, moved_by}
use Rattle.enc_compact.specs.Moved.{AreOrders, spelled_or, signature_moved, holds_signatures, module_with}
use Rattle.enc_sigs.specs.Moved.{sig_moved, GoesTo, MovedReadsBack, MovedBeginsAlike}
use Rattle.enc_compact.proofs.CountsKept.{each_row}
use Rattle.enc_compact.proofs.KindsKept.{blob_at}
use Rattle.enc_compact.proofs.Places.{is_order, new_bounds}
use Rattle.enc_compact.proofs.Rows.{counts_moved, signature_there}

-- the first byte stays
begins_by : (f : Token → Token) (table : ℕ) (bytes : List ℕ) (o : Option SigTree) → MovedBeginsAlike → sig_in is_coded (kind_in_table table bytes) bytes ≡ o
    → take 1 (spelled_or f bytes o) ≡ take 1 bytes
begins_by f table bytes None alike e = refl
begins_by f table bytes (Some s) alike e = alike f is_coded (kind_in_table table bytes) bytes s e

pub begins_alike : (f : Token → Token) (table : ℕ) (bytes : List ℕ) → MovedBeginsAlike → take 1 (signature_moved f table bytes) ≡ take 1 bytes
unfolding signature_moved
begins_alike f table bytes alike = begins_by f table bytes (sig_in is_coded (kind_in_table table bytes) bytes) alike refl

locals_first : (bytes : List ℕ) → begins_locals bytes ≡ begins_locals (take 1 bytes)
locals_first [] = refl
locals_first (b ∷ rest) = refl

member_first : (bytes : List ℕ) → member_kind bytes ≡ member_kind (take 1 bytes)
member_first [] = refl
member_first (b ∷ rest) = refl

alone_first : (bytes : List ℕ) → alone_kind bytes ≡ alone_kind (take 1 bytes)
alone_first [] = refl
alone_first (b ∷ rest) = refl

pub locals_alike : (a b : List ℕ) → take 1 a ≡ take 1 b → begins_locals a ≡ begins_locals b
locals_alike a b e = locals_first a ∙ ap begins_locals e ∙ sym (locals_first b)

-- so a signature is of the kind that it was
kind_with : ℕ → SigKind → SigKind → SigKind
kind_with table member alone =
    if table == 0x04 then kind.Field
    else if table == 0x06 then kind.Method
    else if table == 0x0A then member
    else if table == 0x11 then alone
    else if table == 0x17 then kind.Property
    else if table == 0x1B then kind.TypeSpec
    else kind.MethodSpec

kind_is : (table : ℕ) (bytes : List ℕ) → kind_in_table table bytes ≡ kind_with table (member_kind bytes) (alone_kind bytes)
unfolding kind_in_table kind_with
kind_is table bytes = refl

pub kinds_alike : (table : ℕ) (a b : List ℕ) → take 1 a ≡ take 1 b → kind_in_table table a ≡ kind_in_table table b
kinds_alike table a b e =
    let member : member_kind a ≡ member_kind b = member_first a ∙ ap member_kind e ∙ sym (member_first b) in
    let alone : alone_kind a ≡ alone_kind b = alone_first a ∙ ap alone_kind e ∙ sym (alone_first b) in
    kind_is table a ∙ ap (λ k. kind_with table k (alone_kind a)) member ∙ ap (λ k. kind_with table (member_kind b) k) alone ∙ sym (kind_is table b)

-- the number of a token with its row moved
tag_number : (tag row : ℕ) → tag < 3 → token_number (record { table = table_of tag; row = row }) ≡ row * 4 + tag
tag_number zero row h = refl
tag_number (suc zero) row h = refl
tag_number (suc (suc zero)) row h = refl
tag_number (suc (suc (suc k))) row h = absurd (omega arith)

number_row : (tag row : ℕ) → tag < 3 → (row * 4 + tag) / 4 ≡ row
number_row tag row h = omega arith

number_tag : (tag row : ℕ) → tag < 3 → (row * 4 + tag) % 4 ≡ tag
number_tag tag row h = omega arith

tag_low : (n : ℕ) → is_coded n ≡ true → n % 4 < 3
unfolding is_coded
tag_low n h =
    let low : n % 4 < 4 = mod-lt n (omega arith) in
    let other : (n % 4 == 3) ≡ false = not_true (n % 4 == 3) h in
    low_of (n % 4) low other
  where
    not_true : (b : Bool) → not b ≡ true → b ≡ false
    not_true true h = absurd cc
    not_true false h = refl

    low_of : (k : ℕ) → k < 4 → (k == 3) ≡ false → k < 3
    low_of k h e = grind (arith, nat_tests)

goes_by : (f : Token → Token) (count : ℕ → ℕ) (n row : ℕ) → n % 4 < 3 → 1 ≤ row → row ≤ count (table_of (n % 4)) → row < 2 ^ 24
    → f (token_named n) ≡ record { table = table_of (n % 4); row = row } → GoesTo f (is_counted count) n
unfolding is_counted is_coded
goes_by f count n row tag low high few e =
    let t : ℕ = n % 4 in
    let number : token_number (f (token_named n)) ≡ row * 4 + t = ap token_number e ∙ tag_number t row tag in
    let back : token_named (row * 4 + t) ≡ record { table = table_of t; row = row } = rw (number_row t row tag, number_tag t row tag) refl in
    let coded : not ((row * 4 + t) % 4 == 3) ≡ true = rw (number_tag t row tag) (not_three t tag) in
    let some : nat_le 1 ((row * 4 + t) / 4) ≡ true = rw (number_row t row tag) (le_true 1 row low) in
    let within : nat_le ((row * 4 + t) / 4) (count (table_of ((row * 4 + t) % 4))) ≡ true =
    rw (number_row t row tag, number_tag t row tag) (le_true row (count (table_of t)) high) in
    record {
      named = ap token_named number ∙ back ∙ sym e;
      short = rw number (omega arith);
      passes = rw number (and_from _ _ (and_from _ _ coded some) within);
    }
  where
    not_three : (k : ℕ) → k < 3 → not (k == 3) ≡ true
    not_three k h = let e : (k == 3) ≡ false = grind (arith, nat_tests) in rw e refl

    le_true : (a b : ℕ) → a ≤ b → nat_le a b ≡ true
    le_true a b h = grind (arith, nat_tests)

-- a token that names a row goes to one
pub goes_to : (m : Module) (orders : Orders) (n : ℕ) → HasCounts m → AreOrders m orders → is_counted (row_count m) n ≡ true
    → GoesTo (moved_by orders) (is_counted (row_count m)) n
unfolding is_counted moved_by
goes_to m orders n counts are h =
    let a = and_parts (is_coded n && nat_le 1 (n / 4)) (nat_le (n / 4) (row_count m (table_of (n % 4)))) h in
    let c = and_parts (is_coded n) (nat_le 1 (n / 4)) a.0 in
    let t : ℕ = table_of (n % 4) in
    let few = counts.few t in
    let b = new_bounds (row_count m t) (orders t) (n / 4) (is_order m orders t are) (le_of 1 (n / 4) c.1) (le_of (n / 4) (row_count m t) a.1) in
    goes_by (moved_by orders) (row_count m) n (place_in_order (orders t) (n / 4)) (tag_low n c.0) b.0 b.1 (omega (arith, b.1, few)) refl
  where
    le_of : (a b : ℕ) → nat_le a b ≡ true → a ≤ b
    le_of a b h = grind (arith, nat_tests)

-- the tree of a signature that names rows
some_of : {A : Type 0} (o : Option A) → is_some o ≡ true → (x : A) × (o ≡ Some x)
some_of None h = absurd cc
some_of (Some x) h = (x, refl)

pub sig_read : (count : ℕ → ℕ) (table : ℕ) (bytes : List ℕ) → is_signature count table bytes ≡ true
    → (s : SigTree) × (sig_in (is_counted count) (kind_in_table table bytes) bytes ≡ Some s)
unfolding is_signature
sig_read count table bytes h = some_of (sig_in (is_counted count) (kind_in_table table bytes) bytes) h

pub signature_is : (f : Token → Token) (count : ℕ → ℕ) (table : ℕ) (bytes : List ℕ) (s : SigTree)
    → sig_in (is_counted count) (kind_in_table table bytes) bytes ≡ Some s
    → signature_moved f table bytes ≡ sig_bytes (sig_moved f s)
unfolding signature_moved
signature_is f count table bytes s e =
    ap (spelled_or f bytes) (sig_keeps (is_counted count) is_coded (kind_in_table table bytes) bytes s (counted_names count) e)

is_by : (count : ℕ → ℕ) (table : ℕ) (bytes : List ℕ) (s : SigTree) (k : SigKind) → kind_in_table table bytes ≡ k → sig_in (is_counted count) k bytes ≡ Some s
    → is_signature count table bytes ≡ true
unfolding is_signature
is_by count table bytes s k same e = rw (same, e) refl

-- a signature with its tokens moved is one
pub signature_stays : (m : Module) (orders : Orders) (table : ℕ) (bytes : List ℕ) → MovedReadsBack → MovedBeginsAlike → HasCounts m → AreOrders m orders
    → is_signature (row_count m) table bytes ≡ true → is_signature (row_count m) table (signature_moved (moved_by orders) table bytes) ≡ true
signature_stays m orders table bytes back alike counts are h =
    let f : Token → Token = moved_by orders in
    let w = sig_read (row_count m) table bytes h in
    let is = signature_is f (row_count m) table bytes w.0 w.1 in
    let again = back f (is_counted (row_count m)) (is_counted (row_count m)) (kind_in_table table bytes) bytes w.0
    (λ n good. goes_to m orders n counts are good) w.1 in
    let same = kinds_alike table (signature_moved f table bytes) bytes (begins_alike f table bytes alike) in
    rw is (is_by (row_count m) table (sig_bytes (sig_moved f w.0)) (sig_moved f w.0) (kind_in_table table bytes) (rw is at same) again)

column_is : (table i : ℕ) → signature_column table ≡ Some i → holds_signatures table i ≡ true
column_is table i e = let same : (i == i) ≡ true = grind (arith, nat_tests) in rw e same

signature_at : (m : Module) (orders : Orders) (t : Token) (i : ℕ) → MovedReadsBack → MovedBeginsAlike → HasTables m → HasCounts m → HasKinds m → HasSignatures m
    → AreOrders m orders → has_row m t ≡ true → signature_column (moved_by orders t).table ≡ Some i
    → is_signature (row_count m) (moved_by orders t).table (bytes_at (cells_of (module_with orders m)) (moved_by orders t) i) ≡ true
unfolding moved_by
signature_at m orders t i back alike has counts kinds signatures are there e =
    let w = blob_at m t i kinds there (signature_kind t.table i e) in
    let old : is_signature (row_count m) t.table w.0 ≡ true = rw (blob_there m t i w.0 w.1) (signatures.each t i there e) in
    let now = signature_there m orders t i w.0 has are (column_is t.table i e) w.1 in
    ap (is_signature (row_count m) t.table) now ∙ signature_stays m orders t.table w.0 back alike counts are old

-- so is each signature of the new module
pub signatures_kept : (m : Module) (orders : Orders) → MovedReadsBack → MovedBeginsAlike → HasTables m → HasCounts m → HasKinds m → AreOrders m orders
    → HasSignatures m
    → HasSignatures (module_with orders m)
signatures_kept m orders back alike has counts kinds are signatures = record {
  each = λ u i there. each_row m orders
      (λ u. signature_column u.table ≡ Some i → is_signature (row_count (module_with orders m)) u.table (bytes_at (cells_of (module_with orders m)) u i) ≡ true)
      has are (λ t here e. rw (counts_moved m orders has are) (signature_at m orders t i back alike has counts kinds signatures are here e)) u there;
}
