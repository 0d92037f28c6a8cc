-- What the index says of the rows that were there, it says of them in a module that keeps what is read of them.
use Rattle.std.proofs.Common.{◌≡◌, ℕ, zero, suc, ◌+◌, ◌<◌, ◌≤◌, Bool, true, false, List, [], ◌∷◌, length, filter, Option, Some, None, option_map, slice_get, refl, sym, ap, ◌∙◌, arith}
use Rattle.std.specs.Prelude.{◌&&◌, nat_lt, nat_le, option_and_then, if◌then◌else◌}
use Rattle.std.proofs.lemmas.Bool.Decides.{nat_tests}
use Rattle.enc_base.specs.Numbers.{has_flag}
use Rattle.enc_base.specs.Order.{first_below}
use Rattle.enc_base.specs.Token.{nth_row}
use Rattle.enc_base.specs.declared.token.Token.{Token}
use Rattle.enc_base.proofs.First.{first_none, first_suc}
use Rattle.enc_machine_types.specs.Members.{local_kinds}
use Rattle.enc_objects.specs.declared.kind.Kind.{Kind}
use Rattle.enc_plain.specs.Alike.{signatures_alike}
use Rattle.enc_plain.specs.Module.{Module, has_row, cells_of}
use Rattle.enc_plain.specs.Rows.{number_at, bytes_at}
use Rattle.enc_plain.specs.Sound.{row_count, IsSound}
use Rattle.enc_plain.proofs.OneKey.{signatures_one}
use Rattle.enc_base.specs.Tables as tables
use Rattle.enc_dispatch.specs.declared.class_part.ClassPart.{ClassPart}
use Rattle.enc_dispatch.specs.declared.method_part.MethodPart.{MethodPart}
use Rattle.enc_dispatch.specs.declared.own_method.OwnMethod.{OwnMethod}
use Rattle.enc_dispatch.specs.declared.locals_part.LocalsPart.{LocalsPart}
use Rattle.enc_dispatch.specs.declared.wanted.Wanted.{Wanted}
use Rattle.enc_dispatch.specs.declared.wanted.Wanted.TheVariants.{Virtual, Public}
use Rattle.enc_dispatch.specs.Buckets.{slot_key, is_slot, is_first_of, newest_first, AreBuckets}
use Rattle.enc_dispatch.specs.Changed.{IsChangedBy}
use Rattle.enc_dispatch.specs.Own.{virtual_slot, wanted_slot, row_part, own_among}
use Rattle.enc_dispatch.specs.Parts.{EachPart}
use Rattle.enc_plain.specs.ClassPath.{class_base}
use Rattle.enc_dispatch.specs.Interfaces.{says_interface}
use Rattle.enc_dispatch.specs.Slots.{shares_slot, shares_at, slot_in}
use Rattle.enc_dispatch.specs.Stored.{impl_for, IsClassPart, IsMethodPart, IsLocalsPart}
use Rattle.enc_dispatch.specs.Walked.{slot_at}
use Rattle.enc_dispatch.specs.Walks.{method_at, is_virtual}
use Rattle.enc_dispatch.proofs.Equivalence.{methods_equivalence, related_as}
use Rattle.enc_dispatch.proofs.Kept.{IsKept, AllThere, owner_kept}
use Rattle.enc_dispatch.proofs.References.{method_sound, signatures_same, signature_key_same, token_by, bytes_by}
use Rattle.enc_dispatch.proofs.Sharing.{nth, one_kind}

-- the n-th row is there below the count
some_row : (k n : ℕ) → k < n → (nat_lt 0 (k + 1) && nat_le (k + 1) n) ≡ true
some_row k n low = grind (arith, nat_tests, low)

pub nth_there : (m : Module) (table k : ℕ) → k < row_count m table → has_row m (nth_row table k) ≡ true
unfolding has_row
nth_there m table k low = some_row k (row_count m table) low

pub part_low : {A : Type 0} (xs : List A) (k : ℕ) (x : A) → slice_get xs k ≡ Some x → k < length xs
part_low [] k x e = absurd cc
part_low (y ∷ xs) zero x e = omega arith
part_low (y ∷ xs) (suc k) x e = omega (arith, part_low xs k x e)

-- rules that answer alike below a number
pub first_same : {A : Type 0} (f g : ℕ → Option A) (n : ℕ) → ((k : ℕ) → k < n → f k ≡ g k) → first_below f n ≡ first_below g n
first_same f g zero same = first_none f ∙ sym (first_none g)
first_same f g (suc n) same =
    first_suc f n ∙ rw (first_same f g n (λ k low. same k (omega (arith, low))), same n (omega arith)) refl ∙ sym (first_suc g n)

-- methods share slots as they did
pub shares_same : (m n : Module) (a b : Token) → IsSound m → IsKept m n → has_row m a ≡ true → has_row m b ≡ true → a.table ≡ 0x06 → b.table ≡ 0x06 → shares_slot (cells_of n) a b ≡ shares_slot (cells_of m) a b
unfolding shares_slot
shares_same m n a b sound kept ta tb ea eb =
    let sa = kept.methods a ta ea in
    let sb = kept.methods b tb eb in
    let alike = signatures_same m n (bytes_at (cells_of m) a 4) (bytes_at (cells_of m) b 4) sound kept.refs (method_sound m a sound ta ea) (method_sound m b sound tb eb) in
    let anew = related_as (signatures_alike (cells_of n) 0x06) (methods_equivalence (cells_of n)).part (bytes_at (cells_of m) a 4) (bytes_at (cells_of m) b 4) (bytes_at (cells_of n) a 4) (bytes_at (cells_of n) b 4) sa.signature sb.signature in
    rw (sa.name, sb.name, anew, alike) refl

key_same : (m n : Module) (a : Token) → IsSound m → IsKept m n → has_row m a ≡ true → a.table ≡ 0x06 → slot_key (cells_of n) a ≡ slot_key (cells_of m) a
unfolding slot_key
key_same m n a sound kept there e =
    let s = kept.methods a there e in
    let anew = signatures_one (cells_of n) 0x06 (bytes_at (cells_of m) a 4) (bytes_at (cells_of n) a 4) refl (one_kind (bytes_at (cells_of m) a 4) (bytes_at (cells_of n) a 4)) s.signature in
    let key = sym anew ∙ signature_key_same m n (bytes_at (cells_of m) a 4) sound kept.refs (method_sound m a sound there e) in
    rw (s.name, key) refl

abbrev count : Module → ℕ
count m = row_count m tables.method_def

at_same : (m n : Module) (k j : ℕ) → IsSound m → IsKept m n → k < count m → j < count m → shares_at (cells_of n) (nth k) j ≡ shares_at (cells_of m) (nth k) j
unfolding shares_at
at_same m n k j sound kept low less =
    rw (shares_same m n (nth j) (nth k) sound kept (nth_there m 0x06 j less) (nth_there m 0x06 k low) refl refl) refl

pub slot_same : (m n : Module) (k : ℕ) → IsSound m → IsKept m n → k < count m → slot_in (cells_of n) (nth k) ≡ slot_in (cells_of m) (nth k)
unfolding slot_in
slot_same m n k sound kept low =
    first_same (shares_at (cells_of n) (nth k)) (shares_at (cells_of m) (nth k)) (k + 1) (λ j less. at_same m n k j sound kept low (omega (arith, less, low)))

first_of_same : (m n : Module) (key k : ℕ) → IsSound m → IsKept m n → k < count m → is_first_of (cells_of n) key k ≡ is_first_of (cells_of m) key k
unfolding is_first_of
first_of_same m n key k sound kept low = rw (slot_same m n k sound kept low, key_same m n (nth k) sound kept (nth_there m 0x06 k low) refl) refl

newest_same : (m n : Module) (key k : ℕ) → IsSound m → IsKept m n → k ≤ count m → newest_first (cells_of n) key k ≡ newest_first (cells_of m) key k
unfolding newest_first
newest_same m n key zero sound kept low = refl
newest_same m n key (suc k) sound kept low = rw (first_of_same m n key k sound kept (omega (arith, low)), newest_same m n key k sound kept (omega (arith, low))) refl

pub buckets_same : (m n : Module) (heads : ℕ → Option ℕ) (links : List (Option ℕ)) → IsSound m → IsKept m n → length links ≡ count m → AreBuckets (cells_of m) heads links → AreBuckets (cells_of n) heads links
buckets_same m n heads links sound kept size are = record {
  heads = λ key. are.heads key ∙ sym (newest_same m n key (length links) sound kept (omega (arith, size)));
  next = λ k o e.
      let low : k < count m = omega (arith, part_low links k o e, size) in
      are.next k o e
      ∙ sym (newest_same m n (slot_key (cells_of m) (nth k)) k sound kept (omega (arith, low)))
      ∙ ap (λ key. newest_first (cells_of n) key k) (sym (key_same m n (nth k) sound kept (nth_there m 0x06 k low) refl));
}

-- parts of classes and methods
base_same : (m n : Module) (k : ℕ) → IsKept m n → k < row_count m tables.type_def → class_base n (nth_row tables.type_def k) ≡ class_base m (nth_row tables.type_def k)
unfolding class_base
base_same m n k kept low = (kept.classes (nth_row 0x02 k) (nth_there m 0x02 k low) refl).base

pub classes_same : (m n : Module) (classes : List ClassPart) → IsKept m n → length classes ≡ row_count m tables.type_def → EachPart (IsClassPart m) classes → EachPart (IsClassPart n) classes
classes_same m n classes kept size each k p e =
    let low : k < row_count m 0x02 = omega (arith, part_low classes k p e, size) in
    let was = each k p e in
    record {
      base = was.base ∙ sym (base_same m n k kept low);
      interface = was.interface ∙ ap (has_flag 0x20) (sym (kept.classes (nth_row 0x02 k) (nth_there m 0x02 k low) refl).flags);
    }

pub methods_same : (m n : Module) (listed : List Token) (methods : List MethodPart) → IsSound m → IsSound n → IsChangedBy m n listed → IsKept m n → length methods ≡ count m → EachPart (IsMethodPart m) methods → EachPart (IsMethodPart n) methods
methods_same m n listed methods sound new changed kept size each k p e =
    let low : k < count m = omega (arith, part_low methods k p e, size) in
    let was = each k p e in
    record {
      owner = owner_kept m n listed (k + 1) sound new changed (nth_there m 0x06 k low) ∙ was.owner;
      slot = slot_same m n k sound kept low ∙ was.slot;
    }

-- rows of MethodImpl and InterfaceImpl
impl_same : (m n : Module) (class declaration k : ℕ) → IsKept m n → k < row_count m tables.method_impl → impl_for n class declaration k ≡ impl_for m class declaration k
unfolding impl_for
impl_same m n class declaration k kept low =
    let e = kept.impls (nth_row 0x19 k) (nth_there m 0x19 k low) refl in
    let at = λ (i : ℕ). token_by (cells_of n) (cells_of m) (nth_row 0x19 k) i e in
    rw (at 0, at 1, at 2) refl

pub impls_same : (m n : Module) (class declaration : ℕ) → IsKept m n → first_below (impl_for n class declaration) (row_count m tables.method_impl) ≡ first_below (impl_for m class declaration) (row_count m tables.method_impl)
impls_same m n class declaration kept = first_same (impl_for n class declaration) (impl_for m class declaration) (row_count m tables.method_impl) (λ k low. impl_same m n class declaration k kept low)

says_same : (m n : Module) (class i : Token) (k : ℕ) → IsKept m n → k < row_count m tables.interface_impl → says_interface n class i k ≡ says_interface m class i k
unfolding says_interface
says_same m n class i k kept low =
    let e = kept.interfaces (nth_row 0x09 k) (nth_there m 0x09 k low) refl in
    let at = λ (j : ℕ). token_by (cells_of n) (cells_of m) (nth_row 0x09 k) j e in
    rw (at 0, at 1) refl

pub interfaces_same : (m n : Module) (class i : Token) → IsKept m n → first_below (says_interface n class i) (row_count m tables.interface_impl) ≡ first_below (says_interface m class i) (row_count m tables.interface_impl)
interfaces_same m n class i kept = first_same (says_interface n class i) (says_interface m class i) (row_count m tables.interface_impl) (λ k low. says_same m n class i k kept low)

-- the kinds of local variables
local_kinds_same : (m n : Module) (u : Token) → cells_of n u ≡ cells_of m u → local_kinds n u ≡ local_kinds m u
unfolding local_kinds
local_kinds_same m n u same = rw (bytes_by (cells_of n) (cells_of m) u 0 same) refl

pub locals_same : (m n : Module) (locals : List LocalsPart) → IsKept m n → length locals ≡ row_count m tables.stand_alone_sig → EachPart (IsLocalsPart m) locals → EachPart (IsLocalsPart n) locals
locals_same m n locals kept size each k p e i o there =
    let low : k < row_count m 0x11 = omega (arith, part_low locals k p e, size) in
    let same = local_kinds_same m n (nth_row 0x11 k) (kept.locals (nth_row 0x11 k) (nth_there m 0x11 k low) refl) in
    each k p e i o there ∙ sym (ap (λ (ks : Option (List Kind)). option_and_then (λ (l : List Kind). slice_get l i) ks) same)

-- a class's own virtual methods, by parts that say of the methods that were there what the others do
abbrev pub SameSlots : Module → List MethodPart → List MethodPart → Type 0
SameSlots m methods new = (row : ℕ) → has_row m (method_at row) ≡ true → slot_at new row ≡ slot_at methods row

virtual_same : (m n : Module) (methods new : List MethodPart) (row : ℕ) → number_at (cells_of n) (method_at row) 2 ≡ number_at (cells_of m) (method_at row) 2 → slot_at new row ≡ slot_at methods row → virtual_slot n new row ≡ virtual_slot m methods row
unfolding virtual_slot
virtual_same m n methods new row flags slots = rw flags (ap (λ (o : Option ℕ). if is_virtual m (method_at row) then o else None) slots)

wanted_same : (m n : Module) (methods new : List MethodPart) (wanted : Wanted) (row : ℕ) → number_at (cells_of n) (method_at row) 2 ≡ number_at (cells_of m) (method_at row) 2 → slot_at new row ≡ slot_at methods row → wanted_slot n new wanted row ≡ wanted_slot m methods wanted row
unfolding wanted_slot
wanted_same m n methods new Virtual row flags slots = virtual_same m n methods new row flags slots
wanted_same m n methods new Public row flags slots = rw (flags, virtual_same m n methods new row flags slots) refl

abbrev part_with : ℕ → ℕ → OwnMethod
part_with row flags = record { row = row; is_new_slot = has_flag 0x100 flags }

part_same : (m n : Module) (row : ℕ) → number_at (cells_of n) (method_at row) 2 ≡ number_at (cells_of m) (method_at row) 2 → row_part n row ≡ row_part m row
part_same m n row flags = ap (part_with row) flags

first_among : (m n : Module) (f g : ℕ → Bool) (xs : List ℕ) → AllThere m xs → ((row : ℕ) → has_row m (method_at row) ≡ true → f row ≡ g row) → ((row : ℕ) → has_row m (method_at row) ≡ true → row_part n row ≡ row_part m row)
    → option_map (row_part n) (slice_get (filter f xs) 0) ≡ option_map (row_part m) (slice_get (filter g xs) 0)
first_among m n f g [] there same parts = refl
first_among m n f g (x ∷ xs) there same parts = rw (same x there.0) (by_test (g x) (first_among m n f g xs there.1 same parts))
  where
    by_test : (b : Bool) → option_map (row_part n) (slice_get (filter f xs) 0) ≡ option_map (row_part m) (slice_get (filter g xs) 0)
        → option_map (row_part n) (slice_get (if b then x ∷ filter f xs else filter f xs) 0) ≡ option_map (row_part m) (slice_get (if b then x ∷ filter g xs else filter g xs) 0)
    by_test true step = ap (λ (p : OwnMethod). Some p) (parts x there.0)
    by_test false step = step

pub among_same : (m n : Module) (methods new : List MethodPart) (wanted : Wanted) (s : ℕ) (xs : List ℕ) → IsKept m n → SameSlots m methods new → AllThere m xs → own_among n new wanted s xs ≡ own_among m methods wanted s xs
unfolding own_among
among_same m n methods new wanted s xs kept slots there =
    first_among m n (λ (row : ℕ). is_slot s (wanted_slot n new wanted row)) (λ (row : ℕ). is_slot s (wanted_slot m methods wanted row)) xs there
    (λ row here. ap (is_slot s) (wanted_same m n methods new wanted row (kept.methods (method_at row) here refl).flags (slots row here)))
    (λ row here. part_same m n row (kept.methods (method_at row) here refl).flags)
