-- A class's own virtual methods by slot, put in one by one.
use Rattle.std.proofs.Common.{◌≡◌, ℕ, zero, suc, ◌+◌, ◌<◌, Bool, true, false, List, [], ◌∷◌, ◌++◌, length, take, get_or, filter, Option, Some, None, IsTrue, option_map, slice_get, inl, inr, refl, sym, ap, ◌∙◌, ◌-◌, arith}
use Rattle.std.specs.Prelude.{◌&&◌, ◌||◌, ◌==◌, if◌then◌else◌}
use Rattle.std.specs.List.{list_any}
use Rattle.std.proofs.lemmas.Bool.{or_right}
use Rattle.std.proofs.lemmas.Bool.Decides.{nat_tests}
use Rattle.std.proofs.lemmas.List.{take_more}
use Rattle.enc_base.specs.Order.{or_else}
use Rattle.enc_base.specs.declared.token.Token.{Token}
use Rattle.enc_key_map.specs.declared.index.Index.{Index}
use Rattle.enc_key_map.specs.declared.key.Key.{Key}
use Rattle.enc_key_map.specs.Key.{is_key}
use Rattle.enc_key_map.specs.Index.{value_at}
use Rattle.enc_plain.specs.Module.{Module, has_row, kids_of, cells_of}
use Rattle.enc_plain.specs.Sound.{row_count}
use Rattle.enc_base.specs.Tables as tables
use Rattle.enc_dispatch.specs.declared.method_part.MethodPart.{MethodPart}
use Rattle.enc_dispatch.specs.declared.own_method.OwnMethod.{OwnMethod}
use Rattle.enc_dispatch.specs.declared.wanted.Wanted.{Wanted}
use Rattle.enc_dispatch.specs.declared.wanted.Wanted.TheVariants.{Virtual, Public}
use Rattle.enc_dispatch.specs.Buckets.{is_slot}
use Rattle.enc_dispatch.specs.Stored.{class_at, own_key, own_part, IsMethodPart}
use Rattle.enc_dispatch.specs.Parts.{nth_part, EachPart}
use Rattle.enc_dispatch.specs.Entries.{where_none}
use Rattle.enc_dispatch.specs.Growth.{later_kids, AreOwners}
use Rattle.enc_dispatch.specs.Own.{virtual_slot, wanted_slot, row_part, own_one, own_among, in_class, own_in_class, AreAllOwn}
use Rattle.enc_dispatch.specs.Slots.{shares_slot, slot_in}
use Rattle.enc_dispatch.specs.Walked.{slot_at}
use Rattle.enc_dispatch.specs.Walks.{method_at, is_virtual, is_public, same_slot, takes_slot, meets, first_method}
use Rattle.enc_dispatch.proofs.Put.{or_none, or_or, unless_none, unless_or}
use Rattle.enc_dispatch.proofs.Meant.{has_part}
use Rattle.enc_dispatch.proofs.Reached.{virtual_row}
use Rattle.enc_dispatch.proofs.Sharing.{slots_tell}

-- one row more
or_first : (f : ℕ → Bool) (xs : List ℕ) (x : ℕ) → slice_get (filter f (xs ++ x ∷ [])) 0 ≡ or_else (slice_get (filter f xs) 0) (if f x then Some x else None)
or_first f [] x = by_test (f x)
  where
    by_test : (b : Bool) → slice_get (if b then x ∷ [] else []) 0 ≡ (if b then Some x else None)
    by_test true = refl
    by_test false = refl
or_first f (y ∷ xs) x = by_test (f y) (filter f (xs ++ x ∷ [])) (filter f xs) (if f x then Some x else None) (or_first f xs x)
  where
    by_test : (b : Bool) (ys zs : List ℕ) (o : Option ℕ) → slice_get ys 0 ≡ or_else (slice_get zs 0) o → slice_get (if b then y ∷ ys else ys) 0 ≡ or_else (slice_get (if b then y ∷ zs else zs) 0) o
    by_test true ys zs o e = refl
    by_test false ys zs o e = e

mapped_or : (f : ℕ → OwnMethod) (o : Option ℕ) (b : Bool) (x : ℕ) → option_map f (or_else o (if b then Some x else None)) ≡ or_else (option_map f o) (if b then Some (f x) else None)
mapped_or f None true x = refl
mapped_or f None false x = refl
mapped_or f (Some y) b x = refl

among_more : (m : Module) (methods : List MethodPart) (wanted : Wanted) (s : ℕ) (xs : List ℕ) (x : ℕ) → own_among m methods wanted s (xs ++ x ∷ []) ≡ or_else (own_among m methods wanted s xs) (own_one m methods wanted s x)
unfolding own_among own_one
among_more m methods wanted s xs x =
    ap (option_map (row_part m)) (or_first (λ (row : ℕ). is_slot s (wanted_slot m methods wanted row)) xs x)
    ∙ mapped_or (row_part m) (slice_get (filter (λ (row : ℕ). is_slot s (wanted_slot m methods wanted row)) xs) 0) (is_slot s (wanted_slot m methods wanted x)) x

in_both : (class c : ℕ) (a b : Option OwnMethod) → or_else (in_class class c a) (in_class class c b) ≡ in_class class c (or_else a b)
in_both class c a b = by_test (class == c)
  where
    by_test : (t : Bool) → or_else (if t then a else None) (if t then b else None) ≡ (if t then or_else a b else None)
    by_test true = refl
    by_test false = refl

-- rows of a class, one by one
unless_class : (there : Option OwnMethod) (class c : ℕ) (a b : Option OwnMethod) → or_else (where_none there (in_class class c a)) (where_none there (in_class class c b)) ≡ where_none there (in_class class c (or_else a b))
unless_class there class c a b = unless_or there (in_class class c a) (in_class class c b) ∙ ap (where_none there) (in_both class c a b)

pub own_more : (m : Module) (methods : List MethodPart) (wanted : Wanted) (class c s i : ℕ) (kids : List ℕ) (there old before new : Option OwnMethod) → i < length kids → before ≡ or_else old (where_none there (in_class class c (own_among m methods wanted s (take i kids))))
    → new ≡ or_else before (where_none there (in_class class c (own_one m methods wanted s (get_or kids i 0)))) → new ≡ or_else old (where_none there (in_class class c (own_among m methods wanted s (take (i + 1) kids))))
own_more m methods wanted class c s i kids there old before new low was is =
    is
    ∙ ap (λ o. or_else o (where_none there (in_class class c (own_one m methods wanted s (get_or kids i 0))))) was
    ∙ or_or old (where_none there (in_class class c (own_among m methods wanted s (take i kids)))) (where_none there (in_class class c (own_one m methods wanted s (get_or kids i 0))))
    ∙ ap (or_else old) (unless_class there class c (own_among m methods wanted s (take i kids)) (own_one m methods wanted s (get_or kids i 0)))
    ∙ ap (λ o. or_else old (where_none there (in_class class c o))) (sym (ap (own_among m methods wanted s) (take_more kids i 0 low) ∙ among_more m methods wanted s (take i kids) (get_or kids i 0)))

abbrev none_by : Bool → Option OwnMethod
none_by t = if t then None else None

none_told : (t : Bool) → none_by t ≡ None
none_told true = refl
none_told false = refl

none_in : (class c : ℕ) → in_class class c None ≡ None
none_in class c = none_told (class == c)

none_new : (there old : Option OwnMethod) (o : Option OwnMethod) → o ≡ None → old ≡ or_else old (where_none there o)
none_new there old o e = sym (ap (λ x. or_else old (where_none there x)) e ∙ ap (or_else old) (unless_none there) ∙ or_none old)

pub own_start : (m : Module) (methods : List MethodPart) (wanted : Wanted) (class c s : ℕ) (kids : List ℕ) (there old : Option OwnMethod) → old ≡ or_else old (where_none there (in_class class c (own_among m methods wanted s (take 0 kids))))
unfolding own_among
own_start m methods wanted class c s kids there old = none_new there old (in_class class c None) (none_in class c)

-- a method that isn't wanted, and one that is
pub own_other : (m : Module) (methods : List MethodPart) (wanted : Wanted) (class c s row : ℕ) (there old : Option OwnMethod) → wanted_slot m methods wanted row ≡ None → old ≡ or_else old (where_none there (in_class class c (own_one m methods wanted s row)))
unfolding own_one
own_other m methods wanted class c s row there old h = rw h (none_new there old (in_class class c None) (none_in class c))

key_told : (class slot c s : ℕ) (p : OwnMethod) → (if is_key (own_key class slot) (own_key c s) then Some p else None) ≡ in_class class c (if slot == s then Some p else None)
key_told class slot c s p = by_test (class == c) (slot == s)
  where
    by_test : (a b : Bool) → (if a && b then Some p else None) ≡ (if a then (if b then Some p else None) else None)
    by_test true b = refl
    by_test false b = refl

one_told : (m : Module) (methods : List MethodPart) (wanted : Wanted) (slot s row : ℕ) → wanted_slot m methods wanted row ≡ Some slot → own_one m methods wanted s row ≡ (if slot == s then Some (row_part m row) else None)
unfolding own_one
one_told m methods wanted slot s row h = rw h refl

pub own_put : (m : Module) (methods : List MethodPart) (wanted : Wanted) (class slot row : ℕ) (key : Key) (part : OwnMethod) (there old new : Key → Option OwnMethod) → key ≡ own_key class slot → part ≡ row_part m row → wanted_slot m methods wanted row ≡ Some slot
    → ((q : Key) → new q ≡ or_else (old q) (where_none (there q) (if is_key key q then Some part else None)))
    → (c s : ℕ) → new (own_key c s) ≡ or_else (old (own_key c s)) (where_none (there (own_key c s)) (in_class class c (own_one m methods wanted s row)))
own_put m methods wanted class slot row key part there old new ek ep h put c s =
    put (own_key c s)
    ∙ ap (λ k. or_else (old (own_key c s)) (where_none (there (own_key c s)) (if is_key k (own_key c s) then Some part else None))) ek
    ∙ ap (λ o. or_else (old (own_key c s)) (where_none (there (own_key c s)) o))
    (key_told class slot c s part ∙ ap (λ (p : OwnMethod). in_class class c (if slot == s then Some p else None)) ep ∙ ap (in_class class c) (sym (one_told m methods wanted slot s row h)))

-- classes of a list, one by one
abbrev pub in_listed : List ℕ → ℕ → Option OwnMethod → Option OwnMethod
in_listed classes c o = if list_any (λ (k : ℕ). k == c) classes then o else None

either_test : (a b : Bool) (o : Option OwnMethod) → or_else (if a then o else None) (if b then o else None) ≡ (if a || b then o else None)
either_test true b None = none_told b
either_test true b (Some x) = refl
either_test false b o = refl

pub any_end : (c x : ℕ) (xs : List ℕ) → list_any (λ (k : ℕ). k == c) (xs ++ x ∷ []) ≡ (list_any (λ (k : ℕ). k == c) xs || x == c)
any_end c x [] = by_test (x == c)
  where
    by_test : (b : Bool) → (b || false) ≡ b
    by_test true = refl
    by_test false = refl
any_end c x (y ∷ ys) = by_test (y == c) (any_end c x ys)
  where
    by_test : (b : Bool) → list_any (λ (k : ℕ). k == c) (ys ++ x ∷ []) ≡ (list_any (λ (k : ℕ). k == c) ys || x == c) → (b || list_any (λ (k : ℕ). k == c) (ys ++ x ∷ [])) ≡ ((b || list_any (λ (k : ℕ). k == c) ys) || x == c)
    by_test true step = refl
    by_test false step = step

class_one : (c x : ℕ) (f : ℕ → Option OwnMethod) (b : Bool) → (x == c) ≡ b → (if b then f x else None) ≡ (if b then f c else None)
class_one c x f true e = let g : x ≡ c = grind (arith, nat_tests) in ap f g
class_one c x f false e = refl

pub listed_more : (classes : List ℕ) (i c : ℕ) (f : ℕ → Option OwnMethod) (there before new : Option OwnMethod) → i < length classes → before ≡ where_none there (in_listed (take i classes) c (f c)) → new ≡ or_else before (where_none there (in_class (get_or classes i 0) c (f (get_or classes i 0)))) → new ≡ where_none there (in_listed (take (i + 1) classes) c (f c))
listed_more classes i c f there before new low was is =
    let x = get_or classes i 0 in
    is
    ∙ ap (λ o. or_else o (where_none there (in_class x c (f x)))) was
    ∙ unless_or there (in_listed (take i classes) c (f c)) (in_class x c (f x))
    ∙ ap (λ o. where_none there (or_else (in_listed (take i classes) c (f c)) o)) (class_one c x f (x == c) refl)
    ∙ ap (where_none there) (either_test (list_any (λ (k : ℕ). k == c) (take i classes)) (x == c) (f c))
    ∙ ap (λ b. where_none there (if b then f c else None)) (sym (ap (list_any (λ (k : ℕ). k == c)) (take_more classes i 0 low) ∙ any_end c x (take i classes)))

-- a class that is met again
any_last : (c i : ℕ) (xs : List ℕ) → i < length xs → (get_or xs i 0 == c) ≡ true → list_any (λ (k : ℕ). k == c) (take (i + 1) xs) ≡ true
any_last c i xs low e = ap (list_any (λ (k : ℕ). k == c)) (take_more xs i 0 low) ∙ any_end c (get_or xs i 0) (take i xs) ∙ or_right (list_any (λ (k : ℕ). k == c) (take i xs)) (get_or xs i 0 == c) e

same_class : (classes : List ℕ) (i c : ℕ) (b : Bool) → i < length classes → 0 < i → get_or classes (i - 1) 0 ≡ get_or classes i 0 → (get_or classes i 0 == c) ≡ b → (list_any (λ (k : ℕ). k == c) (take i classes) || b) ≡ list_any (λ (k : ℕ). k == c) (take i classes)
same_class classes i c true low some same e =
    let less : i - 1 < length classes = omega (arith, low) in
    let more : i - 1 + 1 ≡ i = omega (arith, some) in
    let there : list_any (λ (k : ℕ). k == c) (take i classes) ≡ true = ap (λ n. list_any (λ (k : ℕ). k == c) (take n classes)) (sym more) ∙ any_last c (i - 1) classes less (ap (λ x. x == c) same ∙ e) in
    rw there refl
same_class classes i c false low some same e = or_false (list_any (λ (k : ℕ). k == c) (take i classes))
  where
    or_false : (b : Bool) → (b || false) ≡ b
    or_false true = refl
    or_false false = refl

pub listed_again : (classes : List ℕ) (i c : ℕ) (o there before : Option OwnMethod) → i < length classes → 0 < i → get_or classes (i - 1) 0 ≡ get_or classes i 0 → before ≡ where_none there (in_listed (take i classes) c o) → before ≡ where_none there (in_listed (take (i + 1) classes) c o)
listed_again classes i c o there before low some same was =
    was
    ∙ ap (λ b. where_none there (if b then o else None))
    (sym (ap (list_any (λ (k : ℕ). k == c)) (take_more classes i 0 low) ∙ any_end c (get_or classes i 0) (take i classes) ∙ same_class classes i c (get_or classes i 0 == c) low some same refl))

pub listed_start : (c : ℕ) (o there : Option OwnMethod) (classes : List ℕ) → None ≡ where_none there (in_listed (take 0 classes) c o)
listed_start c o there classes = sym (unless_none there)

among_none : (m : Module) (methods : List MethodPart) (wanted : Wanted) (s : ℕ) → own_among m methods wanted s [] ≡ None
unfolding own_among
among_none m methods wanted s = refl

-- all classes that have later methods are listed
pub listed_all : (m : Module) (methods : List MethodPart) (wanted : Wanted) (read c s : ℕ) (classes : List ℕ) → AreOwners m read classes → in_listed classes c (own_among m methods wanted s (later_kids m read c)) ≡ own_among m methods wanted s (later_kids m read c)
listed_all m methods wanted read c s classes are = elim (are.all c) [
  | inl listed ↦ rw listed refl
  | inr none ↦ rw (none, among_none m methods wanted s) (none_told (list_any (λ (k : ℕ). k == c) classes))
]

-- what stands by class and slot is the first that takes it
same_is_shares : (m : Module) (a b : Token) → same_slot m a b ≡ shares_slot (cells_of m) a b
unfolding same_slot shares_slot
same_is_shares m a b = refl

slot_of_row : (m : Module) (methods : List MethodPart) (row b : ℕ) (p : MethodPart) → length methods ≡ row_count m tables.method_def → EachPart (IsMethodPart m) methods → nth_part methods b ≡ Some p → slot_in (cells_of m) (method_at b) ≡ Some p.slot → IsTrue (has_row m (method_at row)) → is_slot p.slot (slot_at methods row) ≡ same_slot m (method_at row) (method_at b)
slot_of_row m methods row b p size each part slot there =
    let q = has_part methods m (method_at row) size there in
    let own : slot_in (cells_of m) (method_at row) ≡ Some q.part.slot = ap (slot_in (cells_of m)) q.row ∙ (each q.place q.part q.at).slot in
    rw q.is (slots_tell (cells_of m) (method_at row) (method_at b) q.part.slot p.slot own slot ∙ sym (same_is_shares m (method_at row) (method_at b)))

virtual_is : (m : Module) (methods : List MethodPart) (row b : ℕ) (p : MethodPart) → length methods ≡ row_count m tables.method_def → EachPart (IsMethodPart m) methods → nth_part methods b ≡ Some p → slot_in (cells_of m) (method_at b) ≡ Some p.slot → is_slot p.slot (virtual_slot m methods row) ≡ takes_slot m (method_at b) (method_at row)
unfolding virtual_slot takes_slot
virtual_is m methods row b p size each part slot = by_test (is_virtual m (method_at row)) refl
  where
    by_test : (t : Bool) → is_virtual m (method_at row) ≡ t → is_slot p.slot (if t then slot_at methods row else None) ≡ (t && same_slot m (method_at row) (method_at b))
    by_test true e = slot_of_row m methods row b p size each part slot (virtual_row m (method_at row) e)
    by_test false e = refl

public_is : (m : Module) (methods : List MethodPart) (row b : ℕ) (p : MethodPart) → length methods ≡ row_count m tables.method_def → EachPart (IsMethodPart m) methods → nth_part methods b ≡ Some p → slot_in (cells_of m) (method_at b) ≡ Some p.slot → is_slot p.slot (wanted_slot m methods Public row) ≡ meets m (method_at b) (method_at row)
unfolding wanted_slot meets
public_is m methods row b p size each part slot = by_test (is_public m (method_at row))
  where
    by_test : (t : Bool) → is_slot p.slot (if t then virtual_slot m methods row else None) ≡ (t && takes_slot m (method_at b) (method_at row))
    by_test true = virtual_is m methods row b p size each part slot
    by_test false = refl

filter_same : (f g : ℕ → Bool) (xs : List ℕ) → ((x : ℕ) → f x ≡ g x) → filter f xs ≡ filter g xs
filter_same f g [] same = refl
filter_same f g (x ∷ xs) same = rw (same x, filter_same f g xs same) refl

mapped_twice : (m : Module) (o : Option ℕ) → option_map (row_part m) o ≡ option_map (own_part m) (option_map method_at o)
mapped_twice m None = refl
mapped_twice m (Some row) = refl

first_is : (m : Module) (methods : List MethodPart) (wanted : Wanted) (s : ℕ) (test : Token → Bool) (class : ℕ) → ((row : ℕ) → is_slot s (wanted_slot m methods wanted row) ≡ test (method_at row)) → own_in_class m methods wanted s class ≡ option_map (own_part m) (first_method m test (class_at class))
unfolding own_among first_method
first_is m methods wanted s test class same =
    ap (λ xs. option_map (row_part m) (slice_get xs 0)) (filter_same (λ (row : ℕ). is_slot s (wanted_slot m methods wanted row)) (λ (row : ℕ). test (method_at row)) (kids_of m (class_at class) tables.method_def) same)
    ∙ mapped_twice m (slice_get (filter (λ (row : ℕ). test (method_at row)) (kids_of m (class_at class) tables.method_def)) 0)

slot_known : (m : Module) (methods : List MethodPart) (b : ℕ) (p : MethodPart) → EachPart (IsMethodPart m) methods → nth_part methods b ≡ Some p → slot_in (cells_of m) (method_at b) ≡ Some p.slot
slot_known m methods zero p each part = absurd cc
slot_known m methods (suc i) p each part = let e : suc i ≡ i + 1 = omega arith in ap (λ r. slot_in (cells_of m) (method_at r)) e ∙ (each i p part).slot

virtual_wanted : (m : Module) (methods : List MethodPart) (row : ℕ) → wanted_slot m methods Virtual row ≡ virtual_slot m methods row
unfolding wanted_slot
virtual_wanted m methods row = refl

pub own_stands : (m : Module) (methods : List MethodPart) (own : Index OwnMethod) → length methods ≡ row_count m tables.method_def → EachPart (IsMethodPart m) methods → AreAllOwn m methods Virtual own
    → (class row : ℕ) (p : MethodPart) → IsTrue (has_row m (class_at class)) → nth_part methods row ≡ Some p → value_at own (own_key class p.slot) ≡ option_map (own_part m) (first_method m (takes_slot m (method_at row)) (class_at class))
own_stands m methods own size each is class row p there part =
    is class p.slot
    ∙ first_is m methods Virtual p.slot (takes_slot m (method_at row)) class
    (λ r. ap (is_slot p.slot) (virtual_wanted m methods r) ∙ virtual_is m methods r row p size each part (slot_known m methods row p each part))

pub met_stands : (m : Module) (methods : List MethodPart) (met : Index OwnMethod) → length methods ≡ row_count m tables.method_def → EachPart (IsMethodPart m) methods → AreAllOwn m methods Public met
    → (class row : ℕ) (p : MethodPart) → IsTrue (has_row m (class_at class)) → nth_part methods row ≡ Some p → value_at met (own_key class p.slot) ≡ option_map (own_part m) (first_method m (meets m (method_at row)) (class_at class))
met_stands m methods met size each is class row p there part =
    is class p.slot
    ∙ first_is m methods Public p.slot (meets m (method_at row)) class (λ r. public_is m methods r row p size each part (slot_known m methods row p each part))
