-- The method that the walks over the index reach is the one that they reach over the module.
use Rattle.std.proofs.Common.{◌≡◌, ℕ, suc, Bool, true, false, List, [], ◌∷◌, take, reverse, filter, Option, Some, None, IsTrue, option_map, option_and_then, slice_get, refl, sym, ap, subst, ◌∙◌, arith}
use Rattle.std.specs.Prelude.{◌&&◌, ◌==◌, nat_le, if◌then◌else◌}
use Rattle.std.specs.List.{position}
use Rattle.std.proofs.lemmas.Bool.{and_parts}
use Rattle.std.proofs.lemmas.Bool.Decides.{nat_tests}
use Rattle.enc_base.specs.Numbers.{has_flag}
use Rattle.enc_base.specs.Order.{or_else}
use Rattle.enc_base.specs.Token.{nth_row, is_token}
use Rattle.enc_base.specs.declared.token.Token.{Token}
use Rattle.enc_key_map.specs.Index.{value_at}
use Rattle.enc_plain.specs.Module.{Module, rows_in, has_row, has_kid, kids_of, owner_of}
use Rattle.enc_plain.proofs.CellsOf.{number_absent}
use Rattle.enc_base.specs.Tables as tables
use Rattle.enc_schema.specs.Columns as columns
use Rattle.enc_dispatch.specs.declared.method_part.MethodPart.{MethodPart}
use Rattle.enc_dispatch.specs.declared.impl_part.ImplPart.{ImplPart}
use Rattle.enc_plain.specs.ClassPath.{is_class, before_class}
use Rattle.enc_dispatch.specs.Walks.{impl_of, method_at, is_virtual, is_public, is_new_slot, same_slot, takes_slot, meets, first_method}
use Rattle.enc_dispatch.specs.Target.{own_turn, turn, go_on, walk_down, class_target, from_interface, given_by, first_given, interface_target, is_interface, declared_target, target_of}
use Rattle.enc_dispatch.specs.Index.{StandsForModule}
use Rattle.enc_dispatch.specs.Stored.{DispatchParts, own_key, impl_key, own_part}
use Rattle.enc_dispatch.specs.Parts.{nth_part}
use Rattle.enc_dispatch.specs.Walked.{class_part, path_in, is_interface_part, earlier_impl, body_row, row_of_own, impl_in, own_turn_in, turn_in, go_on_in, walk_down_in, place_on, class_walk_in, class_target_in, from_interface_in, given_by_in, with_class_row, first_given_in, interface_target_in, declared_target_in, target_in}
use Rattle.enc_dispatch.proofs.Meant.{has_part, class_there, class_none, AreClasses, path_is, path_classes, taken_classes, reversed_classes, class_row, class_has_row, from_is, from_classes, impl_is}

or_mapped : {A B : Type 0} (f : A → B) (o u : Option A) → or_else (option_map f o) (option_map f u) ≡ option_map f (or_else o u)
or_mapped f None u = refl
or_mapped f (Some x) u = refl

-- a class's own virtual method
turn_by : (m : Module) (current : ℕ) (o : Option ℕ) → own_turn m (method_at current) (option_map method_at o) ≡ option_map method_at (own_turn_in current (option_map (own_part m) (option_map method_at o)))
turn_by m current None = refl
turn_by m current (Some row) = by_slot (is_new_slot m (method_at row))
  where
    by_slot : (b : Bool) → (if b then None else Some (method_at row)) ≡ option_map method_at (if b then None else Some row)
    by_slot true = refl
    by_slot false = refl

own_turn_is : (m : Module) (test : Token → Bool) (c : Token) (current : ℕ) → own_turn m (method_at current) (first_method m test c) ≡ option_map method_at (own_turn_in current (option_map (own_part m) (first_method m test c)))
unfolding first_method
own_turn_is m test c current = turn_by m current (slice_get (filter (λ (row : ℕ). test (method_at row)) (kids_of m c tables.method_def)) 0)

own_is : (d : DispatchParts) (m : Module) (c : Token) (declared : ℕ) (p : MethodPart) → StandsForModule d m → is_class m c ≡ true → nth_part d.methods declared ≡ Some p → value_at d.own (own_key c.row p.slot) ≡ option_map (own_part m) (first_method m (takes_slot m (method_at declared)) c)
own_is d m c declared p stands is part = stands.own c.row declared p (class_has_row m c is) part ∙ ap (λ t. option_map (own_part m) (first_method m (takes_slot m (method_at declared)) t)) (sym (class_row m c is))

met_is : (d : DispatchParts) (m : Module) (c : Token) (declared : ℕ) (p : MethodPart) → StandsForModule d m → is_class m c ≡ true → nth_part d.methods declared ≡ Some p → value_at d.met (own_key c.row p.slot) ≡ option_map (own_part m) (first_method m (meets m (method_at declared)) c)
met_is d m c declared p stands is part = stands.met c.row declared p (class_has_row m c is) part ∙ ap (λ t. option_map (own_part m) (first_method m (meets m (method_at declared)) t)) (sym (class_row m c is))

turn_is : (d : DispatchParts) (m : Module) (c : Token) (declared current : ℕ) (p : MethodPart) → StandsForModule d m → is_class m c ≡ true → nth_part d.methods declared ≡ Some p → turn m (method_at declared) (method_at current) c ≡ option_map method_at (turn_in d p.slot declared current c)
unfolding turn turn_in
turn_is d m c declared current p stands is part =
    rw (impl_is d m c declared current stands is, own_is d m c declared p stands is part, own_turn_is m (takes_slot m (method_at declared)) c current)
    (or_mapped method_at (impl_in d c declared current) (own_turn_in current (option_map (own_part m) (first_method m (takes_slot m (method_at declared)) c))))

-- the walk down
go_on_is : (current : ℕ) (walk : Token → Token) (walk_in : ℕ → ℕ) (o : Option ℕ) → ((n : ℕ) → walk (method_at n) ≡ method_at (walk_in n)) → go_on (method_at current) walk (option_map method_at o) ≡ method_at (go_on_in current walk_in o)
go_on_is current walk walk_in None same = refl
go_on_is current walk walk_in (Some n) same = same n

walk_is : (d : DispatchParts) (m : Module) (declared : ℕ) (p : MethodPart) (path : List Token) (current : ℕ) → StandsForModule d m → nth_part d.methods declared ≡ Some p → AreClasses m path → walk_down m (method_at declared) path (method_at current) ≡ method_at (walk_down_in d p.slot declared path current)
unfolding walk_down walk_down_in
walk_is d m declared p [] current stands part are = refl
walk_is d m declared p (c ∷ rest) current stands part are =
    ap (go_on (method_at current) (walk_down m (method_at declared) rest)) (turn_is d m c declared current p stands are.0 part)
    ∙ go_on_is current (walk_down m (method_at declared) rest) (walk_down_in d p.slot declared rest) (turn_in d p.slot declared current c) (λ n. walk_is d m declared p rest n stands part are.1)

pub before_is : (base : Token) (path : List Token) → before_class base path ≡ option_map (λ (n : ℕ). take n path) (place_on base path)
unfolding before_class place_on
before_is base [] = refl
before_is base (c ∷ path) = by_test (is_token c base) (before_class base path) (place_on base path) (before_is base path)
  where
    further : (o : Option ℕ) → option_map (λ (before : List Token). c ∷ before) (option_map (λ (n : ℕ). take n path) o) ≡ option_map (λ (n : ℕ). take n (c ∷ path)) (option_map suc o)
    further None = refl
    further (Some n) = refl

    by_test : (b : Bool) (before : Option (List Token)) (place : Option ℕ) → before ≡ option_map (λ (n : ℕ). take n path) place → (if b then Some [] else option_map (λ (before : List Token). c ∷ before) before) ≡ option_map (λ (n : ℕ). take n (c ∷ path)) (if b then Some 0 else option_map suc place)
    by_test true before place e = refl
    by_test false before place e = ap (option_map (λ (before : List Token). c ∷ before)) e ∙ further place

class_by : (d : DispatchParts) (m : Module) (declared : ℕ) (p : MethodPart) (path : List Token) (o : Option ℕ) → StandsForModule d m → nth_part d.methods declared ≡ Some p → AreClasses m path → option_map (λ (below : List Token). walk_down m (method_at declared) (reverse below) (method_at declared)) (option_map (λ (n : ℕ). take n path) o) ≡ option_map method_at (option_map (λ (n : ℕ). walk_down_in d p.slot declared (reverse (take n path)) declared) o)
class_by d m declared p path None stands part are = refl
class_by d m declared p path (Some n) stands part are = ap (λ t. Some t) (walk_is d m declared p (reverse (take n path)) declared stands part (reversed_classes m (take n path) (taken_classes m n path are)))

walk_in_is : (d : DispatchParts) (class declaring : Token) (declared : ℕ) (p : MethodPart) → nth_part d.methods declared ≡ Some p → class_target_in d class declaring declared ≡ class_walk_in d (path_in d class) declaring declared p.slot
unfolding class_target_in
walk_in_is d class declaring declared p part = rw part refl

class_target_is : (d : DispatchParts) (m : Module) (class declaring : Token) (declared : ℕ) (p : MethodPart) → StandsForModule d m → nth_part d.methods declared ≡ Some p → class_target m class declaring (method_at declared) ≡ option_map method_at (class_target_in d class declaring declared)
unfolding class_target class_walk_in
class_target_is d m class declaring declared p stands part =
    ap (λ path. option_map (λ (below : List Token). walk_down m (method_at declared) (reverse below) (method_at declared)) (before_class declaring path)) (sym (path_is d m class stands))
    ∙ ap (option_map (λ (below : List Token). walk_down m (method_at declared) (reverse below) (method_at declared))) (before_is declaring (path_in d class))
    ∙ class_by d m declared p (path_in d class) (place_on declaring (path_in d class)) stands part (path_classes d m class stands)
    ∙ ap (option_map method_at) (sym (walk_in_is d class declaring declared p part))

-- what classes give for a method of an interface
met_row : (m : Module) (o : Option ℕ) → option_map method_at o ≡ option_map method_at (option_map row_of_own (option_map (own_part m) (option_map method_at o)))
met_row m None = refl
met_row m (Some row) = refl

met_method : (m : Module) (test : Token → Bool) (c : Token) → first_method m test c ≡ option_map method_at (option_map row_of_own (option_map (own_part m) (first_method m test c)))
unfolding first_method
met_method m test c = met_row m (slice_get (filter (λ (row : ℕ). test (method_at row)) (kids_of m c tables.method_def)) 0)

given_by_is : (d : DispatchParts) (m : Module) (c : Token) (declared : ℕ) (p : MethodPart) → StandsForModule d m → is_class m c ≡ true → nth_part d.methods declared ≡ Some p → given_by m (method_at declared) c ≡ option_map method_at (given_by_in d p.slot declared c)
unfolding given_by given_by_in
given_by_is d m c declared p stands is part =
    ap (or_else (impl_of m c (method_at declared) (method_at declared))) (met_method m (meets m (method_at declared)) c)
    ∙ rw (impl_is d m c declared declared stands is, met_is d m c declared p stands is part)
    (or_mapped method_at (impl_in d c declared declared) (option_map row_of_own (option_map (own_part m) (first_method m (meets m (method_at declared)) c))))

abbrev as_given : Token × ℕ → Token × Token
as_given g = (g.0, method_at g.1)

first_by : (c : Token) (o : Option ℕ) (u : Option (Token × ℕ)) (v : Option (Token × Token)) → v ≡ option_map as_given u → or_else (option_map (λ (method : Token). (c, method)) (option_map method_at o)) v ≡ option_map as_given (or_else (with_class_row c o) u)
first_by c None u v e = e
first_by c (Some row) u v e = refl

first_given_is : (d : DispatchParts) (m : Module) (declared : ℕ) (p : MethodPart) (path : List Token) → StandsForModule d m → nth_part d.methods declared ≡ Some p → AreClasses m path → first_given m (method_at declared) path ≡ option_map as_given (first_given_in d p.slot declared path)
unfolding first_given first_given_in
first_given_is d m declared p [] stands part are = refl
first_given_is d m declared p (c ∷ rest) stands part are =
    rw (given_by_is d m c declared p stands are.0 part)
    (first_by c (given_by_in d p.slot declared c) (first_given_in d p.slot declared rest) (first_given m (method_at declared) rest) (first_given_is d m declared p rest stands part are.1))

-- what is given is a row
pub virtual_row : (m : Module) (t : Token) → is_virtual m t ≡ true → has_row m t ≡ true
virtual_row m t h = by_row (has_row m t) refl
  where
    by_row : (b : Bool) → has_row m t ≡ b → has_row m t ≡ true
    by_row true e = e
    by_row false e = let f : has_flag 0x40 0 ≡ true = ap (has_flag 0x40) (number_absent m t columns.method_def_flags e) ∙ h in absurd cc

pub found_passes : (test : ℕ → Bool) (xs : List ℕ) (x : ℕ) → slice_get (filter test xs) 0 ≡ Some x → test x ≡ true
found_passes test [] x e = absurd cc
found_passes test (y ∷ ys) x e = by_test (test y) refl e (found_passes test ys x)
  where
    by_test : (b : Bool) → test y ≡ b → slice_get (if b then y ∷ filter test ys else filter test ys) 0 ≡ Some x → (slice_get (filter test ys) 0 ≡ Some x → test x ≡ true) → test x ≡ true
    by_test true is e rest = let f : y ≡ x = cc in ap test (sym f) ∙ is
    by_test false is e rest = rest e

row_of_first : (m : Module) (declared : Token) (o : Option ℕ) (row : ℕ) → ((x : ℕ) → o ≡ Some x → meets m declared (method_at x) ≡ true) → option_map row_of_own (option_map (own_part m) (option_map method_at o)) ≡ Some row → IsTrue (has_row m (method_at row))
unfolding meets takes_slot
row_of_first m declared None row passes e = absurd cc
row_of_first m declared (Some x) row passes e =
    let f : x ≡ row = cc in
    let w = and_parts (is_public m (method_at x)) (is_virtual m (method_at x) && same_slot m (method_at x) declared) (passes x refl) in
    subst (λ r. has_row m (method_at r) ≡ true) f (virtual_row m (method_at x) (and_parts (is_virtual m (method_at x)) (same_slot m (method_at x) declared) w.1).0)

met_found : (m : Module) (c declared : Token) (row : ℕ) → option_map row_of_own (option_map (own_part m) (first_method m (meets m declared) c)) ≡ Some row → IsTrue (has_row m (method_at row))
unfolding first_method
met_found m c declared row e =
    row_of_first m declared (slice_get (filter (λ (r : ℕ). meets m declared (method_at r)) (kids_of m c tables.method_def)) 0) row
    (found_passes (λ (r : ℕ). meets m declared (method_at r)) (kids_of m c tables.method_def)) e

body_by : (o : Option ImplPart) (row : ℕ) → option_map body_row (earlier_impl o o) ≡ Some row → (p : ImplPart) × (o ≡ Some p) × (p.body ≡ row)
body_by None row e = absurd cc
body_by (Some p) row e = (p, refl, by_test (nat_le p.number p.number) e)
  where
    by_test : (b : Bool) → option_map body_row (if b then Some p else Some p) ≡ Some row → p.body ≡ row
    by_test true e = cc
    by_test false e = cc

impl_found : (d : DispatchParts) (m : Module) (c : Token) (declared row : ℕ) → StandsForModule d m → impl_in d c declared declared ≡ Some row → IsTrue (has_row m (method_at row))
unfolding impl_in
impl_found d m c declared row stands e =
    let w = body_by (value_at d.impls (impl_key c.row declared)) row e in
    subst (λ r. has_row m (method_at r) ≡ true) w.2 (stands.bodies c.row declared w.0 w.1)

given_row : (d : DispatchParts) (m : Module) (c : Token) (declared row : ℕ) (p : MethodPart) → StandsForModule d m → is_class m c ≡ true → nth_part d.methods declared ≡ Some p → given_by_in d p.slot declared c ≡ Some row → IsTrue (has_row m (method_at row))
unfolding given_by_in
given_row d m c declared row p stands is part e = by_impl (impl_in d c declared declared) refl e
  where
    by_impl : (o : Option ℕ) → impl_in d c declared declared ≡ o → or_else o (option_map row_of_own (value_at d.met (own_key c.row p.slot))) ≡ Some row → IsTrue (has_row m (method_at row))
    by_impl None there e = met_found m c (method_at declared) row (ap (option_map row_of_own) (sym (met_is d m c declared p stands is part)) ∙ e)
    by_impl (Some r) there e = let f : r ≡ row = cc in impl_found d m c declared row stands (there ∙ ap (λ n. Some n) f)

first_row : (d : DispatchParts) (m : Module) (declared : ℕ) (p : MethodPart) (path : List Token) (g : Token × ℕ) → StandsForModule d m → nth_part d.methods declared ≡ Some p → AreClasses m path → first_given_in d p.slot declared path ≡ Some g → IsTrue (has_row m (method_at g.1))
unfolding first_given_in
first_row d m declared p [] g stands part are e = absurd cc
first_row d m declared p (c ∷ rest) g stands part are e = by_given (given_by_in d p.slot declared c) refl e (first_row d m declared p rest g stands part are.1)
  where
    by_given : (o : Option ℕ) → given_by_in d p.slot declared c ≡ o → or_else (with_class_row c o) (first_given_in d p.slot declared rest) ≡ Some g → (first_given_in d p.slot declared rest ≡ Some g → IsTrue (has_row m (method_at g.1))) → IsTrue (has_row m (method_at g.1))
    by_given None is e later = later e
    by_given (Some r) is e later = let f : (c, r) ≡ g = cc in given_row d m c declared g.1 p stands are.0 part (is ∙ ap (λ (h : Token × ℕ). Some h.1) f)

-- a method's part
pub record HasMethod (d : DispatchParts) (m : Module) (row : ℕ) : Type 0 where
  pub part : MethodPart
  pub is : nth_part d.methods row ≡ Some part
  pub owner : owner_of m (method_at row) ≡ Some part.owner

method_there : (d : DispatchParts) (m : Module) (row : ℕ) → StandsForModule d m → IsTrue (has_row m (method_at row)) → HasMethod d m row
method_there d m row stands there =
    let p = has_part d.methods m (method_at row) stands.method_count there in
    record { part = p.part; is = p.is; owner = ap (owner_of m) p.row ∙ (stands.methods p.place p.part p.at).owner }

-- the walk of an interface
given_target : (d : DispatchParts) (m : Module) (class : Token) (o : Option (Token × ℕ)) → StandsForModule d m → ((g : Token × ℕ) → o ≡ Some g → IsTrue (has_row m (method_at g.1))) → option_and_then (λ (g : Token × Token). class_target m class g.0 g.1) (option_map as_given o) ≡ option_map method_at (option_and_then (λ (g : Token × ℕ). class_target_in d class g.0 g.1) o)
given_target d m class None stands rows = refl
given_target d m class (Some g) stands rows =
    let p = method_there d m g.1 stands (rows g refl) in
    class_target_is d m class g.0 g.1 p.part stands p.is

interface_target_is : (d : DispatchParts) (m : Module) (class interface : Token) (declared : ℕ) (p : MethodPart) → StandsForModule d m → nth_part d.methods declared ≡ Some p → interface_target m class interface (method_at declared) ≡ option_map method_at (interface_target_in d class interface declared p.slot)
unfolding interface_target interface_target_in
interface_target_is d m class interface declared p stands part =
    let are = from_classes d m interface (path_in d class) (path_classes d m class stands) in
    ap (λ path. option_and_then (λ (g : Token × Token). class_target m class g.0 g.1) (first_given m (method_at declared) (from_interface m interface path))) (sym (path_is d m class stands))
    ∙ ap (λ path. option_and_then (λ (g : Token × Token). class_target m class g.0 g.1) (first_given m (method_at declared) path)) (sym (from_is d m interface (path_in d class) stands (path_classes d m class stands)))
    ∙ ap (option_and_then (λ (g : Token × Token). class_target m class g.0 g.1)) (first_given_is d m declared p (from_interface_in d interface (path_in d class)) stands part are)
    ∙ given_target d m class (first_given_in d p.slot declared (from_interface_in d interface (path_in d class))) stands (λ g e. first_row d m declared p (from_interface_in d interface (path_in d class)) g stands part are e)

-- the type that declares a method
pub owner_class : (m : Module) (row : ℕ) (o : Token) → owner_of m (method_at row) ≡ Some o → o.table ≡ 0x02
unfolding owner_of
owner_class m row o e = by_place (position (has_kid (method_at row)) (rows_in m 0x02)) e
  where
    by_place : (p : Option ℕ) → option_map (nth_row 0x02) p ≡ Some o → o.table ≡ 0x02
    by_place None e = absurd cc
    by_place (Some i) e = let f : nth_row 0x02 i ≡ o = cc in sym (ap (λ (t : Token). t.table) f)

interface_is : (d : DispatchParts) (m : Module) (o : Token) → StandsForModule d m → o.table ≡ 0x02 → is_interface m o ≡ is_interface_part (class_part d o)
interface_is d m o stands at = by_class (is_class m o) refl
  where
    row_absent : is_class m o ≡ false → has_row m o ≡ false
    row_absent h = let t : (o.table == 0x02) ≡ true = ap (λ n. n == 0x02) at in rw t at h

    by_class : (b : Bool) → is_class m o ≡ b → is_interface m o ≡ is_interface_part (class_part d o)
    by_class true is = let c = class_there d m o stands is in rw c.is (sym c.interface)
    by_class false is = rw (class_none d m o stands is) (ap (has_flag 0x20) (sym (number_absent m o columns.type_def_flags (row_absent is))))

-- the target
by_interface : (b : Bool) (f : Token → Token) (o u : Option Token) (v w : Option ℕ) → o ≡ option_map method_at v → u ≡ option_map method_at w → (if b then o else u) ≡ option_map method_at (if b then v else w)
by_interface true f o u v w e h = e
by_interface false f o u v w e h = h

target_by_is : (d : DispatchParts) (m : Module) (class : Token) (declared : ℕ) (p : MethodPart) → StandsForModule d m → nth_part d.methods declared ≡ Some p → p.owner.table ≡ 0x02 → declared_target m class (method_at declared) p.owner ≡ option_map method_at (declared_target_in d class declared p)
unfolding declared_target declared_target_in
target_by_is d m class declared p stands part at =
    rw (interface_is d m p.owner stands at)
    (by_interface (is_interface_part (class_part d p.owner)) (λ t. t) _ _ _ _ (interface_target_is d m class p.owner declared p stands part) (class_target_is d m class p.owner declared p stands part))

method_is : (t : Token) → (t.table == 0x06) ≡ true → t ≡ method_at t.row
method_is t h = let e : t.table ≡ 0x06 = grind (arith, nat_tests) in ap (λ n. record { table = n; row = t.row }) e

target_row : (d : DispatchParts) (m : Module) (class : Token) (row : ℕ) → StandsForModule d m → IsTrue (has_row m (method_at row)) → option_map method_at (option_and_then (declared_target_in d class row) (nth_part d.methods row)) ≡ option_and_then (declared_target m class (method_at row)) (owner_of m (method_at row))
target_row d m class row stands there =
    let p = method_there d m row stands there in
    rw (p.is, p.owner) (sym (target_by_is d m class row p.part stands p.is (owner_class m row p.part.owner p.owner)))

pub target_is : (d : DispatchParts) (m : Module) (class method : Token) → StandsForModule d m → IsTrue (has_row m method) → target_in d class method ≡ target_of m class method
unfolding target_in target_of
target_is d m class method stands there = by_table (method.table == 0x06) refl
  where
    by_table : (b : Bool) → (method.table == 0x06) ≡ b → (if b then option_map method_at (option_and_then (declared_target_in d class method.row) (nth_part d.methods method.row)) else None) ≡ (if b then option_and_then (declared_target m class method) (owner_of m method) else None)
    by_table false is = refl
    by_table true is =
        let e = method_is method is in
        target_row d m class method.row stands (subst (λ t. has_row m t ≡ true) e there)
        ∙ ap (λ t. option_and_then (declared_target m class t) (owner_of m t)) (sym e)
