-- One object of a store is changed: it is what it was changed to, and every other is as it was.
use Rattle.std.proofs.Common.{◌≡◌, ℕ, zero, suc, ◌+◌, ◌-◌, Bool, true, false, cond, List, [], ◌∷◌, ◌++◌, length, map, Option, Some, None, refl, ap, ◌∙◌, arith}
use Rattle.std.specs.Prelude.{◌==◌, ◌&&◌, option_map, option_and_then, unwrap_or, is_some, slice_get, slice_set}
use Rattle.enc_base.specs.Token.{is_token}
use Rattle.enc_base.specs.declared.token.Token.{Token}
use Rattle.enc_objects.specs.declared.value.Value.{Value}
use Rattle.enc_objects.specs.declared.object.Object.{Object}
use Rattle.enc_objects.specs.declared.object.Content.{Content}
use Rattle.enc_objects.specs.declared.object.Content.TheVariants.{Instance, Array, Text}
use Rattle.enc_objects.specs.Entries.{Entries, value_for, put_value}
use Rattle.enc_objects.specs.Objects.{Store, object_at, has_object, with_object, next_object, fields_in, with_static, with_changed, with_field, with_field_of, with_element, with_element_of, array_elements, element_of, element_in}
use Rattle.enc_objects.specs.Laws.{FieldsAreSet, OtherFieldsStay, StaticsAreSet, OtherStaticsStay, ElementsAreSet, OtherElementsStay, PartsStayApart, NewObjectsAreThere, OldObjectsStay, ObjectsStayThere}
use Rattle.enc_objects.proofs.Placed.{found_after_put, same_in_order}

same : {X : Type 0} → (z x : X) → Some z ≡ Some x → x ≡ z
same z x e = cc

-- an item of a list that is set
set_here : {X : Type 0} → (xs : List X) (k i : ℕ) (x y : X) → k ≡ i → slice_get xs i ≡ Some x → slice_get (slice_set xs k y) i ≡ Some y
set_here [] k i x y e there = absurd cc
set_here (z ∷ xs) zero zero x y e there = refl
set_here (z ∷ xs) zero (suc i) x y e there = absurd (omega (arith, e))
set_here (z ∷ xs) (suc k) zero x y e there = absurd (omega (arith, e))
set_here (z ∷ xs) (suc k) (suc i) x y e there = set_here xs k i x y (omega (arith, e)) there

set_apart : {X : Type 0} → (xs : List X) (k j : ℕ) (y : X) → (j == k) ≡ false → slice_get (slice_set xs k y) j ≡ slice_get xs j
set_apart [] k j y apart = refl
set_apart (z ∷ xs) zero zero y apart = absurd cc
set_apart (z ∷ xs) zero (suc j) y apart = refl
set_apart (z ∷ xs) (suc k) zero y apart = refl
set_apart (z ∷ xs) (suc k) (suc j) y apart = set_apart xs k j y (grind (arith, apart))

-- items that are replaced by one that can't be told apart
set_alike : {X Y : Type 0} → (g : X → Y) (xs : List X) (k i : ℕ) (x y : X) → k ≡ i → slice_get xs i ≡ Some x → g y ≡ g x → map g (slice_set xs k y) ≡ map g xs
set_alike g [] k i x y e there alike = refl
set_alike g (z ∷ xs) zero zero x y e there alike = ap (λ (v : _). v ∷ map g xs) (alike ∙ ap g (same z x there))
set_alike g (z ∷ xs) zero (suc i) x y e there alike = absurd (omega (arith, e))
set_alike g (z ∷ xs) (suc k) zero x y e there alike = absurd (omega (arith, e))
set_alike g (z ∷ xs) (suc k) (suc i) x y e there alike = ap (λ (l : _). g z ∷ l) (set_alike g xs k i x y (omega (arith, e)) there alike)

pub changed_here : (s : Store) (id : ℕ) (f : Object → Object) → object_at (with_changed id f s) id ≡ option_map f (object_at s id)
changed_here s zero f = refl
changed_here s (suc i) f = by (slice_get s.objects i) refl
  where
    by : (o : Option Object) → slice_get s.objects i ≡ o
        → object_at (unwrap_or (option_map (λ (x : Object). record s { objects = slice_set s.objects (suc i - 1) (f x) }) o) s) (suc i) ≡ option_map f o
    by None e = e
    by (Some x) e = set_here s.objects (suc i - 1) i x (f x) (omega arith) e

pub changed_apart : (s : Store) (id other : ℕ) (f : Object → Object) → (other == id) ≡ false → object_at (with_changed id f s) other ≡ object_at s other
changed_apart s id zero f apart = refl
changed_apart s zero (suc j) f apart = refl
changed_apart s (suc i) (suc j) f apart = by (slice_get s.objects i)
  where
    by : (o : Option Object) → object_at (unwrap_or (option_map (λ (x : Object). record s { objects = slice_set s.objects (suc i - 1) (f x) }) o) s) (suc j) ≡ slice_get s.objects j
    by None = refl
    by (Some x) = set_apart s.objects (suc i - 1) j (f x) (grind (arith, apart))

-- what a change leaves
pub change_keeps : {Y : Type 0} → (g : Object → Y) (s : Store) (id : ℕ) (f : Object → Object) → ((x : Object) → g (f x) ≡ g x) → map g (with_changed id f s).objects ≡ map g s.objects
change_keeps g s zero f keeps = refl
change_keeps g s (suc i) f keeps = by (slice_get s.objects i) refl
  where
    by : (o : Option Object) → slice_get s.objects i ≡ o
        → map g (unwrap_or (option_map (λ (x : Object). record s { objects = slice_set s.objects (suc i - 1) (f x) }) o) s).objects ≡ map g s.objects
    by None e = refl
    by (Some x) e = set_alike g s.objects (suc i - 1) i x (f x) (omega arith) e (keeps x)

pub change_keeps_statics : (s : Store) (id : ℕ) (f : Object → Object) → (with_changed id f s).statics ≡ s.statics
change_keeps_statics s id f = by (object_at s id)
  where
    by : (o : Option Object) → (unwrap_or (option_map (λ (x : Object). record s { objects = slice_set s.objects (id - 1) (f x) }) o) s).statics ≡ s.statics
    by None = refl
    by (Some x) = refl

token_is_itself : (t : Token) → is_token t t ≡ true
token_is_itself t = grind arith

-- the value of a token that was put, and of another
put_found : (t : Token) (v : Value) (es : Entries) → value_for t (put_value t v es) ≡ Some v
put_found t v es = found_after_put t t v es ∙ ap (λ (b : Bool). cond b (Some v) (value_for t es)) (same_in_order t t ∙ token_is_itself t)

put_other : (q t : Token) (v : Value) (es : Entries) → is_token q t ≡ false → value_for q (put_value t v es) ≡ value_for q es
put_other q t v es apart = found_after_put q t v es ∙ ap (λ (b : Bool). cond b (Some v) (value_for q es)) (same_in_order q t ∙ apart)

-- the fields of an object that may not be there
fields_or_none : Token → Option Object → Option Value
fields_or_none asked o = value_for asked (unwrap_or (option_map (λ (o : Object). o.fields) o) [])

pub fields_are_set : FieldsAreSet
unfolding fields_or_none fields_in with_field has_object
fields_are_set s id field value there =
    ap (fields_or_none field) (changed_here s id (with_field_of field value)) ∙ by (object_at s id) there
  where
    by : (o : Option Object) → is_some o ≡ true → fields_or_none field (option_map (with_field_of field value) o) ≡ Some value
    by None h = absurd cc
    by (Some x) h = put_found field value x.fields

pub other_fields_stay : OtherFieldsStay
unfolding fields_or_none fields_in with_field
other_fields_stay s id other field asked value apart = by (other == id) refl apart
  where
    here : is_token asked field ≡ false → (o : Option Object) → fields_or_none asked (option_map (with_field_of field value) o) ≡ fields_or_none asked o
    here h None = refl
    here h (Some x) = put_other asked field value x.fields h

    at : (k : ℕ) → k ≡ id → is_token asked field ≡ false → fields_or_none asked (object_at (with_field id field value s) k) ≡ fields_or_none asked (object_at s k)
    at k e h = rw e (ap (fields_or_none asked) (changed_here s id (with_field_of field value)) ∙ here h (object_at s id))

    by : (b : Bool) → (other == id) ≡ b → (b && is_token asked field) ≡ false → fields_or_none asked (object_at (with_field id field value s) other) ≡ fields_or_none asked (object_at s other)
    by false e h = ap (fields_or_none asked) (changed_apart s id other (with_field_of field value) e)
    by true e h = at other (grind (arith, e)) h

pub statics_are_set : StaticsAreSet
unfolding with_static
statics_are_set s field value = put_found field value s.statics

pub other_statics_stay : OtherStaticsStay
unfolding with_static
other_statics_stay s field asked value apart = put_other asked field value s.statics apart

-- the element of an object that may not be there
element_or_none : ℕ → Option Object → Option Value
element_or_none i o = option_and_then (element_of i) o

element_set : (i : ℕ) (v : Value) (c : Content) (fields : Entries) → is_some (slice_get (array_elements c) i) ≡ true
    → element_of i (with_element_of i v (record { content = c; fields = fields })) ≡ Some v
element_set i v (Instance class) fields h = absurd cc
element_set i v (Array k elements) fields h = by (slice_get elements i) refl h
  where
    by : (o : Option Value) → slice_get elements i ≡ o → is_some o ≡ true → slice_get (slice_set elements i v) i ≡ Some v
    by None e h = absurd cc
    by (Some x) e h = set_here elements i i x v refl e
element_set i v (Text units) fields h = absurd cc

element_apart : (i j : ℕ) (v : Value) (c : Content) (fields : Entries) → (j == i) ≡ false
    → element_of j (with_element_of i v (record { content = c; fields = fields })) ≡ slice_get (array_elements c) j
element_apart i j v (Instance class) fields h = refl
element_apart i j v (Array k elements) fields h = set_apart elements i j v h
element_apart i j v (Text units) fields h = refl

pub elements_are_set : ElementsAreSet
unfolding element_or_none element_in with_element
elements_are_set s id i value there =
    ap (element_or_none i) (changed_here s id (with_element_of i value)) ∙ by (object_at s id) there
  where
    by : (o : Option Object) → is_some (element_or_none i o) ≡ true → element_or_none i (option_map (with_element_of i value) o) ≡ Some value
    by None h = absurd cc
    by (Some x) h = element_set i value x.content x.fields h

pub other_elements_stay : OtherElementsStay
unfolding element_or_none element_in with_element
other_elements_stay s id other i j value apart = by (other == id) refl apart
  where
    here : (j == i) ≡ false → (o : Option Object) → element_or_none j (option_map (with_element_of i value) o) ≡ element_or_none j o
    here h None = refl
    here h (Some x) = element_apart i j value x.content x.fields h

    at : (k : ℕ) → k ≡ id → (j == i) ≡ false → element_or_none j (object_at (with_element id i value s) k) ≡ element_or_none j (object_at s k)
    at k e h = rw e (ap (element_or_none j) (changed_here s id (with_element_of i value)) ∙ here h (object_at s id))

    by : (b : Bool) → (other == id) ≡ b → (b && (j == i)) ≡ false → element_or_none j (object_at (with_element id i value s) other) ≡ element_or_none j (object_at s other)
    by false e h = ap (element_or_none j) (changed_apart s id other (with_element_of i value) e)
    by true e h = at other (grind (arith, e)) h

pub parts_stay_apart : PartsStayApart
unfolding with_field with_element
parts_stay_apart s id field value i = (
  change_keeps (λ (o : Object). o.content) s id (with_field_of field value) (λ x. refl),
  change_keeps_statics s id (with_field_of field value),
  change_keeps (λ (o : Object). o.fields) s id (with_element_of i value) (λ x. refl),
  change_keeps_statics s id (with_element_of i value),
)

-- an object before one more, and that one
before_more : {X : Type 0} → (xs : List X) (y : X) (i : ℕ) → is_some (slice_get xs i) ≡ true → slice_get (xs ++ y ∷ []) i ≡ slice_get xs i
before_more [] y i h = absurd cc
before_more (x ∷ xs) y zero h = refl
before_more (x ∷ xs) y (suc i) h = before_more xs y i h

last_of_more : {X : Type 0} → (xs : List X) (y : X) → slice_get (xs ++ y ∷ []) (length xs) ≡ Some y
last_of_more [] y = refl
last_of_more (x ∷ xs) y = last_of_more xs y

at_suc : (s : Store) (n i : ℕ) → n ≡ i + 1 → object_at s n ≡ slice_get s.objects i
at_suc s zero i e = absurd (omega (arith, e))
at_suc s (suc n) i e = ap (slice_get s.objects) (omega (arith, e))

pub new_objects_are_there : NewObjectsAreThere
new_objects_are_there s c = at_suc (with_object c s) (next_object s) (length s.objects) refl ∙ last_of_more s.objects (record { content = c; fields = [] })

pub old_objects_stay : OldObjectsStay
unfolding has_object
old_objects_stay s c zero there = refl
old_objects_stay s c (suc i) there = before_more s.objects (record { content = c; fields = [] }) i there

pub stays_there : (s : Store) (id other : ℕ) (f : Object → Object) → is_some (object_at (with_changed id f s) other) ≡ is_some (object_at s other)
stays_there s id other f = by (other == id) refl
  where
    here : (o : Option Object) → is_some (option_map f o) ≡ is_some o
    here None = refl
    here (Some x) = refl

    at : (k : ℕ) → k ≡ id → is_some (object_at (with_changed id f s) k) ≡ is_some (object_at s k)
    at k e = rw e (ap (λ (o : Option Object). is_some o) (changed_here s id f) ∙ here (object_at s id))

    by : (b : Bool) → (other == id) ≡ b → is_some (object_at (with_changed id f s) other) ≡ is_some (object_at s other)
    by false e = ap (λ (o : Option Object). is_some o) (changed_apart s id other f e)
    by true e = at other (grind (arith, e))

pub objects_stay_there : ObjectsStayThere
unfolding has_object with_field with_element
objects_stay_there s id other field value i = (stays_there s id other (with_field_of field value), stays_there s id other (with_element_of i value))
