-- What one object more changes, and what an object that isn't there has.
use Rattle.std.proofs.Common.{◌≡◌, ℕ, ◌+◌, ◌≤◌, false, List, [], ◌∷◌, ◌++◌, length, None, ap, ◌∙◌, length-append, arith}
use Rattle.std.proofs.lemmas.List.Sums.{sum_by_push}
use Rattle.std.specs.List.Sorted.{IsStrictlySortedBy}
use Rattle.std.specs.Map.{keys_of}
use Rattle.enc_objects.specs.declared.object.Object.{Object}
use Rattle.enc_objects.specs.Limits.{most_objects, most_parts}
use Rattle.enc_objects.specs.Entries.{token_ordering}
use Rattle.enc_objects.specs.Objects.{Store, object_at, fields_in, part_count, parts_held, is_full}

-- one object more, and its parts
pub one_more : (old new : List Object) (o : Object) → new ≡ old ++ o ∷ [] → length new ≡ length old + 1
one_more old new o is = ap (λ (l : List Object). length l) is ∙ length-append old (o ∷ [])

pub parts_more : (old new : List Object) (o : Object) → new ≡ old ++ o ∷ [] → parts_held new ≡ parts_held old + part_count o.content
parts_more old new o is = ap parts_held is ∙ sum_by_push (λ (o : Object). part_count o.content) old o

-- where the store isn't full there is room
pub one_more_fits : (s : Store) (parts : ℕ) → is_full s parts ≡ false → length s.objects + 1 ≤ most_objects
unfolding is_full
one_more_fits s parts h = grind (arith, h)

pub more_parts_fit : (s : Store) (parts : ℕ) → is_full s parts ≡ false → parts_held s.objects + parts ≤ most_parts
unfolding is_full
more_parts_fit s parts h = grind (arith, h)

-- no field is set of an object that isn't there
pub none_in_order : (s : Store) (id : ℕ) → object_at s id ≡ None → IsStrictlySortedBy token_ordering (keys_of (fields_in s id))
unfolding IsStrictlySortedBy fields_in
none_in_order s id h = rw h tt
