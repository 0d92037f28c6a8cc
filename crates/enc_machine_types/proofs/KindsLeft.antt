-- What is left behind kinds that are read, and which kind stands at a place.
use Rattle.std.proofs.Common.{◌≡◌, ℕ, zero, suc, ◌≤◌, true, false, List, [], ◌∷◌, length, drop, Option, Some, None, refl, ap, arith}
use Rattle.std.specs.Prelude.{option_map, slice_get}
use Rattle.enc_objects.specs.declared.kind.Kind.{Kind}
use Rattle.enc_sigs.specs.Grammar.{many, begins}
use Rattle.enc_sigs.specs.Reads.{left_after}
use Rattle.enc_machine_types.specs.Fronts.{kind_front, parameter_front, parameter_kinds, with_kinds, kinds_at}

kinds_left : (k : Kind) (o : Option (List Kind × List ℕ)) → left_after {A = List Kind} (option_map {T = (Kind × List Kind) × List ℕ} (λ p. (p.0.0 ∷ p.0.1, p.1)) (option_map {T = List Kind × List ℕ} (λ q. ((k, q.0), q.1)) o)) ≡ left_after o
kinds_left k None = refl
kinds_left k (Some q) = refl

-- one more parameter is read
pub left_more : (n m : ℕ) (bytes rest : List ℕ) (k : Kind) → n ≡ suc m → begins 0x41 bytes ≡ false → Some (k, rest) ≡ kind_front bytes → left_after (parameter_kinds n bytes) ≡ left_after (parameter_kinds m rest)
unfolding parameter_kinds
left_more n m bytes rest k e plain is = rw (e, plain, ← is) (kinds_left k (parameter_kinds m rest))

-- none is read
pub left_fails : (n m : ℕ) (bytes : List ℕ) → n ≡ suc m → begins 0x41 bytes ≡ false → None ≡ kind_front bytes → left_after (parameter_kinds n bytes) ≡ None
unfolding parameter_kinds
left_fails n m bytes e plain is = rw (e, plain, ← is) refl

-- none is left
pub left_done : (n : ℕ) (bytes : List ℕ) → n ≡ 0 → left_after (parameter_kinds n bytes) ≡ Some bytes
unfolding parameter_kinds
left_done n bytes e = rw e refl

-- behind a sentinel as many types stand as parameters are left
pub left_marked : (n m : ℕ) (bytes : List ℕ) → n ≡ suc m → begins 0x41 bytes ≡ true → left_after (parameter_kinds n bytes) ≡ left_after (many kind_front n (drop 1 bytes))
unfolding parameter_kinds
left_marked n m bytes e marked = rw (e, marked) refl

-- the kind at a place is that at the place before it, behind a type
pub get_more : (n m i j : ℕ) (at rest : List ℕ) (k : Kind) → n ≡ suc m → i ≡ suc j → Some (k, rest) ≡ parameter_front at → slice_get (kinds_at n at) i ≡ slice_get (kinds_at m rest) j
unfolding kinds_at
get_more n m i j at rest k e f is = rw (e, f, ← is) refl

pub get_first : (n m i : ℕ) (at rest : List ℕ) (k : Kind) → n ≡ suc m → i ≡ 0 → Some (k, rest) ≡ parameter_front at → slice_get (kinds_at n at) i ≡ Some k
unfolding kinds_at
get_first n m i at rest k e f is = rw (e, f, ← is) refl

pub none_there : (n : ℕ) (at : List ℕ) → None ≡ parameter_front at → kinds_at n at ≡ []
unfolding kinds_at
none_there zero at is = refl
none_there (suc n) at is = rw (← is) refl

pub get_none : (n i : ℕ) (at : List ℕ) → None ≡ parameter_front at → slice_get (kinds_at n at) i ≡ None
get_none n i at is = rw (none_there n at is) refl

past_by : (n i : ℕ) (o : Option (Kind × List ℕ)) → ((rest : List ℕ) → slice_get (kinds_at n rest) i ≡ None) → slice_get (with_kinds (kinds_at n) o) (suc i) ≡ None
past_by n i None h = refl
past_by n i (Some p) h = h p.1

pub get_past : (n i : ℕ) (at : List ℕ) → n ≤ i → slice_get (kinds_at n at) i ≡ None
unfolding kinds_at
get_past zero i at h = refl
get_past (suc n) zero at h = absurd (omega arith)
get_past (suc n) (suc i) at h = past_by n i (parameter_front at) (λ rest. get_past n i rest (omega arith))

-- a first kind and those behind it
pub kinds_first : (n m : ℕ) (at rest : List ℕ) (k : Kind) → n ≡ suc m → Some (k, rest) ≡ parameter_front at → kinds_at n at ≡ k ∷ kinds_at m rest
unfolding kinds_at
kinds_first n m at rest k e is = rw (e, ← is) refl

pub others_counted : (n m : ℕ) (at rest : List ℕ) (k : Kind) → n ≡ suc m → Some (k, rest) ≡ parameter_front at → length (kinds_at n at) ≡ n → length (kinds_at m rest) ≡ m
others_counted n m at rest k e is all = omega (arith, ap length (kinds_first n m at rest k e is), all, e)
