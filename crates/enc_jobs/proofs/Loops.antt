-- Lists that a loop reads element by element.
use Rattle.std.proofs.Common.{◌≡◌, ℕ, ◌+◌, ◌<◌, ◌≤◌, List, [], ◌∷◌, ◌++◌, length, get_or, drop, map, Option, Some, None, option_map, Err, refl, sym, ap, ◌∙◌, append_assoc, append-nil}
use Rattle.std.proofs.lemmas.List.{at_drop_more, drop_all}
use Rattle.std.proofs.lemmas.Option.{slice_get_within, get_or_from_slice_get}
use Rattle.std.specs.Prelude.{slice_get}
use Rattle.enc_jobs.specs.declared.fault.Refused.{Refused}
use Rattle.enc_jobs.specs.declared.fault.Refused.TheVariants.{Memory, Form}
use Rattle.enc_jobs.specs.Outcome.{ReadsAs}
use Rattle.enc_jobs.specs.Lists.{with_first, every}

-- what is left to be read, behind what was read
abbrev pub behind : {B : Type 0} → List B → Option (List B) → Option (List B)
behind read rest = option_map (λ ys. read ++ ys) rest

pub behind_none_yet : {B : Type 0} (o : Option (List B)) → behind [] o ≡ o
behind_none_yet None = refl
behind_none_yet (Some ys) = refl

pub behind_one_more : {B : Type 0} (read : List B) (y : B) (o : Option (List B)) → behind read (with_first (Some y) o) ≡ behind (read ++ y ∷ []) o
behind_one_more read y None = refl
behind_one_more read y (Some ys) = ap Some (sym (append_assoc read (y ∷ []) ys))

-- the element at an index, in front of those that are left
pub front : {V : Type 0} (xs : List V) (i : ℕ) (x : V) → i < length xs → x ≡ get_or xs i x → drop i xs ≡ x ∷ drop (i + 1) xs
front xs i x h is = at_drop_more (λ l. l) xs i x h ∙ ap (λ y. y ∷ drop (i + 1) xs) (sym is)

pub front_at : {V : Type 0} (xs : List V) (i : ℕ) (x : V) → slice_get xs i ≡ Some x → drop i xs ≡ x ∷ drop (i + 1) xs
front_at xs i x is = front xs i x (slice_get_within xs i x is) (sym (get_or_from_slice_get xs i x x is))

-- nothing is read yet
pub every_start : {A V B : Type 0} (r : A → Option B) (v : V → A) (xs : List V) → behind [] (every r (map v (drop 0 xs))) ≡ every r (map v xs)
every_start r v xs = behind_none_yet (every r (map v xs))

every_front : {A B : Type 0} (r : A → Option B) (x : A) (xs : List A) → every r (x ∷ xs) ≡ with_first (r x) (every r xs)
unfolding every
every_front r x xs = refl

every_none : {A B : Type 0} (r : A → Option B) → every r [] ≡ Some []
unfolding every
every_none r = refl

-- one element more
pub every_more : {A V B : Type 0} (r : A → Option B) (v : V → A) (xs : List V) (i : ℕ) (x : V) (y : B) (read : List B) → i < length xs → x ≡ get_or xs i x → r (v x) ≡ Some y → behind read (every r (map v (drop i xs))) ≡ behind (read ++ y ∷ []) (every r (map v (drop (i + 1) xs)))
every_more r v xs i x y read h at is = rw (front xs i x h at, every_front r (v x) (map v (drop (i + 1) xs)), is) (behind_one_more read y _)

-- an element that isn't read
every_fails : {A V B : Type 0} (r : A → Option B) (v : V → A) (xs : List V) (i : ℕ) (x : V) (read : List B) → i < length xs → x ≡ get_or xs i x → r (v x) ≡ None → behind read (every r (map v (drop i xs))) ≡ None
every_fails r v xs i x read h at is = rw (front xs i x h at, every_front r (v x) (map v (drop (i + 1) xs)), is) refl

-- an element that is refused
pub every_refused : {A V B : Type 0} (r : A → Option B) (v : V → A) (xs : List V) (i : ℕ) (x : V) (read : List B) (e : Refused) → i < length xs → x ≡ get_or xs i x → ReadsAs (Err e) (r (v x)) → behind read (every r (map v (drop i xs))) ≡ every r (map v xs) → ReadsAs {A = List B} (Err e) (every r (map v xs))
every_refused r v xs i x read Memory h at is all = tt
every_refused r v xs i x read Form h at is all = sym all ∙ every_fails r v xs i x read h at is

-- all are read
pub every_done : {A V B : Type 0} (r : A → Option B) (v : V → A) (xs : List V) (i : ℕ) (read : List B) → length xs ≤ i → behind read (every r (map v (drop i xs))) ≡ every r (map v xs) → every r (map v xs) ≡ Some read
every_done {B} r v xs i read h all = sym all ∙ rw (drop_all i xs h, every_none {B = B} r) (ap Some (append-nil read))

-- the same of a list that is no view of another
pub one_more : {A B : Type 0} (r : A → Option B) (xs rest : List A) (x : A) (y : B) (read : List B) → xs ≡ x ∷ rest → r x ≡ Some y → behind read (every r xs) ≡ behind (read ++ y ∷ []) (every r rest)
one_more r xs rest x y read cons is = rw (cons, every_front r x rest, is) (behind_one_more read y (every r rest))

pub one_refused : {A B : Type 0} (r : A → Option B) (xs rest : List A) (x : A) (read : List B) (e : Refused) (all : Option (List B)) → xs ≡ x ∷ rest → ReadsAs (Err e) (r x) → behind read (every r xs) ≡ all → ReadsAs {A = List B} (Err e) all
one_refused r xs rest x read Memory all cons is whole = tt
one_refused r xs rest x read Form all cons is whole = sym whole ∙ rw (cons, every_front r x rest, is) refl

pub none_left : {A B : Type 0} (r : A → Option B) (xs : List A) (read : List B) (all : Option (List B)) → xs ≡ [] → behind read (every r xs) ≡ all → all ≡ Some read
none_left {B} r xs read all nil whole = sym whole ∙ rw (nil, every_none {B = B} r) (ap Some (append-nil read))

pub none_read : {A B : Type 0} (r : A → Option B) (xs : List A) → behind [] (every r xs) ≡ every r xs
none_read r xs = behind_none_yet (every r xs)

pub ruleset every_steps = (every_start, every_more, every_refused, every_done)
