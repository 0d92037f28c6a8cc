-- The thing at a place of those that are read one behind the other: those before it, the thing, and those behind it.
use Rattle.std.proofs.Common.{◌≡◌, ℕ, zero, suc, ◌+◌, ◌≤◌, List, ◌∷◌, length, Option, Some, None, refl, sym, ap, ◌∙◌, arith}
use Rattle.std.specs.Prelude.{option_map, option_and_then}
use Rattle.std.proofs.lemmas.Option.{slice_get_past}
use Rattle.enc_base.specs.Readers.{Reader}
use Rattle.enc_sigs.specs.Grammar.{many}
use Rattle.enc_sigs.specs.Reads.{left_after}
use Rattle.enc_sigs.proofs.Many.{many_length}
use Rattle.enc_machine_types.specs.Fronts.{nth_of}
use Rattle.enc_machine_types.proofs.KindsRead.{first_and}

-- a thing in front of those that are read
abbrev in_front : {A : Type 0} → A → Option (List A × List ℕ) → Option (List A × List ℕ)
in_front {A} x o =
    option_map {T = (A × List A) × List ℕ} (λ q. (q.0.0 ∷ q.0.1, q.1)) (option_map {T = List A × List ℕ} (λ q. ((x, q.0), q.1)) o)

nth_more : {A : Type 0} (i : ℕ) (x : A) (o : Option (List A × List ℕ)) → nth_of (suc i) (in_front x o) ≡ nth_of i o
nth_more i x None = refl
nth_more i x (Some q) = refl

nth_first : {A : Type 0} (x : A) (o : Option (List A × List ℕ)) → nth_of 0 (in_front x o) ≡ option_map (λ rest. (x, rest)) (left_after o)
nth_first x None = refl
nth_first x (Some q) = refl

same_left : {A : Type 0} (x : A) (o : Option (List A × List ℕ)) → left_after (in_front x o) ≡ left_after o
same_left x None = refl
same_left x (Some q) = refl

-- the thing at the front, and what is left behind so many more
abbrev first_past : {A : Type 0} → Reader A → ℕ → Reader A
first_past {A} one m bytes =
    option_and_then (λ (p : A × List ℕ). option_map (λ (rest : List ℕ). (p.0, rest)) (left_after (many one m p.1))) (one bytes)

first_is : {A : Type 0} (one : Reader A) (m : ℕ) (bytes : List ℕ) (o : Option (A × List ℕ))
    → one bytes ≡ o → nth_of 0 (many one (suc m) bytes) ≡ first_past one m bytes
unfolding many
first_is one m bytes None e = rw e refl
first_is one m bytes (Some p) e = rw e (nth_first p.0 (many one m p.1))

-- what is read at a place is what stands at the front behind as many things as are before it
abbrev IsPast : {A : Type 0} → Reader A → ℕ → Reader (List A) → ℕ → List ℕ → Type 0
IsPast one m others i bytes = nth_of i (others bytes) ≡ option_and_then (first_past one m) (left_after (many one i bytes))

by_first : {A : Type 0} (one : Reader A) (n i m : ℕ) (bytes : List ℕ) (o : Option (A × List ℕ))
    → ((rest : List ℕ) → IsPast one m (many one n) i rest) → one bytes ≡ o → IsPast one m (first_and one (many one n)) (suc i) bytes
unfolding many
by_first one n i m bytes None each e = rw e refl
by_first one n i m bytes (Some p) each e =
    rw e (nth_more i p.0 (many one n p.1) ∙ each p.1 ∙ ap (option_and_then (first_past one m)) (sym (same_left p.0 (many one i p.1))))

-- so many things are those before a place, the thing there, and the others
nth_is : {A : Type 0} (one : Reader A) (n i m : ℕ) (bytes : List ℕ) → n ≡ i + suc m → IsPast one m (many one n) i bytes
unfolding many
nth_is one n zero m bytes e = let f : n ≡ suc m = omega (arith, e) in rw f (first_is one m bytes (one bytes) refl)
nth_is one zero (suc i) m bytes e = absurd (omega (arith, e))
nth_is one (suc n) (suc i) m bytes e = by_first one n i m bytes (one bytes) (λ rest. nth_is one n i m rest (omega (arith, e))) refl

-- there is no such place
past_by : {A : Type 0} (i : ℕ) (o : Option (List A × List ℕ)) → ((p : List A × List ℕ) → o ≡ Some p → length p.0 ≤ i) → None ≡ nth_of i o
past_by i None h = refl
past_by i (Some p) h = rw (slice_get_past p.0 i (h p refl)) refl

pub nth_past : {A : Type 0} (one : Reader A) (n i : ℕ) (bytes : List ℕ) → n ≤ i → None ≡ nth_of i (many one n bytes)
nth_past one n i bytes h = past_by i (many one n bytes) (λ p e. omega (arith, many_length one n bytes p e, h))

-- those before the place aren't read
pub none_before : {A : Type 0} (one : Reader A) (n i m : ℕ) (bytes : List ℕ)
    → n ≡ i + suc m → None ≡ left_after (many one i bytes) → None ≡ nth_of i (many one n bytes)
none_before one n i m bytes e f = sym (nth_is one n i m bytes e ∙ rw (← f) refl)

-- the thing there isn't
pub none_at : {A : Type 0} (one : Reader A) (n i m : ℕ) (bytes before : List ℕ)
    → n ≡ i + suc m → Some before ≡ left_after (many one i bytes) → None ≡ one before → None ≡ nth_of i (many one n bytes)
none_at one n i m bytes before e f g = sym (nth_is one n i m bytes e ∙ rw (← f, ← g) refl)

-- those behind it aren't
pub none_behind : {A : Type 0} (one : Reader A) (n i m : ℕ) (bytes before behind : List ℕ) (x : A)
    → n ≡ i + suc m → Some before ≡ left_after (many one i bytes) → Some (x, behind) ≡ one before → None ≡ left_after (many one m behind)
    → None ≡ nth_of i (many one n bytes)
none_behind one n i m bytes before behind x e f g h = sym (nth_is one n i m bytes e ∙ rw (← f, ← g, ← h) refl)

-- all are
pub nth_read : {A : Type 0} (one : Reader A) (n i m : ℕ) (bytes before behind rest : List ℕ) (x : A)
    → n ≡ i + suc m → Some before ≡ left_after (many one i bytes) → Some (x, behind) ≡ one before → Some rest ≡ left_after (many one m behind)
    → Some (x, rest) ≡ nth_of i (many one n bytes)
nth_read one n i m bytes before behind rest x e f g h = sym (nth_is one n i m bytes e ∙ rw (← f, ← g, ← h) refl)
