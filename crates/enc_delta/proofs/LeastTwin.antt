-- The least number of those that pass a test is that of one that does.
use Rattle.std.proofs.Common.{◌≡◌, ℕ, zero, suc, ◌+◌, ◌*◌, ◌<◌, ◌≤◌, Bool, true, false, List, [], ◌∷◌, map, Option, Some, None, refl, sym, ap, ◌∙◌, inl, inr, arith}
use Rattle.std.specs.Prelude.{◌/◌, ◌%◌, ◌^◌, filter, slice_get}
use Rattle.std.proofs.lemmas.Bool.{cases_lt}
use Rattle.enc_base.specs.Token.{token_of, number_of}
use Rattle.enc_base.specs.declared.token.Token.{Token}
use Rattle.enc_base.specs.declared.refusal.Place.TheVariants as place
use Rattle.enc_plain.specs.Module.{Module}
use Rattle.enc_plain.specs.Apply.{Attached}
use Rattle.enc_delta.specs.Rules.{least, lesser, at_token}
use Rattle.enc_delta.specs.Twins.{Asked, has_twin, twin_fault}
use Rattle.enc_delta.specs.TwinLaw.{IsLeastOf, NonePasses, child_number, NamesTwin, NamesLeastTwin}
use Rattle.enc_delta.proofs.ListsChildren.{two}

abbrev Least : {A : Type 0} → (A → ℕ) → (A → Bool) → List A → Option ℕ → Type 0
Least number test xs None = NonePasses test xs
Least {A} number test xs (Some n) = (x : A) × IsLeastOf number test xs x × (n ≡ number x)

least_past : {A : Type 0} (number : A → ℕ) (test : A → Bool) (x : A) (xs : List A) (o : Option ℕ) → test x ≡ false → Least number test xs o → Least number test (x ∷ xs) o
least_past {A} number test x xs None fails h = each
  where
    each : (i : ℕ) (y : A) → slice_get (x ∷ xs) i ≡ Some y → test y ≡ false
    each zero y e = let same : x ≡ y = cc in ap test (sym same) ∙ fails
    each (suc i) y e = h i y e
least_past {A} number test x xs (Some n) fails h = (h.0, record { at = suc h.1.at; there = h.1.there; passes = h.1.passes; least = each }, h.2)
  where
    each : (i : ℕ) (y : A) → slice_get (x ∷ xs) i ≡ Some y → test y ≡ true → number h.0 ≤ number y
    each zero y e passes = let same : x ≡ y = cc in let f : false ≡ true = sym fails ∙ ap test same ∙ passes in absurd cc
    each (suc i) y e passes = h.1.least i y e passes

-- an element that passes, before others none of which has a lesser number
first_least : {A : Type 0} (number : A → ℕ) (test : A → Bool) (x : A) (xs : List A) → test x ≡ true → ((i : ℕ) (y : A) → slice_get xs i ≡ Some y → test y ≡ true → number x ≤ number y) → IsLeastOf number test (x ∷ xs) x
first_least {A} number test x xs is low = record { at = 0; there = refl; passes = is; least = each }
  where
    each : (i : ℕ) (y : A) → slice_get (x ∷ xs) i ≡ Some y → test y ≡ true → number x ≤ number y
    each zero y e passes = let same : x ≡ y = cc in let n = ap number same in omega arith
    each (suc i) y e passes = low i y e passes

least_here : {A : Type 0} (number : A → ℕ) (test : A → Bool) (x : A) (xs : List A) (o : Option ℕ) → test x ≡ true → Least number test xs o → Least number test (x ∷ xs) (lesser (number x) o)
least_here number test x xs None is h = (x, first_least number test x xs is (λ i y e passes. let f : false ≡ true = sym (h i y e) ∙ passes in absurd cc), refl)
least_here {A} number test x xs (Some n) is h =
    let same : n ≡ number h.0 = h.2 in
    elim (cases_lt (number x) n) [
      | inl l ↦ (x, first_least number test x xs is (λ i y e passes. let low = h.1.least i y e passes in omega arith), omega arith)
      | inr l ↦ (h.0, record { at = suc h.1.at; there = h.1.there; passes = h.1.passes; least = below l }, omega arith)
    ]
  where
    below : n ≤ number x → (i : ℕ) (y : A) → slice_get (x ∷ xs) i ≡ Some y → test y ≡ true → number h.0 ≤ number y
    below l zero y e passes = let here : x ≡ y = cc in let m = ap number here in let same = h.2 in omega arith
    below l (suc i) y e passes = h.1.least i y e passes

least_of : {A : Type 0} (number : A → ℕ) (test : A → Bool) (xs : List A) → Least number test xs (least (map number (filter test xs)))
least_of {A} number test [] = λ i y e. absurd (nowhere i y e)
  where
    nowhere : (i : ℕ) (y : A) → slice_get [] i ≡ Some y → ⊥
    nowhere zero y e = cc
    nowhere (suc i) y e = cc
least_of number test (x ∷ xs) = elim (two (test x)) [
  | inl is ↦ rw is (least_here number test x xs _ is (least_of number test xs))
  | inr fails ↦ rw fails (least_past number test x xs _ fails (least_of number test xs))
]

token_back : (t : Token) → t.row < 2 ^ 24 → token_of (number_of t) ≡ t
token_back t h =
    let with_table : ℕ → Token = λ n. record { table = n; row = (t.table * 0x1000000 + t.row) % 0x1000000 } in
    let with_row : ℕ → Token = λ n. record { table = t.table; row = n } in
    let e : (t.table * 0x1000000 + t.row) / 0x1000000 ≡ t.table = omega arith in
    let f : (t.table * 0x1000000 + t.row) % 0x1000000 ≡ t.row = omega arith in
    ap with_table e ∙ ap with_row f

names : (q : Asked) (m : Module) (pairs : List Attached) (o : Option ℕ) → Least child_number (has_twin q m pairs) pairs o → NamesTwin q m pairs (at_token o)
names q m pairs None h = h
names q m pairs (Some n) h = (h.0, h.1, λ small. ap (λ k. place.Row (token_of k)) h.2 ∙ ap (λ t. place.Row t) (token_back h.0.child small))

pub names_least_twin : NamesLeastTwin
unfolding twin_fault
names_least_twin q m pairs = names q m pairs _ (least_of child_number (has_twin q m pairs) pairs)
