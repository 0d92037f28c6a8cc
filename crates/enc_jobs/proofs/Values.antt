-- Values of JSON by their elements and keys.
use Rattle.std.proofs.Common.{◌≡◌, ℕ, List, [], ◌∷◌, map, Option, Some, None, String, Global, string_bytes, bytes_eq, Bor, true, false, ◌||◌, refl, ap}
use Rattle.std.specs.List.{list_any}
use Rattle.std.proofs.lemmas.Bool.{false≢true}
use Rattle.std.specs.Map.{keys_of}
use Rattle.serde_json.specs.Data.{Data}
use Rattle.serde_json.specs.Find.{as_array}
use Rattle.serde_json.specs.View.{view, items_of, items_view, members_view}
use Rattle.serde_json.specs.declared.value.Value.{Value}
use Rattle.enc_jobs.specs.Json.{elements_in, elements_of, keys_in, is_one_of}

elements_in-items_of : (ds : List Data) → elements_in (items_of ds) ≡ ds
elements_in-items_of [] = refl
elements_in-items_of (d ∷ ds) = ap (λ l. d ∷ l) (elements_in-items_of ds)

-- the elements of an array are its values
pub elements_seen : (d : Data) (vs : List Value) → as_array d ≡ Some (items_view vs) → elements_of d ≡ Some (map view vs)
unfolding elements_of
elements_seen d vs e = rw e (ap Some (elements_in-items_of (map view vs)))

-- a text among some
pub among_seen : (names : List (Bor (List ℕ))) (t : List ℕ) → list_any (λ (n : Bor (List ℕ)). bytes_eq n.now t) names ≡ is_one_of (map (λ (n : Bor (List ℕ)). n.now) names) t
among_seen [] t = refl
among_seen (n ∷ names) t = ap (λ b. bytes_eq n.now t || b) (among_seen names t)

-- the keys of an object are those of its members
pub keys_seen : (ms : List (String Global × Value)) → keys_in (members_view ms) ≡ map string_bytes (keys_of ms)
keys_seen [] = refl
keys_seen (m ∷ ms) = ap (λ l. string_bytes m.0 ∷ l) (keys_seen ms)

-- what is never something is nothing
pub nothing : {A : Type 0} (o : Option A) → ((x : A) × (o ≡ Some x) → false ≡ true) → o ≡ None
nothing None h = refl
nothing (Some x) h = absurd (false≢true (h (x, refl)))
