-- Arguments that are fitted one after the other.
use Rattle.std.proofs.Common.{◌≡◌, ℕ, ◌-◌, ◌≤◌, Bool, true, List, [], ◌∷◌, ◌++◌, length, take, drop, reverse, Result, Ok, Err, refl, sym, ap, ◌∙◌, arith}
use Rattle.std.specs.Prelude.{nat_le, if◌then◌else◌}
use Rattle.std.proofs.lemmas.Bool.Decides.{nat_tests}
use Rattle.std.proofs.lemmas.List.{append-nil, append_assoc, length-reverse}
use Rattle.enc_objects.specs.declared.kind.Kind.{Kind}
use Rattle.enc_objects.specs.declared.trap.Trap.{Trap}
use Rattle.enc_objects.specs.declared.trap.Trap.TheVariants.{X3}
use Rattle.enc_objects.specs.declared.value.Value.{Value}
use Rattle.enc_frames.proofs.Reversed.{upper_whole}
use Rattle.enc_frames.specs.Values.{arguments}
use Rattle.enc_frames.specs.Results.{◌>>=◌}
use Rattle.enc_frames.specs.Values.{fit, fit_all}

-- what was fitted, and what comes of those behind
abbrev pub with_fitted : List Value → Result (List Value) Trap → Result (List Value) Trap
with_fitted done r = r >>= λ ws. Ok (done ++ ws)

passed : (done : List Value) (w : Value) (r : Result (List Value) Trap) → with_fitted (done ++ w ∷ []) r ≡ with_fitted done (r >>= λ ws. Ok (w ∷ ws))
passed done w (Err t) = refl
passed done w (Ok ws) = ap (λ (l : List Value). Ok l) (append_assoc done (w ∷ []) ws)

-- one more fits
pub fits_on : (done : List Value) (k : Kind) (v w : Value) (ks : List Kind) (vs : List Value) → fit k v ≡ Ok w
    → with_fitted (done ++ w ∷ []) (fit_all ks vs) ≡ with_fitted done (fit_all (k ∷ ks) (v ∷ vs))
unfolding fit_all
fits_on done k v w ks vs e =
    passed done w (fit_all ks vs)
    ∙ ap (λ (r : Result Value Trap). with_fitted done (r >>= λ x. (fit_all ks vs >>= λ ws. Ok (x ∷ ws)))) (sym e)

-- the next doesn't
pub trap_there : (done : List Value) (k : Kind) (v : Value) (t : Trap) (ks : List Kind) (vs : List Value) → fit k v ≡ Err t
    → with_fitted done (fit_all (k ∷ ks) (v ∷ vs)) ≡ Err t
unfolding fit_all
trap_there done k v t ks vs e = ap (λ (r : Result Value Trap). with_fitted done (r >>= λ x. (fit_all ks vs >>= λ ws. Ok (x ∷ ws)))) e

-- there is no next
pub too_few : (done : List Value) (k : Kind) (ks : List Kind) → with_fitted done (fit_all (k ∷ ks) []) ≡ Err X3
unfolding fit_all
too_few done k ks = refl

-- all do
pub all_fit : (done vs : List Value) → with_fitted done (fit_all [] vs) ≡ Ok done
unfolding fit_all
all_fit done vs = ap (λ (l : List Value). Ok l) (append-nil done)

-- at first nothing was fitted
pub none_fitted : (r : Result (List Value) Trap) → with_fitted [] r ≡ r
none_fitted (Ok ws) = refl
none_fitted (Err t) = refl

is_within : (n k : ℕ) → n ≤ k → nat_le n k ≡ true
is_within n k h = grind (arith, nat_tests, h)

-- so many from the top of a stack whose last is the top
pub taken_is : (n len : ℕ) (xs : List Value) → len ≡ length xs → n ≤ len → Ok (take (length xs - (len - n)) (drop (len - n) xs)) ≡ arguments n (reverse xs)
unfolding arguments
taken_is n len xs e there =
    ap (λ (l : List Value). Ok l) (upper_whole n len xs e there)
    ∙ sym (ap (λ (b : Bool). if b then Ok (reverse (take n (reverse xs))) else Err X3) (is_within n (length (reverse xs)) (omega (arith, e, there, length-reverse xs))))

pub ruleset fitted_steps = (fits_on, trap_there, too_few, all_fit)
