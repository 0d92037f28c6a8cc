-- A user text that the heaps have already: adding it again changes nothing, and can't be refused.
use Rattle.std.proofs.Common.{◌≡◌, ℕ, Bool, true, false, List, Result, Ok, Err, refl, sym, ◌∙◌}
use Rattle.std.proofs.lemmas.Bool.{false≢true}
use Rattle.enc_base.specs.declared.refusal.StreamName.{StreamName}
use Rattle.enc_meta.specs.BuiltSeen.{RefusesWhere}
use Rattle.enc_meta.specs.declared.builder.BuildFault.{BuildFault}
use Rattle.enc_meta.specs.declared.builder.BuildFault.TheVariants.{Memory, TooLarge}
use Rattle.std.specs.Prelude.{◌^◌}
use Rattle.enc_meta.specs.Built.{Built, is_kept, with_value, with_user, passes, user_bytes, user_passes}

by_value : (values : List (List ℕ)) (v : List ℕ) → is_kept values v ≡ true → with_value values v ≡ values
unfolding with_value
by_value values v kept = rw kept refl

by_pass : (encode : List ℕ → List ℕ) (limit start : ℕ) (values : List (List ℕ)) (v : List ℕ) → is_kept values v ≡ true → passes encode limit start values v ≡ false
unfolding passes
by_pass encode limit start values v kept = rw kept refl

pub user_kept : (h : Built) (v : List ℕ) → is_kept h.users v ≡ true → (with_user h v ≡ h) × (user_passes h v ≡ false)
user_kept h v kept = (rw (by_value h.users v kept) refl, by_pass user_bytes (2 ^ 24) h.starts.users h.users v kept)

-- what doesn't pass its limit isn't refused for it
pub not_refused : (r : Result ℕ BuildFault) (f : BuildFault) (h name : StreamName) (b : Bool) → r ≡ Err f → f ≡ TooLarge h → b ≡ false → RefusesWhere r name b → ⊥
not_refused (Ok n) f h name b e g none w = absurd cc
not_refused (Err Memory) f h name b e g none w = absurd cc
not_refused (Err (TooLarge k)) f h name b e g none w = false≢true (sym none ∙ w.1)
