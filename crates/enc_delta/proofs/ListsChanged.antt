-- The tokens with code 0, as far as the log was gone over.
use Rattle.std.proofs.Common.{◌≡◌, ℕ, zero, suc, ◌+◌, ◌<◌, Bool, true, false, List, [], ◌∷◌, ◌++◌, length, take, get_or, append-nil, refl, ap, arith}
use Rattle.std.specs.Prelude.{◌==◌, ◌&&◌, nat_lt}
use Rattle.std.specs.List.{list_all}
use Rattle.std.proofs.lemmas.Bool.Decides.{nat_tests}
use Rattle.std.proofs.lemmas.List.{map-append}
use Rattle.std.proofs.lemmas.List.Elements.{filter_more}
use Rattle.std.proofs.lemmas.List.Folds.{list_all-append}
use Rattle.enc_base.specs.declared.token.Token.{Token}
use Rattle.enc_delta.specs.declared.log_entry.LogEntry.{LogEntry}
use Rattle.enc_delta.specs.Rules.{counts, changed}
use Rattle.enc_delta.specs.Lists.{AreTokens, AreEntries}
use Rattle.enc_delta.proofs.ListsInserts.{no_token}

abbrev pub no_entry : LogEntry
no_entry = record { token = no_token; operation = 0 }

-- all of a list is gone over
pub take_end : {A : Type 0} (xs : List A) (k : ℕ) → k ≡ length xs → take k xs ≡ xs
take_end [] zero h = refl
take_end [] (suc k) h = refl
take_end (x ∷ xs) zero h = absurd (omega arith)
take_end (x ∷ xs) (suc k) h = ap (λ ys. x ∷ ys) (take_end xs k (omega arith))

-- what holds of all holds at a place
pub all_at : {A : Type 0} (p : A → Bool) (xs : List A) (k : ℕ) (d : A) → list_all p xs ≡ true → k < length xs → p (get_or xs k d) ≡ true
all_at p [] k d all h = absurd (omega arith)
all_at p (x ∷ xs) zero d all h = first_of (p x) (list_all p xs) all
  where
    first_of : (a b : Bool) → (a && b) ≡ true → a ≡ true
    first_of true b h = refl
    first_of false b h = h
all_at p (x ∷ xs) (suc k) d all h = all_at p xs k d (second_of (p x) (list_all p xs) all) (omega arith)
  where
    second_of : (a b : Bool) → (a && b) ≡ true → b ≡ true
    second_of true b h = h
    second_of false b h = absurd cc

pub changed_none : [] ≡ changed []
unfolding changed
changed_none = refl

pub changed_yes : (log : List LogEntry) (k : ℕ) → k < length log → (counts (get_or log k no_entry) && (get_or log k no_entry).operation == 0) ≡ true → changed (take (k + 1) log) ≡ changed (take k log) ++ (get_or log k no_entry).token ∷ []
unfolding changed
changed_yes log k h is = rw (filter_more (λ (e : LogEntry). counts e && e.operation == 0) log k no_entry h, is) (map-append _ _ _)

pub changed_no : (log : List LogEntry) (k : ℕ) → k < length log → (counts (get_or log k no_entry) && (get_or log k no_entry).operation == 0) ≡ false → changed (take (k + 1) log) ≡ changed (take k log)
unfolding changed
changed_no log k h is = rw (filter_more (λ (e : LogEntry). counts e && e.operation == 0) log k no_entry h, is, map-append) (append-nil _)

-- the tokens so far are tokens by their numbers
pub tokens_more : (tokens : List Token) (log : List LogEntry) (k : ℕ) → AreTokens tokens → AreEntries log → k < length log → AreTokens (tokens ++ (get_or log k no_entry).token ∷ [])
tokens_more tokens log k done all h =
    rw (list_all-append (λ (t : Token). nat_lt t.row 0x1000000) tokens ((get_or log k no_entry).token ∷ []), done, all_at (λ (e : LogEntry). nat_lt e.token.row 0x1000000) log k no_entry all h) refl

pub token_fits : (tokens : List Token) (k : ℕ) → AreTokens tokens → k < length tokens → (get_or tokens k no_token).row < 0x1000000
token_fits tokens k all h =
    let e = all_at (λ (t : Token). nat_lt t.row 0x1000000) tokens k no_token all h in
    grind (arith, nat_tests)
