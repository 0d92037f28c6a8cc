-- Blobs by their places in the heaps after a delta.
use Rattle.std.proofs.Common.{◌≡◌, ℕ, Bool, true, false, List, [], ◌∷◌, ◌++◌, Option, Some, None, refl, sym, ap, subst, ◌∙◌}
use Rattle.std.specs.Prelude.{is_some, unwrap_or, ◌||◌, bytes_eq, if◌then◌else◌}
use Rattle.std.proofs.lemmas.Slice.Eq.{bytes_eq-Decides}
use Rattle.enc_sigs.specs.Agree.{sigs_agree}
use Rattle.enc_plain.specs.Alike.{alike_in_table, signatures_alike}
use Rattle.enc_plain.specs.Signatures.{kind_in_table}
use Rattle.enc_meta.specs.Heaps.{Counted}
use Rattle.enc_meta.specs.Joined.{joined_blob}
use Rattle.enc_plain.specs.Rows.{Rows, AreStoredAt}
use Rattle.enc_delta.proofs.OneHeapMore.{blob_stays}

-- what stood in the heaps before stands in those after
pub stored_still : (stored : ℕ → Option (List ℕ)) (xs : List Counted) (x : Counted) (place : Option ℕ) (bytes : List ℕ) → ((n : ℕ) → stored n ≡ joined_blob xs n) → AreStoredAt stored place bytes → AreStoredAt (λ (n : ℕ). joined_blob (xs ++ x ∷ []) n) place bytes
stored_still stored xs x None bytes same there = there
stored_still stored xs x (Some n) bytes same there = blob_stays xs x n bytes (sym (same n) ∙ there)

pub stored_here : (o : Option (List ℕ)) → is_some o ≡ true → o ≡ Some (unwrap_or o [])
stored_here None h = absurd cc
stored_here (Some bytes) h = refl

pub none_here : (o : Option (List ℕ)) → is_some o ≡ false → unwrap_or o [] ≡ []
none_here None h = refl
none_here (Some bytes) h = absurd cc

-- one place has one blob
pub stored_once : (stored : ℕ → Option (List ℕ)) (place : Option ℕ) (a b : List ℕ) → AreStoredAt stored place a → AreStoredAt stored place b → a ≡ b
stored_once stored None a b left right = left ∙ sym right
stored_once stored (Some n) a b left right = ap (λ (o : Option (List ℕ)). unwrap_or o a) (sym left ∙ right)

same_alike : (rows : Rows) (table : ℕ) (a : List ℕ) → true ≡ signatures_alike rows table a a
unfolding signatures_alike
same_alike rows table a = rw ((bytes_eq-Decides a a).1 refl) refl

-- and is alike itself
pub alike_at : (rows : Rows) (stored : ℕ → Option (List ℕ)) (table : ℕ) (p q : Option ℕ) (a b : List ℕ) → AreStoredAt stored p a → AreStoredAt stored q b → p ≡ q → true ≡ signatures_alike rows table a b
alike_at rows stored table p q a b left right one =
    let same : a ≡ b = stored_once stored q a b (subst (λ o. AreStoredAt stored o a) one left) right in
    rw (← same) (same_alike rows table a)

-- so is a cell kept that stands at its place
pub kept_at : (rows : Rows) (stored : ℕ → Option (List ℕ)) (table : ℕ) (p q : Option ℕ) (a b : List ℕ) (t : Bool) → AreStoredAt stored p a → AreStoredAt stored q b → p ≡ q → true ≡ (if t then signatures_alike rows table a b else bytes_eq a b)
kept_at rows stored table p q a b true left right one = alike_at rows stored table p q a b left right one
kept_at rows stored table p q a b false left right one =
    let same : a ≡ b = stored_once stored q a b (subst (λ o. AreStoredAt stored o a) one left) right in
    sym ((bytes_eq-Decides a b).1 same)
