-- A set of numbers that passed a test, and one number more.
use Rattle.std.proofs.Common.{◌≡◌, ℕ, Bool, true, false, cond, refl, sym, ◌∙◌, arith}
use Rattle.std.specs.Ordering.{nat_cmp}
use Rattle.std.specs.BTreeMap.{is_at}
use Rattle.std.specs.BTreeSet.{BTreeSet, contains, Updates, IsEmpty}
use Rattle.std.proofs.lemmas.Bool.Decides.{nat_tests}
use Rattle.enc_base.specs.Passed.{AllPass}

same : (k q : ℕ) → is_at (nat_cmp k) q ≡ true → k ≡ q
same k q h = grind (arith, nat_tests, h)

one : (test : ℕ → Bool) (k q : ℕ) (here there old : Bool) → is_at (nat_cmp k) q ≡ here → there ≡ cond here true old → (old ≡ true → test q ≡ true) → test k ≡ true → there ≡ true → test q ≡ true
one test k q true there old at is kept new h = rw (same k q at) at new
one test k q false there old at is kept new h = kept (sym is ∙ h)

-- no number has to pass
pub none_pass : (test : ℕ → Bool) (set : BTreeSet ℕ) → IsEmpty set → AllPass test set
none_pass test set empty n h = false_true (rw empty at h)
  where
    false_true : false ≡ true → test n ≡ true
    false_true e = absurd cc

-- one that passes more
pub one_passes : (test : ℕ → Bool) (old new : BTreeSet ℕ) (k : ℕ) → AllPass test old → test k ≡ true → Updates nat_cmp old new k true → AllPass test new
one_passes test old new k kept passes updates n h = one test k n (is_at (nat_cmp k) n) (contains nat_cmp new n) (contains nat_cmp old n) refl (updates.0 n) (kept n) passes h
