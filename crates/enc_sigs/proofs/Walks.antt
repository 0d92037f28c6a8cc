-- Two lists read in step: one more of both, none, none left.
use Rattle.std.proofs.Common.{◌≡◌, ℕ, suc, List, Some, None, refl, drop, Bool, true, false}
use Rattle.enc_base.specs.declared.token.Token.{Token}
use Rattle.enc_sigs.specs.Grammar.{begins}
use Rattle.enc_sigs.specs.Walk.{Walk, many_walk, params_walk, marked_walk, elem_walk}

pub walk_more : (one : Walk) (n m : ℕ) (a b c d : List ℕ) → n ≡ suc m → one a b ≡ Some (c, d) → many_walk one n a b ≡ many_walk one m c d
unfolding many_walk
walk_more one n m a b c d e is = rw (e, is) refl

pub walk_fails : (one : Walk) (n m : ℕ) (a b : List ℕ) → n ≡ suc m → one a b ≡ None → many_walk one n a b ≡ None
unfolding many_walk
walk_fails one n m a b e is = rw (e, is) refl

pub walk_done : (one : Walk) (n : ℕ) (a b : List ℕ) → n ≡ 0 → many_walk one n a b ≡ Some (a, b)
unfolding many_walk
walk_done one n a b e = rw e refl

pub step_more : (one : Walk) (n m : ℕ) (a b c d : List ℕ) → n ≡ suc m → begins 0x41 a ≡ false → one a b ≡ Some (c, d) → params_walk one n a b ≡ params_walk one m c d
unfolding params_walk
step_more one n m a b c d e plain is = rw (e, plain, is) refl

pub step_marked : (one : Walk) (n m : ℕ) (a b : List ℕ) → n ≡ suc m → begins 0x41 a ≡ true → params_walk one n a b ≡ marked_walk one m (drop 1 a) b
unfolding params_walk
step_marked one n m a b e marked = rw (e, marked) refl

pub step_fails : (one : Walk) (n m : ℕ) (a b : List ℕ) → n ≡ suc m → begins 0x41 a ≡ false → one a b ≡ None → params_walk one n a b ≡ None
unfolding params_walk
step_fails one n m a b e plain is = rw (e, plain, is) refl

pub step_done : (one : Walk) (n : ℕ) (a b : List ℕ) → n ≡ 0 → params_walk one n a b ≡ Some (a, b)
unfolding params_walk
step_done one n a b e = rw e refl

pub walk_none : (same : Token → Token → Bool) (depth : ℕ) (a b : List ℕ) → depth ≡ 0 → elem_walk same depth a b ≡ None
unfolding elem_walk
walk_none same depth a b e = rw e refl
