-- Shapes of things one behind the other: one more, none that is read, none left.
use Rattle.std.proofs.Common.{◌≡◌, ℕ, suc, List, Some, None, refl, drop, true, false}
use Rattle.enc_base.specs.declared.token.Token.{Token}
use Rattle.enc_sigs.specs.declared.mix.Mix.{Mix}
use Rattle.enc_sigs.specs.Grammar.{begins}
use Rattle.enc_sigs.specs.Shape.{Shaping, many_shape, params_shape, marked_shape, elem_shape}

pub shape_more : (one : Shaping) (n m : ℕ) (h k : Mix) (a c : List ℕ) → n ≡ suc m → one h a ≡ Some (k, c) → many_shape one n h a ≡ many_shape one m k c
unfolding many_shape
shape_more one n m h k a c e is = rw (e, is) refl

pub shape_fails : (one : Shaping) (n m : ℕ) (h : Mix) (a : List ℕ) → n ≡ suc m → one h a ≡ None → many_shape one n h a ≡ None
unfolding many_shape
shape_fails one n m h a e is = rw (e, is) refl

pub shape_done : (one : Shaping) (n : ℕ) (h : Mix) (a : List ℕ) → n ≡ 0 → many_shape one n h a ≡ Some (h, a)
unfolding many_shape
shape_done one n h a e = rw e refl

pub param_more : (one : Shaping) (n m : ℕ) (h k : Mix) (a c : List ℕ) → n ≡ suc m → begins 0x41 a ≡ false → one h a ≡ Some (k, c) → params_shape one n h a ≡ params_shape one m k c
unfolding params_shape
param_more one n m h k a c e plain is = rw (e, plain, is) refl

pub param_marked : (one : Shaping) (n m : ℕ) (h : Mix) (a : List ℕ) → n ≡ suc m → begins 0x41 a ≡ true → params_shape one n h a ≡ marked_shape one m h (drop 1 a)
unfolding params_shape
param_marked one n m h a e marked = rw (e, marked) refl

pub param_fails : (one : Shaping) (n m : ℕ) (h : Mix) (a : List ℕ) → n ≡ suc m → begins 0x41 a ≡ false → one h a ≡ None → params_shape one n h a ≡ None
unfolding params_shape
param_fails one n m h a e plain is = rw (e, plain, is) refl

pub param_done : (one : Shaping) (n : ℕ) (h : Mix) (a : List ℕ) → n ≡ 0 → params_shape one n h a ≡ Some (h, a)
unfolding params_shape
param_done one n h a e = rw e refl

pub shape_none : (key : Token → Mix) (depth : ℕ) (h : Mix) (a : List ℕ) → depth ≡ 0 → elem_shape key depth h a ≡ None
unfolding elem_shape
shape_none key depth h a e = rw e refl
