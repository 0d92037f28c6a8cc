-- The columns of signatures are blobs.
use Rattle.std.proofs.Common.{◌≡◌, ℕ, Bool, true, false, Some, None, refl, arith}
use Rattle.std.specs.Prelude.{◌==◌, ◌||◌, if◌then◌else◌}
use Rattle.std.proofs.lemmas.Bool.Decides.{nat_tests}
use Rattle.enc_schema.specs.Schema.{columns_in}
use Rattle.enc_plain.specs.Cell.{blobs, kind_in}
use Rattle.enc_plain.specs.Signatures.{signature_column}

eq_of : (a b : ℕ) → (a == b) ≡ true → a ≡ b
eq_of a b h = grind (arith, nat_tests)

same : (a b : ℕ) → Some a ≡ Some b → b ≡ a
same a b h = cc

by_table : (t i : ℕ) (a b c d e f g : Bool) → (t == 0x04) ≡ a → (t == 0x0A) ≡ b → (t == 0x17) ≡ c → (t == 0x06) ≡ d → (t == 0x11) ≡ e → (t == 0x1B) ≡ f → (t == 0x2B) ≡ g → (if a || b || c then Some 2 else if d then Some 4 else if e || f then Some 0 else if g then Some 1 else None) ≡ Some i → kind_in t i ≡ Some blobs
unfolding columns_in
by_table t i true b c d e f g ta tb tc td te tf tg h = rw (eq_of t 0x04 ta, same 2 i h) refl
by_table t i false true c d e f g ta tb tc td te tf tg h = rw (eq_of t 0x0A tb, same 2 i h) refl
by_table t i false false true d e f g ta tb tc td te tf tg h = rw (eq_of t 0x17 tc, same 2 i h) refl
by_table t i false false false true e f g ta tb tc td te tf tg h = rw (eq_of t 0x06 td, same 4 i h) refl
by_table t i false false false false true f g ta tb tc td te tf tg h = rw (eq_of t 0x11 te, same 0 i h) refl
by_table t i false false false false false true g ta tb tc td te tf tg h = rw (eq_of t 0x1B tf, same 0 i h) refl
by_table t i false false false false false false true ta tb tc td te tf tg h = rw (eq_of t 0x2B tg, same 1 i h) refl
by_table t i false false false false false false false ta tb tc td te tf tg h = absurd cc

pub signature_kind : (t i : ℕ) → signature_column t ≡ Some i → kind_in t i ≡ Some blobs
unfolding signature_column
signature_kind t i h = by_table t i (t == 0x04) (t == 0x0A) (t == 0x17) (t == 0x06) (t == 0x11) (t == 0x1B) (t == 0x2B) refl refl refl refl refl refl refl h
