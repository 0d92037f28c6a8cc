-- A signature stays one where the tables of types have no fewer rows.
use Rattle.std.proofs.Common.{◌≡◌, ℕ, ◌%◌, ◌/◌, ◌≤◌, Bool, true, false, List, Option, Some, None, refl, arith}
use Rattle.std.specs.Prelude.{◌&&◌, ◌==◌, nat_le, is_some, if◌then◌else◌}
use Rattle.std.proofs.lemmas.Bool.Decides.{nat_tests}
use Rattle.std.proofs.lemmas.Bool.{and_parts}
use Rattle.enc_sigs.specs.Grammar.{table_of, is_coded, is_counted, sig_in}
use Rattle.enc_sigs.proofs.Wider.{sig_keeps}
use Rattle.enc_plain.specs.Signatures.{kind_in_table, is_signature}

-- TypeDef, TypeRef and TypeSpec have no fewer rows
pub record TypesGrow (f g : ℕ → ℕ) : Type 0 where
  pub definitions : f 0x02 ≤ g 0x02
  pub references : f 0x01 ≤ g 0x01
  pub specifications : f 0x1B ≤ g 0x1B

by_tag : (f g : ℕ → ℕ) (a b : Bool) → TypesGrow f g → f (if a then 0x02 else if b then 0x01 else 0x1B) ≤ g (if a then 0x02 else if b then 0x01 else 0x1B)
by_tag f g true b grow = grow.definitions
by_tag f g false true grow = grow.references
by_tag f g false false grow = grow.specifications

still : (coded some : Bool) (row n m : ℕ) → n ≤ m → (coded && some && nat_le row n) ≡ true → (coded && some && nat_le row m) ≡ true
still coded some row n m le h =
    let a = and_parts (coded && some) (nat_le row n) h in
    let e : nat_le row m ≡ true = higher row n m le a.1 in
    rw (a.0, e) refl
  where
    higher : (row n m : ℕ) → n ≤ m → nat_le row n ≡ true → nat_le row m ≡ true
    higher row n m le h = grind (arith, nat_tests)

counted_kept : (f g : ℕ → ℕ) (n : ℕ) → TypesGrow f g → is_counted f n ≡ true → is_counted g n ≡ true
unfolding is_counted
counted_kept f g n grow h = still (is_coded n) (nat_le 1 (n / 4)) (n / 4) (f (table_of (n % 4))) (g (table_of (n % 4))) (by_tag f g (n % 4 == 0) (n % 4 == 1) grow) h

some_kept : {A : Type 0} (o q : Option A) → ((x : A) → o ≡ Some x → q ≡ Some x) → is_some o ≡ true → is_some q ≡ true
some_kept None q keeps e = absurd cc
some_kept (Some x) q keeps e = rw (keeps x refl) refl

pub signature_kept : (f g : ℕ → ℕ) (table : ℕ) (blob : List ℕ) → TypesGrow f g → is_signature f table blob ≡ true → is_signature g table blob ≡ true
unfolding is_signature
signature_kept f g table blob grow h = some_kept (sig_in (is_counted f) (kind_in_table table blob) blob) (sig_in (is_counted g) (kind_in_table table blob) blob) (λ t e. sig_keeps (is_counted f) (is_counted g) (kind_in_table table blob) blob t (λ n c. counted_kept f g n grow c) e) h
