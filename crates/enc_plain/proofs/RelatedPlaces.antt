-- Blobs that go together, by their places.
use Rattle.std.proofs.Common.{◌≡◌, ℕ, ◌+◌, ◌*◌, ◌/◌, ◌%◌, ◌^◌, ◌<◌, Bool, true, List, Option, Some, None, refl, sym, ap, ◌∙◌, arith}
use Rattle.std.proofs.lemmas.Nat.{div-mul-add, mod-mul-add}
use Rattle.enc_plain.specs.Rows.{AreStoredAt}
use Rattle.enc_plain.specs.Places.{is_related}

pub first_place : (stored : ℕ → Option (List ℕ)) (m n : ℕ) (x : List ℕ) → n < 2 ^ 32 → stored m ≡ Some x → stored ((m * 2 ^ 32 + n) / 2 ^ 32) ≡ Some x
first_place stored m n x low is = rw (div-mul-add m (2 ^ 32) n low) is

pub second_place : (stored : ℕ → Option (List ℕ)) (m n : ℕ) (y : List ℕ) → n < 2 ^ 32 → stored n ≡ Some y → stored ((m * 2 ^ 32 + n) % 2 ^ 32) ≡ Some y
second_place stored m n y low is = rw (mod-mul-add m (2 ^ 32) n low) is

pub related_told : (rel : List ℕ → List ℕ → Bool) (stored : ℕ → Option (List ℕ)) (n : ℕ) (x y : List ℕ) → is_related rel stored n ≡ true → stored (n / 2 ^ 32) ≡ Some x → stored (n % 2 ^ 32) ≡ Some y → rel x y ≡ true
related_told rel stored n x y h left right = rw (left, right) at h

pub related_is : (rel : List ℕ → List ℕ → Bool) (stored : ℕ → Option (List ℕ)) (n : ℕ) (x y : List ℕ) → rel x y ≡ true → stored (n / 2 ^ 32) ≡ Some x → stored (n % 2 ^ 32) ≡ Some y → is_related rel stored n ≡ true
related_is rel stored n x y h left right = rw (left, right) h
