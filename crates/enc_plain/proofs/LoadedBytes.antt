-- What is loaded are bytes, and so is the code at a method's place.
use Rattle.std.proofs.Common.{◌≡◌, ℕ, zero, suc, ◌-◌, Bool, List, drop, Option, Some, None, refl}
use Rattle.std.specs.Prelude.{option_map, option_and_then, find}
use Rattle.enc_base.proofs.SmallNumbers.{EachIsByte, each_drop}
use Rattle.enc_meta.specs.Regions.{Region, region_holds, rest_loaded}
use Rattle.enc_opcodes.specs.Body.{Code, body_at}
use Rattle.enc_opcodes.proofs.CodeBytes.{body_bytes}
use Rattle.enc_plain.specs.Bodies.{code_loaded}

-- each region holds bytes
pub record AreLoaded (regions : List Region) : Type 0 where
  pub each : (test : Region → Bool) (r : Region) → find test regions ≡ Some r → EachIsByte r.bytes

rest_by : (first : ℕ) (o : Option Region) (x : List ℕ) → ((r : Region) → o ≡ Some r → EachIsByte r.bytes) → option_map (λ (r : Region). drop (first - r.address) r.bytes) o ≡ Some x → EachIsByte x
rest_by first None x all h = absurd cc
rest_by first (Some r) x all h =
    let is : drop (first - r.address) r.bytes ≡ x = cc in
    rw (← is) (each_drop r.bytes (first - r.address) (all r refl))

rest_bytes : (regions : List Region) (first : ℕ) (x : List ℕ) → AreLoaded regions → rest_loaded regions first ≡ Some x → EachIsByte x
unfolding rest_loaded
rest_bytes regions first x all h = rest_by first (find (region_holds first 1) regions) x (all.each (region_holds first 1)) h

code_by : (o : Option (List ℕ)) (n : ℕ) (c : Code) → ((x : List ℕ) → o ≡ Some x → EachIsByte x) → option_and_then (λ (bytes : List ℕ). body_at bytes 0 n) o ≡ Some c → EachIsByte c.code
code_by None n c all h = absurd cc
code_by (Some x) n c all h = body_bytes x 0 n c (all x refl) h

pub code_bytes : (regions : List Region) (n : ℕ) (c : Code) → AreLoaded regions → code_loaded regions n ≡ Some c → EachIsByte c.code
unfolding code_loaded
code_bytes regions zero c all h = absurd cc
code_bytes regions (suc n) c all h = code_by (rest_loaded regions (suc n)) (suc n) c (λ x e. rest_bytes regions (suc n) x all e) h
