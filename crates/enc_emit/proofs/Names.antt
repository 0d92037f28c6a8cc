-- The front of a root and the names of its streams.
use Rattle.std.proofs.Common.{◌≡◌, ℕ, ◌+◌, ◌≤◌, Bool, true, false, List, ◌++◌, length, drop, refl, arith, length-append, le-leb}
use Rattle.std.specs.Prelude.{Some, codes, nat_le}
use Rattle.std.specs.Int.{Width, byte_len, w16, w32, from_le_bytes}
use Rattle.enc_base.specs.Numbers.{little_endian_at, padded}
use Rattle.enc_meta.specs.Root.{version_len}
use Rattle.enc_emit.specs.Written.{front_written, table_name}
use Rattle.enc_emit.proofs.Rests.{IsName}

pub tables_name : (uncompressed : Bool) → IsName (table_name uncompressed) 4
unfolding padded
tables_name true = record { read = λ rest. refl; space = refl; less = omega arith }
tables_name false = record { read = λ rest. refl; space = refl; less = omega arith }

pub strings_name : IsName (codes "#Strings") 12
unfolding padded
strings_name = record { read = λ rest. refl; space = refl; less = omega arith }

pub users_name : IsName (codes "#US") 4
unfolding padded
users_name = record { read = λ rest. refl; space = refl; less = omega arith }

pub guids_name : IsName (codes "#GUID") 8
unfolding padded
guids_name = record { read = λ rest. refl; space = refl; less = omega arith }

pub blobs_name : IsName (codes "#Blob") 8
unfolding padded
blobs_name = record { read = λ rest. refl; space = refl; less = omega arith }

pub jtd_name : IsName (codes "#JTD") 8
unfolding padded
jtd_name = record { read = λ rest. refl; space = refl; less = omega arith }

pub pdb_name : IsName (codes "#Pdb") 8
unfolding padded
pdb_name = record { read = λ rest. refl; space = refl; less = omega arith }

pub front_size : (count : ℕ) → length (front_written count) ≡ 32
unfolding front_written
front_size count = refl

number_from : (w : Width) (bytes : List ℕ) (at n : ℕ) → at + byte_len w ≤ length bytes → from_le_bytes w (drop at bytes) ≡ n → little_endian_at w bytes at ≡ Some n
number_from w bytes at n size e =
    let test : nat_le (at + byte_len w) (length bytes) ≡ true = le-leb _ _ size in
    rw (test, e) refl

front_long : (count : ℕ) (rest : List ℕ) → 32 ≤ length (front_written count ++ rest)
front_long count rest = omega (arith, length-append (front_written count) rest, front_size count)

version_from : (bytes : List ℕ) → little_endian_at w32 bytes 0 ≡ Some 0x424A5342 → little_endian_at w32 bytes 8 ≡ Some 0 → little_endian_at w32 bytes 12 ≡ Some 12 → version_len bytes ≡ Some 12
unfolding version_len
version_from bytes a b c = rw (a, b, c) refl

magic_there : (count : ℕ) (rest : List ℕ) → from_le_bytes w32 (drop 0 (front_written count ++ rest)) ≡ 0x424A5342
unfolding front_written
magic_there count rest = refl

zero_there : (count : ℕ) (rest : List ℕ) → from_le_bytes w32 (drop 8 (front_written count ++ rest)) ≡ 0
unfolding front_written
zero_there count rest = refl

twelve_there : (count : ℕ) (rest : List ℕ) → from_le_bytes w32 (drop 12 (front_written count ++ rest)) ≡ 12
unfolding front_written
twelve_there count rest = refl

pub front_version : (count : ℕ) (rest : List ℕ) → version_len (front_written count ++ rest) ≡ Some 12
front_version count rest =
    let long = front_long count rest in
    version_from (front_written count ++ rest)
    (number_from w32 (front_written count ++ rest) 0 0x424A5342 (omega (arith, long)) (magic_there count rest))
    (number_from w32 (front_written count ++ rest) 8 0 (omega (arith, long)) (zero_there count rest))
    (number_from w32 (front_written count ++ rest) 12 12 (omega (arith, long)) (twelve_there count rest))

five_there : (rest : List ℕ) → from_le_bytes w16 (drop 30 (front_written 5 ++ rest)) ≡ 5
unfolding front_written
five_there rest = refl

six_there : (rest : List ℕ) → from_le_bytes w16 (drop 30 (front_written 6 ++ rest)) ≡ 6
unfolding front_written
six_there rest = refl

pub front_five : (rest : List ℕ) → little_endian_at w16 (front_written 5 ++ rest) 30 ≡ Some 5
front_five rest = number_from w16 (front_written 5 ++ rest) 30 5 (omega (arith, front_long 5 rest)) (five_there rest)

pub front_six : (rest : List ℕ) → little_endian_at w16 (front_written 6 ++ rest) 30 ≡ Some 6
front_six rest = number_from w16 (front_written 6 ++ rest) 30 6 (omega (arith, front_long 6 rest)) (six_there rest)
