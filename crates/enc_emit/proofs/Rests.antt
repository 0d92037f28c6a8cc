-- What stands in bytes from a place on, read from there.
use Rattle.std.proofs.Common.{◌≡◌, ℕ, suc, ◌+◌, ◌-◌, ◌*◌, ◌/◌, ◌^◌, ◌<◌, ◌≤◌, true, List, [], ◌∷◌, ◌++◌, length, take, drop, refl, sym, ap, ◌∙◌, arith, append_assoc, length-append, le-leb}
use Rattle.std.specs.Prelude.{Some, nat_le, replicate}
use Rattle.std.specs.Int.{w32, to_le_bytes, from_le_bytes}
use Rattle.std.proofs.lemmas.Nat.{from_le_bytes-to_le_bytes_4}
use Rattle.std.proofs.lemmas.List.{length-replicate, drop_at}
use Rattle.std.proofs.Math.Seq.{take-append_seam}
use Rattle.enc_base.specs.Numbers.{little_endian_at, padded}
use Rattle.enc_meta.specs.Root.{Header, headers, header_at, name_at, before_zero}
use Rattle.enc_meta.specs.Heaps.{part}
use Rattle.enc_emit.specs.Written.{stream_header_written, in_fours}

-- from this place on the bytes are these
pub record Rests (bytes : List ℕ) (at : ℕ) (rest : List ℕ) : Type 0 where
  pub before : List ℕ
  pub split : bytes ≡ before ++ rest
  pub place : length before ≡ at

pub at_begin : (bytes : List ℕ) → Rests bytes 0 bytes
at_begin bytes = record { before = []; split = refl; place = refl }

-- behind a part
pub past : (bytes : List ℕ) (at next : ℕ) (x rest : List ℕ) → Rests bytes at (x ++ rest) → at + length x ≡ next → Rests bytes next rest
past bytes at next x rest r e = record {
  before = r.before ++ x;
  split = r.split ∙ sym (append_assoc r.before x rest);
  place = omega (arith, length-append r.before x, r.place, e);
}

pub as_split : (bytes : List ℕ) (at : ℕ) (a b : List ℕ) → Rests bytes at a → a ≡ b → Rests bytes at b
as_split bytes at a b r e = record { before = r.before; split = r.split ∙ ap (λ xs. r.before ++ xs) e; place = r.place }

pub rest_size : (bytes : List ℕ) (at : ℕ) (rest : List ℕ) → Rests bytes at rest → at + length rest ≡ length bytes
rest_size bytes at rest r = rw (r.split) (omega (arith, length-append r.before rest, r.place))

pub dropped : (bytes : List ℕ) (at : ℕ) (rest : List ℕ) → Rests bytes at rest → drop at bytes ≡ rest
dropped bytes at rest r = rw (r.split) (drop_at r.before rest at r.place)

-- the part that stands here
pub part_here : (bytes : List ℕ) (at : ℕ) (x rest : List ℕ) → Rests bytes at (x ++ rest) → part bytes (record { start = at; len = length x }) ≡ x
unfolding part
part_here bytes at x rest r = rw (dropped bytes at (x ++ rest) r) (take-append_seam x rest)

-- a number of four bytes
pub number_here : (bytes : List ℕ) (at n : ℕ) (rest : List ℕ) → n < 2 ^ 32 → Rests bytes at (to_le_bytes w32 n ++ rest) → little_endian_at w32 bytes at ≡ Some n
number_here bytes at n rest fits r =
    let size : at + 4 ≤ length bytes = omega (arith, length-append (to_le_bytes w32 n) rest, rest_size bytes at (to_le_bytes w32 n ++ rest) r) in
    let test : nat_le (at + 4) (length bytes) ≡ true = le-leb _ _ size in
    rw test (ap (λ xs. Some (from_le_bytes w32 xs)) (dropped bytes at (to_le_bytes w32 n ++ rest) r) ∙ ap (λ (k : ℕ). Some k) (from_le_bytes-to_le_bytes_4 n fits))

-- a name that is read up to its zero, with so many bytes
pub record IsName (name : List ℕ) (n : ℕ) : Type 0 where
  pub read : (rest : List ℕ) → before_zero (take 32 ((name ++ replicate (padded (length name + 1) - length name) 0) ++ rest)) ≡ Some name
  pub space : padded (length name + 1) ≡ n
  pub less : length name ≤ n

name_size : (name : List ℕ) (space : ℕ) → IsName name space → length (name ++ replicate (padded (length name + 1) - length name) 0) ≡ space
name_size name space is = omega (arith, length-append name (replicate (padded (length name + 1) - length name) 0), length-replicate {A = ℕ} (padded (length name + 1) - length name) 0, is.space, is.less)

name_here : (bytes : List ℕ) (at next : ℕ) (name : List ℕ) (space : ℕ) (rest : List ℕ) → IsName name space → Rests bytes at ((name ++ replicate (padded (length name + 1) - length name) 0) ++ rest) → at + space ≡ next → name_at bytes at ≡ Some (name, next)
unfolding name_at
name_here bytes at next name space rest is r e =
    let there : at + padded (length name + 1) ≡ next = omega (arith, is.space, e) in
    let size : at + padded (length name + 1) ≤ length bytes = omega (arith, is.space, name_size name space is, length-append (name ++ replicate (padded (length name + 1) - length name) 0) rest, rest_size bytes at _ r) in
    let test : nat_le (at + padded (length name + 1)) (length bytes) ≡ true = le-leb _ _ size in
    rw (dropped bytes at _ r, is.read rest, test, there) refl

header_apart : (name : List ℕ) (start size : ℕ) (rest : List ℕ) → stream_header_written name start size ++ rest ≡ to_le_bytes w32 start ++ (to_le_bytes w32 size ++ ((name ++ replicate (padded (length name + 1) - length name) 0) ++ rest))
unfolding stream_header_written
header_apart name start size rest = refl

-- the header that stands here, and what stands behind it
pub header_here : (bytes : List ℕ) (at next : ℕ) (name : List ℕ) (space start size : ℕ) (rest : List ℕ) → IsName name space → start < 2 ^ 32 → size < 2 ^ 32 → Rests bytes at (stream_header_written name start size ++ rest) → at + 8 + space ≡ next → header_at bytes at ≡ Some (record { name = name; span = record { start = start; len = size } }, next)
unfolding header_at
header_here bytes at next name space start size rest is first second r e =
    let text = name ++ replicate (padded (length name + 1) - length name) 0 in
    let one = as_split bytes at _ _ r (header_apart name start size rest) in
    let two = past bytes at (at + 4) (to_le_bytes w32 start) (to_le_bytes w32 size ++ (text ++ rest)) one refl in
    let three = past bytes (at + 4) (at + 8) (to_le_bytes w32 size) (text ++ rest) two (omega arith) in
    rw (number_here bytes at start _ first one, number_here bytes (at + 4) size _ second two, name_here bytes (at + 8) next name space rest is three (omega (arith, e))) refl

pub header_past : (bytes : List ℕ) (at next : ℕ) (name : List ℕ) (space start size : ℕ) (rest : List ℕ) → IsName name space → Rests bytes at (stream_header_written name start size ++ rest) → at + 8 + space ≡ next → Rests bytes next rest
header_past bytes at next name space start size rest is r e =
    let text = name ++ replicate (padded (length name + 1) - length name) 0 in
    let one = as_split bytes at _ _ r (header_apart name start size rest) in
    let two = past bytes at (at + 4) (to_le_bytes w32 start) (to_le_bytes w32 size ++ (text ++ rest)) one refl in
    let three = past bytes (at + 4) (at + 8) (to_le_bytes w32 size) (text ++ rest) two (omega arith) in
    past bytes (at + 8) next text rest three (omega (arith, name_size name space is, e))

-- one header more
pub one_more : (bytes : List ℕ) (first n at next : ℕ) (all : List Header) (h : Header) → headers bytes first n ≡ Some (all, at) → header_at bytes at ≡ Some (h, next) → headers bytes first (suc n) ≡ Some (all ++ h ∷ [], next)
unfolding headers
one_more bytes first n at next all h before here = rw (before, here) refl

pub none_yet : (bytes : List ℕ) (first : ℕ) → headers bytes first 0 ≡ Some ([], first)
unfolding headers
none_yet bytes first = refl

-- bytes in fours
pub fours_size : (x : List ℕ) → length (in_fours x) ≡ padded (length x)
unfolding padded
fours_size x = omega (arith, length-append x (replicate ((length x + 3) / 4 * 4 - length x) 0), length-replicate {A = ℕ} ((length x + 3) / 4 * 4 - length x) 0)
