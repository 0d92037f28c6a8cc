-- What the heaps of a chain and a delta's have together.
use Rattle.std.proofs.Common.{◌≡◌, ℕ, ◌+◌, ◌*◌, ◌/◌, ◌≤◌, Bool, true, false, Option, None, length, map, List, [], ◌∷◌, ◌++◌, refl, sym, ap, ◌∙◌, arith}
use Rattle.std.specs.Prelude.{nat_lt, ◌||◌, ◌==◌, ◌^◌, not, max}
use Rattle.enc_meta.proofs.JoinedLengths.{length_more, most_more}
use Rattle.std.proofs.lemmas.Bool.Decides.{nat_tests}
use Rattle.enc_meta.specs.Heaps.{Counted}
use Rattle.enc_plain.specs.Chain.{Chain}
use Rattle.enc_rows.specs.Source.{Source}
use Rattle.enc_meta.specs.declared.heaps.HeapLengths.{HeapLengths}
use Rattle.enc_delta.specs.Rules.{last_byte, broken, strings_break, users_break, blobs_break, guids_break, heap_fault}
use Rattle.enc_base.specs.Order.{or_else}
use Rattle.enc_base.specs.declared.refusal.Place.{Place}
use Rattle.enc_meta.specs.Joined.{joined_lengths, guid_entries}

pub strings_after : (c : Chain) (s : Source) (t : HeapLengths) → t ≡ joined_lengths c.heaps → strings_break c s ≡ (nat_lt (2 ^ 29) (t.strings + length s.heaps.strings) || not (last_byte s.heaps.strings == 0))
unfolding strings_break joined_lengths
strings_after c s t e = rw (e, length_more (λ (h : Counted). h.strings) c.heaps s.heaps) refl

pub users_after : (c : Chain) (s : Source) (t : HeapLengths) → t ≡ joined_lengths c.heaps → users_break c s ≡ nat_lt (2 ^ 24) (t.users + length s.heaps.users)
unfolding users_break joined_lengths
users_after c s t e = rw (e, length_more (λ (h : Counted). h.users) c.heaps s.heaps) refl

pub blobs_after : (c : Chain) (s : Source) (t : HeapLengths) → t ≡ joined_lengths c.heaps → blobs_break c s ≡ nat_lt (2 ^ 29) (t.blobs + length s.heaps.blobs)
unfolding blobs_break joined_lengths
blobs_after c s t e = rw (e, length_more (λ (h : Counted). h.blobs) c.heaps s.heaps) refl

limit_of : (b o : ℕ) → (nat_lt (2 ^ 29) (16 * max b o) || nat_lt o b) ≡ (nat_lt o b || nat_lt (2 ^ 29) (16 * o))
limit_of b o = grind (arith, nat_tests)

pub guids_after : (c : Chain) (s : Source) (t : HeapLengths) → t ≡ joined_lengths c.heaps → guids_break c s ≡ (nat_lt (length s.heaps.guids / 16) t.guids || nat_lt (2 ^ 29) (16 * (length s.heaps.guids / 16)))
unfolding guids_break joined_lengths
guids_after c s t e = rw (e, most_more (λ (h : Counted). length h.guids / 16) c.heaps s.heaps) (limit_of (guid_entries c.heaps) (length s.heaps.guids / 16))

either : (a b : Bool) → (a || b) ≡ false → (a ≡ false) × (b ≡ false)
either false b h = (refl, h)
either true b h = absurd cc

both_none : (a : Bool) (p : Place) (o : Option Place) → or_else (broken a p) o ≡ None → (a ≡ false) × (o ≡ None)
both_none false p o h = (refl, h)
both_none true p o h = absurd cc

below_limit : (limit n : ℕ) → nat_lt limit n ≡ false → n ≤ limit
below_limit limit n h = grind (arith, nat_tests)

-- where E5 isn't broken, the joined heaps are within their limits
pub record Limited (c : Chain) (s : Source) (t : HeapLengths) : Type 0 where
  pub strings : t.strings + length s.heaps.strings ≤ 2 ^ 29
  pub users : t.users + length s.heaps.users ≤ 2 ^ 24
  pub blobs : t.blobs + length s.heaps.blobs ≤ 2 ^ 29
  pub guids : 16 * (length s.heaps.guids / 16) ≤ 2 ^ 29

pub limited : (c : Chain) (s : Source) (t : HeapLengths) → t ≡ joined_lengths c.heaps → heap_fault c s ≡ None → Limited c s t
unfolding heap_fault
limited c s t e h =
    let strings = both_none (strings_break c s) _ _ h in
    let users = both_none (users_break c s) _ _ strings.1 in
    let blobs = both_none (blobs_break c s) _ _ users.1 in
    let guids = last_none (guids_break c s) _ blobs.1 in
    record {
      strings = below_limit (2 ^ 29) _ (either _ _ (sym (strings_after c s t e) ∙ strings.0)).0;
      users = below_limit (2 ^ 24) _ (sym (users_after c s t e) ∙ users.0);
      blobs = below_limit (2 ^ 29) _ (sym (blobs_after c s t e) ∙ blobs.0);
      guids = below_limit (2 ^ 29) _ (either _ _ (sym (guids_after c s t e) ∙ guids)).1;
    }
  where
    last_none : (a : Bool) (p : Place) → broken a p ≡ None → a ≡ false
    last_none false p h = refl
    last_none true p h = absurd cc
