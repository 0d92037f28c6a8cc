-- What a loop over the sections or the debug entries has found so far.
use Rattle.std.proofs.Common.{◌≡◌, ℕ, zero, suc, ◌+◌, ◌-◌, ◌<◌, true, false, ◌||◌, List, Option, Some, None, refl, sym, arith}
use Rattle.std.specs.Prelude.{find}
use Rattle.enc_pe.specs.Sections.{section_at, sections_from, holds}
use Rattle.enc_pe.specs.Container.{is_embedded, embeds}
use Rattle.enc_pe.specs.declared.section.Section.{Section}

-- what a search among so many sections finds
abbrev Finds : List ℕ → ℕ → ℕ → ℕ → ℕ → Option Section → Type 0
Finds bytes at n first many o = find (holds first many) (sections_from bytes at n) ≡ o

-- among none
pub search_end : (bytes : List ℕ) (at first many n i : ℕ) (o : Option Section) → n - i ≡ 0 → find (holds first many) (sections_from bytes at (n - i)) ≡ o → o ≡ None
unfolding sections_from
search_end bytes at first many n i o none found = sym (rw none at found)

-- where no header stands
pub search_stops : (bytes : List ℕ) (at first many n i : ℕ) (o : Option Section) → section_at bytes at ≡ None → find (holds first many) (sections_from bytes at (n - i)) ≡ o → o ≡ None
unfolding sections_from
search_stops bytes at first many n i o none found = by_count (n - i) found
  where
    by_count : (m : ℕ) → find (holds first many) (sections_from bytes at m) ≡ o → o ≡ None
    by_count zero found = sym found
    by_count (suc m) found = sym (rw none at found)

-- where the next section holds the range
pub search_found : (bytes : List ℕ) (at first many n i : ℕ) (s : Section) (o : Option Section) → i < n → section_at bytes at ≡ Some s → holds first many s ≡ true → find (holds first many) (sections_from bytes at (n - i)) ≡ o → o ≡ Some s
unfolding sections_from
search_found bytes at first many n i s o less here is found =
    let e : n - i ≡ suc (n - (i + 1)) = omega arith in
    sym (rw (e, here, is) at found)

-- where it doesn't
pub search_more : (bytes : List ℕ) (at first many n i : ℕ) (s : Section) (o : Option Section) → i < n → section_at bytes at ≡ Some s → holds first many s ≡ false → find (holds first many) (sections_from bytes at (n - i)) ≡ o → find (holds first many) (sections_from bytes (at + 40) (n - (i + 1))) ≡ o
unfolding sections_from
search_more bytes at first many n i s o less here is found =
    let e : n - i ≡ suc (n - (i + 1)) = omega arith in
    rw (e, here, is) at found

pub ruleset search_steps = (search_end, search_stops, search_found, search_more)

-- among no debug entries none is embedded, and with one more it is that one or one before it
pub embeds_none : (entries : List ℕ) → embeds entries 0 ≡ false
unfolding embeds
embeds_none entries = refl

pub embeds_more : (entries : List ℕ) (k : ℕ) → embeds entries (k + 1) ≡ (embeds entries k || is_embedded entries k)
unfolding embeds
embeds_more entries k = let e : k + 1 ≡ suc k = omega arith in rw e refl

pub ruleset embeds_steps = (embeds_none, embeds_more)
