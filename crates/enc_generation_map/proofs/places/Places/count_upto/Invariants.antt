use Rattle.std.proofs.Common.{List, ◌≤◌, ◌-◌, length}
use Rattle.enc_key_map.specs.Index.{value_at}
use Rattle.enc_plain.specs.declared.place.RowPlace.{RowPlace as ThePlace}
use Rattle.enc_generation_map.specs.Places.{place_key, places_kept, BeginWith}
use Rattle.enc_generation_map.proofs.places.Places.count_upto.Given as goal

-- the first places are no fewer than those in front, and no more than those up to the part behind
abbrev pub invariant-loop-low : goal.invariant-loop-low
invariant-loop-low l = (l.high ≤ places_kept l.self l.token)
    × ((first : List ThePlace) → BeginWith first l.generation (places_kept l.self l.token) (λ i. value_at l.self.places (place_key l.token i))
    → (l.low ≤ length first) × (length first ≤ l.high))

abbrev pub decreases-loop-low : goal.decreases-loop-low
decreases-loop-low l = l.high - l.low
