-- What the report of a cover says as a whole.
use Rattle.std.specs.Prelude.{◌≡◌, ℕ, Bool, false, ◌&&◌, List, length, filter, Some, None, ◌==◌, if◌then◌else◌}
use Rattle.std.specs.List.Sorted.{IsStrictlySortedBy}
use Rattle.std.specs.Map.{keys_of, lookup}
use Rattle.std.specs.BTreeMap.{is_at}
use Rattle.enc_base.specs.Token.{is_token}
use Rattle.enc_watch.specs.declared.event.Event.{Event}
use Rattle.enc_watch.specs.declared.event.Event.TheVariants as event
use Rattle.enc_watch.specs.declared.method_line.MethodLine.{MethodLine}
use Rattle.enc_watch.specs.Watched.{line_ordering, hits_in}

-- whether an event is that a task came to a line of a method
abbrev pub is_hit : MethodLine → Event → Bool
is_hit at (event.Line task method line) = is_token at.method method && at.line == line
is_hit at _ = false

-- how often a line was heard
abbrev pub times_heard : MethodLine → List Event → ℕ
times_heard at heard = length (filter (is_hit at) heard)

-- a cover tells a line that was heard, with how often it was, and no other
abbrev pub HitsAreTimesHeard : Type 0
HitsAreTimesHeard =
    (at : MethodLine) (heard : List Event)
    → lookup (is_at (line_ordering at)) (hits_in heard)
    ≡ (if times_heard at heard == 0 then None else Some (times_heard at heard))

-- it tells them in the order of token and line, each once
abbrev pub HitsAreInOrder : Type 0
HitsAreInOrder = (heard : List Event) → IsStrictlySortedBy line_ordering (keys_of (hits_in heard))
