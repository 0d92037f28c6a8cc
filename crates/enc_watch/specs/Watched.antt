-- What watchers heard, and what they report of it.
use Rattle.std.specs.Prelude.{ℕ, ◌+◌, ◌≤◌, List, [], ◌∷◌, ◌++◌, length, Option, Some, None, unwrap_or, codes, decimal, flat_map}
use Rattle.std.specs.List.{fold}
use Rattle.std.specs.Map.{lookup}
use Rattle.std.specs.BTreeMap.{insert_entry, is_at}
use Rattle.std.specs.Ordering.{nat_cmp, ordering_then}
use Rattle.std.specs.declared.cmp.Ordering.{Ordering}
use Rattle.enc_base.specs.declared.token.Token.{Token}
use Rattle.enc_objects.specs.declared.trap.Trap.{Trap}
use Rattle.enc_objects.specs.declared.trap.Trap.TheVariants as trap
use Rattle.enc_objects.specs.Entries.{token_ordering}
use Rattle.enc_text.specs.Text.{token_text, refusal_code_text}
use Rattle.enc_watch.specs.declared.event.Event.{Event}
use Rattle.enc_watch.specs.declared.event.Event.TheVariants as event
use Rattle.enc_watch.specs.declared.event.WatchKind.{WatchKind}
use Rattle.enc_watch.specs.declared.event.WatchKind.TheVariants as kind
use Rattle.enc_watch.specs.declared.method_line.MethodLine.{MethodLine}

-- there is a limit, and so many events or more were heard
abbrev pub HasReached : Option ℕ → List Event → Type 0
HasReached None heard = ⊥
HasReached (Some n) heard = n ≤ length heard

-- what a watcher that fails heard, and after how many events it fails
pub record Hearing : Type 0 where
  pub events : List Event
  pub after : ℕ

-- the code of a trap
abbrev pub trap_code_text : Trap → List ℕ
trap_code_text trap.X1 = codes "X1"
trap_code_text trap.X2 = codes "X2"
trap_code_text trap.X3 = codes "X3"
trap_code_text trap.X4 = codes "X4"
trap_code_text trap.X5 = codes "X5"
trap_code_text trap.X6 = codes "X6"
trap_code_text trap.X7 = codes "X7"
trap_code_text trap.X8 = codes "X8"
trap_code_text trap.X9 = codes "X9"
trap_code_text trap.X10 = codes "X10"
trap_code_text trap.X11 = codes "X11"
trap_code_text trap.X12 = codes "X12"
trap_code_text trap.X13 = codes "X13"
trap_code_text trap.X14 = codes "X14"

-- a line of a word and a number
unfoldable pub number_line : List ℕ → ℕ → List ℕ
number_line word n = word ++ 0x20 ∷ decimal n ++ 0x0a ∷ []

-- a line of a word, the number of a task, and what is said of it
unfoldable pub heard_line : List ℕ → ℕ → List ℕ → List ℕ
heard_line word task said = word ++ 0x20 ∷ decimal task ++ 0x20 ∷ said ++ 0x0a ∷ []

-- a line of a method that a task came to
unfoldable pub stepped_line : ℕ → Token → ℕ → List ℕ
stepped_line task method line = heard_line (codes "line") task (token_text method ++ 0x20 ∷ decimal line)

-- the line of an event in a trace
abbrev pub event_line : Event → List ℕ
event_line (event.Spawned task method) = heard_line (codes "spawned") task (token_text method)
event_line (event.Entered task method) = heard_line (codes "entered") task (token_text method)
event_line (event.Left task method) = heard_line (codes "left") task (token_text method)
event_line (event.Line task method line) = stepped_line task method line
event_line (event.Applied generation) = number_line (codes "applied") generation
event_line (event.Refused code) = codes "refused " ++ refusal_code_text code ++ 0x0a ∷ []
event_line (event.Trapped task trap) = heard_line (codes "trapped") task (trap_code_text trap)
event_line (event.Ended task) = number_line (codes "ended") task

-- the report of a trace: a line for each event, in the order heard
unfoldable pub trace_text : List Event → List ℕ
trace_text heard = flat_map event_line heard

-- lines of methods go by the method's token, then by the line
abbrev pub line_ordering : MethodLine → MethodLine → Ordering
line_ordering a b = ordering_then (token_ordering a.method b.method) (nat_cmp a.line b.line)

-- lines of methods, each once, in their order, with how often each was heard
abbrev pub Hits : Type 0
Hits = List (MethodLine × ℕ)

-- how often a line was heard
abbrev pub hits_at : MethodLine → Hits → ℕ
hits_at at hits = unwrap_or (lookup (is_at (line_ordering at)) hits) 0

-- a line that is heard once more
unfoldable pub with_hit : MethodLine → Hits → Hits
with_hit at hits = insert_entry line_ordering hits at (hits_at at hits + 1)

-- an event more: only lines count
abbrev pub hits_with : Hits → Event → Hits
hits_with hits (event.Line task method line) = with_hit (record { method = method; line = line }) hits
hits_with hits _ = hits

-- the lines heard in events, counted
unfoldable pub hits_in : List Event → Hits
hits_in heard = fold hits_with [] heard

-- the line of a cover: token, line, and how often it was heard
unfoldable pub hits_line : MethodLine × ℕ → List ℕ
hits_line hit = token_text hit.0.method ++ 0x20 ∷ decimal hit.0.line ++ 0x20 ∷ decimal hit.1 ++ 0x0a ∷ []

-- the report of a cover: a line for each line heard, in the order of token and line
unfoldable pub cover_text : List Event → List ℕ
cover_text heard = flat_map hits_line (hits_in heard)

-- the report of a watcher of a kind over what it heard
abbrev pub report_of : WatchKind → List Event → List ℕ
report_of kind.Trace heard = trace_text heard
report_of kind.Cover heard = cover_text heard
report_of kind.Failing heard = trace_text heard
