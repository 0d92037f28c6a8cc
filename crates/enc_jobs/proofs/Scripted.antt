-- What every script has that a text says.
use Rattle.std.proofs.Common.{◌≡◌, ◌≤◌, ℕ, suc, Bool, true, false, List, [], ◌∷◌, length, Option, Some, None, Result, Ok, Err, refl, sym, ap, ◌∙◌, arith}
use Rattle.std.specs.Prelude.{◌&&◌, bytes_eq, codes, nat_lt, if◌then◌else◌}
use Rattle.std.specs.List.{list_all}
use Rattle.std.proofs.lemmas.Bool.Decides.{nat_tests}
use Rattle.serde_json.specs.Data.{Data}
use Rattle.serde_json.specs.Find.{get, as_str}
use Rattle.enc_base.specs.declared.token.Token.{Token}
use Rattle.enc_opcodes.specs.Instruction.{◌>>=◌}
use Rattle.enc_watch.specs.declared.event.WatchKind.{WatchKind}
use Rattle.enc_jobs.specs.declared.command.Command.{Command}
use Rattle.enc_jobs.specs.declared.command.Command.TheVariants.{Spawn, Step, Apply, Attach, Detach, Remap, State}
use Rattle.enc_jobs.specs.declared.fault.JobFault.{JobFault}
use Rattle.enc_jobs.specs.declared.fault.JobFault.TheVariants.{L3}
use Rattle.enc_jobs.specs.Edits.{json_value}
use Rattle.enc_jobs.specs.Json.{elements_of, has_only, word_said, number_said, token_said}
use Rattle.enc_jobs.specs.Laws.{names_a_delta, ScriptIsShort, ScriptNamesDeltas}
use Rattle.enc_jobs.specs.Lists.{next_number, with_numbered, read_in_turn}
use Rattle.enc_jobs.specs.Scripts.{most_commands, most_steps, spawn_said, step_of, step_said, is_name, name_said, apply_said, watcher_said, attach_said, detach_said, map_said, remap_said, state_said, command_of_kind, command_said, commands_of_items, commands_of_value, script_said}

-- what holds of a command that is there
abbrev Names : Option Command → Type 0
Names o = (c : Command) → o ≡ Some c → names_a_delta c ≡ true

none_names : Names None
none_names c h = absurd cc

-- one thing after the other
then_names : {A : Type 0} (o : Option A) (f : A → Option Command) → ((a : A) → o ≡ Some a → Names (f a)) → Names (o >>= f)
then_names None f each = none_names
then_names (Some a) f each = each a refl

where_names : (b : Bool) (o : Option Command) → Names o → Names (if b then o else None)
where_names true o h = h
where_names false o h = none_names

or_names : (b : Bool) (o p : Option Command) → Names o → Names p → Names (if b then o else p)
or_names true o p h g = h
or_names false o p h g = g

some_names : (a : Command) → names_a_delta a ≡ true → Names (Some a)
some_names a all c h = let same : a ≡ c = cc in rw (← same) all

spawn_names : (d : Data) → Names (spawn_said d)
unfolding spawn_said
spawn_names d =
    where_names (has_only (codes "do" ∷ codes "method" ∷ []) d) _ (then_names (get (codes "method") d >>= token_said) _ (λ t is. some_names (Spawn t) refl))

step_of_names : (task count : ℕ) → Names (step_of task count)
step_of_names task count = where_names _ (Some (Step task count)) (some_names (Step task count) refl)

step_names : (d : Data) → Names (step_said d)
unfolding step_said
step_names d =
    where_names (has_only (codes "do" ∷ codes "task" ∷ codes "count" ∷ []) d) _
    (then_names (get (codes "task") d >>= word_said) _ (λ task is. then_names (get (codes "count") d >>= number_said most_steps) _ (λ count said. step_of_names task count)))

-- a name that is read is one
name_by : (text name : List ℕ) (b : Bool) → is_name text ≡ b → (if b then Some text else None) ≡ Some name → is_name name ≡ true
name_by text name true e h = let same : text ≡ name = cc in rw (← same) e
name_by text name false e h = absurd cc

name_from : (o : Option (List ℕ)) (name : List ℕ) → (o >>= (λ (text : List ℕ). if is_name text then Some text else None)) ≡ Some name → is_name name ≡ true
name_from None name h = absurd cc
name_from (Some text) name h = name_by text name (is_name text) refl h

name_is : (d : Data) (name : List ℕ) → name_said d ≡ Some name → is_name name ≡ true
unfolding name_said
name_is d name h = name_from (as_str d) name h

name_at : (o : Option Data) (name : List ℕ) → (o >>= name_said) ≡ Some name → is_name name ≡ true
name_at None name h = absurd cc
name_at (Some d) name h = name_is d name h

apply_names : (d : Data) → Names (apply_said d)
unfolding apply_said
apply_names d =
    where_names (has_only (codes "do" ∷ codes "delta" ∷ []) d) _
    (then_names (get (codes "delta") d >>= name_said) _ (λ name is. some_names (Apply name) (name_at (get (codes "delta") d) name is)))

attach_names : (d : Data) → Names (attach_said d)
unfolding attach_said
attach_names d =
    where_names (has_only (codes "do" ∷ codes "watcher" ∷ []) d) _ (then_names (get (codes "watcher") d >>= watcher_said) _ (λ kind is. some_names (Attach kind) refl))

detach_names : (d : Data) → Names (detach_said d)
unfolding detach_said
detach_names d =
    where_names (has_only (codes "do" ∷ codes "number" ∷ []) d) _ (then_names (get (codes "number") d >>= word_said) _ (λ n is. some_names (Detach n) refl))

remap_names : (d : Data) → Names (remap_said d)
unfolding remap_said
remap_names d =
    where_names (has_only (codes "do" ∷ codes "task" ∷ codes "map" ∷ []) d) _
    (then_names (get (codes "task") d >>= word_said) _ (λ task is. then_names (get (codes "map") d >>= map_said) _ (λ pairs said. some_names (Remap task pairs) refl)))

state_names : (d : Data) → Names (state_said d)
unfolding state_said
state_names d = where_names (has_only (codes "do" ∷ []) d) (Some State) (some_names State refl)

kind_names : (d : Data) (kind : List ℕ) → Names (command_of_kind d kind)
kind_names d kind =
    or_names (bytes_eq kind (codes "spawn")) _ _ (spawn_names d)
    (or_names (bytes_eq kind (codes "step")) _ _ (step_names d)
    (or_names (bytes_eq kind (codes "apply")) _ _ (apply_names d)
    (or_names (bytes_eq kind (codes "attach")) _ _ (attach_names d)
    (or_names (bytes_eq kind (codes "detach")) _ _ (detach_names d)
    (or_names (bytes_eq kind (codes "remap")) _ _ (remap_names d)
    (or_names (bytes_eq kind (codes "state")) _ _ (state_names d) none_names))))))

command_names : (d : Data) → Names (command_said d)
unfolding command_said
command_names d = then_names (get (codes "do") d >>= as_str) (command_of_kind d) (λ kind is. kind_names d kind)

-- what is read in turn
record AreRead {A B : Type 0} (test : B → Bool) (xs : List A) (ys : List B) : Type 0 where
  many : length ys ≡ length xs
  all : list_all test ys ≡ true

numbered_by : {A B : Type 0} (test : B → Bool) (n : ℕ) (x : A) (xs : List A) (ys : List B) (o : Option B) (r : Result (List B) JobFault)
    → ((y : B) → o ≡ Some y → test y ≡ true) → ((rest : List B) → r ≡ Ok rest → AreRead test xs rest) → with_numbered n o r ≡ Ok ys → AreRead test (x ∷ xs) ys
numbered_by test n x xs ys None r one later h = absurd cc
numbered_by test n x xs ys (Some y) (Err fault) one later h = absurd cc
numbered_by test n x xs ys (Some y) (Ok rest) one later h =
    let is : y ∷ rest ≡ ys = cc in
    let more = later rest refl in
    rw (← is) (record { many = ap (λ (k : ℕ). suc k) more.many; all = rw (one y refl, more.all) refl })

in_turn : {A B : Type 0} (test : B → Bool) (reader : A → Option B) → ((x : A) (y : B) → reader x ≡ Some y → test y ≡ true) → (n : ℕ) (xs : List A) (ys : List B)
    → read_in_turn reader n xs ≡ Ok ys → AreRead test xs ys
unfolding read_in_turn
in_turn test reader each n [] ys h = let is : [] ≡ ys = cc in rw (← is) (record { many = refl; all = refl })
in_turn test reader each n (x ∷ xs) ys h =
    numbered_by test n x xs ys (reader x) (read_in_turn reader (next_number n) xs) (each x) (λ rest. in_turn test reader each (next_number n) xs rest) h

-- a script is short, and names its deltas
record IsScript (commands : List Command) : Type 0 where
  short : length commands ≤ most_commands
  names : list_all names_a_delta commands ≡ true

by_length : (b : Bool) (items : List Data) (commands : List Command) → nat_lt most_commands (length items) ≡ b
    → (if b then Err L3 else read_in_turn command_said 1 items) ≡ Ok commands → IsScript commands
by_length true items commands e h = absurd cc
by_length false items commands e h =
    let read = in_turn names_a_delta command_said (λ d c is. command_names d c is) 1 items commands h in
    let few : length items ≤ most_commands = grind (arith, nat_tests, e) in
    record { short = rw read.many few; names = read.all }

of_items : (o : Option (List Data)) (commands : List Command) → commands_of_items o ≡ Ok commands → IsScript commands
of_items None commands h = absurd cc
of_items (Some items) commands h = by_length (nat_lt most_commands (length items)) items commands refl h

of_value : (o : Option Data) (commands : List Command) → commands_of_value o ≡ Ok commands → IsScript commands
of_value None commands h = absurd cc
of_value (Some d) commands h = of_items (elements_of d) commands h

pub script_is_short : ScriptIsShort
unfolding script_said
script_is_short text commands h = (of_value (json_value text) commands h).short

pub script_names_deltas : ScriptNamesDeltas
unfolding script_said
script_names_deltas text commands h = (of_value (json_value text) commands h).names
