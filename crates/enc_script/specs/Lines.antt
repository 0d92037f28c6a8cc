-- The lines of a script's commands.
use Rattle.std.specs.Prelude.{ℕ, List, [], ◌∷◌, ◌++◌, codes, decimal}
use Rattle.enc_base.specs.declared.token.Token.{Token}
use Rattle.enc_remap.specs.Remap.{Remapping, moved, refused}
use Rattle.enc_text.specs.BodyText.{label}
use Rattle.enc_text.specs.Text.{token_text}
use Rattle.enc_vm.specs.Step.{Spawning, begun, too_many, no_method}
use Rattle.enc_watch.specs.Audience.{watcher_line}
use Rattle.enc_watch.specs.declared.event.WatchKind.{WatchKind}
use Rattle.enc_watch.specs.declared.event.WatchKind.TheVariants as kind
use Rattle.enc_session.specs.Lines.{task_line}

-- a spawn
unfoldable pub refused_spawn : Token → List ℕ → List ℕ
refused_spawn method why = codes "spawn refused " ++ token_text method ++ 0x20 ∷ why ++ 0x0a ∷ []

abbrev pub spawn_line : {C : Type 0} → Token → Spawning C → List ℕ
spawn_line method (begun n s) = task_line n (codes "spawned " ++ token_text method)
spawn_line method too_many = refused_spawn method (codes "limit")
spawn_line method no_method = refused_spawn method (codes "method")

-- steps: how many were made, and that there was no task, or one that makes no more
unfoldable pub ran_line : ℕ → ℕ → List ℕ
ran_line task count = task_line task (codes "ran " ++ decimal count)

unfoldable pub idle_line : ℕ → List ℕ
idle_line task = task_line task (codes "idle")

unfoldable pub absent_task_line : ℕ → List ℕ
absent_task_line task = task_line task (codes "absent")

-- a delta that was applied
unfoldable pub applied_line : List ℕ → ℕ → List ℕ
applied_line name generation = codes "applied " ++ name ++ codes " generation " ++ decimal generation ++ 0x0a ∷ []

-- a watcher that was attached, and that there is none of a kind
abbrev pub watch_kind_text : WatchKind → List ℕ
watch_kind_text kind.Trace = codes "trace"
watch_kind_text kind.Cover = codes "cover"
watch_kind_text kind.Failing = codes "failing"

unfoldable pub attached_line : ℕ → WatchKind → List ℕ
attached_line number k = watcher_line number (codes "attached " ++ watch_kind_text k)

unfoldable pub none_line : WatchKind → List ℕ
none_line k = codes "watcher none " ++ watch_kind_text k ++ 0x0a ∷ []

-- one that was detached, and that none has a number
unfoldable pub detached_line : ℕ → List ℕ
detached_line number = watcher_line number (codes "detached")

unfoldable pub number_absent_line : ℕ → List ℕ
number_absent_line number = watcher_line number (codes "absent")

-- two offsets, each behind a blank
unfoldable pub two_labels : ℕ → ℕ → List ℕ
two_labels from to = 0x20 ∷ label from ++ 0x20 ∷ label to

unfoldable pub remapped_line : ℕ → Token → ℕ → ℕ → List ℕ
remapped_line task method from to = task_line task (codes "remapped " ++ token_text method ++ two_labels from to)

-- a rule of remaps by its number
unfoldable pub rule_text : ℕ → List ℕ
rule_text number = codes "refused Q" ++ decimal number

unfoldable pub remap_refused_line : ℕ → ℕ → List ℕ
remap_refused_line task number = task_line task (codes "remap " ++ rule_text number)

-- a remap: the method, the offset at which its frame stood and that at which it goes on, or which rule is broken
abbrev pub remap_line : {C : Type 0} → ℕ → Remapping C → List ℕ
remap_line task (moved method from to s) = remapped_line task method from to
remap_line task (refused number) = remap_refused_line task number
