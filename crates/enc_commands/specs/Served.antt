-- The contract of the top call as one word, for callers that hand its status on.
use Rattle.std.specs.Prelude.{◌≡◌, ◌⊎◌, ◌≤◌, ℕ, List, Option, None, Err, true, IfSome, IsSome}
use Rattle.enc_outside.specs.Outside.{Files, Rose, IsTold}
use Rattle.enc_watch.specs.Audience.{Watching}
use Rattle.enc_command_line.specs.Words.{job_of}
use Rattle.enc_commands.specs.Verdict.{no_command, verdict_of}
use Rattle.enc_commands.specs.Answers.{answer_is_whole, status_of, Prints, Leaves}

-- what became of a store or a sink: what it tells, where it does, and its count of faults, before and after
pub record Course (T : Type 0) : Type 0 where
  pub old : Option T
  pub new : Option T
  pub faults_before : ℕ
  pub faults_after : ℕ

abbrev pub course : {T : Type 0} → Option T → Option T → ℕ → ℕ → Course T
course old new faults_before faults_after =
    record { old = old; new = new; faults_before = faults_before; faults_after = faults_after }

-- what a call with these words and watchers does: its status, what became of the files, and what was printed
pub record Serves (texts : List (List ℕ)) (watchers : List Watching) (status : ℕ) (store : Course Files)
    (sink : Course (List ℕ)) : Type 0 where
  pub known : status ≤ 6
  pub verdict : IfSome store.old (λ files. answer_is_whole status ≡ true
      → status ≡ status_of (verdict_of watchers texts files))
  pub prints : IfSome store.old (λ files. Prints status (verdict_of watchers texts files) sink.old sink.new)
  pub files : IfSome store.old (λ files. Leaves status (verdict_of watchers texts files) store.old store.new)
  pub complete : IfSome store.old
      (λ files. ¬ Rose store.faults_before store.faults_after → ¬ Rose sink.faults_before sink.faults_after
      → (status ≡ status_of (verdict_of watchers texts files)) ⊎ (status ≡ 3))
  pub usage : job_of texts ≡ None → Prints status (Err no_command) sink.old sink.new
  pub no_job : job_of texts ≡ None → answer_is_whole status ≡ true → status ≡ 2
  pub words : status ≡ 2 → job_of texts ≡ None
  pub unchanged : answer_is_whole status ≡ true → (status ≡ 0) ⊎ (store.new ≡ store.old)
  pub memory : status ≡ 3 → sink.new ≡ sink.old
  pub nothing : status ≡ 4 → sink.new ≡ sink.old
  pub asked : status ≡ 4 → IsSome (job_of texts)
  pub store_fault : IsTold (status ≡ 4) store.faults_before store.faults_after
  pub sink_fault : IsTold (status ≡ 5) sink.faults_before sink.faults_after

-- the same as a word that a proof opens only where it asks for it
unfoldable pub IsServed : List (List ℕ) → List Watching → ℕ → Course Files → Course (List ℕ) → Type 0
IsServed words watchers status store sink = Serves words watchers status store sink

-- and what it says
abbrev pub ServedCallsServe : Type 0
ServedCallsServe = (words : List (List ℕ)) (watchers : List Watching) (status : ℕ) (store : Course Files)
    (sink : Course (List ℕ))
    → IsServed words watchers status store sink → Serves words watchers status store sink
