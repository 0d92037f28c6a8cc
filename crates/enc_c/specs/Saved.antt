-- Files that a call writes into buffers.
use Rattle.std.specs.Prelude.{◌≡◌, ◌⊎◌, ℕ, Bool, true, false, ◌&&◌, List, ◌++◌, length, drop, nat_le, Option, Some, None}
use Rattle.enc_plain.specs.Debug.{PlainPdb}
use Rattle.enc_plain.specs.Module.{Module}
use Rattle.enc_rewriter.specs.Limits.{Passed, too_heavy, too_large, rewrite_limit}
use Rattle.enc_rewriter.specs.Rewritten.{RewritesTo}
use Rattle.enc_rewriter.specs.declared.fault.RewriteFault.{RewriteFault}
use Rattle.enc_rewriter.specs.declared.fault.RewriteFault.TheVariants as fault
use Rattle.enc_c.specs.declared.reason.Reason.{Reason}
use Rattle.enc_c.specs.declared.reason.Reason.TheVariants.{Heap, Image}
use Rattle.enc_c.specs.declared.refusal.RefusalNumbers.{RefusalNumbers}
use Rattle.enc_c.specs.declared.status.Status.{Status}
use Rattle.enc_c.specs.declared.status.Status.TheVariants.{Done, Refused, Memory, Closed, Short}
use Rattle.enc_c.specs.Reasons.{numbers_of_reason}
use Rattle.enc_c.specs.State.{State, module_after, pdb_after}
use Rattle.enc_c.specs.Status.{number_of_status}

-- a buffer and its size, before and after a call
pub record Buffer (A : Type 0) : Type 0 where
  pub old : List A
  pub new : List A
  pub before : ℕ
  pub size : ℕ

-- one of these
abbrev pub buffer_of : {A : Type 0} → List A → List A → ℕ → ℕ → Buffer A
buffer_of old new before size = record { old = old; new = new; before = before; size = size }

-- nothing of it is written, and its size isn't told
pub record IsUntouched {A : Type 0} (b : Buffer A) : Type 0 where
  pub buffer : b.new ≡ b.old
  pub size : b.size ≡ b.before

-- items fit into a buffer
abbrev pub has_room : {A : Type 0} → List A → List A → Bool
has_room items buffer = nat_le (length items) (length buffer)

-- two files do
abbrev pub both_room : {A : Type 0} → List ℕ → List A → List ℕ → List A → Bool
both_room x y a b = has_room x a && has_room y b

-- three do
abbrev pub all_room : {A : Type 0} → List ℕ → List ℕ → List A → List ℕ → List ℕ → List A → Bool
all_room x y z a b c = both_room x y a b && has_room z c

-- items stand at a buffer's front, or nothing of it is written where not all files fit
abbrev pub written_if : {A : Type 0} → Bool → List A → List A → List A
written_if true items buffer = items ++ drop (length items) buffer
written_if false items buffer = buffer

-- the status where all fit, or not
abbrev pub status_if : Bool → Status
status_if true = Done
status_if false = Short

-- so it is, and how many there are is told in any case
pub record IsFilled {A : Type 0} (fit : Bool) (items : List A) (b : Buffer A) : Type 0 where
  pub buffer : b.new ≡ written_if fit items b.old
  pub size : b.size ≡ length items

-- two files are copied, or, where one of the buffers is too short, none
pub record CopiesTwo (status : ℕ) (a b : Buffer ℕ) (x y : List ℕ) : Type 0 where
  pub status_is : status ≡ number_of_status (status_if (both_room x y a.old b.old))
  pub first : IsFilled (both_room x y a.old b.old) x a
  pub second : IsFilled (both_room x y a.old b.old) y b

-- so it is of three
pub record CopiesThree {A : Type 0} (status : ℕ) (a b : Buffer ℕ) (c : Buffer A) (x y : List ℕ)
    (z : List A) : Type 0 where
  pub status_is : status ≡ number_of_status (status_if (all_room x y z a.old b.old c.old))
  pub first : IsFilled (all_room x y z a.old b.old c.old) x a
  pub second : IsFilled (all_room x y z a.old b.old c.old) y b
  pub third : IsFilled (all_room x y z a.old b.old c.old) z c

-- the limit that would be passed
abbrev pub reason_of_limit : Passed → Reason
reason_of_limit (too_large heap) = Heap heap
reason_of_limit too_heavy = Image

-- a module that isn't written by a status, and its limit by numbers
abbrev pub TellsUnwritten : ℕ → RefusalNumbers → RefusalNumbers → RewriteFault → Type 0
TellsUnwritten status old new fault.Memory = (status ≡ number_of_status Memory) × (new ≡ old)
TellsUnwritten status old new (fault.TooLarge heap) =
    (status ≡ number_of_status Refused) × (new ≡ numbers_of_reason (Heap heap))
TellsUnwritten status old new fault.Image = (status ≡ number_of_status Refused) × (new ≡ numbers_of_reason Image)

-- a module and its plain PDB are written into two buffers
pub record WritesModule (status : ℕ) (m : Module) (p : PlainPdb) (a b : Buffer ℕ) : Type 0 where
  pub image : List ℕ
  pub symbols : List ℕ
  pub written : RewritesTo m p image symbols
  pub copied : CopiesTwo status a b image symbols

-- nothing is told of two buffers and a refusal but a status
pub record TellsOfTwo (s : Status) (status : ℕ) (a b : Buffer ℕ) (old new : RefusalNumbers) : Type 0 where
  pub status_is : status ≡ number_of_status s
  pub first : IsUntouched a
  pub second : IsUntouched b
  pub refusal : new ≡ old

-- a module and its PDB are written where they pass no limit, and else the first limit is told
abbrev pub SavesUnless : ℕ → Module → PlainPdb → Buffer ℕ → Buffer ℕ → RefusalNumbers → RefusalNumbers → Option Passed
    → Type 0
SavesUnless status m p a b old new None = WritesModule status m p a b × (new ≡ old)
SavesUnless status m p a b old new (Some passed) =
    (status ≡ number_of_status Refused) × IsUntouched a × IsUntouched b
    × (new ≡ numbers_of_reason (reason_of_limit passed))

-- so it is, or there is no memory
abbrev pub SavesModule : ℕ → Module → PlainPdb → Buffer ℕ → Buffer ℕ → RefusalNumbers → RefusalNumbers → Type 0
SavesModule status m p a b old new =
    SavesUnless status m p a b old new (rewrite_limit m p) ⊎ TellsOfTwo Memory status a b old new

-- the module and the PDB after all deltas of an open handle
abbrev pub Saves : ℕ → Option State → Buffer ℕ → Buffer ℕ → RefusalNumbers → RefusalNumbers → Type 0
Saves status None a b old new = TellsOfTwo Closed status a b old new
Saves status (Some s) a b old new = SavesModule status (module_after s) (pdb_after s) a b old new
