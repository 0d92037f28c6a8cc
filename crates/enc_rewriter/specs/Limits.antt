-- Which limit a module passes that isn't written.
use Rattle.std.specs.Prelude.{◌≡◌, Bool, true, false, Option, Some, None, Result, Ok, Err, nat_le, nat_lt}
use Rattle.enc_base.specs.Order.{or_else}
use Rattle.enc_base.specs.declared.refusal.StreamName.{StreamName}
use Rattle.enc_base.specs.declared.refusal.StreamName.TheVariants.{Pdb}
use Rattle.enc_meta.specs.declared.builder.BuildFault.{BuildFault}
use Rattle.enc_meta.specs.declared.builder.BuildFault.TheVariants as build
use Rattle.enc_plain.specs.Debug.{PlainPdb}
use Rattle.enc_plain.specs.Module.{Module}
use Rattle.enc_plain.specs.Sound.{row_count}
use Rattle.enc_ppdb.specs.Written.{pdb_weight, most_pdb_weight}
use Rattle.enc_base.specs.Tables as tables
use Rattle.enc_rewriter.specs.Values.{heaps_for, too_large_heap}
use Rattle.enc_rewriter.specs.Weight.{module_weight, most_weight}
use Rattle.enc_rewriter.specs.declared.fault.RewriteFault.{RewriteFault}
use Rattle.enc_rewriter.specs.declared.fault.RewriteFault.TheVariants.{Memory, TooLarge, Image}

-- a limit that is passed: that of a heap or of the PDB, or that of the image's weight
pub data Passed : Type 0 where
  too_large : StreamName → Passed
  too_heavy : Passed

-- the same fault
abbrev pub rewrite_fault_of : BuildFault → RewriteFault
rewrite_fault_of build.Memory = Memory
rewrite_fault_of (build.TooLarge heap) = TooLarge heap

-- the module passes the weight
unfoldable pub is_heavy : Module → Bool
is_heavy m = nat_le most_weight (module_weight m (heaps_for m))

-- a heap that is too large comes before the weight
abbrev pub limit_after : Option StreamName → Bool → Option Passed
limit_after (Some heap) heavy = Some (too_large heap)
limit_after None true = Some too_heavy
limit_after None false = None

-- the first limit that the image of a module passes
unfoldable pub image_limit : Module → Option Passed
image_limit m = limit_after (too_large_heap m) (is_heavy m)

-- the limit that the PDB of a module's methods passes
abbrev pub limit_of_pdb : Bool → Option Passed
limit_of_pdb true = Some (too_large Pdb)
limit_of_pdb false = None

unfoldable pub pdb_limit : Module → PlainPdb → Option Passed
pdb_limit m p = limit_of_pdb (nat_lt most_pdb_weight (pdb_weight p (row_count m tables.method_def)))

-- the first limit that the image of a module and its PDB pass; the image comes first
unfoldable pub rewrite_limit : Module → PlainPdb → Option Passed
rewrite_limit m p = or_else (image_limit m) (pdb_limit m p)

-- what is told is the first limit; want of memory tells nothing
abbrev pub IsFault : RewriteFault → Option Passed → Type 0
IsFault Memory first = Unit {0}
IsFault (TooLarge heap) first = first ≡ Some (too_large heap)
IsFault Image first = first ≡ Some too_heavy

abbrev pub TellsLimit : {A : Type 0} → Result A RewriteFault → Option Passed → Type 0
TellsLimit (Ok _) first = first ≡ None
TellsLimit (Err fault) first = IsFault fault first
