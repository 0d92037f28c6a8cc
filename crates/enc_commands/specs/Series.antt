-- For the contracts of private functions: the files of a generated case as far as they are made.
use Rattle.std.specs.Prelude.{◌≡◌, ◌≤◌, ◌<◌, ℕ, List, ◌++◌, length, take, Some, Result, Ok, Err, slice_get}
use Rattle.enc_base.specs.declared.token.Token.{Token}
use Rattle.enc_base.specs.Tables as tables
use Rattle.enc_plain.specs.Sound.{row_count}
use Rattle.enc_plain.specs.Debug.{unknown}
use Rattle.enc_ppdb.specs.Written.{MeansPdb}
use Rattle.enc_rewriter.specs.Rewritten.{MeansModule}
use Rattle.enc_edit_list.specs.declared.edit.EditList.{EditList}
use Rattle.enc_agg.specs.Seen.{chain_of_all}
use Rattle.enc_emit.specs.declared.delta_bytes.DeltaBytes.{DeltaBytes}
use Rattle.enc_writer.specs.Stands.{IsWrittenFor}
use Rattle.enc_generator.specs.Generated.{generated_base, generated_lists}
use Rattle.enc_generator.specs.Laws.{IsDrawnChain}
use Rattle.enc_commands.specs.declared.commands.generate.Series.{Series}
use Rattle.enc_commands.specs.declared.halt.Halt.{Halt}
use Rattle.enc_commands.specs.Verdict.{Followed, debug_after}
use Rattle.enc_commands.specs.Generating.{no_points, module_saves, Begins, StandInTurn}
use Rattle.enc_commands.specs.Loads.{followed}
use Rattle.enc_commands.specs.Plans.{saves_of}
use Rattle.enc_commands.specs.Stops.{OnPlan}

-- the base and the deltas of these lists were made; nothing is known of any method
pub record IsSeries (out : List ℕ) (lists : List EditList) (s : Series) : Type 0 where
  pub image : List ℕ
  pub symbols : List ℕ
  pub deltas : List (List ℕ × List ℕ)
  pub begun : Followed
  pub saved : saves_of s.saves.items ≡ module_saves out image symbols ++ deltas
  pub base_is : MeansModule generated_base image
  pub base_debug : MeansPdb no_points (row_count generated_base tables.method_def) symbols
  pub begins : Begins image symbols begun
  pub stand : StandInTurn out 1 begun lists deltas (followed s.held)
  pub drawn : IsDrawnChain lists (chain_of_all s.held.rows)
  pub nothing : (method : Token) → debug_after (followed s.held) method ≡ unknown

-- the lists are those of a case
pub record AreDrawn (lists : List EditList) : Type 0 where
  pub start : ℕ
  pub count : ℕ
  pub few : count ≤ 64
  pub short : length lists ≤ 64
  pub lists_are : lists ≡ generated_lists start count

-- the lists before a place are made, and there is one at it
pub record IsAt (out : List ℕ) (lists : List EditList) (k : ℕ) (s : Series) : Type 0 where
  pub there : k < length lists
  pub drawn : AreDrawn lists
  pub series : IsSeries out (take k lists) s

-- files are written for the list at a place, behind what was made
abbrev pub StandAt : List EditList → ℕ → Series → DeltaBytes → Type 0
StandAt lists k s d = (l : EditList) × (slice_get lists k ≡ Some l) × IsWrittenFor (chain_of_all s.held.rows) l d

-- nothing is said of a refusal: what ends it is want of memory
abbrev pub NothingSaid : {A : Type 0} → Result A Halt → Type 0
NothingSaid (Ok a) = Unit {0}
NothingSaid (Err h) = OnPlan h (λ plan. ⊥)
