-- What `gen` saves: the generated base, a delta for each generated list, and the module after all lists.
use Rattle.std.specs.Prelude.{◌≡◌, ℕ, ◌+◌, List, [], ◌∷◌, ◌++◌, Some, Ok}
use Rattle.enc_base.specs.Tables as tables
use Rattle.enc_plain.specs.Debug.{PlainPdb, unknown}
use Rattle.enc_plain.specs.Sound.{row_count}
use Rattle.enc_delta.specs.Delta.{delta_of}
use Rattle.enc_image.specs.Base.{base_of}
use Rattle.enc_agg.specs.Extend.{chain_with}
use Rattle.enc_ppdb.specs.Written.{MeansPdb}
use Rattle.enc_checker.specs.Check.{Accepted, judged}
use Rattle.enc_rewriter.specs.Rewritten.{MeansModule}
use Rattle.enc_edit_list.specs.declared.edit.EditList.{EditList}
use Rattle.enc_emit.specs.declared.delta_bytes.DeltaBytes.{DeltaBytes}
use Rattle.enc_writer.specs.Stands.{StandsFor}
use Rattle.enc_generator.specs.Generated.{generated_base, edited_by}
pub use Rattle.enc_saves.specs.Names.{delta_name, last_name}
pub use Rattle.enc_saves.specs.Saves.{module_saves, delta_saves}
use Rattle.enc_commands.specs.Verdict.{Followed, followed_by, base_pdb, plain_of, debug_after}

-- a PDB in which nothing is known
abbrev pub no_points : PlainPdb
no_points method = unknown

-- a module that was written, with its PDB, is the base of what follows
pub record Begins (image symbols : List ℕ) (f : Followed) : Type 0 where
  pub base : base_of image ≡ Ok f.base
  pub debug : base_pdb f.base (Some symbols) ≡ Ok f.debug
  pub deltas : f.deltas ≡ []
  pub debugs : f.debugs ≡ []

-- the saves of lists, the first with a number: each list's delta stands for it after those before it, and is accepted
abbrev pub StandInTurn : List ℕ → ℕ → Followed → List EditList → List (List ℕ × List ℕ) → Followed → Type 0
StandInTurn out list f [] saves after = (saves ≡ []) × (after ≡ f)
StandInTurn out list f (l ∷ lists) saves after =
    (d : DeltaBytes) × (a : Accepted) × (rest : List (List ℕ × List ℕ))
    × (StandsFor (chain_with f.base f.deltas) l d)
    × (judged (chain_with f.base f.deltas) (delta_of d.meta d.il) (Some d.pdb) ≡ Ok a)
    × (saves ≡ delta_saves (delta_name out list) d ++ rest)
    × StandInTurn out (list + 1) (followed_by f a) lists rest after

-- the saves of a case: the generated base, each list's delta, and the module with all of them, which is the base
-- with all lists made directly
pub record AreFilesOfCase (out : List ℕ) (lists : List EditList) (saves : List (List ℕ × List ℕ)) : Type 0 where
  pub image : List ℕ
  pub symbols : List ℕ
  pub deltas : List (List ℕ × List ℕ)
  pub last_image : List ℕ
  pub last_symbols : List ℕ
  pub begun : Followed
  pub after : Followed
  pub saved : saves ≡ module_saves out image symbols ++ deltas ++ module_saves (last_name out) last_image last_symbols
  pub base_is : MeansModule generated_base image
  pub base_debug : MeansPdb no_points (row_count generated_base tables.method_def) symbols
  pub begins : Begins image symbols begun
  pub stand : StandInTurn out 1 begun lists deltas after
  pub plain_is : plain_of after ≡ edited_by generated_base lists
  pub last_is : MeansModule (plain_of after) last_image
  pub last_debug : MeansPdb (debug_after after) (row_count (plain_of after) tables.method_def) last_symbols
