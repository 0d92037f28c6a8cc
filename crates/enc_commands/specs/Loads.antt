-- For the contracts of private functions: what the loaded files stand for.
use Rattle.std.specs.Prelude.{◌≡◌, ◌≤◌, ℕ, List, [], ◌∷◌, length, Option, option_map, Vec, Result, Ok, Err, string_bytes}
use Rattle.std.specs.declared.alloc.Global.{Global}
use Rattle.enc_commands.specs.declared.judge.JudgedBase.{JudgedBase}
use Rattle.enc_commands.specs.declared.commands.accept.Texted.{Texted}
use Rattle.enc_commands.specs.declared.load.BaseFile.{BaseFile}
use Rattle.enc_commands.specs.declared.load.DeltaFile.{DeltaFile}
use Rattle.enc_commands.specs.declared.halt.Halt.{Halt}
use Rattle.enc_merge.specs.Merges.{AllShort}
use Rattle.enc_commands.specs.Verdict.{Stop, BaseFiles, DeltaFiles, Followed, file_limit, followed_by, WithText}
use Rattle.enc_checker.specs.Check.{Accepted}
pub use Rattle.enc_chain.specs.Kept.{Kept, followed}
use Rattle.enc_commands.specs.Stops.{OnPlan, StopsWith}

-- the bytes of a file that may be absent
abbrev pub bytes_seen : Option (Vec ℕ Global) → Option (List ℕ)
bytes_seen bytes = option_map (λ (b : Vec ℕ Global). b.items) bytes

abbrev pub base_seen : BaseFile → BaseFiles
base_seen f = record { bytes = f.bytes.items; debug = bytes_seen f.debug }

abbrev pub file_seen : DeltaFile → DeltaFiles
file_seen f = record {
  name = string_bytes f.name;
  debug_name = string_bytes f.debug_name;
  metadata = f.metadata.items;
  code = f.code.items;
  debug = bytes_seen f.debug;
}

-- a base alone
abbrev pub base_followed : JudgedBase → Followed
base_followed b = record { base = b.image; deltas = []; debug = b.pdb; debugs = [] }

-- and so they are with a text
abbrev pub texted : Texted → WithText
texted t = record { followed = followed t.judged; text = t.text.items }

-- the metadata and the code of a delta aren't longer than a file may be
pub record IsShort (f : DeltaFiles) : Type 0 where
  pub metadata : length f.metadata ≤ file_limit
  pub code : length f.code ≤ file_limit

unfoldable pub AreShort : List DeltaFiles → Type 0
AreShort [] = Unit {0}
AreShort (f ∷ fs) = IsShort f × AreShort fs

-- the deltas of so many words follow, none of them longer than a file
pub record HaveGone (words : ℕ) (k : Kept) : Type 0 where
  pub many : length k.rows.deltas ≡ words
  pub short : AllShort k.rows.deltas

-- a delta was added, or it ended at the defined stop
abbrev pub Adds : {U : Type 0} → Kept → Kept → Result U Halt → Result Accepted Stop → Type 0
Adds old new (Ok u) r = (a : Accepted) × (r ≡ Ok a) × (followed new ≡ followed_by (followed old) a)
Adds old new (Err h) r = OnPlan h (StopsWith r)
