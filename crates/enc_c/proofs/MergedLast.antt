-- What comes of merging the last two deltas of a state.
use Rattle.std.proofs.Common.{◌≡◌, ◌≤◌, Bool, true, false, List, [], ◌∷◌, length, Option, Some, None, Result, Ok, Err, refl, arith}
use Rattle.enc_base.specs.declared.refusal.StreamName.TheVariants.{Pdb}
use Rattle.enc_rows.specs.Source.{Source}
use Rattle.enc_agg.specs.Extend.{chain_with}
use Rattle.enc_agg.specs.Seen.{History}
use Rattle.enc_ppdb.specs.PdbChain.{PdbHistory, DebugDelta, pdb_with}
use Rattle.enc_merge.specs.Merges.{MergesBoth}
use Rattle.enc_merge.specs.declared.fault.MergeFault.{MergeFault}
use Rattle.enc_merge.specs.declared.fault.MergeFault.TheVariants.{Memory, TooLarge, Deep as TooDeep}
use Rattle.enc_chain.specs.Goes.{AllGo}
use Rattle.enc_emit.specs.declared.delta_bytes.DeltaBytes.{DeltaBytes}
use Rattle.enc_c.specs.declared.deltas.Unwritten.TheVariants.{Because}
use Rattle.enc_c.specs.declared.reason.Reason.TheVariants.{Heap, Deep}
use Rattle.enc_c.specs.Deltas.{StandsForLast, unmerged, unmerged_two}
use Rattle.enc_c.specs.State.{State}

-- two deltas are merged, or why they aren't
abbrev pub MergesAs : State → Result DeltaBytes MergeFault → Type 0
MergesAs s (Ok d) = (unmerged s ≡ None) × StandsForLast s d
MergesAs s (Err TooLarge) = unmerged s ≡ Some (Because (Heap Pdb))
MergesAs s (Err (TooDeep t)) = unmerged s ≡ Some (Because (Deep t))
MergesAs s (Err Memory) = Unit {0}

abbrev pub state_of : Source → List Source → Option Source → List DebugDelta → Bool → State
state_of base deltas pdb debugs short = record { followed = record { base = base; deltas = deltas; debug = pdb; debugs = debugs }; short = short }

of_two : (base b a : Source) (older : List Source) (pdb : Option Source) (y x : DebugDelta) (debugs : List DebugDelta) (r : Result DeltaBytes MergeFault)
    → MergesBoth (chain_with base older) a b (pdb_with pdb debugs) (pdb_with pdb (y ∷ x ∷ debugs)) r → MergesAs (state_of base (b ∷ a ∷ older) pdb (y ∷ x ∷ debugs) true) r
unfolding unmerged unmerged_two
of_two base b a older pdb y x debugs (Ok d) m = (rw (m.1, m.2) refl, m.0)
of_two base b a older pdb y x debugs (Err TooLarge) m = rw m refl
of_two base b a older pdb y x debugs (Err (TooDeep t)) m = rw (m.0, m.1) refl
of_two base b a older pdb y x debugs (Err Memory) m = tt

pub merged_so : (base : Source) (deltas : List Source) (pdb : Option Source) (debugs : List DebugDelta) (short : Bool) (r : Result DeltaBytes MergeFault)
    → short ≡ true → 2 ≤ length deltas → AllGo deltas debugs
    → ((a b : Source) (older : List Source) (x y : DebugDelta) (rest : List DebugDelta) → deltas ≡ b ∷ a ∷ older → debugs ≡ y ∷ x ∷ rest
    → MergesBoth (chain_with base older) a b (pdb_with pdb rest) (pdb_with pdb debugs) r)
    → MergesAs (state_of base deltas pdb debugs short) r
unfolding AllGo
merged_so base deltas pdb debugs false r is two go merges = absurd cc
merged_so base [] pdb debugs true r is two go merges = absurd (omega (arith, two))
merged_so base (b ∷ []) pdb debugs true r is two go merges = absurd (omega (arith, two))
merged_so base (b ∷ a ∷ older) pdb [] true r is two go merges = absurd go
merged_so base (b ∷ a ∷ older) pdb (y ∷ []) true r is two go merges = absurd go.1
merged_so base (b ∷ a ∷ older) pdb (y ∷ x ∷ rest) true r is two go merges = of_two base b a older pdb y x rest r (merges a b older x y rest refl refl)

-- of rows and points that are asked of a chain
pub merged_of : (rows found : History) (points told : PdbHistory) (short : Bool) (r : Result DeltaBytes MergeFault)
    → found ≡ rows → told ≡ points → short ≡ true → 2 ≤ length rows.deltas → AllGo rows.deltas points.deltas
    → ((a b : Source) (older : List Source) (x y : DebugDelta) (rest : List DebugDelta) → found.deltas ≡ b ∷ a ∷ older → told.deltas ≡ y ∷ x ∷ rest
    → MergesBoth (chain_with found.base older) a b (pdb_with told.base rest) (pdb_with told.base told.deltas) r)
    → MergesAs (state_of rows.base rows.deltas points.base points.deltas short) r
merged_of rows found points told short r same alike is two go merges = merged_so rows.base rows.deltas points.base points.deltas short r is two go (rw (same, alike) at merges)
