-- The plain PDB of a file that isn't refused is sound.
use Rattle.std.proofs.Common.{◌≡◌, ℕ, List, [], Option, None, refl, sym, subst, arith}
use Rattle.enc_base.specs.declared.token.Token.{Token}
use Rattle.enc_plain.specs.Debug.{unknown, debug_of}
use Rattle.enc_plain.specs.SoundDebug.{IsSoundDebug, IsSoundPdb, KnowsWithin, can_be_spelled, have_documents}
use Rattle.enc_rows.specs.Source.{Source}
use Rattle.enc_ppdb.specs.PdbChain.{DebugDelta, pdb_begun, pdb_with, debug_at, documents_at, points_at}
use Rattle.enc_seqpoints.proofs.PointsSpelled.{none_spelled}

unknown_sound : IsSoundDebug unknown
unfolding can_be_spelled have_documents
unknown_sound = record { locals = omega arith; spelled = none_spelled 0 0; documents = refl }

-- where there is no file nothing is known
pub nothing_known : (method : Token) → pdb_with None [] method ≡ unknown
unfolding pdb_with pdb_begun debug_at debug_of points_at documents_at
nothing_known method = refl

pub nothing_sound : IsSoundPdb (pdb_with None [])
nothing_sound = record { each = λ method. subst IsSoundDebug (sym (nothing_known method)) unknown_sound }

pub nothing_within : (methods : ℕ) → KnowsWithin (pdb_with None []) methods
nothing_within methods = record { each = λ token other. nothing_known token }

pub begun_sound : (base : Option Source) (deltas : List DebugDelta) → base ≡ None → deltas ≡ [] → IsSoundPdb (pdb_with base deltas)
begun_sound base deltas b d = rw (b, d) nothing_sound

pub begun_within : (base : Option Source) (deltas : List DebugDelta) (methods : ℕ) → base ≡ None → deltas ≡ [] → KnowsWithin (pdb_with base deltas) methods
begun_within base deltas methods b d = rw (b, d) (nothing_within methods)
