-- Placed frames stay so by another module and another PDB, and what placed frames mean is placed.
use Rattle.std.proofs.Common.{ℕ, List, [], ◌∷◌, map, Option}
use Rattle.enc_plain.specs.Debug.{PlainPdb}
use Rattle.enc_plain.specs.Module.{Module}
use Rattle.enc_versions.specs.Version.{Version}
use Rattle.enc_vm.specs.Laws.{PlainPlacesAreKept, PlacesAreMeant}
use Rattle.enc_frames.specs.Machine.{PlainCode, Frame, going, ended, trapped, frame_meant, plain_world, version_world}
use Rattle.enc_vm.specs.Placed.{IsFramePlaced, AreFramesPlaced}

frame_kept : (m n : Module) (debug other : PlainPdb) (f : Frame PlainCode) → IsFramePlaced (plain_world m debug) f → IsFramePlaced (plain_world n other) f
unfolding plain_world
frame_kept m n debug other f p = record { sound = p.sound; at = p.at; leaves = p.leaves }

frames_kept : (m n : Module) (debug other : PlainPdb) (frames : List (Frame PlainCode))
    → AreFramesPlaced (plain_world m debug) frames → AreFramesPlaced (plain_world n other) frames
frames_kept m n debug other [] p = tt
frames_kept m n debug other (f ∷ frames) p = (frame_kept m n debug other f p.0, frames_kept m n debug other frames p.1)

pub plain_kept : PlainPlacesAreKept
plain_kept m n debug other (going t) p = (frame_kept m n debug other t.top p.0, frames_kept m n debug other t.below p.1)
plain_kept m n debug other ended p = tt
plain_kept m n debug other (trapped x frames) p = frames_kept m n debug other frames p

frame_placed : (users : ℕ → Option (List ℕ)) (m : Module) (debug : PlainPdb) (methods : List (Option Version)) (f : Frame Version)
    → IsFramePlaced (version_world users m methods) f → IsFramePlaced (plain_world m debug) (frame_meant users f)
unfolding plain_world version_world
frame_placed users m debug methods f p = record { sound = p.sound; at = p.at; leaves = p.leaves }

frames_placed : (users : ℕ → Option (List ℕ)) (m : Module) (debug : PlainPdb) (methods : List (Option Version)) (frames : List (Frame Version))
    → AreFramesPlaced (version_world users m methods) frames → AreFramesPlaced (plain_world m debug) (map (frame_meant users) frames)
frames_placed users m debug methods [] p = tt
frames_placed users m debug methods (f ∷ frames) p = (frame_placed users m debug methods f p.0, frames_placed users m debug methods frames p.1)

pub meant_placed : PlacesAreMeant
meant_placed users m debug methods (going t) p = (frame_placed users m debug methods t.top p.0, frames_placed users m debug methods t.below p.1)
meant_placed users m debug methods ended p = tt
meant_placed users m debug methods (trapped x frames) p = frames_placed users m debug methods frames p
