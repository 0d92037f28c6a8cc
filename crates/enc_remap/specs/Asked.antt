-- Whether a frame that a host has of its own could go on in the newest body of its method.
use Rattle.std.specs.Prelude.{ℕ, List, Option, option_map}
use Rattle.enc_base.specs.declared.token.Token.{Token}
use Rattle.enc_frames.specs.Machine.{PlainCode, code_meant}
use Rattle.enc_opcodes.specs.Body.{code_seen}
use Rattle.enc_plain.specs.Debug.{PlainPdb}
use Rattle.enc_plain.specs.Module.{Module}
use Rattle.enc_remap.specs.Remap.{Move, first_broken, move_rules, newest_code}
use Rattle.enc_remap.specs.declared.asked.Standing.{Standing}
use Rattle.enc_remap.specs.declared.asked.Stored.{Stored}
use Rattle.enc_versions.specs.Version.{Version}

-- the move of a frame that stands in a body to the newest one
abbrev pub move_from : Module → Option PlainCode → Standing → List (ℕ × ℕ) → PlainCode → Move
move_from m newest at pairs code =
    record { plain = m; method = at.method; code = code; newest = newest; from = at.offset; pairs = pairs }

-- for a frame that has the body that its method has in an earlier module: the number of the first of Q3 to Q7 that
-- is broken, none where it may go on; nothing
-- where its method has no body there
unfoldable pub may_remap : Module → PlainPdb → Module → PlainPdb → Standing → List (ℕ × ℕ) → Option (Option ℕ)
may_remap old old_debug m debug at pairs =
    option_map (λ (code : PlainCode). first_broken
    (move_rules (move_from m (newest_code m debug at.method) at pairs code))) (newest_code old old_debug at.method)

-- for the contracts of private functions: a body and its points as they are stored
abbrev pub version_seen : Stored → Version
version_seen s = record { code = code_seen s.code; points = s.points }

-- and what is broken, by two that are stored, each with its user texts
abbrev pub broken_of : (ℕ → Option (List ℕ)) → (ℕ → Option (List ℕ)) → Module → Standing → List (ℕ × ℕ) → Stored
    → Option Stored → Option ℕ
broken_of texts users m at pairs old newest =
    first_broken (move_rules (move_from m (option_map (λ (s : Stored). code_meant users (version_seen s)) newest) at
    pairs (code_meant texts (version_seen old))))
