use Rattle.std.proofs.Common.{◌≡◌, map, string_bytes}
use Rattle.std.specs.List.{list_all}
use Rattle.std.specs.Map.{keys_of}
use Rattle.enc_jobs.specs.Json.{is_one_of}
use Rattle.enc_jobs.proofs.value.are_among.Given as goal

-- the keys that are left decide
abbrev pub invariant-loop-key : goal.invariant-loop-key
invariant-loop-key l = list_all (is_one_of (map (λ s. s.now) l.names)) (map string_bytes l.key-iterator) ≡ list_all (is_one_of (map (λ s. s.now) l.names)) (map string_bytes (keys_of l.members.entries))
