use Rattle.std.proofs.Common.{◌≡◌, ◌≤◌, drop}
use Rattle.std.specs.Prelude.{filter, not}
use Rattle.enc_base.specs.declared.token.Token.{Token}
use Rattle.enc_delta.specs.Delta.{is_module, map_in, place_in, listed}
use Rattle.enc_delta.proofs.Placing.{place_behind}
use Rattle.enc_delta.proofs.delta.Delta.place_by_scan.Given as goal

-- the position behind those so far is the position
abbrev pub invariant-loop-i : goal.invariant-loop-i
invariant-loop-i l = (place_behind l.before (filter (λ (t : Token). not (is_module t)) (drop l.i (map_in l.self))) l.token ≡ place_in (listed l.self) l.token) × (l.before ≤ l.i)
