use Rattle.std.proofs.Common.{◌≡◌, ◌||◌, ℕ, ◌+◌, ◌<◌, ◌≤◌, length, drop}
use Rattle.std.specs.List.{list_any}
use Rattle.enc_pe.specs.Reach.{covers, corner_at, BeginBy}
use Rattle.enc_pe.proofs.reach.joined.Given as goal

abbrev pub invariant-loop-k : goal.invariant-loop-k
invariant-loop-k l = record {
  count : l.i + l.j ≡ l.k;
  left : l.i ≤ length l.xs;
  right : l.j ≤ length l.ys;
  left_next : l.i < length l.xs → BeginBy l.out (corner_at l.xs l.i).start;
  right_next : l.j < length l.ys → BeginBy l.out (corner_at l.ys l.j).start;
  any : (f b : ℕ) → (list_any (covers f b) l.out || (list_any (covers f b) (drop l.i l.xs) || list_any (covers f b) (drop l.j l.ys))) ≡ (list_any (covers f b) l.xs || list_any (covers f b) l.ys);
}
