use Rattle.std.proofs.Common.{ℕ, ◌+◌, ◌≤◌, List, length, subst, arith}
use Rattle.std.proofs.lemmas.Fmt.{length_signed_le}
use Rattle.enc_frames.proofs.Signs.{digits_are}
use Rattle.enc_session.proofs.room.number_law.Goals as goal

pub returns : goal.returns
returns c =
    let short = length_signed_le 10 c.args._number (omega (arith, c.ranges._number.sfits)) (omega (arith, c.ranges._number.sfits)) in
    subst (λ (digits : List ℕ). length digits + 1 ≤ 12) (digits_are c.args._number) (omega (arith, short))
