use Rattle.std.proofs.Common.{◌*◌, ◌+◌, refl, arith}
use Rattle.enc_base.specs.Token.{number_of}
use Rattle.enc_delta.proofs.Halves.{cut_at, cut_by, first_before, place_at}
use Rattle.enc_delta.proofs.Ranges.{cut_there}
use Rattle.enc_delta.proofs.delta.Delta.place_counted.Goals as goal

pub counted_back-requires-clause-within : goal.counted_back-requires-clause-within
counted_back-requires-clause-within c =
    let rising = c.rises.ensures.0 c.if-not-rises.false in
    rw c.range-range.ensures.end ((cut_at c.args.self.now ((c.args.token.table + 1) * 0x1000000) rising).within)

pub counted_back-requires-clause-few : goal.counted_back-requires-clause-few
counted_back-requires-clause-few c =
    let cut = cut_at c.args.self.now ((c.args.token.table + 1) * 0x1000000) (c.rises.ensures.0 c.if-not-rises.false) in
    omega (arith, c.range-range.ensures.end, cut.within, c.range-range.ensures.few)

pub overflow_sub-result : goal.overflow_sub-result
overflow_sub-result c =
    let s = c.args.self.now in
    let first = c.args.token.table * 0x1000000 in
    let rising = c.rises.ensures.0 c.if-not-rises.false in
    first_before s c.args.token (number_of c.args.token) first _ _ refl refl (cut_there s c.args.token c.in-Some.i rising c.in-Some.ensures) (cut_by s first c.range-range.result.start rising c.range-range.ensures.start)

pub returns-in-Some : goal.returns-in-Some
returns-in-Some c =
    let s = c.args.self.now in
    let first = c.args.token.table * 0x1000000 in
    let rising = c.rises.ensures.0 c.if-not-rises.false in
    let at = c.in-Some.ensures in
    place_at s c.args.token (number_of c.args.token) first _ _ (omega arith) refl refl (cut_there s c.args.token c.in-Some.i rising at) (cut_by s first c.range-range.result.start rising c.range-range.ensures.start) at.there at.table at.row
