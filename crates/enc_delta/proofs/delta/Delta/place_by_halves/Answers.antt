use Rattle.std.proofs.Common.{◌*◌, ◌<◌, inl, inr, refl, arith}
use Rattle.enc_rows.specs.Layout.{rows_of}
use Rattle.enc_delta.proofs.Halves.{cut_by, first_before, place_at, place_absent}
use Rattle.enc_delta.proofs.delta.Delta.place_by_halves.Goals as goal

pub below-i-requires-clause-range : goal.below-i-requires-clause-range
below-i-requires-clause-range c = rw c.number_of.ensures c.requires.range

pub returns-then-i-map_len : goal.returns-then-i-map_len
returns-then-i-map_len c =
    place_absent c.args.self.now c.args.token c.number_of.result c.below-i.result c.requires.rising c.number_of.ensures (cut_by c.args.self.now c.number_of.result c.below-i.result c.requires.rising c.below-i.ensures) (λ a b d. absurd (omega (arith, c.map_len.ensures.count)))

pub returns-then-there-token : goal.returns-then-there-token
returns-then-there-token c =
    place_absent c.args.self.now c.args.token c.number_of.result c.below-i.result c.requires.rising c.number_of.ensures (cut_by c.args.self.now c.number_of.result c.below-i.result c.requires.rising c.below-i.ensures) (λ a table row. elim c.then-there-token.either [
      | inl apart ↦ apart (rw c.token-there.ensures.at table)
      | inr apart ↦ apart.1 (rw c.token-there.ensures.at row)
    ])

pub overflow_sub-result : goal.overflow_sub-result
overflow_sub-result c =
    let first = c.args.token.table * 0x1000000 in
    first_before c.args.self.now c.args.token c.number_of.result first _ _ c.number_of.ensures refl (cut_by c.args.self.now c.number_of.result c.below-i.result c.requires.rising c.below-i.ensures) (cut_by c.args.self.now first c.args.range.start c.requires.rising c.requires.start)

pub returns : goal.returns
returns c =
    let first = c.args.token.table * 0x1000000 in
    let there : c.below-i.result < rows_of c.args.self.now.layout 0x1F = omega (arith, c.map_len.ensures.count) in
    place_at c.args.self.now c.args.token c.number_of.result first _ _ c.requires.table c.number_of.ensures refl (cut_by c.args.self.now c.number_of.result c.below-i.result c.requires.rising c.below-i.ensures) (cut_by c.args.self.now first c.args.range.start c.requires.rising c.requires.start) there (rw c.token-there.ensures.at at c.if-there-token.false) (rw c.token-there.ensures.at at c.if-there-token-2.false)
