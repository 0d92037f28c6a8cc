use Rattle.std.proofs.Common.{◌≡◌, ◌+◌, ◌-◌, ◌/◌, ◌<◌, ◌≤◌, arith}
use Rattle.enc_base.specs.Token.{number_of}
use Rattle.enc_rows.specs.Layout.{rows_of}
use Rattle.enc_delta.specs.Delta.{map_token, delta_source}
use Rattle.enc_delta.proofs.Halves.{cut_at, cut_is, front_less, back_rest}
use Rattle.enc_delta.proofs.starts.lesser_in.Goals as goal

pub loop-low-init : goal.loop-low-init
loop-low-init c =
    let s = delta_source c.args.bytes.now c.args.il.now c.args.opened.now.root c.args.opened.now.tables in
    let cut = cut_at s c.args.number c.requires.rising in
    record {
      order = omega (arith, c.requires.range.behind, c.requires.range.before);
      within = omega arith;
      less = λ i a. cut.less i (omega (arith, c.requires.range.behind));
      rest = λ i a b. cut.rest i (omega (arith, c.requires.range.before)) b;
    }

pub number_at-requires-clause-there : goal.number_at-requires-clause-there
number_at-requires-clause-there c = omega (arith, c.loop-low.invariant.within, c.requires.range.within)

pub number_at-requires-clause-few : goal.number_at-requires-clause-few
number_at-requires-clause-few c = omega (arith, c.loop-low.invariant.within, c.requires.range.few)

pub loop-low-preserved-then-number_at-number : goal.loop-low-preserved-then-number_at-number
loop-low-preserved-then-number_at-number c =
    let s = delta_source c.args.bytes.now c.args.il.now c.args.opened.now.root c.args.opened.now.tables in
    let middle = c.loop-low.low + (c.loop-low.high - c.loop-low.low) / 2 in
    let there : middle < rows_of s.layout 0x1F = omega (arith, c.loop-low.invariant.within, c.requires.range.within) in
    let less : number_of (map_token s middle) < c.args.number = rw c.number_at.ensures.number at c.if-number_at-number.true in
    record {
      order = omega arith;
      within = c.loop-low.invariant.within;
      less = front_less (map_token s) _ c.args.number middle c.requires.rising there less;
      rest = c.loop-low.invariant.rest;
    }

pub loop-low-preserved : goal.loop-low-preserved
loop-low-preserved c =
    let s = delta_source c.args.bytes.now c.args.il.now c.args.opened.now.root c.args.opened.now.tables in
    let middle = c.loop-low.low + (c.loop-low.high - c.loop-low.low) / 2 in
    let more : c.args.number ≤ number_of (map_token s middle) = rw c.number_at.ensures.number at c.if-number_at-number.false in
    record {
      order = omega arith;
      within = omega (arith, c.loop-low.invariant.within);
      less = c.loop-low.invariant.less;
      rest = back_rest (map_token s) _ c.args.number middle c.requires.rising more;
    }

pub returns : goal.returns
returns c =
    let s = delta_source c.args.bytes.now c.args.il.now c.args.opened.now.root c.args.opened.now.tables in
    let met : c.loop-low.low ≡ c.loop-low.high = omega (arith, c.loop-low.invariant.order) in
    cut_is s c.args.number c.loop-low.low c.requires.rising (record {
      within = omega (arith, c.loop-low.invariant.within, c.requires.range.within);
      less = c.loop-low.invariant.less;
      rest = λ i a b. c.loop-low.invariant.rest i (omega arith) b;
    })
