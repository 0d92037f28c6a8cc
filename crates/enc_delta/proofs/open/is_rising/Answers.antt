use Rattle.std.proofs.Common.{◌≡◌, ℕ, ◌+◌, ◌-◌, refl, sym, ap, arith}
use Rattle.enc_base.specs.Token.{number_of}
use Rattle.enc_delta.specs.Delta.{map_token, delta_source}
use Rattle.enc_delta.proofs.Halves.{rise_more, falls_back}
use Rattle.enc_delta.proofs.open.is_rising.Goals as goal

pub loop-i-init : goal.loop-i-init
loop-i-init c = record {
  under = λ k h. absurd (omega arith);
  rising = λ j k a b. absurd (omega arith);
  none = λ h. refl;
  last = λ h. absurd (omega arith);
}

pub loop-i-preserved : goal.loop-i-preserved
loop-i-preserved c =
    let number = λ (k : ℕ). number_of (map_token (delta_source c.args.bytes.now c.args.il.now c.args.opened.now.root c.args.opened.now.tables) k) in
    let read : number c.loop-i.i ≡ c.number_at-n.result = sym c.number_at-n.ensures.number in
    let more = rise_more number c.loop-i.i c.loop-i.least c.number_at-n.result c.loop-i.invariant.under c.loop-i.invariant.rising read c.if-n-least.false in
    let i_is : c.loop-i.i + 1 - 1 ≡ c.loop-i.i = omega arith in
    record {
      under = more.0;
      rising = more.1;
      none = λ h. absurd (omega arith);
      last = λ h. rw i_is (ap (λ n. n + 1) (sym read));
    }

pub returns-then-n-least : goal.returns-then-n-least
returns-then-n-least c =
    let number = λ (k : ℕ). number_of (map_token (delta_source c.args.bytes.now c.args.il.now c.args.opened.now.root c.args.opened.now.tables) k) in
    let read : number c.loop-i.i ≡ c.number_at-n.result = sym c.number_at-n.ensures.number in
    (λ h. absurd cc, λ up. absurd (falls_back number c.loop-i.i c.loop-i.least c.number_at-n.result c.loop-i.invariant.none c.loop-i.invariant.last read c.if-n-least.true (λ j a. up j c.loop-i.i a (omega (arith, c.count-i-end.ensures.count)))))

pub returns : goal.returns
returns c = (λ h j k a b. c.loop-i.invariant.rising j k a (omega arith), λ up. refl)
