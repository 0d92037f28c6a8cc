use Rattle.std.proofs.Common.{refl}
use Rattle.enc_sigs.specs.Grammar.{type_in, is_coded}
use Rattle.enc_sigs.proofs.TypeFronts.{none_of_few, front_is}
use Rattle.enc_sigs.proofs.judge.type_front.Goals as goal

pub returns-in_default : goal.returns-in_default
unfolding type_in
returns-in_default c = none_of_few is_coded 100 c.args.bytes.now c.in_default.len_below

pub returns : goal.returns
unfolding type_in
returns c = front_is is_coded 100 c.args.bytes.now c.in_ok-rest.rest.now (rw (← c.past_elem.ensures, c.in_ok-rest.was) refl)
