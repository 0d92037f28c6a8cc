use Rattle.std.proofs.Common.{◌*◌, sym, arith}
use Rattle.enc_objects.proofs.Overflow.{past_all_bits}
use Rattle.enc_objects.proofs.arithmetic.product_without_sign.Goals as goal

pub returns-in-None : goal.returns-in-None
returns-in-None c = sym (past_all_bits c.args.size (c.args.x * c.args.y) (omega (arith, c.in-None.ensures)))
