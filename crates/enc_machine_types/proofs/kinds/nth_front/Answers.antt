use Rattle.std.proofs.Common.{◌-◌, arith}
use Rattle.enc_machine_types.specs.Fronts.{kind_front}
use Rattle.enc_machine_types.proofs.KindsNth.{nth_past, none_before, none_at, none_behind, nth_read}
use Rattle.enc_machine_types.proofs.kinds.nth_front.Goals as goal

pub returns-then-n-count : goal.returns-then-n-count
returns-then-n-count c = nth_past kind_front c.args.count c.args.n c.args.bytes.now (omega arith)

pub returns-in_default : goal.returns-in_default
returns-in_default c = none_before kind_front c.args.count c.args.n (c.args.count - c.args.n - 1) c.args.bytes.now (omega arith) c.in_default.ensures

pub returns-in_default-kind_front : goal.returns-in_default-kind_front
returns-in_default-kind_front c = none_at kind_front c.args.count c.args.n (c.args.count - c.args.n - 1) c.args.bytes.now _ (omega arith) c.in-Some.ensures c.in_default-kind_front.ensures

pub returns-in_default-past_kinds : goal.returns-in_default-past_kinds
returns-in_default-past_kinds c = none_behind kind_front c.args.count c.args.n (c.args.count - c.args.n - 1) c.args.bytes.now _ _ _ (omega arith) c.in-Some.ensures c.in-Some-kind_front.ensures c.in_default-past_kinds.ensures

pub returns : goal.returns
returns c = nth_read kind_front c.args.count c.args.n (c.args.count - c.args.n - 1) c.args.bytes.now _ _ _ _ (omega arith) c.in-Some.ensures c.in-Some-kind_front.ensures c.in-Some-past_kinds.ensures
