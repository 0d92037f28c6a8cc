use Rattle.std.proofs.Common.{◌≡◌, Ok, rules}
use Rattle.enc_meta.specs.Root.{root_of, root_in, root_or_fault}
use Rattle.enc_meta.proofs.Within.{are_within}
use Rattle.enc_meta.proofs.root.read_root.Goals as goal

pub returns-in-None-clause-within : goal.returns-in-None-clause-within
unfolding root_of root_in root_or_fault
returns-in-None-clause-within c =
    let e : root_of c.args.bytes.now ≡ Ok c.root_with.result = search rules in
    are_within _ _ e
