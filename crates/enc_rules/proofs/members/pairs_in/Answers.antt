use Rattle.std.proofs.Common.{◌≤◌, List, length, map, sym, ap, subst, ◌∙◌, arith}
use Rattle.std.specs.Prelude.{◌==◌, filter}
use Rattle.std.proofs.lemmas.List.{take_all}
use Rattle.enc_delta.specs.declared.pairs.Pair.{Pair}
use Rattle.enc_delta.specs.Members.{ArePairs, pair_seen}
use Rattle.enc_rules.proofs.TwinsByTable.{seen_in_table, fit_in_table}
use Rattle.enc_rules.proofs.members.pairs_in.Goals as goal

pub returns-clause-pairs : goal.returns-clause-pairs
returns-clause-pairs c =
    let past : length c.args.pairs.now ≤ c.loop-k.k = omega arith in
    ap (map pair_seen) (c.loop-k.invariant ∙ ap (filter (λ (p : Pair). p.child.table == c.args.table)) (take_all c.loop-k.k c.args.pairs.now past)) ∙ seen_in_table c.args.table c.args.pairs.now

pub returns-clause-rows : goal.returns-clause-rows
returns-clause-rows c =
    let past : length c.args.pairs.now ≤ c.loop-k.k = omega arith in
    let e = c.loop-k.invariant ∙ ap (filter (λ (p : Pair). p.child.table == c.args.table)) (take_all c.loop-k.k c.args.pairs.now past) in
    subst (λ (l : List Pair). ArePairs l) (sym e) (fit_in_table c.args.table c.args.pairs.now c.requires)
