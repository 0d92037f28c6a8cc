use Rattle.std.proofs.Common.{ap, ◌∙◌, ◌++◌, take_all, length, ◌≤◌, arith}
use Rattle.enc_key_map.specs.Index.{value_at}
use Rattle.enc_dispatch.specs.Entries.{where_none}
use Rattle.enc_dispatch.specs.Growth.{later_kids}
use Rattle.enc_dispatch.specs.Own.{own_among}
use Rattle.enc_dispatch.specs.Stored.{own_key}
use Rattle.enc_dispatch.proofs.Owns.{in_listed, listed_all}
use Rattle.enc_dispatch.proofs.own.own_of.Goals as goal

pub returns : goal.returns
returns g c = λ class s.
    let m = g.V.ModuleView.meaning c.args.view.now in
    let methods = c.args.methods.now.first.now ++ c.args.methods.now.more.now in
    let there = value_at c.args.index.now (own_key class s) in
    let low : length c.args.owners.now ≤ c.loop-i.i = omega (arith, c.loop-i-test.false) in
    c.loop-i.invariant class s
    ∙ ap (λ xs. where_none there (in_listed xs class (own_among m methods c.args.wanted s (later_kids m c.args.read class)))) (take_all c.loop-i.i c.args.owners.now low)
    ∙ ap (where_none there) (listed_all m methods c.args.wanted c.args.read class s c.args.owners.now c.requires)
