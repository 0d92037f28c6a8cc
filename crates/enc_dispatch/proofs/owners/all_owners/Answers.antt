use Rattle.std.proofs.Common.{◌≡◌, ◌+◌, ◌<◌, ℕ, List, length, get_or, subst, ◌∙◌, arith}
use Rattle.std.specs.Prelude.{◌==◌, if◌then◌else◌}
use Rattle.std.specs.List.{list_any}
use Rattle.enc_plain.specs.Module.{kids_of}
use Rattle.enc_plain.specs.Sound.{row_count}
use Rattle.enc_base.specs.Tables.{method_def, type_def}
use Rattle.enc_dispatch.specs.Stored.{class_at}
use Rattle.enc_dispatch.proofs.Kept.{kids_there}
use Rattle.enc_dispatch.proofs.Later.{all_later}
use Rattle.enc_dispatch.proofs.OwnerClasses.{IsPut, class_there, class_put, all_put, kids_low}
use Rattle.enc_dispatch.proofs.owners.all_owners.Goals as goal

pub later_kids-requires : goal.later_kids-requires
later_kids-requires g c = class_there (g.V.ModuleView.meaning c.args.view.now) c.loop-n.n (omega (arith, c.loop-n-test.true, c.count-n-end.ensures.count))

pub put_class-requires : goal.put_class-requires
put_class-requires g c = λ i low.
    let m = g.V.ModuleView.meaning c.args.view.now in
    let are = c.deref.ensures.value ∙ c.in_ok-kids.ensures ∙ all_later m (kids_of m (class_at (c.loop-n.n + 1)) method_def) (kids_there m (class_at (c.loop-n.n + 1)) c.requires) in
    kids_low m (c.loop-n.n + 1) (length c.loop-n.owners.items) i c.deref.result.now c.requires are c.loop-n.invariant.len low

pub loop-n-preserved : goal.loop-n-preserved
loop-n-preserved g c =
    let m = g.V.ModuleView.meaning c.args.view.now in
    let owners = c.loop-n.owners.items in
    let new = c.put_class.new.owners.items in
    let are = c.deref.ensures.value ∙ c.in_ok-kids.ensures ∙ all_later m (kids_of m (class_at (c.loop-n.n + 1)) method_def) (kids_there m (class_at (c.loop-n.n + 1)) c.requires) in
    let each = subst (λ (xs : List ℕ). (k : ℕ) → k < length owners → get_or new k 0 ≡ (if list_any (λ (j : ℕ). j == k + 1) xs then c.loop-n.n + 1 else get_or owners k 0)) are c.put_class.ensures.each in
    record {
      len = c.put_class.ensures.len ∙ c.loop-n.invariant.len;
      put = class_put m c.loop-n.n owners new c.requires c.loop-n.invariant.len c.loop-n.invariant.put each;
    }

pub returns-clause-owners : goal.returns-clause-owners
returns-clause-owners g c =
    let m = g.V.ModuleView.meaning c.args.view.now in
    let all : c.loop-n.n ≡ row_count m type_def = omega (arith, c.loop-n-test.false, c.loop-n.auto.n-end, c.count-n-end.ensures.count) in
    all_put m c.loop-n.owners.items c.requires c.loop-n.invariant.len (subst (λ n. IsPut m n c.loop-n.owners.items) all c.loop-n.invariant.put)
