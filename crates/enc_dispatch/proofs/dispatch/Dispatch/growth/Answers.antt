use Rattle.std.proofs.Common.{ap, ◌∙◌, ◌++◌}
use Rattle.enc_key_map.specs.Index.{value_at, either, latest}
use Rattle.enc_plain.specs.Module.{cells_of}
use Rattle.enc_dispatch.specs.Buckets.{bucket_key, stored_head, head_over}
use Rattle.enc_dispatch.specs.Entries.{where_none}
use Rattle.enc_dispatch.specs.Growth.{later_kids}
use Rattle.enc_dispatch.specs.Own.{own_among}
use Rattle.enc_dispatch.specs.Stored.{own_key}
use Rattle.enc_dispatch.specs.declared.wanted.Wanted.TheVariants.{Virtual, Public}
use Rattle.enc_dispatch.proofs.Found.{heads_same}
use Rattle.enc_dispatch.proofs.dispatch.Dispatch.growth.Goals as goal

pub methods_of-requires-clause-buckets : goal.methods_of-requires-clause-buckets
methods_of-requires-clause-buckets g c =
    let heads = c.self.inside.slots.heads in
    let stands = rw (← c.self.view_is) at c.requires.stands in
    heads_same (cells_of (g.V.ModuleView.meaning c.args.view.now)) (stored_head heads) (head_over heads c.new-slots.result.heads) c.self.inside.slots.next.items
    (λ key. ap (λ o. either o (stored_head heads key)) (c.new-slots.ensures.none (bucket_key key))) stands.buckets

pub returns : goal.returns
returns g c =
    let m = g.V.ModuleView.meaning c.args.view.now in
    let d = c.self.inside in
    let methods = ap (λ xs. xs ++ c.deref-4.result.now) c.deref-3.ensures.value ∙ ap (λ xs. d.methods.items ++ xs) c.deref-4.ensures.value in
    rw (← c.self.view_is)
    (record {
      counts = c.requires.read;
      class_count = c.in_ok-classes.ensures.count;
      few = c.in_ok-classes.ensures.few;
      classes = c.in_ok-classes.ensures.classes;
      method_count = c.in_ok-methods.ensures.count;
      methods = c.in_ok-methods.ensures.methods;
      own = λ k s. c.in_ok-own.ensures k s ∙ ap (λ xs. where_none (value_at d.own (own_key k s)) (own_among m xs Virtual s (later_kids m c.args.read.methods k))) methods;
      met = λ k s. c.in_ok-met.ensures k s ∙ ap (λ xs. where_none (value_at d.met (own_key k s)) (own_among m xs Public s (later_kids m c.args.read.methods k))) methods;
      impls = c.in_ok-impls_of.ensures;
      interfaces = c.in_ok-interfaces_of.ensures;
      links = c.in_ok-methods.ensures.links;
      buckets = heads_same (cells_of m) (head_over d.slots.heads c.methods_of.new.slots.heads) (λ key. either (latest c.methods_of.new.slots.entries.items (bucket_key key)) (stored_head d.slots.heads key)) (d.slots.next.items ++ c.methods_of.new.slots.next.items)
          (λ key. ap (λ o. either o (stored_head d.slots.heads key)) (c.in_ok-methods.ensures.entries (bucket_key key))) c.in_ok-methods.ensures.buckets;
      locals_count = c.in_ok-locals_of.ensures.count;
      locals = c.in_ok-locals_of.ensures.locals;
    })
