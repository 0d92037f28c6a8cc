use Rattle.std.proofs.Common.{◌≡◌, ◌∙◌, ap, subst}
use Rattle.enc_meta.specs.Built.{Built}
use Rattle.enc_meta.specs.BuiltLaws.{IsGood}
use Rattle.enc_emit.specs.Written.{Parts, root_built}
use Rattle.enc_emit.specs.declared.root_form.RootForm.TheVariants.{Delta}
use Rattle.enc_list_delta.specs.Holds.{heaps_written}
use Rattle.enc_list_delta.specs.Laws.{metadata_written}
use Rattle.enc_writer.proofs.DeltaHeld.{delta_held, indices_fit, rows_are_few}
use Rattle.enc_writer.proofs.RootSize.{root_fits}
use Rattle.enc_writer.proofs.tables.metadata_of.Goals as goal

pub finish-requires-clause-fit : goal.finish-requires-clause-fit
finish-requires-clause-fit g c =
    let j = c.args.context.now in
    rw c.of-root.ensures (indices_fit j.chain j.list c.args.bodies.now.il.items c.in_ok-tables.tables c.laws-2.ensures c.in_ok-tables.ensures.written)

pub finish-requires-clause-size : goal.finish-requires-clause-size
finish-requires-clause-size g c =
    let j = c.args.context.now in
    let same : c.tables_of.new.heaps ≡ heaps_written j.chain j.list = c.in_ok-tables.ensures.same ∙ c.requires.heaps in
    let good : IsGood (heaps_written j.chain j.list) = subst (λ (h : Built). IsGood h) same c.laws.ensures.good in
    let size = root_fits j.chain j.list c.in_ok-tables.tables c.requires.may good (rows_are_few j.chain j.list c.args.bodies.now.il.items c.in_ok-tables.tables c.requires.may c.laws-2.ensures c.in_ok-tables.ensures.written) in
    rw (c.of-root.ensures, same) size

pub returns : goal.returns
unfolding metadata_written
returns g c =
    let j = c.args.context.now in
    let same : c.tables_of.new.heaps ≡ heaps_written j.chain j.list = c.in_ok-tables.ensures.same ∙ c.requires.heaps in
    let good : IsGood (heaps_written j.chain j.list) = subst (λ (h : Built). IsGood h) same c.laws.ensures.good in
    let fit = indices_fit j.chain j.list c.args.bodies.now.il.items c.in_ok-tables.tables c.laws-2.ensures c.in_ok-tables.ensures.written in
    record {
      rows = c.in_ok-tables.tables;
      held = delta_held j.chain j.list c.args.bodies.now.il.items c.in_ok-tables.tables c.requires.may good c.laws-2.ensures fit c.in_ok-tables.ensures.written;
      size = root_fits j.chain j.list c.in_ok-tables.tables c.requires.may good (rows_are_few j.chain j.list c.args.bodies.now.il.items c.in_ok-tables.tables c.requires.may c.laws-2.ensures c.in_ok-tables.ensures.written);
      root = c.in_ok-bytes.ensures ∙ ap (λ (p : Parts). root_built p Delta) (c.of-root.ensures ∙ ap (λ (h : Built). record { heaps = h; rows = c.in_ok-tables.tables }) same);
    }
