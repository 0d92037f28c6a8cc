use Rattle.std.proofs.Common.{◌≡◌, length, map, refl, ap, arith}
use Rattle.enc_rows.specs.Written.{count_at}
use Rattle.enc_base.specs.Tables as tables
use Rattle.enc_pdb_writer.specs.Holding.{map_cells}
use Rattle.enc_pdb_writer.proofs.DeltaHeld.{documents_same, delta_held, delta_fits}
use Rattle.enc_pdb_writer.proofs.methods.named_parts.Goals as goal

pub name_methods-requires-clause-none : goal.name_methods-requires-clause-none
name_methods-requires-clause-none g c = c.in-Ok.ensures.held.others tables.enc_map refl refl

pub returns-clause-held : goal.returns-clause-held
returns-clause-held g c =
    delta_held (g.P.PointSource.debug c.args.source.now) c.args.rows.now c.in-Ok.parts.heaps c.in-Ok.parts.tables c.name_methods.new.tables c.in-Ok.ensures.held c.in_ok-name_methods.ensures

pub returns-clause-fit : goal.returns-clause-fit
returns-clause-fit g c =
    delta_fits (g.P.PointSource.debug c.args.source.now) c.args.rows.now c.in-Ok.parts.heaps c.in-Ok.parts.tables c.name_methods.new.tables c.in-Ok.ensures.held c.in_ok-name_methods.ensures c.requires.short
    c.in-Ok.ensures.fit

pub returns-clause-documents : goal.returns-clause-documents
returns-clause-documents g c =
    let old = c.in-Ok.parts.tables in
    let new = c.name_methods.new.tables in
    let same : count_at new 0x30 ≡ count_at old 0x30 = ap length (documents_same old new (map map_cells c.args.rows.now) c.in_ok-name_methods.ensures) in
    omega (arith, same, c.in-Ok.ensures.documents)
