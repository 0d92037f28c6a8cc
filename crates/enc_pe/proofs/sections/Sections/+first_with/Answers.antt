use Rattle.std.proofs.Common.{ap, ◌∙◌}
use Rattle.std.specs.Prelude.{find}
use Rattle.std.specs.List.{list_any}
use Rattle.enc_pe.specs.Sections.{holds}
use Rattle.enc_pe.proofs.SectionsFound.{at_fork, found_left, found_here, found_right}
use Rattle.enc_pe.proofs.sections.Sections.+first_with.Goals as goal

pub returns-then-reaches : goal.returns-then-reaches
returns-then-reaches t c = found_left (holds c.args.rva c.args.len) _ _ _ _ _ _ (at_fork c.self.view_is c.in-Fork.is) (c.reaches.ensures ∙ ap (list_any (holds c.args.rva c.args.len)) c.deref-in-Fork.ensures) c.if-reaches.true (c.first_with.ensures ∙ ap (find (holds c.args.rva c.args.len)) c.deref-then-reaches.ensures)

pub returns-then-holds : goal.returns-then-holds
returns-then-holds t c = found_here (holds c.args.rva c.args.len) _ _ _ _ _ _ (at_fork c.self.view_is c.in-Fork.is) (c.reaches.ensures ∙ ap (list_any (holds c.args.rva c.args.len)) c.deref-in-Fork.ensures) c.if-reaches.false c.holds.ensures c.if-holds.true

pub returns-else-holds : goal.returns-else-holds
returns-else-holds t c = found_right (holds c.args.rva c.args.len) _ _ _ _ _ _ _ (at_fork c.self.view_is c.in-Fork.is) (c.reaches.ensures ∙ ap (list_any (holds c.args.rva c.args.len)) c.deref-in-Fork.ensures) c.if-reaches.false c.holds.ensures c.if-holds.false (c.first_with-in-Fork.ensures ∙ ap (find (holds c.args.rva c.args.len)) c.deref-in-Fork-2.ensures)
