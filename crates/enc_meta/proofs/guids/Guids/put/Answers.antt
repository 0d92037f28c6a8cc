use Rattle.std.proofs.Common.{refl, ◌∙◌, arith}
use Rattle.std.proofs.lemmas.Bool.Decides.{nat_tests}
use Rattle.enc_meta.proofs.Entries.{with_new_entry, inserted_last, number_new, passes_entry}
use Rattle.enc_meta.proofs.guids.Guids.put.Goals as goal

pub returns-then-number-gt-LIMIT-clause-refused : goal.returns-then-number-gt-LIMIT-clause-refused
returns-then-number-gt-LIMIT-clause-refused c =
    let new = rw (← c.self.view_is) at c.requires in
    rw (← c.self.view_is) (refl, rw (passes_entry c.self.inside.start c.self.inside.entries.keys c.args.guid new) (grind (arith, nat_tests, c.from.ensures, c.len.ensures.len, c.if-number-gt-LIMIT.true)))

pub returns-clause-refused : goal.returns-clause-refused
returns-clause-refused c =
    let new = rw (← c.self.view_is) at c.requires in
    rw (← c.self.view_is, passes_entry c.self.inside.start c.self.inside.entries.keys c.args.guid new) (grind (arith, nat_tests, c.from.ensures, c.len.ensures.len, c.if-number-gt-LIMIT.false))

pub returns-clause-number : goal.returns-clause-number
returns-clause-number c =
    let new = rw (← c.self.view_is) at c.requires in
    rw (← c.self.view_is, number_new c.self.inside.start c.self.inside.entries.keys c.args.guid new) (omega (arith, c.from.ensures, c.len.ensures.len))

pub returns-clause-guids : goal.returns-clause-guids
returns-clause-guids c =
    let new = rw (← c.self.view_is) at c.requires in
    let last = c.in_ok-insert.ensures.keys ∙ inserted_last c.self.inside.entries.keys c.args.guid new in
    rw (← c.self.view_is, with_new_entry c.self.inside.entries.keys c.args.guid new, last) refl
