use Rattle.std.proofs.Common.{sym, ap, ◌∙◌, subst}
use Rattle.enc_plain.specs.Chain.{Chain}
use Rattle.enc_meta.specs.Joined.{joined_text}
use Rattle.enc_merged_delta.specs.Held.{text_moved}
use Rattle.enc_merge.specs.Writing.{AreLast}
use Rattle.enc_merge.proofs.LastTwo.{chain_is}
use Rattle.enc_merge.proofs.NewestRows.{number_held, body_fits, body_held, text_held, other_held}
use Rattle.enc_merge.proofs.rows.number.Goals as goal

pub moved-requires : goal.moved-requires
moved-requires c =
    let x = c.args.last.now in
    let h = c.last.inside.agg.now in
    let are : AreLast h x = subst (AreLast h) c.last.view_is c.last.invariant in
    let held = number_held h x c.args.token c.args.newest c.args.i c.args.column c.cell-number.result c.numbers_are_held_law.ensures are c.requires.shallow c.requires.token
    c.requires.newest c.requires.column c.cell-number.ensures in
    body_fits h x c.args.token c.args.newest c.args.i c.args.column c.cell-number.result are c.requires.newest c.requires.column (sym c.is_body.ensures ∙ c.if-is_body.true) held

pub returns-then-is_body : goal.returns-then-is_body
returns-then-is_body c =
    let x = c.args.last.now in
    let h = c.last.inside.agg.now in
    let are : AreLast h x = subst (AreLast h) c.last.view_is c.last.invariant in
    let held = number_held h x c.args.token c.args.newest c.args.i c.args.column c.cell-number.result c.numbers_are_held_law.ensures are c.requires.shallow c.requires.token
    c.requires.newest c.requires.column c.cell-number.ensures in
    body_held x c.args.token c.args.newest c.args.i c.args.column c.cell-number.result c.moved.result c.requires.newest c.cell-number.ensures (sym c.is_body.ensures ∙ c.if-is_body.true) held c.moved.ensures

pub returns-in-Text : goal.returns-in-Text
returns-in-Text c =
    let x = c.args.last.now in
    let h = c.last.inside.agg.now in
    let are : AreLast h x = subst (AreLast h) c.last.view_is c.last.invariant in
    let held = number_held h x c.args.token c.args.newest c.args.i c.args.column c.cell-number.result c.numbers_are_held_law.ensures are c.requires.shallow c.requires.token
    c.requires.newest c.requires.column c.cell-number.ensures in
    let k = c.cell-number.result in
    text_held x c.args.token c.args.newest c.args.i c.args.column k c.text_number.result c.requires.newest c.cell-number.ensures (sym c.is_body.ensures ∙ c.if-is_body.false) c.in-Text.is held
    (c.text_number.ensures ∙ ap (λ (d : Chain). text_moved (joined_text d.heaps k) k) (chain_is h x are))

pub returns-in_default : goal.returns-in_default
returns-in_default c =
    let x = c.args.last.now in
    let h = c.last.inside.agg.now in
    let are : AreLast h x = subst (AreLast h) c.last.view_is c.last.invariant in
    let held = number_held h x c.args.token c.args.newest c.args.i c.args.column c.cell-number.result c.numbers_are_held_law.ensures are c.requires.shallow c.requires.token
    c.requires.newest c.requires.column c.cell-number.ensures in
    other_held x c.args.token c.args.newest c.args.i c.args.column c.cell-number.result c.requires.newest c.cell-number.ensures (sym c.is_body.ensures ∙ c.if-is_body.false) c.in_default.not-Text held
