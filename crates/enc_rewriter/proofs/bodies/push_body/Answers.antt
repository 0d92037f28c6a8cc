use Rattle.std.proofs.Common.{◌≡◌, ℕ, ◌+◌, List, length, map, sym, ap, subst, ◌∙◌, arith}
use Rattle.std.proofs.lemmas.List.{length-map}
use Rattle.enc_opcodes.specs.declared.code.Clause.{Clause}
use Rattle.enc_opcodes.specs.Clause.{clauses_of}
use Rattle.enc_rewriter.proofs.BodySizes.{with_body_weighs}
use Rattle.std.specs.List.{list_all}
use Rattle.enc_base.proofs.SmallNumbers.{bytes_each}
use Rattle.enc_il.specs.Written.{IsWritable, clause_fits, with_body, place_for}
use Rattle.enc_il.proofs.BodiesShort.{place_few}
use Rattle.enc_meta.specs.Built.{heaps_built}
use Rattle.enc_meta.specs.Heaps.{user_at}
use Rattle.enc_opcodes.specs.Body.{body_of, code_seen, handler_meant}
use Rattle.enc_plain.specs.Sound.{row_count}
use Rattle.enc_rewriter.specs.Copied.{SaysSame}
use Rattle.enc_rewriter.specs.Standing.{StandsAt, known_as}
use Rattle.enc_rewriter.proofs.SoundCode.{sound_whole}
use Rattle.enc_rewriter.proofs.BodyStands.{said_as, said_stands, with_grows}
use Rattle.enc_rewriter.proofs.bodies.push_body.Goals as goal

pub patched-requires : goal.patched-requires
patched-requires g c = record {
  few = c.requires.few;
  starts = c.requires.starts;
  whole = sound_whole (g.V.ModuleView.users c.args.view.now) (row_count (g.V.ModuleView.meaning c.args.view.now)) (code_seen c.args.body.now) (bytes_each c.args.body.now.code.now c.bytes_law.ensures) c.requires.sound;
  kept = c.requires.kept;
}

pub overflow_add-result : goal.overflow_add-result
overflow_add-result g c =
    let few = place_few (length c.args.out.now.items) (said_as (code_seen c.args.body.now) c.deref-bytes.result.now) c.deref.result.now in
    let e : c.in-Ok-write_body.place ≡ place_for (length c.args.out.now.items) (said_as (code_seen c.args.body.now) c.deref-bytes.result.now) c.deref.result.now = c.in-Ok-write_body.ensures.place in
    omega (arith, few, e, c.requires.near)

pub returns-in-Ok-write_body-clause-stands : goal.returns-in-Ok-write_body-clause-stands
returns-in-Ok-write_body-clause-stands g c =
    let old = g.V.ModuleView.users c.args.view.now in
    let new = user_at (heaps_built c.args.heaps.now).users in
    let count = row_count (g.V.ModuleView.meaning c.args.view.now) in
    let own = code_seen c.args.body.now in
    let before = c.args.out.now.items in
    let says = c.deref-bytes.result.now in
    let cs = c.deref.result.now in
    let is : says ≡ c.in-Ok.code.items = c.deref-bytes.ensures.value in
    let are : cs ≡ c.in-Ok-clauses_of_body.clauses.items = c.deref.ensures.value in
    let same : SaysSame old new own.code says 0 = subst (λ xs. SaysSame old new own.code xs 0) (sym is) c.in-Ok.ensures.says in
    let many = ap (λ (xs : List Clause). length xs) (are ∙ c.in-Ok-clauses_of_body.ensures.all) ∙ length-map (clauses_of own.sections) known_as in
    let fits : IsWritable (said_as own says) cs = record { max = omega (arith, c.type_inv.body.0); table = omega (arith, c.type_inv.body.1); row = c.requires.rows; size = omega (arith, ap (λ (xs : List ℕ). length xs) is, c.in-Ok.ensures.size, c.requires.few); sections = omega (arith, many, c.requires.room) } in
    let stands = said_stands old new count own before says cs same (ap (λ (xs : List ℕ). length xs) is ∙ c.in-Ok.ensures.size) c.requires.nil
    (ap (list_all clause_fits) are ∙ c.in-Ok-clauses_of_body.ensures.fit) (are ∙ c.in-Ok-clauses_of_body.ensures.all) (bytes_each says c.bytes_law-2.ensures) c.requires.sound fits in
    let written : c.write_body.new.out.items ≡ with_body before (said_as own says) cs = c.in-Ok-write_body.ensures.written in
    let place : c.in-Ok-write_body.place ≡ place_for (length before) (said_as own says) cs = c.in-Ok-write_body.ensures.place in
    subst (λ xs. StandsAt count new xs (8192 + c.in-Ok-write_body.place) (body_of old own)) (sym written)
    (subst (λ p. StandsAt count new (with_body before (said_as own says) cs) (8192 + p) (body_of old own)) (sym place) stands)

pub returns-in-Ok-write_body-clause-grows : goal.returns-in-Ok-write_body-clause-grows
returns-in-Ok-write_body-clause-grows g c =
    let w = with_grows c.args.out.now.items (said_as (code_seen c.args.body.now) c.deref-bytes.result.now) c.deref.result.now in
    (w.0, c.in-Ok-write_body.ensures.written ∙ w.1)

pub returns-in-Ok-write_body-clause-size : goal.returns-in-Ok-write_body-clause-size
unfolding body_of
returns-in-Ok-write_body-clause-size g c =
    let own = code_seen c.args.body.now in
    let says = c.deref-bytes.result.now in
    let cs = c.deref.result.now in
    let is : says ≡ c.in-Ok.code.items = c.deref-bytes.ensures.value in
    let code : length says ≡ length own.code = ap (λ (xs : List ℕ). length xs) is ∙ c.in-Ok.ensures.size in
    let are : cs ≡ map known_as (clauses_of own.sections) = c.deref.ensures.value ∙ c.in-Ok-clauses_of_body.ensures.all in
    let many : length cs ≡ length (clauses_of own.sections) = ap (λ (xs : List Clause). length xs) are ∙ length-map (clauses_of own.sections) known_as in
    let written : length c.write_body.new.out.items ≡ length (with_body c.args.out.now.items (said_as own says) cs) = ap (λ (xs : List ℕ). length xs) c.in-Ok-write_body.ensures.written in
    omega (arith, code, many, written, with_body_weighs c.args.out.now.items (said_as own says) cs, length-map (clauses_of own.sections) handler_meant)
