use Rattle.std.proofs.Common.{◌≡◌, ◌<◌, ◌^◌, Some, reverse, sym, ap, ◌∙◌, arith}
use Rattle.std.specs.Prelude.{option_map}
use Rattle.std.proofs.lemmas.List.{length-reverse}
use Rattle.enc_agg.specs.Seen.{found_in, found_seen}
use Rattle.enc_agg.proofs.Asked.{base_row, the_found}
use Rattle.enc_agg.proofs.BodyPlaces.{base_place_body, base_place_stands, found_place_body, found_place_stands}
use Rattle.enc_agg.proofs.Generations.{few_found}
use Rattle.enc_agg.proofs.earlier.EarlierModuleView.code_place.Goals as goal

pub rva-requires-clause-row : goal.rva-requires-clause-row
rva-requires-clause-row c = base_row c.self.inside.image.now _ c.args.method c.self.invariant.deltas _ (c.find.ensures) c.in_default.is (rw (← c.self.view_is) at c.requires.row)

pub returns-in_default-clause-body : goal.returns-in_default-clause-body
returns-in_default-clause-body c =
    let found = c.find.ensures in
    let there = base_row c.self.inside.image.now _ c.args.method c.self.invariant.deltas _ found c.in_default.is (rw (← c.self.view_is) at c.requires.row) in
    let low : c.rva.result < 2 ^ 32 = omega (arith, c.rva.type_inv) in
    rw (← c.self.view_is, c.place_of_all.ensures)
    (base_place_body c.self.inside.image.now _ _ c.args.method c.rva.result _ c.self.invariant.deltas (λ o units is. is) _ found c.in_default.is there
    c.requires.table c.rva.ensures.raw low)

pub returns-in_default-clause-some : goal.returns-in_default-clause-some
returns-in_default-clause-some c =
    let low : c.rva.result < 2 ^ 32 = omega (arith, c.rva.type_inv) in
    rw (← c.self.view_is, c.place_of_all.ensures) (base_place_stands c.self.inside.image.now _ _ c.rva.result _ low c.rva.ensures.some)

pub overflow_cast-found : goal.overflow_cast-found
overflow_cast-found c =
    let few = few_found c.self.inside.image.now c.self.inside.added.now c.args.method _ c.in-Some.found c.self.invariant.deltas.all (c.find.ensures) c.in-Some.is in
    omega (arith, few)

pub returns-clause-body : goal.returns-clause-body
returns-clause-body c =
    let told = c.find.ensures in
    let found = the_found c.self.inside.image.now _ c.args.method c.self.invariant.deltas _ c.in-Some.found told c.in-Some.is in
    let is : found_in (reverse c.self.inside.added.now) c.args.method ≡ Some (reverse c.in-Some.found.upto.now, c.in-Some.found.row) = sym told ∙ ap (option_map found_seen) c.in-Some.is in
    let low : c.number-place.result < 2 ^ 32 = omega (arith, c.number-place.type_inv) in
    rw (← c.self.view_is, c.place_of_all-2.ensures, ← length-reverse c.in-Some.found.upto.now)
    (found_place_body c.self.inside.image.now _ _ _ c.args.method _ c.number-place.result _ found (λ o units is. is) is c.requires.table
    (rw c.row_found.ensures at c.number-place.ensures) low)

pub returns-clause-some : goal.returns-clause-some
returns-clause-some c =
    let told = c.find.ensures in
    let found = the_found c.self.inside.image.now _ c.args.method c.self.invariant.deltas _ c.in-Some.found told c.in-Some.is in
    let is : found_in (reverse c.self.inside.added.now) c.args.method ≡ Some (reverse c.in-Some.found.upto.now, c.in-Some.found.row) = sym told ∙ ap (option_map found_seen) c.in-Some.is in
    let low : c.number-place.result < 2 ^ 32 = omega (arith, c.number-place.type_inv) in
    rw (← c.self.view_is, c.place_of_all-2.ensures, ← length-reverse c.in-Some.found.upto.now)
    (found_place_stands c.self.inside.image.now _ _ _ c.args.method _ c.number-place.result _ found is c.requires.table
    (rw c.row_found.ensures at c.number-place.ensures) low)
