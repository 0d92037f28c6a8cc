use Rattle.std.proofs.Common.{◌≡◌, sym, refl, ap, ◌∙◌, ◌∷◌, ◌++◌, []}
use Rattle.enc_edit_list.specs.Added.{ArePlaces}
use Rattle.enc_edit_list.proofs.Placing.{placed_row, placed_body}
use Rattle.enc_edit_list.proofs.added.put_place.Goals as goal

pub returns-in_ok-push_place-in-Add : goal.returns-in_ok-push_place-in-Add
returns-in_ok-push_place-in-Add c = λ before size is.
    rw (c.in-Add.is) (placed_row c.args.places.now.items c.push_place.new.places.items before c.in-Add.table c.args.at c.in-Add.owner c.in-Add.cells c.in-Add.code c.in-Add.points c.in_ok-push_place-in-Add.ensures.put c.push_place.ensures.few size is)

pub returns-in-Body : goal.returns-in-Body
returns-in-Body c = λ before size is. rw (c.in-Body.is) (placed_body c.args.places.now.items before _ (λ t. refl) is)
