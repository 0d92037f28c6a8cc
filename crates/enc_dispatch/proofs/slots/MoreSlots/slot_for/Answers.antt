use Rattle.std.proofs.Common.{◌+◌, ap, subst, sym, ◌∙◌, ◌∷◌, [], ◌++◌, length, append_assoc}
use Rattle.enc_dispatch.specs.Buckets.{alike_first, head_over, AreBuckets}
use Rattle.enc_dispatch.proofs.Found.{slot_found, slot_new, buckets_more, buckets_first, head_put}
use Rattle.enc_dispatch.proofs.Sharing.{nth}
use Rattle.enc_dispatch.proofs.slots.MoreSlots.slot_for.Goals as goal

pub returns-in_default-clause-slot : goal.returns-in_default-clause-slot
returns-in_default-clause-slot g c =
    let rows = g.R.CellView.rows c.args.names.now in
    let next = c.args.below.now.next.items ++ c.args.self.now.next.items in
    let found = ap (alike_first rows c.in_ok-key.key (nth c.args.n)) (sym c.requires.size) ∙ ap (λ x. alike_first (g.R.CellView.rows x) c.in_ok-key.key (nth c.args.n) (length next)) (sym c.in_ok-key.ensures.kept) ∙ sym c.in_default.ensures.first in
    slot_new rows c.in_ok-key.key c.args.n c.in_ok-key.ensures.key found

pub returns-in_default-clause-buckets : goal.returns-in_default-clause-buckets
returns-in_default-clause-buckets g c =
    let rows = g.R.CellView.rows c.args.names.now in
    let below = c.args.below.now in
    let key = c.in_ok-key.key in
    let head = head_over below.heads c.args.self.now.heads in
    let more = buckets_first rows head (head_over below.heads c.add_first.new.self.heads) (below.next.items ++ c.args.self.now.next.items) key c.args.n c.requires.buckets c.requires.size c.in_ok-key.ensures.key (returns-in_default-clause-slot g c)
    (λ k. head_put below.heads c.args.self.now.heads c.add_first.new.self.heads key (c.args.n + 1) k c.in_ok-add_first.ensures.heads) in
    subst (AreBuckets rows (head_over below.heads c.add_first.new.self.heads)) (append_assoc below.next.items c.args.self.now.next.items (head key ∷ []) ∙ ap (λ xs. below.next.items ++ xs) (sym c.in_ok-add_first.ensures.next)) more

pub returns-clause-slot : goal.returns-clause-slot
returns-clause-slot g c =
    let rows = g.R.CellView.rows c.args.names.now in
    let next = c.args.below.now.next.items ++ c.args.self.now.next.items in
    let found = ap (alike_first rows c.in_ok-key.key (nth c.args.n)) (sym c.requires.size) ∙ ap (λ x. alike_first (g.R.CellView.rows x) c.in_ok-key.key (nth c.args.n) (length next)) (sym c.in_ok-key.ensures.kept) ∙ sym c.in-Some.ensures.first in
    (slot_found rows c.in_ok-key.key c.args.n c.in-Some.row c.in_ok-key.ensures.key found).0

pub returns-clause-buckets : goal.returns-clause-buckets
returns-clause-buckets g c =
    let rows = g.R.CellView.rows c.args.names.now in
    let below = c.args.below.now in
    let key = c.in_ok-key.key in
    let next = below.next.items ++ c.args.self.now.next.items in
    let head = head_over below.heads c.args.self.now.heads in
    let found = ap (alike_first rows key (nth c.args.n)) (sym c.requires.size) ∙ ap (λ x. alike_first (g.R.CellView.rows x) key (nth c.args.n) (length next)) (sym c.in_ok-key.ensures.kept) ∙ sym c.in-Some.ensures.first in
    let slot = slot_found rows key c.args.n c.in-Some.row c.in_ok-key.ensures.key found in
    let more = buckets_more rows head next key c.args.n c.in-Some.row c.requires.buckets c.requires.size c.in_ok-key.ensures.key slot.0 slot.1 in
    subst (λ heads. AreBuckets rows (head_over below.heads heads) (below.next.items ++ c.add.new.self.next.items)) (sym c.in_ok-add.ensures.heads)
    (subst (AreBuckets rows head) (append_assoc below.next.items c.args.self.now.next.items (head key ∷ []) ∙ ap (λ xs. below.next.items ++ xs) (sym c.in_ok-add.ensures.next)) more)
