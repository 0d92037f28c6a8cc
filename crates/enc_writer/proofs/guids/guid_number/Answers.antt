use Rattle.std.proofs.Common.{◌≡◌, ◌<◌, ℕ, Some, refl, arith}
use Rattle.enc_meta.specs.Joined.{joined_guid, guid_entries}
use Rattle.enc_writer.proofs.GuidsNamed.{within_entries, entries_logged, last_named_by}
use Rattle.enc_writer.proofs.guids.guid_number.Goals as goal

pub returns-then-is_guid_at-clause-few : goal.returns-then-is_guid_at-clause-few
returns-then-is_guid_at-clause-few g c = within_entries (g.C.ChainView.chain c.args.chain.now).heaps c.loop-k.k c.args.guid (c.if-is_guid_at.ensures.yes refl)

pub returns-clause-number : goal.returns-clause-number
returns-clause-number g c =
    let heaps = (g.C.ChainView.chain c.args.chain.now).heaps in
    let none : (m : ℕ) → m < c.lengths-entries.result.guids → joined_guid heaps m ≡ Some c.args.guid → ⊥ = λ m low. c.loop-k.invariant m (omega (arith, low, c.loop-k-test.false)) in
    last_named_by heaps c.lengths-entries.result.guids c.args.guid (entries_logged heaps c.lengths-entries.result c.lengths-entries.ensures) none c.requires

pub returns-clause-few : goal.returns-clause-few
returns-clause-few g c =
    let heaps = (g.C.ChainView.chain c.args.chain.now).heaps in
    let is : c.lengths-entries.result.guids ≡ guid_entries heaps = entries_logged heaps c.lengths-entries.result c.lengths-entries.ensures in
    omega (arith, is)
