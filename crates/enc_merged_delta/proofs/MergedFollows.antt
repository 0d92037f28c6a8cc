-- The merged delta breaks no rule.
use Rattle.std.proofs.Common.{refl}
use Rattle.enc_delta.specs.Judged.{first_meta}
use Rattle.enc_merged_delta.specs.Laws.{MergedFollows}
use Rattle.enc_merged_delta.proofs.ModuleRow.{keeps_module, keeps_next, keeps_base, keeps_id}
use Rattle.enc_merged_delta.proofs.HeapLengths.{keeps_heaps}
use Rattle.enc_merged_delta.proofs.MapRules.{keeps_rising, keeps_even, keeps_order, keeps_few}
use Rattle.enc_merged_delta.proofs.LogSets.{keeps_sets}
use Rattle.enc_merged_delta.proofs.LogEntries.{keeps_entries, keeps_owners}
use Rattle.enc_merged_delta.proofs.TableRule.{keeps_open}
use Rattle.enc_merged_delta.proofs.CellsSaid.{keeps_indices, keeps_offsets}
use Rattle.enc_merged_delta.proofs.KeptByBoth.{keeps_updates}
use Rattle.enc_merged_delta.proofs.BodiesSaid.{keeps_bodies, keeps_all_bodies, keeps_locals, keeps_signatures}
use Rattle.enc_merged_delta.proofs.MembersSaid.{keeps_layout, keeps_slots}
use Rattle.enc_merged_delta.proofs.TwinsSaid.{keeps_twins}

pub merged_follows : MergedFollows
unfolding first_meta
merged_follows c a b s may says =
    rw (
      keeps_module c a b s may says,
      keeps_next c a b s may says,
      keeps_base c a b s may says,
      keeps_id c a b s may says,
      keeps_heaps c a b s may says,
      keeps_rising c a b s may says,
      keeps_even c a b s may says,
      keeps_order c a b s may says,
      keeps_sets c a b s may says,
      keeps_entries c a b s may says,
      keeps_owners c a b s may says,
      keeps_open c a b s may says,
      keeps_indices c a b s may says,
      keeps_offsets c a b s may says,
      keeps_updates c a b s may says,
      keeps_bodies c a b s may says,
      keeps_all_bodies c a b s may says,
      keeps_layout c a b s may says,
      keeps_slots c a b s may says,
      keeps_twins c a b s may says,
      keeps_signatures c a b s may says,
      keeps_locals c a b s may says,
      keeps_few c a b s may says,
    ) refl
