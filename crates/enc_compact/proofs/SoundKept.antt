-- A sound module is sound in whatever orders its rows stand.
use Rattle.enc_token_map.specs.Laws.{MovedStaysSound}
use Rattle.enc_compact.specs.Moved.{OrdersKeepSound}
use Rattle.enc_sigs.specs.Moved.{MovedReadsBack, MovedBeginsAlike, MovedFieldFront}
use Rattle.enc_compact.proofs.CellsKept.{cells_kept}
use Rattle.enc_compact.proofs.CountsKept.{tables_moved, counts_kept}
use Rattle.enc_compact.proofs.KindsKept.{kinds_kept}
use Rattle.enc_compact.proofs.Owners.{runs_moved, owned_moved}
use Rattle.enc_compact.proofs.SignaturesKept.{signatures_kept}

pub orders_keep_sound : MovedReadsBack → MovedBeginsAlike → MovedFieldFront → MovedStaysSound → OrdersKeepSound
orders_keep_sound back alike fronts stays m orders are keep sound =
    let has = sound.owners.tables in
    record {
      owners = record {
        tables = tables_moved m orders;
        runs = runs_moved m orders has are sound.owners.runs;
        owned = owned_moved m orders has are sound.owners.owned;
      };
      counts = counts_kept m orders has are sound.counts;
      kinds = kinds_kept m orders has are sound.kinds;
      cells = cells_kept m orders alike fronts stays has sound.counts sound.kinds sound.cells sound.signatures are keep;
      signatures = signatures_kept m orders back alike has sound.counts sound.kinds are sound.signatures;
    }
