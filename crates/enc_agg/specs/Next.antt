-- A history with a delta that may be added to it.
use Rattle.std.specs.Prelude.{ℕ, ◌-◌, List, ◌∷◌, Option}
use Rattle.enc_meta.specs.Joined.{joined_user, joined_blob}
use Rattle.enc_opcodes.specs.Body.{Body}
use Rattle.enc_plain.specs.Chain.{Chain}
use Rattle.enc_plain.specs.Module.{Module}
use Rattle.enc_plain.specs.Sound.{HasOwners, IsSound}
use Rattle.enc_rows.specs.Source.{Source}
use Rattle.enc_agg.specs.declared.aggregate.Ready.{Ready}
use Rattle.enc_agg.specs.Extend.{extended}
use Rattle.enc_agg.specs.Seen.{History, chain_of_all, module_of_all, body_of_all, IsAdded}
use Rattle.enc_agg.specs.Directory.{IsOwn}
use Rattle.enc_agg.specs.Prepared.{to_add}

-- what there is, and the delta that follows it
pub record Next : Type 0 where
  pub before : History
  pub delta : Source

-- a history with one delta more, which takes its room
abbrev pub with_delta : History → Source → History
with_delta h d = record { base = h.base; deltas = d ∷ h.deltas; room = h.room - 1 }

abbrev pub history_of_next : Next → History
history_of_next x = with_delta x.before x.delta

-- the chain with the delta, and its module
abbrev pub chain_of_next : Next → Chain
chain_of_next x = extended (chain_of_all x.before) x.delta

abbrev pub module_of_next : Next → Module
module_of_next x = (chain_of_next x).plain

-- its user texts, the blob at each offset, and the body at each place of the history's files
abbrev pub users_of_next : Next → ℕ → Option (List ℕ)
users_of_next x = joined_user (chain_of_next x).heaps

abbrev pub blob_of_next : Next → ℕ → Option (List ℕ)
blob_of_next x = joined_blob (chain_of_next x).heaps

abbrev pub body_of_next : Next → ℕ → Option Body
body_of_next x = body_of_all (history_of_next x)

-- the delta was made ready after this history, and a directory of it alone with it
pub record MayBeNext (h : History) (r : Ready) : Type 0 where
  pub owners : HasOwners (module_of_all h)
  pub added : IsAdded (chain_of_all h) (to_add r)
  pub own : IsOwn (chain_of_all h) r.delta r.own
  pub sound : IsSound (extended (chain_of_all h) r.delta).plain
