-- The deltas from the newest to the oldest, each following those before it.
use Rattle.std.proofs.Common.{◌≡◌, List, [], ◌∷◌, sym, subst}
use Rattle.enc_rows.specs.Source.{Source}
use Rattle.enc_plain.specs.Sound.{IsSound}
use Rattle.enc_image.specs.Base.{chain_of_base}
use Rattle.enc_delta.specs.Seen.{WasRead}
use Rattle.enc_agg.specs.declared.added.Added.{Added}
use Rattle.enc_agg.specs.Extend.{chain_with}
use Rattle.enc_agg.specs.Follows.{AllFollow}
use Rattle.enc_agg.specs.Seen.{sources, AllAdded}
use Rattle.enc_agg.proofs.Histories.{last_added}

-- the deltas before the newest were added one after the other too
pub before_added : (base : Source) (all older : List Added) (last : Added) → all ≡ last ∷ older → AllAdded base all → AllAdded base older
before_added base all older last is added = (last_added base last older (subst (AllAdded base) is added)).1

-- where those before the newest follow one another, so do all
pub one_follows : (base : Source) (all older : List Added) (last : Added) → all ≡ last ∷ older → AllAdded base all → WasRead last.delta → AllFollow base (sources older) → AllFollow base (sources all)
unfolding AllFollow
one_follows base all older last is added read follow =
    let parts = last_added base last older (subst (AllAdded base) is added) in
    subst (λ (xs : List Added). AllFollow base (sources xs)) (sym is) (read, (parts.0.follows, follow))

-- a base alone
pub none_follows : (base : Source) (all : List Added) → all ≡ [] → IsSound (chain_of_base base).plain → AllFollow base (sources all)
unfolding AllFollow chain_with
none_follows base all is sound = subst (λ (xs : List Added). AllFollow base (sources xs)) (sym is) sound
