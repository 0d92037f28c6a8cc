-- A chain stays one: at its beginning, with room for more, and with one more delta.
use Rattle.std.proofs.Common.{◌≡◌, ℕ, suc, ◌∷◌, [], List, Option, Ok, refl, subst, sym, ap}
use Rattle.std.specs.Prelude.{length}
use Rattle.enc_rows.specs.Source.{Source}
use Rattle.enc_plain.specs.SoundDebug.{KnowsWithin}
use Rattle.enc_image.specs.Base.{chain_of_base}
use Rattle.enc_agg.specs.Extend.{chain_with}
use Rattle.enc_ppdb.specs.PdbChain.{DebugDelta, pdb_begun, pdb_with}
use Rattle.enc_checker.specs.Check.{accepted}
use Rattle.enc_checker.specs.Followed.{Followed, followed_by}
use Rattle.enc_checker.specs.Within.{DeltaKnowsWithin, method_count}
use Rattle.enc_chain.specs.Goes.{AllGo}
use Rattle.enc_chain.specs.Kept.{IsAcceptedAfter, IsReadyFor, Kept, KnowsOwn, chain_of, followed}
use Rattle.enc_chain.specs.declared.prepared.Prepared.{Prepared}
use Rattle.enc_chain.proofs.AcceptedGoes.{accepted_goes}

-- what is kept, without its room
knows : Followed → Type 0
knows f = KnowsWithin (pdb_with f.debug f.debugs) (method_count (chain_of f))

-- a base without deltas
pub begun_knows : (k : Kept) (base : Source) (pdb : Option Source) → followed k ≡ record { base = base; deltas = []; debug = pdb; debugs = [] } → KnowsWithin (pdb_begun pdb) (method_count (chain_of_base base)) → KnowsOwn k
unfolding knows chain_with pdb_with
begun_knows k base pdb same within = subst knows (sym same) within

-- with one more delta
pub followed_knows : (k new : Kept) (d : Source) (pdb : Option Source) → DeltaKnowsWithin → followed new ≡ followed_by (followed k) (accepted d pdb) → IsAcceptedAfter (chain_of (followed k)) d pdb → KnowsOwn k → KnowsOwn new
unfolding knows
followed_knows k new d pdb law same follows own =
    let f = followed k in
    subst knows (sym same) (law f.base f.deltas (Ok d) follows.files (accepted d pdb) follows.read follows.judged_ok f.debug f.debugs own)

-- what is said of the new delta goes with it
pub more_go : (k : Kept) (x : Prepared) → IsReadyFor k x → AllGo k.rows.deltas k.points.deltas → AllGo (x.rows.delta ∷ k.rows.deltas) (record { pdb = x.pdb; changed = x.changed } ∷ k.points.deltas)
unfolding AllGo
more_go k x ready go =
    let g = accepted_goes (chain_of (followed k)) x.rows.delta x.pdb ready.follows in
    (record { changed = ready.changed; pdb = g.pdb }, go)

-- each delta has what is said of it
pub paired : (deltas : List Source) (debugs : List DebugDelta) → AllGo deltas debugs → length deltas ≡ length debugs
unfolding AllGo
paired [] [] go = refl
paired [] (x ∷ debugs) go = absurd go
paired (d ∷ deltas) [] go = absurd go
paired (d ∷ deltas) (x ∷ debugs) go = ap suc (paired deltas debugs go.1)
