-- What comes of merging the last two deltas of a chain, by any names of these.
use Rattle.std.proofs.Common.{◌≡◌, ℕ, false, List, ◌∷◌, drop, Option, Some, None, Result, Ok, Err, refl, sym, ap, subst, ◌∙◌}
use Rattle.std.specs.Prelude.{nat_lt}
use Rattle.enc_base.specs.declared.token.Token.{Token}
use Rattle.enc_rows.specs.Source.{Source}
use Rattle.enc_agg.specs.Extend.{chain_with}
use Rattle.enc_agg.specs.Seen.{History, chain_of_all}
use Rattle.enc_plain.specs.Chain.{Chain}
use Rattle.enc_merge.proofs.LastTwo.{chain_is}
use Rattle.enc_ppdb.specs.PdbChain.{DebugDelta, PdbHistory, pdb_with}
use Rattle.enc_ppdb.specs.Written.{most_pdb_weight}
use Rattle.enc_reference_depth.specs.Depth.{first_deep}
use Rattle.enc_chain.specs.Goes.{AllGo, GoesWith}
use Rattle.enc_emit.specs.declared.delta_bytes.DeltaBytes.{DeltaBytes}
use Rattle.enc_merge.specs.Merges.{MergesBoth, MergesLast, weight_of_both}
use Rattle.enc_merge.specs.Writing.{AreLast, Both, FilesOfBothStand, IsFilesOfBoth, TellsWeight, chain_of_both}
use Rattle.enc_merge.specs.declared.fault.MergeFault.{MergeFault}
use Rattle.enc_merge.specs.declared.fault.MergeFault.TheVariants.{Memory, TooLarge, Deep}

-- the deltas of a list whose front is known
fronts : (b a y x : Source) (older rest : List Source) → b ∷ a ∷ older ≡ y ∷ x ∷ rest → (b ≡ y) × ((a ≡ x) × (older ≡ rest))
fronts b a y x older rest e = (cc, (cc, cc))

same_both : (h : History) (x : Both) (b a : Source) (older : List Source) → AreLast h x → h.deltas ≡ b ∷ a ∷ older → x ≡ record { chain = chain_with h.base older; first = a; second = b }
same_both h x b a older are e =
    let f = fronts b a x.second x.first older (drop 2 h.deltas) (sym e ∙ are.deltas) in
    ap (λ c. record { chain = c; first = x.first; second = x.second }) (are.chain ∙ ap (chain_with h.base) (sym f.1.1))
    ∙ ap (λ s. record { chain = chain_with h.base older; first = s; second = x.second }) (sym f.1.0)
    ∙ ap (λ s. record { chain = chain_with h.base older; first = a; second = s }) (sym f.0)

-- the two deltas, merged or not
pub MergesTwo : (x : Both) (p : PdbHistory) → Result DeltaBytes MergeFault → Type 0
MergesTwo x p result =
    (second first : DebugDelta) (older : List DebugDelta) → p.deltas ≡ second ∷ first ∷ older
    → MergesBoth x.chain x.first x.second (pdb_with p.base older) (pdb_with p.base p.deltas) result

pub merges_last : (h : History) (p : PdbHistory) (x : Both) (result : Result DeltaBytes MergeFault) → AreLast h x → MergesTwo x p result → MergesLast h p result
unfolding MergesTwo
merges_last h p x result are merged a b older first second debugs hd pd =
    subst (λ (z : Both). MergesBoth z.chain z.first z.second (pdb_with p.base debugs) (pdb_with p.base p.deltas) result) (same_both h x b a older are hd) (merged second first debugs pd)

weight_of : Both → PdbHistory → ℕ
weight_of x p = weight_of_both x.chain x.first x.second (pdb_with p.base p.deltas)

-- the PDB would be too heavy, or there is no memory
pub none_merged : (x : Both) (p : PdbHistory) (fault : MergeFault) → TellsWeight (Err fault) (weight_of_both x.chain x.first x.second (pdb_with p.base p.deltas)) → MergesTwo x p (Err fault)
unfolding MergesTwo
none_merged x p Memory told second first older pd = tt
none_merged x p TooLarge told second first older pd = told
none_merged x p (Deep t) told second first older pd = absurd told

pub no_memory : (x : Both) (p : PdbHistory) → MergesTwo x p (Err Memory)
unfolding MergesTwo
no_memory x p second first older pd = tt

-- a reference lies too deep
pub too_deep : (x : Both) (p : PdbHistory) (t : Token) → nat_lt most_pdb_weight (weight_of_both x.chain x.first x.second (pdb_with p.base p.deltas)) ≡ false
    → first_deep (chain_of_both x).plain ≡ Some t → MergesTwo x p (Err (Deep t))
unfolding MergesTwo
too_deep x p t light deep second first older pd = (light, deep)

-- the files stand for the two
goes_both : (h : History) (p : PdbHistory) (x : Both) (second first : DebugDelta) (older : List DebugDelta) → AreLast h x → AllGo h.deltas p.deltas → p.deltas ≡ second ∷ first ∷ older
    → GoesWith x.second second × GoesWith x.first first
unfolding AllGo
goes_both h p x second first older are go pd =
    let g : AllGo (x.second ∷ x.first ∷ drop 2 h.deltas) (second ∷ first ∷ older) = subst (λ ds. AllGo (x.second ∷ x.first ∷ drop 2 h.deltas) ds) pd (subst (λ ds. AllGo ds p.deltas) are.deltas go) in
    (g.0, g.1.0)

pub files_merged : (h : History) (p : PdbHistory) (x : Both) (d : DeltaBytes) → FilesOfBothStand → AreLast h x → AllGo h.deltas p.deltas
    → nat_lt most_pdb_weight (weight_of_both x.chain x.first x.second (pdb_with p.base p.deltas)) ≡ false → first_deep (chain_of_both x).plain ≡ None → IsFilesOfBoth x p d → MergesTwo x p (Ok d)
unfolding MergesTwo
files_merged h p x d stand are go light shallow files second first older pd =
    let g = goes_both h p x second first older are go pd in
    (stand h p x d first second older are shallow pd g.0 g.1 files, light, shallow)

-- the module after both is that of the whole chain
pub deep_after : (h : History) (x : Both) (o : Option Token) → AreLast h x → o ≡ first_deep (chain_of_all h).plain → first_deep (chain_of_both x).plain ≡ o
deep_after h x o are is = ap (λ (c : Chain). first_deep c.plain) (sym (chain_is h x are)) ∙ sym is

pub none_left : (o : Option Token) → ((t : Token) → o ≡ Some t → ⊥) → o ≡ None
none_left None fails = refl
none_left (Some t) fails = absurd (fails t refl)
