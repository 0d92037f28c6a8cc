-- The plan of the last two deltas merged: what accepted files keep, and what comes of merging.
use Rattle.std.proofs.Common.{◌≡◌, ℕ, zero, suc, ◌+◌, ◌-◌, ◌^◌, ◌≤◌, true, false, List, [], ◌∷◌, ◌++◌, get_or, length, map, drop, Option, Some, None, Result, Ok, Err, refl, sym, ap, ◌∙◌, subst, arith}
use Rattle.std.specs.Prelude.{nat_lt, option_map, codes, IfOk, String, string_bytes}
use Rattle.std.specs.declared.alloc.Global.{Global}
use Rattle.std.proofs.lemmas.List.{length-append, length-map, length-take, length-drop, map-append}
use Rattle.enc_base.specs.declared.refusal.Refusal.{Refusal}
use Rattle.enc_base.specs.declared.token.Token.{Token}
use Rattle.enc_rows.specs.Source.{Source}
use Rattle.enc_plain.specs.Chain.{Chain}
use Rattle.enc_delta.specs.Delta.{delta_of}
use Rattle.enc_agg.specs.Extend.{chain_with}
use Rattle.enc_agg.specs.Seen.{History}
use Rattle.enc_ppdb.specs.PdbChain.{DebugDelta, PdbHistory}
use Rattle.enc_checker.specs.Check.{Accepted, judged}
use Rattle.enc_base.specs.declared.refusal.StreamName.TheVariants as stream
use Rattle.enc_reference_depth.specs.Depth.{first_deep}
use Rattle.enc_merged_delta.specs.Merged.{after_both}
use Rattle.enc_merge.specs.Merges.{AllShort, IsShortDelta, MergesBoth, StandsForBoth, weight_of_both}
use Rattle.enc_merge.proofs.ShortRead.{short_read}
use Rattle.enc_chain.proofs.AcceptedGoes.{accepted_delta}
use Rattle.enc_merge.specs.declared.fault.MergeFault.{MergeFault}
use Rattle.enc_merge.specs.declared.fault.MergeFault.TheVariants.{TooLarge, Deep}
use Rattle.enc_ppdb.specs.PdbChain.{pdb_with}
use Rattle.enc_ppdb.specs.Written.{most_pdb_weight}
use Rattle.enc_command_line.specs.Lines.{saved_line}
use Rattle.enc_command_line.specs.Words.{texts}
use Rattle.enc_command_line.specs.declared.limits.Limit.TheVariants as limit
use Rattle.enc_emit.specs.declared.delta_bytes.DeltaBytes.{DeltaBytes}
use Rattle.enc_commands.specs.Plans.{saves_of, IsPlanOf}
use Rattle.enc_commands.specs.Stops.{Comes, OnPlan}
use Rattle.enc_commands.specs.declared.plan.Outcome.TheVariants.{Accepted as Done}
use Rattle.enc_commands.specs.declared.plan.Plan.{Plan}
use Rattle.enc_commands.specs.declared.halt.Halt.{Halt}
use Rattle.enc_commands.specs.Loads.{AreShort, HaveGone, IsShort, file_seen, followed}
use Rattle.enc_chain.specs.Goes.{AllGo}
use Rattle.enc_chain.specs.Kept.{Kept}
use Rattle.enc_commands.specs.declared.load.DeltaFile.{DeltaFile}
use Rattle.enc_commands.specs.Verdict.{◌>>=◌, Stop, DeltaFiles, Followed, BaseFiles, Verdict, base_pdb, can_be_merged, debug_after, deep_chain, dll, followed_by, il, in_delta, in_file, judge_all, judge_deltas, last_word, merged_on, merges, meta, past_limit, pdb, plain_of, weight_by, weight_of_last}

-- a delta that is accepted isn't too long, where it was read from short files
short_judged : (c : Chain) (r : Result Source Refusal) (a : Accepted) (pdb : Option (List ℕ)) → ((d : Source) → r ≡ Ok d → IsShortDelta d) → judged c r pdb ≡ Ok a → IsShortDelta a.delta
short_judged c (Ok d) a pdb short e = subst IsShortDelta (sym (accepted_delta c d pdb a e)) (short d refl)
short_judged c (Err f) a pdb short e = absurd cc

told_delta : (x : DeltaFiles) (r : Result Accepted Refusal) (a : Accepted) → in_delta x r ≡ Ok a → r ≡ Ok a
told_delta x (Ok b) a e = let same : b ≡ a = cc in ap (λ (y : Accepted). Ok y) same
told_delta x (Err f) a e = absurd cc

-- so are all, and there are as many as files
goes_on : (f : Followed) (fs : List DeltaFiles) (g : Followed) → AllShort f.deltas → AreShort fs → judge_deltas f fs ≡ Ok g
    → AllShort g.deltas × (length g.deltas ≡ length f.deltas + length fs)
unfolding judge_deltas AreShort AllShort
goes_on f [] g go short e = let same : f ≡ g = cc in subst (λ (x : Followed). AllShort x.deltas × (length x.deltas ≡ length f.deltas + 0)) same (go, omega arith)
goes_on f (x ∷ xs) g go short e = by (in_delta x (judged (chain_with f.base f.deltas) (delta_of x.metadata x.code) x.debug)) refl e (λ h more k. goes_on h xs g more short.1 k)
  where
    by : (r : Result Accepted Stop) → in_delta x (judged (chain_with f.base f.deltas) (delta_of x.metadata x.code) x.debug) ≡ r → (r >>= λ a. judge_deltas (followed_by f a) xs) ≡ Ok g
        → ((h : Followed) → AllShort h.deltas → judge_deltas h xs ≡ Ok g → AllShort g.deltas × (length g.deltas ≡ length h.deltas + length xs))
        → AllShort g.deltas × (length g.deltas ≡ length f.deltas + suc (length xs))
    by (Err s) is k more = absurd cc
    by (Ok a) is k more =
        let j = short_judged (chain_with f.base f.deltas) (delta_of x.metadata x.code) a x.debug (λ d r. short_read x.metadata x.code d short.0.metadata short.0.code r) (told_delta x _ a is) in
        let rest = more (followed_by f a) (j, go) k in
        let many = rest.1 in
        (rest.0, omega (arith, many))

pub goes_all : (base : List ℕ) (f : BaseFiles) (fs : List DeltaFiles) (g : Followed) → AreShort fs → judge_all base f fs ≡ Ok g → AllShort g.deltas × (length g.deltas ≡ length fs)
unfolding judge_all AllShort
goes_all base f fs g short e = first (in_file (dll base) _) e
  where
    start : Source → Option Source → Followed
    start b p = record { base = b; deltas = []; debug = p; debugs = [] }

    second : (b : Source) (r : Result (Option Source) Stop) → (r >>= λ p. judge_deltas (start b p) fs) ≡ Ok g → AllShort g.deltas × (length g.deltas ≡ length fs)
    second b (Err s) k = absurd cc
    second b (Ok p) k = let h = goes_on (start b p) fs g tt short k in let many = h.1 in (h.0, omega (arith, many))

    first : (r : Result Source Stop) → (r >>= λ b. in_file (pdb base) (base_pdb b f.debug) >>= λ p. judge_deltas (start b p) fs) ≡ Ok g
        → AllShort g.deltas × (length g.deltas ≡ length fs)
    first (Err s) k = absurd cc
    first (Ok b) k = second b (in_file (pdb base) (base_pdb b f.debug)) k

-- so all that were judged
pub gone_so : (base : List ℕ) (f : BaseFiles) (files : List DeltaFile) (words : ℕ) (r : Result Kept Halt) → AreShort (map file_seen files) → length files ≡ words
    → Comes followed r (judge_all base f (map file_seen files)) → IfOk r (λ (j : Kept). HaveGone words j)
gone_so base f files words (Ok j) short many step =
    let h = goes_all base f (map file_seen files) (followed j) short step in
    record { many = h.1 ∙ length-map files file_seen ∙ many; short = h.0 }
gone_so base f files words (Err h) short many step = tt

-- none so far
pub none_short : (fs : List DeltaFile) → fs ≡ [] → AreShort (map file_seen fs)
unfolding AreShort
none_short fs e = subst (λ (l : List DeltaFile). AreShort (map file_seen l)) (sym e) tt

-- the files of one more delta
short_more : (fs : List DeltaFiles) (f : DeltaFiles) → AreShort fs → IsShort f → AreShort (fs ++ f ∷ [])
unfolding AreShort
short_more [] f all short = (short, tt)
short_more (g ∷ fs) f all short = (all.0, short_more fs f all.1 short)

pub one_longer : (new old : List DeltaFile) (f : DeltaFile) (n : ℕ) → new ≡ old ++ f ∷ [] → length old ≡ n → length new ≡ n + 1
one_longer new old f n e many =
    let long = length-append old (f ∷ []) in
    let same = ap (λ (l : List DeltaFile). length l) e in
    omega (arith, long, same, many)

pub short_seen : (new old : List DeltaFile) (f : DeltaFile) → new ≡ old ++ f ∷ [] → AreShort (map file_seen old) → IsShort (file_seen f) → AreShort (map file_seen new)
short_seen new old f e all short =
    subst AreShort (sym (ap (map file_seen) e ∙ map-append file_seen old (f ∷ []))) (short_more (map file_seen old) (file_seen f) all short)

-- the last of some words
pub last_at : (words : List (String Global)) (w : String Global) → 1 ≤ length words → w ≡ get_or words (length words - 1) w → last_word (texts words) ≡ string_bytes w
last_at [] w some e = absurd (omega (arith, some))
last_at (v ∷ []) w some e =
    let none : suc zero - 1 ≡ 0 = omega arith in
    let same : w ≡ v = e ∙ ap (λ n. get_or (v ∷ []) n w) none in
    ap string_bytes (sym same)
last_at (v ∷ u ∷ words) w some e =
    let less : suc (suc (length words)) - 1 ≡ suc (suc (length words) - 1) = omega arith in
    last_at (u ∷ words) w (omega arith) (e ∙ ap (λ n. get_or (v ∷ u ∷ words) n w) less)

pub deep_name : (words : List (String Global)) (w : String Global) (text name : List ℕ) → 1 ≤ length words → w ≡ get_or words (length words - 1) w → text ≡ string_bytes w
    → name ≡ text ++ codes ".meta" → name ≡ meta (last_word (texts words))
deep_name words w text name some e is named = named ∙ ap meta (is ∙ sym (last_at words w some e))

-- the last two deltas and what is known before them
LastTwo : Followed → Type 0
LastTwo f = (b : Source) × ((a : Source) × ((older : List Source) × ((y : DebugDelta) × ((x : DebugDelta) × ((debugs : List DebugDelta) × ((f.deltas ≡ b ∷ a ∷ older) × (f.debugs ≡ y ∷ x ∷ debugs)))))))

last_two : (deltas : List Source) (debugs : List DebugDelta) (f : Followed) → f.deltas ≡ deltas → f.debugs ≡ debugs → 2 ≤ length deltas → AllGo deltas debugs → LastTwo f
unfolding AllGo LastTwo
last_two [] debugs f d e two go = absurd (omega (arith, two))
last_two (b ∷ []) debugs f d e two go = absurd (omega (arith, two))
last_two (b ∷ a ∷ older) [] f d e two go = absurd go
last_two (b ∷ a ∷ older) (y ∷ []) f d e two go = absurd go.1
last_two (b ∷ a ∷ older) (y ∷ x ∷ debugs) f d e two go = (b, (a, (older, (y, (x, (debugs, (d, e)))))))

-- what comes of merging, by the weight of the PDB and the first reference that lies too deep
heavy_by : (name out : List ℕ) (f : Followed) → nat_lt most_pdb_weight (weight_of_last f) ≡ true → merged_on name out f ≡ Err (past_limit (pdb out) (limit.Heap stream.Pdb))
unfolding can_be_merged
heavy_by name out f w = rw w refl

deep_by : (name out : List ℕ) (f : Followed) (t : Token) → nat_lt most_pdb_weight (weight_of_last f) ≡ false → first_deep (plain_of f) ≡ Some t → merged_on name out f ≡ Err (deep_chain name t)
unfolding can_be_merged
deep_by name out f t w o = rw (w, o) refl

fine_by : (name out : List ℕ) (f : Followed) → nat_lt most_pdb_weight (weight_of_last f) ≡ false → first_deep (plain_of f) ≡ None → merged_on name out f ≡ Ok (merges out f)
unfolding can_be_merged
fine_by name out f w o = rw (w, o) refl

weight_is : (f : Followed) (b a : Source) (older : List Source) → f.deltas ≡ b ∷ a ∷ older → weight_of_last f ≡ weight_of_both (chain_with f.base older) a b (debug_after f)
unfolding weight_of_last
weight_is f b a older e = ap (λ ds. weight_by f.base ds (debug_after f)) e

module_is : (f : Followed) (b a : Source) (older : List Source) → f.deltas ≡ b ∷ a ∷ older → plain_of f ≡ (after_both (chain_with f.base older) a b).plain
unfolding chain_with
module_is f b a older e = ap (λ ds. (chain_with f.base ds).plain) e

-- the last two of accepted deltas merged
abbrev pub MergesOf : Followed → Result DeltaBytes MergeFault → Type 0
MergesOf f r =
    (a b : Source) (older : List Source) (x y : DebugDelta) (debugs : List DebugDelta) → f.deltas ≡ b ∷ a ∷ older → f.debugs ≡ y ∷ x ∷ debugs
    → MergesBoth (chain_with f.base older) a b (pdb_with f.debug debugs) (pdb_with f.debug f.debugs) r

-- of rows and points that are asked of a chain
pub merges_of : (k : Kept) (found : History) (told : PdbHistory) (r : Result DeltaBytes MergeFault) → found ≡ k.rows → told ≡ k.points
    → ((a b : Source) (older : List Source) (x y : DebugDelta) (debugs : List DebugDelta) → found.deltas ≡ b ∷ a ∷ older → told.deltas ≡ y ∷ x ∷ debugs
    → MergesBoth (chain_with found.base older) a b (pdb_with told.base debugs) (pdb_with told.base told.deltas) r)
    → MergesOf (followed k) r
merges_of k found told r same alike both = rw (same, alike) at both

pub plan_of_merged : (name out : List ℕ) (f : Followed) (plan : Plan) (d : DeltaBytes) → 2 ≤ length f.deltas → AllGo f.deltas f.debugs → MergesOf f (Ok d)
    → plan.outcome ≡ Done → plan.output.items ≡ saved_line (meta out ∷ il out ∷ pdb out ∷ []) → saves_of plan.saves.items ≡ (meta out, d.meta) ∷ (il out, d.il) ∷ (pdb out, d.pdb) ∷ []
    → IsPlanOf (merged_on name out f) plan
unfolding LastTwo
plan_of_merged name out f plan d two go merged done line saved = by (last_two f.deltas f.debugs f refl refl two go)
  where
    by : LastTwo f → IsPlanOf (merged_on name out f) plan
    by (b, (a, (older, (y, (x, (debugs, (ds, es))))))) =
        let m = merged a b older x y debugs ds es in
        let w : nat_lt most_pdb_weight (weight_of_last f) ≡ false = ap (nat_lt most_pdb_weight) (weight_is f b a older ds) ∙ m.1 in
        let o : first_deep (plain_of f) ≡ None = ap first_deep (module_is f b a older ds) ∙ m.2 in
        let rest : debugs ≡ drop 2 f.debugs = ap (drop 2) (sym es) in
        let stand = subst (λ l. StandsForBoth (chain_with f.base older) a b (pdb_with f.debug l) (debug_after f) d) rest m.0 in
        subst (λ (v : Verdict). IsPlanOf v plan) (sym (fine_by name out f w o))
        (record { outcome = done; output = line; saves = record { files = d; saved = saved; second = b; first = a; older = older; deltas = ds; stand = stand } })

pub plan_of_heavy : (name out : List ℕ) (f : Followed) (h : Halt) → 2 ≤ length f.deltas → AllGo f.deltas f.debugs → MergesOf f (Err TooLarge)
    → OnPlan h (IsPlanOf (Err (past_limit (pdb out) (limit.Heap stream.Pdb)))) → OnPlan h (IsPlanOf (merged_on name out f))
unfolding LastTwo
plan_of_heavy name out f h two go merged plan = by (last_two f.deltas f.debugs f refl refl two go)
  where
    by : LastTwo f → OnPlan h (IsPlanOf (merged_on name out f))
    by (b, (a, (older, (y, (x, (debugs, (ds, es))))))) =
        let m = merged a b older x y debugs ds es in
        let w : nat_lt most_pdb_weight (weight_of_last f) ≡ true = ap (nat_lt most_pdb_weight) (weight_is f b a older ds) ∙ m in
        subst (λ (v : Verdict). OnPlan h (IsPlanOf v)) (sym (heavy_by name out f w)) plan

pub plan_of_deep : (name out : List ℕ) (f : Followed) (t : Token) (h : Halt) → 2 ≤ length f.deltas → AllGo f.deltas f.debugs → MergesOf f (Err (Deep t))
    → OnPlan h (IsPlanOf (Err (deep_chain name t))) → OnPlan h (IsPlanOf (merged_on name out f))
unfolding LastTwo
plan_of_deep name out f t h two go merged plan = by (last_two f.deltas f.debugs f refl refl two go)
  where
    by : LastTwo f → OnPlan h (IsPlanOf (merged_on name out f))
    by (b, (a, (older, (y, (x, (debugs, (ds, es))))))) =
        let m = merged a b older x y debugs ds es in
        let w : nat_lt most_pdb_weight (weight_of_last f) ≡ false = ap (nat_lt most_pdb_weight) (weight_is f b a older ds) ∙ m.0 in
        let o : first_deep (plain_of f) ≡ Some t = ap first_deep (module_is f b a older ds) ∙ m.1 in
        subst (λ (v : Verdict). OnPlan h (IsPlanOf v)) (sym (deep_by name out f t w o)) plan
