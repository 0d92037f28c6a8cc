-- The files of a generated case, one after the other.
use Rattle.std.proofs.Common.{◌≡◌, ℕ, zero, suc, ◌+◌, ◌≤◌, List, [], ◌∷◌, ◌++◌, length, take, Option, Some, Result, Ok, Err, refl, sym, ap, ◌∙◌, subst, arith, append_assoc, append-nil}
use Rattle.std.specs.Prelude.{slice_get}
use Rattle.enc_base.specs.declared.refusal.Refusal.{Refusal}
use Rattle.enc_rows.specs.Source.{Source}
use Rattle.enc_plain.specs.Chain.{Chain}
use Rattle.enc_plain.specs.Debug.{PlainPdb}
use Rattle.enc_plain.specs.Module.{Module}
use Rattle.enc_plain.specs.Sound.{row_count}
use Rattle.enc_image.specs.Base.{chain_of_base}
use Rattle.enc_delta.specs.Delta.{delta_of}
use Rattle.enc_agg.specs.Extend.{chain_with, extended}
use Rattle.enc_agg.specs.Seen.{chain_of_all}
use Rattle.enc_ppdb.specs.Written.{MeansPdb}
use Rattle.enc_checker.specs.Check.{Accepted, accepted, judged}
use Rattle.enc_rewriter.specs.Rewritten.{MeansModule, RewritesTo}
use Rattle.enc_edit_list.specs.declared.edit.EditList.{EditList}
use Rattle.enc_emit.specs.declared.delta_bytes.DeltaBytes.{DeltaBytes}
use Rattle.enc_writer.specs.Stands.{StandsFor, IsWrittenFor}
use Rattle.enc_generator.specs.Generated.{generated_base, turns_from, state_after, methods_added, lists_from, generated_lists}
use Rattle.enc_generator.specs.Laws.{IsDrawnChain, BaseIsLittle, GeneratedStaysLittle, GeneratedTellsNothing}
use Rattle.enc_commands.specs.Verdict.{Stop, meta, pdb, DeltaFiles, BaseFiles, Followed, followed_by, in_delta, judge_deltas, base_pdb, judge_all, debug_after}
use Rattle.enc_commands.specs.Generating.{no_points, delta_name, module_saves, delta_saves, StandInTurn}
use Rattle.enc_commands.specs.Series.{AreDrawn, IsSeries}
use Rattle.enc_commands.specs.Stops.{OnPlan, StopsWith}
use Rattle.enc_commands.specs.Loads.{followed}
use Rattle.enc_commands.specs.Plans.{saves_of}
use Rattle.enc_commands.specs.declared.commands.generate.Series.{Series}
use Rattle.enc_commands.specs.declared.plan.Plan.{Plan}
use Rattle.enc_saves.specs.declared.save.Save.{Save}
use Rattle.enc_commands.specs.declared.halt.Halt.{Halt}
use Rattle.enc_commands.specs.declared.halt.Halt.TheVariants as halt
use Rattle.enc_commands.proofs.Drawn.{base_drawn, base_silent, drawn_more, nothing_more}

-- where something comes of it, nothing stops it
on_none : (h : Halt) (P : Plan → Type 0) → ((plan : Plan) → P plan → ⊥) → OnPlan h P → OnPlan h (λ plan. ⊥)
on_none (halt.Plan plan) P f x = f plan x
on_none halt.Memory P f x = tt
on_none halt.Failed P f x = tt

pub nothing_said : {A : Type 0} (h : Halt) (r : Result A Stop) (a : A) → r ≡ Ok a → OnPlan h (StopsWith r) → OnPlan h (λ plan. ⊥)
nothing_said h r a is stops = on_none h (StopsWith r) (λ plan x. subst (λ q. StopsWith q plan) is x) stops

-- what came of it is what is defined
pub came : {A E : Type 0} (r : Result A E) (a b : A) → r ≡ Ok a → r ≡ Ok b → b ≡ a
came r a b is so = let e : Ok b ≡ Ok a = sym so ∙ is in cc

-- the base that was written, with its PDB
abbrev pub base_begun : (m : Module) (p : PlainPdb) (image symbols : List ℕ) → MeansModule m image → MeansPdb p (row_count m 6) symbols → Followed
base_begun m p image symbols b d = record { base = b.source; deltas = []; debug = Some (d.source); debugs = [] }

pdb_is : (m : Module) (p : PlainPdb) (image symbols : List ℕ) (b : MeansModule m image) (d : MeansPdb p (row_count m 6) symbols) → base_pdb (b.source) (Some symbols) ≡ Ok (Some (d.source))
unfolding base_pdb chain_of_base
pdb_is m p image symbols b d = rw (b.means, d.read) refl

pub base_judged : (m : Module) (p : PlainPdb) (name image symbols : List ℕ) (b : MeansModule m image) (d : MeansPdb p (row_count m 6) symbols)
    → judge_all name (record { bytes = image; debug = Some symbols }) [] ≡ Ok (base_begun m p image symbols b d)
unfolding judge_all judge_deltas
base_judged m p name image symbols b d = rw (b.read, pdb_is m p image symbols b d) refl

pub base_judged_as : (m : Module) (p : PlainPdb) (name image symbols : List ℕ) (b : MeansModule m image) (d : MeansPdb p (row_count m 6) symbols) (f : BaseFiles) (fs : List DeltaFiles)
    → f ≡ record { bytes = image; debug = Some symbols } → fs ≡ [] → judge_all name f fs ≡ Ok (base_begun m p image symbols b d)
base_judged_as m p name image symbols b d f fs is none = rw (is, none) (base_judged m p name image symbols b d)

pub series_begins : (out image symbols : List ℕ) (s : Series) (w : RewritesTo generated_base no_points image symbols) → BaseIsLittle
    → followed s.held ≡ base_begun generated_base no_points image symbols w.image_is w.pdb_is.means → saves_of s.saves.items ≡ module_saves out image symbols → IsSeries out [] s
series_begins out image symbols s w little is saved = record {
  image = image;
  symbols = symbols;
  deltas = [];
  begun = base_begun generated_base no_points image symbols w.image_is w.pdb_is.means;
  saved = saved ∙ sym (append-nil (module_saves out image symbols));
  base_is = w.image_is;
  base_debug = w.pdb_is.means;
  begins = record { base = w.image_is.read; debug = pdb_is generated_base no_points image symbols w.image_is w.pdb_is.means; deltas = refl; debugs = refl };
  stand = (refl, is);
  drawn = subst (λ (f : Followed). IsDrawnChain [] (chain_with f.base f.deltas)) (sym is) (base_drawn no_points image symbols w little);
  nothing = λ method. ap (λ (f : Followed). debug_after f method) is ∙ base_silent _ symbols w.pdb_is.means method;
}

-- one list more, behind those that stand in turn
stand_more : (out : List ℕ) (n : ℕ) (f : Followed) (lists : List EditList) (l : EditList) (saves : List (List ℕ × List ℕ)) (g : Followed) (d : DeltaBytes) (a : Accepted) → StandInTurn out n f lists saves g
    → StandsFor (chain_with g.base g.deltas) l d → judged (chain_with g.base g.deltas) (delta_of d.meta d.il) (Some d.pdb) ≡ Ok a
    → StandInTurn out n f (lists ++ l ∷ []) (saves ++ delta_saves (delta_name out (n + length lists)) d) (followed_by g a)
stand_more out n f [] l saves g d a so stand is =
    let e : n + 0 ≡ n = omega arith in
    rw (so.0, e) (d, a, [], subst (λ (x : Followed). StandsFor (chain_with x.base x.deltas) l d) (so.1) stand, subst (λ (x : Followed). judged (chain_with x.base x.deltas) (delta_of d.meta d.il) (Some d.pdb) ≡ Ok a) (so.1) is, refl, (refl, ap (λ (x : Followed). followed_by x a) (so.1)))
stand_more out n f (x ∷ xs) l saves g d a so stand is =
    let e : n + 1 + length xs ≡ n + length (x ∷ xs) = omega arith in
    let rest = stand_more out (n + 1) (followed_by f (so.1)) xs l (so.2) g d a (so.6) stand is in (
      so.0,
      so.1,
      so.2 ++ delta_saves (delta_name out (n + 1 + length xs)) d,
      so.3,
      so.4,
      rw (← e) (ap (λ ys. ys ++ delta_saves (delta_name out (n + 1 + length xs)) d) (so.5) ∙ append_assoc (delta_saves (delta_name out n) (so.0)) (so.2) _),
      rest,
    )

take_more : {X : Type 0} (xs : List X) (i : ℕ) (x : X) → slice_get xs i ≡ Some x → take (i + 1) xs ≡ take i xs ++ x ∷ []
take_more [] i x h = absurd (cc)
take_more (y ∷ ys) zero x h = let e : y ≡ x = cc in ap (λ z. z ∷ []) e
take_more (y ∷ ys) (suc i) x h = let e : suc i + 1 ≡ suc (i + 1) = omega arith in rw e (ap (λ zs. y ∷ zs) (take_more ys i x h))

taken_many : {X : Type 0} (xs : List X) (i : ℕ) (x : X) → slice_get xs i ≡ Some x → length (take i xs) ≡ i
taken_many [] i x h = absurd (cc)
taken_many (y ∷ ys) zero x h = refl
taken_many (y ∷ ys) (suc i) x h = ap (λ n. suc n) (taken_many ys i x h)

-- the chain with one delta more
chain_more : (lists : List EditList) (f g : Followed) (s : Source) (p : Option Source) → g ≡ followed_by f (accepted s p) → IsDrawnChain lists (extended (chain_with f.base f.deltas) s) → IsDrawnChain lists (chain_with g.base g.deltas)
unfolding chain_with
chain_more lists f g s p after drawn = subst (λ (h : Followed). IsDrawnChain lists (chain_with h.base h.deltas)) (sym after) drawn

-- the list at a place of a case, its delta, and what was judged of it
pub record IsNext (lists : List EditList) (k : ℕ) (l : EditList) (c : Chain) (d : DeltaBytes) (a : Accepted) : Type 0 where
  pub drawn : AreDrawn lists
  pub there : slice_get lists k ≡ Some l
  pub stand : IsWrittenFor c l d
  pub is : judged c (delta_of d.meta d.il) (Some d.pdb) ≡ Ok a

pub series_more : (out : List ℕ) (lists : List EditList) (k : ℕ) (old new : Series) (l : EditList) (d : DeltaBytes) (a : Accepted) → IsSeries out (take k lists) old → IsNext lists k l (chain_of_all old.held.rows) d a → GeneratedStaysLittle
    → GeneratedTellsNothing → followed new.held ≡ followed_by (followed old.held) a → saves_of new.saves.items ≡ saves_of old.saves.items ++ delta_saves (delta_name out (k + 1)) d → IsSeries out (take (k + 1) lists) new
series_more out lists k old new l d a so next little silent after saved =
    let stand = next.stand in
    let taken = taken_many lists k l next.there in
    let many : 1 + length (take k lists) ≡ k + 1 = omega (arith, taken) in
    let e : accepted (stand.stands.source) (Some (stand.stands.symbols)) ≡ a = came _ a (accepted (stand.stands.source) (Some (stand.stands.symbols))) next.is (stand.stands.stands) in
    let now : followed new.held ≡ followed_by (followed old.held) (accepted (stand.stands.source) (Some (stand.stands.symbols))) = after ∙ ap (λ (x : Accepted). followed_by (followed old.held) x) (sym e) in
    subst (λ xs. IsSeries out xs new) (sym (take_more lists k l next.there)) (record {
      image = so.image;
      symbols = so.symbols;
      deltas = so.deltas ++ delta_saves (delta_name out (k + 1)) d;
      begun = so.begun;
      saved = saved ∙ ap (λ xs. xs ++ delta_saves (delta_name out (k + 1)) d) (so.saved) ∙ append_assoc (module_saves out (so.image) (so.symbols)) (so.deltas) _;
      base_is = so.base_is;
      base_debug = so.base_debug;
      begins = so.begins;
      stand = rw (after, ← many) (stand_more out 1 (so.begun) (take k lists) l (so.deltas) (followed old.held) d a (so.stand) stand.stands next.is);
      drawn = chain_more (take k lists ++ l ∷ []) (followed old.held) (followed new.held) (stand.stands.source) (Some (stand.stands.symbols)) now
          (drawn_more lists k l (chain_of_all old.held.rows) d stand next.drawn little next.there taken (so.drawn));
      nothing = λ method. ap (λ (f : Followed). debug_after f method) now ∙ nothing_more lists k l (followed old.held) d stand next.drawn silent next.there (so.nothing) method;
    })

-- saves behind none
pub first_saves : (saves new : List Save) (more : List (List ℕ × List ℕ)) → saves ≡ [] → saves_of new ≡ saves_of saves ++ more → saves_of new ≡ more
first_saves saves new more none is = rw none at is

-- what is judged of a delta's files
in_delta_is : (f : DeltaFiles) (r : Result Accepted Refusal) (a : Accepted) → in_delta f r ≡ Ok a → r ≡ Ok a
in_delta_is f (Ok b) a h = let e : b ≡ a = cc in ap (λ (x : Accepted). Ok x) e
in_delta_is f (Err e) a h = absurd (cc)

pub judged_of : (f : DeltaFiles) (name : List ℕ) (d : DeltaBytes) (c : Chain) (a : Accepted) → f ≡ record { name = meta name; debug_name = pdb name; metadata = d.meta; code = d.il; debug = Some d.pdb }
    → in_delta f (judged c (delta_of f.metadata f.code) f.debug) ≡ Ok a → judged c (delta_of d.meta d.il) (Some d.pdb) ≡ Ok a
judged_of f name d c a is h =
    subst (λ (x : DeltaFiles). judged c (delta_of x.metadata x.code) x.debug ≡ Ok a) is (in_delta_is f (judged c (delta_of f.metadata f.code) f.debug) a h)

-- what stands for a list is accepted, so that nothing is said
pub accepted_of : (f : DeltaFiles) (name : List ℕ) (d : DeltaBytes) (c : Chain) (l : EditList) → f ≡ record { name = meta name; debug_name = pdb name; metadata = d.meta; code = d.il; debug = Some d.pdb } → IsWrittenFor c l d
    → (a : Accepted) × (in_delta f (judged c (delta_of f.metadata f.code) f.debug) ≡ Ok a)
accepted_of f name d c l is written = let stand = written.stands in (accepted (stand.source) (Some (stand.symbols)), rw (is, stand.stands) refl)

-- as many lists as are asked for
lists_many : (list count methods x : ℕ) → length (lists_from list count methods x) ≡ count
unfolding lists_from
lists_many list zero methods x = refl
lists_many list (suc count) methods x = ap (λ n. suc n) (lists_many (list + 1) count (methods + methods_added (turns_from methods 20 x)) (state_after 20 x))

pub lists_few : (start count : ℕ) (lists : List EditList) → lists ≡ generated_lists start count → count ≤ 64 → length lists ≤ 64
lists_few start count lists is few = let many = ap (λ (xs : List EditList). length xs) is ∙ lists_many 1 count 1000 start in omega (arith, many, few)
