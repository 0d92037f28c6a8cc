-- The chain of a generated case as far as it is made, and that nothing ends it but want of memory.
use Rattle.std.proofs.Common.{◌≡◌, ℕ, ◌+◌, ◌≤◌, true, List, [], ◌∷◌, ◌++◌, length, map, take, Option, Some, None, Ok, Err, refl, sym, ap, ◌∙◌, subst, arith, length-append}
use Rattle.std.specs.Prelude.{slice_get}
use Rattle.std.specs.List.{list_all}
use Rattle.std.proofs.Math.Path.{fun_ext}
use Rattle.std.proofs.Math.Seq.{take-length}
use Rattle.std.proofs.lemmas.List.{map-append}
use Rattle.enc_base.specs.declared.token.Token.{Token}
use Rattle.enc_meta.specs.Built.{heaps_built}
use Rattle.enc_meta.specs.Heaps.{Counted}
use Rattle.enc_meta.specs.Joined.{joined_lengths}
use Rattle.enc_meta.proofs.JoinedLengths.{lengths_alone}
use Rattle.enc_rows.specs.Source.{Source}
use Rattle.enc_plain.specs.Chain.{Chain}
use Rattle.enc_plain.specs.Debug.{PlainPdb, unknown, debug_of}
use Rattle.enc_plain.specs.Module.{Module}
use Rattle.enc_plain.specs.SoundDebug.{KnowsWithin}
use Rattle.enc_image.specs.Base.{base_of, chain_of_base}
use Rattle.enc_agg.specs.Extend.{chain_with, extended}
use Rattle.enc_agg.specs.Seen.{History, chain_of_all}
use Rattle.enc_ppdb.specs.PdbChain.{DebugDelta, points_at, debug_at, pdb_begun, pdb_with}
use Rattle.enc_ppdb.specs.Written.{MeansPdb}
use Rattle.enc_checker.specs.Check.{accepted}
use Rattle.enc_rewriter.specs.Limits.{Passed, rewrite_limit, IsFault}
use Rattle.enc_rewriter.specs.Rewritten.{RewritesTo}
use Rattle.enc_rewriter.specs.declared.fault.RewriteFault.{RewriteFault}
use Rattle.enc_edit_list.specs.Form.{list_fits}
use Rattle.enc_edit_list.specs.declared.edit.EditList.{EditList}
use Rattle.enc_pdb_writer.specs.Stated.{points_lie_within}
use Rattle.enc_rules.specs.Edited.{rows_edited, edited}
use Rattle.enc_rules.specs.First.{first_edit}
use Rattle.enc_list_delta.specs.Holds.{heaps_written}
use Rattle.enc_emit.specs.declared.delta_bytes.DeltaBytes.{DeltaBytes}
use Rattle.enc_writer.specs.declared.fault.EditFault.{EditFault}
use Rattle.enc_writer.specs.declared.fault.EditFault.TheVariants.{Broken}
use Rattle.enc_writer.specs.Stands.{IsWrittenFor, WritesEdits}
use Rattle.enc_generator.specs.Generated.{generated_base, generated_lists, edited_by}
use Rattle.enc_generator.specs.Laws.{AreLittle, IsDrawnChain, GeneratedFits, GeneratedLie, GeneratedTellsNothing, BaseIsLittle, GeneratedObeys, GeneratedStaysLittle, GeneratedIsLight}
use Rattle.enc_commands.specs.Verdict.{Followed, followed_by, plain_of, debug_after}
use Rattle.enc_commands.specs.Generating.{no_points}
use Rattle.enc_commands.specs.Series.{AreDrawn, IsSeries}
use Rattle.enc_commands.specs.Loads.{followed}
use Rattle.enc_commands.specs.declared.commands.generate.Series.{Series}
use Rattle.enc_commands.proofs.BaseHeaps.{base_heaps_within}

-- the heaps of the base are no longer than its file, which is little
base_heaps_little : (p : PlainPdb) (image symbols : List ℕ) (s : Source) → RewritesTo generated_base p image symbols → base_of image ≡ Ok s → BaseIsLittle → AreLittle 0 (joined_lengths (s.heaps ∷ []))
base_heaps_little p image symbols s written read little =
    let within = base_heaps_within image s read in
    let a = within.strings in
    let b = within.users in
    let c = within.blobs in
    let d = within.guids in
    let light = written.light in
    rw (lengths_alone s.heaps) (record {
      strings = omega (arith, a, light, little);
      users = omega (arith, b, light, little);
      blobs = omega (arith, c, light, little);
      guids = omega (arith, d, light, little);
    })

pub base_drawn : (p : PlainPdb) (image symbols : List ℕ) (w : RewritesTo generated_base p image symbols) → BaseIsLittle → IsDrawnChain [] (chain_with w.image_is.source [])
unfolding chain_with chain_of_base edited_by
base_drawn p image symbols w little =
    record { plain = w.image_is.means; ids = refl; heaps = base_heaps_little p image symbols w.image_is.source w w.image_is.read little }

-- what that PDB says of a method, which is nothing
pub base_silent : (methods : ℕ) (symbols : List ℕ) (d : MeansPdb no_points methods symbols) (method : Token) → pdb_with (Some d.source) [] method ≡ unknown
unfolding pdb_with
base_silent methods symbols d method = d.means method

-- where there is no PDB, nothing is known
none_known : (method : Token) → pdb_with None [] method ≡ no_points method
unfolding pdb_with pdb_begun debug_at points_at debug_of
none_known method = refl

pub none_is : (base : Option Source) (deltas : List DebugDelta) → base ≡ None → deltas ≡ [] → pdb_with base deltas ≡ no_points
none_is base deltas none bare = rw (none, bare) (fun_ext none_known)

pub none_within : (base : Option Source) (deltas : List DebugDelta) (methods : ℕ) → base ≡ None → deltas ≡ [] → KnowsWithin (pdb_begun None) methods → KnowsWithin (pdb_with base deltas) methods
unfolding pdb_with
none_within base deltas methods none bare within = rw (none, bare) within

pub none_written : (m : Module) (p : PlainPdb) (image symbols : List ℕ) → m ≡ generated_base → p ≡ no_points → RewritesTo m p image symbols → RewritesTo generated_base no_points image symbols
none_written m p image symbols is none written = subst (λ q. RewritesTo generated_base q image symbols) none (subst (λ n. RewritesTo n p image symbols) is written)

-- no limit is passed, so that want of memory it was
pub no_limit : (fault : RewriteFault) (o : Option Passed) → IsFault fault o → o ≡ None → IsFault fault None
no_limit fault o tells none = subst (λ (x : Option Passed). IsFault fault x) none tells

-- a list of a case stands at its place
at_place : (lists : List EditList) (k : ℕ) (l : EditList) (d : AreDrawn lists) → slice_get lists k ≡ Some l → slice_get (generated_lists d.start d.count) k ≡ Some l
at_place lists k l d there = subst (λ xs. slice_get xs k ≡ Some l) d.lists_are there

-- the chain of those before it
before_it : (lists : List EditList) (k : ℕ) (c : Chain) (d : AreDrawn lists) → IsDrawnChain (take k lists) c → IsDrawnChain (take k (generated_lists d.start d.count)) c
before_it lists k c d drawn = subst (λ xs. IsDrawnChain (take k xs) c) d.lists_are drawn

-- what the laws of cases say of it
pub drawn_fits : (lists : List EditList) (k : ℕ) (l : EditList) → AreDrawn lists → GeneratedFits → slice_get lists k ≡ Some l → list_fits l ≡ true
drawn_fits lists k l d law there = law d.start d.count k l d.few (at_place lists k l d there)

pub drawn_lies : (lists : List EditList) (k : ℕ) (l : EditList) → AreDrawn lists → GeneratedLie → slice_get lists k ≡ Some l → list_all points_lie_within l.edits ≡ true
drawn_lies lists k l d law there = law d.start d.count k l (at_place lists k l d there)

pub drawn_obeys : (lists : List EditList) (k : ℕ) (l : EditList) (c : Chain) (fault : EditFault) (rule edit : ℕ) → AreDrawn lists → GeneratedObeys → slice_get lists k ≡ Some l → IsDrawnChain (take k lists) c
    → fault ≡ Broken rule edit → WritesEdits c l (Err fault) → ⊥
drawn_obeys lists k l c fault rule edit d law there drawn is told =
    let none : first_edit c l ≡ None = law d.start d.count k l c d.few (at_place lists k l d there) (before_it lists k c d drawn) in
    let broken : first_edit c l ≡ Some (rule, edit) = subst (λ (f : EditFault). WritesEdits c l (Err f)) is told in
    cc

-- so it is of the rows that are asked of a chain
pub drawn_obeys_of : (lists : List EditList) (k : ℕ) (l : EditList) (held found : History) (fault : EditFault) (rule edit : ℕ) → found ≡ held → AreDrawn lists → GeneratedObeys
    → slice_get lists k ≡ Some l → IsDrawnChain (take k lists) (chain_of_all held) → fault ≡ Broken rule edit → WritesEdits (chain_of_all found) l (Err fault) → ⊥
drawn_obeys_of lists k l held found fault rule edit same d law there drawn is told =
    drawn_obeys lists k l (chain_of_all held) fault rule edit d law there drawn is (subst (λ (h : History). WritesEdits (chain_of_all h) l (Err fault)) same told)

-- one list more: its edits are made, its EncId is behind the others, and its heaps stay little
heaps_little : (lists : List EditList) (k : ℕ) (l : EditList) (c : Chain) (s : Source) → AreDrawn lists → GeneratedStaysLittle → slice_get lists k ≡ Some l → IsDrawnChain (take k lists) c → s.heaps ≡ heaps_built (heaps_written c l) → AreLittle (k + 1) (joined_lengths (extended c s).heaps)
unfolding extended heaps_written
heaps_little lists k l c s d law there drawn is =
    subst (λ (h : Counted). AreLittle (k + 1) (joined_lengths (c.heaps ++ h ∷ []))) (sym is) (law d.start d.count k l c d.few (at_place lists k l d there) (before_it lists k c d drawn))

ids_more : (lists : List EditList) (l : EditList) → map (λ (x : EditList). x.enc_id) (lists ++ l ∷ []) ≡ map (λ (x : EditList). x.enc_id) lists ++ l.enc_id ∷ []
ids_more lists l = map-append (λ (x : EditList). x.enc_id) lists (l ∷ [])

edited_more : (m : Module) (lists : List EditList) (l : EditList) → edited_by m (lists ++ l ∷ []) ≡ edited (edited_by m lists) l.edits
unfolding edited_by
edited_more m [] l = refl
edited_more m (x ∷ xs) l = edited_more (edited m x.edits) xs l

pub drawn_more : (lists : List EditList) (k : ℕ) (l : EditList) (c : Chain) (d : DeltaBytes) (w : IsWrittenFor c l d) → AreDrawn lists → GeneratedStaysLittle → slice_get lists k ≡ Some l → length (take k lists) ≡ k → IsDrawnChain (take k lists) c
    → IsDrawnChain (take k lists ++ l ∷ []) (extended c w.stands.source)
drawn_more lists k l c d w are law there many drawn =
    let n = length-append (take k lists) (l ∷ []) in
    let e : k + 1 ≡ length (take k lists ++ l ∷ []) = omega (arith, n, many) in
    record {
      plain = w.stands.means ∙ ap (λ (m : Module). edited m l.edits) drawn.plain ∙ sym (edited_more generated_base (take k lists) l);
      ids = w.stands.enc_id ∙ ap (λ ids. ids ++ l.enc_id ∷ []) drawn.ids ∙ sym (ids_more (take k lists) l);
      heaps = subst (λ m. AreLittle m (joined_lengths (extended c w.stands.source).heaps)) e (heaps_little lists k l c w.stands.source are law there drawn w.says.heaps);
    }

-- and nothing more is known of a method
pub nothing_more : (lists : List EditList) (k : ℕ) (l : EditList) (f : Followed) (d : DeltaBytes) (w : IsWrittenFor (chain_with f.base f.deltas) l d) → AreDrawn lists → GeneratedTellsNothing → slice_get lists k ≡ Some l
    → ((method : Token) → debug_after f method ≡ unknown) → (method : Token) → debug_after (followed_by f (accepted w.stands.source (Some w.stands.symbols))) method ≡ unknown
unfolding pdb_with
nothing_more lists k l f d w are law there nothing method =
    w.stands.debug (debug_after f) method ∙ law are.start are.count k l (debug_after f) (rows_edited (plain_of f) l.edits) method (at_place lists k l are there) (nothing method)

-- the module after all passes no limit
pub end_is_light : (out : List ℕ) (start count : ℕ) (s : Series) → IsSeries out (generated_lists start count) s → count ≤ 64 → GeneratedIsLight → rewrite_limit (plain_of (followed s.held)) (debug_after (followed s.held)) ≡ None
end_is_light out start count s series few law =
    let lists = generated_lists start count in
    subst (λ (m : Module). rewrite_limit m (debug_after (followed s.held)) ≡ None) (sym series.drawn.plain)
    (subst (λ xs. rewrite_limit (edited_by generated_base xs) (debug_after (followed s.held)) ≡ None) (take-length lists) (law start count (length lists) (debug_after (followed s.held)) few series.nothing))

-- and so does the base
base_light : GeneratedIsLight → rewrite_limit generated_base no_points ≡ None
unfolding edited_by
base_light law = law 0 0 0 no_points (omega arith) (λ method. refl)

pub base_is_light : (m : Module) (p : PlainPdb) → m ≡ generated_base → p ≡ no_points → GeneratedIsLight → rewrite_limit m p ≡ None
base_is_light m p is none law = rw (is, none) (base_light law)
