-- The parts of a session with an accepted delta.
use Rattle.std.proofs.Common.{◌≡◌, ℕ, ◌+◌, List, ◌∷◌, length, Option, None, Result, Ok, Err, refl, sym, ap, ◌∙◌, subst, arith}
use Rattle.std.specs.Prelude.{IsTrue, OnErr}
use Rattle.enc_agg.proofs.Histories.{heaps_count}
use Rattle.enc_agg.specs.Extend.{extended, chain_with}
use Rattle.enc_agg.specs.Seen.{History, chain_of_all, module_of_all, users_of_all}
use Rattle.enc_base.specs.declared.token.Token.{Token}
use Rattle.enc_checker.specs.Check.{new_bodies, accepted}
use Rattle.enc_checker.specs.Followed.{Followed, debug_after, followed_by}
use Rattle.enc_delta.specs.Delta.{listed}
use Rattle.enc_delta.specs.Judged.{first_meta}
use Rattle.enc_delta.specs.Seen.{WasRead}
use Rattle.enc_dispatch.specs.Changed.{IsChangedBy}
use Rattle.enc_dispatch.specs.Index.{StandsForModule}
use Rattle.enc_dispatch.specs.Stored.{DispatchParts, Room, with_room}
use Rattle.enc_meta.specs.Joined.{joined_user}
use Rattle.enc_plain.specs.Chain.{Chain}
use Rattle.enc_plain.specs.Debug.{PlainPdb}
use Rattle.enc_plain.specs.Module.{Module}
use Rattle.enc_plain.specs.Sound.{IsSound}
use Rattle.enc_ppdb.specs.PdbChain.{DebugDelta, pdb_with, pdb_changed}
use Rattle.enc_rows.specs.Source.{Source}
use Rattle.enc_versions.specs.Commit.{NewVersion, AreCommitted}
use Rattle.enc_versions.specs.Laws.{CommitStands}
use Rattle.enc_opcodes.specs.Body.{KeepsTexts}
use Rattle.enc_versions.specs.StandFor.{AreVersionsOf}
use Rattle.enc_versions.specs.Version.{Version}
use Rattle.enc_frames.specs.Machine.{PlainCode, MachineState, state_meant}
use Rattle.enc_vm.specs.Texts.{machine_texts}
use Rattle.enc_session.specs.Codes.{new_versions, meant_by, AcceptedBodiesAreNew, AcceptedRowsAreChanged}
use Rattle.enc_session.specs.Engine.{PlainEngine, AreParts, IsEngine, SayTheSame, followed_in, machine_in}
use Rattle.enc_chain.specs.Kept.{IsAcceptedAfter, chain_of}
use Rattle.enc_session.specs.declared.parts.Parts.{Parts}

-- an index stands for a module whatever its room
pub stands_with_room : (d : DispatchParts) (room : Room) (m : Module) → StandsForModule d m → StandsForModule (with_room room d) m
stands_with_room d room m s = record {
  class_count = s.class_count;
  classes = s.classes;
  method_count = s.method_count;
  methods = s.methods;
  own = s.own;
  met = s.met;
  own_all = s.own_all;
  met_all = s.met_all;
  impls = s.impls;
  bodies = s.bodies;
  interfaces = s.interfaces;
  links = s.links;
  buckets = s.buckets;
  locals_count = s.locals_count;
  locals = s.locals;
}

pub stands_same : (new old : DispatchParts) (room : Room) (m : Module) → new ≡ with_room room old → StandsForModule old m → StandsForModule new m
stands_same new old room m is s = rw is (stands_with_room old room m s)

-- the PDB with what a delta says
debug_more : (base : Option Source) (deltas : List DebugDelta) (d : DebugDelta) → pdb_with base (d ∷ deltas) ≡ pdb_changed (pdb_with base deltas) d
unfolding pdb_with
debug_more base deltas d = refl

-- the newest bodies stand for the module and the PDB with the delta
bodies_follow : (c : Chain) (d : Source) (pdb : Option Source) (debug : PlainPdb) (before after : List (Option Version))
    → CommitStands → AcceptedBodiesAreNew → IsAcceptedAfter c d pdb → IsSound c.plain → KeepsTexts (joined_user c.heaps) (joined_user (extended c d).heaps)
    → AreVersionsOf (joined_user c.heaps) c.plain debug before → AreCommitted (new_versions d pdb) before after
    → AreVersionsOf (joined_user (extended c d).heaps) (extended c d).plain (pdb_changed debug (record { pdb = pdb; changed = new_bodies d })) after
bodies_follow c d pdb debug before after commits news follows sound keeps are committed =
    commits (meant_by c debug) (meant_by (extended c d) (pdb_changed debug (record { pdb = pdb; changed = new_bodies d }))) (new_versions d pdb) before after are
    (news c d pdb follows.files debug follows.read follows.judged_ok sound) keeps committed

pub parts_follow : (new old : Parts) (d : Source) (pdb : Option Source) (codes : List NewVersion)
    → CommitStands → AcceptedBodiesAreNew → AreParts old → IsAcceptedAfter (chain_of_all old.joined.rows) d pdb → IsSound (module_of_all old.joined.rows)
    → chain_of_all new.joined.rows ≡ extended (chain_of_all old.joined.rows) d → KeepsTexts (users_of_all old.joined.rows) (users_of_all new.joined.rows)
    → followed_in new ≡ followed_by (followed_in old) (accepted d pdb)
    → codes ≡ new_versions d pdb → AreCommitted codes old.versions.methods new.versions.methods
    → StandsForModule new.dispatch (extended (chain_of_all old.joined.rows) d).plain
    → AreParts new
parts_follow new old d pdb codes commits news parts follows sound chain keeps more codes_is committed stands =
    let kept : KeepsTexts (users_of_all old.joined.rows) (joined_user (extended (chain_of_all old.joined.rows) d).heaps) =
    subst (λ (c : Chain). KeepsTexts (users_of_all old.joined.rows) (joined_user c.heaps)) chain keeps in
    let fact : AreCommitted (new_versions d pdb) old.versions.methods new.versions.methods =
    subst (λ (n : List NewVersion). AreCommitted n old.versions.methods new.versions.methods) codes_is committed in
    let bodies = bodies_follow (chain_of_all old.joined.rows) d pdb (pdb_with old.joined.points.base old.joined.points.deltas) old.versions.methods new.versions.methods commits news follows sound kept parts.bodies fact in
    let debug : pdb_with new.joined.points.base new.joined.points.deltas ≡ pdb_changed (pdb_with old.joined.points.base old.joined.points.deltas) (record { pdb = pdb; changed = new_bodies d }) =
    ap debug_after more ∙ (debug_more old.joined.points.base old.joined.points.deltas (record { pdb = pdb; changed = new_bodies d })) in
    record {
      index = subst (λ (c : Chain). StandsForModule new.dispatch c.plain) (sym chain) stands;
      bodies = rw debug (subst (λ (c : Chain). AreVersionsOf (joined_user c.heaps) c.plain (pdb_changed (pdb_with old.joined.points.base old.joined.points.deltas) (record { pdb = pdb; changed = new_bodies d })) new.versions.methods) (sym chain) bodies);
    }

-- how many generations there are
pub generation_is : (base : Source) (deltas : List Source) (n : ℕ) → n ≡ length (chain_with base deltas).heaps → n ≡ length deltas + 1
generation_is base deltas n is = omega (arith, is, heaps_count base deltas)

-- a chain by its files
chain_same : (new old : History) → new.base ≡ old.base → new.deltas ≡ old.deltas → chain_of_all new ≡ chain_of_all old
chain_same new old base deltas = rw (base, deltas) refl

-- the rows that a delta lists change the module, as it was made ready
pub changed_ready : (new old : History) (d e : Source) (ts : List Token) → AcceptedRowsAreChanged → new.base ≡ old.base → new.deltas ≡ old.deltas → e ≡ d
    → ts ≡ listed d → WasRead d → first_meta (chain_of_all old) d ≡ None → IsSound (module_of_all old)
    → IsChangedBy (module_of_all new) (extended (chain_of_all new) e).plain ts
changed_ready new old d e ts law base deltas delta tokens read rules sound =
    let fact : IsChangedBy (module_of_all old) (extended (chain_of_all old) d).plain (listed d) = law (chain_of_all old) d read rules sound in
    let with_tokens : IsChangedBy (module_of_all old) (extended (chain_of_all old) d).plain ts =
    subst (λ (xs : List Token). IsChangedBy (module_of_all old) (extended (chain_of_all old) d).plain xs) (sym tokens) fact in
    let with_delta : IsChangedBy (module_of_all old) (extended (chain_of_all old) e).plain ts =
    subst (λ (x : Source). IsChangedBy (module_of_all old) (extended (chain_of_all old) x).plain ts) (sym delta) with_tokens in
    subst (λ (c : Chain). IsChangedBy c.plain (extended c e).plain ts) (sym (chain_same new old base deltas)) with_delta

-- parts that say the same keep the invariant, and mean the same
pub same_engine : (new old : Parts) (s : MachineState Version) → SayTheSame new old → IsEngine old s → IsEngine new s
same_engine new old s same is =
    let chain = ap chain_of same.chain in
    let debug : pdb_with new.joined.points.base new.joined.points.deltas ≡ pdb_with old.joined.points.base old.joined.points.deltas = ap debug_after same.chain in
    let bodies : AreVersionsOf (users_of_all old.joined.rows) (module_of_all old.joined.rows) (pdb_with new.joined.points.base new.joined.points.deltas) new.versions.methods =
    rw (debug, same.methods) is.parts.bodies in
    record {
      parts = record {
        index = subst (λ (c : Chain). StandsForModule new.dispatch c.plain) (sym chain) (same.index is.parts.index);
        bodies = subst (λ (c : Chain). AreVersionsOf (joined_user c.heaps) c.plain (pdb_with new.joined.points.base new.joined.points.deltas) new.versions.methods) (sym chain) bodies;
      };
      texts = subst (λ (c : Chain). IsTrue (machine_texts (joined_user c.heaps) s)) (sym chain) is.texts;
    }

abbrev pub engine_of : Parts → MachineState Version → PlainEngine
engine_of p s = record { followed = followed_in p; machine = machine_in p s }

same_followed : (new old : Parts) → SayTheSame new old → followed_in new ≡ followed_in old
same_followed new old same = same.chain

same_machine : (new old : Parts) (s : MachineState Version) → SayTheSame new old → machine_in new s ≡ machine_in old s
same_machine new old s same = ap (λ (c : Chain). state_meant (joined_user c.heaps) s) (ap chain_of same.chain)

abbrev engine_with : Followed → MachineState PlainCode → PlainEngine
engine_with f m = record { followed = f; machine = m }

pub same_view : (new old : Parts) (s : MachineState Version) → SayTheSame new old → engine_of new s ≡ engine_of old s
same_view new old s same =
    ap (λ (f : Followed). engine_with f (machine_in new s)) (same_followed new old same)
    ∙ ap (engine_with (followed_in old)) (same_machine new old s same)

-- with a delta more
pub engine_follows : (new mid old : Parts) (s : MachineState Version) (d e : Source) (pdb other : Option Source) → SayTheSame mid old
    → followed_in new ≡ followed_by (followed_in mid) (accepted e other) → e ≡ d → other ≡ pdb → machine_in new s ≡ machine_in mid s
    → engine_of new s ≡ record { followed = followed_by (followed_in old) (accepted d pdb); machine = machine_in old s }
engine_follows new mid old s d e pdb other same more delta debug machine =
    ap (λ (f : Followed). engine_with f (machine_in new s))
    (more ∙ ap (λ (f : Followed). followed_by f (accepted e other)) (same_followed mid old same)
    ∙ ap (λ (x : Source). followed_by (followed_in old) (accepted x other)) delta
    ∙ ap (λ (x : Option Source). followed_by (followed_in old) (accepted d x)) debug)
    ∙ ap (engine_with (followed_by (followed_in old) (accepted d pdb))) (machine ∙ same_machine mid old s same)

pub on_err : {T E : Type 0} (r : Result T E) (P : Type 0) → P → OnErr r P
on_err (Ok x) P p = tt
on_err (Err e) P p = p
