-- The bodies that an accepted delta brings are those of the module with it.
use Rattle.std.proofs.Common.{◌≡◌, ℕ, ◌≤◌, Bool, true, false, List, length, Option, Some, None, Ok, refl, sym, ◌∙◌}
use Rattle.std.specs.Prelude.{IsTrue, unwrap_or, if◌then◌else◌}
use Rattle.std.specs.List.{list_any}
use Rattle.enc_base.specs.Token.{is_token}
use Rattle.enc_base.specs.declared.token.Token.{Token}
use Rattle.enc_opcodes.specs.Body.{Body, body_of, texts_are_there}
use Rattle.enc_rows.specs.Source.{Source}
use Rattle.enc_base.specs.Tables.{method_def}
use Rattle.enc_plain.specs.Cell.{body, bodies}
use Rattle.enc_plain.specs.Chain.{Chain}
use Rattle.enc_plain.specs.Debug.{PlainPdb}
use Rattle.enc_plain.specs.Fits.{Fits}
use Rattle.enc_plain.specs.Module.{rows_in, has_row, cell_of}
use Rattle.enc_plain.specs.Sound.{IsSound}
use Rattle.enc_delta.specs.Delta.{listed, place_in}
use Rattle.enc_delta.specs.Rules.{users_after, has_body}
use Rattle.enc_delta.specs.Seen.{WasRead}
use Rattle.enc_delta.proofs.Unbroken.{unbroken}
use Rattle.enc_agg.specs.Extend.{changes_of, extended}
use Rattle.enc_agg.specs.Follows.{Follows}
use Rattle.enc_agg.proofs.Children.{rows_grow}
use Rattle.enc_agg.proofs.Fitting.{fits}
use Rattle.enc_agg.proofs.SoundDeltas.{delta_bytes, bytes_follow}
use Rattle.enc_agg.proofs.Tokens.{place_row}
use Rattle.enc_agg.proofs.Viewing.{kept_cell, kept_row}
use Rattle.enc_checker.specs.Check.{new_code, new_bodies, accepted, judged}
use Rattle.enc_ppdb.specs.PdbChain.{delta_row, points_at, documents_at, debug_at, has_changed, debug_or, pdb_changed}
use Rattle.enc_versions.proofs.Lines.{read_as_known}
use Rattle.enc_versions.specs.Commit.{brought, last_row}
use Rattle.enc_versions.specs.StandFor.{lines_read, lines_known, IsVersionOf}
use Rattle.enc_versions.specs.Version.{Version}
use Rattle.enc_session.specs.Codes.{no_code, new_version, new_versions, meant_by, AcceptedBodiesAreNew}
use Rattle.enc_session.proofs.Brought.{stands, both_ways, stands_turned, brought_is, rows_within}
use Rattle.enc_session.proofs.ListedBodies.{IsNew, is_new, none_new, cell_new, row_listed, had_none, bare_cell, texts_new}
use Rattle.enc_session.proofs.NamedMethods.{IsPlaced, is_placed, no_delta_row}

-- what is known of a delta that is accepted
record Leads (c : Chain) (d : Source) (pdb : Option Source) : Type 0 where
  placed : IsPlaced c (accepted d pdb)
  follows : Follows c d
  sound : IsSound c.plain
  fit : Fits c.plain (changes_of c d)

leads : (c : Chain) (d : Source) (pdb : Option Source) (bytes : Option (List ℕ)) → WasRead d → judged c (Ok d) bytes ≡ Ok (accepted d pdb) → IsSound c.plain
    → Leads c d pdb
leads c d pdb bytes was so sound =
    let placed = is_placed c d bytes (accepted d pdb) so in
    let follows = bytes_follow c d (delta_bytes was.metadata was.il d was.bytes was.code was.read) placed.rules in
    record { placed = placed; follows = follows; sound = sound; fit = fits c d sound.owners.tables follows.lands }

-- a method is brought a body just where it is one of those that have one
brought_here : (d : Source) (pdb : Option Source) (u : Token) (b : Bool) (v : Version) → stands u (new_bodies d) ≡ b
    → (if b then Some (new_version d pdb u).version else None) ≡ Some v → (stands u (new_bodies d) ≡ true) × ((new_version d pdb u).version ≡ v)
brought_here d pdb u true v e h = (e, cc)
brought_here d pdb u false v e h = absurd cc

brought_some : (d : Source) (pdb : Option Source) (u : Token) (v : Version) → brought (new_versions d pdb) u ≡ Some v
    → (stands u (new_bodies d) ≡ true) × ((new_version d pdb u).version ≡ v)
unfolding new_versions
brought_some d pdb u v h = brought_here d pdb u (stands u (new_bodies d)) v refl (sym (brought_is d pdb u (new_bodies d)) ∙ h)

brought_none : (d : Source) (pdb : Option Source) (u : Token) → brought (new_versions d pdb) u ≡ None → stands u (new_bodies d) ≡ false
unfolding new_versions
brought_none d pdb u h = by (stands u (new_bodies d)) (sym (brought_is d pdb u (new_bodies d)) ∙ h)
  where
    by : (b : Bool) → (if b then Some (new_version d pdb u).version else None) ≡ None → b ≡ false
    by true h = absurd cc
    by false h = refl

-- its points are those of the PDB's row, and without one none
lines_by : (debug : PlainPdb) (u : Token) (changed : List Token) (place : Option (Source × Token)) → list_any (is_token u) changed ≡ true
    → lines_read (points_at place) ≡ lines_known (debug_or place (has_changed changed u (debug u)))
unfolding points_at debug_at
lines_by debug u changed None e = rw e refl
lines_by debug u changed (Some place) e = read_as_known (documents_at (Some place)) (points_at (Some place))

lines_new : (debug : PlainPdb) (d : Source) (pdb : Option Source) (u : Token) → stands u (new_bodies d) ≡ true
    → lines_read (points_at (delta_row pdb u)) ≡ lines_known (pdb_changed debug (record { pdb = pdb; changed = new_bodies d }) u)
unfolding pdb_changed
lines_new debug d pdb u there = lines_by debug u (new_bodies d) (delta_row pdb u) (stands_turned u (new_bodies d) ∙ there)

-- a method without a new body and without a row in the PDB keeps its points
lines_kept : (debug : PlainPdb) (d : Source) (pdb : Option Source) (u : Token) → stands u (new_bodies d) ≡ false → delta_row pdb u ≡ None
    → pdb_changed debug (record { pdb = pdb; changed = new_bodies d }) u ≡ debug u
unfolding pdb_changed
lines_kept debug d pdb u out none = rw (none, stands_turned u (new_bodies d) ∙ out) refl

-- a method that has a new body has that
changed_cell : (c : Chain) (d : Source) (pdb : Option Source) (u : Token) → Leads c d pdb → IsNew d u
    → cell_of (extended c d).plain u 0 ≡ Some (body (Some (body_of (users_after c d) (unwrap_or (new_code d u) no_code))))
changed_cell c d pdb u lead new =
    let code = new.code.1 in
    rw code (cell_new c d u new.place.0 (Some new.code.0) lead.fit new.place.1 new.table code)

changed_texts : (c : Chain) (d : Source) (pdb : Option Source) (u : Token) → Leads c d pdb → IsNew d u
    → texts_are_there (users_after c d) (unwrap_or (new_code d u) no_code).code ≡ true
changed_texts c d pdb u lead new =
    let code = new.code.1 in
    rw code (texts_new c d u new.place.0 new.code.0 lead.follows new.place.1 new.table code)

is_changed : (c : Chain) (d : Source) (pdb : Option Source) (debug : PlainPdb) (u : Token) (v : Version) → Leads c d pdb
    → brought (new_versions d pdb) u ≡ Some v
    → IsVersionOf (users_after c d) (extended c d).plain (pdb_changed debug (record { pdb = pdb; changed = new_bodies d })) u (Some v)
is_changed c d pdb debug u v lead h =
    let is = brought_some d pdb u v h in
    rw (← is.1) (record { means = changed_cell c d pdb u lead (is_new d u is.0); texts = changed_texts c d pdb u lead (is_new d u is.0); lines = lines_new debug d pdb u is.0 })

-- one that is listed without one has none, and had none
listed_bare : (c : Chain) (d : Source) (pdb : Option Source) (u : Token) (k : ℕ) → Leads c d pdb → u.table ≡ method_def → place_in (listed d) u ≡ Some k
    → stands u (new_bodies d) ≡ false → cell_of (extended c d).plain u 0 ≡ Some (body None)
listed_bare c d pdb u k lead is place out = cell_new c d u k None lead.fit place is (none_new d u k (new_code d u) refl out is place)

was_bare : (c : Chain) (d : Source) (pdb : Option Source) (u : Token) (k : ℕ) → Leads c d pdb → u.table ≡ method_def → place_in (listed d) u ≡ Some k
    → stands u (new_bodies d) ≡ false → has_body (cell_of c.plain u 0) ≡ false
was_bare c d pdb u k lead is place out =
    let rules = unbroken c d lead.follows.rules in
    had_none c d u k rules.broken_body rules.lost_body (place_row c d u k lead.follows.lands place) place is (none_new d u k (new_code d u) refl out is place)

-- one without a new body keeps its cell
is_kept : (c : Chain) (d : Source) (pdb : Option Source) (u : Token) (o : Option ℕ) → Leads c d pdb → u.table ≡ method_def → IsTrue (has_row c.plain u)
    → place_in (listed d) u ≡ o → stands u (new_bodies d) ≡ false → cell_of (extended c d).plain u 0 ≡ cell_of c.plain u 0
is_kept c d pdb u None lead is there place out = kept_cell c d u 0 lead.fit place
is_kept c d pdb u (Some k) lead is there place out =
    let kind = lead.sound.kinds.kinds u 0 bodies there (rw is refl) in
    listed_bare c d pdb u k lead is place out ∙ sym (bare_cell (cell_of c.plain u 0) (was_bare c d pdb u k lead is place out) kind)

-- and its points, where it had a body
is_known : (c : Chain) (d : Source) (pdb : Option Source) (debug : PlainPdb) (u : Token) (b : Body) (o : Option ℕ) → Leads c d pdb → u.table ≡ method_def
    → cell_of c.plain u 0 ≡ Some (body (Some b)) → place_in (listed d) u ≡ o → stands u (new_bodies d) ≡ false
    → pdb_changed debug (record { pdb = pdb; changed = new_bodies d }) u ≡ debug u
is_known c d pdb debug u b None lead is has place out = lines_kept debug d pdb u out (no_delta_row d pdb u is lead.placed.placed place)
is_known c d pdb debug u b (Some k) lead is has place out =
    absurd (both_ways (has_body (cell_of c.plain u 0)) (rw has refl) (was_bare c d pdb u k lead is place out))

-- one that is new has none
is_added : (c : Chain) (d : Source) (pdb : Option Source) (u : Token) (o : Option ℕ) → Leads c d pdb → u.table ≡ method_def
    → IsTrue (has_row (extended c d).plain u) → has_row c.plain u ≡ false → place_in (listed d) u ≡ o → stands u (new_bodies d) ≡ false
    → cell_of (extended c d).plain u 0 ≡ Some (body None)
is_added c d pdb u None lead is there before place out = absurd (both_ways (has_row c.plain u) (kept_row c d u lead.fit place there) before)
is_added c d pdb u (Some k) lead is there before place out = listed_bare c d pdb u k lead is place out

-- no new body is past the last method
new_row : (c : Chain) (d : Source) (u : Token) → Fits c.plain (changes_of c d) → IsNew d u → u.row ≤ length (rows_in (extended c d).plain method_def)
new_row c d u fit new = let is = new.table in rw is at (row_listed c d u new.place.0 fit new.place.1)

last_within : (c : Chain) (d : Source) (pdb : Option Source) → Fits c.plain (changes_of c d)
    → last_row (new_versions d pdb) ≤ length (rows_in (extended c d).plain method_def)
unfolding new_versions
last_within c d pdb fit = rows_within d pdb (length (rows_in (extended c d).plain method_def)) (new_bodies d) (λ u there. new_row c d u fit (is_new d u there))

-- the heaps are those with the delta's
users_with : (c : Chain) (d : Source) (debug : PlainPdb) → (meant_by (extended c d) debug).users ≡ users_after c d
unfolding extended
users_with c d debug = refl

pub accepted_bodies_are_new : AcceptedBodiesAreNew
accepted_bodies_are_new c d pdb bytes debug was so sound =
    let lead = leads c d pdb bytes was so sound in
    record {
      rows = rows_grow c d sound.owners.tables lead.follows.lands method_def;
      within = last_within c d pdb lead.fit;
      changed = λ u is v h. rw (users_with c d debug) (is_changed c d pdb debug u v lead h);
      kept = λ u is none. is_kept c d pdb u (place_in (listed d) u) lead is.0 is.1 refl (brought_none d pdb u none);
      known = λ u b is has none. is_known c d pdb debug u b (place_in (listed d) u) lead is.0 has refl (brought_none d pdb u none);
      added = λ u is before none. is_added c d pdb u (place_in (listed d) u) lead is.0 is.1 before refl (brought_none d pdb u none);
    }
