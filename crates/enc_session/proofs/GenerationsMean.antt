-- A delta that brings a method no body leaves the body that it has now, and its points.
use Rattle.std.proofs.Common.{◌≡◌, Bool, false, Option, Some, None, option_map, refl, sym, ap, ◌∙◌}
use Rattle.std.specs.Prelude.{if◌then◌else◌}
use Rattle.std.specs.List.{list_any}
use Rattle.enc_agg.specs.Extend.{extended}
use Rattle.enc_base.specs.Token.{is_token}
use Rattle.enc_base.specs.declared.token.Token.{Token}
use Rattle.enc_checker.specs.Check.{new_bodies}
use Rattle.enc_frames.specs.Machine.{PlainCode}
use Rattle.enc_machine_types.specs.Members.{body_of_cell}
use Rattle.enc_opcodes.specs.Body.{Body}
use Rattle.enc_plain.specs.Cell.{Cell, number, text, blob, guid, refer, body, field}
use Rattle.enc_plain.specs.Debug.{PlainPdb, MethodDebug}
use Rattle.enc_plain.specs.Module.{Module, cell_of}
use Rattle.enc_ppdb.specs.PdbChain.{pdb_changed}
use Rattle.enc_remap.specs.Remap.{newest_code}
use Rattle.enc_rows.specs.Source.{Source}
use Rattle.enc_session.proofs.Brought.{stands_turned, brought_is}
use Rattle.enc_session.proofs.NewBodies.{accepted_bodies_are_new}
use Rattle.enc_session.specs.Codes.{new_version, new_versions, OtherBodiesStay}
use Rattle.enc_versions.specs.Commit.{brought}
use Rattle.enc_versions.specs.StandFor.{lines_known}

-- a body with the points of a method
abbrev code_with : MethodDebug → Body → PlainCode
code_with p b = record { body = b; points = (lines_known p).points }

codes_same : (cell : Option Cell) (p q : MethodDebug) → ((b : Body) → cell ≡ Some (body (Some b)) → p ≡ q)
    → option_map (code_with p) (body_of_cell cell) ≡ option_map (code_with q) (body_of_cell cell)
codes_same None p q same = refl
codes_same (Some (number n)) p q same = refl
codes_same (Some (text bytes)) p q same = refl
codes_same (Some (blob bytes)) p q same = refl
codes_same (Some (guid bytes)) p q same = refl
codes_same (Some (refer t)) p q same = refl
codes_same (Some (field bytes)) p q same = refl
codes_same (Some (body None)) p q same = refl
codes_same (Some (body (Some b))) p q same = ap (λ (m : MethodDebug). Some (code_with m b)) (same b refl)

newest_same : (before after : Module) (old new : PlainPdb) (method : Token) → cell_of after method 0 ≡ cell_of before method 0
    → ((b : Body) → cell_of before method 0 ≡ Some (body (Some b)) → new method ≡ old method)
    → newest_code after new method ≡ newest_code before old method
newest_same before after old new method cell known =
    ap (λ (k : Option Cell). option_map (code_with (new method)) (body_of_cell k)) cell ∙ codes_same (cell_of before method 0) (new method) (old method) known

not_brought : (d : Source) (pdb : Option Source) (method : Token) → list_any (is_token method) (new_bodies d) ≡ false
    → brought (new_versions d pdb) method ≡ None
unfolding new_versions
not_brought d pdb method none =
    brought_is d pdb method (new_bodies d)
    ∙ ap (λ (b : Bool). if b then Some (new_version d pdb method).version else None) (sym (stands_turned method (new_bodies d)) ∙ none)

pub other_bodies_stay : OtherBodiesStay
other_bodies_stay c d pdb bytes debug method was so sound table there none =
    let news = accepted_bodies_are_new c d pdb bytes debug was so sound in
    let other = not_brought d pdb method none in
    newest_same c.plain (extended c d).plain debug (pdb_changed debug (record { pdb = pdb; changed = new_bodies d })) method
    (news.kept method (table, there) other) (λ b has. news.known method b (table, there) has other)
