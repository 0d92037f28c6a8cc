use Rattle.std.proofs.Common.{◌≡◌, ℕ, ◌<◌, List, [], ◌∷◌, ◌++◌, length, get_or, drop, sym, ap, ◌∙◌, arith, append_assoc}
use Rattle.std.proofs.lemmas.Iterator.{YieldsList-from_chars}
use Rattle.std.proofs.lemmas.List.{at_drop_all, append-nil, length_push}
use Rattle.std.proofs.lemmas.Iterator.Consumers.{YieldsList-turn, YieldsList-end}
use Rattle.std.specs.Prelude.{flat_map}
use Rattle.std.specs.Str.{chars}
use Rattle.std.specs.Char.Escape.{encode_utf16}
use Rattle.enc_jobs.proofs.Loops.{front}
use Rattle.enc_jobs.proofs.instr.units_of.Goals as goal

-- one character more
units_more : (cs units yielded : List ℕ) (c : ℕ) → (length yielded < length cs) × (c ≡ get_or cs (length yielded) c) → units ++ flat_map encode_utf16 (drop (length yielded) cs) ≡ (units ++ encode_utf16 c) ++ flat_map encode_utf16 (drop (length (yielded ++ c ∷ [])) cs)
units_more cs units yielded c h = rw (length_push yielded c, front cs (length yielded) c h.0 h.1) (sym (append_assoc units (encode_utf16 c) _))

pub loop-c-preserved : goal.loop-c-preserved
loop-c-preserved c =
    let t = YieldsList-turn (YieldsList-from_chars c.args.text.now c.utf8.text cc) c.loop-c.yielded _ c.loop-c.yielded_by _ _ c.in-Some.c c.in-Some.is c.next.ensures.steps in
    rw c.in_ok-push_units.ensures (sym (units_more (chars c.args.text.now) c.loop-c.units c.loop-c.yielded c.in-Some.c t) ∙ c.loop-c.invariant)

pub returns : goal.returns
returns c =
    let t = YieldsList-end (YieldsList-from_chars c.args.text.now c.utf8.text cc) c.loop-c.yielded _ c.loop-c.yielded_by _ _ c.in-None.is c.next.ensures.steps in
    sym (append-nil c.loop-c.units) ∙ ap (λ l. c.loop-c.units ++ l) (sym (at_drop_all (flat_map encode_utf16) (chars c.args.text.now) (length c.loop-c.yielded) (omega (arith, t.1)))) ∙ c.loop-c.invariant
