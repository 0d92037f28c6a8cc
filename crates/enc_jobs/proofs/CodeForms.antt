-- Bodies that are read are of the form.
use Rattle.std.proofs.Common.{◌≡◌, ℕ, ℤ, List, [], ◌∷◌, inl, inr, length, Option, Some, None, true, false, refl, sym, ◌∙◌}
use Rattle.std.specs.Prelude.{option_map, option_and_then, slice_get, bytes_eq, codes, ◌==◌}
use Rattle.std.specs.List.{list_all}
use Rattle.std.proofs.lemmas.Bool.{and_parts, and_from}
use Rattle.serde_json.specs.Data.{Data}
use Rattle.serde_json.specs.Find.{get, as_str, as_bool, as_number, as_i64}
use Rattle.enc_opcodes.specs.declared.op.Operand.{Operand}
use Rattle.enc_opcodes.specs.declared.op.Operand.TheVariants as operand
use Rattle.enc_opcodes.specs.declared.code.Clause.{Clause}
use Rattle.enc_opcodes.specs.Opcodes.{op_named, is_op}
use Rattle.enc_opcodes.specs.Laws.{NamedAreFound}
use Rattle.enc_edit_list.specs.declared.body.ArgValue.{ArgValue}
use Rattle.enc_edit_list.specs.declared.body.ArgValue.TheVariants as arg
use Rattle.enc_edit_list.specs.declared.body.InstrValue.{InstrValue}
use Rattle.enc_edit_list.specs.Form.{lies_in, arg_fits, instr_fits, clause_is_stated, body_fits}
use Rattle.enc_jobs.specs.declared.code.Offsets.{Offsets}
use Rattle.enc_jobs.specs.declared.code.InstrCode.{InstrCode}
use Rattle.enc_jobs.specs.declared.body.Placed.{Placed}
use Rattle.enc_jobs.specs.declared.body.Method.{Method}
use Rattle.enc_jobs.specs.Json.{elements_of, has_only, at_key_or, number_said, word_said, hex_said, bytes_said, token_said, token_number_said}
use Rattle.enc_jobs.specs.Lists.{every}
use Rattle.enc_jobs.specs.Instr.{whole_said, units_said, operand_said, no_operand, argument_said, named_said, instr_said}
use Rattle.enc_jobs.specs.Code.{offsets_of, arg_placed, instr_placed, code_said}
use Rattle.enc_jobs.specs.Clause.{range_said, start_said, clause_with, catch_said, filter_said, plain_said, clause_of_kind, clause_said, clauses_said}
use Rattle.enc_jobs.specs.Points.{points_said}
use Rattle.enc_jobs.specs.Body.{body_said, method_said}
use Rattle.enc_jobs.proofs.Inverse.{map_some, then_some, if_some, either_some, every_keeps, every_has}

-- a whole number lies between its bounds
whole_has : (below above : ℕ) (d : Data) (a : ArgValue) → whole_said below above d ≡ Some a → (n : ℤ) × (lies_in n below above ≡ true) × (arg.Num n ≡ a)
unfolding whole_said
whole_has below above d a h =
    let kept = then_some (as_number d) _ a h in
    let n = then_some (as_i64 kept.0) _ a kept.2 in
    let w = if_some (lies_in n.0 below above) (Some (arg.Num n.0)) a n.2 in
    (n.0, w.0, cc)

-- bytes are as many as are asked for
bytes_have : (n : ℕ) (d : Data) (bytes : List ℕ) → bytes_said n d ≡ Some bytes → (length bytes == n) ≡ true
unfolding bytes_said
bytes_have n d bytes h =
    let b = then_some (hex_said d) _ bytes h in
    let w = if_some (length b.0 == n) (Some b.0) bytes b.2 in
    let e : b.0 ≡ bytes = cc in
    rw e at w.0

raw_has : (n : ℕ) (d : Data) (a : ArgValue) → option_map arg.Raw (bytes_said n d) ≡ Some a → (bytes : List ℕ) × ((length bytes == n) ≡ true) × (arg.Raw bytes ≡ a)
raw_has n d a h = let w = map_some arg.Raw (bytes_said n d) a h in (w.0, bytes_have n d w.0 w.1, w.2)

operand_has : (o : Operand) (d : Data) (a : ArgValue) → operand_said o d ≡ Some a → arg_fits o a ≡ true
unfolding operand_said
operand_has operand.None d a h = absurd (cc)
operand_has operand.I8 d a h = let w = whole_has 0x80 0x7F d a h in rw (← w.2) w.1
operand_has operand.U8 d a h = let w = whole_has 0 0xFF d a h in rw (← w.2) w.1
operand_has operand.U16 d a h = let w = whole_has 0 0xFFFF d a h in rw (← w.2) w.1
operand_has operand.I32 d a h = let w = whole_has 0x80000000 0x7FFFFFFF d a h in rw (← w.2) w.1
operand_has operand.I64 d a h = let w = whole_has 0x8000000000000000 0x7FFFFFFFFFFFFFFF d a h in rw (← w.2) w.1
operand_has operand.R4 d a h = let w = raw_has 4 d a h in rw (← w.2) w.1
operand_has operand.R8 d a h = let w = raw_has 8 d a h in rw (← w.2) w.1
operand_has operand.Branch8 d a h = let w = map_some arg.Target (word_said d) a h in rw (← w.2) refl
operand_has operand.Branch32 d a h = let w = map_some arg.Target (word_said d) a h in rw (← w.2) refl
operand_has operand.Switch d a h = let w = map_some arg.Targets (option_and_then (every word_said) (elements_of d)) a h in rw (← w.2) refl
operand_has operand.Token d a h = let w = map_some arg.Token (token_said d) a h in rw (← w.2) refl
operand_has operand.User d a h = let w = map_some arg.User (units_said d) a h in rw (← w.2) refl

bare_has : (o : Operand) (a : ArgValue) → no_operand o ≡ Some a → arg_fits o a ≡ true
bare_has operand.None a h = let e : arg.None ≡ a = cc in rw (← e) refl
bare_has operand.I8 a h = absurd (cc)
bare_has operand.U8 a h = absurd (cc)
bare_has operand.U16 a h = absurd (cc)
bare_has operand.I32 a h = absurd (cc)
bare_has operand.I64 a h = absurd (cc)
bare_has operand.R4 a h = absurd (cc)
bare_has operand.R8 a h = absurd (cc)
bare_has operand.Branch8 a h = absurd (cc)
bare_has operand.Branch32 a h = absurd (cc)
bare_has operand.Switch a h = absurd (cc)
bare_has operand.Token a h = absurd (cc)
bare_has operand.User a h = absurd (cc)

argument_has : (o : Operand) (ds : List Data) (a : ArgValue) → argument_said o ds ≡ Some a → arg_fits o a ≡ true
unfolding argument_said
argument_has o [] a h = bare_has o a h
argument_has o (d ∷ []) a h = operand_has o d a h
argument_has o (d ∷ e ∷ rest) a h = absurd (cc)

named_has : NamedAreFound → (ds : List Data) (i : InstrValue) → named_said ds ≡ Some i → instr_fits i ≡ true
named_has known [] i h = absurd (cc)
named_has known (name ∷ rest) i h =
    let t = then_some (as_str name) _ i h in
    let op = then_some (op_named t.0) _ i t.2 in
    let a = then_some (argument_said op.0.operand rest) _ i op.2 in
    let e : record { op = op.0; arg = a.0 } ≡ i = cc in
    rw (← e) (and_from (is_op op.0) (arg_fits op.0.operand a.0) ((known t.0 op.0 op.1).0) (argument_has op.0.operand rest a.0 a.1))

instr_has : NamedAreFound → (d : Data) (i : InstrValue) → instr_said d ≡ Some i → instr_fits i ≡ true
unfolding instr_said
instr_has known d i h = let ds = then_some (elements_of d) named_said i h in named_has known ds.0 i ds.2

-- an offset for an index changes no form
target_alike : (o : Operand) (i t : ℕ) → arg_fits o (arg.Target i) ≡ arg_fits o (arg.Target t)
target_alike operand.None i t = refl
target_alike operand.I8 i t = refl
target_alike operand.U8 i t = refl
target_alike operand.U16 i t = refl
target_alike operand.I32 i t = refl
target_alike operand.I64 i t = refl
target_alike operand.R4 i t = refl
target_alike operand.R8 i t = refl
target_alike operand.Branch8 i t = refl
target_alike operand.Branch32 i t = refl
target_alike operand.Switch i t = refl
target_alike operand.Token i t = refl
target_alike operand.User i t = refl

targets_alike : (o : Operand) (is ts : List ℕ) → arg_fits o (arg.Targets is) ≡ arg_fits o (arg.Targets ts)
targets_alike operand.None i t = refl
targets_alike operand.I8 i t = refl
targets_alike operand.U8 i t = refl
targets_alike operand.U16 i t = refl
targets_alike operand.I32 i t = refl
targets_alike operand.I64 i t = refl
targets_alike operand.R4 i t = refl
targets_alike operand.R8 i t = refl
targets_alike operand.Branch8 i t = refl
targets_alike operand.Branch32 i t = refl
targets_alike operand.Switch i t = refl
targets_alike operand.Token i t = refl
targets_alike operand.User i t = refl

same_arg : (o : Operand) (a b : ArgValue) → Some a ≡ Some b → arg_fits o a ≡ true → arg_fits o b ≡ true
same_arg o a b e fits = let p : a ≡ b = cc in rw p at fits

arg_keeps : (o : Operand) (starts : List ℕ) (a b : ArgValue) → arg_fits o a ≡ true → arg_placed starts a ≡ Some b → arg_fits o b ≡ true
unfolding arg_placed
arg_keeps o starts arg.None b fits h = same_arg o arg.None b h fits
arg_keeps o starts (arg.Num n) b fits h = same_arg o (arg.Num n) b h fits
arg_keeps o starts (arg.Target i) b fits h = let w = map_some arg.Target (slice_get starts i) b h in rw (← w.2) (sym (target_alike o i w.0) ∙ fits)
arg_keeps o starts (arg.Targets is) b fits h = let w = map_some arg.Targets (every (slice_get starts) is) b h in rw (← w.2) (sym (targets_alike o is w.0) ∙ fits)
arg_keeps o starts (arg.Token t) b fits h = same_arg o (arg.Token t) b h fits
arg_keeps o starts (arg.User u) b fits h = same_arg o (arg.User u) b h fits
arg_keeps o starts (arg.Raw r) b fits h = same_arg o (arg.Raw r) b h fits

instr_keeps : (starts : List ℕ) (i j : InstrValue) → instr_fits i ≡ true → instr_placed starts i ≡ Some j → instr_fits j ≡ true
unfolding instr_placed
instr_keeps starts i j fits h =
    let w = map_some _ (arg_placed starts i.arg) j h in
    let p = and_parts (is_op i.op) (arg_fits i.op.operand i.arg) fits in
    rw (← w.2) (and_from (is_op i.op) (arg_fits i.op.operand w.0) p.0 (arg_keeps i.op.operand starts i.arg w.0 p.1 w.1))

code_has : NamedAreFound → (d : Data) (c : InstrCode) → code_said d ≡ Some c → list_all instr_fits c.instrs ≡ true
unfolding code_said
code_has known d c h =
    let items = then_some (elements_of d) _ c h in
    let stated = then_some (every instr_said items.0) _ c items.2 in
    let offsets = then_some (offsets_of stated.0) _ c stated.2 in
    let instrs = then_some (every (instr_placed offsets.0.starts) stated.0) _ c offsets.2 in
    let e : record { offsets = offsets.0; instrs = instrs.0 } ≡ c = cc in
    rw (← e) (every_keeps (instr_placed offsets.0.starts) instr_fits instr_fits (instr_keeps offsets.0.starts) stated.0 instrs.0 (every_has instr_said instr_fits (instr_has known) items.0 stated.0 stated.1) instrs.1)

-- a clause is of the kind that it says
with_kind : (offsets : Offsets) (d : Data) (kind extra : ℕ) (c : Clause) → clause_with offsets d kind extra ≡ Some c → c.kind ≡ kind
unfolding clause_with
with_kind offsets d kind extra c h =
    let tries = then_some (option_and_then (range_said offsets) (get (codes "try") d)) _ c h in
    let handler = then_some (option_and_then (range_said offsets) (get (codes "handler") d)) _ c tries.2 in
    let e : record { kind = kind; tries = tries.0; handler = handler.0; extra = extra } ≡ c = cc in
    rw (← e) refl

catch_kind : (offsets : Offsets) (d : Data) (c : Clause) → catch_said offsets d ≡ Some c → clause_is_stated c ≡ true
unfolding catch_said
catch_kind offsets d c h =
    let w = if_some (has_only (codes "kind" ∷ codes "try" ∷ codes "handler" ∷ codes "class" ∷ []) d) _ c h in
    let class = then_some (option_and_then token_number_said (get (codes "class") d)) (clause_with offsets d 0) c w.1 in
    rw (with_kind offsets d 0 class.0 c class.2) refl

filter_kind : (offsets : Offsets) (d : Data) (c : Clause) → filter_said offsets d ≡ Some c → clause_is_stated c ≡ true
unfolding filter_said
filter_kind offsets d c h =
    let w = if_some (has_only (codes "kind" ∷ codes "try" ∷ codes "handler" ∷ codes "filter" ∷ []) d) _ c h in
    let first = then_some (option_and_then (start_said offsets) (get (codes "filter") d)) (clause_with offsets d 1) c w.1 in
    rw (with_kind offsets d 1 first.0 c first.2) refl

plain_kind : (offsets : Offsets) (kind : ℕ) (d : Data) (c : Clause) → plain_said offsets kind d ≡ Some c → c.kind ≡ kind
unfolding plain_said
plain_kind offsets kind d c h =
    let w = if_some (has_only (codes "kind" ∷ codes "try" ∷ codes "handler" ∷ []) d) _ c h in
    with_kind offsets d kind 0 c w.1

kind_has : (offsets : Offsets) (d : Data) (kind : List ℕ) (c : Clause) → clause_of_kind offsets d kind ≡ Some c → clause_is_stated c ≡ true
kind_has offsets d kind c h =
    elim (either_some (bytes_eq kind (codes "catch")) _ _ c h) [
      | inl w ↦ catch_kind offsets d c w
      | inr h2 ↦ elim (either_some (bytes_eq kind (codes "filter")) _ _ c h2) [
        | inl w ↦ filter_kind offsets d c w
        | inr h3 ↦ elim (either_some (bytes_eq kind (codes "finally")) _ _ c h3) [
          | inl w ↦ rw (plain_kind offsets 2 d c w) refl
          | inr h4 ↦ rw (plain_kind offsets 4 d c ((if_some (bytes_eq kind (codes "fault")) _ c h4).1)) refl
        ]
      ]
    ]

clause_has : (offsets : Offsets) (d : Data) (c : Clause) → clause_said offsets d ≡ Some c → clause_is_stated c ≡ true
unfolding clause_said
clause_has offsets d c h =
    let kind = then_some (option_and_then as_str (get (codes "kind") d)) (clause_of_kind offsets d) c h in
    kind_has offsets d kind.0 c kind.2

clauses_have : (offsets : Offsets) (d : Data) (cs : List Clause) → clauses_said offsets d ≡ Some cs → list_all clause_is_stated cs ≡ true
unfolding clauses_said
clauses_have offsets d cs h =
    let items = then_some (elements_of d) (every (clause_said offsets)) cs h in
    every_has (clause_said offsets) clause_is_stated (clause_has offsets) items.0 cs items.2

clauses_have_if : (offsets : Offsets) (o : Option Data) (cs : List Clause) → at_key_or [] (clauses_said offsets) o ≡ Some cs → list_all clause_is_stated cs ≡ true
clauses_have_if offsets None cs h = let e : [] ≡ cs = cc in rw (← e) refl
clauses_have_if offsets (Some d) cs h = clauses_have offsets d cs h

pub body_has : NamedAreFound → (d : Data) (p : Placed) → body_said d ≡ Some p → body_fits p.body ≡ true
unfolding body_said body_fits
body_has known d p h =
    let w = if_some (has_only (codes "max" ∷ codes "code" ∷ codes "init" ∷ codes "locals" ∷ codes "clauses" ∷ []) d) _ p h in
    let max = then_some (option_and_then (number_said 0xFFFF) (get (codes "max") d)) _ p w.1 in
    let init = then_some (at_key_or false as_bool (get (codes "init") d)) _ p max.2 in
    let locals = then_some (at_key_or _ token_said (get (codes "locals") d)) _ p init.2 in
    let code = then_some (option_and_then code_said (get (codes "code") d)) _ p locals.2 in
    let clauses = then_some (at_key_or [] (clauses_said code.0.offsets) (get (codes "clauses") d)) _ p code.2 in
    let there = then_some (get (codes "code") d) code_said code.0 code.1 in
    let e = clauses.2 in
    let q : record { body = record { max = max.0; init = init.0; locals = locals.0; code = code.0.instrs; clauses = clauses.0 }; starts = code.0.offsets.starts } ≡ p = cc in
    rw (← q) (and_from (list_all instr_fits code.0.instrs) (list_all clause_is_stated clauses.0) (code_has known there.0 code.0 there.2) (clauses_have_if code.0.offsets (get (codes "clauses") d) clauses.0 clauses.1))

pub method_has : NamedAreFound → (code : Data) (points : Option Data) (m : Method) → method_said code points ≡ Some m → body_fits m.body ≡ true
unfolding method_said
method_has known code points m h =
    let p = then_some (body_said code) _ m h in
    let ps = then_some (points_said p.0.starts points) _ m p.2 in
    let e : record { body = p.0.body; points = ps.0 } ≡ m = cc in
    rw (← e) (body_has known code p.0 p.1)
