-- What a stated body says, with the points of its method.
use Rattle.std.specs.Prelude.{false, List, [], ◌∷◌, Option, Some, None, option_map, codes, if◌then◌else◌}
use Rattle.serde_json.specs.Data.{Data}
use Rattle.serde_json.specs.Find.{get, as_bool}
use Rattle.enc_base.specs.Token.{nil}
use Rattle.enc_seqpoints.specs.declared.point.Point.{Point}
use Rattle.enc_opcodes.specs.Instruction.{◌>>=◌}
use Rattle.enc_edit_list.specs.declared.body.BodyValue.{BodyValue}
use Rattle.enc_jobs.specs.declared.body.Method.{Method}
use Rattle.enc_jobs.specs.declared.body.Placed.{Placed}
use Rattle.enc_jobs.specs.Json.{at_key_or, has_only, number_said, token_said}
use Rattle.enc_jobs.specs.Code.{code_said}
use Rattle.enc_jobs.specs.Clause.{clauses_said}
use Rattle.enc_jobs.specs.Points.{points_said}

-- a body, and where its instructions begin
unfoldable pub body_said : Data → Option Placed
body_said d = if has_only (codes "max" ∷ codes "code" ∷ codes "init" ∷ codes "locals" ∷ codes "clauses" ∷ []) d then (do
  max ← get (codes "max") d >>= number_said 0xFFFF
  init ← at_key_or false as_bool (get (codes "init") d)
  locals ← at_key_or nil token_said (get (codes "locals") d)
  code ← get (codes "code") d >>= code_said
  clauses ← at_key_or [] (clauses_said code.offsets) (get (codes "clauses") d)
  Some (record {
    body = record { max = max; init = init; locals = locals; code = code.instrs; clauses = clauses };
    starts = code.offsets.starts;
  })) else None

-- a body and the points of its method
unfoldable pub method_said : Data → Option Data → Option Method
method_said code points = do
  placed ← body_said code
  ps ← points_said placed.starts points
  Some (record { body = placed.body; points = ps })

-- a body and its points, if there is a body: without one no point names an instruction
unfoldable pub method_said_if : Option Data → Option Data → Option (Option BodyValue × List Point)
method_said_if None points = option_map (λ ps. (None, ps)) (points_said [] points)
method_said_if (Some code) points = option_map (λ (m : Method). (Some m.body, m.points)) (method_said code points)
