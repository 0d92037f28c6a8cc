use Rattle.std.proofs.Common.{◌≡◌, ◌-◌, ◌++◌, take, drop, sym, ap, ◌∙◌, subst, arith}
use Rattle.enc_base.specs.Token.{number_of}
use Rattle.enc_base.proofs.SmallNumbers.{bytes_each}
use Rattle.enc_il.specs.Seen.{arg_seen, instr_seen}
use Rattle.enc_opcodes.proofs.Instructions.{instr_ends}
use Rattle.enc_token_map.specs.Copied.{with_number, IsMovedUpTo}
use Rattle.enc_token_map.proofs.OwnBytes.{names_at, names_few}
use Rattle.enc_token_map.proofs.CodeMoved.{on_ok, plain_seen, moved_plain, moved_token}
use Rattle.enc_token_map.proofs.code.push_instr.Goals as goal

pub number-requires : goal.number-requires
number-requires g c =
    let code = c.args.code.now.code.now in
    let i = (instr_seen c.args.read.now).0 in
    let t = c.in-Token.token in
    let named = names_at code c.args.at c.args.read.now.1 t i c.requires.read (ap (arg_seen c.args.read.now.1) c.in-Token.is) in
    rw c.moved.ensures (g.met.M.Moves.low c.args.moves.now t (names_few code c.args.at c.args.read.now.1 t (bytes_each code c.requires.bytes) named).0)

pub push_token-requires-clause-order : goal.push_token-requires-clause-order
push_token-requires-clause-order g c =
    (names_at c.args.code.now.code.now c.args.at c.args.read.now.1 c.in-Token.token (instr_seen c.args.read.now).0 c.requires.read
    (ap (arg_seen c.args.read.now.1) c.in-Token.is)).room

pub push_token-requires-clause-within : goal.push_token-requires-clause-within
push_token-requires-clause-within g c = (instr_ends c.args.code.now.code.now c.args.at c.args.read.now.1 (instr_seen c.args.read.now).0 c.requires.read).1

pub push_plain-requires : goal.push_plain-requires
push_plain-requires g c =
    let lt = instr_ends c.args.code.now.code.now c.args.at c.args.read.now.1 (instr_seen c.args.read.now).0 c.requires.read in
    record { order = omega (arith, lt.0); within = lt.1 }

pub returns-in-Token : goal.returns-in-Token
returns-in-Token g c =
    let f = g.M.Moves.to c.args.moves.now in
    let code = c.args.code.now.code.now in
    let before = c.args.out.now.items in
    let after = c.push_token.new.out.items in
    let end = c.args.read.now.1 in
    let i = (instr_seen c.args.read.now).0 in
    let t = c.in-Token.token in
    let bytes = bytes_each code c.requires.bytes in
    let is = ap (arg_seen end) c.in-Token.is in
    let few = (names_few code c.args.at end t bytes (names_at code c.args.at end t i c.requires.read is)).0 in
    let moved = moved_token f code before c.args.at end t i bytes c.requires.read is (g.met.M.Moves.stays c.args.moves.now t)
    (g.met.M.Moves.low c.args.moves.now t few) c.requires.moved in
    on_ok c.push_token.result (after ≡ with_number before code c.args.at (end - 4) c.number.result) (IsMovedUpTo f code after end)
    (λ e. subst (λ xs. IsMovedUpTo f code xs end)
    (sym (e ∙ ap (λ x. with_number before code c.args.at (end - 4) x) (c.number.ensures ∙ ap (λ u. number_of u) c.moved.ensures))) moved)
    c.push_token.ensures

pub returns-in_default : goal.returns-in_default
returns-in_default g c =
    let f = g.M.Moves.to c.args.moves.now in
    let code = c.args.code.now.code.now in
    let before = c.args.out.now.items in
    let after = c.push_plain.new.out.items in
    let end = c.args.read.now.1 in
    on_ok c.push_plain.result (after ≡ before ++ take (end - c.args.at) (drop c.args.at code)) (IsMovedUpTo f code after end)
    (λ e. subst (λ xs. IsMovedUpTo f code xs end) (sym e)
    (moved_plain f code before c.args.at end (instr_seen c.args.read.now).0 c.requires.read (plain_seen end c.args.read.now.0.arg c.in_default.not-Token)
    c.requires.moved))
    c.push_plain.ensures
