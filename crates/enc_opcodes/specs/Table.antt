-- The instructions by their codes: the name in the spelling of the standard, and what stands behind the code
-- (ECMA-335 III.1.2.1, III.3, III.4).
use Rattle.std.specs.Prelude.{ℕ, List, [], ◌∷◌, Option, Some, None, codes}
use Rattle.std.specs.Borrow.{Bor}
use Rattle.enc_opcodes.specs.declared.op.Operand.{Operand}
use Rattle.enc_opcodes.specs.declared.op.Operand.TheVariants.{None as Bare, I8, U8, U16, I32, I64, R4, R8, Branch8, Branch32, Switch, Token, User}

-- an instruction's name and operand
abbrev pub Entry : Type 0
Entry = List ℕ × Operand

-- the same, where the name is borrowed
abbrev pub entry_held : Bor (List ℕ) × Operand → Entry
entry_held e = (e.0.now, e.1)

-- by the only byte of the code
abbrev pub one_byte_opcodes : List (Option Entry)
one_byte_opcodes =
    -- 00 to 0F
    Some (codes "nop", Bare) ∷
    Some (codes "break", Bare) ∷
    Some (codes "ldarg.0", Bare) ∷
    Some (codes "ldarg.1", Bare) ∷
    Some (codes "ldarg.2", Bare) ∷
    Some (codes "ldarg.3", Bare) ∷
    Some (codes "ldloc.0", Bare) ∷
    Some (codes "ldloc.1", Bare) ∷
    Some (codes "ldloc.2", Bare) ∷
    Some (codes "ldloc.3", Bare) ∷
    Some (codes "stloc.0", Bare) ∷
    Some (codes "stloc.1", Bare) ∷
    Some (codes "stloc.2", Bare) ∷
    Some (codes "stloc.3", Bare) ∷
    Some (codes "ldarg.s", U8) ∷
    Some (codes "ldarga.s", U8) ∷
    -- 10 to 1F
    Some (codes "starg.s", U8) ∷
    Some (codes "ldloc.s", U8) ∷
    Some (codes "ldloca.s", U8) ∷
    Some (codes "stloc.s", U8) ∷
    Some (codes "ldnull", Bare) ∷
    Some (codes "ldc.i4.m1", Bare) ∷
    Some (codes "ldc.i4.0", Bare) ∷
    Some (codes "ldc.i4.1", Bare) ∷
    Some (codes "ldc.i4.2", Bare) ∷
    Some (codes "ldc.i4.3", Bare) ∷
    Some (codes "ldc.i4.4", Bare) ∷
    Some (codes "ldc.i4.5", Bare) ∷
    Some (codes "ldc.i4.6", Bare) ∷
    Some (codes "ldc.i4.7", Bare) ∷
    Some (codes "ldc.i4.8", Bare) ∷
    Some (codes "ldc.i4.s", I8) ∷
    -- 20 to 2F
    Some (codes "ldc.i4", I32) ∷
    Some (codes "ldc.i8", I64) ∷
    Some (codes "ldc.r4", R4) ∷
    Some (codes "ldc.r8", R8) ∷
    None ∷
    Some (codes "dup", Bare) ∷
    Some (codes "pop", Bare) ∷
    Some (codes "jmp", Token) ∷
    Some (codes "call", Token) ∷
    Some (codes "calli", Token) ∷
    Some (codes "ret", Bare) ∷
    Some (codes "br.s", Branch8) ∷
    Some (codes "brfalse.s", Branch8) ∷
    Some (codes "brtrue.s", Branch8) ∷
    Some (codes "beq.s", Branch8) ∷
    Some (codes "bge.s", Branch8) ∷
    -- 30 to 3F
    Some (codes "bgt.s", Branch8) ∷
    Some (codes "ble.s", Branch8) ∷
    Some (codes "blt.s", Branch8) ∷
    Some (codes "bne.un.s", Branch8) ∷
    Some (codes "bge.un.s", Branch8) ∷
    Some (codes "bgt.un.s", Branch8) ∷
    Some (codes "ble.un.s", Branch8) ∷
    Some (codes "blt.un.s", Branch8) ∷
    Some (codes "br", Branch32) ∷
    Some (codes "brfalse", Branch32) ∷
    Some (codes "brtrue", Branch32) ∷
    Some (codes "beq", Branch32) ∷
    Some (codes "bge", Branch32) ∷
    Some (codes "bgt", Branch32) ∷
    Some (codes "ble", Branch32) ∷
    Some (codes "blt", Branch32) ∷
    -- 40 to 4F
    Some (codes "bne.un", Branch32) ∷
    Some (codes "bge.un", Branch32) ∷
    Some (codes "bgt.un", Branch32) ∷
    Some (codes "ble.un", Branch32) ∷
    Some (codes "blt.un", Branch32) ∷
    Some (codes "switch", Switch) ∷
    Some (codes "ldind.i1", Bare) ∷
    Some (codes "ldind.u1", Bare) ∷
    Some (codes "ldind.i2", Bare) ∷
    Some (codes "ldind.u2", Bare) ∷
    Some (codes "ldind.i4", Bare) ∷
    Some (codes "ldind.u4", Bare) ∷
    Some (codes "ldind.i8", Bare) ∷
    Some (codes "ldind.i", Bare) ∷
    Some (codes "ldind.r4", Bare) ∷
    Some (codes "ldind.r8", Bare) ∷
    -- 50 to 5F
    Some (codes "ldind.ref", Bare) ∷
    Some (codes "stind.ref", Bare) ∷
    Some (codes "stind.i1", Bare) ∷
    Some (codes "stind.i2", Bare) ∷
    Some (codes "stind.i4", Bare) ∷
    Some (codes "stind.i8", Bare) ∷
    Some (codes "stind.r4", Bare) ∷
    Some (codes "stind.r8", Bare) ∷
    Some (codes "add", Bare) ∷
    Some (codes "sub", Bare) ∷
    Some (codes "mul", Bare) ∷
    Some (codes "div", Bare) ∷
    Some (codes "div.un", Bare) ∷
    Some (codes "rem", Bare) ∷
    Some (codes "rem.un", Bare) ∷
    Some (codes "and", Bare) ∷
    -- 60 to 6F
    Some (codes "or", Bare) ∷
    Some (codes "xor", Bare) ∷
    Some (codes "shl", Bare) ∷
    Some (codes "shr", Bare) ∷
    Some (codes "shr.un", Bare) ∷
    Some (codes "neg", Bare) ∷
    Some (codes "not", Bare) ∷
    Some (codes "conv.i1", Bare) ∷
    Some (codes "conv.i2", Bare) ∷
    Some (codes "conv.i4", Bare) ∷
    Some (codes "conv.i8", Bare) ∷
    Some (codes "conv.r4", Bare) ∷
    Some (codes "conv.r8", Bare) ∷
    Some (codes "conv.u4", Bare) ∷
    Some (codes "conv.u8", Bare) ∷
    Some (codes "callvirt", Token) ∷
    -- 70 to 7F
    Some (codes "cpobj", Token) ∷
    Some (codes "ldobj", Token) ∷
    Some (codes "ldstr", User) ∷
    Some (codes "newobj", Token) ∷
    Some (codes "castclass", Token) ∷
    Some (codes "isinst", Token) ∷
    Some (codes "conv.r.un", Bare) ∷
    None ∷
    None ∷
    Some (codes "unbox", Token) ∷
    Some (codes "throw", Bare) ∷
    Some (codes "ldfld", Token) ∷
    Some (codes "ldflda", Token) ∷
    Some (codes "stfld", Token) ∷
    Some (codes "ldsfld", Token) ∷
    Some (codes "ldsflda", Token) ∷
    -- 80 to 8F
    Some (codes "stsfld", Token) ∷
    Some (codes "stobj", Token) ∷
    Some (codes "conv.ovf.i1.un", Bare) ∷
    Some (codes "conv.ovf.i2.un", Bare) ∷
    Some (codes "conv.ovf.i4.un", Bare) ∷
    Some (codes "conv.ovf.i8.un", Bare) ∷
    Some (codes "conv.ovf.u1.un", Bare) ∷
    Some (codes "conv.ovf.u2.un", Bare) ∷
    Some (codes "conv.ovf.u4.un", Bare) ∷
    Some (codes "conv.ovf.u8.un", Bare) ∷
    Some (codes "conv.ovf.i.un", Bare) ∷
    Some (codes "conv.ovf.u.un", Bare) ∷
    Some (codes "box", Token) ∷
    Some (codes "newarr", Token) ∷
    Some (codes "ldlen", Bare) ∷
    Some (codes "ldelema", Token) ∷
    -- 90 to 9F
    Some (codes "ldelem.i1", Bare) ∷
    Some (codes "ldelem.u1", Bare) ∷
    Some (codes "ldelem.i2", Bare) ∷
    Some (codes "ldelem.u2", Bare) ∷
    Some (codes "ldelem.i4", Bare) ∷
    Some (codes "ldelem.u4", Bare) ∷
    Some (codes "ldelem.i8", Bare) ∷
    Some (codes "ldelem.i", Bare) ∷
    Some (codes "ldelem.r4", Bare) ∷
    Some (codes "ldelem.r8", Bare) ∷
    Some (codes "ldelem.ref", Bare) ∷
    Some (codes "stelem.i", Bare) ∷
    Some (codes "stelem.i1", Bare) ∷
    Some (codes "stelem.i2", Bare) ∷
    Some (codes "stelem.i4", Bare) ∷
    Some (codes "stelem.i8", Bare) ∷
    -- A0 to AF
    Some (codes "stelem.r4", Bare) ∷
    Some (codes "stelem.r8", Bare) ∷
    Some (codes "stelem.ref", Bare) ∷
    Some (codes "ldelem", Token) ∷
    Some (codes "stelem", Token) ∷
    Some (codes "unbox.any", Token) ∷
    None ∷
    None ∷
    None ∷
    None ∷
    None ∷
    None ∷
    None ∷
    None ∷
    None ∷
    None ∷
    -- B0 to BF
    None ∷
    None ∷
    None ∷
    Some (codes "conv.ovf.i1", Bare) ∷
    Some (codes "conv.ovf.u1", Bare) ∷
    Some (codes "conv.ovf.i2", Bare) ∷
    Some (codes "conv.ovf.u2", Bare) ∷
    Some (codes "conv.ovf.i4", Bare) ∷
    Some (codes "conv.ovf.u4", Bare) ∷
    Some (codes "conv.ovf.i8", Bare) ∷
    Some (codes "conv.ovf.u8", Bare) ∷
    None ∷
    None ∷
    None ∷
    None ∷
    None ∷
    -- C0 to CF
    None ∷
    None ∷
    Some (codes "refanyval", Token) ∷
    Some (codes "ckfinite", Bare) ∷
    None ∷
    None ∷
    Some (codes "mkrefany", Token) ∷
    None ∷
    None ∷
    None ∷
    None ∷
    None ∷
    None ∷
    None ∷
    None ∷
    None ∷
    -- D0 to DF
    Some (codes "ldtoken", Token) ∷
    Some (codes "conv.u2", Bare) ∷
    Some (codes "conv.u1", Bare) ∷
    Some (codes "conv.i", Bare) ∷
    Some (codes "conv.ovf.i", Bare) ∷
    Some (codes "conv.ovf.u", Bare) ∷
    Some (codes "add.ovf", Bare) ∷
    Some (codes "add.ovf.un", Bare) ∷
    Some (codes "mul.ovf", Bare) ∷
    Some (codes "mul.ovf.un", Bare) ∷
    Some (codes "sub.ovf", Bare) ∷
    Some (codes "sub.ovf.un", Bare) ∷
    Some (codes "endfinally", Bare) ∷
    Some (codes "leave", Branch32) ∷
    Some (codes "leave.s", Branch8) ∷
    Some (codes "stind.i", Bare) ∷
    -- E0
    Some (codes "conv.u", Bare) ∷
    []

-- by the byte behind FE
abbrev pub two_byte_opcodes : List (Option Entry)
two_byte_opcodes =
    -- FE 00 to FE 0F
    Some (codes "arglist", Bare) ∷
    Some (codes "ceq", Bare) ∷
    Some (codes "cgt", Bare) ∷
    Some (codes "cgt.un", Bare) ∷
    Some (codes "clt", Bare) ∷
    Some (codes "clt.un", Bare) ∷
    Some (codes "ldftn", Token) ∷
    Some (codes "ldvirtftn", Token) ∷
    None ∷
    Some (codes "ldarg", U16) ∷
    Some (codes "ldarga", U16) ∷
    Some (codes "starg", U16) ∷
    Some (codes "ldloc", U16) ∷
    Some (codes "ldloca", U16) ∷
    Some (codes "stloc", U16) ∷
    Some (codes "localloc", Bare) ∷
    -- FE 10 to FE 1E
    None ∷
    Some (codes "endfilter", Bare) ∷
    Some (codes "unaligned.", U8) ∷
    Some (codes "volatile.", Bare) ∷
    Some (codes "tail.", Bare) ∷
    Some (codes "initobj", Token) ∷
    Some (codes "constrained.", Token) ∷
    Some (codes "cpblk", Bare) ∷
    Some (codes "initblk", Bare) ∷
    Some (codes "no.", U8) ∷
    Some (codes "rethrow", Bare) ∷
    None ∷
    Some (codes "sizeof", Token) ∷
    Some (codes "refanytype", Bare) ∷
    Some (codes "readonly.", Bare) ∷
    []
