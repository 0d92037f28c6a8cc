use Rattle.std.proofs.Common.{◌∷◌, []}
use Rattle.enc_sigs.specs.Spelling.{front_bytes, generics_bytes}
use Rattle.enc_sigs.proofs.MovedTrees.{then_written}
use Rattle.enc_sigs.proofs.write.write_front.Goals as goal

pub returns-in_ok-write_generics-in-Method : goal.returns-in_ok-write_generics-in-Method
unfolding front_bytes
returns-in_ok-write_generics-in-Method g c = λ f h.
    rw (← c.front.view_is, c.in-Method.is, ← c.as_slice-parts.ensures.value)
    (then_written _ c.args.out.now.items _ (c.front.inside.kind ∷ []) _ _ c.in_ok-write_byte-in-Method.ensures
    (then_written _ c.write_byte.new.out.items _ (generics_bytes c.front.inside.kind c.front.inside.generics) _ _
    (rw c.from.ensures at c.in_ok-write_generics-in-Method.ensures) (c.write_parts.ensures f h)))

pub returns-in_ok-write_byte-in-Field : goal.returns-in_ok-write_byte-in-Field
unfolding front_bytes
returns-in_ok-write_byte-in-Field g c = λ f h.
    rw (← c.front.view_is, c.in-Field.is, ← c.as_slice-parts.ensures.value)
    (then_written _ c.args.out.now.items _ (c.front.inside.kind ∷ []) _ _ c.in_ok-write_byte-in-Field.ensures (c.write_elems-in-Field.ensures f h))

pub returns-in_ok-write_byte-in-Property : goal.returns-in_ok-write_byte-in-Property
unfolding front_bytes
returns-in_ok-write_byte-in-Property g c = λ f h.
    rw (← c.front.view_is, c.in-Property.is, ← c.as_slice-parts.ensures.value)
    (then_written _ c.args.out.now.items _ (c.front.inside.kind ∷ []) _ _ c.in_ok-write_byte-in-Property.ensures (c.write_parts-in-Property.ensures f h))

pub returns-in_ok-write_byte-in-Locals : goal.returns-in_ok-write_byte-in-Locals
unfolding front_bytes
returns-in_ok-write_byte-in-Locals g c = λ f h.
    rw (← c.front.view_is, c.in-Locals.is, ← c.as_slice-parts.ensures.value)
    (then_written _ c.args.out.now.items _ (c.front.inside.kind ∷ []) _ _ c.in_ok-write_byte-in-Locals.ensures (c.write_counted.ensures f h))

pub returns-in_ok-write_byte-in-MethodSpec : goal.returns-in_ok-write_byte-in-MethodSpec
unfolding front_bytes
returns-in_ok-write_byte-in-MethodSpec g c = λ f h.
    rw (← c.front.view_is, c.in-MethodSpec.is, ← c.as_slice-parts.ensures.value)
    (then_written _ c.args.out.now.items _ (c.front.inside.kind ∷ []) _ _ c.in_ok-write_byte-in-MethodSpec.ensures (c.write_counted-in-MethodSpec.ensures f h))
