use Rattle.std.proofs.Common.{◌∷◌, [], ◌%◌, ◌-◌, length, ap}
use Rattle.std.specs.Prelude.{slice_get}
use Rattle.enc_sigs.specs.declared.type_form.Numeral.TheVariants.{Size, Bound}
use Rattle.enc_sigs.specs.Tree.{Tree, forest_of}
use Rattle.enc_sigs.specs.Spelling.{number_bytes, token_bytes, front_of, numerals_of, generics_bytes, counted_bytes, parts_bytes, array_bytes, formed_bytes, spellings}
use Rattle.enc_sigs.specs.Moved.{forest_moved}
use Rattle.enc_sigs.proofs.MovedTrees.{count_moved, numerals_at_moved, pointer_moved, then_written, elem_written}
use Rattle.enc_sigs.proofs.write.+writer.Goals as goal

pub write_array-returns : goal.write_array-returns
unfolding array_bytes
write_array-returns g t c = λ f h.
    let kids = c.args.kids.now in
    rw (numerals_at_moved f Size kids 1, numerals_at_moved f Bound kids 2)
    (then_written _ c.args.out.now.items _ (front_of (spellings (forest_moved f (forest_of kids)))) _ _ (c.in_ok-write_first.ensures f h)
    (then_written _ c.write_first.new.out.items _ (number_bytes c.args.rank) _ _ c.in_ok-write_number.ensures
    (then_written _ c.write_number.new.out.items _ (numerals_of Size (slice_get kids 1)) _ _ c.in_ok-write_numerals_at.ensures c.write_numerals_at-2.ensures)))

pub write_counted-returns : goal.write_counted-returns
unfolding counted_bytes
write_counted-returns g t c = λ f h.
    let kids = forest_of c.args.kids.now in
    rw (count_moved f kids)
    (then_written _ c.args.out.now.items _ (number_bytes (length (spellings kids))) _ _ c.in_ok-write_count.ensures (c.write_elems.ensures f h))

pub write_elem-returns : goal.write_elem-returns
write_elem-returns g t c = λ f h.
    elem_written _ f c.args.elem.now _ _ c.args.out.now.items _ _ (ap (λ (x : Tree). x.element) c.elem.view_is)
    c.form_by.ensures c.in_ok-write_byte.ensures (c.write_within.ensures f h)

pub write_instance-returns : goal.write_instance-returns
write_instance-returns g t c = λ f h.
    then_written _ c.args.out.now.items _ ((c.args.class % 0x100) ∷ []) _ _ c.in_ok-write_byte.ensures
    (then_written _ c.write_byte.new.out.items _ (token_bytes (f c.args.token)) _ _ (c.in_ok-write_moved_token.ensures f h) (c.write_counted.ensures f h))

pub write_parts-returns : goal.write_parts-returns
unfolding parts_bytes
write_parts-returns g t c = λ f h.
    let kids = forest_of c.args.kids.now in
    rw (count_moved f kids)
    (then_written _ c.args.out.now.items _ (number_bytes (length (spellings kids) - 1)) _ _ c.in_ok-write_count_behind.ensures (c.write_elems.ensures f h))

pub write_pointer-returns : goal.write_pointer-returns
write_pointer-returns g t c = λ f h.
    let generics = c.generics-item.result in
    rw (pointer_moved f c.args.calling c.args.kids.now generics c.in-len1-up.len_at_least c.generics-item.is, ← c.generics.view_is)
    (then_written _ c.args.out.now.items _ ((c.args.calling % 0x100) ∷ []) _ _ c.in_ok-write_byte.ensures
    (then_written _ c.write_byte.new.out.items _ (generics_bytes c.args.calling c.generics.inside.number) _ _ c.in_ok-write_generics.ensures
    (c.write_parts.ensures f h)))

pub write_within-returns-in_ok-write_moved_token-in-Modified : goal.write_within-returns-in_ok-write_moved_token-in-Modified
unfolding formed_bytes
write_within-returns-in_ok-write_moved_token-in-Modified g t c = λ f h.
    rw (c.in-Some.is, c.in-Modified.is, ← c.kids-kids.ensures.forest, ← c.elem.view_is)
    (then_written _ c.args.out.now.items _ (token_bytes (f c.elem.inside.token)) _ _ (c.in_ok-write_moved_token-in-Modified.ensures f h)
    (c.write_elems-in-Modified.ensures f h))

pub write_within-returns-in-Array : goal.write_within-returns-in-Array
unfolding formed_bytes
write_within-returns-in-Array g t c = λ f h. rw (c.in-Some.is, c.in-Array.is, ← c.kids-kids.ensures.forest, ← c.elem.view_is) (c.write_array.ensures f h)

pub write_within-returns-in-Pointer : goal.write_within-returns-in-Pointer
unfolding formed_bytes
write_within-returns-in-Pointer g t c = λ f h. rw (c.in-Some.is, c.in-Pointer.is, ← c.kids-kids.ensures.forest, ← c.elem.view_is) (c.write_pointer.ensures f h)
