use Rattle.std.proofs.Common.{◌≡◌, Some, sym, rules}
use Rattle.enc_objects.specs.Objects.{shape_in}
use Rattle.enc_objects.specs.declared.shape.Shape.TheVariants as shape
use Rattle.enc_session.proofs.Contents.{none_content, class_content, array_content, text_content}
use Rattle.enc_session.proofs.objects.push_content.Goals as goal

pub returns-in-None : goal.returns-in-None
returns-in-None c = rw (none_content c.args.objects.now c.args.id (sym c.in-None.ensures.shape)) (search rules)

pub returns-in-Some-Object : goal.returns-in-Some-Object
returns-in-Some-Object c =
    let e : shape_in c.args.objects.now c.args.id ≡ Some (shape.Object c.in-Some-Object.class) = cc in
    rw (class_content c.args.objects.now c.args.id c.in-Some-Object.class e) c.push_instance.ensures

pub returns-in-Some-Array : goal.returns-in-Some-Array
returns-in-Some-Array c =
    let e : shape_in c.args.objects.now c.args.id ≡ Some (shape.Array c.in-Some-Array.kind c.in-Some-Array.field-0-1) = cc in
    rw (array_content c.args.objects.now c.args.id c.in-Some-Array.kind c.in-Some-Array.field-0-1 e) c.push_array.ensures

pub returns-in-Some-Text : goal.returns-in-Some-Text
returns-in-Some-Text c =
    let e : shape_in c.args.objects.now c.args.id ≡ Some (shape.Text c.in-Some-Text.field-0-0) = cc in
    rw (text_content c.args.objects.now c.args.id c.in-Some-Text.field-0-0 e) c.push_text.ensures
