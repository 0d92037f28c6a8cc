use Rattle.enc_pe.proofs.SectionsWritten.{joined_image}
use Rattle.enc_pe.proofs.write.image.Goals as goal

pub returns : goal.returns
returns c =
    let a = c.args in
    joined_image a.root.now a.code.now a.resources.now a.entry c.section_size-size.result c.file_aligned-raw.result c.cli_place.result _ _ _ _ c.section_size-size.ensures c.file_aligned-raw.ensures c.cli_place.ensures c.in_ok-out.ensures.items c.in_ok-push_headers.ensures c.in_ok-push_section.ensures c.in_ok-push_zeros.ensures
