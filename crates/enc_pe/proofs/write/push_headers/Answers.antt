use Rattle.std.proofs.Common.{◌++◌, ◌∙◌, ap, sym}
use Rattle.std.proofs.lemmas.Result.{on_ok_weaker}
use Rattle.enc_pe.proofs.HeadersWritten.{joined_headers, headers_are}
use Rattle.enc_pe.proofs.write.push_headers.Goals as goal

pub returns : goal.returns
returns c =
    let a = c.args in
    let put = joined_headers _ _ _ _ _ _ _ _ _ _ _ _ _ _ _ c.in_ok-push_dos_header.ensures c.in_ok-push_coff_header.ensures c.in_ok-push_standard_fields.ensures c.in_ok-push_nt_fields.ensures c.in_ok-push_directories.ensures c.in_ok-push_section_header.ensures in
    on_ok_weaker c.push_zeros.result (λ last. put last ∙ ap (λ bytes. a.out.now.items ++ bytes) (sym (headers_are a.size a.raw a.cli))) c.push_zeros.ensures
