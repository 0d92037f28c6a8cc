use Rattle.enc_plain.proofs.AlikeLaws.{each_is_alike_itself, none_is_alike_by_another_name, none_is_alike_by_another_namespace, absent_is_alike_itself_alone}
use Rattle.enc_plain.proofs.laws.likeness_laws.Goals as goal

pub returns : goal.returns
returns c = record {
  itself = each_is_alike_itself;
  name = none_is_alike_by_another_name;
  namespace = none_is_alike_by_another_namespace;
  absent = absent_is_alike_itself_alone;
}
