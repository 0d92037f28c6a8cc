-- For the contracts of private functions: each side of a fork has fewer sections than the fork.
use Rattle.std.specs.Prelude.{◌≤◌, max, ◌∷◌, length}
use Rattle.std.proofs.Common.{arith, length-append}
use Rattle.enc_pe.specs.declared.sections.Node.{Node}
use Rattle.enc_pe.specs.declared.sections.Node.TheVariants.{List as ShortList, Fork}
use Rattle.enc_pe.specs.declared.sections.Sections.TheDeep.{deep-Node}
use Rattle.enc_pe.specs.SectionTree.{tree_sections}

-- no side is deeper than the node has sections
pub depth_le-length-sections : (n : Node) → max (deep-Node n) 0 ≤ length (tree_sections n)
depth_le-length-sections (ShortList sections) = omega arith
depth_le-length-sections (Fork l s r) = omega (arith, length-append l.value (s ∷ r.value))
