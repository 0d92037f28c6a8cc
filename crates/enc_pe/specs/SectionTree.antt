-- For the contracts of private functions: what a node of the tree of sections is seen as.
use Rattle.std.specs.Prelude.{List, ◌∷◌, ◌++◌}
use Rattle.enc_pe.specs.declared.section.Section.{Section}
use Rattle.enc_pe.specs.declared.sections.Node.{Node}
use Rattle.enc_pe.specs.declared.sections.Node.TheVariants.{List as ShortList, Fork}

-- the sections in order
abbrev pub tree_sections : Node → List Section
tree_sections (ShortList sections) = sections.items
tree_sections (Fork l s r) = l.value ++ s ∷ r.value
