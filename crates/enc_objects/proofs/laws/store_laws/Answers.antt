use Rattle.enc_objects.proofs.Changing.{fields_are_set, other_fields_stay, statics_are_set, other_statics_stay, elements_are_set, other_elements_stay, parts_stay_apart, new_objects_are_there, old_objects_stay, objects_stay_there}
use Rattle.enc_objects.proofs.laws.store_laws.Goals as goal

pub returns-clause-field : goal.returns-clause-field
returns-clause-field c = fields_are_set

pub returns-clause-other_fields : goal.returns-clause-other_fields
returns-clause-other_fields c = other_fields_stay

pub returns-clause-statics : goal.returns-clause-statics
returns-clause-statics c = statics_are_set

pub returns-clause-other_statics : goal.returns-clause-other_statics
returns-clause-other_statics c = other_statics_stay

pub returns-clause-element : goal.returns-clause-element
returns-clause-element c = elements_are_set

pub returns-clause-other_elements : goal.returns-clause-other_elements
returns-clause-other_elements c = other_elements_stay

pub returns-clause-apart : goal.returns-clause-apart
returns-clause-apart c = parts_stay_apart

pub returns-clause-new_objects : goal.returns-clause-new_objects
returns-clause-new_objects c = new_objects_are_there

pub returns-clause-old_objects : goal.returns-clause-old_objects
returns-clause-old_objects c = old_objects_stay

pub returns-clause-objects : goal.returns-clause-objects
returns-clause-objects c = objects_stay_there
