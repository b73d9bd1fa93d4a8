use Rattle.std.proofs.Common.{◌++◌, sym}
use Rattle.object_view.proofs.Standing.{known-more, places-more, references-more, size-more, Stands-classes}
use Rattle.object_view.proofs.laws.more_classes_stand.Goals as goal

pub returns-clause-known : goal.returns-clause-known
returns-clause-known c = known-more

pub returns-clause-size : goal.returns-clause-size
returns-clause-size c = size-more

pub returns-clause-places : goal.returns-clause-places
returns-clause-places c = places-more

pub returns-clause-references : goal.returns-clause-references
returns-clause-references c = references-more

pub returns-clause-object : goal.returns-clause-object
returns-clause-object c cs more v at shape header values known s = Stands-classes cs (cs ++ more) v at shape header values (size-more cs more shape known) (places-more cs more shape known) s

pub returns-clause-before : goal.returns-clause-before
returns-clause-before c cs more v at shape header values known s = Stands-classes (cs ++ more) cs v at shape header values (sym (size-more cs more shape known)) (sym (places-more cs more shape known)) s
