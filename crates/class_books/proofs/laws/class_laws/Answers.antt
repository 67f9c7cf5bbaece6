use Rattle.class_books.proofs.JoinedClasses.{joined-law}
use Rattle.class_books.proofs.laws.class_laws.Goals as goal

pub returns : goal.returns
returns c = joined-law
