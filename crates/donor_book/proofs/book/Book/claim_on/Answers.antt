use Rattle.std.proofs.Common.{rules}
use Rattle.donor_book.specs.declared.claim.Claim.TheVariants as claim
use Rattle.donor_book.specs.Entries.{wins_of}
use Rattle.donor_book.proofs.AnswerLaws.{nobody_when}
use Rattle.donor_book.proofs.book.Book.claim_on.Goals as goal

pub returns-in-Some-reply-clause-nobody : goal.returns-in-Some-reply-clause-nobody
returns-in-Some-reply-clause-nobody c = nobody_when (claim.Given c.in-Some-reply.donor) c.args.self.now.limit (wins_of c.args.self.now.history) c.args.row_no
    c.args.ranking.items (search rules)

pub returns-in-None-clause-nobody : goal.returns-in-None-clause-nobody
returns-in-None-clause-nobody c = nobody_when claim.Nobody c.args.self.now.limit (wins_of c.args.self.now.history) c.args.row_no c.args.ranking.items
    (search rules)
