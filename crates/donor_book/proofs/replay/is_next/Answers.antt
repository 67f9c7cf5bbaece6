use Rattle.donor_book.proofs.ReplayLaws.{may_follow}
use Rattle.donor_book.proofs.replay.is_next.Goals as goal

pub returns-then-is_none : goal.returns-then-is_none
returns-then-is_none c history replay = rw (c.eq.ensures, c.first_below.ensures, c.as_slice.ensures)
    (may_follow c.args.limit history c.args.uses.now c.args.replies.now c.args.entry.now replay c.requires c.if-is_none.ensures)
