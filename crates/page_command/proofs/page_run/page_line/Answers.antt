use Rattle.page_command.proofs.page_run.page_line.Goals as goal

pub returns : goal.returns
returns c =
    rw (c.requires.records_counted, c.len.ensures.rows, c.len-left_out.ensures) at c.counts_line.ensures
