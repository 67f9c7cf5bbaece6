use Rattle.std.proofs.Common.{◌∙◌, ap, refl}
use Rattle.run_parts.proofs.ToldLaws.{handed}
use Rattle.page_command.specs.PageRun.{page_line}
use Rattle.page_command.specs.inner.PageParts.{out_of_memory}
use Rattle.page_command.proofs.page_run.page_file.Goals as goal

pub returns-in_err-line-clause-refused : goal.returns-in_err-line-clause-refused
returns-in_err-line-clause-refused c =
    rw (handed c.from_residual-in_err-line.result out_of_memory c.from_residual-in_err-line.ensures.1) refl

pub returns-clause-line : goal.returns-clause-line
returns-clause-line c = c.in_ok-line.ensures ∙ ap page_line c.release-release.ensures.is
