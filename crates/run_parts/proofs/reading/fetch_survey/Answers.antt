use Rattle.run_parts.specs.Readings.{ReadsAs}
use Rattle.run_parts.proofs.HeldLaws.{holds}
use Rattle.run_parts.proofs.reading.fetch_survey.Goals as goal
use Rattle.run_parts.specs.Limits.{most_bytes}

pub returns-in-Ok-clause-read : goal.returns-in-Ok-clause-read
returns-in-Ok-clause-read g c =
    holds (λ bytes. ReadsAs bytes c.in-Ok.survey) (g.D.Desk.files c.args.desk.now) c.args.name.now most_bytes c.in_ok-bytes.bytes.items
    c.in_ok-bytes.ensures.bytes
    (record { read = rw c.deref.ensures.value at c.in-Ok.ensures.survey; only = rw c.deref.ensures.value at c.in-Ok.ensures.only })
