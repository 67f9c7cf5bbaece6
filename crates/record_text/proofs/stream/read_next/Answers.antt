use Rattle.csv.specs.Records.{fields_of}
use Rattle.record_text.proofs.StreamLaws.{next_place}
use Rattle.record_text.proofs.stream.read_next.Goals as goal
use Rattle.record_text.proofs.stream.read_next.Goals.{in-Ok, in-Err}

pub returns : goal.returns
returns c =
    elim c.match-read_byte_record.branch [
      | in-Ok w ↦ rw w.result-is (λ here at.
          let read = w.in-Ok.ensures in
          next_place c.args.reader.now c.read_byte_record.new.self w.in-Ok.found (fields_of c.read_byte_record.new.row) here at
          (read.ready at.plain) read.flexible (read.reads at.plain at.ready))
      | in-Err w ↦ rw w.result-is tt
    ]
