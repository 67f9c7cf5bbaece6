use Rattle.std.proofs.Common.{rules}
use Rattle.record_text.proofs.SheetLaws.{rows_are_records}
use Rattle.search_bench.proofs.SearchLaws.{not-memory}
use Rattle.search_bench.proofs.text_of.Goals as goal

pub search_text-requires : goal.search_text-requires
search_text-requires c = rows_are_records c.in-Ok.survey.fields c.args.records.now c.in-Ok-read_records.sheet c.in-Ok-read_records.ensures.sheet

pub returns-in-Err-read_records-clause-records : goal.returns-in-Err-read_records-clause-records
returns-in-Err-read_records-clause-records c told = record {
  survey = c.in-Ok.survey;
  rules_are = c.in-Ok.ensures.survey;
  unread = c.in-Err-read_records.ensures.unread (not-memory _ (search rules));
}
