use Rattle.bound_cert.specs.Paths.{changes}
use Rattle.record_text.specs.Sheets.{text_at}
use Rattle.cert_check.proofs.NewRowLaws.{values-row}
use Rattle.cert_check.proofs.released_row.gives_clean.Goals as goal

pub new-requires : goal.new-requires
new-requires c =
    let fields = c.args.checking.now.survey.now.fields in
    values-row (changes fields c.args.path.now) (text_at c.args.checking.now.columns.now c.args.texts.now) 0 fields c.args.row.now c.in-Some.values.items
    c.requires.row (rw c.in-Some.is at c.in_ok-values.ensures.values)

pub is_clean-requires : goal.is_clean-requires
is_clean-requires c =
    let fields = c.args.checking.now.survey.now.fields in
    rw c.new.ensures (values-row (changes fields c.args.path.now) (text_at c.args.checking.now.columns.now c.args.texts.now) 0 fields c.args.row.now
    c.in-Some.values.items c.requires.row (rw c.in-Some.is at c.in_ok-values.ensures.values))
