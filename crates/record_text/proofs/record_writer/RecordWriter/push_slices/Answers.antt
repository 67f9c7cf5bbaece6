use Rattle.std.proofs.Common.{◌≡◌, ◌++◌, ◌∙◌, ◌∷◌, [], Bor, List, ℕ, ap, map, sym}
use Rattle.csv.proofs.ReadFacts.{on-ok}
use Rattle.record_text.specs.Texts.{records_text}
use Rattle.record_text.proofs.WriterLaws.{written-alone}
use Rattle.record_text.proofs.record_writer.RecordWriter.push_slices.Goals as goal

pub returns-clause-written : goal.returns-clause-written
returns-clause-written c =
    let good = sym c.is_err.ensures.value ∙ c.if-is_err.false in
    let handed = sym c.is_err-else-is_err.ensures.value ∙ c.if-is_err-2.false in
    let texts = map (λ (text : Bor (List ℕ)). text.now) c.args.texts.now in
    let appends = on-ok c.write_fields.result good c.write_fields.ensures.bytes in
    let alone = written-alone c.csv_writer-writer.result c.write_fields.new.self c.flush.new.self texts c.csv_writer-writer.ensures appends
    c.flush.ensures.bytes
    (on-ok c.flush.result handed c.flush.ensures.pending) in
    c.in_ok-extend_from_slice.ensures.items
    ∙ ap (λ (bs : List ℕ). c.self.inside.text.items ++ bs) (c.deref.ensures.value ∙ ap (λ v. v.items) c.get_ref.ensures ∙ alone)
    ∙ ap (λ (bs : List ℕ). bs ++ records_text (texts ∷ [])) c.self.view_is
