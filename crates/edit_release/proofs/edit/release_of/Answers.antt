use Rattle.std.proofs.Common.{◌∙◌, ap, subst, List, IsTrue, ◌↔◌}
use Rattle.proof_grammar.specs.ProofLines.{proof_text}
use Rattle.proof_grammar.specs.Sizes.{IsSized}
use Rattle.edit_report.specs.declared.end.RowEnd.{RowEnd}
use Rattle.pruned_rules.specs.Pruned.{kept_edits}
use Rattle.edit_release.specs.Releases.{AllGiven}
use Rattle.edit_release.specs.declared.release.Release.{Release}
use Rattle.edit_release.proofs.ReleaseLaws.{guarantee-of, release-of, told-written}
use Rattle.edit_release.proofs.TextLaws.{ends-tellable}
use Rattle.edit_release.proofs.edit.release_of.Goals as goal

pub of-requires-clause-ends : goal.of-requires-clause-ends
of-requires-clause-ends c =
    let survey = c.args.edited.survey in
    ends-tellable survey (kept_edits survey) c.args.terms.budget c.args.edited.sheet c.args.edited.ends.items c.requires.ends

pub returns : goal.returns
returns c =
    let survey = c.args.edited.survey in
    let sheet = c.args.edited.sheet in
    let terms = c.args.terms in
    let ends = c.args.edited.ends.items in
    let history = c.args.edited.history.items in
    let texts = c.in_ok-texts.ensures in
    let release : Release = record {
      proof = c.in_ok-proof.proof;
      reasons = c.in_ok-texts.texts.reasons;
      released = c.in_ok-texts.texts.released;
      summary = c.in_ok-texts.texts.summary;
      whole = c.are_given-whole.result;
    } in
    let bytes = c.requires.read.0 in
    let read = c.requires.read.1 in
    let formed = c.fields-fields.ensures.well_formed in
    let same = told-written survey terms ends history c.args.verdicts.items c.requires.verdicts in
    let sized = subst IsSized same c.in_ok-proof.ensures.sized in
    let proof = c.in_ok-proof.ensures.text ∙ ap proof_text same in
    let whole = subst (λ (es : List RowEnd). IsTrue c.are_given-whole.result ↔ AllGiven es) c.as_slice.ensures.value c.are_given-whole.ensures in
    record {
      guaranteed =
          guarantee-of survey sheet bytes terms ends history formed read c.requires.terms c.requires.ends c.requires.say c.requires.donations
          release sized proof texts.released;
      edit = λ workers order.
          release-of survey sheet bytes terms ends history formed read c.requires.terms c.requires.ends c.requires.say c.requires.donations
          release sized proof texts.reasons texts.released texts.summary workers order whole;
    }
