use Rattle.std.proofs.Common.{◌≡◌, Some, option_map, ap, sym, ◌∙◌}
use Rattle.std.specs.Bool.{Decides}
use Rattle.std.proofs.lemmas.Bool.Decides.{Decides-like}
use Rattle.std.proofs.lemmas.Result.{IfOk-weaker}
use Rattle.cert_check.specs.RowChecks.{AreReleasedTexts}
use Rattle.cert_check.specs.inner.Checks.{GivesClean, files_in, rules_in}
use Rattle.cert_check.proofs.ReleasedLaws.{gives-released, gives-clean, released-gives, clean-gives}
use Rattle.cert_check.proofs.released_row.has_right_row.Goals as goal

pub returns-then-changes_some : goal.returns-then-changes_some
returns-then-changes_some c =
    let checking = c.args.checking.now in
    let files = c.args.files.now in
    let path = c.args.path.now in
    let texts = c.in-Some.texts.now in
    let is : option_map (λ t. t.now) files.texts ≡ Some texts = ap (option_map (λ t. t.now)) c.in-Some.is in
    IfOk-weaker c.gives_clean.result (λ b. Decides b (GivesClean checking path texts files.row.now))
    (λ b. Decides b (AreReleasedTexts (rules_in checking) (files_in files) path))
    (λ b decides. Decides-like b (gives-released checking files path texts is (sym c.are_same.ensures ∙ c.if-not-are_same.false))
    (released-gives checking files path texts is) decides) c.gives_clean.ensures

pub returns-else-changes_some : goal.returns-else-changes_some
returns-else-changes_some c =
    let checking = c.args.checking.now in
    let files = c.args.files.now in
    let path = c.args.path.now in
    let texts = c.in-Some.texts.now in
    let none = rw c.changes_some.ensures at c.if-changes_some.false in
    let is : option_map (λ t. t.now) files.texts ≡ Some texts = ap (option_map (λ t. t.now)) c.in-Some.is in (
      λ yes. gives-released checking files path texts is (sym c.are_same.ensures ∙ c.if-not-are_same.false)
          (clean-gives checking path texts files.row.now c.requires.files.row none (sym c.is_clean.ensures ∙ yes)),
      λ released. c.is_clean.ensures ∙ gives-clean checking path texts files.row.now c.requires.files.row none
          (released-gives checking files path texts is released),
    )
