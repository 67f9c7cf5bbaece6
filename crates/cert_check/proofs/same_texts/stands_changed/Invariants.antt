use Rattle.std.proofs.Common.{◌≡◌, drop}
use Rattle.bound_cert.specs.Paths.{changes}
use Rattle.cert_check.specs.Released.{stands_changed}
use Rattle.cert_check.proofs.same_texts.stands_changed.Given as goal

abbrev pub invariant-loop-field : goal.invariant-loop-field
invariant-loop-field l =
    stands_changed (changes l.checking.survey.now.fields l.path) l.field (drop l.field l.checking.columns.now) l.column
    ≡ stands_changed (changes l.checking.survey.now.fields l.path) 0 l.checking.columns.now l.column
