use Rattle.std.proofs.Common.{◌≡◌, drop}
use Rattle.bound_cert.specs.Paths.{changes}
use Rattle.cert_check.specs.Released.{same_from}
use Rattle.cert_check.proofs.same_texts.are_same.Given as goal

abbrev pub invariant-loop-column : goal.invariant-loop-column
invariant-loop-column l =
    same_from (changes l.checking.survey.now.fields l.path) l.checking.columns.now l.column (drop l.column l.reads) (drop l.column l.texts)
    ≡ same_from (changes l.checking.survey.now.fields l.path) l.checking.columns.now 0 l.reads l.texts
