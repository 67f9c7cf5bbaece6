use Rattle.std.proofs.lemmas.Result.{err_from_is_err_and}
use Rattle.edit_language.specs.Reading.{IsFaultOf, IsNoRuleText, IsOnlyFaultOf}
use Rattle.edit_language.proofs.GrammarLaws.{handed_on, read_all, read_more, rule_text_once, told_last, told_next}
use Rattle.edit_language.proofs.reading.read_rules.Goals as goal

pub returns-in_err-take_line-clause-fault : goal.returns-in_err-take_line-clause-fault
returns-in_err-take_line-clause-fault c =
    let told = told_next c.args.bytes.now c.loop-line.rest.now c.loop-line.number c.loop-line.draft c.in-Some.line.now c.in-Some.after.now
    c.in_err-take_line.field-0.0 c.loop-line.invariant c.in-Some.ensures.line c.in-Some.ensures.rest c.in-Some.ensures.ended
    c.in_err-take_line.ensures.fault in
    let answer = err_from_is_err_and c.from_residual.result c.from_residual.ensures.1 in
    handed_on c.from_residual.result (λ fault. IsFaultOf c.args.bytes.now fault) answer.0 c.in_err-take_line.field-0.0 answer.1 answer.2 told.0

pub returns-in_err-take_line-clause-first : goal.returns-in_err-take_line-clause-first
returns-in_err-take_line-clause-first c =
    let told = told_next c.args.bytes.now c.loop-line.rest.now c.loop-line.number c.loop-line.draft c.in-Some.line.now c.in-Some.after.now
    c.in_err-take_line.field-0.0 c.loop-line.invariant c.in-Some.ensures.line c.in-Some.ensures.rest c.in-Some.ensures.ended
    c.in_err-take_line.ensures.fault in
    let answer = err_from_is_err_and c.from_residual.result c.from_residual.ensures.1 in
    handed_on c.from_residual.result (λ fault. IsOnlyFaultOf c.args.bytes.now fault) answer.0 c.in_err-take_line.field-0.0 answer.1 answer.2 told.1

pub returns-in_err-take_line-clause-unread : goal.returns-in_err-take_line-clause-unread
returns-in_err-take_line-clause-unread c =
    let told = told_next c.args.bytes.now c.loop-line.rest.now c.loop-line.number c.loop-line.draft c.in-Some.line.now c.in-Some.after.now
    c.in_err-take_line.field-0.0 c.loop-line.invariant c.in-Some.ensures.line c.in-Some.ensures.rest c.in-Some.ensures.ended
    c.in_err-take_line.ensures.fault in
    let answer = err_from_is_err_and c.from_residual.result c.from_residual.ensures.1 in
    handed_on c.from_residual.result (λ fault. IsNoRuleText c.args.bytes.now fault) answer.0 c.in_err-take_line.field-0.0 answer.1 answer.2 told.2

pub loop-line-preserved : goal.loop-line-preserved
loop-line-preserved c = read_more c.args.bytes.now c.loop-line.rest.now c.loop-line.number c.loop-line.draft c.take_line.new.self c.in-Some.line.now
    c.in-Some.after.now c.loop-line.invariant c.in-Some.ensures.line c.in-Some.ensures.rest c.in-Some.ensures.ended c.in_ok-take_line.ensures.adds

pub returns-in_err-take_last_line-clause-fault : goal.returns-in_err-take_last_line-clause-fault
returns-in_err-take_last_line-clause-fault c =
    let told = told_last c.args.bytes.now c.loop-line.rest.now c.loop-line.number c.loop-line.draft c.in_err-take_last_line.field-0.0 c.loop-line.invariant
    c.in_default.ensures.none c.in_err-take_last_line.ensures.fault in
    let answer = err_from_is_err_and c.from_residual-in_err-take_last_line.result c.from_residual-in_err-take_last_line.ensures.1 in
    handed_on c.from_residual-in_err-take_last_line.result
    (λ fault. IsFaultOf c.args.bytes.now fault) answer.0 c.in_err-take_last_line.field-0.0 answer.1 answer.2 told.0

pub returns-in_err-take_last_line-clause-first : goal.returns-in_err-take_last_line-clause-first
returns-in_err-take_last_line-clause-first c =
    let told = told_last c.args.bytes.now c.loop-line.rest.now c.loop-line.number c.loop-line.draft c.in_err-take_last_line.field-0.0 c.loop-line.invariant
    c.in_default.ensures.none c.in_err-take_last_line.ensures.fault in
    let answer = err_from_is_err_and c.from_residual-in_err-take_last_line.result c.from_residual-in_err-take_last_line.ensures.1 in
    handed_on c.from_residual-in_err-take_last_line.result
    (λ fault. IsOnlyFaultOf c.args.bytes.now fault) answer.0 c.in_err-take_last_line.field-0.0 answer.1 answer.2 told.1

pub returns-in_err-take_last_line-clause-unread : goal.returns-in_err-take_last_line-clause-unread
returns-in_err-take_last_line-clause-unread c =
    let told = told_last c.args.bytes.now c.loop-line.rest.now c.loop-line.number c.loop-line.draft c.in_err-take_last_line.field-0.0 c.loop-line.invariant
    c.in_default.ensures.none c.in_err-take_last_line.ensures.fault in
    let answer = err_from_is_err_and c.from_residual-in_err-take_last_line.result c.from_residual-in_err-take_last_line.ensures.1 in
    handed_on c.from_residual-in_err-take_last_line.result
    (λ fault. IsNoRuleText c.args.bytes.now fault) answer.0 c.in_err-take_last_line.field-0.0 answer.1 answer.2 told.2

pub returns-clause-survey : goal.returns-clause-survey
returns-clause-survey c =
    let text = read_all c.args.bytes.now c.loop-line.rest.now c.loop-line.number c.loop-line.draft c.take_last_line.new.self c.loop-line.invariant
    c.in_default.ensures.none c.in_ok-take_last_line.ensures.adds in
    rw c.in_ok-survey.ensures.survey text

pub returns-clause-only : goal.returns-clause-only
returns-clause-only c = λ other also.
    rule_text_once c.args.bytes.now other c.in_ok-survey.survey also (returns-clause-survey c)
