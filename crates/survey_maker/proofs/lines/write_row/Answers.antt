use Rattle.std.proofs.Common.{Bor, List, ap, codes, map, rules, sym, ◌++◌, ◌∙◌, ◌≡◌, ℕ}
use Rattle.std.proofs.lemmas.List.Folds.{flat_map-map}
use Rattle.std.specs.Fmt.{decimal}
use Rattle.survey_maker.specs.Businesses.{codes_at}
use Rattle.survey_maker.specs.Draws.{state_after}
use Rattle.survey_maker.specs.RecordFiles.{answers_at, answers_text, texts_behind_commas}
use Rattle.survey_maker.specs.declared.answers.Answer.{Answer}
use Rattle.survey_maker.specs.declared.answers.Answer.TheVariants.{Right}
use Rattle.survey_maker.specs.declared.business.Business.{Business}
use Rattle.survey_maker.specs.inner.Drawn.{answers_from, business_at, codes_in, draws_from, numbers_in}
use Rattle.survey_maker.proofs.RowLaws.{answers-drawn, line-appended, state-drawn}
use Rattle.survey_maker.proofs.lines.write_row.Goals as goal

pub returns-clause-text : goal.returns-clause-text
returns-clause-text c =
    let s = c.args.generator.now in
    let wide : c.from.result ≡ c.args.number = search rules in
    let right : c.answers.result ≡ map Right (numbers_in (business_at s)) =
    c.answers.ensures ∙ ap (λ (b : Business). map Right (numbers_in b)) c.draw-business.ensures.drawn in
    let answers : c.draw_answers-answers.result ≡ answers_at s =
    c.draw_answers-answers.ensures.answers ∙ (λ i. answers_from (right i) (c.draw-business.ensures.state i)) ∙ answers-drawn s in
    let list : map (λ (code : Bor (List ℕ)). code.now) c.codes.result ≡ codes_at s = c.codes.ensures ∙ ap codes_in c.draw-business.ensures.drawn in
    let mapped = sym (flat_map-map (λ (code : List ℕ). codes "," ++ code) (λ (code : Bor (List ℕ)). code.now) c.codes.result) in
    line-appended c.args.number s c.args.text.now.items c.write_number.new.text.items c.write_answers.new.text.items
    c.write_codes.new.text.items c.push.new.self.items
    (c.in_ok-write_number.ensures ∙ ap (λ (n : ℕ). c.args.text.now.items ++ decimal n) wide)
    (c.in_ok-write_answers.ensures ∙ ap (λ (given : List Answer). c.write_number.new.text.items ++ answers_text given) answers)
    (c.in_ok-write_codes.ensures ∙ ap (λ (more : List ℕ). c.write_answers.new.text.items ++ more) (mapped ∙ ap texts_behind_commas list))
    c.in_ok-push.ensures.items

pub returns-clause-state : goal.returns-clause-state
returns-clause-state c =
    c.draw_answers-answers.ensures.state ∙ ap (λ (t : ℕ). state_after (draws_from t) t) c.draw-business.ensures.state ∙ state-drawn c.args.generator.now
