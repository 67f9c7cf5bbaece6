use Rattle.std.proofs.Common.{◌∙◌, sym, take, arith}
use Rattle.cert_check.proofs.ClaimLaws.{claims-within, none-right}
use Rattle.std.proofs.lemmas.Grind.{common_steps}
use Rattle.cert_check.proofs.claims_check.wrong_claim.Goals as goal

pub returns-then-is_empty : goal.returns-then-is_empty
returns-then-is_empty c = none-right c.args.survey.now c.args.records.now.rows c.args.said.now c.args.said.now.claims
    (rw c.claims-claims.ensures at (sym c.is_empty.ensures ∙ c.if-is_empty.true))

pub first_illegal-requires : goal.first_illegal-requires
first_illegal-requires c =
    let survey = c.args.survey.now in
    let rows = c.args.records.now.rows in
    let p = c.args.said.now in
    let formed = c.formed_count-formed.ensures.count survey rows (c.deref.ensures.value ∙ c.in_ok-clean.ensures) in
    record {
      within = rw c.claims-claims.ensures (claims-within survey rows p c.len-count.result (take c.formed_count-formed.result p.claims)
          c.len-count.ensures.rows c.requires.one_each formed.formed);
    }

pub returns-in-Some : goal.returns-in-Some
returns-in-Some c = grind (arith, common_steps)

pub returns : goal.returns
returns c = grind (arith, common_steps)
