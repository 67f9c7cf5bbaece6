use Rattle.std.proofs.Common.{◌∙◌, sym}
use Rattle.reason_lines.proofs.HeaderLaws.{header_by_texts, is_seven, not_both}
use Rattle.reason_lines.proofs.header.is_header.Goals as goal
use Rattle.reason_lines.proofs.header.is_header.Goals.{then-len-eq7, else-len-eq7, then-has_text, else-has_text, then-has_text-2, else-has_text-2}
use Rattle.reason_lines.proofs.header.is_header.Goals.{then-has_text-3, else-has_text-3, then-has_text-4, else-has_text-4, then-has_text-5, else-has_text-5}

pub returns-then-has_text-6 : goal.returns-then-has_text-6
returns-then-has_text-6 c = elim c.if-has_text-5.branch [
  | else-has_text-5 w ↦ absurd (not_both _ w.if-has_text-5.false (sym w.value-is ∙ c.if-has_text-6.true))
  | then-has_text-5 t5 ↦ elim c.if-has_text-4.branch [
    | else-has_text-4 w ↦ absurd (not_both _ w.if-has_text-4.false (sym w.value-is ∙ t5.if-has_text-5.true))
    | then-has_text-4 t4 ↦ elim c.if-has_text-3.branch [
      | else-has_text-3 w ↦ absurd (not_both _ w.if-has_text-3.false (sym w.value-is ∙ t4.if-has_text-4.true))
      | then-has_text-3 t3 ↦ elim c.if-has_text-2.branch [
        | else-has_text-2 w ↦ absurd (not_both _ w.if-has_text-2.false (sym w.value-is ∙ t3.if-has_text-3.true))
        | then-has_text-2 t2 ↦ elim c.if-has_text.branch [
          | else-has_text w ↦ absurd (not_both _ w.if-has_text.false (sym w.value-is ∙ t2.if-has_text-2.true))
          | then-has_text t1 ↦ elim c.if-len-eq7.branch [
            | else-len-eq7 w ↦ absurd (w.if-len-eq7.false (is_seven c.len.result (sym w.value-is ∙ t1.if-has_text.true)))
            | then-len-eq7 t0 ↦
                header_by_texts c.args.texts.now c.has_text-then-has_text-6.result (cc (c.len.ensures, t0.if-len-eq7.true))
                (sym t0.has_text.ensures ∙ sym t0.value-is ∙ t1.if-has_text.true)
                (sym t1.has_text-then-has_text.ensures ∙ sym t1.value-is ∙ t2.if-has_text-2.true)
                (sym t2.has_text-then-has_text-2.ensures ∙ sym t2.value-is ∙ t3.if-has_text-3.true)
                (sym t3.has_text-then-has_text-3.ensures ∙ sym t3.value-is ∙ t4.if-has_text-4.true)
                (sym t4.has_text-then-has_text-4.ensures ∙ sym t4.value-is ∙ t5.if-has_text-5.true)
                (sym t5.has_text-then-has_text-5.ensures ∙ sym t5.value-is ∙ c.if-has_text-6.true) c.has_text-then-has_text-6.ensures
          ]
        ]
      ]
    ]
  ]
]
