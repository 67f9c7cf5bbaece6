-- The loop over the records of a proof.
use Rattle.std.proofs.Common.{◌≡◌, ◌∙◌, ℕ, ◌+◌, ◌<◌, ◌≤◌, true, List, [], ◌∷◌, Some, inl, inr, refl, sym, ap, subst, arith, drop, get_or, length}
use Rattle.std.specs.List.{flat_map}
use Rattle.std.proofs.lemmas.List.{drop_all, drop_more}
use Rattle.edit_model.specs.declared.value.Value.{Value}
use Rattle.bound_cert.specs.declared.outcome.RowProof.{RowProof}
use Rattle.proof_grammar.specs.ProofLines.{row_lines}
use Rattle.cert_check.specs.Releases.{AreValidRows, IsFaultAmong, behind, files_of, is_released, next_texts}
use Rattle.cert_check.specs.RowChecks.{IsValidRow, RowRules}
use Rattle.cert_check.specs.declared.fault.Why.{Why}
use Rattle.cert_check.specs.declared.row_check.RowFault.{RowFault}
use Rattle.cert_check.specs.inner.Finds.{FindsAmong}
use Rattle.cert_check.specs.inner.RowFaults.{FindsSaid}

-- the next released row, where there is one, and the rows behind it
pub next-there : (said : RowProof) (row_texts : List (List (List ℕ))) (next : ℕ) → is_released said ≡ true → next < length row_texts
    → next_texts said (drop next row_texts) ≡ Some (get_or row_texts next [])
next-there said row_texts next released below = rw (drop_more row_texts next [] below, released) refl

pub behind-there : (said : RowProof) (row_texts : List (List (List ℕ))) (next : ℕ) → is_released said ≡ true → next < length row_texts
    → drop (next + 1) row_texts ≡ behind said (drop next row_texts)
behind-there said row_texts next released below = rw (drop_more row_texts next [] below, released) refl

module _ (r : RowRules) (saids : List RowProof) (row_texts : List (List (List ℕ))) (rows : List (List Value)) (released : List (List (List ℕ))) where
  -- the records from a place on are valid where all are, and a fault among them is one among all
  pub record GoesOn (i next offset : ℕ) : Type 0 where
    pub back : AreValidRows r (drop i saids) (drop i row_texts) (drop i rows) (drop next released) → AreValidRows r saids row_texts rows released
    pub on : AreValidRows r saids row_texts rows released → AreValidRows r (drop i saids) (drop i row_texts) (drop i rows) (drop next released)
    pub fault : (rest : ℕ) (why : Why) → IsFaultAmong r (drop i saids) (drop i row_texts) (drop i rows) (drop next released) rest why
        → IsFaultAmong r saids row_texts rows released (offset + rest) why

  pub goes-first : GoesOn 0 0 0
  goes-first = record {
    back = λ valid. valid;
    on = λ valid. valid;
    fault = λ rest why found. subst (λ (n : ℕ). IsFaultAmong r saids row_texts rows released n why) (omega arith) found;
  }

  module _ (i next offset : ℕ) (goes : GoesOn i next offset) (here : i < length saids) (same : length saids ≡ length rows)
      (also : length row_texts ≡ length rows) (said : RowProof) (is_said : said ≡ get_or saids i said) where
    saids-are : drop i saids ≡ said ∷ drop (i + 1) saids
    saids-are = drop_more saids i said here ∙ ap (λ (s : RowProof). s ∷ drop (i + 1) saids) (sym is_said)

    row_texts-are : drop i row_texts ≡ get_or row_texts i [] ∷ drop (i + 1) row_texts
    row_texts-are = drop_more row_texts i [] (omega (arith, here, same, also))

    rows-are : drop i rows ≡ get_or rows i [] ∷ drop (i + 1) rows
    rows-are = drop_more rows i [] (omega (arith, here, same))

    abbrev Here : Type 0
    Here = IsValidRow r (files_of said (get_or row_texts i []) (get_or rows i []) (drop next released)) said

    valid-apart : AreValidRows r (drop i saids) (drop i row_texts) (drop i rows) (drop next released) → Here
        × AreValidRows r (drop (i + 1) saids) (drop (i + 1) row_texts) (drop (i + 1) rows) (behind said (drop next released))
    valid-apart valid = rw (saids-are, row_texts-are, rows-are) at valid

    -- one valid record more
    pub goes-more : (later : ℕ) → Here → drop later released ≡ behind said (drop next released) → GoesOn (i + 1) later (offset + length (row_lines said))
    goes-more later valid is = record {
      back = λ rest. goes.back (rw (saids-are, row_texts-are, rows-are) (valid, rw is at rest));
      on = λ all. rw is ((valid-apart (goes.on all)).1);
      fault = λ rest why found.
          subst (λ (n : ℕ). IsFaultAmong r saids row_texts rows released n why) (omega arith)
          (goes.fault (length (row_lines said) + rest) why (rw (saids-are, row_texts-are, rows-are) (inr (valid, (rest, rw is at found, refl)))));
    }

    -- the fault of the record is the first
    pub goes-fault : (fault : RowFault) → FindsSaid r (files_of said (get_or row_texts i []) (get_or rows i []) (drop next released)) said.outcome said.gift
        (Some fault) → offset + fault.offset < length (flat_map row_lines saids)
        → FindsAmong r saids row_texts rows released (Some (record { offset = offset + fault.offset; why = fault.why }))
    goes-fault fault (found, not) fits = (
      goes.fault fault.offset fault.why (rw (saids-are, row_texts-are, rows-are) (inl found)),
      λ all. not ((valid-apart (goes.on all)).0),
      fits,
    )

  -- past the last record all are valid
  pub goes-all : (i next offset : ℕ) → GoesOn i next offset → length saids ≤ i → length saids ≡ length rows → length row_texts ≡ length rows
      → AreValidRows r saids row_texts rows released
  goes-all i next offset goes past same also =
      goes.back (rw (drop_all i saids past, drop_all i row_texts (omega (arith, past, same, also)), drop_all i rows (omega (arith, past, same))) tt)
