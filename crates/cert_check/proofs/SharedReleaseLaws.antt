-- A valid release stays one with the proof of version 2.
use Rattle.std.proofs.Common.{◌≡◌, ◌∙◌, ◌+◌, ◌<◌, ◌^◌, ℕ, zero, suc, ◌==◌, not, Bool, true, false, if◌then◌else◌, List, [], ◌∷◌, ◌++◌, Some, None, IsSomeAnd}
use Rattle.std.proofs.Common.{append-nil, length, map, slice_get, refl, sym, ap, subst, is_none, arith}
use Rattle.std.specs.List.{AllByRecursion, filter}
use Rattle.std.specs.Result.{result_unwrap_or}
use Rattle.std.proofs.lemmas.List.{length-map}
use Rattle.edit_line.specs.Lines.{LineParts}
use Rattle.edit_normal.specs.RuleLines.{normal_lines_of}
use Rattle.derivation.specs.LineLists.{lines_from, no_record}
use Rattle.derivation.specs.declared.step.Step.{Step}
use Rattle.bound_cert.specs.Claims.{claims_donor}
use Rattle.bound_cert.specs.SharedTrees.{leaves_in, shared_outcome, shared_row, shared_rows, table_with_leaves}
use Rattle.bound_cert.specs.declared.outcome.Outcome.{Outcome}
use Rattle.bound_cert.specs.declared.outcome.Outcome.TheVariants.{Budget, Change, Contradictory, Overflow}
use Rattle.bound_cert.specs.declared.outcome.RowProof.{RowProof}
use Rattle.donor_book.specs.declared.claim.Entry.{Entry}
use Rattle.proof_grammar.specs.Limits.{IsPlain}
use Rattle.proof_grammar.specs.declared.proof.Proof.{Proof}
use Rattle.proof_grammar.proofs.ProofWords.{text-once}
use Rattle.proof_sharing.specs.SharedProofs.{shared_proof}
use Rattle.proof_sharing.proofs.SharedPlain.{plain-shared}
use Rattle.cert_check.specs.Claims.{AreValidClaims, IsClaim}
use Rattle.cert_check.specs.Dropped.{drop_fault, kept_flags}
use Rattle.cert_check.specs.Places.{records_line}
use Rattle.cert_check.specs.Releases.{AreReleased, AreValidRows, Audit, Fits, IsValidRelease, Spells, head_fault, is_released, limits_fit, rules_of}
use Rattle.cert_check.specs.RowChecks.{RowRules, rules_with}
use Rattle.cert_check.specs.SharedRows.{SharedReleaseLaw, with_shared}
use Rattle.cert_check.specs.Tables.{shared_lines}
use Rattle.cert_check.proofs.AuditLaws.{counts-fit}
use Rattle.cert_check.proofs.SharedRowLaws.{AreCleanLeaves, all-shared, plain-leaves, released-same}
use Rattle.cert_check.proofs.TableLaws.{given-lines}

module _ (given : ℕ) where
  -- as many records
  length-rows : (table : List Step) (rows : List RowProof) → length (shared_rows given table rows) ≡ length rows
  length-rows table [] = refl
  length-rows table (row ∷ rows) = omega (arith, length-rows (table_with_leaves table (leaves_in row.outcome)) rows)

  -- of which as many are released
  released-rows : (table : List Step) (rows : List RowProof) → length (filter is_released (shared_rows given table rows)) ≡ length (filter is_released rows)
  released-rows table [] = refl
  released-rows table (row ∷ rows) = by (is_released row) (is_released (shared_row given table row)) (released-same given table row.outcome row.gift)
      (released-rows (table_with_leaves table (leaves_in row.outcome)) rows)
    where
      xs : List RowProof
      xs = filter is_released (shared_rows given (table_with_leaves table (leaves_in row.outcome)) rows)

      by : (b c : Bool) → c ≡ b → length xs ≡ length (filter is_released rows) → length (if c then shared_row given table row ∷ xs else xs)
          ≡ length (if b then row ∷ filter is_released rows else filter is_released rows)
      by true true same later = omega (arith, later)
      by false false same later = later
      by true false same later = absurd (cc (same))
      by false true same later = absurd (cc (same))

  -- a record claims a donor as before
  claims-same : (table : List Step) (outcome : Outcome) → claims_donor (shared_outcome given table outcome) ≡ claims_donor outcome
  claims-same table (Change path weight cert) = refl
  claims-same table (Budget path work) = refl
  claims-same table (Overflow path event) = refl
  claims-same table (Contradictory cert) = refl

  donor-there : (table : List Step) (rows : List RowProof) (i : ℕ) → IsSomeAnd (slice_get rows i) (λ said. claims_donor said.outcome ≡ true)
      → IsSomeAnd (slice_get (shared_rows given table rows) i) (λ said. claims_donor said.outcome ≡ true)
  donor-there table [] i none = none
  donor-there table (row ∷ rows) zero is = claims-same table row.outcome ∙ is
  donor-there table (row ∷ rows) (suc i) is = donor-there (table_with_leaves table (leaves_in row.outcome)) rows i is

  said-before : (table : List Step) (rows : List RowProof) (i : ℕ) (said : RowProof) → slice_get (shared_rows given table rows) i ≡ Some said
      → claims_donor said.outcome ≡ true → (before : RowProof) × (slice_get rows i ≡ Some before) × (claims_donor before.outcome ≡ true)
  said-before table [] i said e claims = absurd (cc)
  said-before table (row ∷ rows) zero said e claims =
      let own : shared_row given table row ≡ said = cc (e) in
      (row, refl, sym (claims-same table row.outcome) ∙ ap (λ (s : RowProof). claims_donor s.outcome) own ∙ claims)
  said-before table (row ∷ rows) (suc i) said e claims = said-before (table_with_leaves table (leaves_in row.outcome)) rows i said e claims

-- no head is at fault where none was
head-none : (limits verdicts rows : Bool) (line other : ℕ)
    → (if not limits then Some 2 else if not verdicts then Some 3 else if not rows then Some line else None) ≡ None
    → (if not limits then Some 2 else if not verdicts then Some 3 else if not rows then Some other else None) ≡ None
head-none true true true line other none = refl
head-none true true false line other none = absurd (cc)
head-none true false rows line other none = absurd (cc)
head-none false verdicts rows line other none = absurd (cc)

-- by what the records are checked where they share no lines
abbrev pub own_rules : Audit → Proof → RowRules
own_rules a p = record { survey = a.survey; given = normal_lines_of a.survey; usable = kept_flags p; columns = a.sheet.columns; budget = p.budget }

-- ---- what a proof says of the rules, the records and the claims stays right where its lines are shared

module _ (a : Audit) (p : Proof) (plain : IsPlain (shared_proof p)) (clean : AreCleanLeaves p.rows) (head : head_fault a p ≡ None)
    (dropped : drop_fault a.survey p ≡ None) (rows : List (List (List ℕ)))
    (released : AreReleased a p rows) (each : AreValidRows (own_rules a p) p.rows a.sheet.row_texts a.sheet.rows rows)
    (claims : AreValidClaims a.survey a.sheet.rows p) where
  abbrev given : ℕ
  given = length p.verdicts

  even : length (normal_lines_of a.survey) ≡ length (kept_flags p)
  even = omega (arith, (counts-fit a p head).0, length-map p.verdicts is_none)

  head-fits : head_fault (with_shared a p) (shared_proof p) ≡ None
  head-fits =
      ap (λ (n : ℕ). if not (limits_fit p) then Some 2 else if not (length p.verdicts == length (normal_lines_of a.survey)) then Some 3 else if not
      (n == length a.sheet.rows) then Some (records_line (shared_proof p)) else None) (length-rows given [] p.rows)
      ∙ head-none (limits_fit p) (length p.verdicts == length (normal_lines_of a.survey)) (length p.rows == length a.sheet.rows) (records_line p)
      (records_line (shared_proof p)) head

  claims-formed : (entries : List Entry) → AllByRecursion (IsClaim a.survey a.sheet.rows p) entries
      → AllByRecursion (IsClaim a.survey a.sheet.rows (shared_proof p)) entries
  claims-formed [] formed = tt
  claims-formed (entry ∷ entries) (first, formed) = (
    record { row = donor-there given [] p.rows entry.row_no first.row; few = first.few; once = first.once; donors = first.donors },
    claims-formed entries formed,
  )

  shared-claims : AreValidClaims a.survey a.sheet.rows (shared_proof p)
  shared-claims = record {
    right = record { each = claims-formed p.claims claims.right.each; legal = claims.right.legal };
    complete = λ i said e donor. let (before, there, donor_before) = said-before given [] p.rows i said e donor in claims.complete i before there donor_before;
  }

  shared-released : AreReleased (with_shared a p) (shared_proof p) rows
  shared-released = record {
    first = released.first;
    given = released.given;
    header = released.header;
    long = released.long;
    one_each = released.one_each
        ∙ sym (released-rows given [] p.rows);
  }

  pub stays-valid : IsValidRelease (with_shared a p)
  stays-valid =
      let (more, table_are, valid) = all-shared (own_rules a p) [] [] p.rows a.sheet.row_texts a.sheet.rows rows even refl clean each in
      let (no_fault, same_lines) = given-lines a.survey (shared_proof p) more table_are in
      let named : AreValidRows (rules_with (own_rules a p) more) (shared_rows given [] p.rows) a.sheet.row_texts a.sheet.rows rows =
      subst (λ (n : ℕ). AreValidRows (rules_with (own_rules a p) more) (shared_rows n [] p.rows) a.sheet.row_texts a.sheet.rows rows)
      (sym (counts-fit a p head).0) valid in
      record {
        proof = shared_proof p;
        fits = record { spelled = record { plain = plain; text = refl }; head = head-fits; dropped = dropped; table = no_fault };
        rows = rows;
        released = shared-released;
        each = subst (λ (ls : List LineParts). AreValidRows (rules_with (own_rules a p) ls) (shared_rows given [] p.rows) a.sheet.row_texts a.sheet.rows rows)
            (sym same_lines) named;
        claims = shared-claims;
      }

-- ---- a valid release

module _ (a : Audit) (p : Proof) (spelled : Spells a.proof p) (empty : p.table ≡ []) (valid : IsValidRelease a) where
  own : valid.proof ≡ p
  own = text-once valid.proof p valid.fits.spelled.plain spelled.plain (sym valid.fits.spelled.text ∙ spelled.text)

  fits : Fits a p
  fits = subst (λ (q : Proof). Fits a q) own valid.fits

  none-shared : shared_lines a.survey p ≡ []
  none-shared = ap (λ (table : List Step). result_unwrap_or (lines_from (no_record a.survey (normal_lines_of a.survey) (kept_flags p)) [] table) []) empty

  same-rules : rules_of a p ≡ own_rules a p
  same-rules =
      let lines : normal_lines_of a.survey ++ shared_lines a.survey p ≡ normal_lines_of a.survey = ap (λ (ls : List LineParts). normal_lines_of a.survey ++ ls)
      none-shared ∙ append-nil (normal_lines_of a.survey) in
      let flags : kept_flags p ++ map (λ (line : LineParts). true) (shared_lines a.survey p)
      ≡ kept_flags p = ap (λ (ls : List LineParts). kept_flags p ++ map (λ (line : LineParts). true) ls) none-shared ∙ append-nil (kept_flags p) in
      λ i. record { survey = a.survey; given = lines i; usable = flags i; columns = a.sheet.columns; budget = p.budget }

  rows-before : AreValidRows (own_rules a p) p.rows a.sheet.row_texts a.sheet.rows valid.rows
  rows-before =
      subst (λ (r : RowRules). AreValidRows r p.rows a.sheet.row_texts a.sheet.rows valid.rows) same-rules
      (subst (λ (q : Proof). AreValidRows (rules_of a q) q.rows a.sheet.row_texts a.sheet.rows valid.rows) own valid.each)

  shared-valid : length p.verdicts + length (shared_proof p).table < 2 ^ 64 → IsValidRelease (with_shared a p)
  shared-valid long =
      stays-valid a p (plain-shared p spelled.plain long) (plain-leaves p.rows spelled.plain.rows.1) fits.head fits.dropped valid.rows
      (subst (λ (q : Proof). AreReleased a q valid.rows) own valid.released)
      rows-before
      (subst (λ (q : Proof). AreValidClaims a.survey a.sheet.rows q) own valid.claims)

pub release-shared : SharedReleaseLaw
release-shared a p spelled empty long valid = shared-valid a p spelled empty valid long
