-- What the parts of the audit show together.
use Rattle.std.proofs.Common.{◌≡◌, ◌∙◌, ℕ, zero, suc, ◌+◌, ◌≤◌, ◌==◌, not, nat_lt, Bool, true, false, if◌then◌else◌, List, [], ◌∷◌, Option, Some, None, Ok, Err}
use Rattle.std.proofs.Common.{inl, inr, refl, sym, ap, subst, arith, length}
use Rattle.std.specs.List.{filter}
use Rattle.std.proofs.lemmas.Bool.Decides.{Decides-eqb, nat_tests}
use Rattle.std.proofs.lemmas.List.Sums.{count_by-le-length, length-filter}
use Rattle.bound_cert.specs.declared.cert.Leaf.{Leaf}
use Rattle.bound_cert.specs.declared.outcome.GiftFault.{GiftFault}
use Rattle.bound_cert.specs.declared.outcome.Outcome.{Outcome}
use Rattle.bound_cert.specs.declared.outcome.Outcome.TheVariants.{Budget, Change, Contradictory, Overflow}
use Rattle.bound_cert.specs.declared.outcome.RowProof.{RowProof}
use Rattle.edit_model.specs.declared.value.Value.{Value}
use Rattle.edit_normal.specs.RuleLines.{normal_lines_of}
use Rattle.record_text.specs.Sheets.{IsSheet}
use Rattle.record_text.proofs.FaultLaws.{faultless_parts}
use Rattle.record_text.proofs.HeaderLaws.{header_length}
use Rattle.record_text.proofs.SheetLaws.{few_sheet_rows}
use Rattle.proof_grammar.specs.declared.proof.Proof.{Proof}
use Rattle.proof_grammar.proofs.ProofWords.{text-once}
use Rattle.cert_check.specs.Claims.{AreValidClaims, IsClaimsFault}
use Rattle.cert_check.specs.Dropped.{drop_fault}
use Rattle.cert_check.specs.Places.{records_line}
use Rattle.cert_check.specs.Releases.{Audit, AreReleased, AreValidRows, Fits, IsFaultAmong, IsFirstFailure, IsValidRelease, Spells, behind, files_of}
use Rattle.cert_check.specs.Releases.{head_fault, is_released, limits_fit, rules_of}
use Rattle.cert_check.specs.RowChecks.{IsChangeFault, IsGiftFault, IsSaidFault, RowFiles, RowRules}
use Rattle.cert_check.specs.Tables.{table_fault}
use Rattle.cert_check.specs.declared.fault.CheckFault.TheVariants as fault
use Rattle.cert_check.specs.declared.fault.Why.{Why}
use Rattle.cert_check.specs.declared.fault.Why.TheVariants as why
use Rattle.cert_check.specs.inner.Answers.{Answers}
use Rattle.cert_check.specs.inner.Rows.{AreInLimits, AreRowsOf}
use Rattle.cert_check.proofs.ClaimLaws.{fault-invalid}
use Rattle.cert_check.proofs.ReleasedFileLaws.{rows-once}

-- ---- heads

-- where no head is at fault, the limits and both counts fit
head-parts : (limits verdicts rows : Bool) (line : ℕ) → (if not limits then Some 2 else if not verdicts then Some 3 else if not rows then Some line else None)
    ≡ None → (verdicts ≡ true) × (rows ≡ true)
head-parts true true true line none = (refl, refl)
head-parts true true false line none = absurd (cc)
head-parts true false rows line none = absurd (cc)
head-parts false verdicts rows line none = absurd (cc)

pub counts-fit : (a : Audit) (p : Proof) → head_fault a p ≡ None → (length p.verdicts ≡ length (normal_lines_of a.survey))
    × (length p.rows ≡ length a.sheet.rows)
counts-fit a p none =
    let (verdicts, rows) = head-parts (limits_fit p) (length p.verdicts == length (normal_lines_of a.survey)) (length p.rows == length a.sheet.rows)
    (records_line p) none in
    ((Decides-eqb (length p.verdicts) (length (normal_lines_of a.survey))).0 verdicts, (Decides-eqb (length p.rows) (length a.sheet.rows)).0 rows)

-- a record file may have the header and so many rows
pub in-limits : (a : Audit) (p : Proof) → head_fault a p ≡ None → (bytes : List ℕ) → IsSheet a.survey.fields bytes a.sheet
    → AreInLimits a.sheet.header (length (filter is_released p.rows))
in-limits a p head bytes sheet =
    let narrow = (faultless_parts a.survey.fields sheet.first a.sheet.row_texts sheet.faultless).0 in
    let wide : length a.sheet.header ≡ length sheet.first = ap (λ (texts : List (List ℕ)). length texts) sheet.header ∙ header_length sheet.first in
    let few = count_by-le-length is_released p.rows in
    record {
      width = below (length sheet.first) (length a.sheet.header) narrow wide;
      few = omega (arith, length-filter is_released p.rows, few, (counts-fit a p head).1, few_sheet_rows a.survey.fields bytes a.sheet sheet);
    }
  where
    below : (n m : ℕ) → nat_lt 256 n ≡ false → m ≡ n → m ≤ 256
    below n m not same = let most : n ≤ 256 = grind (arith, nat_tests) in omega (arith, most, same)

-- ---- why a record is at fault

-- a record is at fault for what is said of it, or for the released row
abbrev OfRecord : Why → Type 0
OfRecord why.Cert = Unit {0}
OfRecord why.RowText = Unit {0}
OfRecord other = ⊥

change-why : (r : RowRules) (f : RowFiles) (path : List Bool) (weight : ℕ) (leaves : List Leaf) (offset : ℕ) (w : Why)
    → IsChangeFault r f path weight leaves offset w → OfRecord w
change-why r f path zero leaves offset why.RowText is = tt
change-why r f path zero leaves offset why.Cert is = tt
change-why r f path zero leaves offset why.Grammar is = absurd is
change-why r f path zero leaves offset why.Head is = absurd is
change-why r f path zero leaves offset why.Drop is = absurd is
change-why r f path zero leaves offset why.Table is = absurd is
change-why r f path zero leaves offset why.Claims is = absurd is
change-why r f path (suc n) leaves offset why.RowText is = tt
change-why r f path (suc n) leaves offset why.Cert is = tt
change-why r f path (suc n) leaves offset why.Grammar is = absurd is
change-why r f path (suc n) leaves offset why.Head is = absurd is
change-why r f path (suc n) leaves offset why.Drop is = absurd is
change-why r f path (suc n) leaves offset why.Table is = absurd is
change-why r f path (suc n) leaves offset why.Claims is = absurd is

gift-why : (r : RowRules) (f : RowFiles) (path : List Bool) (weight : ℕ) (leaves : List Leaf) (g : GiftFault) (offset : ℕ) (w : Why)
    → IsGiftFault r f path weight leaves g offset w → OfRecord w
gift-why r f path weight leaves g offset why.RowText is = tt
gift-why r f path weight leaves g offset why.Cert is = tt
gift-why r f path weight leaves g offset why.Grammar is = absurd is
gift-why r f path weight leaves g offset why.Head is = absurd is
gift-why r f path weight leaves g offset why.Drop is = absurd is
gift-why r f path weight leaves g offset why.Table is = absurd is
gift-why r f path weight leaves g offset why.Claims is = absurd is

said-why : (r : RowRules) (f : RowFiles) (outcome : Outcome) (gift : Option GiftFault) (offset : ℕ) (w : Why) → IsSaidFault r f outcome gift offset w
    → OfRecord w
said-why r f (Change path weight cert) None offset w is = change-why r f path weight cert.leaves offset w is
said-why r f (Change path weight cert) (Some g) offset w is = gift-why r f path weight cert.leaves g offset w is
said-why r f outcome gift offset why.RowText is = tt
said-why r f outcome gift offset why.Cert is = tt
said-why r f (Budget path work) gift offset why.Grammar is = absurd is
said-why r f (Budget path work) gift offset why.Head is = absurd is
said-why r f (Budget path work) gift offset why.Drop is = absurd is
said-why r f (Budget path work) gift offset why.Table is = absurd is
said-why r f (Budget path work) gift offset why.Claims is = absurd is
said-why r f (Overflow path event) gift offset why.Grammar is = absurd is
said-why r f (Overflow path event) gift offset why.Head is = absurd is
said-why r f (Overflow path event) gift offset why.Drop is = absurd is
said-why r f (Overflow path event) gift offset why.Table is = absurd is
said-why r f (Overflow path event) gift offset why.Claims is = absurd is
said-why r f (Contradictory cert) gift offset why.Grammar is = absurd is
said-why r f (Contradictory cert) gift offset why.Head is = absurd is
said-why r f (Contradictory cert) gift offset why.Drop is = absurd is
said-why r f (Contradictory cert) gift offset why.Table is = absurd is
said-why r f (Contradictory cert) gift offset why.Claims is = absurd is

among-why : (r : RowRules) (saids : List RowProof) (row_texts : List (List (List ℕ))) (rows : List (List Value)) (released : List (List (List ℕ))) (offset : ℕ)
    (w : Why) → IsFaultAmong r saids row_texts rows released offset w → OfRecord w
among-why r [] row_texts rows released offset w is = absurd is
among-why r (said ∷ saids) [] rows released offset w is = absurd is
among-why r (said ∷ saids) (reads ∷ row_texts) [] released offset w is = absurd is
among-why r (said ∷ saids) (reads ∷ row_texts) (row ∷ rows) released offset w (inl here) = said-why r (files_of said reads row released) said.outcome said.gift
    offset w here
among-why r (said ∷ saids) (reads ∷ row_texts) (row ∷ rows) released offset w (inr (valid, (rest, later, is))) =
    among-why r saids row_texts rows (behind said released) rest w later

-- ---- one proof

module _ (a : Audit) (p : Proof) (spelled : Spells a.proof p) where
  -- the bytes spell no other proof
  one-proof : (q : Proof) → Spells a.proof q → q ≡ p
  one-proof q other = text-once q p other.plain spelled.plain (sym other.text ∙ spelled.text)

  valid-fits : IsValidRelease a → Fits a p
  valid-fits valid = subst (λ (q : Proof). Fits a q) (one-proof valid.proof valid.fits.spelled) valid.fits

  -- a head that does not fit
  pub head-answers : (line : ℕ) → head_fault a p ≡ Some line → Answers a (Err (fault.Rejected line why.Head))
  head-answers line found = ((p, spelled, found), λ valid. absurd (some-none (head_fault a p) line found (valid-fits valid).head))
    where
      some-none : (o : Option ℕ) (n : ℕ) → o ≡ Some n → o ≡ None → ⊥
      some-none o n some none = cc

  -- a line of the rules that is dropped and not refuted
  pub drop-answers : (line : ℕ) → head_fault a p ≡ None → drop_fault a.survey p ≡ Some line → Answers a (Err (fault.Rejected line why.Drop))
  drop-answers line head found = ((p, spelled, (head, found)), λ valid. absurd (some-none (drop_fault a.survey p) line found (valid-fits valid).dropped))
    where
      some-none : (o : Option ℕ) (n : ℕ) → o ≡ Some n → o ≡ None → ⊥
      some-none o n some none = cc

  -- a step of the table that gives no line
  pub table-answers : (line : ℕ) → head_fault a p ≡ None → drop_fault a.survey p ≡ None → table_fault a.survey p ≡ Some line
      → Answers a (Err (fault.Rejected line why.Table))
  table-answers line head dropped found =
      ((p, spelled, (head, dropped, found)), λ valid. absurd (some-none (table_fault a.survey p) line found (valid-fits valid).table))
    where
      some-none : (o : Option ℕ) (n : ℕ) → o ≡ Some n → o ≡ None → ⊥
      some-none o n some none = cc

  module _ (head : head_fault a p ≡ None) (dropped : drop_fault a.survey p ≡ None) (table : table_fault a.survey p ≡ None) (bytes : List ℕ)
      (sheet : IsSheet a.survey.fields bytes a.sheet) where
    fits : Fits a p
    fits = record { spelled = spelled; head = head; dropped = dropped; table = table }

    pub as-released : (rows : List (List (List ℕ))) → AreRowsOf a.sheet.header a.released (length (filter is_released p.rows)) rows → AreReleased a p rows
    as-released rows are = record { first = are.first; given = are.given; header = are.same; long = are.long; one_each = are.counted }

    as-rows : (rows : List (List (List ℕ))) → AreReleased a p rows → AreRowsOf a.sheet.header a.released (length (filter is_released p.rows)) rows
    as-rows rows are = record { first = are.first; given = are.given; same = are.header; long = are.long; counted = are.one_each }

    -- a released file that is not what the proof tells of
    pub file-answers : ((rows : List (List (List ℕ))) → ¬ AreRowsOf a.sheet.header a.released (length (filter is_released p.rows)) rows)
        → Answers a (Err (fault.Rejected 0 why.RowText))
    file-answers none = (
      inl ((p, fits, λ rows are. none rows (as-rows rows are)), refl),
      λ valid. none valid.rows (as-rows valid.rows (subst (λ (q : Proof). AreReleased a q valid.rows) (one-proof valid.proof valid.fits.spelled)
          valid.released)),
    )

    module _ (rows : List (List (List ℕ))) (are : AreRowsOf a.sheet.header a.released (length (filter is_released p.rows)) rows) where
      -- in a valid release all that is said of these rows is valid
      valid-rows : (valid : IsValidRelease a) → AreValidRows (rules_of a p) p.rows a.sheet.row_texts a.sheet.rows rows
      valid-rows valid =
          let same = one-proof valid.proof valid.fits.spelled in
          let released : AreReleased a p valid.rows = subst (λ (q : Proof). AreReleased a q valid.rows) same valid.released in
          let each : AreValidRows (rules_of a p) p.rows a.sheet.row_texts a.sheet.rows valid.rows =
          subst (λ (q : Proof). AreValidRows (rules_of a q) q.rows a.sheet.row_texts a.sheet.rows valid.rows) same valid.each in
          subst (λ (rs : List (List (List ℕ))). AreValidRows (rules_of a p) p.rows a.sheet.row_texts a.sheet.rows rs)
          (rows-once a.sheet.header a.released (length (filter is_released p.rows)) (in-limits a p head bytes sheet) valid.rows rows
          (as-rows valid.rows released) are) each

      -- a record that is at fault
      pub record-answers : (offset : ℕ) (w : Why) → IsFaultAmong (rules_of a p) p.rows a.sheet.row_texts a.sheet.rows rows offset w
          → ¬ AreValidRows (rules_of a p) p.rows a.sheet.row_texts a.sheet.rows rows
          → Answers a (Err (fault.Rejected (records_line p + 1 + offset) w))
      record-answers offset w found not = (
        failure w (among-why (rules_of a p) p.rows a.sheet.row_texts a.sheet.rows rows offset w found) found,
        λ valid. not (valid-rows valid),
      )
        where
          failure : (w : Why) → OfRecord w → IsFaultAmong (rules_of a p) p.rows a.sheet.row_texts a.sheet.rows rows offset w
              → IsFirstFailure a (records_line p + 1 + offset) w
          failure why.Cert of is = (p, fits, (rows, as-released rows are, (offset, is, refl)))
          failure why.RowText of is = inr (p, fits, (rows, as-released rows are, (offset, is, refl)))
          failure why.Grammar of is = absurd of
          failure why.Head of is = absurd of
          failure why.Drop of is = absurd of
          failure why.Table of is = absurd of
          failure why.Claims of is = absurd of

      module _ (valid : AreValidRows (rules_of a p) p.rows a.sheet.row_texts a.sheet.rows rows) where
        -- claims that are at fault
        pub claims-answers : (line : ℕ) → IsClaimsFault a.survey a.sheet.rows p line → Answers a (Err (fault.Rejected line why.Claims))
        claims-answers line found = (
          (p, fits, (rows, as-released rows are, (valid, found))),
          λ release. fault-invalid a.survey a.sheet.rows p line found (subst (λ (q : Proof). AreValidClaims a.survey a.sheet.rows q)
              (one-proof release.proof release.fits.spelled) release.claims),
        )

        -- a valid release
        pub valid-answers : AreValidClaims a.survey a.sheet.rows p → Answers a (Ok (length (filter is_released p.rows)))
        valid-answers claims = (
          record { proof = p; fits = fits; rows = rows; released = as-released rows are; each = valid; claims = claims },
          (p, spelled, refl),
        )
