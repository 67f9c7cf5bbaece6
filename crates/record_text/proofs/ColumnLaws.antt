use Rattle.std.proofs.Common.{◌≡◌, ◌≢◌, ◌∙◌, sym, ap, refl, ℕ, zero, suc, ◌+◌, ◌<◌, Bool, true, false, List, [], ◌∷◌, ◌++◌, length, take, drop, get_or, None}
use Rattle.std.proofs.Common.{All, AllPairs, arith}
use Rattle.std.proofs.lemmas.Slice.Eq.{bytes_eq-Decides}
use Rattle.std.specs.Str.{bytes_eq}
use Rattle.edit_model.specs.declared.field.Field.{Field}
use Rattle.record_text.specs.Columns.{StandIn, columns_from, columns_of}
use Rattle.record_text.specs.Faults.{column_fault}
use Rattle.record_text.specs.Trimming.{trimmed}

-- ---- one name in the header

-- a column of the header from number j on, whose text is the name
abbrev pub Holds : List (List ℕ) → ℕ → List ℕ → ℕ → Type 0
Holds header j name c = (i : ℕ) × (c ≡ j + i) × (i < length header) × (trimmed (get_or header i []) ≡ name)

by_test : (header : List (List ℕ)) (text : List ℕ) (j : ℕ) (name : List ℕ) (c : ℕ) (more : List ℕ) (b : Bool) → bytes_eq (trimmed text) name ≡ b
    → (columns_from (suc j) name header ≡ c ∷ more → Holds header (suc j) name c) → columns_from j name (text ∷ header) ≡ c ∷ more
    → Holds (text ∷ header) j name c
by_test header text j name c more true same later e =
    let here : j ∷ columns_from (suc j) name header ≡ c ∷ more = rw same at e in
    let first : j ≡ c = cc here in
    (0, omega arith, omega arith, (bytes_eq-Decides (trimmed text) name).0 same)
by_test header text j name c more false other later e =
    let rest : columns_from (suc j) name header ≡ c ∷ more = rw other at e in
    let (i, is, lt, named) = later rest in
    (suc i, omega arith, omega arith, named)

-- the first column is one of the header's, and its text is the name
pub first_column : (header : List (List ℕ)) (j : ℕ) (name : List ℕ) (c : ℕ) (more : List ℕ) → columns_from j name header ≡ c ∷ more → Holds header j name c
first_column [] j name c more e = absurd (cc e)
first_column (text ∷ header) j name c more e = by_test header text j name c more (bytes_eq (trimmed text) name) refl (first_column header (suc j) name c more) e

pub column_is : (header : List (List ℕ)) (name : List ℕ) (c : ℕ) → columns_of name header ≡ c ∷ [] → (c < length header) × (trimmed (get_or header c []) ≡ name)
column_is header name c one =
    let (i, is, lt, named) = first_column header 0 name c [] one in
    let same : c ≡ i = omega arith in
    rw same (lt, named)

-- ---- each field's column

-- the fault of the fields from a place on, where the field there stands in one column
pub field_passed : (fields : List Field) (header : List (List ℕ)) (i j : ℕ) (field : Field) (c : ℕ) → i < length fields → field ≡ get_or fields i field
    → columns_of field.name header ≡ c ∷ []
    → column_fault j (drop i fields) header ≡ column_fault (suc j) (drop (suc i) fields) header
field_passed [] header i j field c lt e one = absurd (omega arith)
field_passed (f ∷ fields) header zero j field c lt e one =
    let here : columns_of f.name header ≡ c ∷ [] = ap (λ (g : Field). columns_of g.name header) (sym e) ∙ one in
    rw here refl
field_passed (f ∷ fields) header (suc i) j field c lt e one = field_passed fields header i j field c (omega arith) e one

-- one field's column more
pub stand_more : (fields : List Field) (header : List (List ℕ)) (columns : List ℕ) (i : ℕ) (field : Field) (c : ℕ) → i < length fields
    → field ≡ get_or fields i field
    → StandIn (take i fields) header columns → columns_of field.name header ≡ c ∷ [] → StandIn (take (suc i) fields) header (columns ++ c ∷ [])
stand_more [] header columns i field c lt e stand one = absurd (omega arith)
stand_more (f ∷ fields) header [] zero field c lt e stand one = (ap (λ (g : Field). columns_of g.name header) (sym e) ∙ one, tt)
stand_more (f ∷ fields) header (d ∷ columns) zero field c lt e stand one = absurd stand
stand_more (f ∷ fields) header [] (suc i) field c lt e stand one = absurd stand
stand_more (f ∷ fields) header (d ∷ columns) (suc i) field c lt e stand one = (stand.0, stand_more fields header columns i field c (omega arith) e stand.1 one)

-- ---- what follows from it

-- there is one column for each field
pub one_column_each : (fields : List Field) (header : List (List ℕ)) (columns : List ℕ) → StandIn fields header columns → length columns ≡ length fields
one_column_each [] header [] stand = refl
one_column_each [] header (c ∷ columns) stand = absurd stand
one_column_each (f ∷ fields) header [] stand = absurd stand
one_column_each (f ∷ fields) header (c ∷ columns) stand = omega (arith, one_column_each fields header columns stand.1)

-- each is one of the header's
pub columns_within : (fields : List Field) (header : List (List ℕ)) (columns : List ℕ) → StandIn fields header columns
    → All (λ column. column < length header) columns
columns_within fields header [] stand k d lt = absurd (omega arith)
columns_within [] header (c ∷ columns) stand k d lt = absurd stand
columns_within (f ∷ fields) header (c ∷ columns) stand zero d lt = (column_is header f.name c stand.0).0
columns_within (f ∷ fields) header (c ∷ columns) stand (suc k) d lt = columns_within fields header columns stand.1 k d (omega arith)

-- its text is the field's name
pub column_text : (fields : List Field) (header : List (List ℕ)) (columns : List ℕ) (k : ℕ) (f : Field) (d : ℕ) → StandIn fields header columns
    → k < length fields
    → trimmed (get_or header (get_or columns k d) []) ≡ (get_or fields k f).name
column_text [] header columns k f d stand lt = absurd (omega arith)
column_text (g ∷ fields) header [] k f d stand lt = absurd stand
column_text (g ∷ fields) header (c ∷ columns) zero f d stand lt = (column_is header g.name c stand.0).1
column_text (g ∷ fields) header (c ∷ columns) (suc k) f d stand lt = column_text fields header columns k f d stand.1 (omega arith)

-- fields of distinct names have distinct columns
pub columns_distinct : (fields : List Field) (header : List (List ℕ)) (columns : List ℕ) → AllPairs (λ (f : Field) (g : Field). f.name ≢ g.name) fields
    → StandIn fields header columns
    → AllPairs (λ (c : ℕ) (d : ℕ). c ≢ d) columns
columns_distinct [] header [] names stand i k d earlier lt same = absurd (omega arith)
columns_distinct [] header (c ∷ columns) names stand i k d earlier lt same = absurd stand
columns_distinct (f ∷ fields) header columns names stand i k d earlier lt same =
    let many = one_column_each (f ∷ fields) header columns stand in
    let first = column_text (f ∷ fields) header columns i f d stand (omega arith) in
    let second = column_text (f ∷ fields) header columns k f d stand (omega arith) in
    let text : trimmed (get_or header (get_or columns i d) []) ≡ trimmed (get_or header (get_or columns k d) []) =
    ap (λ (c : ℕ). trimmed (get_or header c [])) same in
    names i k f earlier (omega arith) (sym first ∙ text ∙ second)

-- no field is then at fault
pub stand_faultless : (fields : List Field) (header : List (List ℕ)) (columns : List ℕ) (j : ℕ) → StandIn fields header columns
    → column_fault j fields header ≡ None
stand_faultless [] header columns j stand = refl
stand_faultless (f ∷ fields) header [] j stand = absurd stand
stand_faultless (f ∷ fields) header (c ∷ columns) j stand = rw stand.0 (stand_faultless fields header columns (suc j) stand.1)

-- and the columns are the only ones
pub same_columns : (fields : List Field) (header : List (List ℕ)) (a b : List ℕ) → StandIn fields header a → StandIn fields header b → a ≡ b
same_columns [] header [] [] is other = refl
same_columns [] header [] (d ∷ b) is other = absurd other
same_columns [] header (c ∷ a) b is other = absurd is
same_columns (f ∷ fields) header [] b is other = absurd is
same_columns (f ∷ fields) header (c ∷ a) [] is other = absurd other
same_columns (f ∷ fields) header (c ∷ a) (d ∷ b) is other =
    let first : c ≡ d = cc (is.0, other.0) in
    let rest = same_columns fields header a b is.1 other.1 in
    cc (first, rest)
