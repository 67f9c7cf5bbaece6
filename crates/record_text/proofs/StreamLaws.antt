use Rattle.std.proofs.Common.{Bor, ◌≡◌, ◌∙◌, sym, ℕ, Bool, true, false, List, [], ◌∷◌, refl, Option, Some, inl}
use Rattle.csv.specs.Machine.{next_record}
use Rattle.csv.specs.Reading.{ReadRecord, Reached, default_config, is_flexible, took_first}
use Rattle.csv.specs.declared.parser.State.{State}
use Rattle.csv.specs.declared.reader.Reader.{Reader}
use Rattle.csv.proofs.ReadFacts.{rows-end, rows-more}
use Rattle.record_text.specs.inner.Places.{IsAt, Place, Reads}

-- the bytes that a slice, read as a stream, has left
abbrev pub left_of : Bor (List ℕ) → Option (List ℕ)
left_of bytes = Some bytes.now

-- one record that takes the machine from one place to another is the next one
next_from_reached : (s t : State) (xs ys : List ℕ) (texts : List (List ℕ)) → Reached default_config s xs (texts ∷ []) t ys
    → next_record default_config s [] [] xs ≡ Some (texts, t, ys)
unfolding Reached
next_from_reached s t xs ys texts (p, next, same, after) = rw (same, ← after.0, ← after.1) next

-- where csv's reader stands after a read
pub next_place : (a b : Reader (Bor (List ℕ))) (found : Bool) (texts : List (List ℕ)) (here : Place) → IsAt a here → took_first b ≡ true
    → is_flexible b ≡ is_flexible a → ReadRecord left_of a b found texts → Reads here found texts b
unfolding Reached
next_place a b true texts here at first flexible read =
    let more = rows-more left_of a b texts default_config here.state here.left here.left [] at.config at.left (sym at.state, refl) read in
    let there : Place = record { state = b.state; left = more.0 } in (
      there,
      record {
        plain = read.3 ∙ at.plain;
        config = read.2 ∙ at.config;
        flexible = flexible ∙ at.flexible;
        ready = inl first;
        state = refl;
        left = more.1;
      },
      next_from_reached here.state b.state here.left more.0 texts more.2,
    )
next_place a b false texts here at first flexible read = rw at.state at (rows-end left_of a b texts default_config here.left at.config at.left read)
