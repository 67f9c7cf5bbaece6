use Rattle.std.proofs.Common.{◌≡◌, ◌∙◌, ℕ, true, Option, Some, None, IfOk, ap, refl, subst, sym}
use Rattle.shared_edits.specs.Pools.{IsReaderOf, PoolParts, keeps_fields}
use Rattle.record_pieces.specs.Rests.{KeepsFor}
use Rattle.record_workers.proofs.source.find_lent.Goals as goal

-- two pools are the same where they are some, and the same
abbrev pool_or : PoolParts → Option PoolParts → PoolParts
pool_or pool None = pool
pool_or pool (Some other) = other

-- both are the pool that was lent
same-pool : {lent : Option PoolParts} (first second : PoolParts) → Some first ≡ lent → Some second ≡ lent → first ≡ second
same-pool first second is also = ap (pool_or first) (is ∙ sym also)

-- both are the reader that was lent
same-reader : {first second lent : ℕ} → first ≡ lent → second ≡ lent → first ≡ second
same-reader is also = is ∙ sym also

pub returns-clause-same_reader : goal.returns-clause-same_reader
returns-clause-same_reader g c =
    let pool = c.args.rest.now.pool in
    let serves = c.piece_of.ensures.serves pool.edits (refl, c.requires.reader, c.requires.lent.0, c.requires.lent.1) in
    same-reader serves.3 c.requires.lent.1

pub returns-clause-reader : goal.returns-clause-reader
returns-clause-reader g c =
    let new = c.piece_of.new.source.source in
    let pool = c.args.rest.now.pool in
    let serves = c.piece_of.ensures.serves pool.edits (refl, c.requires.reader, c.requires.lent.0, c.requires.lent.1) in
    subst (λ (p : PoolParts). IsReaderOf p new.reader.now) (same-pool new.pool.now pool serves.2 c.requires.lent.0) serves.1

pub returns-clause-keeps : goal.returns-clause-keeps
returns-clause-keeps g c = λ f was.
    let new = c.piece_of.new.source.source in
    let pool = c.args.rest.now.pool in
    let serves = c.piece_of.ensures.serves pool.edits (refl, c.requires.reader, c.requires.lent.0, c.requires.lent.1) in
    subst (λ (p : PoolParts). keeps_fields p f new.reader.now ≡ true) (same-pool new.pool.now pool serves.2 c.requires.lent.0)
    (c.piece_of.ensures.keeps f was)

pub returns-clause-kept : goal.returns-clause-kept
returns-clause-kept g c =
    let new = c.piece_of.new.source.source in
    let pool = c.args.rest.now.pool in
    let serves = c.piece_of.ensures.serves pool.edits (refl, c.requires.reader, c.requires.lent.0, c.requires.lent.1) in
    subst (λ (p : PoolParts). IfOk c.piece_of.result (KeepsFor c.args.rest.now (λ f. keeps_fields p f new.reader.now)))
    (same-pool new.pool.now pool serves.2 c.requires.lent.0) c.piece_of.ensures.kept
