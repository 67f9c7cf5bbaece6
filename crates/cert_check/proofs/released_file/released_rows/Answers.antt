use Rattle.std.proofs.Common.{◌≡◌, ◌∙◌, Bool, true, false, sym}
use Rattle.cert_check.proofs.ReleasedFileLaws.{fits-none, fits-some, unread-none}
use Rattle.cert_check.proofs.released_file.released_rows.Goals as goal

not_both : (b : Bool) → b ≡ false → b ≡ true → ⊥
not_both b f t = cc (sym f ∙ t)

pub returns-in-Ok-clause-some : goal.returns-in-Ok-clause-some
returns-in-Ok-clause-some c =
    fits-some c.args.header.now c.args.bytes.now c.args.count _ c.in_ok-no_fields.ensures c.if_fits.result c.in-Ok.sheet c.if_fits.ensures.some
    c.in-Ok.ensures.sheet

pub returns-in-Ok-clause-none : goal.returns-in-Ok-clause-none
returns-in-Ok-clause-none c =
    fits-none c.args.header.now c.args.bytes.now c.args.count c.requires _ c.in_ok-no_fields.ensures c.if_fits.result c.in-Ok.sheet c.if_fits.ensures.none
    c.in-Ok.ensures.only

pub returns : goal.returns
returns c = record {
  some = tt;
  none = unread-none c.args.header.now c.args.bytes.now c.args.count c.requires _ c.in_ok-no_fields.ensures
      (c.in-Err.ensures.unread (λ same. not_both c.eq.result c.if-eq.false (search (c.eq.ensures, same))));
}
