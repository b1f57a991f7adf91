use Rattle.fields_values.proofs.NumberLemmas.{fits_less, fits_more}
use Rattle.fields_values.proofs.push.+fits.Goals as goal

pub returns : goal.returns
returns t c = (
  λ h. fits_more c.args.number c.args.size c.if-size-eq0.false (c.fits.ensures.0 h),
  λ h. c.fits.ensures.1 (fits_less c.args.number c.args.size c.if-size-eq0.false h),
)
