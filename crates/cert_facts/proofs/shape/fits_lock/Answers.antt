use Rattle.cert_facts.proofs.Fits.{fits_lock}
use Rattle.cert_facts.proofs.shape.fits_lock.Goals as goal

pub returns : goal.returns
returns c =
    fits_lock c.args.subject.now _ _ _ _ _ _ c.part.view_is c.requires (rw c.deref.ensures.value at (c.has_name.ensures.0 c.if-not-has_name.false))
    (rw c.deref-2.ensures.value at (c.fit_views.ensures.0 c.if-not-fit_views.false)) (rw c.deref-3.ensures.value at c.fit_bodies.ensures)
