use Rattle.std.proofs.Common.{◌≡◌, length, refl}
use Rattle.std.specs.Prelude.{slice_index}
use Rattle.derivation.specs.Cuts.{AreMade, AreSeen, number_in}
use Rattle.derivation.proofs.Whole.{cut}
use Rattle.derivation.proofs.cutting.report_of.Goals as goal

pub returns : goal.returns
returns c =
    let lines = c.args.log.now.lines.items in
    let views = c.args.log.now.views.items in
    let numbers = c.in_ok-made.made.numbers.items in
    let places = c.in_ok-seen.seen.places.items in
    let made : AreMade c.args.subject.now lines c.in_ok-needed.needed.lines.items numbers c.in_ok-made.made.bodies.items (length lines) = rw (c.deref.ensures.value, c.deref-2.ensures.value) at c.in_ok-made.ensures in
    let seen : AreSeen lines views c.in_ok-needed.needed.views.items numbers places c.in_ok-seen.seen.views.items (length views) = rw (c.deref-3.ensures.value, c.deref-4.ensures.value, c.deref-5.ensures.value) at (c.in_ok-seen.ensures lines) in
    let view : c.number_of.result ≡ slice_index places c.args.exit.view = rw c.deref-6.ensures.value at c.number_of.ensures in
    let body : c.number_at.result ≡ number_in numbers c.args.exit.end = rw c.deref-7.ensures.value at c.number_at.ensures in
    cut c.args.subject.now c.args.violation lines views c.args.exit c.told.ensures _ _ c.in_ok-needed.ensures numbers places _ made seen refl refl refl refl view refl body
