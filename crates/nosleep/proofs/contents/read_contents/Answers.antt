use Rattle.std.proofs.Common.{rules, ◌∙◌, ap, map, refl, sym, subst, List, option_map, ◌+◌, ◌≡◌, Some, slice_get}
use Rattle.std.specs.List.{All}
use Rattle.std.proofs.lemmas.List.Elements.{All-push}
use Rattle.std.proofs.lemmas.Option.{slice_get-map, slice_get_read}
use Rattle.dex_file.specs.Content.{FileContent}
use Rattle.dex_file.specs.Sizes.{IsShort}
use Rattle.dex_file.proofs.Small.{content_short}
use Rattle.nosleep.specs.Files.{AreReadTo}
use Rattle.nosleep.proofs.ReadLaws.{one_more_read}
use Rattle.nosleep.proofs.contents.read_contents.Goals as goal

pub loop-i-preserved : goal.loop-i-preserved
loop-i-preserved c =
    let bytes = c.index-files-i.result.items in
    let files = map (λ v. v.items) c.args.files.now in
    let at = slice_get_read c.args.files.now _ c.loop-i.i c.index-files-i.result refl c.loop-i-test.true c.index-files-i.is in
    let there : slice_get files c.loop-i.i ≡ Some bytes = slice_get-map (λ v. v.items) c.args.files.now c.loop-i.i ∙ ap (λ o. option_map (λ v. v.items) o) at in
    let exact = rw c.deref.ensures.value at c.in-Ok.ensures.exact in
    let stands = rw c.deref.ensures.value at c.in-Ok.ensures.content in
    let len = c.requires.short c.loop-i.i c.index-files-i.result c.loop-i-test.true in
    let made = c.in_ok-push-in-Ok.ensures.items in
    let reads = one_more_read files c.loop-i.i c.loop-i.parts.items c.in-Ok.content c.loop-i.invariant.read (record { bytes = bytes; there = there; read = exact }) in
    let short = content_short bytes c.in-Ok.content stands (search rules) in
    record {
      read = subst (λ (xs : List FileContent). AreReadTo files (c.loop-i.i + 1) xs) (sym made) reads;
      short = subst (λ (xs : List FileContent). All IsShort xs) (sym made) (All-push IsShort c.loop-i.parts.items c.in-Ok.content c.loop-i.invariant.short short);
    }
