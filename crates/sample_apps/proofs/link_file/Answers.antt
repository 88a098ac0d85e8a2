use Rattle.dex_file.proofs.Small.{content_short}
use Rattle.sample_apps.proofs.link_file.Goals as goal

pub link_parts-requires : goal.link_parts-requires
link_parts-requires c = content_short c.args.bytes.now c.in-Ok.file c.in-Ok.ensures.content c.requires
