use Rattle.std.proofs.Common.{refl}
use Rattle.dir_store.proofs.LoadedBytes.{loaded_whole}
use Rattle.dir_store.proofs.folder.read_file.Goals as goal

pub returns-clause-whole : goal.returns-clause-whole
returns-clause-whole g c =
    loaded_whole (g.R.Read.remaining c.args.file) _ _ _ c.args.limit c.read_to_end-read.result c.loaded_of.result
    (rw (c.take-front.ensures.limit, c.take-front.ensures.inner) refl)
    c.new-bytes.ensures.items
    c.read_to_end-read.ensures.bytes
    c.loaded_of.ensures.loaded
    c.loaded_of.ensures.failed
