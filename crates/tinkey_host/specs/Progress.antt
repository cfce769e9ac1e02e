-- A source that shows how much of it has been read.
use Rattle.tinkey_host.specs.declared.progress.Watched.{Watched}

-- the source beneath
abbrev pub watched : {S G : Type 0} → Watched S G → S
watched w = w.source
