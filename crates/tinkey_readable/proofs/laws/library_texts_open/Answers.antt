use Rattle.tinkey_readable.proofs.CallLemmas.{handles_are_made, handles_serve, wrapped_handles_are_made}
use Rattle.tinkey_readable.proofs.LibraryTextLemmas.{library_tags_verify, library_texts_dopen, library_texts_open}
use Rattle.tinkey_readable.proofs.laws.library_texts_open.Goals as goal

pub returns : goal.returns
returns c = record {
  opens = library_texts_open c.kept_open.ensures c.kept_anywhere.ensures.opens;
  dopens = library_texts_dopen c.kept_dopen.ensures c.kept_anywhere.ensures.dopens;
  verifies = library_tags_verify c.kept_tag.ensures c.kept_anywhere.ensures.verifies;
  made = handles_are_made;
  made_wrapped = wrapped_handles_are_made;
  serve = handles_serve;
}
