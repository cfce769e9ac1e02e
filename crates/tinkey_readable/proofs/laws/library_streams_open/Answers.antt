use Rattle.tinkey_readable.proofs.LibraryStreamLemmas.{library_streams_open, stream_handles_are_made, stream_handles_serve, wrapped_stream_handles_are_made}
use Rattle.tinkey_readable.proofs.laws.library_streams_open.Goals as goal

pub returns : goal.returns
returns c = record {
  opens = library_streams_open c.stream_back.ensures c.resealed_back.ensures c.range_is_slice.ensures c.decided_stays.ensures c.released_prefix.ensures c.read_keysets_fit.ensures;
  made = stream_handles_are_made;
  made_wrapped = wrapped_stream_handles_are_made;
  serve = stream_handles_serve;
}
