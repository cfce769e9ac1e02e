use Rattle.tinkey_readable.proofs.AnywhereLemmas.{dopens_anywhere, dopens_somehow_anywhere, opens_anywhere, opens_envelope_anywhere, opens_first_anywhere, opens_range_anywhere, opens_somehow_anywhere, opens_stream_anywhere, unwraps_anywhere, verifies_anywhere}
use Rattle.tinkey_readable.proofs.laws.kept_anywhere.Goals as goal

pub returns : goal.returns
returns c = record {
  opens = opens_anywhere c.sealings_fit.ensures.sealed c.read_keysets_fit.ensures c.kept_open.ensures;
  dopens = dopens_anywhere c.sealings_fit.ensures.dsealed c.fit_keysets_answer.ensures c.read_keysets_fit.ensures c.kept_dopen.ensures;
  opens_somehow = opens_somehow_anywhere c.sealings_fit.ensures.sealed c.read_keysets_fit.ensures c.kept_open_present.ensures;
  dopens_somehow = dopens_somehow_anywhere c.sealings_fit.ensures.dsealed c.fit_keysets_answer.ensures c.read_keysets_fit.ensures c.kept_dopen_present.ensures;
  verifies = verifies_anywhere c.fit_keysets_answer.ensures c.read_keysets_fit.ensures c.kept_tag.ensures;
  opens_stream = opens_stream_anywhere c.stream_back.ensures c.read_keysets_fit.ensures;
  opens_first_segment = opens_first_anywhere c.stream_back.ensures c.read_keysets_fit.ensures;
  opens_range = opens_range_anywhere c.stream_back.ensures c.range_is_slice.ensures c.read_keysets_fit.ensures;
  opens_envelope = opens_envelope_anywhere c.envelope_back.ensures c.envelopes_fit.ensures c.standard_data_keys.ensures.served c.read_keysets_fit.ensures;
  unwraps = unwraps_anywhere c.faultless_keysets.ensures c.forms_back.ensures.binary c.forms_back.ensures.json c.read_is_stored.ensures c.wrap_back_bytes.ensures;
}
