use Rattle.segment_stream.proofs.CipherLemmas.{cipher_of-is_cipher, ciphers_of-are_ciphers}
use Rattle.segment_stream.proofs.laws.keys_are_ciphers.Goals as goal

pub returns : goal.returns
returns c = λ ad those sound. (
  cipher_of-is_cipher ad those.primary sound.primary,
  ciphers_of-are_ciphers ad those.keys sound.keys,
)
