use Rattle.segment_stream.proofs.CipherLemmas.{cipher_of-is_cipher}
use Rattle.segment_stream.proofs.laws.schemes_are_ciphers.Goals as goal

pub returns : goal.returns
returns c = cipher_of-is_cipher
