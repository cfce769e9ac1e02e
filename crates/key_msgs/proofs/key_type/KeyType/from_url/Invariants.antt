use Rattle.std.proofs.Common.{◌≡◌, drop}
use Rattle.std.specs.Prelude.{find}
use Rattle.std.specs.Str.{bytes_eq}
use Rattle.key_msgs.specs.KeyTypes.{url_of_type, all_types, type_of_url}
use Rattle.key_msgs.proofs.key_type.KeyType.from_url.Given as goal

abbrev pub invariant-loop-key_type : goal.invariant-loop-key_type
invariant-loop-key_type l = type_of_url l.url ≡ find (λ type. bytes_eq (url_of_type type) l.url) (drop l.key_type-index all_types)
