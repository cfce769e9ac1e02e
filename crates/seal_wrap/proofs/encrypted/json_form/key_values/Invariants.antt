use Rattle.std.proofs.Common.{◌≡◌, map, take}
use Rattle.serde_json.specs.View.{view}
use Rattle.seal_wrap.specs.Info.{key_info_of}
use Rattle.seal_wrap.specs.Wrapped.{key_info_value}
use Rattle.seal_wrap.proofs.encrypted.json_form.key_values.Given as goal

abbrev pub invariant-loop-i : goal.invariant-loop-i
invariant-loop-i l = map view l.values.items ≡ map key_info_value (map key_info_of (take l.i l.keyset.records))
