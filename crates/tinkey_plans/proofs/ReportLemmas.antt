-- The lengths of what a line tells.
use Rattle.std.proofs.Common.{◌≤◌, arith}
use Rattle.std.specs.Prelude.{length}
use Rattle.keyset_json.specs.Members.{name_of}
use Rattle.keyset_json.specs.declared.member.Member.{Member}
use Rattle.keyset_json.specs.declared.member.Member.TheVariants as members

pub name_short : (m : Member) → length (name_of m) ≤ 16
unfolding name_of
name_short members.Keyset = omega arith
name_short members.PrimaryKeyId = omega arith
name_short members.Key = omega arith
name_short members.KeyData = omega arith
name_short members.TypeUrl = omega arith
name_short members.Value = omega arith
name_short members.KeyMaterialType = omega arith
name_short members.Status = omega arith
name_short members.KeyId = omega arith
name_short members.OutputPrefixType = omega arith
