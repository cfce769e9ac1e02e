use Rattle.std.proofs.Common.{append_assoc, append-nil}
use Rattle.keyset_json.specs.Members.{name_of}
use Rattle.tinkey_plans.proofs.diagnostic.push_path.Goals as goal

pub returns-in-Some-clause-text : goal.returns-in-Some-clause-text
returns-in-Some-clause-text c = rw (c.in-Some.is, c.push_number.ensures.text, c.push-in-Some.ensures, c.push-2.ensures, c.member_name.ensures.text, c.push.ensures) (simp append_assoc)

pub returns-in_default-clause-text : goal.returns-in_default-clause-text
returns-in_default-clause-text c = rw (c.in_default.is, append-nil (name_of c.args.path.member), c.push-2.ensures, c.member_name.ensures.text, c.push.ensures) (simp append_assoc)
