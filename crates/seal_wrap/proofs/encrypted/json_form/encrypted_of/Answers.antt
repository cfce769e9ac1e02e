use Rattle.std.proofs.Common.{◌∙◌, ◌≡◌, Some, None, true, false, sym, rules}
use Rattle.serde_json.specs.View.{view}
use Rattle.seal_wrap.proofs.JsonLemmas.{member_of_object, not_object}
use Rattle.seal_wrap.proofs.encrypted.json_form.encrypted_of.Goals as goal

pub returns-then-not-is_object-clause-refusal : goal.returns-then-not-is_object-clause-refusal
returns-then-not-is_object-clause-refusal c =
    let other : c.is_object.result ≡ false = search rules in
    not_object _ (sym c.is_object.ensures ∙ other)

pub returns-in-Some-clause-sealed : goal.returns-in-Some-clause-sealed
returns-in-Some-clause-sealed c =
    let one : c.is_object.result ≡ true = search rules in
    rw (member_of_object (view c.args.value.now) (Some (view c.in-Some.member.now)) (sym c.is_object.ensures ∙ one) (rw c.in-Some.is at c.encrypted_member.ensures)) c.member_bytes.ensures.sealed

pub returns-in-Some-clause-refusal : goal.returns-in-Some-clause-refusal
returns-in-Some-clause-refusal c =
    let one : c.is_object.result ≡ true = search rules in
    rw (member_of_object (view c.args.value.now) (Some (view c.in-Some.member.now)) (sym c.is_object.ensures ∙ one) (rw c.in-Some.is at c.encrypted_member.ensures)) c.member_bytes.ensures.refusal

pub returns-in-None-clause-sealed : goal.returns-in-None-clause-sealed
returns-in-None-clause-sealed c =
    let one : c.is_object.result ≡ true = search rules in
    rw (c.own.ensures, c.new.ensures.items) (member_of_object (view c.args.value.now) None (sym c.is_object.ensures ∙ one) (rw c.in-None.is at c.encrypted_member.ensures))
