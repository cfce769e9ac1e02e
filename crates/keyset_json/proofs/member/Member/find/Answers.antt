use Rattle.std.proofs.Common.{◌≡◌, Option, Some, None, option_map, refl}
use Rattle.std.specs.Option.{option_or}
use Rattle.keyset_json.specs.Members.{member_of}
use Rattle.keyset_json.proofs.member.Member.find.Goals as goal

or_mapped : {A B : Type 0} (f : A → B) (a b : Option A) → option_map f (option_or a b) ≡ option_or (option_map f a) (option_map f b)
or_mapped f None b = refl
or_mapped f (Some x) b = refl

pub returns : goal.returns
unfolding member_of
returns c =
    rw (c.unless_null.ensures, c.or.ensures, or_mapped, c.get-named.ensures, c.get-by_field.ensures, c.name.ensures, c.field_name.ensures) refl
